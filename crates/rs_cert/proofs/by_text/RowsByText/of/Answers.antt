use Rattle.std.proofs.Common.{◌+◌, refl}
use Rattle.rs_cert.specs.ByText.{numbers_in}
use Rattle.rs_cert.proofs.ByTextFacts.{numbers-more}
use Rattle.rs_cert.proofs.by_text.RowsByText.of.Goals as goal

pub loop-index-preserved : goal.loop-index-preserved
loop-index-preserved c =
    numbers-more (numbers_in c.loop-index.numbers) (numbers_in c.add_number.new.numbers) c.args.rows.now c.loop-index.index (c.loop-index.index + 1) c.index-rows-index.result _ c.loop-index-test.true refl c.index-rows-index.is c.loop-index.invariant c.in_ok-add_number.ensures

-- Each step tries the operator for the next term.
use Rattle.std.proofs.Common.{◌≡◌, ◌∙◌, ◌+◌, sym, ap, subst, arith, length}
use Rattle.rs_query.specs.Blocks.{block_in}
use Rattle.rs_query.specs.declared.block.Block.{Block}
use Rattle.rs_sample.specs.Kept.{cards_of}
use Rattle.rs_enum.specs.Given.{IsTheFirstIn, block_above}
use Rattle.rs_enum.proofs.TopFacts.{top-cheaper, top-none, top-wider}
use Rattle.rs_enum.proofs.WholeFacts.{few-terms}
use Rattle.rs_enum.proofs.row.Row.first_rank.Goals as goal

pub loop-place-init : goal.loop-place-init
loop-place-init c = λ base tops are.
    top-none c.args.self.now.planning.catalog.now c.args.self.now.planning.query.now c.requires.row.planning.query (cards_of c.args.self.now.planning.cards.now)
    c.args.self.now.extent c.requires.row.topped base tops c.args.evaluated

pub loop-place-preserved : goal.loop-place-preserved
loop-place-preserved c = λ base tops are.
    subst (IsTheFirstIn c.args.self.now base tops c.args.evaluated (c.loop-place.place + 1 + 1)) (sym c.cheaper-best.ensures)
    (top-cheaper c.args.self.now.planning.catalog.now c.args.self.now.planning.query.now c.requires.row.planning.query (cards_of c.args.self.now.planning.cards.now)
    c.args.self.now.extent c.requires.row.topped base tops c.args.evaluated
    (c.loop-place.place + 1) c.loop-place.best c.rank.result (c.loop-place.invariant base tops are) (c.rank.ensures tops are base))

pub returns : goal.returns
returns c = λ base tops are.
    let few = few-terms c.args.self.now.planning.catalog.now c.args.self.now.planning.query.now c.requires.row.planning.query c.args.self.now.extent in
    let count : c.len-count.result ≡ length (block_above c.args.self.now).terms =
    c.len-count.ensures ∙ ap (λ (b : Block). length b.terms) (c.block_in.ensures ∙ ap (block_in c.args.self.now.planning.query.now) c.number_of.ensures) in
    let within = c.loop-place.auto.place-end in
    let done = c.loop-place-test.false in
    top-wider c.args.self.now.planning.catalog.now c.args.self.now.planning.query.now c.requires.row.planning.query (cards_of c.args.self.now.planning.cards.now)
    c.args.self.now.extent c.requires.row.topped base tops c.args.evaluated
    (c.loop-place.place + 1) c.loop-place.best (omega arith) (omega arith) (c.loop-place.invariant base tops are)

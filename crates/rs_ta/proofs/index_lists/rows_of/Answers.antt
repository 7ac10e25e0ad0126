-- Each index is one more, and in the end all are lists.
use Rattle.std.proofs.Common.{arith}
use Rattle.rs_ta.proofs.IndexListFacts.{listing-all, listing-more}
use Rattle.rs_ta.proofs.index_lists.rows_of.Goals as goal

pub loop-index-preserved : goal.loop-index-preserved
loop-index-preserved c = λ table of.
    listing-more c.args.catalog.now table c.args.indexes.now c.loop-index.index-index c.loop-index.rows c.len-rows.result c.index.result.now c.table.result.now
    c.loop-index-test.true of c.index.ensures.value c.index.ensures.ranking c.table.ensures c.len-rows.ensures.value (c.loop-index.invariant table of)

pub returns : goal.returns
returns c =
    listing-all c.args.catalog.now c.requires.table c.args.indexes.now c.loop-index.rows c.loop-index.index-index c.requires.some c.requires.few c.requires.each c.limits_hold.ensures.rows
    (omega arith) (c.loop-index.invariant c.requires.table c.requires.each)

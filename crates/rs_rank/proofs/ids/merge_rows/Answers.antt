-- One entry after another is that of the merge, and six are all.
use Rattle.std.proofs.Common.{◌<◌, ◌≤◌, arith, ◌∙◌}
use Rattle.std.proofs.lemmas.List.{length-set}
use Rattle.rs_rank.proofs.IdsFacts.{take-merge_rows, merged_all}
use Rattle.rs_rank.proofs.ids.merge_rows.Goals as goal

pub loop-entry-preserved : goal.loop-entry-preserved
loop-entry-preserved c =
    let before : c.loop-entry.entry < 6 = c.loop-entry-test.true in
    let rows = c.loop-entry.invariant.0 in
    let lefts = c.told-left in
    let rights = c.told-right in
    let step = take-merge_rows c.loop-entry.entry c.args.left.now c.args.right.now c.loop-entry.rows (omega arith) (omega arith) (omega arith) c.loop-entry.invariant.1 in
    (length-set c.loop-entry.rows c.loop-entry.entry c.merge_number.result ∙ rows, rw c.merge_number.ensures step)

pub returns : goal.returns
returns c =
    let rows = c.loop-entry.invariant.0 in
    let lefts = c.told-left in
    let rights = c.told-right in
    let end : 6 ≤ c.loop-entry.entry = c.loop-entry-test.false in
    merged_all c.loop-entry.entry c.args.left.now c.args.right.now c.loop-entry.rows (omega arith) (omega arith) (omega arith) c.loop-entry.invariant.1

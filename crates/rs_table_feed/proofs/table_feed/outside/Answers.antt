use Rattle.std.proofs.Common.{◌≡◌, ◌∙◌, ◌<◌, ◌≤◌, length, rules, sym, arith}
use Rattle.std.proofs.lemmas.Int.{to_z-of_z}
use mir.Val.{SFits}
use mir.Syntax.{w64}
use Rattle.rs_table_feed.proofs.TableFeedFacts.{outside-here, outside-next, outside-none}
use Rattle.rs_table_feed.proofs.table_feed.outside.Goals as goal

pub returns-then-not-is_score : goal.returns-then-not-is_score
returns-then-not-is_score c =
    let rows = c.args.table.now.rows in
    let small : SFits w64 c.number-got.result = search rules in
    let within : c.loop-index.index < length rows = omega (arith, c.loop-index-test.true, c.len-index-end.ensures.value) in
    simp to_z-of_z (outside-here rows c.loop-index.index c.loop-index.invariant c.number-got.result within c.number-got.ensures (sym (simp to_z-of_z at c.is_score.ensures) ∙ c.if-not-is_score.true))

pub loop-index-preserved : goal.loop-index-preserved
loop-index-preserved c =
    let rows = c.args.table.now.rows in
    let small : SFits w64 c.number-got.result = search rules in
    let within : c.loop-index.index < length rows = omega (arith, c.loop-index-test.true, c.len-index-end.ensures.value) in
    outside-next rows c.loop-index.index c.loop-index.invariant c.number-got.result within c.number-got.ensures (sym (simp to_z-of_z at c.is_score.ensures) ∙ c.if-not-is_score.false)

pub returns : goal.returns
returns c =
    let rows = c.args.table.now.rows in
    let past : length rows ≤ c.loop-index.index = omega (arith, c.loop-index-test.false, c.len-index-end.ensures.value) in
    outside-none rows c.loop-index.index c.loop-index.invariant past

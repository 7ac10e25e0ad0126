use Rattle.std.proofs.Common.{ℕ, List, ◌≡◌, ◌∙◌, ◌<◌, ◌+◌, [], Some, length, rules, sym, ap, subst, arith}
use Rattle.std.specs.Prelude.{slice_get, unwrap_or}
use Rattle.std.specs.Int.{w128}
use Rattle.std.proofs.lemmas.Int.{to_z-of_z}
use mir.Val.{SFits}
use mir.Syntax.{w64}
use Rattle.rs_value.specs.declared.value.Value.TheVariants.{Text}
use Rattle.rs_expr.specs.Scores.{is_score}
use Rattle.rs_feed.specs.declared.feed_row.FeedRow.{FeedRow}
use Rattle.rs_table_feed.specs.TableFeeds.{TableFeedState, feed_row_at, most_score, score_of}
use Rattle.rs_table_feed.proofs.TableFeedFacts.{back, cell-row, first-column, inside, next-within, row-made, within-none, within-some}
use Rattle.rs_table_feed.proofs.table_feed.TableFeed.next_row.Goals as goal

pub overflow_add-row : goal.overflow_add-row
overflow_add-row c = omega (arith, c.self.invariant.2, c.self.invariant.3)

pub text-requires-clause-texts : goal.text-requires-clause-texts
text-requires-clause-texts c = first-column c.self.inside.table.schema c.self.invariant.0

pub unreachable-requires : goal.unreachable-requires
unreachable-requires c =
    let rows = c.self.inside.table.rows in
    let given = c.self.inside.given in
    let number = c.number.result in
    let small : SFits w64 number = search rules in
    let wide : SFits w128 number = search rules in
    let is : number ≡ score_of rows given = c.number.ensures ∙ ap (score_of rows) (back given) in
    let within = next-within rows c.self.inside.draws given c.args.self.now c.self.view_is c.requires in
    within-none most_score number (simp to_z-of_z at c.in-None.ensures) (ap (is_score most_score) is ∙ inside 1 rows given c.self.invariant.1 within)

pub returns : goal.returns
returns c =
    let rows = c.self.inside.table.rows in
    let given = c.self.inside.given in
    let number = c.number.result in
    let text = c.text.result.now in
    let small : SFits w64 number = search rules in
    let wide : SFits w128 number = search rules in
    let is : number ≡ score_of rows given = c.number.ensures ∙ ap (score_of rows) (back given) in
    let within = next-within rows c.self.inside.draws given c.args.self.now c.self.view_is c.requires in
    let cell : slice_get (unwrap_or (slice_get rows given) []) 0 ≡ Some (Text text) =
    subst (λ p. slice_get (unwrap_or (slice_get rows p) []) 0 ≡ Some (Text text)) (back given) (cell-row c.self.inside.table (given + 1) 0 (Text text) c.text.ensures) in
    let P : TableFeedState → Type 0 = λ s. ◌≡◌ {A = FeedRow} (record { join = c.in_ok-join.join; score = c.in-Some.score }) (feed_row_at s.rows s.given) in
    let score = within-some most_score c.in-Some.score number (simp to_z-of_z at c.in-Some.ensures) in
    subst P c.self.view_is (ap (λ (t : List ℕ). record { join = t; score = c.in-Some.score }) c.in_ok-join.ensures ∙ sym (row-made rows given c.in-Some.score text number within cell is score))

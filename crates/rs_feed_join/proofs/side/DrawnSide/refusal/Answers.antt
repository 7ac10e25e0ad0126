-- The number of rows is looked at before their order.
use Rattle.std.proofs.Common.{◌∙◌, ◌-◌, List, length, slice_get, ap, sym, arith}
use Rattle.std.proofs.lemmas.Bool.Decides.{nat_tests}
use Rattle.std.specs.Option.{option_copied}
use Rattle.rs_feed.specs.declared.feed_row.FeedRow.{FeedRow}
use Rattle.rs_feed_join.proofs.CallFacts.{last-at, refusal-none, refusal-order}
use Rattle.rs_feed_join.proofs.side.DrawnSide.refusal.Goals as goal

pub returns-then-last-score-clause-value : goal.returns-then-last-score-clause-value
returns-then-last-score-clause-value c =
    refusal-none c.args.side c.args.self.now.rows.items c.args.score c.in-Some.last.now (grind (arith, nat_tests)) (sym (last-at c.args.self.now.rows.items) ∙ ap (λ (rows : List FeedRow). slice_get rows (length rows - 1)) (sym c.deref.ensures.value) ∙ sym c.last.ensures.value ∙ ap option_copied c.in-Some.is) c.if-last-score.true

pub returns-clause-value : goal.returns-clause-value
returns-clause-value c =
    refusal-order c.args.side c.args.self.now.rows.items c.args.score _ c.in-Some.last.now (grind (arith, nat_tests)) (sym (last-at c.args.self.now.rows.items) ∙ ap (λ (rows : List FeedRow). slice_get rows (length rows - 1)) (sym c.deref.ensures.value) ∙ sym c.last.ensures.value ∙ ap option_copied c.in-Some.is) c.if-last-score.false (omega arith)

-- The rows are in order, so those at or before this one stand together in front.
use Rattle.std.proofs.Common.{true, false, not, ◌≡◌, rules, of_calls}
use Rattle.std.specs.Ordering.{is_gt}
use Rattle.std.proofs.lemmas.Bool.{not-false, not-true}
use Rattle.std.proofs.lemmas.Fn.{always_returns_same}
use Rattle.rs_order.proofs.EachFacts.{each-weaker}
use Rattle.rs_rank.specs.Keys.{key_cmp}
use Rattle.rs_rank.specs.declared.row.RankRow.{RankRow}
use Rattle.rs_rank.proofs.OrderFacts.{key_cmp-total}
use Rattle.rs_view.specs.Keeping.{key_of_row}
use Rattle.rs_view.proofs.MergedFacts.{each-from, each-within, partitioned}
use Rattle.rs_view.proofs.merge.place_of.Goals as goal

pub returns : goal.returns
returns c =
    let behind = λ (other : RankRow). is_gt (key_cmp (key_of_row other) (key_of_row c.args.row.now)) in
    let front = λ (other : RankRow). not (behind other) in
    let rows = c.args.rows.now in
    let place = c.partition_point.result in
    let key = always_returns_same _ _ _ (λ a r f k. search (rules, of_calls)) in
    let point = c.partition_point.ensures.partitioned front key (partitioned key_cmp key_of_row key_cmp-total rows c.args.row.now c.requires) in
    record {
      within = c.partition_point.ensures.bound;
      front = each-weaker (λ other. front other ≡ true) (λ other. behind other ≡ false) (λ other h. not-true (behind other) h) _ (each-within (λ other. front other ≡ true) place rows point.0);
      behind = each-weaker (λ other. front other ≡ false) (λ other. behind other ≡ true) (λ other h. not-false (behind other) h) _ (each-from (λ other. front other ≡ false) place rows point.1);
    }

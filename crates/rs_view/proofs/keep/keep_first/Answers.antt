-- The new rows are sorted by keys, and so is the merge of them and those of before.
use Rattle.std.proofs.Common.{◌++◌, rules}
use Rattle.std.specs.List.Sorted.{IsSortedByKey}
use Rattle.std.proofs.lemmas.List.Sorted.{IsPermutation-append_right, IsPermutation-trans, answers_always}
use Rattle.rs_order.specs.Merging.{merged}
use Rattle.rs_rank.specs.Keys.{key_cmp}
use Rattle.rs_rank.proofs.OrderFacts.{key_cmp-total}
use Rattle.rs_view.specs.Keeping.{key_of_row}
use Rattle.rs_view.proofs.MergedFacts.{IsPermutation-merged, sorted-merged}
use Rattle.rs_view.proofs.keep.keep_first.Goals as goal

pub returns-clause-ok : goal.returns-clause-ok
returns-clause-ok c =
    let rows = c.args.rows.now.items in
    let more = c.args.more.items in
    let ordered = c.sort_unstable_by_key.new.self.items in
    let by_key : IsSortedByKey key_of_row key_cmp ordered = c.sort_unstable_by_key.ensures.sorted key_of_row (answers_always _ _ _ (λ f a r f' k. search rules)) in
    record {
      ordered = c.merge_in.new.rows.items;
      moved = rw c.in_ok-merge_in.ensures.ok (IsPermutation-trans (rows ++ more) (rows ++ ordered) (merged key_cmp key_of_row rows ordered)
          (IsPermutation-append_right rows more ordered c.sort_unstable_by_key.ensures.permutation)
          (IsPermutation-merged key_cmp key_of_row rows ordered));
      sorted = rw c.in_ok-merge_in.ensures.ok (sorted-merged key_cmp key_of_row key_cmp-total rows ordered c.requires.sorted by_key);
      first = c.truncate.ensures.items;
    }

use Rattle.std.proofs.Common.{ℕ, ◌≡◌, ◌≤◌, ◌<◌, ◌+◌, ◌*◌, ◌^◌, [], Some, get_or, length, nat_le}
use Rattle.std.specs.Int.{div_ceil}
use Rattle.std.specs.List.{filter}
use Rattle.std.specs.Prelude.{slice_get}
use Rattle.rs_rank.specs.Weights.{rest}
use Rattle.rs_query.specs.Answers.{weights_of}
use Rattle.rs_query.specs.declared.term.Term.{Term}
use Rattle.rs_sample.specs.Quotients.{most_expected, product_inside}
use Rattle.rs_sample.proofs.index.index_estimates.Given as goal

-- the first terms have their numbers
abbrev pub invariant-loop-place : goal.invariant-loop-place
invariant-loop-place l = record {
  count : length l.numbers.items ≡ l.place;
  value : (k : ℕ) (t : Term) → k < l.place → slice_get l.block.terms k ≡ Some t → get_or l.numbers.items k 0
      ≡ div_ceil (length (filter (λ worth. nat_le l.cutoff (t.weight * worth + rest (weights_of l.block) (2 ^ k))) (get_or l.worths k []))
      * product_inside t.entries l.sizes) (product_inside t.entries l.sampled);
  limit : (k : ℕ) (t : Term) → k < l.place → slice_get l.block.terms k ≡ Some t → get_or l.numbers.items k 0 ≤ most_expected t.entries;
}

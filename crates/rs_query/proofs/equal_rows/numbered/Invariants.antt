-- The keys so far have their numbers in front.
use Rattle.std.proofs.Common.{ℕ, ◌≡◌, Some, length, unwrap_or}
use Rattle.std.specs.Prelude.{slice_get}
use Rattle.rs_query.proofs.equal_rows.numbered.Given as goal

abbrev pub invariant-loop-place : goal.invariant-loop-place
invariant-loop-place g l = record {
  sized : length l.pairs.items ≡ l.place;
  pairs : (place : ℕ) (pair : ℕ × g.row.K.Denot) → slice_get l.pairs.items place ≡ Some pair
      → (slice_get l.keys place ≡ Some pair.1) × (unwrap_or (slice_get l.numbers place) 0 ≡ pair.0);
}

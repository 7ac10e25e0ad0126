-- The keys so far have their rows.
use Rattle.std.proofs.Common.{ℕ, ◌≡◌, ◌<◌, Some, length, unwrap_or}
use Rattle.std.specs.BTreeMap.{get}
use Rattle.std.specs.Prelude.{slice_get}
use Rattle.rs_query.proofs.equal_rows.first_rows.Given as goal

abbrev pub invariant-loop-key : goal.invariant-loop-key
invariant-loop-key g l = record {
  sized : length l.first.items ≡ l.key-index;
  rows : (place : ℕ) (key : g.row.K.Denot) → place < l.key-index → slice_get l.keys place ≡ Some key
      → unwrap_or (slice_get l.first.items place) 0 ≡ unwrap_or (get g.K.Ord.cmp l.firsts key) 0;
}

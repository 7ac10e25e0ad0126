-- The steps so far lead to the entries in the mask, and the next entry is a new one, or there is none.
use Rattle.std.proofs.Common.{ℕ, ◌≡◌, ◌-◌, ◌<◌, ◌≤◌, ◌^◌, ◌⊎◌, true, false, [], length, Some}
use Rattle.std.specs.List.{AllByRecursion}
use Rattle.std.specs.Prelude.{IfNone, IfSome}
use Rattle.rs_rank.specs.Masks.{has_number}
use Rattle.rs_query.specs.Pieces.{BeginsAt}
use Rattle.rs_query.specs.Searching.{AreSteps, IsRanged}
use Rattle.rs_query.proofs.block.Block.steps.Given as goal

abbrev pub invariant-loop-next : goal.invariant-loop-next
invariant-loop-next l = record {
  steps : AreSteps l.catalog l.self 0 l.mask l.steps.items;
  ranges : AllByRecursion (IsRanged l.catalog l.self l.old l.pivot) l.steps.items;
  below : l.mask < 2 ^ length l.self.from;
  begun : (l.mask ≡ 0) ⊎ (has_number l.mask l.pivot ≡ true);
  leads : ((l.mask ≡ 0) × (l.steps.items ≡ [])) ⊎ BeginsAt l.pivot l.steps.items;
  first : l.mask ≡ 0 → l.next ≡ Some l.pivot;
  some : IfSome l.next (λ entry. (1 ≤ entry) × (entry ≤ length l.self.from) × (has_number l.mask entry ≡ false));
  none : IfNone l.next ((entry : ℕ) → 1 ≤ entry → entry ≤ length l.self.from → has_number l.mask entry ≡ true);
}

abbrev pub decreases-loop-next : goal.decreases-loop-next
decreases-loop-next l = 2 ^ length l.self.from - l.mask

-- Each entry so far is in the mask, or one that isn't is kept.
use Rattle.std.proofs.Common.{ℕ, ◌≡◌, ◌≤◌, true, false, length}
use Rattle.std.specs.Prelude.{IfNone, IfSome}
use Rattle.rs_rank.specs.Masks.{has_number}
use Rattle.rs_query.proofs.block.Block.next_entry.Given as goal

abbrev pub invariant-loop-place : goal.invariant-loop-place
invariant-loop-place l = record {
  some : IfSome l.free (λ entry. (1 ≤ entry) × (entry ≤ length l.self.from) × (has_number l.mask entry ≡ false));
  none : IfNone l.free ((entry : ℕ) → 1 ≤ entry → entry ≤ l.place → has_number l.mask entry ≡ true);
}

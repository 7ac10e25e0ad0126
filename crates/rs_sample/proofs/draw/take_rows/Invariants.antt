use Rattle.std.proofs.Common.{ℕ, suc, ◌≡◌, ◌≤◌, ◌+◌, ◌-◌}
use Rattle.rand_core.specs.Steps.{first_words}
use Rattle.rand_pcg.specs.Pcg.{pcg32}
use Rattle.rs_sample.specs.Taking.{taken_from}
use Rattle.rs_sample.proofs.TakeFacts.{taken_behind}
use Rattle.rs_sample.proofs.draw.take_rows.Given as goal

-- the rows that were taken, and those that are taken of the rows still to see, are the whole
abbrev pub invariant-loop-missing : goal.invariant-loop-missing
invariant-loop-missing l = record {
  room : l.seen + l.missing ≤ l.size;
  along : (count : ℕ) → l.size ≤ count → taken_from 1 l.size l.needed (first_words pcg32 count l.fn.words)
      ≡ taken_behind l.taken.items (taken_from (suc l.seen) (l.size - l.seen) l.missing (first_words pcg32 (count - l.seen) l.words));
}

abbrev pub decreases-loop-missing : goal.decreases-loop-missing
decreases-loop-missing l = l.size - l.seen

use Rattle.std.proofs.Common.{◌≡◌, ◌++◌, List, ℕ, length}
use Rattle.std.specs.Io.KnownBytes.{Appends}
use Rattle.rs_outside.proofs.out_sink.write_whole.Given as goal

-- some bytes were written, and the rest is left
abbrev pub invariant-loop-rest : goal.invariant-loop-rest
invariant-loop-rest g l =
    (part : List ℕ) × (l.bytes ≡ part ++ l.rest) × Appends (g.W.Write.contents l.initial.to) (g.W.Write.contents l.to) part

abbrev pub decreases-loop-rest : goal.decreases-loop-rest
decreases-loop-rest g l = length l.rest

use Rattle.std.proofs.Common.{◌≡◌, ◌-◌, length}
use Rattle.rs_lex.specs.Front.{closed_length}
use Rattle.rs_lex.proofs.FrontFacts.{closed_from}
use Rattle.rs_lex.proofs.front.closed_length.Given as goal

-- what closes the rest, counted from the first byte on, closes the text
abbrev pub invariant-loop-at : goal.invariant-loop-at
invariant-loop-at l = closed_from l.mark l.at l.bytes ≡ closed_length l.mark l.bytes

abbrev pub decreases-loop-at : goal.decreases-loop-at
decreases-loop-at l = length l.bytes - l.at

use Rattle.std.proofs.Common.{◌≡◌, ◌++◌, length}
use Rattle.rs_grammar.specs.Lexemes.{undoubled}
use Rattle.rs_grammar.proofs.lexeme.undouble.Given as goal

-- what is made, and what the rest makes, are what the bytes make
abbrev pub invariant-loop-bytes : goal.invariant-loop-bytes
invariant-loop-bytes l = l.made.items ++ undoubled l.mark l.bytes ≡ undoubled l.mark l.initial.bytes

abbrev pub decreases-loop-bytes : goal.decreases-loop-bytes
decreases-loop-bytes l = length l.bytes

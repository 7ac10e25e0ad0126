use Rattle.std.proofs.Common.{◌-◌, ◌≤◌, ◌++◌, List, length, drop}
use Rattle.rs_lex.specs.Spelling.{Spells, RefusesBytes}
use Rattle.rs_lex.specs.declared.token.Token.{Token}
use Rattle.rs_lex.specs.declared.fault.LexFault.{LexFault}
use Rattle.rs_lex.proofs.lexer.tokens.Given as goal

abbrev pub invariant-loop-made : goal.invariant-loop-made
invariant-loop-made l = record {
  within : l.at ≤ length l.bytes;
  few : length l.made.items ≤ 100000;
  spelled : (tokens : List Token) → Spells l.at (drop l.at l.bytes) tokens → Spells 0 l.bytes (l.made.items ++ tokens);
  refused : (fault : LexFault) → RefusesBytes (length l.made.items) l.at (drop l.at l.bytes) fault → RefusesBytes 0 0 l.bytes fault;
}

abbrev pub decreases-loop-made : goal.decreases-loop-made
decreases-loop-made l = length l.bytes - l.at

use Rattle.std.proofs.Common.{◌-◌, ◌≤◌, List, length, drop}
use Rattle.rs_lex.specs.Spelling.{Spells, RefusesBytes}
use Rattle.rs_lex.specs.declared.token.Token.{Token}
use Rattle.rs_lex.specs.declared.fault.LexFault.{LexFault}
use Rattle.rs_lex.proofs.lexer.next_token.Given as goal

abbrev pub invariant-loop-n : goal.invariant-loop-n
invariant-loop-n l = record {
  within : l.at ≤ length l.bytes;
  from : l.fn.at ≤ l.at;
  spelled : (tokens : List Token) → Spells l.at (drop l.at l.bytes) tokens → Spells l.fn.at (drop l.fn.at l.bytes) tokens;
  refused : (fault : LexFault) → RefusesBytes l.count l.at (drop l.at l.bytes) fault → RefusesBytes l.count l.fn.at (drop l.fn.at l.bytes) fault;
}

abbrev pub decreases-loop-n : goal.decreases-loop-n
decreases-loop-n l = length l.bytes - l.at

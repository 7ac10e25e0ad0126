use Rattle.std.proofs.Common.{◌≡◌, ◌<◌, take}
use Rattle.rs_grammar.specs.Places.{statements_ended, most_statements, IsWithinStatements}
use Rattle.rs_syntax.proofs.script.statements_end.Given as goal

abbrev pub invariant-loop-index : goal.invariant-loop-index
invariant-loop-index l = record {
  count : l.ended ≡ statements_ended (take l.index l.lexemes);
  few : l.ended < most_statements;
  within : IsWithinStatements (take l.index l.lexemes);
}

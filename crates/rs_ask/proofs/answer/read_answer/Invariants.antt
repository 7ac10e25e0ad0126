use Rattle.std.proofs.Common.{◌≡◌, length, take}
use Rattle.std.specs.Io.KnownBytes.{Consumes}
use Rattle.rs_value.specs.Outside.{Keeps}
use Rattle.rs_ask.proofs.AnswerFacts.{HasNoEnd}
use Rattle.rs_ask.proofs.answer.read_answer.Given as goal

abbrev pub invariant-loop-len : goal.invariant-loop-len
invariant-loop-len g l = record {
  whole : length l.line ≡ 64;
  one : HasNoEnd (take l.len l.line);
  consumed : Consumes (g.A.Answers.state l.fn.answers).told (g.A.Answers.state l.answers).told (take l.len l.line);
  keeps : Keeps (g.A.Answers.state l.fn.answers) (g.A.Answers.state l.answers);
}

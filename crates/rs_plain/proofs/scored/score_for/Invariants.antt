use Rattle.std.proofs.Common.{◌≡◌, ◌≤◌, ◌+◌, ◌*◌, map, take, drop}
use Rattle.rs_query.specs.Answers.{score_of}
use Rattle.rs_query.specs.Questions.{question_of}
use Rattle.rs_query.proofs.QuestionFacts.{AllAsked}
use Rattle.rs_plain.proofs.scored.score_for.Given as goal

-- the first terms were asked, and their worths times their weights are in the score
abbrev pub invariant-loop-index : goal.invariant-loop-index
invariant-loop-index g l = record {
  asked : AllAsked (g.S.Scorer.state l.fn.scorer).answer l.catalog (map (question_of l.ids.block l.block l.ids.rows) (take l.index l.block.terms))
      (g.S.Scorer.state l.fn.scorer) (g.S.Scorer.state l.scorer);
  sum : l.score + score_of (g.S.Scorer.state l.fn.scorer).answer l.catalog l.block l.ids.rows (drop l.index l.block.terms)
      ≡ score_of (g.S.Scorer.state l.fn.scorer).answer l.catalog l.block l.ids.rows l.block.terms;
  bound : l.score ≤ l.index * 4294967295000000;
}

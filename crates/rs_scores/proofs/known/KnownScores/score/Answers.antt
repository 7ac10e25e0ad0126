use Rattle.std.proofs.Common.{◌∙◌, ap}
use Rattle.std.specs.Map.{lookup}
use Rattle.rs_scores.specs.Known.{Known}
use Rattle.rs_scores.specs.Questions.{is_same_question}
use Rattle.rs_scores.proofs.QuestionFacts.{lookup-question}
use Rattle.rs_scores.proofs.known.KnownScores.score.Goals as goal

pub returns : goal.returns
returns c =
    c.copied.ensures ∙ c.get.ensures.value
    ∙ lookup-question c.args.question.now c.self.inside.scores.entries
    ∙ ap (λ (known : Known). lookup (is_same_question c.args.question.now) known.scores) c.self.view_is

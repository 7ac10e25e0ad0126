use Rattle.std.proofs.Common.{◌≡◌, ℤ, ap, is_some, of_z, subst, sym, to_z, ◌∙◌}
use Rattle.std.specs.Int.{w64}
use Rattle.std.specs.Map.{lookup}
use Rattle.std.proofs.lemmas.Int.{to_z-of_z}
use Rattle.rs_scores.specs.Known.{Known, score_with}
use Rattle.rs_scores.specs.Questions.{is_same_question}
use Rattle.rs_scores.proofs.KnownFacts.{length-added, score_with-added, score_with-known}
use Rattle.rs_scores.proofs.known.KnownScores.add.Goals as goal

pub returns-then-is_some-clause-scores : goal.returns-then-is_some-clause-scores
returns-then-is_some-clause-scores c = λ other.
    score_with-known c.args.question other c.args.score c.args.self.now (ap is_some (sym c.score.ensures) ∙ sym c.is_some.ensures ∙ c.if-is_some.true)

pub returns-clause-scores : goal.returns-clause-scores
returns-clause-scores c = λ other.
    subst (λ (score : ℤ). lookup (is_same_question other) c.insert.new.self.entries ≡ score_with c.args.question score c.args.self.now other) (to_z-of_z w64 c.args.score c.ranges.score)
    (score_with-added c.args.question other (to_z w64 (of_z w64 c.args.score)) c.args.self.now c.self.inside.scores c.insert.new.self
    (ap (λ (known : Known). known.scores) c.self.view_is)
    (ap is_some (sym c.score.ensures) ∙ sym c.is_some.ensures ∙ c.if-is_some.false) c.in_ok-insert.ensures.updates.0)

pub returns-clause-count : goal.returns-clause-count
returns-clause-count c =
    length-added c.args.question c.args.self.now c.self.inside.scores c.insert.new.self c.in_ok-insert.field-0
    (ap (λ (known : Known). known.scores) c.self.view_is)
    (ap is_some (sym c.score.ensures) ∙ sym c.is_some.ensures ∙ c.if-is_some.false) c.in_ok-insert.ensures.old c.in_ok-insert.ensures.len

-- Scores of questions that had none.
use Rattle.std.proofs.Common.{◌≡◌, ℕ, ℤ, true, false, inl, inr, List, [], ◌∷◌, ◌++◌, Some, None, cond, sym, ap, ◌∙◌, subst, arith, append_assoc, refl}
use Rattle.std.specs.List.{All}
use Rattle.std.specs.Prelude.{find, option_map}
use Rattle.std.proofs.lemmas.Bool.{cases_Bool}
use Rattle.std.proofs.lemmas.List.Elements.{All-cons}
use Rattle.rs_expr.specs.declared.scorer.Call.{Call}
use Rattle.rs_scores.specs.Kept.{AreNew}
use Rattle.rs_scores.specs.Known.{Known, is_asked, score_of}
use Rattle.rs_scores.specs.Questions.{is_same_question, question_of}
use Rattle.rs_scores.specs.Reading.{Knows, score_in}
use Rattle.rs_scores.specs.TableScorer.{missing_for}
use Rattle.rs_scores.specs.declared.known_score.KnownScore.{KnownScore}
use Rattle.rs_scores.proofs.QuestionFacts.{same_question-itself}
use Rattle.rs_scores.proofs.ReadingFacts.{score_in-push}

-- a score stays where more are added
score_in-stays : (question : List (List ℕ)) (scores more : List KnownScore) (score : ℤ) → score_in question scores ≡ Some score → score_in question (scores ++ more) ≡ Some score
score_in-stays question [] more score e = cc e
score_in-stays question (first ∷ rest) more score e =
    (elim (is_same_question first.question question) as (λ b. option_map (λ (known : KnownScore). known.score) (cond b (Some first) (find (λ known. is_same_question known.question question) rest)) ≡ Some score
    → option_map (λ (known : KnownScore). known.score) (cond b (Some first) (find (λ known. is_same_question known.question question) (rest ++ more))) ≡ Some score) [
      | true ↦ λ here. here
      | false ↦ λ later. score_in-stays question rest more score later
    ]) e

-- a new score is there
score_in-new : (before : List KnownScore) (entry : KnownScore) → score_in entry.question before ≡ None → score_in entry.question (before ++ entry ∷ []) ≡ Some entry.score
score_in-new before entry none = score_in-push entry.question before entry ∙ rw (none, same_question-itself entry.question) refl

-- and so is each of many
scores_in-new : (before entries : List KnownScore) → AreNew before entries → All (λ entry. score_in entry.question (before ++ entries) ≡ Some entry.score) entries
scores_in-new before [] new = λ k d below. absurd (omega (arith, below))
scores_in-new before (entry ∷ rest) new =
    All-cons (λ (e : KnownScore). score_in e.question (before ++ entry ∷ rest) ≡ Some e.score) entry rest
    (ap (score_in entry.question) (sym (append_assoc before (entry ∷ []) rest)) ∙ score_in-stays entry.question (before ++ entry ∷ []) rest entry.score (score_in-new before entry new.0))
    (subst (λ (all : List KnownScore). All (λ (e : KnownScore). score_in e.question all ≡ Some e.score) rest) (append_assoc before (entry ∷ []) rest)
    (scores_in-new (before ++ entry ∷ []) rest new.1))

-- a call whose score is known misses none
known-not_missing : (known : Known) (call : Call) (score : ℤ) → score_of (question_of call) known ≡ Some score → missing_for known call ≡ None
known-not_missing known call score is = elim (cases_Bool (is_asked known.names call.predicate)) [
  | inl asked ↦ rw (asked, is) refl
  | inr not ↦ rw not refl
]

pub never-missing : (names : List (List ℕ)) (before entries : List KnownScore) (known : Known) → AreNew before entries → Knows names (before ++ entries) known
    → All (λ entry. (call : Call) → question_of call ≡ entry.question → missing_for known call ≡ None) entries
never-missing names before entries known new knows = λ k d below call same.
    known-not_missing known call _ (ap (λ question. score_of question known) same ∙ knows.each _ ∙ scores_in-new before entries new k d below)

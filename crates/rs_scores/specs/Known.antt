-- Scores that are known, and the predicates that are asked for outside.
use Rattle.std.specs.Prelude.{ℕ, ℤ, Bool, List, Option, Some, None, if◌then◌else◌}
use Rattle.std.specs.List.{list_any}
use Rattle.std.specs.Map.{lookup}
use Rattle.std.specs.Str.{bytes_eq}
use Rattle.rs_scores.specs.Questions.{is_same_question}

-- the names of the predicates that are asked for, and the questions whose score is known, each with it
pub record Known : Type 0 where
  pub names : List (List ℕ)
  pub scores : List (List (List ℕ) × ℤ)

-- whether a predicate of this name is asked for
abbrev pub is_asked : List (List ℕ) → List ℕ → Bool
is_asked names name = list_any (λ asked. bytes_eq asked name) names

-- the score of a question, where it is known
abbrev pub score_of : List (List ℕ) → Known → Option ℤ
score_of question known = lookup (is_same_question question) known.scores

-- the score of a question when this one has this score too, where it had none
abbrev pub score_with : List (List ℕ) → ℤ → Known → List (List ℕ) → Option ℤ
score_with question score known other = stays (score_of other known) where
  stays : Option ℤ → Option ℤ
  stays (Some first) = Some first
  stays None = if is_same_question question other then Some score else None

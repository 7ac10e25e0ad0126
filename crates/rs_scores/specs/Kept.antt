-- Scores that can be written to a file of known scores, and read back.
use Rattle.std.specs.Prelude.{ℕ, ◌≡◌, ◌≤◌, true, List, [], ◌∷◌, ◌++◌, length, nat_abs, None, slice_index_or}
use Rattle.std.specs.List.{All}
use Rattle.std.specs.Str.{is_utf8}
use Rattle.rs_value.specs.Number.{greatest_int}
use Rattle.rs_scores.specs.Known.{is_asked}
use Rattle.rs_scores.specs.Reading.{score_in}
use Rattle.rs_scores.specs.declared.known_score.KnownScore.{KnownScore}

-- a score of a predicate that is asked for, for 1 to 8 arguments; its texts are UTF-8, and the score is in the range of numbers
pub record CanBeKept (names : List (List ℕ)) (entry : KnownScore) : Type 0 where
  pub asked : is_asked names (slice_index_or entry.question 0 []) ≡ true
  pub some : 2 ≤ length entry.question
  pub few : length entry.question ≤ 9
  pub utf8 : All (λ field. is_utf8 field ≡ true) entry.question
  pub in_range : nat_abs entry.score ≤ greatest_int

-- none of these scores is of a question that an earlier one of them or one of those before has
abbrev pub AreNew : List KnownScore → List KnownScore → Type 0
AreNew before [] = Unit {0}
AreNew before (entry ∷ rest) = (score_in entry.question before ≡ None) × AreNew (before ++ entry ∷ []) rest

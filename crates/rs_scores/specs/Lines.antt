-- The lines that questions and known scores are written as.
use Rattle.std.specs.Prelude.{ℕ, List, [], ◌∷◌, ◌++◌, map}
use Rattle.std.specs.Fmt.{signed_decimal}
use Rattle.csv.specs.Writing.{default_writer, row_text}
use Rattle.rs_scores.specs.declared.known_score.KnownScore.{KnownScore}

-- the line of a question: one record of comma-separated fields, and a line feed
abbrev pub question_line : List (List ℕ) → List ℕ
question_line question = row_text default_writer question

-- the line of a known score: the fields of its question, and the score
abbrev pub known_line : KnownScore → List ℕ
known_line known = row_text default_writer (known.question ++ signed_decimal known.score ∷ [])

-- the lines of these questions, and with their scores
abbrev pub question_lines : List KnownScore → List (List ℕ)
question_lines entries = map (λ entry. question_line entry.question) entries

abbrev pub known_lines : List KnownScore → List (List ℕ)
known_lines entries = map known_line entries

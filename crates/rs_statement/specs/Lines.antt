-- What is printed of the rows of an answer.
use Rattle.std.specs.Prelude.{ℕ, ◌≡◌, ◌+◌, List, [], ◌∷◌, ◌++◌}
use Rattle.rs_lines.specs.Row.{line_of}
use Rattle.rs_rank.specs.declared.answer.Answer.{Answer}

-- the lines of rows, from this rank on
abbrev pub rank_lines : ℕ → List Answer → List (List ℕ)
rank_lines rank [] = []
rank_lines rank (row ∷ rest) = line_of rank row.score row.values ∷ rank_lines (rank + 1) rest

-- these lines come first among those
pub record ComeFirst (part whole : List (List ℕ)) : Type 0 where
  pub rest : List (List ℕ)
  pub split : whole ≡ part ++ rest

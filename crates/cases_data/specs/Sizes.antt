-- The words of a work.
use Rattle.std.specs.Prelude.{ℕ, List, Option, Some, None}
use Rattle.rs_value.specs.Number.{decimal_value}
use Rattle.cases_lines.specs.Words.{behind_word, word_of}

-- the greatest number of pairs, and of operations
abbrev pub most : ℕ
most = 1000000

abbrev pub both : Option ℕ → Option ℕ → Option (ℕ × ℕ)
both None second = None
both (Some first) None = None
both (Some first) (Some second) = Some (first, second)

-- two decimal numbers, with one space between
abbrev pub sizes_of : List ℕ → Option (ℕ × ℕ)
sizes_of words = both (decimal_value most (word_of words)) (decimal_value most (behind_word words))

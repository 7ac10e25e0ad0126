-- Going on in an index behind an entry, where rows may have joined since.
use Rattle.std.specs.Prelude.{ℕ, nat_le, nat_lt, ◌==◌, ◌&&◌, ◌||◌, Bool, true, List, Option, Some, None, option_map, slice_get}
use Rattle.std.specs.List.{filter}
use Rattle.rs_rank.specs.declared.scored_row.ScoredRow.{ScoredRow}

-- the entries of an index whose rows are among the first so many
abbrev pub entries_within : ℕ → List ScoredRow → List ScoredRow
entries_within rows ranking = filter (λ e. nat_le e.row rows) ranking

-- an entry comes behind this score and row: its score is less, or the same and its row is a later one; each comes behind none
abbrev pub is_behind : Option (ℕ × ℕ) → ScoredRow → Bool
is_behind None entry = true
is_behind (Some after) entry = nat_lt entry.score after.0 || (entry.score == after.0 && nat_lt after.1 entry.row)

-- the score and the row of the first entry
abbrev pub first_entry : List ScoredRow → Option (ℕ × ℕ)
first_entry entries = option_map (λ e. (e.score, e.row)) (slice_get entries 0)

-- the score and the row of the first entry behind, of those whose rows are among the first so many
abbrev pub entry_after : Option (ℕ × ℕ) → ℕ → List ScoredRow → Option (ℕ × ℕ)
entry_after after rows ranking = first_entry (filter (is_behind after) (entries_within rows ranking))

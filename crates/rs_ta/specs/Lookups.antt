-- What looking a row up does to the counts of random accesses.
use Rattle.std.specs.Prelude.{ℕ, ◌≡◌, ◌==◌, not, ◌&&◌, List, if◌then◌else◌}
use Rattle.rs_rank.specs.declared.scored_row.ScoredRow.{ScoredRow}
use Rattle.rs_value.specs.Faults.{raised}
use Rattle.rs_ta.specs.Lists.{IsList}

-- the count of each list but one is raised by one, and that of the one is as before
abbrev pub AreRaisedBut : List (List ScoredRow) → ℕ → (ℕ → ℕ) → (ℕ → ℕ) → Type 0
AreRaisedBut lists shown old new =
    (number : ℕ) → IsList lists number → new number ≡ (if number == shown then old number else raised (old number))

-- the count of one list is raised by one, unless it is the other one, and each other count is as before
abbrev pub IsRaisedUnless : List (List ScoredRow) → ℕ → ℕ → (ℕ → ℕ) → (ℕ → ℕ) → Type 0
IsRaisedUnless lists list shown old new = (number : ℕ) → IsList lists number →
    new number ≡ (if number == list && not (list == shown) then raised (old number) else old number)

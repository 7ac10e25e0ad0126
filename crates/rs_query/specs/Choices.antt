-- Choices of a row for each of some FROM entries, and rows that agree on some entries.
use Rattle.std.specs.Prelude.{ℕ, ◌≡◌, ◌≤◌, ◌/◌, ◌%◌, ◌==◌, Bool, true, false, List, [], ◌∷◌}
use Rattle.rs_rank.specs.Masks.{has_number}
use Rattle.rs_query.specs.Tables.{row_number}

-- the row number of one entry: 0 outside, and inside that of one of this many rows, counted from 1
abbrev pub IsRowNumber : Bool → ℕ → ℕ → Type 0
IsRowNumber true size row = row ≡ 0
IsRowNumber false size row = (1 ≤ row) × (row ≤ size)

-- a row number for each entry: 0 at the entries outside a mask, and inside that of one of its rows
abbrev pub IsChoice : ℕ → List ℕ → List ℕ → Type 0
IsChoice mask [] [] = Unit {0}
IsChoice mask [] (row ∷ rows) = ⊥
IsChoice mask (size ∷ sizes) [] = ⊥
IsChoice mask (size ∷ sizes) (row ∷ rows) = IsRowNumber (mask % 2 == 0) size row × IsChoice (mask / 2) sizes rows

-- two lists of row numbers have the same at each entry in a mask
abbrev pub AgreeOn : ℕ → List ℕ → List ℕ → Type 0
AgreeOn mask xs ys = (entry : ℕ) → 1 ≤ entry → has_number mask entry ≡ true → row_number xs entry ≡ row_number ys entry

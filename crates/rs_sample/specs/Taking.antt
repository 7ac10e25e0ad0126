-- Which rows of a table are taken: Knuth's selection sampling, Algorithm S.
use Rattle.std.specs.Prelude.{ℕ, zero, suc, ◌%◌, Bool, true, false, List, [], ◌∷◌, nat_lt}

-- one more row in front of those that are taken, where it is taken
abbrev pub with_row : Bool → ℕ → List ℕ × List ℕ → List ℕ × List ℕ
with_row true row taken = (row ∷ taken.0, taken.1)
with_row false row taken = taken

-- how many rows are still needed behind one, where one and this many more were
abbrev pub still_needed : Bool → ℕ → ℕ
still_needed true more = more
still_needed false more = suc more

-- the rows that are taken of those from this number on, and the words that are left: this many rows are still to see, and this many still
-- needed. As long as one is needed a word is drawn for each row, and the row is taken where the word, modulo the rows still to see with
-- this one, is less than the rows still needed. So it is also where all rows are taken: a small table uses words too, and what is taken of
-- the tables behind it depends on that
unfoldable pub taken_from : ℕ → ℕ → ℕ → List ℕ → List ℕ × List ℕ
taken_from row zero needed words = ([], words)
taken_from row (suc others) zero words = ([], words)
taken_from row (suc others) (suc more) [] = ([], [])
taken_from row (suc others) (suc more) (word ∷ words) =
    let takes = nat_lt (word % suc others) (suc more) in
    with_row takes row (taken_from (suc row) others (still_needed takes more) words)

-- the rows that are taken of a table of this many rows, where this many are needed, and the words that are left
abbrev pub taken_of : ℕ → ℕ → List ℕ → List ℕ × List ℕ
taken_of size needed words = taken_from 1 size needed words

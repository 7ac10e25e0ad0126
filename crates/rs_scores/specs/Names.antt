-- The names of the predicates that are asked for, in one word.
use Rattle.std.specs.Prelude.{ℕ, ◌==◌, ◌&&◌, ◌||◌, ◌-◌, Bool, true, false, not, List, [], ◌∷◌, length, slice_index_or, Option, Some, None, if◌then◌else◌}
use Rattle.std.specs.List.{slice_split}
use Rattle.csv.specs.Reading.{is_bom}
use Rattle.rs_scores.specs.Known.{is_asked}

-- a blank: a space or a tab
abbrev pub is_blank : ℕ → Bool
is_blank byte = (byte == 32) || (byte == 9)

-- a byte order mark stands in front
abbrev pub is_marked : List ℕ → Bool
is_marked (first ∷ second ∷ third ∷ rest) = is_bom first second third
is_marked _ = false

-- a byte order mark stands in front of one of these names
abbrev pub has_marked : List (List ℕ) → Bool
has_marked [] = false
has_marked (name ∷ rest) = is_marked name || has_marked rest

-- a name is not empty, and has no blank at either end
abbrev pub is_name : List ℕ → Bool
is_name name = not (length name == 0) && not (is_blank (slice_index_or name 0 0)) && not (is_blank (slice_index_or name (length name - 1) 0))

-- these are names, no two of them the same
abbrev pub are_names : List (List ℕ) → Bool
are_names [] = true
are_names (name ∷ rest) = is_name name && not (is_asked rest name) && are_names rest

-- the parts of a word between its commas
abbrev pub parts_of : List ℕ → List (List ℕ)
parts_of word = slice_split (λ byte. byte == 44) word

-- the names in a word, parted at commas, where all of its parts are names
abbrev pub names_in : List ℕ → Option (List (List ℕ))
names_in word = if are_names (parts_of word) then Some (parts_of word) else None

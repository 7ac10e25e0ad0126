-- Choices, worked by hand.
use Rattle.std.proofs.Common.{◌≡◌, [], ◌∷◌, refl}
use Rattle.std.specs.List.{filter}
use Rattle.rs_query.specs.Combinations.{choices, numbers_to}
use Rattle.rs_query.specs.Fresh.{has_new_row}
use Rattle.rs_query.specs.Pieces.{is_between}

-- the row numbers of a table of four rows
numbers_to-four : numbers_to 4 ≡ 1 ∷ 2 ∷ 3 ∷ 4 ∷ []
numbers_to-four = refl

-- of the entries 1 and 3, with two rows each; entry 2 isn't in the mask
choices-first_and_third : choices 5 (2 ∷ 3 ∷ 2 ∷ []) ≡
    (1 ∷ 0 ∷ 1 ∷ []) ∷ (1 ∷ 0 ∷ 2 ∷ []) ∷ (2 ∷ 0 ∷ 1 ∷ []) ∷ (2 ∷ 0 ∷ 2 ∷ []) ∷ []
choices-first_and_third = refl

-- of both of two entries; the first one varies slowest
choices-both : choices 3 (2 ∷ 3 ∷ []) ≡
    (1 ∷ 1 ∷ []) ∷ (1 ∷ 2 ∷ []) ∷ (1 ∷ 3 ∷ []) ∷ (2 ∷ 1 ∷ []) ∷ (2 ∷ 2 ∷ []) ∷ (2 ∷ 3 ∷ []) ∷ []
choices-both = refl

-- of no entry there is one choice, which has no row
choices-none : choices 0 (2 ∷ 3 ∷ []) ≡ (0 ∷ 0 ∷ []) ∷ []
choices-none = refl

-- where one entry in the mask has no row there is no choice
choices-empty : choices 3 (2 ∷ 0 ∷ []) ≡ []
choices-empty = refl

-- six entries, of which the last four are none
choices-padded : choices 3 (1 ∷ 2 ∷ 0 ∷ 0 ∷ 0 ∷ 0 ∷ []) ≡ (1 ∷ 1 ∷ 0 ∷ 0 ∷ 0 ∷ 0 ∷ []) ∷ (1 ∷ 2 ∷ 0 ∷ 0 ∷ 0 ∷ 0 ∷ []) ∷ []
choices-padded = refl

-- of two entries with three rows each, of which a fourth one is new: those with a new row at either entry
fresh-both : filter (has_new_row (3 ∷ 3 ∷ [])) (choices 3 (4 ∷ 4 ∷ [])) ≡
    (1 ∷ 4 ∷ []) ∷ (2 ∷ 4 ∷ []) ∷ (3 ∷ 4 ∷ []) ∷ (4 ∷ 1 ∷ []) ∷ (4 ∷ 2 ∷ []) ∷ (4 ∷ 3 ∷ []) ∷ (4 ∷ 4 ∷ []) ∷ []
fresh-both = refl

-- with nothing new there is none
fresh-none : filter (has_new_row (2 ∷ 2 ∷ [])) (choices 3 (2 ∷ 2 ∷ [])) ≡ []
fresh-none = refl

-- from an empty view all are
fresh-empty : filter (has_new_row (0 ∷ 0 ∷ [])) (choices 3 (1 ∷ 2 ∷ [])) ≡ (1 ∷ 1 ∷ []) ∷ (1 ∷ 2 ∷ []) ∷ []
fresh-empty = refl

-- of two entries with four rows and two: a piece of the second row and the third one of the first entry
between-two : filter (is_between 1 3) (choices 3 (4 ∷ 2 ∷ [])) ≡ (2 ∷ 1 ∷ []) ∷ (2 ∷ 2 ∷ []) ∷ (3 ∷ 1 ∷ []) ∷ (3 ∷ 2 ∷ []) ∷ []
between-two = refl

-- a piece of no row has none
between-nothing : filter (is_between 2 2) (choices 3 (4 ∷ 2 ∷ [])) ≡ []
between-nothing = refl

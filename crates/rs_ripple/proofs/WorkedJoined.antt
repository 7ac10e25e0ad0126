-- A join that keeps its rows, on the rows of `Worked`: left sums 10, 8, 8 and right sums 9, 7, 6, where the first right row
-- matches the second and the third left one.
use Rattle.std.proofs.Common.{◌≡◌, ℕ, [], ◌∷◌, true, Some, refl}
use Rattle.rs_rank.specs.declared.row.RankRow.{RankRow}
use Rattle.rs_ripple.specs.Joined.{Fits, Joined, end_left, end_right, fed_left, fed_right, new_joined, pairs_behind, rest_for}
use Rattle.rs_ripple.specs.Ripple.{ask_of, taken_for}
use Rattle.rs_ripple.specs.Stands.{state_after}
use Rattle.rs_ripple.proofs.Worked.{left, lefts, pair, pair_key, right, rights, sides, two}

abbrev left_row : ℕ → ℕ → RankRow
left_row number sum = record { ids = (left number sum).ids; sum = sum }

abbrev right_row : ℕ → ℕ → RankRow
right_row number sum = record { ids = (right number sum).ids; sum = sum }

abbrev start : Joined
start = new_joined two (record { mask = 1; terms = 1 }) (record { mask = 2; terms = 2 })

-- the first rows don't match
abbrev first_rows : Joined
first_rows = fed_right sides.matches (right_row 1 9) (fed_left sides.matches (left_row 1 10) start)

no_pair_yet : first_rows.ripple.held ≡ []
no_pair_yet = refl

-- the second left row matches the right row that came before it
abbrev two_left : Joined
two_left = fed_left sides.matches (left_row 2 8) first_rows

one_pair : two_left.ripple.held ≡ (pair_key 2 1 17, pair 2 1 17) ∷ []
one_pair = refl

-- two right rows more match none
abbrev three_right : Joined
three_right = fed_right sides.matches (right_row 3 6) (fed_right sides.matches (right_row 2 7) two_left)

still_one_pair : three_right.ripple.held ≡ (pair_key 2 1 17, pair 2 1 17) ∷ []
still_one_pair = refl

pair_is_ready : taken_for (ask_of three_right.ripple) three_right.ripple ≡ Some (pair 2 1 17)
pair_is_ready = refl

-- once it is taken it is held no more, and what the join keeps is still all that comes behind it
abbrev one_taken : Joined
one_taken = rest_for (ask_of three_right.ripple) three_right

nothing_left : one_taken.ripple.held ≡ []
nothing_left = refl

taken_fits : Fits sides.matches one_taken
taken_fits = refl

-- the third left row matches the first right one. The pair that was taken isn't found again
abbrev three_left : Joined
three_left = fed_left sides.matches (left_row 3 8) one_taken

next_pair : three_left.ripple.held ≡ (pair_key 3 1 17, pair 3 1 17) ∷ []
next_pair = refl

-- its core is where the definition over both lists has it, after three asks of each side and one answer
at_the_second : three_left.ripple ≡ state_after sides lefts rights 3 3 1
at_the_second = refl

rows_kept : three_left.lefts ≡ lefts
rows_kept = refl

-- where all rows match, the pairs stand in the order of their keys: at equal sums that of the earlier left row first
abbrev all_matched : Joined
all_matched = fed_left (λ l r. true) (left_row 2 8) (fed_right (λ l r. true) (right_row 2 7) (fed_right (λ l r. true) (right_row 1 9) (fed_left (λ l r. true) (left_row 1 10) start)))

in_order : pairs_behind (λ l r. true) all_matched ≡ pair 1 1 19 ∷ pair 1 2 17 ∷ pair 2 1 17 ∷ pair 2 2 15 ∷ []
in_order = refl

all_fits : Fits (λ l r. true) all_matched
all_fits = refl

-- a side's end changes no pair
ended_fits : Fits (λ l r. true) (end_left (end_right all_matched))
ended_fits = refl

-- Rows with join values worked by hand: three left rows with the values 7 and a, 7 and b, and 7 and a again.
use Rattle.std.proofs.Common.{◌≡◌, ◌==◌, ℕ, Bool, true, false, not, List, [], ◌∷◌, map, pos, refl}
use Rattle.std.specs.List.{list_any}
use Rattle.rs_rank.specs.declared.row.RankRow.{RankRow}
use Rattle.rs_rank.specs.declared.weights.Weights.{Weights}
use Rattle.rs_ripple.specs.Joined.{Fits, fed_left, fed_right, new_joined}
use Rattle.rs_value.specs.declared.value.Value.{Value}
use Rattle.rs_value.specs.declared.value.Value.TheVariants.{Int, Text}
use Rattle.rs_hrjn.specs.Drawn.{DrawnRow, are_equal, places_alike}
use Rattle.rs_hrjn.specs.Hashed.{Hashed, hash_left, hash_right, joined_of, new_hashed, rows_at}
use Rattle.rs_hrjn.specs.Index.{drawn_rows, places_of, values_at, with_place}

abbrev seven_a : List Value
seven_a = Int (pos 7) ∷ Text (97 ∷ []) ∷ []

abbrev seven_b : List Value
seven_b = Int (pos 7) ∷ Text (98 ∷ []) ∷ []

abbrev left_row : ℕ → ℕ → RankRow
left_row number sum = record { ids = record { block = 1; mask = 1; rows = number ∷ 0 ∷ 0 ∷ 0 ∷ 0 ∷ 0 ∷ [] }; sum = sum }

abbrev right_row : ℕ → ℕ → RankRow
right_row number sum = record { ids = record { block = 1; mask = 2; rows = 0 ∷ number ∷ 0 ∷ 0 ∷ 0 ∷ 0 ∷ [] }; sum = sum }

abbrev pair : ℕ → ℕ → ℕ → RankRow
pair l r sum = record { ids = record { block = 1; mask = 3; rows = l ∷ r ∷ 0 ∷ 0 ∷ 0 ∷ 0 ∷ [] }; sum = sum }

-- all values count, and their kinds and their order do too
equal_values : are_equal seven_a seven_a ≡ true
equal_values = refl

other_text : are_equal seven_a seven_b ≡ false
other_text = refl

fewer_values : are_equal seven_a (Int (pos 7) ∷ []) ≡ false
fewer_values = refl

number_and_text : are_equal (Int (pos 7) ∷ []) (Text (55 ∷ []) ∷ []) ≡ false
number_and_text = refl

abbrev lefts : List DrawnRow
lefts = record { row = left_row 1 10; values = seven_a } ∷ record { row = left_row 2 8; values = seven_b } ∷ record { row = left_row 3 8; values = seven_a } ∷ []

places_of_a : places_alike seven_a 0 lefts ≡ 0 ∷ 2 ∷ []
places_of_a = refl

places_of_none : places_alike [] 0 lefts ≡ []
places_of_none = refl

rows_of_a : rows_at (left_row 9 9) (places_alike seven_a 0 lefts) (left_row 1 10 ∷ left_row 2 8 ∷ left_row 3 8 ∷ []) ≡ left_row 1 10 ∷ left_row 3 8 ∷ []
rows_of_a = refl

-- the map grows by one place at each row, and has the entries in the order of their values
abbrev index : List (List Value × List ℕ)
index = with_place seven_a 2 (with_place seven_b 1 (with_place seven_a 0 []))

entries : index ≡ (seven_a, 0 ∷ 2 ∷ []) ∷ (seven_b, 1 ∷ []) ∷ []
entries = refl

lesser_text_first : with_place seven_a 1 (with_place seven_b 0 []) ≡ (seven_a, 1 ∷ []) ∷ (seven_b, 0 ∷ []) ∷ []
lesser_text_first = refl

found_by_values : places_of seven_b index ≡ 1 ∷ []
found_by_values = refl

values_of_second : values_at 1 index ≡ seven_b
values_of_second = refl

rows_with_values : drawn_rows index 0 (left_row 1 10 ∷ left_row 2 8 ∷ left_row 3 8 ∷ []) ≡ lefts
rows_with_values = refl

-- two terms of weight 1 and at most 10, one a side: left row 2 matches no right row, whose values are 7 and a
abbrev two : Weights
two = record { weight = 1 ∷ 1 ∷ 0 ∷ 0 ∷ 0 ∷ 0 ∷ 0 ∷ 0 ∷ []; max = 10 ∷ 10 ∷ 0 ∷ 0 ∷ 0 ∷ 0 ∷ 0 ∷ 0 ∷ [] }

abbrev matches : RankRow → RankRow → Bool
matches l r = not (list_any (λ number. number == 2) l.ids.rows)

abbrev start : Hashed
start = new_hashed two (record { mask = 1; terms = 1 }) (record { mask = 2; terms = 2 })

abbrev fed : Hashed
fed = hash_left matches (left_row 2 8) seven_b (hash_right matches (right_row 1 9) seven_a (hash_left matches (left_row 1 10) seven_a start))

one_pair : map (λ pair. pair.1) fed.ripple.held ≡ pair 1 1 19 ∷ []
one_pair = refl

rows_are_kept : fed.lefts ≡ record { row = left_row 1 10; values = seven_a } ∷ record { row = left_row 2 8; values = seven_b } ∷ []
rows_are_kept = refl

-- it is the join that tries all pairs, with the join values beside
same_as_nested : joined_of fed ≡ fed_left matches (left_row 2 8) (fed_right matches (right_row 1 9) (fed_left matches (left_row 1 10) (new_joined two (record { mask = 1; terms = 1 }) (record { mask = 2; terms = 2 }))))
same_as_nested = refl

fits : Fits matches (joined_of fed)
fits = refl

-- Masks, bounds and keys, worked by hand.
use Rattle.std.proofs.Common.{◌≡◌, ℕ, true, false, [], ◌∷◌, refl}
use Rattle.std.specs.declared.cmp.Ordering.TheVariants.{Less, Equal, Greater}
use Rattle.rs_rank.specs.declared.ids.Ids.{Ids}
use Rattle.rs_rank.specs.declared.key.Key.{Key}
use Rattle.rs_rank.specs.declared.row.RankRow.{RankRow}
use Rattle.rs_rank.specs.declared.weights.Weights.{Weights}
use Rattle.rs_rank.specs.Ids.{merge_ids}
use Rattle.rs_rank.specs.Keys.{key_cmp}
use Rattle.rs_rank.specs.Masks.{has_number, mask_of}
use Rattle.rs_rank.specs.Merging.{merge_key}
use Rattle.rs_rank.specs.Rows.{key_of, merge_row}
use Rattle.rs_rank.specs.Weights.{bound, greatest_score, most_evaluated, rest}

-- number 6 alone, and which numbers 38 has: 2, 3 and 6
sixth : mask_of 6 ≡ 32
sixth = refl

has_third : has_number 38 3 ≡ true
has_third = refl

lacks_fourth : has_number 38 4 ≡ false
lacks_fourth = refl

-- three terms: weights 1, 2, 3 and maxima 10, 100, 1000
abbrev three : Weights
three = record { weight = 1 ∷ 2 ∷ 3 ∷ 0 ∷ 0 ∷ 0 ∷ 0 ∷ 0 ∷ []; max = 10 ∷ 100 ∷ 1000 ∷ 0 ∷ 0 ∷ 0 ∷ 0 ∷ 0 ∷ [] }

whole : greatest_score three ≡ 3210
whole = refl

outside_second : rest three 2 ≡ 3010
outside_second = refl

inside_second : most_evaluated three 2 ≡ 200
inside_second = refl

outside_first_and_third : rest three 5 ≡ 200
outside_first_and_third = refl

-- the first and the third term are evaluated, to 7 and 50: 7 + 2 * 100 + 3 * 50
bound_of_two : bound three 5 (7 ∷ 99 ∷ 50 ∷ 0 ∷ 0 ∷ 0 ∷ 0 ∷ 0 ∷ []) ≡ 357
bound_of_two = refl

-- keys of row 1 and row 2 of two entries
abbrev pair : ℕ → ℕ → ℕ → ℕ → Key
pair n block first second = record { bound = n; ids = record { block = block; mask = 3; rows = first ∷ second ∷ 0 ∷ 0 ∷ 0 ∷ 0 ∷ [] } }

greater_bound : key_cmp (pair 21 1 9 9) (pair 20 1 1 1) ≡ Less
greater_bound = refl

lesser_bound : key_cmp (pair 19 1 1 1) (pair 20 1 9 9) ≡ Greater
lesser_bound = refl

first_block : key_cmp (pair 20 1 9 9) (pair 20 2 1 1) ≡ Less
first_block = refl

first_entry : key_cmp (pair 20 1 1 9) (pair 20 1 2 1) ≡ Less
first_entry = refl

second_entry : key_cmp (pair 20 1 1 3) (pair 20 1 1 2) ≡ Greater
second_entry = refl

-- the mask isn't looked at
other_mask : key_cmp (pair 20 1 1 2) (record { bound = 20; ids = record { block = 1; mask = 7; rows = 1 ∷ 2 ∷ 0 ∷ 0 ∷ 0 ∷ 0 ∷ [] } }) ≡ Equal
other_mask = refl

-- row 5 of the first entry, of which term 1 gave 7, and row 8 of the third entry, of which term 2 gave 120
abbrev left : RankRow
left = record { ids = record { block = 1; mask = 1; rows = 5 ∷ 0 ∷ 0 ∷ 0 ∷ 0 ∷ 0 ∷ [] }; sum = 7 }

abbrev right : RankRow
right = record { ids = record { block = 1; mask = 4; rows = 0 ∷ 0 ∷ 8 ∷ 0 ∷ 0 ∷ 0 ∷ [] }; sum = 120 }

abbrev both : Ids
both = record { block = 1; mask = 5; rows = 5 ∷ 0 ∷ 8 ∷ 0 ∷ 0 ∷ 0 ∷ [] }

both_ids : merge_ids left.ids right.ids ≡ both
both_ids = refl

both_rows : merge_row left right ≡ record { ids = both; sum = 127 }
both_rows = refl

-- 7 + 2 * 100 + 3 * 1000, and 10 + 120 + 3 * 1000
left_key : key_of three 1 left ≡ record { bound = 3207; ids = left.ids }
left_key = refl

right_key : key_of three 2 right ≡ record { bound = 3130; ids = right.ids }
right_key = refl

-- 7 + 120 + 3 * 1000
merged_key : merge_key three 1 2 (key_of three 1 left) (key_of three 2 right) ≡ record { bound = 3127; ids = both }
merged_key = refl

-- eight terms at their limits
abbrev greatest : Weights
greatest = record {
  weight = 1000000 ∷ 1000000 ∷ 1000000 ∷ 1000000 ∷ 1000000 ∷ 1000000 ∷ 1000000 ∷ 1000000 ∷ [];
  max = 4294967295 ∷ 4294967295 ∷ 4294967295 ∷ 4294967295 ∷ 4294967295 ∷ 4294967295 ∷ 4294967295 ∷ 4294967295 ∷ [];
}

at_the_limit : greatest_score greatest ≡ 34359738360000000
at_the_limit = refl

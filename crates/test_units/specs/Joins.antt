-- The joins that the tests feed: of two terms of weight 1 and at most 10, the first of the left side and the second of the right one.
use Rattle.std.specs.Prelude.{ℕ, [], ◌∷◌, ◌+◌}
use Rattle.rs_rank.specs.declared.key.Key.{Key}
use Rattle.rs_rank.specs.declared.row.RankRow.{RankRow}
use Rattle.rs_rank.specs.declared.weights.Weights.{Weights}
use Rattle.rs_ripple.specs.Joined.{Joined, new_joined}
use Rattle.rs_ripple.specs.Ripple.{Ripple, found, left_drawn, new_ripple, right_drawn}
use Rattle.rs_ripple.specs.declared.side.Side.{Side}
use Rattle.rs_hrjn.specs.Hashed.{Hashed, new_hashed}

abbrev pub two_terms : Weights
two_terms = record { weight = 1 ∷ 1 ∷ 0 ∷ 0 ∷ 0 ∷ 0 ∷ 0 ∷ 0 ∷ []; max = 10 ∷ 10 ∷ 0 ∷ 0 ∷ 0 ∷ 0 ∷ 0 ∷ 0 ∷ [] }

abbrev pub left_side : Side
left_side = record { mask = 1; terms = 1 }

abbrev pub right_side : Side
right_side = record { mask = 2; terms = 2 }

-- the core of a join of which nothing is drawn
abbrev pub new_core : Ripple
new_core = new_ripple two_terms left_side right_side

-- the key of a left row, and of a right one, by its number: the other term adds 10 at most
abbrev pub left_key : ℕ → ℕ → Key
left_key number worth = record { bound = worth + 10; ids = record { block = 1; mask = 1; rows = number ∷ 0 ∷ 0 ∷ 0 ∷ 0 ∷ 0 ∷ [] } }

abbrev pub right_key : ℕ → ℕ → Key
right_key number worth = record { bound = worth + 10; ids = record { block = 1; mask = 2; rows = 0 ∷ number ∷ 0 ∷ 0 ∷ 0 ∷ 0 ∷ [] } }

-- a pair of rows, by their numbers
abbrev pub pair_of : ℕ → ℕ → ℕ → RankRow
pair_of left right sum = record { ids = record { block = 1; mask = 3; rows = left ∷ right ∷ 0 ∷ 0 ∷ 0 ∷ 0 ∷ [] }; sum = sum }

-- the core, of which a left row, a right one and a second left one are drawn, and which holds a pair of the last two
abbrev pub core_of_three : Ripple
core_of_three = found (pair_of 2 1 17) (left_drawn (left_key 2 8) (right_drawn (right_key 1 9) (left_drawn (left_key 1 10) new_core)))

-- a nested join of which nothing is drawn
abbrev pub new_join : Joined
new_join = new_joined two_terms left_side right_side

-- a hash join of which nothing is drawn
abbrev pub new_hash_join : Hashed
new_hash_join = new_hashed two_terms left_side right_side

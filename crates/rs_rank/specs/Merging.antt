-- The key of a row that is merged of two sides, from the keys of the sides.
use Rattle.std.specs.Prelude.{ℕ, ◌+◌, ◌-◌, bit_or}
use Rattle.rs_rank.specs.declared.key.Key.{Key}
use Rattle.rs_rank.specs.declared.weights.Weights.{Weights}
use Rattle.rs_rank.specs.Ids.{AreSidesOfRow, merge_ids}
use Rattle.rs_rank.specs.Masks.{AreDisjoint}
use Rattle.rs_rank.specs.Weights.{IsBound, IsWeights, rest}

-- what the evaluated terms of both sides give, and what is left beside the terms of both
abbrev pub merge_key : Weights → ℕ → ℕ → Key → Key → Key
merge_key weights left_terms right_terms left right = record {
  bound = (left.bound - rest weights left_terms) + (right.bound - rest weights right_terms) + rest weights (bit_or left_terms right_terms);
  ids = merge_ids left.ids right.ids;
}

-- two keys are of sides of one row, and no term is evaluated on both sides
pub record CanMerge (weights : Weights) (left_terms right_terms : ℕ) (left right : Key) : Type 0 where
  pub limits : IsWeights weights
  pub sides : AreSidesOfRow left.ids right.ids
  pub terms : AreDisjoint left_terms right_terms
  pub left_bound : IsBound weights left_terms left.bound
  pub right_bound : IsBound weights right_terms right.bound

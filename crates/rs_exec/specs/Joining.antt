-- What a join joins: the rows of its two sides that match, by the conjuncts that speak of both.
use Rattle.std.specs.Prelude.{ℕ}
use Rattle.rs_filter.specs.Matching.{joins}
use Rattle.rs_plan.specs.Lists.{World, numbered_block, weights_in}
use Rattle.rs_plan.specs.Trees.{PlanTree, entries, terms}
use Rattle.rs_ripple.specs.Stands.{Join}
use Rattle.rs_ripple.specs.declared.side.Side.{Side}

-- a side of a join: the entries of its rows, and the terms that are evaluated on them
abbrev pub side_for : PlanTree → Side
side_for tree = record { mask = entries tree; terms = terms tree }

-- a join of two parts of a plan of a block
abbrev pub join_for : World → ℕ → PlanTree → PlanTree → Join
join_for w number left right = record {
  weights = weights_in w;
  block = number;
  left = side_for left;
  right = side_for right;
  matches = joins w.catalogue (numbered_block w number) (entries left) (entries right);
}

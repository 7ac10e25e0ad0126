-- The cores that the tests feed: new ones over rows with one term.
use Rattle.std.specs.Prelude.{Bool, [], ◌∷◌}
use Rattle.rs_rank.specs.declared.weights.Weights.{Weights}
use Rattle.rs_setop.specs.Compared.{Comparison, new_compared}
use Rattle.rs_setop.specs.Union.{Union, new_union}

-- one term of weight 1 and at most 10
abbrev pub one_term : Weights
one_term = record { weight = 1 ∷ 0 ∷ 0 ∷ 0 ∷ 0 ∷ 0 ∷ 0 ∷ 0 ∷ []; max = 10 ∷ 0 ∷ 0 ∷ 0 ∷ 0 ∷ 0 ∷ 0 ∷ 0 ∷ [] }

abbrev pub new_union_core : Bool → Union
new_union_core distinct = new_union one_term 1 distinct

abbrev pub new_compared_core : Bool → Comparison
new_compared_core shared = new_compared one_term 1 shared

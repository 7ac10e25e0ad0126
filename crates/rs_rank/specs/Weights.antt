-- Scores that are sums of weight times worth over at most eight terms, and their bounds where some terms aren't evaluated.
use Rattle.std.specs.Prelude.{ℕ, ◌≡◌, ◌≤◌, ◌+◌, ◌*◌, ◌/◌, ◌%◌, ◌==◌, List, [], ◌∷◌, length, if◌then◌else◌}
use Rattle.std.specs.List.{AllByRecursion}
use Rattle.rs_rank.specs.declared.weights.Weights.{Weights}

-- each weight and each maximum is within its limit
pub record IsWeights (weights : Weights) : Type 0 where
  pub weight_count : length weights.weight ≡ 8
  pub max_count : length weights.max ≡ 8
  pub weight_limit : AllByRecursion (λ weight. weight ≤ 1000000) weights.weight
  pub max_limit : AllByRecursion (λ most. most ≤ 4294967295) weights.max

-- the sum of weight times value over the terms in a mask
abbrev pub sum_inside : ℕ → List ℕ → List ℕ → ℕ
sum_inside terms [] values = 0
sum_inside terms (weight ∷ weights) [] = 0
sum_inside terms (weight ∷ weights) (value ∷ values) =
    (if terms % 2 == 1 then weight * value else 0) + sum_inside (terms / 2) weights values

-- the sum of weight times value over the terms that aren't in a mask
abbrev pub sum_outside : ℕ → List ℕ → List ℕ → ℕ
sum_outside terms [] values = 0
sum_outside terms (weight ∷ weights) [] = 0
sum_outside terms (weight ∷ weights) (value ∷ values) =
    (if terms % 2 == 1 then 0 else weight * value) + sum_outside (terms / 2) weights values

-- what the terms in a mask give to a score, of these worths: the sum of weight times worth over them
abbrev pub evaluated : Weights → ℕ → List ℕ → ℕ
evaluated weights terms worths = sum_inside terms weights.weight worths

-- what the terms in a mask can give to a score at most
abbrev pub most_evaluated : Weights → ℕ → ℕ
most_evaluated weights terms = sum_inside terms weights.weight weights.max

-- what the terms that aren't in a mask can give to a score at most: the sum of weight times maximum over them
abbrev pub rest : Weights → ℕ → ℕ
rest weights terms = sum_outside terms weights.weight weights.max

-- the upper bound of a score of which the terms in a mask are evaluated
abbrev pub bound : Weights → ℕ → List ℕ → ℕ
bound weights terms worths = evaluated weights terms worths + rest weights terms

-- the greatest score: no term is evaluated yet
abbrev pub greatest_score : Weights → ℕ
greatest_score weights = rest weights 0

-- the greatest sum of eight terms
abbrev pub score_limit : ℕ
score_limit = 34359738360000000

-- a number that is the bound of some row of which the terms in a mask are evaluated
pub record IsBound (weights : Weights) (terms : ℕ) (number : ℕ) : Type 0 where
  pub least : rest weights terms ≤ number
  pub most : number ≤ greatest_score weights

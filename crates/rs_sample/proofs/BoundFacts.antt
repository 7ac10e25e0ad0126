-- Bounds of all masks of terms, one term after another from the last one on.
use Rattle.std.proofs.Common.{ℕ, zero, suc, ◌≡◌, ◌∙◌, ◌+◌, ◌*◌, ◌/◌, ◌%◌, ◌<◌, ◌≤◌, Bool, true, false, cond, eqb, List, [], ◌∷◌, length, drop, get_or, refl, sym, ap, ap₂, arith}
use Rattle.std.proofs.lemmas.Nat.{mul-le}
use Rattle.std.proofs.Math.Seq.{drop-cons}
use Rattle.rs_rank.specs.Weights.{sum_inside, sum_outside}
use Rattle.rs_rank.specs.declared.weights.Weights.{Weights}
use Rattle.rs_query.specs.Answers.{padded}

-- the bound by the terms from a place on, of which those in a mask are evaluated
abbrev pub bound_from : Weights → List ℕ → ℕ → ℕ → ℕ
bound_from weights worths place terms = sum_inside terms (drop place weights.weight) (drop place worths) + sum_outside terms (drop place weights.weight) (drop place weights.max)

-- what a term gives
both : (b : Bool) (worth most inside outside : ℕ) → cond b worth 0 + inside + (cond b 0 most + outside) ≡ inside + outside + cond b worth most
both true worth most inside outside = omega arith
both false worth most inside outside = omega arith

-- within its limit
pub either-limit : (b : Bool) (weight worth most : ℕ) → weight ≤ 1000000 → worth ≤ 4294967295 → most ≤ 4294967295 → cond b (weight * worth) (weight * most) ≤ 4294967295000000
either-limit true weight worth most light small few = mul-le weight worth 1000000 4294967295 light small
either-limit false weight worth most light small few = mul-le weight most 1000000 4294967295 light few

-- by those behind the one at the place, and that one
pub bound-step : (weights : Weights) (worths : List ℕ) (place terms : ℕ) → place < length weights.weight → place < length worths → place < length weights.max
    → bound_from weights worths place terms
    ≡ bound_from weights worths (suc place) (terms / 2) + cond (eqb (terms % 2) 1) (get_or weights.weight place 0 * get_or worths place 0) (get_or weights.weight place 0 * get_or weights.max place 0)
bound-step weights worths place terms p q r =
    ap₂ (λ ws vs. sum_inside terms ws vs + sum_outside terms (drop place weights.weight) (drop place weights.max)) (drop-cons weights.weight place 0 p) (drop-cons worths place 0 q)
    ∙ ap₂ (λ ws ms. sum_inside terms (get_or weights.weight place 0 ∷ drop (suc place) weights.weight) (get_or worths place 0 ∷ drop (suc place) worths) + sum_outside terms ws ms)
    (drop-cons weights.weight place 0 p) (drop-cons weights.max place 0 r)
    ∙ both (eqb (terms % 2) 1) (get_or weights.weight place 0 * get_or worths place 0) (get_or weights.weight place 0 * get_or weights.max place 0)
    (sum_inside (terms / 2) (drop (suc place) weights.weight) (drop (suc place) worths)) (sum_outside (terms / 2) (drop (suc place) weights.weight) (drop (suc place) weights.max))

-- one term was put in front of those of this many masks, from this mask on
pub record AddedFrom (old new : List ℕ) (masks from worth most : ℕ) : Type 0 where
  pub count : length new ≡ 256
  pub below : (k : ℕ) → k < from → get_or new k 0 ≡ get_or old k 0
  pub done : (k : ℕ) → 2 * from ≤ k → k < 2 * masks → get_or new k 0 ≡ get_or old (k / 2) 0 + cond (eqb (k % 2) 1) worth most

-- numbers with 0 behind them give what they give
no-value : (terms n : ℕ) (weights : List ℕ) → sum_inside terms weights (padded n []) ≡ 0
no-value terms zero [] = refl
no-value terms zero (weight ∷ weights) = refl
no-value terms (suc n) [] = refl
no-value terms (suc n) (weight ∷ weights) = ap₂ (λ first others. first + others) (go (eqb (terms % 2) 1)) (no-value (terms / 2) n weights) where
  go : (b : Bool) → cond b (weight * 0) 0 ≡ 0
  go true = omega arith
  go false = refl

no-values : (terms : ℕ) (weights : List ℕ) → sum_inside terms weights [] ≡ 0
no-values terms [] = refl
no-values terms (weight ∷ weights) = refl

pub sum-padded : (terms n : ℕ) (weights values : List ℕ) → length values ≤ n → sum_inside terms weights (padded n values) ≡ sum_inside terms weights values
sum-padded terms n weights [] few = no-value terms n weights ∙ sym (no-values terms weights)
sum-padded terms zero weights (value ∷ values) few = absurd (omega arith)
sum-padded terms (suc n) [] (value ∷ values) few = refl
sum-padded terms (suc n) (weight ∷ weights) (value ∷ values) few =
    ap (λ others. cond (eqb (terms % 2) 1) (weight * value) 0 + others) (sum-padded (terms / 2) n weights values (omega arith))

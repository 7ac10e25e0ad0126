-- Sums over the terms inside and outside a mask.
use Rattle.std.proofs.Common.{◌≡◌, ℕ, zero, suc, ◌+◌, ◌-◌, ◌*◌, ◌/◌, ◌%◌, ◌^◌, ◌<◌, ◌≤◌, Bool, true, false, cond, eqb, List, [], ◌∷◌, length, get_or, bit_and, bit_or, max, min, drop, refl, ◌∙◌, ap, add-one, arith}
use Rattle.std.proofs.lemmas.Bool.Decides.{nat_tests}
use Rattle.std.proofs.lemmas.Nat.{mul-le}
use Rattle.std.proofs.Math.Nat.{div-one}
use Rattle.std.proofs.Math.Seq.{drop-cons}
use Rattle.std.specs.Int.Bits.{or_zero_r}
use Rattle.std.specs.List.{AllByRecursion}
use Rattle.rs_rank.specs.declared.weights.Weights.{Weights}
use Rattle.rs_rank.specs.Weights.{IsBound, IsWeights, greatest_score, most_evaluated, rest, score_limit, sum_inside, sum_outside}
use Rattle.rs_rank.proofs.MaskFacts.{bit_and-first, bit_and-others, bit_or-first, bit_or-others, half-before, half-behind, half-power, even-power}

-- one term more is inside a mask or outside it
one_inside-outside : (b : Bool) (product inside outside whole : ℕ) → inside + outside ≡ whole → cond b product 0 + inside + (cond b 0 product + outside) ≡ product + whole
one_inside-outside true product inside outside whole e = omega arith
one_inside-outside false product inside outside whole e = omega arith

-- both parts are the whole
pub sum_inside-outside : (terms : ℕ) (weights values : List ℕ) → sum_inside terms weights values + sum_outside terms weights values ≡ sum_outside 0 weights values
sum_inside-outside terms [] values = refl
sum_inside-outside terms (weight ∷ weights) [] = refl
sum_inside-outside terms (weight ∷ weights) (value ∷ values) =
    one_inside-outside (eqb (terms % 2) 1) (weight * value) _ _ _ (sum_inside-outside (terms / 2) weights values)

-- a sum outside a mask is part of the whole
pub sum_outside-whole : (terms : ℕ) (weights values : List ℕ) → sum_outside terms weights values ≤ sum_outside 0 weights values
sum_outside-whole terms weights values = let e = sum_inside-outside terms weights values in omega arith

-- the sum of all terms, each within its limits
pub sum_outside-limit : (weights values : List ℕ) → AllByRecursion (λ weight. weight ≤ 1000000) weights → AllByRecursion (λ most. most ≤ 4294967295) values → sum_outside 0 weights values ≤ 4294967295000000 * length weights
sum_outside-limit [] values small low = omega arith
sum_outside-limit (weight ∷ weights) [] small low = omega arith
sum_outside-limit (weight ∷ weights) (value ∷ values) small low =
    let first : weight * value ≤ 1000000 * 4294967295 = mul-le weight value 1000000 4294967295 small.0 low.0 in
    let others = sum_outside-limit weights values small.1 low.1 in
    omega arith

pub greatest_score-limit : (weights : Weights) → IsWeights weights → greatest_score weights ≤ score_limit
greatest_score-limit weights limits =
    let most = sum_outside-limit weights.weight weights.max limits.weight_limit limits.max_limit in
    let count = limits.weight_count in
    omega arith

-- what is outside, from some place on: the term at the place and those behind it
pub sum_outside-step : (terms place : ℕ) (weights values : List ℕ) → place < length weights → place < length values →
    sum_outside (terms / 2 ^ place) (drop place weights) (drop place values)
    ≡ (cond (eqb (terms / 2 ^ place % 2) 1) 0 (get_or weights place 0 * get_or values place 0) + sum_outside (terms / 2 ^ suc place) (drop (suc place) weights) (drop (suc place) values))
sum_outside-step terms place weights values p q =
    rw (drop-cons weights place 0 p, drop-cons values place 0 q, half-behind terms place) refl

-- what one term gives outside a mask
abbrev pub outside_at : Weights → ℕ → ℕ → ℕ
outside_at weights terms place = cond (eqb (terms / 2 ^ place % 2) 1) 0 (get_or weights.weight place 0 * get_or weights.max place 0)

-- adding the term at the place moves it one on
pub rest-step : (weights : Weights) (terms place total : ℕ) → IsWeights weights → place < 8 →
    total + sum_outside (terms / 2 ^ place) (drop place weights.weight) (drop place weights.max) ≡ rest weights terms →
    total + outside_at weights terms place + sum_outside (terms / 2 ^ (place + 1)) (drop (place + 1) weights.weight) (drop (place + 1) weights.max) ≡ rest weights terms
rest-step weights terms place total limits before e =
    let p : place < length weights.weight = let n = limits.weight_count in omega arith in
    let q : place < length weights.max = let n = limits.max_count in omega arith in
    let step = sum_outside-step terms place weights.weight weights.max p q in
    rw add-one (omega arith)

-- the rest is within the limit
pub rest-limit : (weights : Weights) (terms : ℕ) → IsWeights weights → rest weights terms ≤ score_limit
rest-limit weights terms limits =
    let part = sum_outside-whole terms weights.weight weights.max in
    let most = greatest_score-limit weights limits in
    omega arith

-- the first term is put into a mask that doesn't have it
first_added : (terms : ℕ) → eqb (terms / 2 ^ 0 % 2) 1 ≡ false → (eqb (terms % 2) 1 ≡ false) × (bit_or terms 1 % 2 ≡ 1) × (bit_or terms 1 / 2 ≡ terms / 2)
first_added terms e =
    let bit = bit_or-first terms 1 in
    (rw (div-one terms) at e, omega arith, bit_or-others terms 1 ∙ or_zero_r (terms / 2))

-- a later term is put into a mask
later_added : (terms i : ℕ) → (bit_or terms (2 ^ suc i) % 2 ≡ terms % 2) × (bit_or terms (2 ^ suc i) / 2 ≡ bit_or (terms / 2) (2 ^ i))
later_added terms i =
    let bit = bit_or-first terms (2 ^ suc i) in
    let even = even-power i in
    (omega arith, bit_or-others terms (2 ^ suc i) ∙ ap (bit_or (terms / 2)) (half-power i))

-- a term that isn't in the mask leaves the rest where it is put in
pub sum_outside-one : (i terms : ℕ) (weights values : List ℕ) → i < length weights → i < length values → eqb (terms / 2 ^ i % 2) 1 ≡ false →
    sum_outside terms weights values ≡ get_or weights i 0 * get_or values i 0 + sum_outside (bit_or terms (2 ^ i)) weights values
sum_outside-one i terms [] values p q e = absurd (omega arith)
sum_outside-one i terms (weight ∷ weights) [] p q e = absurd (omega arith)
sum_outside-one zero terms (weight ∷ weights) (value ∷ values) p q e =
    let added = first_added terms e in
    rw (added.0, added.1, added.2) (omega arith)
sum_outside-one (suc i) terms (weight ∷ weights) (value ∷ values) p q e =
    let added = later_added terms i in
    let others = sum_outside-one i (terms / 2) weights values (omega arith) (omega arith) (rw (half-before terms i) at e) in
    rw (added.0, added.1) (omega arith)

-- and comes to what is inside
pub sum_inside-one : (i terms : ℕ) (weights values : List ℕ) → i < length weights → i < length values → eqb (terms / 2 ^ i % 2) 1 ≡ false →
    sum_inside (bit_or terms (2 ^ i)) weights values ≡ sum_inside terms weights values + get_or weights i 0 * get_or values i 0
sum_inside-one i terms [] values p q e = absurd (omega arith)
sum_inside-one i terms (weight ∷ weights) [] p q e = absurd (omega arith)
sum_inside-one zero terms (weight ∷ weights) (value ∷ values) p q e =
    let added = first_added terms e in
    rw (added.0, added.1, added.2) (omega arith)
sum_inside-one (suc i) terms (weight ∷ weights) (value ∷ values) p q e =
    let added = later_added terms i in
    let others = sum_inside-one i (terms / 2) weights values (omega arith) (omega arith) (rw (half-before terms i) at e) in
    rw (added.0, added.1) (omega arith)

-- a term that is in one of two disjoint masks, or in none
one_of_both : (m n both : ℕ) (product : ℕ) (left right : ℕ) → both ≡ max (m % 2) (n % 2) → min (m % 2) (n % 2) ≡ 0 →
    cond (eqb both 1) product 0 + (left + right) ≡ cond (eqb (m % 2) 1) product 0 + left + (cond (eqb (n % 2) 1) product 0 + right)
one_of_both m n both product left right e apart = grind (arith, nat_tests)

-- the terms of two disjoint masks
pub sum_inside-union : (m n : ℕ) (weights values : List ℕ) → bit_and m n ≡ 0 → sum_inside (bit_or m n) weights values ≡ sum_inside m weights values + sum_inside n weights values
sum_inside-union m n [] values apart = refl
sum_inside-union m n (weight ∷ weights) [] apart = refl
sum_inside-union m n (weight ∷ weights) (value ∷ values) apart =
    let first = bit_and-first m n in
    let others = bit_and-others m n in
    let union = sum_inside-union (m / 2) (n / 2) weights values (omega arith) in
    rw (bit_or-others m n, union)
    (one_of_both m n (bit_or m n % 2) (weight * value) (sum_inside (m / 2) weights values) (sum_inside (n / 2) weights values) (bit_or-first m n) (omega arith))

-- a sum that the terms in a mask can give, with the rest, is a bound
pub IsBound-sum : (weights : Weights) (terms sum : ℕ) → sum ≤ most_evaluated weights terms → IsBound weights terms (sum + rest weights terms)
IsBound-sum weights terms sum within =
    let whole = sum_inside-outside terms weights.weight weights.max in
    record { least = omega arith; most = omega arith }

-- what a bound has beside the rest is such a sum
pub evaluated-bound : (weights : Weights) (terms bound : ℕ) → IsBound weights terms bound → bound - rest weights terms ≤ most_evaluated weights terms
evaluated-bound weights terms bound is_bound =
    let least = is_bound.least in
    let most = is_bound.most in
    let whole = sum_inside-outside terms weights.weight weights.max in
    omega arith

-- the bounds of two sides, merged
pub IsBound-merge : (weights : Weights) (m n left right : ℕ) → bit_and m n ≡ 0 → IsBound weights m left → IsBound weights n right →
    IsBound weights (bit_or m n) ((left - rest weights m) + (right - rest weights n) + rest weights (bit_or m n))
IsBound-merge weights m n left right apart is_left is_right =
    let l = evaluated-bound weights m left is_left in
    let r = evaluated-bound weights n right is_right in
    let both = sum_inside-union m n weights.weight weights.max apart in
    IsBound-sum weights (bit_or m n) ((left - rest weights m) + (right - rest weights n)) (omega arith)

-- what terms can give is within the limit
pub most_evaluated-limit : (weights : Weights) (terms : ℕ) → IsWeights weights → most_evaluated weights terms ≤ score_limit
most_evaluated-limit weights terms limits =
    let whole = sum_inside-outside terms weights.weight weights.max in
    let most = greatest_score-limit weights limits in
    omega arith

-- a bound is within the limit
pub bound-limit : (weights : Weights) (terms bound : ℕ) → IsWeights weights → IsBound weights terms bound → bound ≤ score_limit
bound-limit weights terms bound limits is_bound =
    let most = is_bound.most in
    let limit = greatest_score-limit weights limits in
    omega arith

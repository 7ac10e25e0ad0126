-- Products over a mask, and quotients that are rounded up.
use Rattle.std.proofs.Common.{ℕ, zero, suc, ◌≡◌, ◌∙◌, ◌+◌, ◌*◌, ◌/◌, ◌%◌, ◌^◌, ◌<◌, ◌≤◌, Bool, true, false, cond, eqb, List, [], ◌∷◌, count_ones, length, drop, get_or, refl, sym, ap, subst, arith}
use Rattle.std.specs.List.{AllByRecursion}
use Rattle.std.proofs.lemmas.List.{drop_all}
use Rattle.std.proofs.lemmas.Nat.{mul-le, ones_le_self}
use Rattle.std.proofs.Math.Nat.{mul_assoc, pow-suc}
use Rattle.std.proofs.Math.Seq.{drop-cons}
use lib.Count.{ones_step}
use Rattle.rs_rank.proofs.MaskFacts.{even-power, half-behind, half-power}
use Rattle.rs_order.proofs.EachFacts.{each-get_or}
use Rattle.rs_sample.specs.Quotients.{most_expected, product_inside}

-- what the entry at a place gives to a product
abbrev pub factor : ℕ → List ℕ → ℕ → ℕ
factor mask numbers place = cond (eqb (mask / 2 ^ place % 2) 0) 1 (get_or numbers place 0)

-- a product from some place on: the factor at the place, and those behind it
product-step : (mask place : ℕ) (numbers : List ℕ) → place < length numbers
    → product_inside (mask / 2 ^ place) (drop place numbers) ≡ factor mask numbers place * product_inside (mask / 2 ^ suc place) (drop (suc place) numbers)
product-step mask place numbers within = rw (drop-cons numbers place 0 within, half-behind mask place) refl

-- the factor at the place moves it one on
pub product-more : (mask place product : ℕ) (numbers : List ℕ) → place < length numbers
    → product * product_inside (mask / 2 ^ place) (drop place numbers) ≡ product_inside mask numbers
    → product * factor mask numbers place * product_inside (mask / 2 ^ (place + 1)) (drop (place + 1) numbers) ≡ product_inside mask numbers
product-more mask place product numbers within so_far =
    ap (λ n. product * factor mask numbers place * product_inside (mask / 2 ^ n) (drop n numbers)) (let one : place + 1 ≡ suc place = omega arith in one)
    ∙ mul_assoc product (factor mask numbers place) (product_inside (mask / 2 ^ suc place) (drop (suc place) numbers))
    ∙ ap (λ n. product * n) (sym (product-step mask place numbers within)) ∙ so_far

-- behind the last place it is whole
pub product-all : (mask place product : ℕ) (numbers : List ℕ) → length numbers ≤ place
    → product * product_inside (mask / 2 ^ place) (drop place numbers) ≡ product_inside mask numbers → product ≡ product_inside mask numbers
product-all mask place product numbers all so_far =
    let none = ap (λ ns. product * product_inside (mask / 2 ^ place) ns) (drop_all place numbers all) in
    let one : product * 1 ≡ product = omega arith in
    sym one ∙ sym none ∙ so_far

-- a factor is within its limit
pub factor-limit : (most mask place : ℕ) (numbers : List ℕ) → 1 ≤ most → AllByRecursion (λ number. number ≤ most) numbers → place < length numbers → factor mask numbers place ≤ most
factor-limit most mask place numbers some few within = go (eqb (mask / 2 ^ place % 2) 0) where
  go : (b : Bool) → cond b 1 (get_or numbers place 0) ≤ most
  go true = some
  go false = each-get_or (λ number. number ≤ most) numbers place 0 few within

-- a power, and one more factor
pub power-more : (most place product factor : ℕ) → product ≤ most ^ place → factor ≤ most → product * factor ≤ most ^ (place + 1)
power-more most place product factor few least =
    let step = mul-le product factor (most ^ place) most few least in
    let power = pow-suc most place in
    let one : place + 1 ≡ suc place = omega arith in
    subst (λ n. product * factor ≤ most ^ n) (sym one) (omega arith)

-- the product is within the limit of its mask
one-limit : (bit number later rest : ℕ) → bit < 2 → number ≤ 131072 → later ≤ 131072 ^ rest → cond (eqb bit 0) 1 number * later ≤ 131072 ^ (bit + rest)
one-limit zero number later rest small few least =
    subst (λ n. 1 * later ≤ 131072 ^ n) (let none : rest ≡ 0 + rest = omega arith in none) (omega arith)
one-limit (suc zero) number later rest small few least =
    let step = mul-le number later 131072 (131072 ^ rest) few least in
    let power = pow-suc 131072 rest in
    subst (λ n. number * later ≤ 131072 ^ n) (let one : suc rest ≡ 1 + rest = omega arith in one) (omega arith)
one-limit (suc (suc bit)) number later rest small few least = absurd (omega arith)

power-some : (n : ℕ) → 1 ≤ 131072 ^ n
power-some zero = omega arith
power-some (suc n) = let power = pow-suc 131072 n in let before = power-some n in omega arith

pub product-limit : (mask : ℕ) (numbers : List ℕ) → AllByRecursion (λ number. number ≤ 131072) numbers → product_inside mask numbers ≤ most_expected mask
product-limit mask [] few = power-some (count_ones mask)
product-limit mask (number ∷ numbers) few =
    subst (λ n. cond (eqb (mask % 2) 0) 1 number * product_inside (mask / 2) numbers ≤ 131072 ^ n) (sym (ones_step mask))
    (one-limit (mask % 2) number (product_inside (mask / 2) numbers) (count_ones (mask / 2)) (omega arith) few.0 (product-limit (mask / 2) numbers few.1))

-- one entry
pub ones-one : (k : ℕ) → count_ones (2 ^ k) ≡ 1
ones-one zero = (let step = ones_step 1 in let none = ones_le_self 0 in omega arith)
ones-one (suc k) =
    let step = ones_step (2 ^ suc k) in
    let even = even-power k in
    let half = ap count_ones (half-power k) in
    let before = ones-one k in
    omega arith

pub most-one : (k : ℕ) → most_expected (2 ^ k) ≡ 131072
most-one k = ap (λ n. 131072 ^ n) (ones-one k)

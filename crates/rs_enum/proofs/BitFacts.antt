-- Masks of entries and terms, bit by bit: unions, what is left of one, and masks in masks.
use Rattle.std.proofs.Common.{◌≡◌, ◌≢◌, ℕ, zero, suc, ◌+◌, ◌-◌, ◌*◌, ◌/◌, ◌%◌, ◌^◌, ◌<◌, ◌≤◌, min, Bool, true, false, nat_eq, ◌==◌, bit_and, bit_or, bit_xor, count_ones, refl, sym, ◌∙◌, ap, arith}
use Rattle.std.specs.Int.{bit_at}
use Rattle.std.specs.Int.Bits.{or_add_and}
use Rattle.std.proofs.lemmas.Bool.{eqb-false, eqb-true}
use Rattle.std.proofs.lemmas.Nat.{and_comm, ones_le_self, or_comm, pow_pos}
use Rattle.std.proofs.lemmas.Nat.Bits.{and_pow, bit_at-lt, bit_at-pow_other, bit_at-pow_same, bit_at-zero, bit_at_and, bit_at_or, bit_at_xor, same_from_bits}
use Rattle.std.proofs.Math.Nat.{pow-suc}
use lib.Count.{ones_step}
use Rattle.rs_rank.specs.Masks.{has_number, mask_of}
use Rattle.rs_rank.proofs.MaskFacts.{bit_and-first, bit_and-others, bit_or-first, bit_or-others, even-power, half-power}

-- one bit of two masks that have none in common, and of one mask in another one
apart-bit : (a b i : ℕ) → bit_and a b ≡ 0 → min (bit_at a i) (bit_at b i) ≡ 0
apart-bit a b i apart = sym (bit_at_and a b i) ∙ ap (λ n. bit_at n i) apart ∙ bit_at-zero i

pub inside-bit : (a b i : ℕ) → bit_and a b ≡ a → min (bit_at a i) (bit_at b i) ≡ bit_at a i
inside-bit a b i inside = sym (bit_at_and a b i) ∙ ap (λ n. bit_at n i) inside

-- of a union of two that are apart, what is left without the one is the other
pub left-of-union : (a b : ℕ) → bit_and a b ≡ 0 → bit_xor (bit_or a b) a ≡ b
left-of-union a b apart = same_from_bits (bit_xor (bit_or a b) a) b (λ i.
    let e = apart-bit a b i apart in
    let x = bit_at_xor (bit_or a b) a i in
    let o = bit_at_or a b i in
    let la = bit_at-lt a i in
    let lb = bit_at-lt b i in
    omega arith)

pub left-without : (a b : ℕ) → bit_and a b ≡ 0 → bit_xor (bit_or a b) b ≡ a
left-without a b apart = same_from_bits (bit_xor (bit_or a b) b) a (λ i.
    let e = apart-bit a b i apart in
    let x = bit_at_xor (bit_or a b) b i in
    let o = bit_at_or a b i in
    let la = bit_at-lt a i in
    let lb = bit_at-lt b i in
    omega arith)

-- a part and what is left are the whole, and have nothing in common
pub part-and-left : (a s : ℕ) → bit_and a s ≡ a → bit_or a (bit_xor s a) ≡ s
part-and-left a s inside = same_from_bits (bit_or a (bit_xor s a)) s (λ i.
    let e = inside-bit a s i inside in
    let x = bit_at_xor s a i in
    let o = bit_at_or a (bit_xor s a) i in
    let la = bit_at-lt a i in
    let ls = bit_at-lt s i in
    omega arith)

pub part-apart : (a s : ℕ) → bit_and a s ≡ a → bit_and a (bit_xor s a) ≡ 0
part-apart a s inside = same_from_bits (bit_and a (bit_xor s a)) 0 (λ i.
    let e = inside-bit a s i inside in
    let x = bit_at_xor s a i in
    let n = bit_at_and a (bit_xor s a) i in
    let la = bit_at-lt a i in
    let ls = bit_at-lt s i in
    let z = bit_at-zero i in
    omega arith)

-- of the union of what is in a mask and what has nothing of it, the mask has the one
pub kept-of-union : (l r w : ℕ) → bit_and l w ≡ l → bit_and r w ≡ 0 → bit_and (bit_or l r) w ≡ l
kept-of-union l r w inside apart = same_from_bits (bit_and (bit_or l r) w) l (λ i.
    let e = inside-bit l w i inside in
    let f = apart-bit r w i apart in
    let n = bit_at_and (bit_or l r) w i in
    let o = bit_at_or l r i in
    omega arith)

-- each of two masks is in their union, and their union is where both are
pub inside-union-left : (a b : ℕ) → bit_and a (bit_or a b) ≡ a
inside-union-left a b = same_from_bits (bit_and a (bit_or a b)) a (λ i.
    let n = bit_at_and a (bit_or a b) i in
    let o = bit_at_or a b i in
    omega arith)

pub inside-union-right : (a b : ℕ) → bit_and b (bit_or a b) ≡ b
inside-union-right a b = same_from_bits (bit_and b (bit_or a b)) b (λ i.
    let n = bit_at_and b (bit_or a b) i in
    let o = bit_at_or a b i in
    omega arith)

pub union-inside : (a b w : ℕ) → bit_and a w ≡ a → bit_and b w ≡ b → bit_and (bit_or a b) w ≡ bit_or a b
union-inside a b w first second = same_from_bits (bit_and (bit_or a b) w) (bit_or a b) (λ i.
    let e = inside-bit a w i first in
    let f = inside-bit b w i second in
    let n = bit_at_and (bit_or a b) w i in
    let o = bit_at_or a b i in
    omega arith)

pub inside-inside : (a b c : ℕ) → bit_and a b ≡ a → bit_and b c ≡ b → bit_and a c ≡ a
inside-inside a b c first second = same_from_bits (bit_and a c) a (λ i.
    let e = inside-bit a b i first in
    let f = inside-bit b c i second in
    let n = bit_at_and a c i in
    omega arith)

-- parts of two masks that are apart are apart
pub parts-apart : (l r v w : ℕ) → bit_and l v ≡ l → bit_and r w ≡ r → bit_and v w ≡ 0 → bit_and l r ≡ 0
parts-apart l r v w left right apart = same_from_bits (bit_and l r) 0 (λ i.
    let e = inside-bit l v i left in
    let f = inside-bit r w i right in
    let g = apart-bit v w i apart in
    let n = bit_at_and l r i in
    let z = bit_at-zero i in
    omega arith)

pub part-apart-from : (r v w : ℕ) → bit_and r w ≡ r → bit_and v w ≡ 0 → bit_and r v ≡ 0
part-apart-from r v w right apart = same_from_bits (bit_and r v) 0 (λ i.
    let f = inside-bit r w i right in
    let g = apart-bit v w i apart in
    let n = bit_at_and r v i in
    let z = bit_at-zero i in
    omega arith)

pub apart-back : (a b : ℕ) → bit_and a b ≡ 0 → bit_and b a ≡ 0
apart-back a b apart = and_comm b a ∙ apart

-- two masks that are apart add up to their union
pub union-sum : (a b : ℕ) → bit_and a b ≡ 0 → bit_or a b ≡ a + b
union-sum a b apart = let e = or_add_and a b in omega arith

-- the mask of one number
pub number-bit : (mask number : ℕ) → has_number mask number ≡ true → bit_at mask (number - 1) ≡ 1
number-bit mask number has = eqb-true (bit_at mask (number - 1)) 1 has

pub no_number-bit : (mask number : ℕ) → has_number mask number ≡ false → bit_at mask (number - 1) ≡ 0
no_number-bit mask number has =
    let apart = eqb-false (bit_at mask (number - 1)) 1 has in
    let less = bit_at-lt mask (number - 1) in
    omega arith

pub number-inside : (mask number : ℕ) → has_number mask number ≡ true → bit_and (mask_of number) mask ≡ mask_of number
number-inside mask number has =
    let bit = number-bit mask number has in
    let both = and_pow mask (number - 1) in
    let one : bit_at mask (number - 1) * 2 ^ (number - 1) ≡ 1 * 2 ^ (number - 1) = ap (λ n. n * 2 ^ (number - 1)) bit in
    and_comm (mask_of number) mask ∙ both ∙ one ∙ (omega arith)

pub number-apart : (mask number : ℕ) → has_number mask number ≡ false → bit_and mask (mask_of number) ≡ 0
number-apart mask number has =
    let bit = no_number-bit mask number has in
    and_pow mask (number - 1) ∙ ap (λ n. n * 2 ^ (number - 1)) bit ∙ (omega arith)

-- what is left of a mask without a number doesn't have it
pub left-has_not : (mask number : ℕ) → has_number mask number ≡ true → has_number (bit_xor mask (mask_of number)) number ≡ false
left-has_not mask number has =
    let bit = number-bit mask number has in
    let own = bit_at-pow_same (number - 1) in
    let x = bit_at_xor mask (mask_of number) (number - 1) in
    let none : bit_at (bit_xor mask (mask_of number)) (number - 1) ≡ 0 = omega arith in
    ap (λ n. n == 1) none

-- different numbers have different masks
pub mask-number : (a b : ℕ) → 1 ≤ a → 1 ≤ b → mask_of a ≡ mask_of b → a ≡ b
mask-number a b some_a some_b same = go (nat_eq (a - 1) (b - 1)) refl where
  go : (t : Bool) → nat_eq (a - 1) (b - 1) ≡ t → a ≡ b
  go true e = let f = eqb-true (a - 1) (b - 1) e in omega arith
  go false e =
      let other : a - 1 ≢ b - 1 = eqb-false (a - 1) (b - 1) e in
      let own = bit_at-pow_same (a - 1) in
      let none = bit_at-pow_other (b - 1) (a - 1) other in
      let bits = ap (λ n. bit_at n (a - 1)) same in
      absurd (let no : 1 ≡ 0 = sym own ∙ bits ∙ none in omega arith)

-- how many numbers a mask has
pub ones-zero : count_ones 0 ≡ 0
ones-zero = let less = ones_le_self 0 in omega arith

pub ones-or : (k a b : ℕ) → a < 2 ^ k → b < 2 ^ k → bit_and a b ≡ 0 → count_ones (bit_or a b) ≡ count_ones a + count_ones b
ones-or zero a b small_a small_b apart =
    let none_a : a ≡ 0 = omega arith in
    let none_b : b ≡ 0 = omega arith in
    let whole : count_ones (bit_or a b) ≡ count_ones 0 = λ at. count_ones (bit_or (none_a at) (none_b at)) in
    let first = ap count_ones none_a in
    let second = ap count_ones none_b in
    let zero_ones = ones-zero in
    omega arith
ones-or (suc k) a b small_a small_b apart =
    let power = pow-suc 2 k in
    let half_a : a / 2 < 2 ^ k = omega arith in
    let half_b : b / 2 < 2 ^ k = omega arith in
    let half_apart : bit_and (a / 2) (b / 2) ≡ 0 = sym (bit_and-others a b) ∙ ap (λ n. n / 2) apart in
    let behind = ones-or k (a / 2) (b / 2) half_a half_b half_apart in
    let first_apart : min (a % 2) (b % 2) ≡ 0 = sym (bit_and-first a b) ∙ ap (λ n. n % 2) apart in
    let others : count_ones (bit_or a b / 2) ≡ count_ones (bit_or (a / 2) (b / 2)) = ap count_ones (bit_or-others a b) in
    let first = bit_or-first a b in
    let whole_step = ones_step (bit_or a b) in
    let a_step = ones_step a in
    let b_step = ones_step b in
    omega arith

pub ones-mask : (i : ℕ) → count_ones (2 ^ i) ≡ 1
ones-mask zero =
    let s = ones_step 1 in
    let z : count_ones (1 / 2) ≡ count_ones 0 = refl in
    let none = ones-zero in
    omega arith
ones-mask (suc i) =
    let s = ones_step (2 ^ suc i) in
    let half = ap count_ones (half-power i) in
    let even = even-power i in
    let behind = ones-mask i in
    omega arith

-- a mask without one of its numbers is less
pub less-without : (mask number : ℕ) → has_number mask number ≡ true → bit_xor mask (mask_of number) < mask
less-without mask number has =
    let left = bit_xor mask (mask_of number) in
    let whole : bit_or left (mask_of number) ≡ mask = or_comm left (mask_of number) ∙ part-and-left (mask_of number) mask (number-inside mask number has) in
    let sum = union-sum left (mask_of number) (number-apart left number (left-has_not mask number has)) in
    let own : 0 < mask_of number = pow_pos (number - 1) in
    omega arith

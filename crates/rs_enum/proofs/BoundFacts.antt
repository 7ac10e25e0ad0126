-- How much the nodes of a plan add to what it can cost at most.
use Rattle.std.proofs.Common.{◌≡◌, ℕ, ◌+◌, ◌-◌, ◌*◌, ◌^◌, ◌<◌, ◌≤◌, false, refl, subst, arith, bit_or, count_ones}
use Rattle.std.proofs.lemmas.Nat.{mul-le, ones-le, or_lt, pow-add, pow_below}
use Rattle.std.proofs.Math.Nat.{pow-le-pow_right}
use Rattle.rs_rank.specs.Masks.{AreDisjoint, has_number, mask_of}
use Rattle.rs_plan.specs.Numbers.{IsUpTo}
use Rattle.rs_enum.specs.Bounds.{most_cost, most_set_cost}
use Rattle.rs_enum.proofs.BitFacts.{number-apart, ones-mask, ones-or}

-- some of six entries have at most this many combinations
pub rows-most : (mask rows : ℕ) → mask < 2 ^ 6 → rows ≤ 131072 ^ count_ones mask → rows ≤ 2 ^ 102
rows-most mask rows small few =
    let ones : count_ones mask ≤ 6 = ones-le 6 mask small in
    let power : 131072 ^ count_ones mask ≤ 131072 ^ 6 = pow-le-pow_right {n = 131072} (omega arith) ones in
    let six : 131072 ^ 6 ≡ 2 ^ 102 = refl in
    omega arith

-- this many pairs of rows of two sides
pub pairs-most : (left right a b : ℕ) → left < 2 ^ 6 → right < 2 ^ 6 → AreDisjoint left right → a ≤ 131072 ^ count_ones left → b ≤ 131072 ^ count_ones right
    → a * b ≤ 2 ^ 102
pairs-most left right a b small_left small_right apart few_left few_right =
    let product : a * b ≤ 131072 ^ count_ones left * 131072 ^ count_ones right =
    mul-le a b (131072 ^ count_ones left) (131072 ^ count_ones right) few_left few_right in
    let sum : 131072 ^ (count_ones left + count_ones right) ≡ 131072 ^ count_ones left * 131072 ^ count_ones right =
    pow-add 131072 (count_ones left) (count_ones right) in
    let both = ones-or 6 left right small_left small_right apart in
    let whole : count_ones (bit_or left right) ≤ 6 = ones-le 6 (bit_or left right) (or_lt 6 left right small_left small_right) in
    let six : count_ones left + count_ones right ≤ 6 = omega arith in
    let power : 131072 ^ (count_ones left + count_ones right) ≤ 131072 ^ 6 = pow-le-pow_right {n = 131072} (omega arith) six in
    let last : 131072 ^ 6 ≡ 2 ^ 102 = refl in
    let most : 131072 ^ count_ones left * 131072 ^ count_ones right ≤ 2 ^ 102 = subst (λ n. n ≤ 2 ^ 102) sum (omega arith) in
    le-le (a * b) (131072 ^ count_ones left * 131072 ^ count_ones right) (2 ^ 102) product most
  where
    le-le : (x y z : ℕ) → x ≤ y → y ≤ z → x ≤ z
    le-le x y z first second = omega arith

-- a call for each of this many rows
pub calls-most : (rows call : ℕ) → rows ≤ 2 ^ 102 → call < 2 ^ 16 → rows * call ≤ 2 ^ 118
calls-most rows call few small =
    let product : rows * call ≤ 2 ^ 102 * 2 ^ 16 = mul-le rows call (2 ^ 102) (2 ^ 16) few (omega arith) in
    product

pub set_calls-most : (rows call : ℕ) → rows ≤ 2 ^ 103 → call < 2 ^ 16 → rows * call ≤ 2 ^ 119
set_calls-most rows call few small =
    let product : rows * call ≤ 2 ^ 103 * 2 ^ 16 = mul-le rows call (2 ^ 103) (2 ^ 16) few (omega arith) in
    product

-- one term more
pub ones-rank : (evaluated number : ℕ) → evaluated < 2 ^ 8 → IsUpTo 8 number → has_number evaluated number ≡ false
    → count_ones (bit_or evaluated (mask_of number)) ≡ count_ones evaluated + 1
ones-rank evaluated number small is absent =
    let some = is.some in
    let within = is.within in
    let below : mask_of number < 2 ^ 8 = pow_below (number - 1) 8 (omega arith) in
    let sum = ones-or 8 evaluated (mask_of number) small below (number-apart evaluated number absent) in
    let one = ones-mask (number - 1) in
    omega arith

-- what scans can cost
pub most-scan : (entry rows : ℕ) → rows ≤ 2 ^ 18 → rows + 2 ^ 105 ≤ most_cost (mask_of entry) 0
most-scan entry rows few =
    let one = ones-mask (entry - 1) in
    omega arith

pub most-rank_scan : (entry term rows : ℕ) → rows ≤ 2 ^ 18 → rows + 2 ^ 105 ≤ most_cost (mask_of entry) (mask_of term)
most-rank_scan entry term rows few =
    let one = ones-mask (entry - 1) in
    let other = ones-mask (term - 1) in
    omega arith

-- both sides of a join
pub most-join : (left right first second : ℕ) → left < 2 ^ 6 → right < 2 ^ 6 → AreDisjoint left right → first < 2 ^ 8 → second < 2 ^ 8 → AreDisjoint first second
    → most_cost (bit_or left right) (bit_or first second) ≡ most_cost left first + most_cost right second
most-join left right first second small_left small_right apart small_first small_second terms_apart =
    let entries_sum = ones-or 6 left right small_left small_right apart in
    let terms_sum = ones-or 8 first second small_first small_second terms_apart in
    omega arith

-- all costs fit
pub most-fits : (entries terms : ℕ) → entries < 2 ^ 6 → terms < 2 ^ 8 → most_cost entries terms < 2 ^ 122
most-fits entries terms small_entries small_terms =
    let some : count_ones entries ≤ 6 = ones-le 6 entries small_entries in
    let others : count_ones terms ≤ 8 = ones-le 8 terms small_terms in
    omega arith

pub most-set-fits : (terms : ℕ) → terms < 2 ^ 8 → most_set_cost terms < 2 ^ 123
most-set-fits terms small =
    let some : count_ones terms ≤ 8 = ones-le 8 terms small in
    omega arith

-- two sides of a set operator
pub most-sides : (left right evaluated : ℕ) → left < 2 ^ 6 → right < 2 ^ 6 → most_cost left evaluated + most_cost right evaluated + 2 ^ 103 ≤ most_set_cost evaluated
most-sides left right evaluated small_left small_right =
    let some : count_ones left ≤ 6 = ones-le 6 left small_left in
    let others : count_ones right ≤ 6 = ones-le 6 right small_right in
    omega arith

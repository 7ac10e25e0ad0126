-- The sums of the accesses of all lists, by how deep the scan is.
use Rattle.std.proofs.Common.{◌≡◌, ◌∙◌, ℕ, zero, suc, ◌+◌, ◌*◌, ◌<◌, ◌≤◌, not, eqb, List, length, map, sum, refl, sym, ap₂, arith}
use Rattle.std.proofs.lemmas.List.{length-map}
use Rattle.std.proofs.lemmas.List.Sums.{sum_by-cons}
use Rattle.std.proofs.Math.Nat.{suc-mul}
use Rattle.std.proofs.lemmas.Nat.{mul-le}
use Rattle.rs_order.specs.Schedule.{numbers_from}
use Rattle.rs_order.proofs.ClimbingFacts.{AllByRecursion-from_In}
use Rattle.rs_order.proofs.ItemFacts.{filter-less}
use Rattle.rs_ta.specs.Depths.{ScanInput, Sight, depth, first_sights, lookups, rows_shown, sights}
use Rattle.rs_ta.specs.Lists.{AreRanked, IsRow, ListsState, rows_in, total}
use Rattle.rs_ta.specs.Scans.{AreAccessed}
use Rattle.rs_ta.proofs.AdvanceFacts.{past-sights}
use Rattle.rs_ta.proofs.DepthFacts.{depth-most}
use Rattle.rs_ta.proofs.NumberFacts.{few-apart}
use Rattle.rs_ta.proofs.SightFacts.{apart-shown}

-- two functions that agree on some numbers
sum-same : (f g : ℕ → ℕ) (first count : ℕ) → ((n : ℕ) → first ≤ n → n < first + count → f n ≡ g n) → sum (map f (numbers_from first count)) ≡ sum (map g (numbers_from first count))
sum-same f g first zero same = refl
sum-same f g first (suc count) same =
    sum_by-cons (λ n. n) (f first) (map f (numbers_from (suc first) count))
    ∙ ap₂ (λ y rest. y + rest) (same first (omega arith) (omega arith)) (sum-same f g (suc first) count (λ n least most. same n (omega arith) (omega arith)))
    ∙ sym (sum_by-cons (λ n. n) (g first) (map g (numbers_from (suc first) count)))

sum-constant : (k first count : ℕ) → sum (map (λ n. k) (numbers_from first count)) ≡ count * k
sum-constant k first zero = omega arith
sum-constant k first (suc count) =
    let rest = sum-constant k (suc first) count in
    let product = suc-mul count k in
    let whole = sum_by-cons (λ n. n) k (map (λ n. k) (numbers_from (suc first) count)) in
    omega arith

sum-most : (f : ℕ → ℕ) (k first count : ℕ) → ((n : ℕ) → f n ≤ k) → sum (map f (numbers_from first count)) ≤ count * k
sum-most f k first zero most = omega arith
sum-most f k first (suc count) most =
    let rest = sum-most f k (suc first) count most in
    let here = most first in
    let product = suc-mul count k in
    let whole = sum_by-cons (λ n. n) (f first) (map f (numbers_from (suc first) count)) in
    omega arith

module _ (i : ScanInput) (asks : ℕ) (state : ListsState) (are : AreAccessed i asks state) where
  pub sorted-in_all : total (length i.lists) state.sorted_count ≡ length i.lists * depth i asks
  sorted-in_all =
      sum-same state.sorted_count (λ list. depth i asks) 1 (length i.lists) (λ list some most. are.sorted list (record { some = some; within = omega arith }))
      ∙ sum-constant (depth i asks) 1 (length i.lists)

  pub random-in_all : total (length i.lists) state.random_count ≡ total (length i.lists) (lookups (sights i.lists (depth i asks)))
  random-in_all =
      sum-same state.random_count (lookups (sights i.lists (depth i asks))) 1 (length i.lists) (λ list some most. are.random.counts list (record { some = some; within = omega arith }))

module _ (i : ScanInput) (asks : ℕ) (are : AreRanked i.lists) where
  -- a list is looked up no more often than there are rows
  few-lookups : (list : ℕ) → lookups (sights i.lists (depth i asks)) list ≤ rows_in i.lists
  few-lookups list =
      let shown : List Sight = sights i.lists (depth i asks) in
      let some = filter-less (λ (sight : Sight). not (eqb sight.list list)) (first_sights shown) in
      let rows = length-map (first_sights shown) (λ (sight : Sight). sight.row) in
      let few = few-apart (rows_in i.lists) (rows_shown shown) (AllByRecursion-from_In (IsRow (rows_in i.lists)) (rows_shown shown) (past-sights i are (depth i asks) (depth-most i asks)).are_rows) (apart-shown shown) in
      omega arith

  pub few-sorted : length i.lists * depth i asks ≤ 8 * rows_in i.lists
  few-sorted = mul-le (length i.lists) (depth i asks) 8 (rows_in i.lists) are.most (depth-most i asks)

  pub few-random : total (length i.lists) (lookups (sights i.lists (depth i asks))) ≤ 8 * rows_in i.lists
  few-random =
      let all = sum-most (lookups (sights i.lists (depth i asks))) (rows_in i.lists) 1 (length i.lists) few-lookups in
      let most = mul-le (length i.lists) (rows_in i.lists) 8 (rows_in i.lists) are.most (let same : rows_in i.lists ≤ rows_in i.lists = omega arith in same) in
      omega arith

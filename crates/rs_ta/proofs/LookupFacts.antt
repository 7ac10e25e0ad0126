-- Looking a row up list by list: the sum so far and that of the lists to come are the whole, and each list behind is counted.
use Rattle.std.proofs.Common.{◌≡◌, ℕ, ◌+◌, ◌-◌, ◌*◌, ◌<◌, ◌≤◌, ◌&&◌, Bool, true, false, cond, not, eqb, leb, List, [], ◌∷◌, length, get_or, drop, map, refl, sym, ◌∙◌, ap, subst, inl, inr, arith}
use Rattle.std.proofs.lemmas.Bool.{cases_order, eq-eqb, le-leb, lt-leb, ne_eqb}
use Rattle.std.proofs.lemmas.List.{drop_all, drop_more}
use Rattle.std.proofs.lemmas.Nat.{mul-le}
use Rattle.rs_value.specs.Faults.{raised}
use Rattle.rs_order.proofs.EachFacts.{each-get_or}
use Rattle.rs_rank.specs.declared.scored_row.ScoredRow.{ScoredRow}
use Rattle.rs_rank.specs.declared.weights.Weights.{Weights}
use Rattle.rs_rank.specs.Weights.{IsWeights}
use Rattle.rs_ta.specs.Depths.{lookups_of, weighted_sum}
use Rattle.rs_ta.specs.Lists.{AreSame, AreTold, IsList, ListsState, list_at, score_of}
use Rattle.rs_ta.specs.Lookups.{AreRaisedBut, IsRaisedUnless}
use Rattle.rs_ta.proofs.ToldFacts.{lookup_unless, lookups_of-next, told-none, told-then}

-- the product of the first weight and score, and the rest
pub weighted_sum-more : (f : List ScoredRow → ℕ) (weights : List ℕ) (lists : List (List ScoredRow)) (place : ℕ) → place < length weights → place < length lists →
    weighted_sum (drop place weights) (map f (drop place lists)) ≡ get_or weights place 0 * f (get_or lists place []) + weighted_sum (drop (place + 1) weights) (map f (drop (place + 1) lists))
weighted_sum-more f weights lists place w l =
    ap (λ ws. weighted_sum ws (map f (drop place lists))) (drop_more weights place 0 w)
    ∙ ap (λ ls. weighted_sum (get_or weights place 0 ∷ drop (place + 1) weights) (map f ls)) (drop_more lists place [] l)

-- nothing is left
pub weighted_sum-all : (f : List ScoredRow → ℕ) (weights : List ℕ) (lists : List (List ScoredRow)) (place : ℕ) → length lists ≤ place → weighted_sum (drop place weights) (map f (drop place lists)) ≡ 0
weighted_sum-all f weights lists place past = ap (λ ls. weighted_sum (drop place weights) (map f ls)) (drop_all place lists past) ∙ none (drop place weights)
  where
    none : (weights : List ℕ) → weighted_sum weights [] ≡ 0
    none [] = refl
    none (weight ∷ weights) = refl

-- a product of a weight and a score
pub share-low : (weights : Weights) (place score : ℕ) → IsWeights weights → place < 8 → score ≤ 4294967295 → get_or weights.weight place 0 * score ≤ 4294967295000000
share-low weights place score limits within low =
    let count = limits.weight_count in
    let small = each-get_or (λ weight. weight ≤ 1000000) weights.weight place 0 limits.weight_limit (omega arith) in
    let product = mul-le (get_or weights.weight place 0) score 1000000 4294967295 small low in
    omega arith

-- the list of a number, by its place
pub list_at-place : (lists : List (List ScoredRow)) (place : ℕ) → list_at lists (place + 1) ≡ get_or lists place []
list_at-place lists place = let e : place + 1 - 1 ≡ place = omega arith in ap (λ n. get_or lists n []) e

-- each of the first lists is counted
counted-step : (number place shown old mid new : ℕ) → mid ≡ cond (leb number place && not (eqb number shown)) (raised old) old →
    new ≡ cond (eqb number (place + 1) && not (eqb (place + 1) shown)) (raised mid) mid → new ≡ cond (leb number (place + 1) && not (eqb number shown)) (raised old) old
counted-step number place shown old mid new m n = elim (cases_order number (place + 1)) [
  | inl same ↦
      let low : place < number = omega arith in
      let high : number ≤ place + 1 = omega arith in
      let mid_is : mid ≡ old = m ∙ ap (λ b. cond (b && not (eqb number shown)) (raised old) old) (lt-leb number place low) in
      n
      ∙ ap (λ k. cond (eqb number (place + 1) && not (eqb (place + 1) shown)) (raised k) k) mid_is
      ∙ ap (λ b. cond (b && not (eqb (place + 1) shown)) (raised old) old) (eq-eqb number (place + 1) same)
      ∙ ap (λ k. cond (not (eqb k shown)) (raised old) old) (sym same)
      ∙ sym (ap (λ b. cond (b && not (eqb number shown)) (raised old) old) (le-leb number (place + 1) high))
  | inr other ↦
      let differs : number ≡ place + 1 → ⊥ = λ e. elim other [ inl less ↦ omega arith | inr more ↦ omega arith ] in
      n
      ∙ ap (λ b. cond (b && not (eqb (place + 1) shown)) (raised mid) mid) (ne_eqb number (place + 1) differs)
      ∙ m
      ∙ ap (λ b. cond (b && not (eqb number shown)) (raised old) old) (elim other [
        | inl less ↦ let low : number ≤ place = omega arith in let high : number ≤ place + 1 = omega arith in le-leb number place low ∙ sym (le-leb number (place + 1) high)
        | inr more ↦ let low : place < number = omega arith in lt-leb number place low ∙ sym (lt-leb number (place + 1) more)
      ])
]

-- where the look-ups of a row stand behind some lists
pub record Looking (weights : List ℕ) (shown row : ℕ) (old state : ListsState) (place sum : ℕ) : Type 0 where
  pub lists_are : state.lists ≡ old.lists
  pub sum_is : sum + weighted_sum (drop place weights) (map (score_of row) (drop place old.lists)) ≡ weighted_sum weights (map (score_of row) old.lists)
  pub limit : sum ≤ place * 4294967295000000
  pub counts : (number : ℕ) → IsList old.lists number → state.random_count number ≡ cond (leb number place && not (eqb number shown)) (raised (old.random_count number)) (old.random_count number)
  pub others : AreSame old.lists old.sorted_count state.sorted_count
  pub told : AreTold (lookups_of place (record { row = row; list = shown })) old.told state.told

pub looking-start : (weights : List ℕ) (shown row : ℕ) (old : ListsState) → Looking weights shown row old old 0 0
looking-start weights shown row old = record {
  lists_are = refl;
  sum_is = omega arith;
  limit = omega arith;
  counts = λ number is.
      let some = is.some in
      let low : 0 < number = omega arith in
      sym (ap (λ b. cond (b && not (eqb number shown)) (raised (old.random_count number)) (old.random_count number)) (lt-leb number 0 low));
  others = λ number is. refl;
  told = told-none old.told;
}

-- one list more
pub looking-step : (weights : Weights) (shown row : ℕ) (old state new : ListsState) (place sum score product : ℕ) → IsWeights weights → Looking weights.weight shown row old state place sum → place < length old.lists → length old.lists ≤ 8 →
    score ≤ 4294967295 → score ≡ score_of row (list_at state.lists (place + 1)) → product ≡ get_or weights.weight place 0 * score →
    new.lists ≡ state.lists → IsRaisedUnless state.lists (place + 1) shown state.random_count new.random_count → AreSame state.lists state.sorted_count new.sorted_count →
    AreTold (lookup_unless row shown (place + 1)) state.told new.told →
    Looking weights.weight shown row old new (place + 1) (sum + product)
looking-step weights shown row old state new place sum score product limits at within most low score_is product_is lists raised_are same told =
    let count = limits.weight_count in
    let score_at : score ≡ score_of row (get_or old.lists place []) = score_is ∙ ap (λ ls. score_of row (list_at ls (place + 1))) at.lists_are ∙ ap (score_of row) (list_at-place old.lists place) in
    let product_at : product ≡ get_or weights.weight place 0 * score_of row (get_or old.lists place []) = product_is ∙ ap (λ n. get_or weights.weight place 0 * n) score_at in
    let whole = at.sum_is in
    let limit = at.limit in
    let more = weighted_sum-more (score_of row) weights.weight old.lists place (omega arith) within in
    let small = share-low weights place score limits (omega arith) low in record {
      lists_are = lists ∙ at.lists_are;
      sum_is = omega arith;
      limit = omega arith;
      counts = λ number is.
          counted-step number place shown (old.random_count number) (state.random_count number) (new.random_count number) (at.counts number is)
          (raised_are number (subst (λ ls. IsList ls number) (sym at.lists_are) is));
      others = λ number is. same number (subst (λ ls. IsList ls number) (sym at.lists_are) is) ∙ at.others number is;
      told = subst (λ made. AreTold made old.told new.told) (sym (lookups_of-next row shown place))
          (told-then (lookups_of place (record { row = row; list = shown })) (lookup_unless row shown (place + 1)) old.told state.told new.told at.told told);
    }

cond-not : (b : Bool) (x y : ℕ) → cond (not b) x y ≡ cond b y x
cond-not true x y = refl
cond-not false x y = refl

-- all lists
pub looking-sum : (weights : List ℕ) (shown row : ℕ) (old state : ListsState) (place sum : ℕ) → Looking weights shown row old state place sum → place ≡ length old.lists → sum ≡ weighted_sum weights (map (score_of row) old.lists)
looking-sum weights shown row old state place sum at all =
    let whole = at.sum_is in
    let none = weighted_sum-all (score_of row) weights old.lists place (omega arith) in
    omega arith

pub looking-counts : (weights : List ℕ) (shown row : ℕ) (old state : ListsState) (place sum : ℕ) → Looking weights shown row old state place sum → place ≡ length old.lists → AreRaisedBut old.lists shown old.random_count state.random_count
looking-counts weights shown row old state place sum at all = λ number is.
    let within = is.within in
    let low : number ≤ place = omega arith in
    at.counts number is
    ∙ ap (λ b. cond (b && not (eqb number shown)) (raised (old.random_count number)) (old.random_count number)) (le-leb number place low)
    ∙ cond-not (eqb number shown) (raised (old.random_count number)) (old.random_count number)

pub looking-told : (weights : List ℕ) (shown row : ℕ) (old state : ListsState) (place sum : ℕ) → Looking weights shown row old state place sum → place ≡ length old.lists → AreTold (lookups_of (length old.lists) (record { row = row; list = shown })) old.told state.told
looking-told weights shown row old state place sum at all = subst (λ n. AreTold (lookups_of n (record { row = row; list = shown })) old.told state.told) all at.told

-- The merge of two lists: how far it is the first one, what it has, and its order.
use Rattle.std.proofs.Common.{ℕ, zero, suc, ◌≡◌, ◌∙◌, ◌+◌, ◌++◌, true, false, not, cond, List, [], ◌∷◌, length, map, take, drop, get_or, refl, sym, ap, subst, arith}
use Rattle.std.specs.Prelude.{None, Some, is_some, slice_get, unwrap_or}
use Rattle.std.specs.Cmp.{IsTotalOrder}
use Rattle.std.specs.List.{AllByRecursion, AllWithin}
use Rattle.std.specs.List.Sorted.{IsPartitionedBy, IsPermutation, IsSortedByKey}
use Rattle.std.specs.Ordering.{is_gt, is_lt, ordering_reverse}
use Rattle.std.specs.declared.cmp.Ordering.{Ordering}
use Rattle.std.specs.declared.cmp.Ordering.TheVariants.{Less, Equal, Greater}
use Rattle.std.proofs.lemmas.Bool.{false≢true, true≢false}
use Rattle.std.proofs.lemmas.List.Elements.{recursion_from_All}
use Rattle.std.proofs.lemmas.List.Sorted.{IsPermutation-cons, IsPermutation-middle, IsPermutation-refl, IsPermutation-trans, ranks_by, sorted_far}
use Rattle.rs_order.specs.Climbing.{Ascends, IsNoLater}
use Rattle.rs_order.specs.Merging.{merged, woven}
use Rattle.rs_order.proofs.AscendingFacts.{Ascends-merged}
use Rattle.rs_order.proofs.EachFacts.{each-get_or, each-map}
use Rattle.rs_order.proofs.MergingFacts.{merged-left, merged-none, merged-right}
use Rattle.rs_order.proofs.PartFacts.{cmp-Less-behind}

-- what holds of the items up to a place, and from it on
pub each-within : {X : Type 0} (P : X → Type 0) (i : ℕ) (xs : List X) → AllWithin P xs 0 i → AllByRecursion P (take i xs)
each-within P zero xs all = tt
each-within P (suc i) [] all = tt
each-within P (suc i) (x ∷ xs) all = (all 0 x (omega arith) (omega arith), each-within P i xs (λ k d low high. all (suc k) d (omega arith) (omega arith)))

pub each-from : {X : Type 0} (P : X → Type 0) (i : ℕ) (xs : List X) → AllWithin P xs i (length xs) → AllByRecursion P (drop i xs)
each-from P zero xs all = recursion_from_All P xs (λ k d within. all k d (omega arith) within)
each-from P (suc i) [] all = tt
each-from P (suc i) (x ∷ xs) all = each-from P i xs (λ k d low high. all (suc k) d (omega arith) (omega arith))

turned-lt : (o : Ordering) → is_lt o ≡ false → is_gt (ordering_reverse o) ≡ false
turned-lt Less lt = lt
turned-lt Equal lt = refl
turned-lt Greater lt = refl

turned-gt : (o : Ordering) → is_gt o ≡ false → is_lt (ordering_reverse o) ≡ false
turned-gt Less gt = refl
turned-gt Equal gt = refl
turned-gt Greater gt = gt

module _ {X K : Type 0} (cmp : K → K → Ordering) (key : X → K) where
  first-is : (x y : X) (xs : List X) → slice_get (x ∷ xs) 0 ≡ Some y → x ≡ y
  first-is x y xs e = ap (λ o. unwrap_or o x) e

  -- with no item the merge is the other list
  pub merged-nothing : (xs ys : List X) → slice_get ys 0 ≡ None → xs ≡ merged cmp key xs ys
  merged-nothing xs [] e = sym (merged-none cmp key xs)
  merged-nothing xs (y ∷ ys) e = absurd (false≢true (sym (ap is_some e)))

  -- what comes at or before the first item of the second list stays in front
  pub merged-place : (i : ℕ) (xs ys : List X) (y : X) → slice_get ys 0 ≡ Some y → AllByRecursion (λ x. is_gt (cmp (key x) (key y)) ≡ false) (take i xs)
      → merged cmp key xs ys ≡ take i xs ++ merged cmp key (drop i xs) ys
  merged-place i xs [] y e before = absurd (true≢false (sym (ap is_some e)))
  merged-place zero xs (z ∷ ys) y e before = refl
  merged-place (suc i) [] (z ∷ ys) y e before = refl
  merged-place (suc i) (x ∷ xs) (z ∷ ys) y e before =
      merged-left cmp key x z xs ys (ap (λ w. is_gt (cmp (key x) (key w))) (first-is z y ys e) ∙ before.0)
      ∙ ap (λ rest. x ∷ rest) (merged-place i xs (z ∷ ys) y e before.1)

  -- one item comes before those that come behind it
  pub merged-one : (xs ys : List X) (y : X) → slice_get ys 0 ≡ Some y → length ys ≡ 1 → AllByRecursion (λ x. is_gt (cmp (key x) (key y)) ≡ true) xs → merged cmp key xs ys ≡ ys ++ xs
  merged-one xs [] y e one behind = absurd (omega (arith, one))
  merged-one [] (z ∷ []) y e one behind = refl
  merged-one (x ∷ xs) (z ∷ []) y e one behind =
      merged-right cmp key x z xs [] (ap (λ w. is_gt (cmp (key x) (key w))) (first-is z y [] e) ∙ behind.0)
      ∙ ap (λ rest. z ∷ rest) (merged-none cmp key (x ∷ xs))
  merged-one xs (z ∷ w ∷ ys) y e one behind = absurd (omega (arith, one))

  -- a merge has the items of both lists, each as often
  IsPermutation-woven : (x : X) (xs ys : List X) → ((ws : List X) → IsPermutation (xs ++ ws) (merged cmp key xs ws)) → IsPermutation (x ∷ (xs ++ ys)) (woven cmp key x (merged cmp key xs) ys)
  IsPermutation-woven x xs [] rest = IsPermutation-cons x (xs ++ []) (merged cmp key xs []) (rest [])
  IsPermutation-woven x xs (y ∷ ys) rest =
      elim (is_gt (cmp (key x) (key y))) as (λ b. IsPermutation (x ∷ (xs ++ y ∷ ys)) (cond b (y ∷ woven cmp key x (merged cmp key xs) ys) (x ∷ merged cmp key xs (y ∷ ys)))) [
        | true ↦ IsPermutation-trans (x ∷ (xs ++ y ∷ ys)) (y ∷ x ∷ (xs ++ ys)) (y ∷ woven cmp key x (merged cmp key xs) ys)
            (IsPermutation-middle (x ∷ xs) y ys)
            (IsPermutation-cons y (x ∷ (xs ++ ys)) (woven cmp key x (merged cmp key xs) ys) (IsPermutation-woven x xs ys rest))
        | false ↦ IsPermutation-cons x (xs ++ y ∷ ys) (merged cmp key xs (y ∷ ys)) (rest (y ∷ ys))
      ]

  pub IsPermutation-merged : (xs ys : List X) → IsPermutation (xs ++ ys) (merged cmp key xs ys)
  IsPermutation-merged [] ys = IsPermutation-refl ys
  IsPermutation-merged (x ∷ xs) ys = IsPermutation-woven x xs ys (λ ws. IsPermutation-merged xs ws)

  module _ (o : IsTotalOrder cmp) where
    -- a list in order ascends, and one that ascends is in order
    Ascends-sorted : (xs : List X) → IsSortedByKey key cmp xs → Ascends cmp key xs
    Ascends-sorted [] sorted = tt
    Ascends-sorted (x ∷ xs) sorted = (
      recursion_from_All (IsNoLater cmp key x) xs (λ k d within.
          let y = get_or xs k d in
          ap is_gt (o.antisymm (key x) (key y))
          ∙ turned-lt (cmp (key y) (key x)) (sorted_far (λ x y. is_lt (cmp (key x) (key y))) (ranks_by o key) (x ∷ xs) sorted 0 (suc k) d (omega arith) (omega arith))),
      Ascends-sorted xs (λ k d low within.
          let next : suc k + 1 ≡ suc (k + 1) = omega arith in
          subst (λ n. is_lt (cmp (key (get_or (x ∷ xs) n d)) (key (get_or xs k d))) ≡ false) next (sorted (suc k) d (omega arith) (omega arith))),
    )

    sorted-Ascends : (xs : List X) → Ascends cmp key xs → IsSortedByKey key cmp xs
    sorted-Ascends [] ascends k d low within = absurd (omega arith)
    sorted-Ascends (x ∷ xs) ascends zero d low within =
        let y = get_or xs 0 d in
        ap is_lt (o.antisymm (key y) (key x)) ∙ turned-gt (cmp (key x) (key y)) (each-get_or (IsNoLater cmp key x) xs 0 d ascends.0 (omega arith))
    sorted-Ascends (x ∷ xs) ascends (suc k) d low within =
        let next : suc (k + 1) ≡ suc k + 1 = omega arith in
        subst (λ n. is_lt (cmp (key (get_or (x ∷ xs) n d)) (key (get_or xs k d))) ≡ false) next (sorted-Ascends xs ascends.1 k d (omega arith) (omega arith))

    -- the merge of lists in order is in order
    pub sorted-merged : (xs ys : List X) → IsSortedByKey key cmp xs → IsSortedByKey key cmp ys → IsSortedByKey key cmp (merged cmp key xs ys)
    sorted-merged xs ys one other =
        sorted-Ascends (merged cmp key xs ys) (Ascends-merged cmp o key xs ys (Ascends-sorted xs one) (Ascends-sorted ys other))

    -- where an item comes at or before another one, those in front of it do
    pub partitioned : (xs : List X) (y : X) → IsSortedByKey key cmp xs → IsPartitionedBy (λ x. not (is_gt (cmp (key x) (key y)))) xs
    partitioned xs y sorted i j d le within holds =
        let a = get_or xs i d in
        let b = get_or xs j d in
        let later = sorted_far (λ x y. is_lt (cmp (key x) (key y))) (ranks_by o key) xs sorted i j d le within in
        go a b (cmp (key a) (key y)) refl later holds
      where
        go : (a b : X) (r : Ordering) → cmp (key a) (key y) ≡ r → is_lt (cmp (key b) (key a)) ≡ false → not (is_gt (cmp (key b) (key y))) ≡ true → not (is_gt (cmp (key a) (key y))) ≡ true
        go a b Less e later holds = ap (λ o. not (is_gt o)) e
        go a b Equal e later holds = ap (λ o. not (is_gt o)) e
        go a b Greater e later holds =
            let before : cmp (key y) (key a) ≡ Less = o.antisymm (key y) (key a) ∙ ap ordering_reverse e in
            let behind : cmp (key b) (key y) ≡ Greater = o.antisymm (key b) (key y) ∙ ap ordering_reverse (cmp-Less-behind cmp o (key y) (key a) (key b) before later) in
            absurd (false≢true (sym (ap (λ o. not (is_gt o)) behind) ∙ holds))

-- items that are made into others with the same keys stay in order
pub sorted-map : {X Y K : Type 0} (cmp : K → K → Ordering) (key : Y → K) (o : IsTotalOrder cmp) (f : X → Y) (xs : List X) → IsSortedByKey (λ x. key (f x)) cmp xs → IsSortedByKey key cmp (map f xs)
sorted-map {X = X} cmp key o f xs sorted = sorted-Ascends cmp key o (map f xs) (Ascends-map xs (Ascends-sorted cmp (λ x. key (f x)) o xs sorted)) where
  Ascends-map : (xs : List X) → Ascends cmp (λ x. key (f x)) xs → Ascends cmp key (map f xs)
  Ascends-map [] ascends = tt
  Ascends-map (x ∷ xs) ascends = (each-map (IsNoLater cmp key (f x)) f xs ascends.0, Ascends-map xs ascends.1)

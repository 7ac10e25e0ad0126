-- The first items of two lists, of which what is behind the first ones of each is left out.
use Rattle.std.proofs.Common.{ℕ, zero, suc, ◌≡◌, ◌∙◌, ◌+◌, ◌⊎◌, Bool, false, List, [], ◌∷◌, get_or, take, refl, sym, ap, subst, inl, inr, arith}
use Rattle.std.specs.Prelude.{◌↔◌}
use Rattle.std.specs.Cmp.{IsTotalOrder}
use Rattle.std.specs.List.{IsDistinct}
use Rattle.std.specs.List.Sorted.{IsPermutation, IsSortedByKey, IsStrictlySortedBy}
use Rattle.std.specs.Ordering.{is_eq, is_lt, ordering_reverse}
use Rattle.std.specs.declared.cmp.Ordering.{Ordering}
use Rattle.std.specs.declared.cmp.Ordering.TheVariants.{Less, Equal, Greater}
use Rattle.std.proofs.lemmas.Bool.{true≢false}
use Rattle.std.proofs.lemmas.List.{take-take}
use Rattle.std.proofs.lemmas.List.Elements.{All-from_recursion, recursion_from_All}
use Rattle.std.proofs.lemmas.List.Sorted.{All-permutation, IsPermutation-sym}
use Rattle.std.proofs.lemmas.Map.Keys.{IsDistinct-IsPermutation, apart_from_distinct, sorted_from_all_adjacent}
use Rattle.rs_order.specs.Climbing.{Climbs, Differs, HasDistinctKeys, In, IsBeyond, Precedes}
use Rattle.rs_order.proofs.ClimbingFacts.{AllByRecursion-In, AllByRecursion-from_In, Climbs-shared, cmp-not_itself}
use Rattle.rs_order.proofs.EachFacts.{each-weaker}
use Rattle.rs_order.proofs.PartFacts.{Climbs-at, Climbs-parts, Climbs-take, IsBeyond-shared, In-parts, In-take}

-- what a list has, it has in another order
pub In-moved : {X : Type 0} (xs ys : List X) → IsPermutation xs ys → (z : X) → In z xs → In z ys
In-moved xs ys moved z h =
    AllByRecursion-In (λ w. In w ys) xs
    (recursion_from_All (λ w. In w ys) xs
    (All-permutation (λ w. In w ys) ys xs (IsPermutation-sym xs ys moved)
    (All-from_recursion (λ w. In w ys) ys (AllByRecursion-from_In (λ w. In w ys) ys (λ w k. k)))))
    z h

module _ {X K : Type 0} (cmp : K → K → Ordering) (o : IsTotalOrder cmp) (key : X → K) where
  -- an item that a first one, or one behind it, precedes is behind the first one
  past : (p s x : X) (part : List X) → (s ≡ p) ⊎ Precedes cmp key p s → Precedes cmp key s x → In x (p ∷ part) → In x part
  past p s x part before less h = elim h [
    | inl e ↦ absurd (elim before [
      | inl same ↦ cmp-not_itself cmp o (key s) (subst (λ w. Precedes cmp key s w) (e ∙ sym same) less)
      | inr first ↦ cmp-not_itself cmp o (key p) (subst (λ w. Precedes cmp key p w) e (o.trans (key p) (key s) (key x) first less))
    ])
    | inr behind ↦ behind
  ]

  -- what is beyond the first n of some items of a list is beyond the first n of the list
  beyond-more : (n : ℕ) (some all : List X) (z : X) → Climbs cmp key some → Climbs cmp key all → ((x : X) → In x some → In x all) → IsBeyond cmp key n some z → IsBeyond cmp key n all z
  beyond-more zero some all z c d f h = tt
  beyond-more (suc n) [] all z c d f h = absurd h
  beyond-more (suc n) (s ∷ some) [] z c d f h = absurd (f s (inl refl))
  beyond-more (suc n) (s ∷ some) (p ∷ all) z c d f h =
      let first : (s ≡ p) ⊎ Precedes cmp key p s = elim (f s (inl refl)) [ inl e ↦ inl e | inr k ↦ inr (AllByRecursion-In (Precedes cmp key p) all d.0 s k) ] in (
        elim first [ inl e ↦ subst (λ w. Precedes cmp key w z) e h.0 | inr before ↦ o.trans (key p) (key s) (key z) before h.0 ],
        beyond-more n some all z c.1 d.1 (λ x k. past p s x all first (AllByRecursion-In (Precedes cmp key s) some c.0 x k) (f x (inr k))) h.1,
      )

  -- an item behind the first n of a list is beyond the first n of each list that has these
  beyond-first : (n : ℕ) (xs all : List X) (z : X) → Climbs cmp key xs → Climbs cmp key all → ((x : X) → In x (take n xs) → In x all) → IsBeyond cmp key n xs z → IsBeyond cmp key n all z
  beyond-first n xs all z c d f h =
      beyond-more n (take n xs) all z (Climbs-take cmp key n xs c) d f (IsBeyond-shared cmp key n xs (take n xs) z (sym (take-take n n xs (omega arith))) h)

  -- the first of all are the first of the first ones of both
  pub first-both : (n : ℕ) (xs ys parts all : List X) → Climbs cmp key xs → Climbs cmp key ys → Climbs cmp key parts → Climbs cmp key all
      → ((z : X) → In z all ↔ (In z xs ⊎ In z ys)) → ((z : X) → In z parts ↔ (In z (take n xs) ⊎ In z (take n ys))) → take n parts ≡ take n all
  first-both n xs ys parts all c d climbs whole both some =
      Climbs-shared cmp o key n parts all climbs whole
      (λ z h. elim ((some z).0 h) [ inl l ↦ (both z).1 (inl (In-take n xs z l)) | inr r ↦ (both z).1 (inr (In-take n ys z r)) ])
      (λ z h. elim ((both z).0 h) [
        | inl l ↦ elim (In-parts n xs z l) [
          | inl near ↦ inl ((some z).1 (inl near))
          | inr far ↦ inr (beyond-first n xs parts z c climbs (λ x k. (some x).1 (inl k)) (Climbs-parts cmp key n xs z c far))
        ]
        | inr r ↦ elim (In-parts n ys z r) [
          | inl near ↦ inl ((some z).1 (inr near))
          | inr far ↦ inr (beyond-first n ys parts z d climbs (λ x k. (some x).1 (inr k)) (Climbs-parts cmp key n ys z d far))
        ]
      ])

  -- the order of items by their keys
  abbrev by_key : X → X → Ordering
  by_key x y = cmp (key x) (key y)

  by_key-total : IsTotalOrder by_key
  by_key-total = record {
    antisymm = λ x y. o.antisymm (key x) (key y);
    trans = λ x y z. o.trans (key x) (key y) (key z);
    congr = λ x y z. o.congr (key x) (key y) (key z);
  }

  abbrev same_key : X → X → Bool
  same_key x y = is_eq (cmp (key x) (key y))

  same_key-flips : (x y : X) → same_key x y ≡ same_key y x
  same_key-flips x y = ap is_eq (o.antisymm (key x) (key y)) ∙ turned (cmp (key y) (key x)) where
    turned : (r : Ordering) → is_eq (ordering_reverse r) ≡ is_eq r
    turned Less = refl
    turned Equal = refl
    turned Greater = refl

  -- items that differ and don't fall rise
  below : (x y : X) → is_lt (cmp (key y) (key x)) ≡ false → same_key x y ≡ false → cmp (key x) (key y) ≡ Less
  below x y up apart = go (cmp (key x) (key y)) refl where
    go : (r : Ordering) → cmp (key x) (key y) ≡ r → cmp (key x) (key y) ≡ Less
    go Less e = e
    go Equal e = absurd (true≢false (sym (ap is_eq e) ∙ apart))
    go Greater e = absurd (true≢false (sym (ap is_lt (o.antisymm (key y) (key x) ∙ ap ordering_reverse e)) ∙ up))

  Climbs-strict : (xs : List X) → IsStrictlySortedBy by_key xs → Climbs cmp key xs
  unfolding IsStrictlySortedBy
  Climbs-strict [] s = tt
  Climbs-strict (x ∷ xs) s = (s.0, Climbs-strict xs s.1)

  apart : (x y : X) → Differs cmp key x y → same_key x y ≡ false
  apart x y differ = go (cmp (key x) (key y)) refl where
    go : (r : Ordering) → cmp (key x) (key y) ≡ r → same_key x y ≡ false
    go Less e = ap is_eq e
    go Equal e = absurd (differ e)
    go Greater e = ap is_eq e

  distinct : (xs : List X) → HasDistinctKeys cmp key xs → IsDistinct same_key xs
  unfolding IsDistinct
  distinct [] h = tt
  distinct (x ∷ xs) h = (each-weaker (Differs cmp key x) (λ y. same_key x y ≡ false) (λ y. apart x y) xs h.0, distinct xs h.1)

  Climbs-once : (xs : List X) → IsSortedByKey key cmp xs → IsDistinct same_key xs → Climbs cmp key xs
  Climbs-once [] sorted once = tt
  Climbs-once (x ∷ xs) sorted once =
      Climbs-strict (x ∷ xs)
      (sorted_from_all_adjacent by_key-total (x ∷ xs) x
      (λ k within. below (get_or (x ∷ xs) k x) (get_or (x ∷ xs) (k + 1) x) (sorted k x (omega arith) within)
      (apart_from_distinct same_key (x ∷ xs) k (k + 1) x once (omega arith) within)))

  -- items with different keys that were put into order climb
  pub Climbs-ordered : (xs ordered : List X) → HasDistinctKeys cmp key xs → IsPermutation xs ordered → IsSortedByKey key cmp ordered → Climbs cmp key ordered
  Climbs-ordered xs ordered differ moved sorted =
      Climbs-once ordered sorted (IsDistinct-IsPermutation same_key same_key-flips xs ordered moved (distinct xs differ))

  -- items that climb are in order
  pub Climbs-in_order : (xs : List X) → Climbs cmp key xs → IsSortedByKey key cmp xs
  Climbs-in_order xs climbs = λ k d low within.
      let less : cmp (key (get_or xs k d)) (key (get_or xs (k + 1) d)) ≡ Less = Climbs-at cmp key xs k (k + 1) d climbs (omega arith) within in
      ap is_lt (o.antisymm (key (get_or xs (k + 1) d)) (key (get_or xs k d)) ∙ ap ordering_reverse less)

-- A list whose keys rise that grows by items of other keys, where its first items stay: what is behind them is put in.
use Rattle.std.proofs.Common.{◌≡◌, ℕ, zero, suc, List, [], ◌∷◌, ◌++◌, take, drop, map, Some, refl, sym, ◌∙◌, ap, subst, ◌⊎◌, inl, inr}
use Rattle.std.specs.Cmp.{IsTotalOrder, tied_itself}
use Rattle.std.specs.declared.cmp.Ordering.{Ordering}
use Rattle.std.specs.declared.cmp.Ordering.TheVariants.{Less}
use Rattle.rs_order.specs.Asks.{bar_after}
use Rattle.rs_order.specs.Climbing.{Climbs, Differs, HasDistinctKeys, In, IsBeyond, Precedes}
use Rattle.rs_order.specs.Sorting.{put, put_each, sorted}
use Rattle.rs_order.proofs.ClimbingFacts.{Climbs-same, cmp-not_itself}
use Rattle.rs_order.proofs.ItemFacts.{In-append, In-left, In-right}
use Rattle.rs_order.proofs.PartFacts.{Climbs-parts, In-drop, In-parts, In-take, IsBeyond-shared, put-map}
use Rattle.rs_order.proofs.SortingFacts.{Climbs-sorted, In-sorted, In-sorted-back}
use Rattle.rs_ripple.proofs.PairFacts.{HasDistinctKeys-Climbs, HasDistinctKeys-append}

pub put_each-map : {X Y K : Type 0} (cmp : K → K → Ordering) (key : Y → K) (f : X → Y) (ordered xs : List X) → put_each cmp key (map f ordered) (map f xs) ≡ map f (put_each cmp (λ z. key (f z)) ordered xs)
put_each-map cmp key f ordered [] = refl
put_each-map cmp key f ordered (x ∷ xs) =
    ap (λ zs. put_each cmp key zs (map f xs)) (put-map cmp key f x ordered) ∙ put_each-map cmp key f (put cmp (λ z. key (f z)) x ordered) xs

put_each-append : {X K : Type 0} (cmp : K → K → Ordering) (key : X → K) (ordered xs ys : List X) → put_each cmp key ordered (xs ++ ys) ≡ put_each cmp key (put_each cmp key ordered xs) ys
put_each-append cmp key ordered [] ys = refl
put_each-append cmp key ordered (x ∷ xs) ys = put_each-append cmp key (put cmp key x ordered) xs ys

pub Climbs-drop : {X K : Type 0} (cmp : K → K → Ordering) (key : X → K) (n : ℕ) (xs : List X) → Climbs cmp key xs → Climbs cmp key (drop n xs)
Climbs-drop cmp key zero xs climbs = climbs
Climbs-drop cmp key (suc n) [] climbs = tt
Climbs-drop cmp key (suc n) (x ∷ xs) climbs = Climbs-drop cmp key n xs climbs.1

-- a list whose keys rise is sorted
pub sorted-itself : {X K : Type 0} (cmp : K → K → Ordering) → IsTotalOrder cmp → (key : X → K) (xs : List X) → Climbs cmp key xs → sorted cmp key xs ≡ xs
sorted-itself cmp o key xs climbs =
    Climbs-same cmp o key (sorted cmp key xs) xs (Climbs-sorted cmp o key xs (HasDistinctKeys-Climbs cmp key xs climbs)) climbs
    (λ z h. In-sorted-back cmp key xs z h) (λ z h. In-sorted cmp key xs z h)

-- what is beyond the first n items is none of them
IsBeyond-not_in : {X K : Type 0} (cmp : K → K → Ordering) → IsTotalOrder cmp → (key : X → K) (n : ℕ) (xs : List X) (z : X) → IsBeyond cmp key n xs z → In z (take n xs) → ⊥
IsBeyond-not_in cmp o key zero xs z beyond h = h
IsBeyond-not_in cmp o key (suc n) [] z beyond h = h
IsBeyond-not_in cmp o key (suc n) (x ∷ xs) z beyond h =
    elim h [
      | inl e ↦ cmp-not_itself cmp o (key x) (subst (λ w. Precedes cmp key x w) e beyond.0)
      | inr k ↦ IsBeyond-not_in cmp o key n xs z beyond.1 k
    ]

-- the last of the first items comes before what is beyond them
pub IsBeyond-last : {X K : Type 0} (cmp : K → K → Ordering) (key : X → K) (n : ℕ) (xs : List X) (z : X) (k : K) → IsBeyond cmp key (suc n) xs z → bar_after key xs n ≡ Some k → cmp k (key z) ≡ Less
IsBeyond-last cmp key n [] z k beyond e = absurd beyond
IsBeyond-last cmp key zero (x ∷ xs) z k beyond e = let same : key x ≡ k = cc in subst (λ l. cmp l (key z) ≡ Less) same beyond.0
IsBeyond-last cmp key (suc n) (x ∷ xs) z k beyond e = IsBeyond-last cmp key n xs z k beyond.1 e

-- a list that has all of another one, and new items beside
pub record Grows {X K : Type 0} (cmp : K → K → Ordering) (key : X → K) (old new : List X) (more : List X) : Type 0 where
  pub total : IsTotalOrder cmp
  pub old_climbs : Climbs cmp key old
  pub new_climbs : Climbs cmp key new
  pub stays : (z : X) → In z old → In z new
  pub comes : (z : X) → In z more → In z new
  pub parts : (z : X) → In z new → In z old ⊎ In z more
  pub distinct : HasDistinctKeys cmp key more
  pub apart : (z w : X) → In z old → In w more → Differs cmp key z w

module _ {X K : Type 0} (cmp : K → K → Ordering) (key : X → K) (old new more : List X) (g : Grows cmp key old new more) (n : ℕ) (shared : take n old ≡ take n new) where
  -- a new item is behind the first ones
  pub more-behind : (z : X) → In z more → In z (drop n new)
  more-behind z h =
      elim (In-parts n new z (g.comes z h)) [
        | inl first ↦ absurd (g.apart z z (In-take n old z (subst (In z) (sym shared) first)) h (tied_itself g.total (key z)))
        | inr behind ↦ behind
      ]

  -- an old one stays there
  old-behind : (z : X) → In z (drop n old) → In z (drop n new)
  old-behind z h =
      elim (In-parts n new z (g.stays z (In-drop n old z h))) [
        | inl first ↦ absurd (IsBeyond-not_in cmp g.total key n old z (Climbs-parts cmp key n old z g.old_climbs h) (subst (In z) (sym shared) first))
        | inr behind ↦ behind
      ]

  new-behind : (z : X) → In z (drop n new) → In z (drop n old ++ more)
  new-behind z h =
      elim (g.parts z (In-drop n new z h)) [
        | inl k ↦ elim (In-parts n old z k) [
          | inl first ↦ absurd (IsBeyond-not_in cmp g.total key n new z (Climbs-parts cmp key n new z g.new_climbs h) (subst (In z) shared first))
          | inr behind ↦ In-left z (drop n old) more behind
        ]
        | inr k ↦ In-right z (drop n old) more k
      ]

  -- what is behind the first ones is put in
  pub drop-grown : put_each cmp key (drop n old) more ≡ drop n new
  drop-grown =
      let old_part = Climbs-drop cmp key n old g.old_climbs in
      ap (λ zs. put_each cmp key zs more) (sym (sorted-itself cmp g.total key (drop n old) old_part))
      ∙ sym (put_each-append cmp key [] (drop n old) more)
      ∙ Climbs-same cmp g.total key (sorted cmp key (drop n old ++ more)) (drop n new)
      (Climbs-sorted cmp g.total key (drop n old ++ more)
      (HasDistinctKeys-append cmp key (drop n old) more (HasDistinctKeys-Climbs cmp key (drop n old) old_part) g.distinct
      (λ v w h k. g.apart v w (In-drop n old v h) k)))
      (Climbs-drop cmp key n new g.new_climbs)
      (λ z h. elim (In-append z (drop n old) more (In-sorted-back cmp key (drop n old ++ more) z h)) [
        | inl k ↦ old-behind z k
        | inr k ↦ more-behind z k
      ])
      (λ z h. In-sorted cmp key (drop n old ++ more) z (new-behind z h))

  -- a new item comes behind the last of the first ones
  pub more-later : (whole : List X) → take n new ≡ take n whole → (z : X) → In z more → IsBeyond cmp key n whole z
  more-later whole same z h =
      IsBeyond-shared cmp key n new whole z same (Climbs-parts cmp key n new z g.new_climbs (more-behind z h))

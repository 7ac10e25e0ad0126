-- Sorting keeps the items, and where no two keys are equal, the keys of what is sorted rise.
use Rattle.std.proofs.Common.{◌≡◌, List, [], ◌∷◌, true, false, cond, refl, sym, ◌∙◌, ap, subst, ◌⊎◌, inl, inr, ◌++◌, append-nil, arith}
use Rattle.std.specs.List.{AllByRecursion}
use Rattle.std.specs.List.Sorted.{IsPermutation}
use Rattle.std.proofs.lemmas.List.Sorted.{IsPermutation-refl, IsPermutation-cons, IsPermutation-swap, IsPermutation-trans, IsPermutation-middle, IsPermutation-append_left}
use Rattle.std.specs.Cmp.{IsTotalOrder, tied_back}
use Rattle.std.specs.Ordering.{is_lt, on, ordering_reverse, ordering_then, then_cmp}
use Rattle.std.specs.declared.cmp.Ordering.TheVariants.{Less, Equal, Greater}
use Rattle.std.specs.declared.cmp.Ordering.{Ordering}
use Rattle.rs_order.specs.Climbing.{In, Precedes, Differs, Climbs, HasDistinctKeys}
use Rattle.rs_order.specs.Sorting.{put, put_each, sorted}
use Rattle.rs_order.proofs.ClimbingFacts.{AllByRecursion-In, AllByRecursion-from_In, Climbs-same}
use Rattle.rs_order.proofs.EachFacts.{each-weaker}

-- an item that is put in is in the list, and so are those that were in it
pub In-put : {X K : Type 0} (cmp : K → K → Ordering) (key : X → K) (x : X) (ys : List X) (z : X) → In z (x ∷ ys) → In z (put cmp key x ys)
In-put cmp key x [] z h = h
In-put cmp key x (y ∷ ys) z h =
    elim (is_lt (cmp (key x) (key y))) as (λ b. In z (cond b (x ∷ y ∷ ys) (y ∷ put cmp key x ys))) [
      | true ↦ h
      | false ↦ elim h [
        | inl e ↦ inr (In-put cmp key x ys z (inl e))
        | inr k ↦ elim k [ inl e ↦ inl e | inr l ↦ inr (In-put cmp key x ys z (inr l)) ]
      ]
    ]

-- and no others
pub In-put-back : {X K : Type 0} (cmp : K → K → Ordering) (key : X → K) (x : X) (ys : List X) (z : X) → In z (put cmp key x ys) → In z (x ∷ ys)
In-put-back cmp key x [] z h = h
In-put-back cmp key x (y ∷ ys) z h =
    (elim (is_lt (cmp (key x) (key y))) as (λ b. In z (cond b (x ∷ y ∷ ys) (y ∷ put cmp key x ys)) → In z (x ∷ y ∷ ys)) [
      | true ↦ λ k. k
      | false ↦ λ k. elim k [
        | inl e ↦ inr (inl e)
        | inr l ↦ elim (In-put-back cmp key x ys z l) [ inl e ↦ inl e | inr m ↦ inr (inr m) ]
      ]
    ]) h

-- the same of items that are put in one after another
pub In-put_each : {X K : Type 0} (cmp : K → K → Ordering) (key : X → K) (ordered xs : List X) (z : X) → In z ordered ⊎ In z xs → In z (put_each cmp key ordered xs)
In-put_each cmp key ordered [] z h = elim h [ inl k ↦ k | inr k ↦ absurd k ]
In-put_each cmp key ordered (x ∷ xs) z h =
    In-put_each cmp key (put cmp key x ordered) xs z
    (elim h [
      | inl k ↦ inl (In-put cmp key x ordered z (inr k))
      | inr k ↦ elim k [ inl e ↦ inl (In-put cmp key x ordered z (inl e)) | inr l ↦ inr l ]
    ])

pub In-put_each-back : {X K : Type 0} (cmp : K → K → Ordering) (key : X → K) (ordered xs : List X) (z : X) → In z (put_each cmp key ordered xs) → In z ordered ⊎ In z xs
In-put_each-back cmp key ordered [] z h = inl h
In-put_each-back cmp key ordered (x ∷ xs) z h =
    elim (In-put_each-back cmp key (put cmp key x ordered) xs z h) [
      | inl k ↦ elim (In-put-back cmp key x ordered z k) [ inl e ↦ inr (inl e) | inr l ↦ inl l ]
      | inr k ↦ inr (inr k)
    ]

-- a sorted list has the items of the list
pub In-sorted : {X K : Type 0} (cmp : K → K → Ordering) (key : X → K) (xs : List X) (z : X) → In z xs → In z (sorted cmp key xs)
In-sorted cmp key xs z h = In-put_each cmp key [] xs z (inr h)

pub In-sorted-back : {X K : Type 0} (cmp : K → K → Ordering) (key : X → K) (xs : List X) (z : X) → In z (sorted cmp key xs) → In z xs
In-sorted-back cmp key xs z h = elim (In-put_each-back cmp key [] xs z h) [ inl k ↦ absurd k | inr k ↦ k ]

-- what holds of an item and of each of a list holds of each once the item is put in
pub each-put : {X K : Type 0} (cmp : K → K → Ordering) (key : X → K) (P : X → Type 0) (x : X) (ys : List X) → P x → AllByRecursion P ys → AllByRecursion P (put cmp key x ys)
each-put cmp key P x ys here all =
    AllByRecursion-from_In P (put cmp key x ys) (λ z h. AllByRecursion-In P (x ∷ ys) (here, all) z (In-put-back cmp key x ys z h))

-- an item whose key is that of no other one is put in with keys still rising
pub Climbs-put : {X K : Type 0} (cmp : K → K → Ordering) → IsTotalOrder cmp → (key : X → K) (x : X) (ys : List X) → AllByRecursion (Differs cmp key x) ys → Climbs cmp key ys → Climbs cmp key (put cmp key x ys)
Climbs-put cmp o key x [] differs climbs = (tt, tt)
Climbs-put cmp o key x (y ∷ ys) differs climbs =
    (elim (cmp (key x) (key y)) as (λ r. cmp (key x) (key y) ≡ r → Climbs cmp key (cond (is_lt r) (x ∷ y ∷ ys) (y ∷ put cmp key x ys))) [
      | Less ↦ λ e. ((e, each-weaker (Precedes cmp key y) (Precedes cmp key x) (λ z h. o.trans (key x) (key y) (key z) e h) ys climbs.0), climbs)
      | Equal ↦ λ e. absurd (differs.0 e)
      | Greater ↦ λ e.
          (each-put cmp key (Precedes cmp key y) x ys (o.antisymm (key y) (key x) ∙ ap ordering_reverse e) climbs.0, Climbs-put cmp o key x ys differs.1 climbs.1)
    ]) refl

-- keys that differ do so both ways round
Differs-turned : {X K : Type 0} (cmp : K → K → Ordering) → IsTotalOrder cmp → (key : X → K) (x y : X) → Differs cmp key x y → Differs cmp key y x
Differs-turned cmp o key x y differs e = differs (tied_back o (key y) (key x) e)

-- an item still differs from all, once another one that differs from it is put in
Differs-put : {X K L : Type 0} (by : L → L → Ordering) (other : X → L) (cmp : K → K → Ordering) → IsTotalOrder cmp → (key : X → K) (x : X) (xs ordered : List X) → AllByRecursion (Differs cmp key x) xs → ((z : X) → In z (x ∷ xs) → AllByRecursion (Differs cmp key z) ordered) → (z : X) → In z xs → AllByRecursion (Differs cmp key z) (put by other x ordered)
Differs-put by other cmp o key x xs ordered differs apart z h =
    each-put by other (Differs cmp key z) x ordered (Differs-turned cmp o key x z (AllByRecursion-In (Differs cmp key x) xs differs z h)) (apart z (inr h))

-- the same of items that are put in one after another
pub Climbs-put_each : {X K : Type 0} (cmp : K → K → Ordering) → IsTotalOrder cmp → (key : X → K) (ordered xs : List X) → HasDistinctKeys cmp key xs → ((z : X) → In z xs → AllByRecursion (Differs cmp key z) ordered) → Climbs cmp key ordered → Climbs cmp key (put_each cmp key ordered xs)
Climbs-put_each cmp o key ordered [] distinct apart climbs = climbs
Climbs-put_each cmp o key ordered (x ∷ xs) distinct apart climbs =
    Climbs-put_each cmp o key (put cmp key x ordered) xs distinct.1
    (Differs-put cmp key cmp o key x xs ordered distinct.0 apart)
    (Climbs-put cmp o key x ordered (apart x (inl refl)) climbs)

-- the keys of a sorted list rise, if no two of them are equal
pub Climbs-sorted : {X K : Type 0} (cmp : K → K → Ordering) → IsTotalOrder cmp → (key : X → K) (xs : List X) → HasDistinctKeys cmp key xs → Climbs cmp key (sorted cmp key xs)
Climbs-sorted cmp o key xs distinct = Climbs-put_each cmp o key [] xs distinct (λ z h. tt) tt

-- keys that are distinct stay so where an item is put in by another key
HasDistinctKeys-put : {X K L : Type 0} (by : L → L → Ordering) (other : X → L) (cmp : K → K → Ordering) → IsTotalOrder cmp → (key : X → K) (x : X) (ys : List X) → AllByRecursion (Differs cmp key x) ys → HasDistinctKeys cmp key ys → HasDistinctKeys cmp key (put by other x ys)
HasDistinctKeys-put by other cmp o key x [] differs distinct = (tt, tt)
HasDistinctKeys-put by other cmp o key x (y ∷ ys) differs distinct =
    elim (is_lt (by (other x) (other y))) as (λ b. HasDistinctKeys cmp key (cond b (x ∷ y ∷ ys) (y ∷ put by other x ys))) [
      | true ↦ (differs, distinct)
      | false ↦
          (each-put by other (Differs cmp key y) x ys (Differs-turned cmp o key x y differs.0) distinct.0, HasDistinctKeys-put by other cmp o key x ys differs.1 distinct.1)
    ]

HasDistinctKeys-put_each : {X K L : Type 0} (by : L → L → Ordering) (other : X → L) (cmp : K → K → Ordering) → IsTotalOrder cmp → (key : X → K) (ordered xs : List X) → HasDistinctKeys cmp key xs → ((z : X) → In z xs → AllByRecursion (Differs cmp key z) ordered) → HasDistinctKeys cmp key ordered → HasDistinctKeys cmp key (put_each by other ordered xs)
HasDistinctKeys-put_each by other cmp o key ordered [] distinct apart before = before
HasDistinctKeys-put_each by other cmp o key ordered (x ∷ xs) distinct apart before =
    HasDistinctKeys-put_each by other cmp o key (put by other x ordered) xs distinct.1
    (Differs-put by other cmp o key x xs ordered distinct.0 apart)
    (HasDistinctKeys-put by other cmp o key x ordered (apart x (inl refl)) before)

-- and in a list that is sorted by another key
pub HasDistinctKeys-sorted : {X K L : Type 0} (by : L → L → Ordering) (other : X → L) (cmp : K → K → Ordering) → IsTotalOrder cmp → (key : X → K) (xs : List X) → HasDistinctKeys cmp key xs → HasDistinctKeys cmp key (sorted by other xs)
HasDistinctKeys-sorted by other cmp o key xs distinct = HasDistinctKeys-put_each by other cmp o key [] xs distinct (λ z h. tt) tt

-- sorting what is sorted by another key is sorting the list itself
pub sorted-sorted : {X K L : Type 0} (by : L → L → Ordering) (other : X → L) (cmp : K → K → Ordering) → IsTotalOrder cmp → (key : X → K) (xs : List X) → HasDistinctKeys cmp key xs → sorted cmp key (sorted by other xs) ≡ sorted cmp key xs
sorted-sorted by other cmp o key xs distinct =
    Climbs-same cmp o key (sorted cmp key (sorted by other xs)) (sorted cmp key xs)
    (Climbs-sorted cmp o key (sorted by other xs) (HasDistinctKeys-sorted by other cmp o key xs distinct))
    (Climbs-sorted cmp o key xs distinct)
    (λ z h. In-sorted cmp key xs z (In-sorted-back by other xs z (In-sorted-back cmp key (sorted by other xs) z h)))
    (λ z h. In-sorted cmp key (sorted by other xs) z (In-sorted by other xs z (In-sorted-back cmp key xs z h)))

-- an item is put in behind all up to the first that it comes before
pub put-split : {X K : Type 0} (cmp : K → K → Ordering) (key : X → K) (x : X) (front back : List X) → AllByRecursion (λ y. is_lt (cmp (key x) (key y)) ≡ false) front → AllByRecursion (λ y. is_lt (cmp (key x) (key y)) ≡ true) back → put cmp key x (front ++ back) ≡ front ++ x ∷ back
put-split cmp key x [] [] before after = refl
put-split cmp key x [] (y ∷ back) before after = rw after.0 refl
put-split cmp key x (y ∷ front) back before after = rw before.0 (ap (λ rest. y ∷ rest) (put-split cmp key x front back before.1 after))

-- an item is put in at the same place where two tests agree
put-same : {X K L : Type 0} (cmp : K → K → Ordering) (key : X → K) (by : L → L → Ordering) (other : X → L) (x : X) (ys : List X) → AllByRecursion (λ y. is_lt (cmp (key x) (key y)) ≡ is_lt (by (other x) (other y))) ys → put cmp key x ys ≡ put by other x ys
put-same cmp key by other x [] agree = refl
put-same cmp key by other x (y ∷ ys) agree =
    subst (λ b. put cmp key x (y ∷ ys) ≡ cond b (x ∷ y ∷ ys) (y ∷ put by other x ys)) agree.0
    (elim (is_lt (cmp (key x) (key y))) as (λ b. cond b (x ∷ y ∷ ys) (y ∷ put cmp key x ys) ≡ cond b (x ∷ y ∷ ys) (y ∷ put by other x ys)) [
      | true ↦ refl
      | false ↦ ap (λ zs. y ∷ zs) (put-same cmp key by other x ys agree.1)
    ])

-- a later place decides no test whether a key comes strictly before another one
then_cmp-later : {X K L : Type 0} (cmp : K → K → Ordering) (key : X → K) (by : L → L → Ordering) → IsTotalOrder by → (place : X → L) (x y : X) → Precedes by place y x → is_lt (cmp (key x) (key y)) ≡ is_lt (then_cmp (on key cmp) (on place by) x y)
then_cmp-later cmp key by o place x y before =
    elim (cmp (key x) (key y)) as (λ r. is_lt r ≡ is_lt (ordering_then r (by (place x) (place y)))) [
      | Less ↦ refl
      | Equal ↦ sym (ap is_lt (o.antisymm (place x) (place y) ∙ ap ordering_reverse before))
      | Greater ↦ refl
    ]

-- items that are put in by rising places are put in alike by the key alone and by the key and then the place
put_each-places : {X K L : Type 0} (cmp : K → K → Ordering) (key : X → K) (by : L → L → Ordering) → IsTotalOrder by → (place : X → L) (ordered xs : List X) → Climbs by place xs → ((z : X) → In z xs → AllByRecursion (λ w. Precedes by place w z) ordered) → put_each cmp key ordered xs ≡ put_each (then_cmp (on key cmp) (on place by)) (λ x. x) ordered xs
put_each-places cmp key by o place ordered [] climbs before = refl
put_each-places {X} cmp key by o place ordered (x ∷ xs) climbs before =
    put_each-places cmp key by o place (put cmp key x ordered) xs climbs.1
    (λ z h. each-put cmp key (λ w. Precedes by place w z) x ordered (AllByRecursion-In (Precedes by place x) xs climbs.0 z h) (before z (inr h)))
    ∙ ap (λ list. put_each (then_cmp (on key cmp) (on place by)) (λ (w : X). w) list xs)
    (put-same cmp key (then_cmp (on key cmp) (on place by)) (λ (w : X). w) x ordered
    (AllByRecursion-from_In (λ y. is_lt (cmp (key x) (key y)) ≡ is_lt (then_cmp (on key cmp) (on place by) x y)) ordered
    (λ y h. then_cmp-later cmp key by o place x y (AllByRecursion-In (λ w. Precedes by place w x) ordered (before x (inl refl)) y h))))

-- sorting by the key alone sorts by the key and then the place
pub sorted-places : {X K L : Type 0} (cmp : K → K → Ordering) (key : X → K) (by : L → L → Ordering) → IsTotalOrder by → (place : X → L) (xs : List X) → Climbs by place xs → sorted cmp key xs ≡ sorted (then_cmp (on key cmp) (on place by)) (λ x. x) xs
sorted-places cmp key by o place xs climbs = put_each-places cmp key by o place [] xs climbs (λ z h. tt)

-- putting an item in adds it to the list
pub IsPermutation-put : {X K : Type 0} (cmp : K → K → Ordering) (key : X → K) (x : X) (ys : List X) → IsPermutation (x ∷ ys) (put cmp key x ys)
IsPermutation-put cmp key x [] = IsPermutation-refl (x ∷ [])
IsPermutation-put cmp key x (y ∷ ys) =
    elim (is_lt (cmp (key x) (key y))) as (λ b. IsPermutation (x ∷ y ∷ ys) (cond b (x ∷ y ∷ ys) (y ∷ put cmp key x ys))) [
      | true ↦ IsPermutation-refl (x ∷ y ∷ ys)
      | false ↦ IsPermutation-trans (x ∷ y ∷ ys) (y ∷ x ∷ ys) (y ∷ put cmp key x ys)
          (IsPermutation-swap (x ∷ y ∷ ys) (y ∷ x ∷ ys) 0 1 (omega arith) (omega arith) refl)
          (IsPermutation-cons y (x ∷ ys) (put cmp key x ys) (IsPermutation-put cmp key x ys))
    ]

-- the items that were there and those that were put in
IsPermutation-put_each : {X K : Type 0} (cmp : K → K → Ordering) (key : X → K) (ordered xs : List X) → IsPermutation (ordered ++ xs) (put_each cmp key ordered xs)
IsPermutation-put_each cmp key ordered [] = rw append-nil (IsPermutation-refl ordered)
IsPermutation-put_each cmp key ordered (x ∷ xs) =
    IsPermutation-trans (ordered ++ x ∷ xs) (put cmp key x ordered ++ xs) (put_each cmp key ordered (x ∷ xs))
    (IsPermutation-trans (ordered ++ x ∷ xs) (x ∷ (ordered ++ xs)) (put cmp key x ordered ++ xs)
    (IsPermutation-middle ordered x xs)
    (IsPermutation-append_left xs (x ∷ ordered) (put cmp key x ordered) (IsPermutation-put cmp key x ordered)))
    (IsPermutation-put_each cmp key (put cmp key x ordered) xs)

-- a sorted list has the items of the list, each as often
pub IsPermutation-sorted : {X K : Type 0} (cmp : K → K → Ordering) (key : X → K) (xs : List X) → IsPermutation xs (sorted cmp key xs)
IsPermutation-sorted cmp key xs = IsPermutation-put_each cmp key [] xs

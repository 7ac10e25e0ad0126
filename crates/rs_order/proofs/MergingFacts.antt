-- The merge of two lists has the items of both, and its keys rise where theirs do.
use Rattle.std.proofs.Common.{◌≡◌, List, [], ◌∷◌, true, false, cond, refl, ◌∙◌, ap, ◌⊎◌, inl, inr}
use Rattle.std.specs.Cmp.{IsTotalOrder}
use Rattle.std.specs.Ordering.{is_gt, ordering_reverse}
use Rattle.std.specs.declared.cmp.Ordering.{Ordering}
use Rattle.std.specs.declared.cmp.Ordering.TheVariants.{Less, Equal, Greater}
use Rattle.rs_order.specs.Climbing.{In, Precedes, Differs, Climbs}
use Rattle.rs_order.specs.Merging.{woven, merged}
use Rattle.rs_order.proofs.ClimbingFacts.{AllByRecursion-In, AllByRecursion-from_In}

-- the lesser of the two first items is taken first, and the merge goes on with what is left
pub merged-left : {X K : Type 0} (cmp : K → K → Ordering) (key : X → K) (x y : X) (xs ys : List X) → is_gt (cmp (key x) (key y)) ≡ false → merged cmp key (x ∷ xs) (y ∷ ys) ≡ x ∷ merged cmp key xs (y ∷ ys)
merged-left cmp key x y xs ys e = ap (λ b. cond b (y ∷ woven cmp key x (merged cmp key xs) ys) (x ∷ merged cmp key xs (y ∷ ys))) e

pub merged-right : {X K : Type 0} (cmp : K → K → Ordering) (key : X → K) (x y : X) (xs ys : List X) → is_gt (cmp (key x) (key y)) ≡ true → merged cmp key (x ∷ xs) (y ∷ ys) ≡ y ∷ merged cmp key (x ∷ xs) ys
merged-right cmp key x y xs ys e = ap (λ b. cond b (y ∷ woven cmp key x (merged cmp key xs) ys) (x ∷ merged cmp key xs (y ∷ ys))) e

pub merged-none : {X K : Type 0} (cmp : K → K → Ordering) (key : X → K) (xs : List X) → merged cmp key xs [] ≡ xs
merged-none cmp key [] = refl
merged-none cmp key (x ∷ xs) = ap (λ zs. x ∷ zs) (merged-none cmp key xs)

-- an item of what is woven is the one put in, of the rest, or of the list
In-woven-back : {X K : Type 0} (cmp : K → K → Ordering) (key : X → K) (x : X) (rest : List X → List X) (z : X) (A : Type 0) (ys : List X) → ((ws : List X) → In z (rest ws) → A ⊎ In z ws) → In z (woven cmp key x rest ys) → ((z ≡ x) ⊎ A) ⊎ In z ys
In-woven-back cmp key x rest z A [] back h =
    elim h [ inl e ↦ inl (inl e) | inr k ↦ elim (back [] k) [ inl a ↦ inl (inr a) | inr none ↦ absurd none ] ]
In-woven-back cmp key x rest z A (y ∷ ys) back h =
    (elim (is_gt (cmp (key x) (key y))) as (λ b. In z (cond b (y ∷ woven cmp key x rest ys) (x ∷ rest (y ∷ ys))) → ((z ≡ x) ⊎ A) ⊎ In z (y ∷ ys)) [
      | true ↦ λ k. elim k [
        | inl e ↦ inr (inl e)
        | inr l ↦ elim (In-woven-back cmp key x rest z A ys back l) [ inl m ↦ inl m | inr m ↦ inr (inr m) ]
      ]
      | false ↦ λ k. elim k [
        | inl e ↦ inl (inl e)
        | inr l ↦ elim (back (y ∷ ys) l) [ inl a ↦ inl (inr a) | inr m ↦ inr m ]
      ]
    ]) h

-- and each of these is in what is woven
In-woven : {X K : Type 0} (cmp : K → K → Ordering) (key : X → K) (x : X) (rest : List X → List X) (z : X) (A : Type 0) (ys : List X) → ((ws : List X) → A ⊎ In z ws → In z (rest ws)) → ((z ≡ x) ⊎ A) ⊎ In z ys → In z (woven cmp key x rest ys)
In-woven cmp key x rest z A [] there h =
    elim h [ inl k ↦ elim k [ inl e ↦ inl e | inr a ↦ inr (there [] (inl a)) ] | inr none ↦ absurd none ]
In-woven cmp key x rest z A (y ∷ ys) there h =
    elim (is_gt (cmp (key x) (key y))) as (λ b. In z (cond b (y ∷ woven cmp key x rest ys) (x ∷ rest (y ∷ ys)))) [
      | true ↦ elim h [
        | inl k ↦ inr (In-woven cmp key x rest z A ys there (inl k))
        | inr k ↦ elim k [ inl e ↦ inl e | inr l ↦ inr (In-woven cmp key x rest z A ys there (inr l)) ]
      ]
      | false ↦ elim h [
        | inl k ↦ elim k [ inl e ↦ inl e | inr a ↦ inr (there (y ∷ ys) (inl a)) ]
        | inr k ↦ inr (there (y ∷ ys) (inr k))
      ]
    ]

-- the items of a merge are those of the two lists
pub In-merged-back : {X K : Type 0} (cmp : K → K → Ordering) (key : X → K) (z : X) (xs ys : List X) → In z (merged cmp key xs ys) → In z xs ⊎ In z ys
In-merged-back cmp key z [] ys h = inr h
In-merged-back cmp key z (x ∷ xs) ys h =
    In-woven-back cmp key x (merged cmp key xs) z (In z xs) ys (λ ws k. In-merged-back cmp key z xs ws k) h

pub In-merged : {X K : Type 0} (cmp : K → K → Ordering) (key : X → K) (z : X) (xs ys : List X) → In z xs ⊎ In z ys → In z (merged cmp key xs ys)
In-merged cmp key z [] ys h = elim h [ inl none ↦ absurd none | inr k ↦ k ]
In-merged cmp key z (x ∷ xs) ys h =
    In-woven cmp key x (merged cmp key xs) z (In z xs) ys (λ ws k. In-merged cmp key z xs ws k) h

-- what one item precedes, and all behind it that it precedes in turn
Precedes-all : {X K : Type 0} (cmp : K → K → Ordering) → IsTotalOrder cmp → (key : X → K) (x y : X) (ys : List X) → Precedes cmp key x y → Climbs cmp key (y ∷ ys) → (z : X) → In z (y ∷ ys) → Precedes cmp key x z
Precedes-all {X} cmp o key x y ys e climbs =
    AllByRecursion-In (Precedes cmp key x) (y ∷ ys) (e, AllByRecursion-from_In (Precedes cmp key x) ys (λ z h. o.trans (key x) (key y) (key z) e (AllByRecursion-In (Precedes cmp key y) ys climbs.0 z h)))

-- the keys of what is woven rise where those of the rest do
Climbs-woven : {X K : Type 0} (cmp : K → K → Ordering) → IsTotalOrder cmp → (key : X → K) (x : X) (xs ys : List X) → ((ws : List X) → Climbs cmp key ws → ((v w : X) → In v xs → In w ws → Differs cmp key v w) → Climbs cmp key (merged cmp key xs ws)) → Climbs cmp key (x ∷ xs) → Climbs cmp key ys → ((v w : X) → In v (x ∷ xs) → In w ys → Differs cmp key v w) → Climbs cmp key (woven cmp key x (merged cmp key xs) ys)
Climbs-woven {X} cmp o key x xs [] rest c d apart = (
  AllByRecursion-from_In (Precedes cmp key x) (merged cmp key xs []) (λ z h. elim (In-merged-back cmp key z xs [] h) [
    | inl k ↦ AllByRecursion-In (Precedes cmp key x) xs c.0 z k
    | inr none ↦ absurd none
  ]),
  rest [] tt (λ v w h none. absurd none),
)
Climbs-woven {X} cmp o key x xs (y ∷ ys) rest c d apart =
    (elim (cmp (key x) (key y)) as (λ r. cmp (key x) (key y) ≡ r → Climbs cmp key (cond (is_gt r) (y ∷ woven cmp key x (merged cmp key xs) ys) (x ∷ merged cmp key xs (y ∷ ys)))) [
      | Less ↦ λ e. (
        AllByRecursion-from_In (Precedes cmp key x) (merged cmp key xs (y ∷ ys)) (λ z h. elim (In-merged-back cmp key z xs (y ∷ ys) h) [
          | inl k ↦ AllByRecursion-In (Precedes cmp key x) xs c.0 z k
          | inr k ↦ Precedes-all cmp o key x y ys e d z k
        ]),
        rest (y ∷ ys) d (λ v w h k. apart v w (inr h) k),
      )
      | Equal ↦ λ e. absurd (apart x y (inl refl) (inl refl) e)
      | Greater ↦ λ e.
          let less : cmp (key y) (key x) ≡ Less = o.antisymm (key y) (key x) ∙ ap ordering_reverse e in (
            AllByRecursion-from_In (Precedes cmp key y) (woven cmp key x (merged cmp key xs) ys) (λ z h. elim (In-merged-back cmp key z (x ∷ xs) ys h) [
              | inl k ↦ Precedes-all cmp o key y x xs less c z k
              | inr k ↦ AllByRecursion-In (Precedes cmp key y) ys d.0 z k
            ]),
            Climbs-woven cmp o key x xs ys rest c d.1 (λ v w h k. apart v w h (inr k)),
          )
    ]) refl

-- the keys of a merge rise where those of the two lists do, and none is in both
pub Climbs-merged : {X K : Type 0} (cmp : K → K → Ordering) → IsTotalOrder cmp → (key : X → K) (xs ys : List X) → Climbs cmp key xs → Climbs cmp key ys → ((v w : X) → In v xs → In w ys → Differs cmp key v w) → Climbs cmp key (merged cmp key xs ys)
Climbs-merged cmp o key [] ys c d apart = d
Climbs-merged cmp o key (x ∷ xs) ys c d apart =
    Climbs-woven cmp o key x xs ys (λ ws e far. Climbs-merged cmp o key xs ws c.1 e far) c d apart

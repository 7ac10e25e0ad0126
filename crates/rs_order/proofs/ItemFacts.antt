-- The items of lists that are made of others, and when keys rise along such lists.
use Rattle.std.proofs.Common.{◌≡◌, ◌∙◌, ◌≤◌, ◌++◌, Bool, true, false, cond, List, [], ◌∷◌, length, map, refl, sym, ap, subst, ◌⊎◌, inl, inr}
use Rattle.std.specs.List.{filter, flat_map}
use Rattle.std.specs.declared.cmp.Ordering.{Ordering}
use Rattle.std.proofs.lemmas.List.{map-append}
use Rattle.std.proofs.lemmas.List.Elements.{filter-append}
use Rattle.std.proofs.lemmas.List.Sums.{count_by-le-length, length-filter}
use Rattle.std.specs.Cmp.{IsTotalOrder}
use Rattle.rs_order.specs.Climbing.{Climbs, Differs, HasDistinctKeys, In, Precedes}
use Rattle.rs_order.specs.Sorting.{sorted}
use Rattle.rs_order.proofs.ClimbingFacts.{AllByRecursion-In, AllByRecursion-from_In, Climbs-same}
use Rattle.rs_order.proofs.EachFacts.{each-filter}
use Rattle.rs_order.proofs.SortingFacts.{Climbs-sorted, In-sorted, In-sorted-back}

-- no more are kept than there are
pub filter-less : {X : Type 0} (p : X → Bool) (xs : List X) → length (filter p xs) ≤ length xs
filter-less p xs = subst (λ n. n ≤ length xs) (sym (length-filter p xs)) (count_by-le-length p xs)

-- an item of one of two lists is one of both together
pub In-left : {X : Type 0} (z : X) (xs ys : List X) → In z xs → In z (xs ++ ys)
In-left z [] ys h = absurd h
In-left z (x ∷ xs) ys h = elim h [ inl e ↦ inl e | inr behind ↦ inr (In-left z xs ys behind) ]

pub In-right : {X : Type 0} (z : X) (xs ys : List X) → In z ys → In z (xs ++ ys)
In-right z [] ys h = h
In-right z (x ∷ xs) ys h = inr (In-right z xs ys h)

pub In-append : {X : Type 0} (z : X) (xs ys : List X) → In z (xs ++ ys) → In z xs ⊎ In z ys
In-append z [] ys h = inr h
In-append z (x ∷ xs) ys h = elim h [
  | inl e ↦ inl (inl e)
  | inr behind ↦ elim (In-append z xs ys behind) [ inl l ↦ inl (inr l) | inr r ↦ inr r ]
]

-- an item that a function gives of one of a list's items
pub record IsImage {X Y : Type 0} (f : X → Y) (xs : List X) (z : Y) : Type 0 where
  pub source : X
  pub is_in : In source xs
  pub image : z ≡ f source

pub In-map : {X Y : Type 0} (f : X → Y) (x : X) (xs : List X) → In x xs → In (f x) (map f xs)
In-map f x [] h = absurd h
In-map f x (y ∷ ys) h = elim h [ inl e ↦ inl (ap f e) | inr behind ↦ inr (In-map f x ys behind) ]

pub In-map-back : {X Y : Type 0} (f : X → Y) (z : Y) (xs : List X) → In z (map f xs) → IsImage f xs z
In-map-back f z [] h = absurd h
In-map-back f z (x ∷ xs) h = elim h [
  | inl e ↦ record { source = x; is_in = inl refl; image = e }
  | inr behind ↦
      let image = In-map-back f z xs behind in
      record { source = image.source; is_in = inr image.is_in; image = image.image }
]

-- an item of a list that a function gives of one of a list's items
pub record IsMade {X Y : Type 0} (f : X → List Y) (xs : List X) (z : Y) : Type 0 where
  pub source : X
  pub is_in : In source xs
  pub made : In z (f source)

pub In-flat_map : {X Y : Type 0} (f : X → List Y) (x : X) (z : Y) (xs : List X) → In x xs → In z (f x) → In z (flat_map f xs)
In-flat_map f x z [] h made = absurd h
In-flat_map f x z (y ∷ ys) h made = elim h [
  | inl e ↦ In-left z (f y) (flat_map f ys) (subst (λ w. In z (f w)) e made)
  | inr behind ↦ In-right z (f y) (flat_map f ys) (In-flat_map f x z ys behind made)
]

pub In-flat_map-back : {X Y : Type 0} (f : X → List Y) (z : Y) (xs : List X) → In z (flat_map f xs) → IsMade f xs z
In-flat_map-back f z [] h = absurd h
In-flat_map-back f z (x ∷ xs) h = elim (In-append z (f x) (flat_map f xs) h) [
  | inl made ↦ record { source = x; is_in = inl refl; made = made }
  | inr behind ↦
      let made = In-flat_map-back f z xs behind in
      record { source = made.source; is_in = inr made.is_in; made = made.made }
]

-- the items that pass a test
pub In-filter : {X : Type 0} (p : X → Bool) (z : X) (xs : List X) → In z xs → p z ≡ true → In z (filter p xs)
In-filter p z [] h passes = absurd h
In-filter p z (x ∷ xs) h passes =
    (elim (p x) as (λ b. p x ≡ b → In z (cond b (x ∷ filter p xs) (filter p xs))) [
      | true ↦ λ is. elim h [ inl e ↦ inl e | inr behind ↦ inr (In-filter p z xs behind passes) ]
      | false ↦ λ is. elim h [ inl e ↦ absurd (let same = ap p e in cc) | inr behind ↦ In-filter p z xs behind passes ]
    ]) refl

pub In-filter-back : {X : Type 0} (p : X → Bool) (z : X) (xs : List X) → In z (filter p xs) → In z xs × (p z ≡ true)
In-filter-back p z [] h = absurd h
In-filter-back p z (x ∷ xs) h =
    (elim (p x) as (λ b. p x ≡ b → In z (cond b (x ∷ filter p xs) (filter p xs)) → In z (x ∷ xs) × (p z ≡ true)) [
      | true ↦ λ is k. elim k [
        | inl e ↦ (inl e, ap p e ∙ is)
        | inr behind ↦ let both = In-filter-back p z xs behind in (inr both.0, both.1)
      ]
      | false ↦ λ is k. let both = In-filter-back p z xs k in (inr both.0, both.1)
    ]) refl h

-- nothing is left where no item passes
pub filter-none : {X : Type 0} (p : X → Bool) (xs : List X) → ((z : X) → In z xs → p z ≡ false) → filter p xs ≡ []
filter-none p [] fails = refl
filter-none p (x ∷ xs) fails =
    ap (λ b. cond b (x ∷ filter p xs) (filter p xs)) (fails x (inl refl)) ∙ filter-none p xs (λ z h. fails z (inr h))

-- what passes, list by list
pub filter-flat_map : {X Y : Type 0} (p : Y → Bool) (f : X → List Y) (xs : List X) → filter p (flat_map f xs) ≡ flat_map (λ x. filter p (f x)) xs
filter-flat_map p f [] = refl
filter-flat_map p f (x ∷ xs) = filter-append p (f x) (flat_map f xs) ∙ ap (λ rest. filter p (f x) ++ rest) (filter-flat_map p f xs)

-- and what a function gives, list by list
pub map-flat_map : {X Y Z : Type 0} (g : Y → Z) (f : X → List Y) (xs : List X) → map g (flat_map f xs) ≡ flat_map (λ x. map g (f x)) xs
map-flat_map g f [] = refl
map-flat_map g f (x ∷ xs) = map-append g (f x) (flat_map f xs) ∙ ap (λ rest. map g (f x) ++ rest) (map-flat_map g f xs)

module _ {X K : Type 0} (cmp : K → K → Ordering) (key : X → K) where
  -- keys rise along two lists of which the first comes before the second
  pub Climbs-append : (xs ys : List X) → Climbs cmp key xs → Climbs cmp key ys → ((v w : X) → In v xs → In w ys → Precedes cmp key v w) → Climbs cmp key (xs ++ ys)
  Climbs-append [] ys c d before = d
  Climbs-append (x ∷ xs) ys c d before = (
    AllByRecursion-from_In (Precedes cmp key x) (xs ++ ys) (λ z h. elim (In-append z xs ys h) [
      | inl l ↦ AllByRecursion-In (Precedes cmp key x) xs c.0 z l
      | inr r ↦ before x z (inl refl) r
    ]),
    Climbs-append xs ys c.1 d (λ v w h k. before v w (inr h) k),
  )

  -- and along what passes a test
  pub Climbs-filter : (p : X → Bool) (xs : List X) → Climbs cmp key xs → Climbs cmp key (filter p xs)
  Climbs-filter p [] c = tt
  Climbs-filter p (x ∷ xs) c =
      elim (p x) as (λ b. Climbs cmp key (cond b (x ∷ filter p xs) (filter p xs))) [
        | true ↦ (
          each-filter (Precedes cmp key x) p xs c.0,
          Climbs-filter p xs c.1,
        )
        | false ↦ Climbs-filter p xs c.1
      ]

  -- keys that are distinct stay so among what passes
  HasDistinctKeys-filter : (p : X → Bool) (xs : List X) → HasDistinctKeys cmp key xs → HasDistinctKeys cmp key (filter p xs)
  HasDistinctKeys-filter p [] d = tt
  HasDistinctKeys-filter p (x ∷ xs) d =
      elim (p x) as (λ b. HasDistinctKeys cmp key (cond b (x ∷ filter p xs) (filter p xs))) [
        | true ↦ (
          each-filter (Differs cmp key x) p xs d.0,
          HasDistinctKeys-filter p xs d.1,
        )
        | false ↦ HasDistinctKeys-filter p xs d.1
      ]

  -- sorting what passes is taking what passes of the sorted list
  pub sorted-filter : IsTotalOrder cmp → (p : X → Bool) (xs : List X) → HasDistinctKeys cmp key xs → sorted cmp key (filter p xs) ≡ filter p (sorted cmp key xs)
  sorted-filter o p xs d =
      Climbs-same cmp o key (sorted cmp key (filter p xs)) (filter p (sorted cmp key xs))
      (Climbs-sorted cmp o key (filter p xs) (HasDistinctKeys-filter p xs d))
      (Climbs-filter p (sorted cmp key xs) (Climbs-sorted cmp o key xs d))
      (λ z h. let both = In-filter-back p z xs (In-sorted-back cmp key (filter p xs) z h) in In-filter p z (sorted cmp key xs) (In-sorted cmp key xs z both.0) both.1)
      (λ z h. let both = In-filter-back p z (sorted cmp key xs) h in In-sorted cmp key (filter p xs) z (In-filter p z xs (In-sorted-back cmp key xs z both.0) both.1))

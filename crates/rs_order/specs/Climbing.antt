-- Lists whose keys rise, or never fall, by an order of keys.
use Rattle.std.specs.Prelude.{ℕ, zero, suc, ◌≡◌, ◌⊎◌, ◌↔◌, false, List, [], ◌∷◌}
use Rattle.std.specs.List.{AllByRecursion}
use Rattle.std.specs.Ordering.{is_gt}
use Rattle.std.specs.declared.cmp.Ordering.TheVariants.{Less, Equal}
use Rattle.std.specs.declared.cmp.Ordering.{Ordering}

-- an item is one of a list
abbrev pub In : {X : Type 0} → X → List X → Type 0
In z [] = ⊥
In z (x ∷ xs) = (z ≡ x) ⊎ In z xs

-- two lists have the same items
abbrev pub SameItems : {X : Type 0} → List X → List X → Type 0
SameItems {X} xs ys = (z : X) → In z xs ↔ In z ys

-- the key of the one item comes strictly before that of the other
abbrev pub Precedes : {X K : Type 0} → (K → K → Ordering) → (X → K) → X → X → Type 0
Precedes cmp key x y = cmp (key x) (key y) ≡ Less

-- the keys of two items aren't equal
abbrev pub Differs : {X K : Type 0} → (K → K → Ordering) → (X → K) → X → X → Type 0
Differs cmp key x y = cmp (key x) (key y) ≡ Equal → ⊥

-- each key comes strictly before all behind it
abbrev pub Climbs : {X K : Type 0} → (K → K → Ordering) → (X → K) → List X → Type 0
Climbs cmp key [] = Unit {0}
Climbs cmp key (x ∷ xs) = AllByRecursion (Precedes cmp key x) xs × Climbs cmp key xs

-- the key of the one item comes at or before that of the other
abbrev pub IsNoLater : {X K : Type 0} → (K → K → Ordering) → (X → K) → X → X → Type 0
IsNoLater cmp key x y = is_gt (cmp (key x) (key y)) ≡ false

-- each key comes at or before all behind it
abbrev pub Ascends : {X K : Type 0} → (K → K → Ordering) → (X → K) → List X → Type 0
Ascends cmp key [] = Unit {0}
Ascends cmp key (x ∷ xs) = AllByRecursion (IsNoLater cmp key x) xs × Ascends cmp key xs

-- no two items have equal keys
abbrev pub HasDistinctKeys : {X K : Type 0} → (K → K → Ordering) → (X → K) → List X → Type 0
HasDistinctKeys cmp key [] = Unit {0}
HasDistinctKeys cmp key (x ∷ xs) = AllByRecursion (Differs cmp key x) xs × HasDistinctKeys cmp key xs

-- the list has n items at least, and the first n of them all come strictly before z
abbrev pub IsBeyond : {X K : Type 0} → (K → K → Ordering) → (X → K) → ℕ → List X → X → Type 0
IsBeyond cmp key zero xs z = Unit {0}
IsBeyond cmp key (suc n) [] z = ⊥
IsBeyond cmp key (suc n) (x ∷ xs) z = Precedes cmp key x z × IsBeyond cmp key n xs z

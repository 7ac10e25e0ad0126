-- The order of a list by a key.
use Rattle.std.specs.Prelude.{List, [], ◌∷◌, if◌then◌else◌}
use Rattle.std.specs.Ordering.{is_lt}
use Rattle.std.specs.declared.cmp.Ordering.{Ordering}

-- puts an item behind all that come at or before it, up to the first that it comes before
abbrev pub put : {X K : Type 0} → (K → K → Ordering) → (X → K) → X → List X → List X
put cmp key x [] = x ∷ []
put cmp key x (y ∷ ys) = if is_lt (cmp (key x) (key y)) then x ∷ y ∷ ys else y ∷ put cmp key x ys

-- puts items, one after another, into a list that is in order
abbrev pub put_each : {X K : Type 0} → (K → K → Ordering) → (X → K) → List X → List X → List X
put_each cmp key ordered [] = ordered
put_each cmp key ordered (x ∷ xs) = put_each cmp key (put cmp key x ordered) xs

-- the items by rising keys, those of equal keys as they stood: each in turn is put in
abbrev pub sorted : {X K : Type 0} → (K → K → Ordering) → (X → K) → List X → List X
sorted cmp key xs = put_each cmp key [] xs

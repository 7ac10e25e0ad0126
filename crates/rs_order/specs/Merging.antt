-- The merge of two lists by turns.
use Rattle.std.specs.Prelude.{List, [], ◌∷◌, if◌then◌else◌}
use Rattle.std.specs.Ordering.{is_gt}
use Rattle.std.specs.declared.cmp.Ordering.{Ordering}

-- an item behind all that come strictly before it, and from there on what the merge makes of those that are left
abbrev pub woven : {X K : Type 0} → (K → K → Ordering) → (X → K) → X → (List X → List X) → List X → List X
woven cmp key x rest [] = x ∷ rest []
woven cmp key x rest (y ∷ ys) = if is_gt (cmp (key x) (key y)) then y ∷ woven cmp key x rest ys else x ∷ rest (y ∷ ys)

-- of the two first items, each time the one with the lesser key; that of the first list where they are equal
abbrev pub merged : {X K : Type 0} → (K → K → Ordering) → (X → K) → List X → List X → List X
merged cmp key [] ys = ys
merged cmp key (x ∷ xs) ys = woven cmp key x (merged cmp key xs) ys

-- The pairs of two lists that match.
use Rattle.std.specs.Prelude.{Bool, List, map}
use Rattle.std.specs.List.{filter, flat_map}

-- an item merged with each of a list that it matches
abbrev pub pairs_with : {X Y Z : Type 0} → (X → Y → Bool) → (X → Y → Z) → List Y → X → List Z
pairs_with matches merge ys x = map (merge x) (filter (matches x) ys)

-- each of a list merged with an item that it matches
abbrev pub pairs_against : {X Y Z : Type 0} → (X → Y → Bool) → (X → Y → Z) → List X → Y → List Z
pairs_against matches merge xs y = map (λ x. merge x y) (filter (λ x. matches x y) xs)

-- each of a list merged with each of another one that it matches
abbrev pub pairs : {X Y Z : Type 0} → (X → Y → Bool) → (X → Y → Z) → List X → List Y → List Z
pairs matches merge xs ys = flat_map (pairs_with matches merge ys) xs

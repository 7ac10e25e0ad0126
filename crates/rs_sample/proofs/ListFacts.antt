-- The items of a list, one after another.
use Rattle.std.proofs.Common.{ℕ, zero, suc, ◌≡◌, ◌∙◌, ◌+◌, ◌<◌, ◌++◌, List, [], ◌∷◌, length, map, take, drop, get_or, refl, sym, ap, subst, inl, inr, append-nil, arith}
use Rattle.std.specs.List.{AllByRecursion, flat_map}
use Rattle.std.specs.Prelude.{Some, slice_get}
use Rattle.std.proofs.lemmas.Grind.{flat_map-append}
use Rattle.std.proofs.lemmas.List.{drop_more, map-append, take-append-drop, take_more}
use Rattle.rs_order.specs.Climbing.{In}
use Rattle.rs_order.proofs.EachFacts.{each-get_or}

-- the first items, with one more
pub take-with : {X : Type 0} (xs : List X) (i : ℕ) (x : X) → i < length xs → x ≡ get_or xs i x → take (i + 1) xs ≡ take i xs ++ x ∷ []
take-with xs i x within is = take_more xs i x within ∙ ap (λ y. take i xs ++ y ∷ []) (sym is)

-- an item, and what stands before and behind it
pub around : {X : Type 0} (xs : List X) (i : ℕ) (x : X) → i < length xs → x ≡ get_or xs i x → xs ≡ take i xs ++ x ∷ drop (i + 1) xs
around xs i x within is = sym (take-append-drop i xs) ∙ ap (λ rest. take i xs ++ rest) (drop_more xs i x within ∙ ap (λ y. y ∷ drop (i + 1) xs) (sym is))

-- what functions give for the first items, with one more
pub map-with : {X Y : Type 0} (f : X → Y) (xs : List X) (i : ℕ) (x : X) → i < length xs → x ≡ get_or xs i x → map f (take (i + 1) xs) ≡ map f (take i xs) ++ f x ∷ []
map-with f xs i x within is = ap (map f) (take-with xs i x within is) ∙ map-append f (take i xs) (x ∷ [])

pub flat_map-with : {X Y : Type 0} (f : X → List Y) (xs : List X) (i : ℕ) (x : X) → i < length xs → x ≡ get_or xs i x → flat_map f (take (i + 1) xs) ≡ flat_map f (take i xs) ++ f x
flat_map-with f xs i x within is =
    ap (flat_map f) (take-with xs i x within is) ∙ flat_map-append f (take i xs) (x ∷ []) ∙ ap (λ more. flat_map f (take i xs) ++ more) (append-nil (f x))

pub flat_map-around : {X Y : Type 0} (f : X → List Y) (xs : List X) (i : ℕ) (x : X) → i < length xs → x ≡ get_or xs i x
    → flat_map f xs ≡ flat_map f (take i xs) ++ (f x ++ flat_map f (drop (i + 1) xs))
flat_map-around f xs i x within is = ap (flat_map f) (around xs i x within is) ∙ flat_map-append f (take i xs) (x ∷ drop (i + 1) xs)

-- one item of each
pub flat_map-one : {X Y : Type 0} (f : X → Y) (xs : List X) → flat_map (λ x. f x ∷ []) xs ≡ map f xs
flat_map-one f [] = refl
flat_map-one f (x ∷ xs) = ap (λ rest. f x ∷ rest) (flat_map-one f xs)

-- what holds of the item at a place
pub each-at : {X : Type 0} (P : X → Type 0) (xs : List X) (i : ℕ) (x : X) → AllByRecursion P xs → i < length xs → x ≡ get_or xs i x → P x
each-at P xs i x all within is = subst P (sym is) (each-get_or P xs i x all within)

-- an item that is there is the same with every default
pub get_or-other : {X : Type 0} (xs : List X) (i : ℕ) (d : X) → i < length xs → get_or xs i d ≡ get_or xs i (get_or xs i d)
get_or-other [] i d within = absurd (omega arith)
get_or-other (y ∷ xs) zero d within = refl
get_or-other (y ∷ xs) (suc i) d within = get_or-other xs i d (omega arith)

-- an item at a place, and what a function gives for it
pub slice-map : {X Y : Type 0} (f : X → Y) (xs : List X) (i : ℕ) (x : X) → slice_get xs i ≡ Some x → slice_get (map f xs) i ≡ Some (f x)
slice-map f [] i x at = absurd (cc)
slice-map f (y ∷ xs) zero x at = let same : y ≡ x = cc in ap (λ z. Some (f z)) same
slice-map f (y ∷ xs) (suc i) x at = slice-map f xs i x at

-- an item that is there, with any default
pub get_or-any : {X : Type 0} (xs : List X) (i : ℕ) (d e : X) → i < length xs → get_or xs i d ≡ get_or xs i e
get_or-any [] i d e within = absurd (omega arith)
get_or-any (x ∷ xs) zero d e within = refl
get_or-any (x ∷ xs) (suc i) d e within = get_or-any xs i d e (omega arith)

-- it is one of the list
pub In-at : {X : Type 0} (xs : List X) (i : ℕ) (d : X) → i < length xs → In (get_or xs i d) xs
In-at [] i d within = absurd (omega arith)
In-at (x ∷ xs) zero d within = inl refl
In-at (x ∷ xs) (suc i) d within = inr (In-at xs i d (omega arith))

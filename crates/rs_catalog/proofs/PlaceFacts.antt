-- Elements by their place, as a list grows at its end.
use Rattle.std.proofs.Common.{◌≡◌, ℕ, zero, suc, ◌+◌, Bool, not, cond, List, [], ◌∷◌, ◌++◌, map, Some, None, refl, ap, nat_lt}
use Rattle.std.proofs.lemmas.List.{length-map}
use Rattle.std.specs.Prelude.{slice_get}
use Rattle.std.specs.List.{position, position_or_len}

-- an element keeps its place when another one is put last
pub slice_get-push : {A : Type 0} (xs : List A) (n : ℕ) (x last : A) → slice_get xs n ≡ Some x → slice_get (xs ++ last ∷ []) n ≡ Some x
slice_get-push [] n x last at = cc
slice_get-push (y ∷ xs) zero x last at = at
slice_get-push (y ∷ xs) (suc n) x last at = slice_get-push xs n x last at

-- the first place that passes, where elements are looked at through a function
position_or_len-map : {A B : Type 0} (test : B → Bool) (f : A → B) (xs : List A) → position_or_len test (map f xs) ≡ position_or_len (λ x. test (f x)) xs
position_or_len-map test f [] = refl
position_or_len-map test f (x ∷ xs) = ap (λ rest. cond (not (test (f x))) (1 + rest) 0) (position_or_len-map test f xs)

pub position-map : {A B : Type 0} (test : B → Bool) (f : A → B) (xs : List A) → position test (map f xs) ≡ position (λ x. test (f x)) xs
position-map test f xs = λ i. cond (nat_lt (position_or_len-map test f xs i) (length-map xs f i)) (Some (position_or_len-map test f xs i)) None

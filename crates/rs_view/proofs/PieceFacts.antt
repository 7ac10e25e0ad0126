-- A piece of a list: the items behind some first ones, at most so many.
use Rattle.std.proofs.Common.{ℕ, zero, suc, ◌≡◌, ◌∙◌, ◌+◌, ◌-◌, List, [], ◌∷◌, drop, length, map, min, take, refl, ap, arith}
use Rattle.std.proofs.lemmas.List.{length-drop}

-- the first ones of some items, where more are wanted than there are
pub take-within : {A : Type 0} (n : ℕ) (xs : List A) → take (min n (length xs)) xs ≡ take n xs
take-within zero xs = let none : min 0 (length xs) ≡ 0 = omega arith in ap (λ (m : ℕ). take m xs) none
take-within (suc n) [] = let none : min (suc n) 0 ≡ 0 = omega arith in ap (λ (m : ℕ). take m []) none
take-within (suc n) (x ∷ xs) =
    let more : min (suc n) (suc (length xs)) ≡ suc (min n (length xs)) = omega arith in
    ap (λ (m : ℕ). take m (x ∷ xs)) more ∙ ap (λ rest. x ∷ rest) (take-within n xs)

-- those behind the first ones, where there are fewer
drop-within : {A : Type 0} (n : ℕ) (xs : List A) → drop (min n (length xs)) xs ≡ drop n xs
drop-within zero xs = let none : min 0 (length xs) ≡ 0 = omega arith in ap (λ (m : ℕ). drop m xs) none
drop-within (suc n) [] = let none : min (suc n) 0 ≡ 0 = omega arith in ap (λ (m : ℕ). drop m []) none
drop-within (suc n) (x ∷ xs) =
    let more : min (suc n) (suc (length xs)) ≡ suc (min n (length xs)) = omega arith in
    ap (λ (m : ℕ). drop m (x ∷ xs)) more ∙ drop-within n xs

-- the piece between two places that lie within the list
pub piece : {A : Type 0} (from most start count : ℕ) (xs : List A) → start ≡ min from (length xs) → count ≡ min most (length xs - start)
    → take (start + count - start) (drop start xs) ≡ take most (drop from xs)
piece from most start count xs first many =
    let behind : length (drop start xs) ≡ length xs - start = length-drop start xs in
    let size : start + count - start ≡ min most (length (drop start xs)) = omega (arith, many, behind) in
    ap (λ (n : ℕ). take n (drop start xs)) size ∙ take-within most (drop start xs) ∙ ap (take most) (ap (λ (n : ℕ). drop n xs) first ∙ drop-within from xs)

pub map-drop : {A B : Type 0} (f : A → B) (n : ℕ) (xs : List A) → map f (drop n xs) ≡ drop n (map f xs)
map-drop f zero xs = refl
map-drop f (suc n) [] = refl
map-drop f (suc n) (x ∷ xs) = map-drop f n xs

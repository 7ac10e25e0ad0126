-- Lists of six numbers, one number for each entry.
use Rattle.std.proofs.Common.{ℕ, zero, suc, ◌≡◌, ◌<◌, ◌≤◌, List, [], ◌∷◌, length, map, get_or, set, refl, ap₂, ◌⊎◌, inl, inr, arith}
use Rattle.std.specs.List.{AllByRecursion}

-- the number at a place of a list that another one was put into
pub set-here : (numbers : List ℕ) (place number : ℕ) → place < length numbers → get_or (set numbers place number) place 0 ≡ number
set-here [] place number within = absurd (omega arith)
set-here (n ∷ numbers) zero number within = refl
set-here (n ∷ numbers) (suc place) number within = set-here numbers place number (omega arith)

pub set-there : (numbers : List ℕ) (place other number : ℕ) → (other < place) ⊎ (place < other) → get_or (set numbers place number) other 0 ≡ get_or numbers other 0
set-there [] place other number apart = refl
set-there (n ∷ numbers) zero zero number apart = elim apart [ inl less ↦ absurd (omega arith) | inr more ↦ absurd (omega arith) ]
set-there (n ∷ numbers) zero (suc other) number apart = refl
set-there (n ∷ numbers) (suc place) zero number apart = refl
set-there (n ∷ numbers) (suc place) (suc other) number apart =
    set-there numbers place other number (elim apart [ inl less ↦ inl (omega arith) | inr more ↦ inr (omega arith) ])

-- two lists of one length with the same number at each place
pub same-numbers : (xs ys : List ℕ) → length xs ≡ length ys → ((k : ℕ) → k < length xs → get_or xs k 0 ≡ get_or ys k 0) → xs ≡ ys
same-numbers [] [] e same = refl
same-numbers [] (y ∷ ys) e same = absurd (omega (arith, e))
same-numbers (x ∷ xs) [] e same = absurd (omega (arith, e))
same-numbers (x ∷ xs) (y ∷ ys) e same = ap₂ (λ z zs. z ∷ zs) (same 0 (omega arith)) (same-numbers xs ys (omega (arith, e)) (λ k within. same (suc k) (omega arith)))

-- what holds of each number holds at each place
pub each-number : (most : ℕ) (xs : List ℕ) → ((k : ℕ) → k < length xs → get_or xs k 0 ≤ most) → AllByRecursion (λ x. x ≤ most) xs
each-number most [] few = tt
each-number most (x ∷ xs) few = (few 0 (omega arith), each-number most xs (λ k within. few (suc k) (omega arith)))

-- the length of a list at a place
pub length-at : (lists : List (List ℕ)) (k : ℕ) → get_or (map length lists) k 0 ≡ length (get_or lists k [])
length-at [] k = refl
length-at (list ∷ lists) zero = refl
length-at (list ∷ lists) (suc k) = length-at lists k

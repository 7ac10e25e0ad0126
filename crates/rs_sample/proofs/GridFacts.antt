-- Grids of numbers, one row after another.
use Rattle.std.proofs.Common.{ℕ, zero, suc, ◌≡◌, ◌∙◌, ◌+◌, ◌<◌, ◌≤◌, List, [], ◌∷◌, ◌++◌, length, get_or, refl, sym, ap, subst, inl, inr, arith}
use Rattle.std.specs.List.{AllByRecursion}
use Rattle.std.proofs.lemmas.Bool.{cases_lt}
use Rattle.rs_sample.specs.Quotients.{most_expected, number_at}

-- an item of a list with one more
pub push-before : {X : Type 0} (xs : List X) (y d : X) (k : ℕ) → k < length xs → get_or (xs ++ y ∷ []) k d ≡ get_or xs k d
push-before [] y d k within = absurd (omega arith)
push-before (x ∷ xs) y d zero within = refl
push-before (x ∷ xs) y d (suc k) within = push-before xs y d k (omega arith)

pub push-here : {X : Type 0} (xs : List X) (y d : X) → get_or (xs ++ y ∷ []) (length xs) d ≡ y
push-here [] y d = refl
push-here (x ∷ xs) y d = push-here xs y d

pub past : {X : Type 0} (xs : List X) (d : X) (k : ℕ) → length xs ≤ k → get_or xs k d ≡ d
past [] d k all = refl
past (x ∷ xs) d zero all = absurd (omega arith)
past (x ∷ xs) d (suc k) all = past xs d k (omega arith)

push-past : {X : Type 0} (xs : List X) (y d : X) (k : ℕ) → length xs < k → get_or (xs ++ y ∷ []) k d ≡ d
push-past [] y d zero all = absurd (omega arith)
push-past [] y d (suc k) all = refl
push-past (x ∷ xs) y d zero all = absurd (omega arith)
push-past (x ∷ xs) y d (suc k) all = push-past xs y d k (omega arith)

-- numbers of which each is within a limit, also past the last one
pub each-within : (most : ℕ) (row : List ℕ) (k : ℕ) → AllByRecursion (λ n. n ≤ most) row → get_or row k 0 ≤ most
each-within most [] k all = omega arith
each-within most (n ∷ row) zero all = all.0
each-within most (n ∷ row) (suc k) all = each-within most row k all.1

-- one more row
pub limits-push : (grid : List (List ℕ)) (row : List ℕ) (rows : ℕ) → length grid ≡ rows → ((mask terms : ℕ) → number_at grid mask terms ≤ most_expected mask)
    → AllByRecursion (λ n. n ≤ most_expected rows) row → (mask terms : ℕ) → number_at (grid ++ row ∷ []) mask terms ≤ most_expected mask
limits-push grid row rows count limits all mask terms = elim (cases_lt mask rows) [
  | inl before ↦ subst (λ r. get_or r terms 0 ≤ most_expected mask) (sym (push-before grid row [] mask (omega arith))) (limits mask terms)
  | inr behind ↦ elim (cases_lt rows mask) [
    | inl beyond ↦ subst (λ r. get_or r terms 0 ≤ most_expected mask) (sym (push-past grid row [] mask (omega arith))) (omega arith)
    | inr most ↦
        let same : rows ≡ mask = omega arith in
        subst (λ m. get_or (get_or (grid ++ row ∷ []) m []) terms 0 ≤ most_expected m) same
        (subst (λ r. get_or r terms 0 ≤ most_expected rows) (sym (ap (λ k. get_or (grid ++ row ∷ []) k []) (sym count) ∙ push-here grid row [])) (each-within (most_expected rows) row terms all))
  ]
]

-- the row at a place that is there already, and the last one
pub grid-before : (grid : List (List ℕ)) (row : List ℕ) (mask terms : ℕ) → mask < length grid → number_at (grid ++ row ∷ []) mask terms ≡ number_at grid mask terms
grid-before grid row mask terms within = ap (λ r. get_or r terms 0) (push-before grid row [] mask within)

pub grid-last : (grid : List (List ℕ)) (row : List ℕ) (rows terms : ℕ) → length grid ≡ rows → number_at (grid ++ row ∷ []) rows terms ≡ get_or row terms 0
grid-last grid row rows terms count = ap (λ r. get_or r terms 0) (ap (λ k. get_or (grid ++ row ∷ []) k []) (sym count) ∙ push-here grid row [])

-- what holds at each place, also of one more item
pub each-push-at : {X : Type 0} (P : ℕ → X → Type 0) (xs : List X) (x d : X) (n : ℕ) → length xs ≡ n → ((k : ℕ) → k < n → P k (get_or xs k d)) → P n x
    → (k : ℕ) → k < n + 1 → P k (get_or (xs ++ x ∷ []) k d)
each-push-at P xs x d n count each last k within = elim (cases_lt k n) [
  | inl before ↦ subst (P k) (sym (push-before xs x d k (omega arith))) (each k before)
  | inr behind ↦
      let same : n ≡ k = omega arith in
      subst (λ m. P m (get_or (xs ++ x ∷ []) m d)) same (subst (P n) (sym (ap (λ m. get_or (xs ++ x ∷ []) m d) (sym count) ∙ push-here xs x d)) last)
]

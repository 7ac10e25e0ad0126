-- Lists of different numbers: how many there can be, and which ones all of them are.
use Rattle.std.proofs.Common.{◌≡◌, ℕ, zero, suc, ◌+◌, ◌<◌, ◌≤◌, Bool, true, false, cond, eqb, List, [], ◌∷◌, length, refl, sym, subst, ◌⊎◌, inl, inr, arith}
use Rattle.std.proofs.lemmas.Bool.{cases_eq, eqb-true, ne_eqb, or_cases, false≢true}
use Rattle.std.proofs.lemmas.Map.Keys.{IsDistinct-cons}
use Rattle.std.proofs.lemmas.Map.Steps.{length-le_from_distinct_below}
use Rattle.std.specs.List.{AllByRecursion, IsDistinct, filter, list_any}
use Rattle.rs_order.specs.Climbing.{In}
use Rattle.rs_order.specs.Schedule.{numbers_from}
use Rattle.rs_order.proofs.ClimbingFacts.{AllByRecursion-In, AllByRecursion-from_In}
use Rattle.rs_order.proofs.EachFacts.{each-filter, each-weaker}
use Rattle.rs_ta.specs.Lists.{IsRow}

-- no number stands twice
abbrev pub AreApart : List ℕ → Type 0
AreApart [] = Unit {0}
AreApart (x ∷ xs) = AllByRecursion (λ y. x ≡ y → ⊥) xs × AreApart xs

IsDistinct-nil : IsDistinct eqb []
unfolding IsDistinct
IsDistinct-nil = tt

IsDistinct-apart : (xs : List ℕ) → AreApart xs → IsDistinct eqb xs
IsDistinct-apart [] apart = IsDistinct-nil
IsDistinct-apart (x ∷ xs) apart =
    IsDistinct-cons eqb x xs (each-weaker (λ y. x ≡ y → ⊥) (λ y. eqb x y ≡ false) (λ y differs. ne_eqb x y differs) xs apart.0) (IsDistinct-apart xs apart.1)

-- a number is one of a list, or it isn't
pub cases-In : (x : ℕ) (xs : List ℕ) → In x xs ⊎ (In x xs → ⊥)
cases-In x [] = inr (λ h. h)
cases-In x (y ∷ ys) = elim (cases_eq x y) [
  | inl same ↦ inl (inl same)
  | inr differs ↦ elim (cases-In x ys) [
    | inl behind ↦ inl (inr behind)
    | inr none ↦ inr (λ h. elim h [ inl same ↦ differs same | inr behind ↦ none behind ])
  ]
]

In-list_any : (x : ℕ) (xs : List ℕ) → list_any (eqb x) xs ≡ true → In x xs
In-list_any x [] e = absurd (false≢true e)
In-list_any x (y ∷ ys) e = elim (or_cases (eqb x y) (list_any (eqb x) ys) e) [ inl same ↦ inl (eqb-true x y same) | inr behind ↦ inr (In-list_any x ys behind) ]

-- there are no more of them than rows
pub few-apart : (rows : ℕ) (xs : List ℕ) → AllByRecursion (IsRow rows) xs → AreApart xs → length xs ≤ rows
few-apart rows xs within apart =
    let more : length (0 ∷ xs) ≤ suc rows = length-le_from_distinct_below (0 ∷ xs) (suc rows) (IsDistinct-apart (0 ∷ xs) (no_zero, apart)) below in
    omega arith
  where
    no_zero : AllByRecursion (λ y. 0 ≡ y → ⊥) xs
    no_zero = each-weaker (IsRow rows) (λ y. 0 ≡ y → ⊥) (λ y is same. let some = is.some in omega arith) xs within

    below : (q : ℕ) → list_any (eqb q) (0 ∷ xs) ≡ true → q < suc rows
    below q e = elim (In-list_any q (0 ∷ xs) e) [
      | inl same ↦ omega arith
      | inr behind ↦ let is = AllByRecursion-In (IsRow rows) xs within q behind in let most = is.within in omega arith
    ]

-- as many as there are rows are all of them
pub all-apart : (rows : ℕ) (xs : List ℕ) → AllByRecursion (IsRow rows) xs → AreApart xs → length xs ≡ rows → (row : ℕ) → IsRow rows row → In row xs
all-apart rows xs within apart all row is = elim (cases-In row xs) [
  | inl here ↦ here
  | inr none ↦
      let more : length (row ∷ xs) ≤ rows =
      few-apart rows (row ∷ xs) (is, within) (AllByRecursion-from_In (λ y. row ≡ y → ⊥) xs (λ y h same. none (subst (λ z. In z xs) (sym same) h)), apart) in
      absurd (omega arith)
]

-- numbers from one on
pub In-numbers_from : (first count number : ℕ) → first ≤ number → number < first + count → In number (numbers_from first count)
In-numbers_from first zero number low high = absurd (omega arith)
In-numbers_from first (suc count) number low high = elim (cases_eq number first) [
  | inl same ↦ inl same
  | inr differs ↦ inr (In-numbers_from (suc first) count number (omega arith) (omega arith))
]

pub In-numbers_from-back : (first count number : ℕ) → In number (numbers_from first count) → (first ≤ number) × (number < first + count)
In-numbers_from-back first zero number h = absurd h
In-numbers_from-back first (suc count) number h = elim h [
  | inl same ↦ (omega arith, omega arith)
  | inr behind ↦ let both = In-numbers_from-back (suc first) count number behind in let low = both.0 in let high = both.1 in (omega arith, omega arith)
]

pub apart-numbers_from : (first count : ℕ) → AreApart (numbers_from first count)
apart-numbers_from first zero = tt
apart-numbers_from first (suc count) = (
  AllByRecursion-from_In (λ y. first ≡ y → ⊥) (numbers_from (suc first) count)
      (λ y h same. let both = In-numbers_from-back (suc first) count y h in let low = both.0 in omega arith),
  apart-numbers_from (suc first) count,
)

pub length-numbers_from : (first count : ℕ) → length (numbers_from first count) ≡ count
length-numbers_from first zero = refl
length-numbers_from first (suc count) = let e = length-numbers_from (suc first) count in omega arith

-- those that pass a test are apart
pub apart-filter : (test : ℕ → Bool) (xs : List ℕ) → AreApart xs → AreApart (filter test xs)
apart-filter test [] apart = tt
apart-filter test (x ∷ xs) apart = go (test x) (apart-filter test xs apart.1)
  where
    go : (passes : Bool) → AreApart (filter test xs) → AreApart (cond passes (x ∷ filter test xs) (filter test xs))
    go true rest = (each-filter (λ y. x ≡ y → ⊥) test xs apart.0, rest)
    go false rest = rest

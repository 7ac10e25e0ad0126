-- A choice of rows for the entries of two masks is one for each of both, merged.
use Rattle.std.proofs.Common.{◌≡◌, ℕ, ◌/◌, ◌%◌, ◌≤◌, ◌&&◌, Bool, true, false, cond, eqb, List, [], ◌∷◌, bit_or, refl, sym, ap, ap₂, subst, arith}
use Rattle.std.proofs.lemmas.Bool.Decides.{nat_tests}
use Rattle.rs_rank.specs.Ids.{IsZeroOutside, merge_rows, rows_inside}
use Rattle.rs_rank.proofs.IdsFacts.{merge_number}
use Rattle.rs_rank.proofs.MaskFacts.{bit_or-others}
use Rattle.rs_query.specs.Choices.{IsChoice, IsRowNumber}
use Rattle.rs_filter.proofs.SideFacts.{outside-both}

-- the number of one entry, of the left side, and of the right one
cut-left : (outside outside_right : Bool) (size row : ℕ) → IsRowNumber (outside && outside_right) size row → IsRowNumber outside size (cond outside 0 row)
cut-left true outside_right size row is = refl
cut-left false outside_right size row is = is

cut-right : (outside outside_right : Bool) (size row : ℕ) → IsRowNumber (outside && outside_right) size row → IsRowNumber outside_right size (cond outside_right 0 row)
cut-right outside true size row is = refl
cut-right true false size row is = is
cut-right false false size row is = is

not-zero : (n : ℕ) → 1 ≤ n → eqb n 0 ≡ false
not-zero n some = grind (arith, nat_tests)

merged-again : (outside outside_right : Bool) (size row : ℕ) → IsRowNumber (outside && outside_right) size row
    → merge_number (cond outside 0 row) (cond outside_right 0 row) ≡ row
merged-again true true size row is = sym is
merged-again true false size row is = refl
merged-again false true size row is = ap (λ b. cond b 0 row) (not-zero row is.0)
merged-again false false size row is = ap (λ b. cond b row row) (not-zero row is.0)

-- its rows of the entries of a side are a choice for these
pub IsChoice-left : (m n : ℕ) (sizes rows : List ℕ) → IsChoice (bit_or m n) sizes rows → IsChoice m sizes (rows_inside m rows)
IsChoice-left m n [] [] is = tt
IsChoice-left m n [] (row ∷ rows) is = absurd is
IsChoice-left m n (size ∷ sizes) [] is = absurd is
IsChoice-left m n (size ∷ sizes) (row ∷ rows) is = (
  cut-left (eqb (m % 2) 0) (eqb (n % 2) 0) size row (subst (λ b. IsRowNumber b size row) (outside-both m n) is.0),
  IsChoice-left (m / 2) (n / 2) sizes rows (subst (λ mask. IsChoice mask sizes rows) (bit_or-others m n) is.1),
)

pub IsChoice-right : (m n : ℕ) (sizes rows : List ℕ) → IsChoice (bit_or m n) sizes rows → IsChoice n sizes (rows_inside n rows)
IsChoice-right m n [] [] is = tt
IsChoice-right m n [] (row ∷ rows) is = absurd is
IsChoice-right m n (size ∷ sizes) [] is = absurd is
IsChoice-right m n (size ∷ sizes) (row ∷ rows) is = (
  cut-right (eqb (m % 2) 0) (eqb (n % 2) 0) size row (subst (λ b. IsRowNumber b size row) (outside-both m n) is.0),
  IsChoice-right (m / 2) (n / 2) sizes rows (subst (λ mask. IsChoice mask sizes rows) (bit_or-others m n) is.1),
)

-- and both sides merged are the choice
pub merge-split : (m n : ℕ) (sizes rows : List ℕ) → IsChoice (bit_or m n) sizes rows → merge_rows (rows_inside m rows) (rows_inside n rows) ≡ rows
merge-split m n [] [] is = refl
merge-split m n [] (row ∷ rows) is = absurd is
merge-split m n (size ∷ sizes) [] is = absurd is
merge-split m n (size ∷ sizes) (row ∷ rows) is =
    ap₂ (λ (number : ℕ) (others : List ℕ). number ∷ others)
    (merged-again (eqb (m % 2) 0) (eqb (n % 2) 0) size row (subst (λ b. IsRowNumber b size row) (outside-both m n) is.0))
    (merge-split (m / 2) (n / 2) sizes rows (subst (λ mask. IsChoice mask sizes rows) (bit_or-others m n) is.1))

-- a choice has 0 at the other entries
pub IsZeroOutside-choice : (mask : ℕ) (sizes rows : List ℕ) → IsChoice mask sizes rows → IsZeroOutside mask rows
IsZeroOutside-choice mask [] [] is = tt
IsZeroOutside-choice mask [] (row ∷ rows) is = absurd is
IsZeroOutside-choice mask (size ∷ sizes) [] is = absurd is
IsZeroOutside-choice mask (size ∷ sizes) (row ∷ rows) is = (
  λ none. subst (λ (bit : ℕ). IsRowNumber (eqb bit 0) size row) none is.0,
  IsZeroOutside-choice (mask / 2) sizes rows is.1,
)

-- Rows of two sides, and the rows of both together.
use Rattle.std.proofs.Common.{◌≡◌, ℕ, zero, suc, ◌-◌, ◌/◌, ◌%◌, ◌^◌, ◌<◌, ◌≤◌, ◌&&◌, Bool, true, false, cond, eqb, List, [], ◌∷◌, length, get_or, drop, nat_le, bit_and, bit_or, max, refl, sym, ◌∙◌, ap, subst, arith}
use Rattle.std.specs.Int.{bit_at}
use Rattle.std.proofs.lemmas.Bool.{eqb-true, eq-eqb, le-leb, leb-true, true≢false}
use Rattle.std.proofs.lemmas.Bool.Decides.{nat_tests}
use Rattle.std.proofs.lemmas.Option.{unwrap_or-slice_get}
use Rattle.std.proofs.Math.Nat.{div-one}
use Rattle.std.proofs.Math.Seq.{drop-cons}
use Rattle.rs_rank.specs.Ids.{merge_rows}
use Rattle.rs_rank.specs.Masks.{AreDisjoint}
use Rattle.rs_rank.proofs.IdsFacts.{merge_number}
use Rattle.rs_rank.proofs.MaskFacts.{bit_and-first, bit_and-others, bit_or-first, bit_or-others, half-before, half-behind}
use Rattle.rs_query.specs.Choices.{AgreeOn, IsChoice, IsRowNumber}
use Rattle.rs_filter.specs.Matching.{IsView, is_choice, is_row_number}

-- what the test finds is so
IsRowNumber-test : (outside : Bool) (size row : ℕ) → is_row_number outside size row ≡ true → IsRowNumber outside size row
IsRowNumber-test true size row is = eqb-true row 0 is
IsRowNumber-test false size row is = both (nat_le 1 row) (nat_le row size) is refl refl where
  both : (some most : Bool) → (some && most) ≡ true → nat_le 1 row ≡ some → nat_le row size ≡ most → (1 ≤ row) × (row ≤ size)
  both true true e f g = (leb-true 1 row f, leb-true row size g)
  both true false e f g = absurd (true≢false (sym e))
  both false most e f g = absurd (true≢false (sym e))

pub and-first : (a b : Bool) → (a && b) ≡ true → a ≡ true
and-first true b e = refl
and-first false b e = absurd (true≢false (sym e))

pub and-second : (a b : Bool) → (a && b) ≡ true → b ≡ true
and-second true b e = e
and-second false b e = absurd (true≢false (sym e))

pub IsChoice-test : (mask : ℕ) (sizes rows : List ℕ) → is_choice mask sizes rows ≡ true → IsChoice mask sizes rows
IsChoice-test mask [] [] is = tt
IsChoice-test mask [] (row ∷ rows) is = true≢false (sym is)
IsChoice-test mask (size ∷ sizes) [] is = true≢false (sym is)
IsChoice-test mask (size ∷ sizes) (row ∷ rows) is = (
  IsRowNumber-test (eqb (mask % 2) 0) size row (and-first (is_row_number (eqb (mask % 2) 0) size row) (is_choice (mask / 2) sizes rows) is),
  IsChoice-test (mask / 2) sizes rows (and-second (is_row_number (eqb (mask % 2) 0) size row) (is_choice (mask / 2) sizes rows) is),
)

-- and what is so in a view is found
test-IsRowNumber : (outside : Bool) (size most row : ℕ) → size ≤ most → IsRowNumber outside size row → is_row_number outside most row ≡ true
test-IsRowNumber true size most row view is = eq-eqb row 0 is
test-IsRowNumber false size most row view is =
    ap (λ b. b && nat_le row most) (le-leb 1 row is.0) ∙ le-leb row most (let within = is.1 in omega arith)

pub test-IsChoice : (mask : ℕ) (sizes all rows : List ℕ) → IsView sizes all → IsChoice mask sizes rows → is_choice mask all rows ≡ true
test-IsChoice mask [] [] [] view is = refl
test-IsChoice mask [] [] (row ∷ rows) view is = absurd is
test-IsChoice mask [] (most ∷ all) rows view is = absurd view
test-IsChoice mask (size ∷ sizes) [] rows view is = absurd view
test-IsChoice mask (size ∷ sizes) (most ∷ all) [] view is = absurd is
test-IsChoice mask (size ∷ sizes) (most ∷ all) (row ∷ rows) view is =
    ap (λ b. b && is_choice (mask / 2) all rows) (test-IsRowNumber (eqb (mask % 2) 0) size most row view.0 is.0)
    ∙ test-IsChoice (mask / 2) sizes all rows view.1 is.1

-- the first of the entries from a place on, and those behind it
pub choice-step : (mask place : ℕ) (sizes rows : List ℕ) → place < length sizes → place < length rows
    → is_choice (mask / 2 ^ place) (drop place sizes) (drop place rows)
    ≡ (is_row_number (eqb (mask / 2 ^ place % 2) 0) (get_or sizes place 0) (get_or rows place 0) && is_choice (mask / 2 ^ suc place) (drop (suc place) sizes) (drop (suc place) rows))
choice-step mask place sizes rows p q =
    rw (drop-cons sizes place 0 p, drop-cons rows place 0 q, half-behind mask place) refl

-- what is outside both masks
pub outside-both : (m n : ℕ) → eqb (bit_or m n % 2) 0 ≡ (eqb (m % 2) 0 && eqb (n % 2) 0)
outside-both m n = both (bit_or m n % 2) (bit_or-first m n) where
  both : (o : ℕ) → o ≡ max (m % 2) (n % 2) → eqb o 0 ≡ (eqb (m % 2) 0 && eqb (n % 2) 0)
  both o e = grind (arith, nat_tests)

merged-number : (outside outside_right : Bool) (size left right : ℕ) → IsRowNumber outside size left → IsRowNumber outside_right size right
    → IsRowNumber (outside && outside_right) size (merge_number left right)
merged-number true true size left right l r = rw (l, r) refl
merged-number true false size left right l r = rw l r
merged-number false outside_right size left right l r =
    subst (λ b. (1 ≤ cond b right left) × (cond b right left ≤ size)) (sym (not_zero left l.0)) l where
      not_zero : (n : ℕ) → 1 ≤ n → eqb n 0 ≡ false
      not_zero n some = grind (arith, nat_tests)

-- choices of two sides make one of both together
pub IsChoice-merge : (m n : ℕ) (sizes lefts rights : List ℕ) → IsChoice m sizes lefts → IsChoice n sizes rights → IsChoice (bit_or m n) sizes (merge_rows lefts rights)
IsChoice-merge m n [] [] [] l r = tt
IsChoice-merge m n [] [] (right ∷ rights) l r = absurd r
IsChoice-merge m n [] (left ∷ lefts) rights l r = absurd l
IsChoice-merge m n (size ∷ sizes) [] rights l r = absurd l
IsChoice-merge m n (size ∷ sizes) (left ∷ lefts) [] l r = absurd r
IsChoice-merge m n (size ∷ sizes) (left ∷ lefts) (right ∷ rights) l r = (
  subst (λ b. IsRowNumber b size (merge_number left right)) (sym (outside-both m n)) (merged-number (eqb (m % 2) 0) (eqb (n % 2) 0) size left right l.0 r.0),
  subst (λ mask. IsChoice mask sizes (merge_rows lefts rights)) (sym (bit_or-others m n)) (IsChoice-merge (m / 2) (n / 2) sizes lefts rights l.1 r.1),
)

-- an entry of the left side has its row in both together
one-number : (m size row : ℕ) → m % 2 ≡ 1 → IsRowNumber (eqb (m % 2) 0) size row → eqb row 0 ≡ false
one-number m size row one is =
    let inside : IsRowNumber false size row = subst (λ d. IsRowNumber (eqb d 0) size row) one is in
    some row inside.0
  where
    some : (n : ℕ) → 1 ≤ n → eqb n 0 ≡ false
    some n least = grind (arith, nat_tests)

no-number : (m size row : ℕ) → m % 2 ≡ 0 → IsRowNumber (eqb (m % 2) 0) size row → row ≡ 0
no-number m size row none is = subst (λ d. IsRowNumber (eqb d 0) size row) none is

pub merged-left : (i m : ℕ) (sizes lefts rights : List ℕ) → IsChoice m sizes lefts → length rights ≡ length lefts → bit_at m i ≡ 1
    → get_or (merge_rows lefts rights) i 0 ≡ get_or lefts i 0
merged-left i m [] [] rights l same bit = refl
merged-left i m [] (left ∷ lefts) rights l same bit = absurd l
merged-left i m (size ∷ sizes) [] rights l same bit = absurd l
merged-left i m (size ∷ sizes) (left ∷ lefts) [] l same bit = absurd (omega arith)
merged-left zero m (size ∷ sizes) (left ∷ lefts) (right ∷ rights) l same bit =
    ap (λ b. cond b right left) (one-number m size left (rw (div-one m) at bit) l.0)
merged-left (suc i) m (size ∷ sizes) (left ∷ lefts) (right ∷ rights) l same bit =
    merged-left i (m / 2) sizes lefts rights l.1 (omega arith) (rw (half-before m i) at bit)

-- and one of the right side, where the left side doesn't have it
pub merged-right : (i m n : ℕ) (sizes lefts rights : List ℕ) → IsChoice m sizes lefts → length rights ≡ length lefts → bit_and m n ≡ 0 → bit_at n i ≡ 1
    → get_or (merge_rows lefts rights) i 0 ≡ get_or rights i 0
merged-right i m n [] [] [] l same apart bit = refl
merged-right i m n [] [] (right ∷ rights) l same apart bit = absurd (omega arith)
merged-right i m n [] (left ∷ lefts) rights l same apart bit = absurd l
merged-right i m n (size ∷ sizes) [] rights l same apart bit = absurd l
merged-right i m n (size ∷ sizes) (left ∷ lefts) [] l same apart bit = absurd (omega arith)
merged-right zero m n (size ∷ sizes) (left ∷ lefts) (right ∷ rights) l same apart bit =
    let one : n % 2 ≡ 1 = rw (div-one n) at bit in
    let both = bit_and-first m n in
    let none : m % 2 ≡ 0 = omega arith in
    ap (λ row. merge_number row right) (no-number m size left none l.0)
merged-right (suc i) m n (size ∷ sizes) (left ∷ lefts) (right ∷ rights) l same apart bit =
    let others = bit_and-others m n in
    let rest : bit_and (m / 2) (n / 2) ≡ 0 = omega arith in
    merged-right i (m / 2) (n / 2) sizes lefts rights l.1 (omega arith) rest (rw (half-before n i) at bit)

pub length-choice : (mask : ℕ) (sizes rows : List ℕ) → IsChoice mask sizes rows → length rows ≡ length sizes
length-choice mask [] [] is = refl
length-choice mask [] (row ∷ rows) is = absurd is
length-choice mask (size ∷ sizes) [] is = absurd is
length-choice mask (size ∷ sizes) (row ∷ rows) is = let e = length-choice (mask / 2) sizes rows is.1 in omega arith

pub AgreeOn-left : (m n : ℕ) (sizes lefts rights : List ℕ) → IsChoice m sizes lefts → IsChoice n sizes rights → AgreeOn m (merge_rows lefts rights) lefts
AgreeOn-left m n sizes lefts rights l r entry some has =
    let left = length-choice m sizes lefts l in
    let right = length-choice n sizes rights r in
    unwrap_or-slice_get (merge_rows lefts rights) (entry - 1) 0
    ∙ merged-left (entry - 1) m sizes lefts rights l (omega arith) (eqb-true (bit_at m (entry - 1)) 1 has)
    ∙ sym (unwrap_or-slice_get lefts (entry - 1) 0)

pub AgreeOn-right : (m n : ℕ) (sizes lefts rights : List ℕ) → AreDisjoint m n → IsChoice m sizes lefts → IsChoice n sizes rights → AgreeOn n (merge_rows lefts rights) rights
AgreeOn-right m n sizes lefts rights apart l r entry some has =
    let left = length-choice m sizes lefts l in
    let right = length-choice n sizes rights r in
    unwrap_or-slice_get (merge_rows lefts rights) (entry - 1) 0
    ∙ merged-right (entry - 1) m n sizes lefts rights l (omega arith) apart (eqb-true (bit_at n (entry - 1)) 1 has)
    ∙ sym (unwrap_or-slice_get rights (entry - 1) 0)

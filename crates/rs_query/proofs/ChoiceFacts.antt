-- Choices: which lists of row numbers they are, and that they stand in lexicographic order.
use Rattle.std.proofs.Common.{ℕ, zero, suc, ◌≡◌, ◌∙◌, ◌/◌, ◌%◌, ◌<◌, ◌≤◌, Bool, true, false, cond, eqb, List, [], ◌∷◌, map, refl, sym, ap, ap₂, subst, inl, inr, arith}
use Rattle.std.specs.List.{AllByRecursion, flat_map}
use Rattle.std.specs.Cmp.{nat_cmp_is}
use Rattle.std.specs.Cmp.Lexicographic.{slice_cmp}
use Rattle.std.specs.Ordering.{nat_cmp, ordering_then}
use Rattle.std.specs.declared.cmp.Ordering.TheVariants.{Less}
use Rattle.std.specs.declared.cmp.Ordering.{Ordering}
use Rattle.std.proofs.lemmas.Bool.{cases_lt}
use Rattle.std.proofs.lemmas.Cmp.{nat_cmp_total, tied_itself}
use Rattle.rs_order.specs.Climbing.{Climbs, In, Precedes}
use Rattle.rs_order.proofs.ClimbingFacts.{AllByRecursion-In}
use Rattle.rs_catalog.specs.Catalog.{CatalogDef}
use Rattle.rs_query.specs.declared.block.Block.{Block}
use Rattle.rs_query.specs.Choices.{IsChoice, IsRowNumber}
use Rattle.rs_query.specs.Combinations.{choices, combinations, numbers_to, satisfies}
use Rattle.rs_order.proofs.ItemFacts.{In-left, In-right, In-append, In-map, In-map-back, In-flat_map, In-flat_map-back, In-filter, In-filter-back, Climbs-append, Climbs-filter}

-- the numbers up to one
In-numbers_to : (r n : ℕ) → 1 ≤ r → r ≤ n → In r (numbers_to n)
In-numbers_to r zero some most = absurd (omega arith)
In-numbers_to r (suc n) some most = elim (cases_lt n r) [
  | inl above ↦ In-right r (numbers_to n) (suc n ∷ []) (inl (omega arith))
  | inr below ↦ In-left r (numbers_to n) (suc n ∷ []) (In-numbers_to r n some below)
]

In-numbers_to-back : (r n : ℕ) → In r (numbers_to n) → (1 ≤ r) × (r ≤ n)
In-numbers_to-back r zero h = absurd h
In-numbers_to-back r (suc n) h = elim (In-append r (numbers_to n) (suc n ∷ []) h) [
  | inl before ↦ let within = In-numbers_to-back r n before in (within.0, omega (arith, within.1))
  | inr last ↦ elim last [ inl e ↦ (omega (arith, e), omega (arith, e)) | inr none ↦ absurd none ]
]

-- the row numbers of one entry
abbrev numbers_of : Bool → ℕ → List ℕ
numbers_of outside size = cond outside (0 ∷ []) (numbers_to size)

In-numbers_of : (outside : Bool) (size row : ℕ) → IsRowNumber outside size row → In row (numbers_of outside size)
In-numbers_of true size row is = inl is
In-numbers_of false size row is = In-numbers_to row size is.0 is.1

In-numbers_of-back : (outside : Bool) (size row : ℕ) → In row (numbers_of outside size) → IsRowNumber outside size row
In-numbers_of-back true size row h = elim h [ inl e ↦ e | inr none ↦ absurd none ]
In-numbers_of-back false size row h = In-numbers_to-back row size h

-- a row number before others
abbrev before : ℕ → List ℕ → List ℕ
before row = λ rows. row ∷ rows

-- choices are exactly those
pub In-choices : (mask : ℕ) (sizes rows : List ℕ) → IsChoice mask sizes rows → In rows (choices mask sizes)
In-choices mask [] [] is = inl refl
In-choices mask [] (row ∷ rows) is = absurd is
In-choices mask (size ∷ sizes) [] is = absurd is
In-choices mask (size ∷ sizes) (row ∷ rows) is =
    In-flat_map (λ r. map (before r) (choices (mask / 2) sizes)) row (row ∷ rows) (numbers_of (eqb (mask % 2) 0) size)
    (In-numbers_of (eqb (mask % 2) 0) size row is.0)
    (In-map (before row) rows (choices (mask / 2) sizes) (In-choices (mask / 2) sizes rows is.1))

pub In-choices-back : (mask : ℕ) (sizes rows : List ℕ) → In rows (choices mask sizes) → IsChoice mask sizes rows
In-choices-back mask [] rows h = elim h [ inl e ↦ subst (IsChoice mask []) (sym e) tt | inr none ↦ absurd none ]
In-choices-back mask (size ∷ sizes) rows h =
    let made = In-flat_map-back (λ r. map (before r) (choices (mask / 2) sizes)) rows (numbers_of (eqb (mask % 2) 0) size) h in
    let image = In-map-back (before made.source) rows (choices (mask / 2) sizes) made.made in
    subst (IsChoice mask (size ∷ sizes)) (sym image.image)
    (In-numbers_of-back (eqb (mask % 2) 0) size made.source made.is_in, In-choices-back (mask / 2) sizes image.source image.is_in)

-- the order of lists of row numbers
abbrev rows_cmp : List ℕ → List ℕ → Ordering
rows_cmp = slice_cmp nat_cmp

nat_cmp-less : (m n : ℕ) → m < n → nat_cmp m n ≡ Less
nat_cmp-less m n less = sym (nat_cmp_is m n Less less)

-- numbers rise
Climbs-numbers_to : (n : ℕ) → Climbs nat_cmp (λ r. r) (numbers_to n)
Climbs-numbers_to zero = tt
Climbs-numbers_to (suc n) =
    Climbs-append nat_cmp (λ r. r) (numbers_to n) (suc n ∷ []) (Climbs-numbers_to n) (tt, tt)
    (λ v w h k. elim k [
      | inl e ↦ let within = In-numbers_to-back v n h in nat_cmp-less v w (omega (arith, within.1, e))
      | inr none ↦ absurd none
    ])

Climbs-numbers_of : (outside : Bool) (size : ℕ) → Climbs nat_cmp (λ r. r) (numbers_of outside size)
Climbs-numbers_of true size = (tt, tt)
Climbs-numbers_of false size = Climbs-numbers_to size

-- lists that begin alike stand as what is behind
AllByRecursion-before : (row : ℕ) (rows : List ℕ) (lists : List (List ℕ)) → AllByRecursion (Precedes rows_cmp (λ r. r) rows) lists → AllByRecursion (Precedes rows_cmp (λ r. r) (row ∷ rows)) (map (before row) lists)
AllByRecursion-before row rows [] all = tt
AllByRecursion-before row rows (other ∷ lists) all = (
  ap (λ o. ordering_then o (rows_cmp rows other)) (tied_itself nat_cmp_total row) ∙ all.0,
  AllByRecursion-before row rows lists all.1,
)

Climbs-before : (row : ℕ) (lists : List (List ℕ)) → Climbs rows_cmp (λ r. r) lists → Climbs rows_cmp (λ r. r) (map (before row) lists)
Climbs-before row [] c = tt
Climbs-before row (rows ∷ lists) c = (AllByRecursion-before row rows lists c.0, Climbs-before row lists c.1)

-- and of those that begin otherwise the first row number decides
Climbs-rows : (numbers : List ℕ) (lists : List (List ℕ)) → Climbs nat_cmp (λ r. r) numbers → Climbs rows_cmp (λ r. r) lists → Climbs rows_cmp (λ r. r) (flat_map (λ r. map (before r) lists) numbers)
Climbs-rows [] lists c d = tt
Climbs-rows (number ∷ numbers) lists c d =
    Climbs-append rows_cmp (λ r. r) (map (before number) lists) (flat_map (λ r. map (before r) lists) numbers)
    (Climbs-before number lists d) (Climbs-rows numbers lists c.1 d)
    (λ v w h k.
    let left = In-map-back (before number) v lists h in
    let made = In-flat_map-back (λ r. map (before r) lists) w numbers k in
    let right = In-map-back (before made.source) w lists made.made in
    let less : nat_cmp number made.source ≡ Less = AllByRecursion-In (Precedes nat_cmp (λ r. r) number) numbers c.0 made.source made.is_in in
    let first : rows_cmp (number ∷ left.source) (made.source ∷ right.source) ≡ Less = ap (λ o. ordering_then o (rows_cmp left.source right.source)) less in
    ap₂ rows_cmp left.image right.image ∙ first)

pub Climbs-choices : (mask : ℕ) (sizes : List ℕ) → Climbs (slice_cmp nat_cmp) (λ rows. rows) (choices mask sizes)
Climbs-choices mask [] = (tt, tt)
Climbs-choices mask (size ∷ sizes) =
    Climbs-rows (numbers_of (eqb (mask % 2) 0) size) (choices (mask / 2) sizes) (Climbs-numbers_of (eqb (mask % 2) 0) size) (Climbs-choices (mask / 2) sizes)

module _ (catalogue : CatalogDef) (block : Block) (sizes : List ℕ) (mask : ℕ) where
  -- combinations are the choices that satisfy the conditions
  pub In-combinations : (rows : List ℕ) → IsChoice mask sizes rows → satisfies catalogue block mask rows ≡ true → In rows (combinations catalogue block sizes mask)
  In-combinations rows is holds = In-filter (satisfies catalogue block mask) rows (choices mask sizes) (In-choices mask sizes rows is) holds

  pub In-combinations-back : (rows : List ℕ) → In rows (combinations catalogue block sizes mask) → IsChoice mask sizes rows × (satisfies catalogue block mask rows ≡ true)
  In-combinations-back rows h =
      let both = In-filter-back (satisfies catalogue block mask) rows (choices mask sizes) h in
      (In-choices-back mask sizes rows both.0, both.1)

  -- and stand in lexicographic order
  pub Climbs-combinations : Climbs (slice_cmp nat_cmp) (λ rows. rows) (combinations catalogue block sizes mask)
  Climbs-combinations = Climbs-filter (slice_cmp nat_cmp) (λ rows. rows) (satisfies catalogue block mask) (choices mask sizes) (Climbs-choices mask sizes)

-- Row numbers of two sides, merged entry by entry.
use Rattle.std.proofs.Common.{◌≡◌, ℕ, zero, suc, ◌+◌, ◌/◌, ◌%◌, ◌<◌, ◌≤◌, cond, eqb, List, [], ◌∷◌, ◌++◌, length, get_or, set, take, bit_and, bit_or, refl, sym, ◌∙◌, ap, ◌⊎◌, inl, inr, arith}
use Rattle.std.proofs.lemmas.Bool.{cases_lt}
use Rattle.std.proofs.lemmas.Bool.Decides.{nat_tests}
use Rattle.std.proofs.lemmas.List.{take_all, take_more, take_more_set}
use Rattle.std.proofs.lemmas.Nat.{or_lt}
use Rattle.rs_rank.specs.declared.ids.Ids.{Ids}
use Rattle.rs_rank.specs.Ids.{AreSidesOfRow, IsIds, IsZeroOutside, merge_ids, merge_rows, rows_inside}
use Rattle.rs_rank.proofs.MaskFacts.{bit_and-first, bit_and-others, bit_or-first, bit_or-others}

-- one entry of both sides
abbrev pub merge_number : ℕ → ℕ → ℕ
merge_number left right = cond (eqb left 0) right left

pub length-merge_rows : (lefts rights : List ℕ) → length lefts ≡ length rights → length (merge_rows lefts rights) ≡ length lefts
length-merge_rows [] rights e = refl
length-merge_rows (left ∷ lefts) [] e = absurd (omega arith)
length-merge_rows (left ∷ lefts) (right ∷ rights) e = let others = length-merge_rows lefts rights (omega arith) in omega arith

pub get_or-merge_rows : (i : ℕ) (lefts rights : List ℕ) → i < length lefts → i < length rights → get_or (merge_rows lefts rights) i 0 ≡ merge_number (get_or lefts i 0) (get_or rights i 0)
get_or-merge_rows i [] rights p q = absurd (omega arith)
get_or-merge_rows i (left ∷ lefts) [] p q = absurd (omega arith)
get_or-merge_rows zero (left ∷ lefts) (right ∷ rights) p q = refl
get_or-merge_rows (suc i) (left ∷ lefts) (right ∷ rights) p q = get_or-merge_rows i lefts rights (omega arith) (omega arith)

-- the next entry is merged too
pub take-merge_rows : (i : ℕ) (lefts rights rows : List ℕ) → i < length rows → i < length lefts → length lefts ≡ length rights → take i rows ≡ take i (merge_rows lefts rights) →
    take (i + 1) (set rows i (merge_number (get_or lefts i 0) (get_or rights i 0))) ≡ take (i + 1) (merge_rows lefts rights)
take-merge_rows i lefts rights rows p q e so_far =
    let size = length-merge_rows lefts rights e in
    take_more_set rows i (merge_number (get_or lefts i 0) (get_or rights i 0)) p
    ∙ ap (λ front. front ++ merge_number (get_or lefts i 0) (get_or rights i 0) ∷ []) so_far
    ∙ ap (λ n. take i (merge_rows lefts rights) ++ n ∷ []) (sym (get_or-merge_rows i lefts rights q (omega arith)))
    ∙ sym (take_more (merge_rows lefts rights) i 0 (omega arith))

-- all entries are merged
pub merged_all : (i : ℕ) (lefts rights rows : List ℕ) → length rows ≤ i → length lefts ≤ i → length lefts ≡ length rights → take i rows ≡ take i (merge_rows lefts rights) → rows ≡ merge_rows lefts rights
merged_all i lefts rights rows p q e so_far =
    let size = length-merge_rows lefts rights e in
    sym (take_all i rows p) ∙ so_far ∙ take_all i (merge_rows lefts rights) (omega arith)

-- what lies outside the union is 0 where each side is 0 outside its own mask
pub IsZeroOutside-merge_rows : (m n : ℕ) (lefts rights : List ℕ) → IsZeroOutside m lefts → IsZeroOutside n rights → IsZeroOutside (bit_or m n) (merge_rows lefts rights)
IsZeroOutside-merge_rows m n [] rights p q = tt
IsZeroOutside-merge_rows m n (left ∷ lefts) [] p q = tt
IsZeroOutside-merge_rows m n (left ∷ lefts) (right ∷ rights) p q = (
  λ outside.
      let bit = bit_or-first m n in
      let l : left ≡ 0 = p.0 (omega arith) in
      let r : right ≡ 0 = q.0 (omega arith) in
      rw (l, r) refl,
  rw (bit_or-others m n) (IsZeroOutside-merge_rows (m / 2) (n / 2) lefts rights p.1 q.1),
)

-- the ids of both sides are whole
pub IsIds-merge_ids : (left right : Ids) → AreSidesOfRow left right → IsIds (merge_ids left right)
IsIds-merge_ids left right sides =
    let lefts = sides.left_ids.sized in
    let rights = sides.right_ids.sized in
    record {
      sized = length-merge_rows left.rows right.rows (omega arith) ∙ lefts;
      entries = or_lt 6 left.mask right.mask sides.left_ids.entries sides.right_ids.entries;
      within = IsZeroOutside-merge_rows left.mask right.mask left.rows right.rows sides.left_ids.within sides.right_ids.within;
    }

-- at each entry one of both sides has no row
abbrev pub AreApart : List ℕ → List ℕ → Type 0
AreApart [] rights = Unit {0}
AreApart (left ∷ lefts) [] = Unit {0}
AreApart (left ∷ lefts) (right ∷ rights) = ((left ≡ 0) ⊎ (right ≡ 0)) × AreApart lefts rights

-- sides of disjoint masks are apart
pub AreApart-masks : (m n : ℕ) (lefts rights : List ℕ) → bit_and m n ≡ 0 → IsZeroOutside m lefts → IsZeroOutside n rights → AreApart lefts rights
AreApart-masks m n [] rights e p q = tt
AreApart-masks m n (left ∷ lefts) [] e p q = tt
AreApart-masks m n (left ∷ lefts) (right ∷ rights) e p q = (
  elim (cases_lt 0 (m % 2)) [
    | inl inside ↦ inr (let bit = bit_and-first m n in q.0 (omega arith))
    | inr outside ↦ inl (p.0 (omega arith))
  ],
  AreApart-masks (m / 2) (n / 2) lefts rights (let others = bit_and-others m n in omega arith) p.1 q.1,
)

pub AreApart-sides : (left right : Ids) → AreSidesOfRow left right → AreApart left.rows right.rows
AreApart-sides left right sides =
    AreApart-masks left.mask right.mask left.rows right.rows sides.entries sides.left_ids.within sides.right_ids.within

-- one entry of the left side: it is inside the mask, or 0
left_number : (inside : ℕ) (left right : ℕ) → (inside ≡ 0 → left ≡ 0) → ((inside ≡ 0 → ⊥) → right ≡ 0) → cond (eqb inside 0) 0 (merge_number left right) ≡ left
left_number inside left right none apart = elim (cases_lt 0 inside) [
  | inl within ↦ let zero = apart (λ e. omega (arith, e, within)) in grind (arith, nat_tests)
  | inr outside ↦ let is : inside ≡ 0 = omega (arith, outside) in let zero = none is in grind (arith, nat_tests)
]

-- one entry of the right side
right_number : (inside : ℕ) (left right : ℕ) → (inside ≡ 0 → right ≡ 0) → ((inside ≡ 0 → ⊥) → left ≡ 0) → cond (eqb inside 0) 0 (merge_number left right) ≡ right
right_number inside left right none apart = elim (cases_lt 0 inside) [
  | inl within ↦ let zero = apart (λ e. omega (arith, e, within)) in grind (arith, nat_tests)
  | inr outside ↦ let is : inside ≡ 0 = omega (arith, outside) in let zero = none is in grind (arith, nat_tests)
]

-- the entries of the left side, of merged row numbers
rows_inside-left : (m n : ℕ) (lefts rights : List ℕ) → length lefts ≡ length rights → bit_and m n ≡ 0 → IsZeroOutside m lefts → IsZeroOutside n rights → rows_inside m (merge_rows lefts rights) ≡ lefts
rows_inside-left m n [] rights size e p q = refl
rows_inside-left m n (left ∷ lefts) [] size e p q = absurd (omega (arith, size))
rows_inside-left m n (left ∷ lefts) (right ∷ rights) size e p q =
    let one = left_number (m % 2) left right p.0 (λ inside. let bit = bit_and-first m n in q.0 (omega (arith, bit, e, inside))) in
    let others = rows_inside-left (m / 2) (n / 2) lefts rights (omega (arith, size)) (let half = bit_and-others m n in omega (arith, half, e)) p.1 q.1 in
    rw (one, others) refl

-- and those of the right side
rows_inside-right : (m n : ℕ) (lefts rights : List ℕ) → length lefts ≡ length rights → bit_and m n ≡ 0 → IsZeroOutside m lefts → IsZeroOutside n rights → rows_inside n (merge_rows lefts rights) ≡ rights
rows_inside-right m n [] [] size e p q = refl
rows_inside-right m n [] (right ∷ rights) size e p q = absurd (omega (arith, size))
rows_inside-right m n (left ∷ lefts) [] size e p q = absurd (omega (arith, size))
rows_inside-right m n (left ∷ lefts) (right ∷ rights) size e p q =
    let one = right_number (n % 2) left right q.0 (λ inside. let bit = bit_and-first m n in p.0 (omega (arith, bit, e, inside))) in
    let others = rows_inside-right (m / 2) (n / 2) lefts rights (omega (arith, size)) (let half = bit_and-others m n in omega (arith, half, e)) p.1 q.1 in
    rw (one, others) refl

-- the row numbers of merged ids at the entries of a side are that side's
pub merge_ids-left : (left right : Ids) → AreSidesOfRow left right → rows_inside left.mask (merge_ids left right).rows ≡ left.rows
merge_ids-left left right sides =
    rows_inside-left left.mask right.mask left.rows right.rows (sides.left_ids.sized ∙ sym sides.right_ids.sized) sides.entries sides.left_ids.within sides.right_ids.within

pub merge_ids-right : (left right : Ids) → AreSidesOfRow left right → rows_inside right.mask (merge_ids left right).rows ≡ right.rows
merge_ids-right left right sides =
    rows_inside-right left.mask right.mask left.rows right.rows (sides.left_ids.sized ∙ sym sides.right_ids.sized) sides.entries sides.left_ids.within sides.right_ids.within

-- ids of equal parts are equal
abbrev ids_of : ℕ → ℕ → List ℕ → Ids
ids_of block mask rows = record { block = block; mask = mask; rows = rows }

same_parts : (block other_block mask other_mask : ℕ) (rows other_rows : List ℕ) → block ≡ other_block → mask ≡ other_mask → rows ≡ other_rows
    → ids_of block mask rows ≡ ids_of other_block other_mask other_rows
same_parts block other_block mask other_mask rows other_rows e f g = rw (e, f, g) refl

same_ids : (a b : Ids) → a.block ≡ b.block → a.mask ≡ b.mask → a.rows ≡ b.rows → a ≡ b
same_ids a b block mask rows = same_parts a.block b.block a.mask b.mask a.rows b.rows block mask rows

-- merged ids of the same entries are equal only where both sides' are
pub equal_left : (left right other_left other_right : Ids) → AreSidesOfRow left right → AreSidesOfRow other_left other_right → left.mask ≡ other_left.mask
    → merge_ids left right ≡ merge_ids other_left other_right → left ≡ other_left
equal_left left right other_left other_right sides other_sides mask same =
    same_ids left other_left (ap (λ (ids : Ids). ids.block) same) mask
    (sym (merge_ids-left left right sides) ∙ ap (λ (ids : Ids). rows_inside left.mask ids.rows) same ∙ ap (λ m. rows_inside m (merge_ids other_left other_right).rows) mask
    ∙ merge_ids-left other_left other_right other_sides)

pub equal_right : (left right other_left other_right : Ids) → AreSidesOfRow left right → AreSidesOfRow other_left other_right → right.mask ≡ other_right.mask
    → merge_ids left right ≡ merge_ids other_left other_right → right ≡ other_right
equal_right left right other_left other_right sides other_sides mask same =
    same_ids right other_right (sym sides.block ∙ ap (λ (ids : Ids). ids.block) same ∙ other_sides.block) mask
    (sym (merge_ids-right left right sides) ∙ ap (λ (ids : Ids). rows_inside right.mask ids.rows) same ∙ ap (λ m. rows_inside m (merge_ids other_left other_right).rows) mask
    ∙ merge_ids-right other_left other_right other_sides)

-- The combinations of all rows are those of an old view and the fresh ones.
use Rattle.std.proofs.Common.{ℕ, zero, suc, ◌≡◌, ◌∙◌, ◌-◌, ◌/◌, ◌%◌, ◌≤◌, ◌⊎◌, ◌||◌, Bool, true, false, eqb, nat_lt, List, [], ◌∷◌, length, get_or, replicate, refl, sym, ap, ap₂, subst, inl, inr, arith}
use Rattle.std.specs.Int.{bit_at}
use Rattle.std.proofs.lemmas.Bool.{cases_lt, false≢true, le-ltb, ltb-false, or_parts, true≢false}
use Rattle.std.proofs.lemmas.Nat.Bits.{bit_at-suc, bit_at_lowest, bit_at_ones_above}
use Rattle.std.proofs.lemmas.Option.{unwrap_or-slice_get}
use Rattle.rs_order.specs.Climbing.{In}
use Rattle.rs_order.proofs.ItemFacts.{In-filter, In-filter-back}
use Rattle.rs_catalog.specs.Catalog.{CatalogDef}
use Rattle.rs_query.specs.Choices.{IsChoice, IsRowNumber}
use Rattle.rs_query.specs.Combinations.{all_combinations, combinations}
use Rattle.rs_query.specs.Fresh.{has_new_row}
use Rattle.rs_query.specs.Growth.{IsSizes}
use Rattle.rs_query.specs.Tables.{all_entries, row_number, size_of, sizes_of}
use Rattle.rs_query.specs.WellFormed.{IsBlock}
use Rattle.rs_query.specs.declared.block.Block.{Block}
use Rattle.rs_query.proofs.ChoiceFacts.{In-combinations, In-combinations-back}
use Rattle.rs_query.proofs.ExtendFacts.{get_or-sizes_of}
use Rattle.rs_query.proofs.FreshFacts.{fresh-all}
use Rattle.rs_view.specs.Fresh.{fresh}

-- the row number of one entry, where there are fewer rows or more
number-within : (outside : Bool) (size most row : ℕ) → row ≤ size → IsRowNumber outside most row → IsRowNumber outside size row
number-within true size most row within is = is
number-within false size most row within is = (is.0, within)

number-wider : (outside : Bool) (size most row : ℕ) → (outside ≡ false → size ≤ most) → IsRowNumber outside size row → IsRowNumber outside most row
number-wider true size most row fewer is = is
number-wider false size most row fewer is = (let less = fewer refl in let some = is.0 in let last = is.1 in (omega arith, omega arith))

number-most : (outside : Bool) (size row : ℕ) → IsRowNumber outside size row → row ≤ size
number-most true size row is = omega arith
number-most false size row is = is.1

-- a bit of a mask
low-bit : (mask : ℕ) → eqb (mask % 2) 0 ≡ false → bit_at mask 0 ≡ 1
low-bit mask e = bit_at_lowest mask ∙ (let odd = eqb-odd (mask % 2) e in omega arith) where
  eqb-odd : (n : ℕ) → eqb n 0 ≡ false → 1 ≤ n
  eqb-odd zero e = absurd (true≢false e)
  eqb-odd (suc n) e = omega arith

-- a choice of all rows without a new one is one of the old rows
choice-old : (mask : ℕ) (sizes all rows : List ℕ) → length sizes ≡ length all → has_new_row sizes rows ≡ false → IsChoice mask all rows → IsChoice mask sizes rows
choice-old mask [] [] rows same none is = is
choice-old mask [] (most ∷ all) rows same none is = absurd (omega arith)
choice-old mask (size ∷ sizes) [] rows same none is = absurd (omega arith)
choice-old mask (size ∷ sizes) (most ∷ all) [] same none is = is
choice-old mask (size ∷ sizes) (most ∷ all) (row ∷ rows) same none is =
    let both = or_parts (nat_lt size row) (has_new_row sizes rows) none in
    (number-within (eqb (mask % 2) 0) size most row (ltb-false size row both.0) is.0, choice-old (mask / 2) sizes all rows (omega arith) both.1 is.1)

-- a choice of the old rows is one of all rows, and has no new one
choice-wider : (mask : ℕ) (sizes all rows : List ℕ) → length sizes ≡ length all → ((i : ℕ) → bit_at mask i ≡ 1 → get_or sizes i 0 ≤ get_or all i 0) → IsChoice mask sizes rows → IsChoice mask all rows
choice-wider mask [] [] rows same fewer is = is
choice-wider mask [] (most ∷ all) rows same fewer is = absurd (omega arith)
choice-wider mask (size ∷ sizes) [] rows same fewer is = absurd (omega arith)
choice-wider mask (size ∷ sizes) (most ∷ all) [] same fewer is = is
choice-wider mask (size ∷ sizes) (most ∷ all) (row ∷ rows) same fewer is = (
  number-wider (eqb (mask % 2) 0) size most row (λ e. fewer 0 (low-bit mask e)) is.0,
  choice-wider (mask / 2) sizes all rows (omega arith) (λ i bit. fewer (suc i) (bit_at-suc mask i ∙ bit)) is.1,
)

choice-no_new : (mask : ℕ) (sizes rows : List ℕ) → IsChoice mask sizes rows → has_new_row sizes rows ≡ false
choice-no_new mask [] rows is = refl
choice-no_new mask (size ∷ sizes) [] is = refl
choice-no_new mask (size ∷ sizes) (row ∷ rows) is =
    ap₂ (λ a b. a || b) (le-ltb size row (number-most (eqb (mask % 2) 0) size row is.0)) (choice-no_new (mask / 2) sizes rows is.1)

either : (b : Bool) → (b ≡ true) ⊎ (b ≡ false)
either true = inl refl
either false = inr refl

module _ (catalogue : CatalogDef) (block : Block) (old : List ℕ) where
  -- the combinations of the old rows
  abbrev pub old_combinations : List (List ℕ)
  old_combinations = combinations catalogue block old (all_entries block)

  -- a fresh one has a new row
  pub fresh-new : (rows : List ℕ) → In rows (fresh catalogue block old) → has_new_row old rows ≡ true
  fresh-new rows h = (In-filter-back (has_new_row old) rows (all_combinations catalogue block) h).1

  -- and an old one has none
  pub old-no_new : (rows : List ℕ) → In rows old_combinations → has_new_row old rows ≡ false
  old-no_new rows h = choice-no_new (all_entries block) old rows (In-combinations-back catalogue block old (all_entries block) rows h).0

  module _ (six : length old ≡ 6) (within : IsSizes catalogue block old) where
    -- each one of all is old or fresh
    pub split : (rows : List ℕ) → In rows (all_combinations catalogue block) → In rows old_combinations ⊎ In rows (fresh catalogue block old)
    split rows h = elim (either (has_new_row old rows)) [
      | inl new ↦ inr (In-filter (has_new_row old) rows (all_combinations catalogue block) h new)
      | inr none ↦
          let parts = In-combinations-back catalogue block (sizes_of catalogue block) (all_entries block) rows h in
          inl (In-combinations catalogue block old (all_entries block) rows (choice-old (all_entries block) old (sizes_of catalogue block) rows six none parts.0) parts.1)
    ]

    fewer : (i : ℕ) → bit_at (all_entries block) i ≡ 1 → length block.from ≤ 6 → get_or old i 0 ≤ get_or (sizes_of catalogue block) i 0
    fewer i bit few = elim (cases_lt i (length block.from)) [
      | inl inside ↦
          let each = within.each (suc i) (omega arith) (omega arith) in
          let place : suc i - 1 ≡ i = omega arith in
          let old_at : row_number old (suc i) ≡ get_or old i 0 = unwrap_or-slice_get old (suc i - 1) 0 ∙ ap (λ j. get_or old j 0) place in
          let size_at : get_or (sizes_of catalogue block) i 0 ≡ size_of catalogue block (suc i) = get_or-sizes_of catalogue block i (omega arith) in
          omega arith
      | inr beyond ↦ let none = bit_at_ones_above (length block.from) i beyond in absurd (omega arith)
    ]

    -- and each old or fresh one is one of all
    pub joined : length block.from ≤ 6 → (rows : List ℕ) → In rows old_combinations ⊎ In rows (fresh catalogue block old) → In rows (all_combinations catalogue block)
    joined few rows h = elim h [
      | inl l ↦
          let parts = In-combinations-back catalogue block old (all_entries block) rows l in
          In-combinations catalogue block (sizes_of catalogue block) (all_entries block) rows
          (choice-wider (all_entries block) old (sizes_of catalogue block) rows six (λ i bit. fewer i bit few) parts.0) parts.1
      | inr r ↦ (In-filter-back (has_new_row old) rows (all_combinations catalogue block) r).0
    ]

no-items : {X : Type 0} (xs : List X) → ((x : X) → In x xs → ⊥) → xs ≡ []
no-items [] none = refl
no-items (x ∷ xs) none = absurd (none x (inl refl))

abbrev pub no_lengths : List ℕ
no_lengths = replicate 6 0

get_or-zeros : (n i : ℕ) → ◌≡◌ {A = ℕ} (get_or (replicate n 0) i 0) 0
get_or-zeros zero i = refl
get_or-zeros (suc n) zero = refl
get_or-zeros (suc n) (suc i) = get_or-zeros n i

module _ (catalogue : CatalogDef) (block : Block) (is : IsBlock catalogue block) where
  pub IsSizes-none : IsSizes catalogue block no_lengths
  IsSizes-none = record {
    all = is.most_entries;
    each = λ entry some last.
        let none : row_number no_lengths entry ≡ 0 = unwrap_or-slice_get no_lengths (entry - 1) 0 ∙ get_or-zeros 6 (entry - 1) in
        omega arith;
  }

  -- there is no combination of no rows
  pub none-old : old_combinations catalogue block no_lengths ≡ []
  none-old =
      no-items (old_combinations catalogue block no_lengths)
      (λ rows h.
      let all = joined catalogue block no_lengths refl IsSizes-none is.most_entries rows (inl h) in
      let new = fresh-new catalogue block no_lengths rows (subst (In rows) (sym (fresh-all catalogue block is)) all) in
      let old = old-no_new catalogue block no_lengths rows h in
      false≢true (sym old ∙ new))

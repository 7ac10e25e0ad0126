-- The combinations without a new row are those of before.
use Rattle.std.proofs.Common.{ℕ, ◌≡◌, ◌∙◌, ◌/◌, ◌%◌, ◌≤◌, ◌||◌, Bool, true, false, eqb, nat_lt, List, [], ◌∷◌, map, refl, sym, ap, ap₂, arith}
use Rattle.std.specs.Prelude.{not}
use Rattle.std.specs.Cmp.Lexicographic.{nat_list_cmp_total, slice_cmp}
use Rattle.std.specs.List.{filter}
use Rattle.std.specs.Ordering.{nat_cmp}
use Rattle.std.proofs.lemmas.Bool.{le-ltb, ltb-false, or_parts}
use Rattle.rs_order.specs.Climbing.{In}
use Rattle.rs_order.proofs.ClimbingFacts.{Climbs-same}
use Rattle.rs_order.proofs.ItemFacts.{Climbs-filter, In-filter, In-filter-back}
use Rattle.rs_catalog.specs.Catalog.{CatalogDef}
use Rattle.rs_query.specs.declared.block.Block.{Block}
use Rattle.rs_query.specs.Choices.{IsChoice, IsRowNumber}
use Rattle.rs_query.specs.Combinations.{all_combinations, combinations, satisfies}
use Rattle.rs_query.specs.Fresh.{has_new_row}
use Rattle.rs_query.specs.Growth.{CatalogueGrows}
use Rattle.rs_query.specs.Tables.{all_entries, size_of, sizes_of}
use Rattle.rs_query.specs.WellFormed.{IsBlock}
use Rattle.rs_query.proofs.ChoiceFacts.{Climbs-combinations, In-combinations, In-combinations-back}
use Rattle.rs_query.proofs.GrownAnswerFacts.{HasRows-sizes, satisfies-grows}
use Rattle.rs_query.proofs.GrowthFacts.{IsSizes-all, size-grows}

-- each number of a list is at most that of another one
abbrev AreAtMost : List ℕ → List ℕ → Type 0
AreAtMost [] [] = Unit {0}
AreAtMost [] (most ∷ all) = ⊥
AreAtMost (size ∷ sizes) [] = ⊥
AreAtMost (size ∷ sizes) (most ∷ all) = (size ≤ most) × AreAtMost sizes all

-- the row number of one entry, where there are fewer rows or more
number-within : (outside : Bool) (size most row : ℕ) → row ≤ size → IsRowNumber outside most row → IsRowNumber outside size row
number-within true size most row within is = is
number-within false size most row within is = (is.0, within)

number-wider : (outside : Bool) (size most row : ℕ) → size ≤ most → IsRowNumber outside size row → IsRowNumber outside most row
number-wider true size most row within is = is
number-wider false size most row within is = (let some = is.0 in let last = is.1 in (omega arith, omega arith))

number-most : (outside : Bool) (size row : ℕ) → IsRowNumber outside size row → row ≤ size
number-most true size row is = omega arith
number-most false size row is = is.1

-- a choice without a new row is one of the fewer rows
choice-kept : (mask : ℕ) (sizes all rows : List ℕ) → AreAtMost sizes all → has_new_row sizes rows ≡ false → IsChoice mask all rows → IsChoice mask sizes rows
choice-kept mask [] [] rows below none is = is
choice-kept mask [] (most ∷ all) rows below none is = absurd below
choice-kept mask (size ∷ sizes) [] rows below none is = absurd below
choice-kept mask (size ∷ sizes) (most ∷ all) [] below none is = is
choice-kept mask (size ∷ sizes) (most ∷ all) (row ∷ rows) below none is =
    let both = or_parts (nat_lt size row) (has_new_row sizes rows) none in
    (number-within (eqb (mask % 2) 0) size most row (ltb-false size row both.0) is.0, choice-kept (mask / 2) sizes all rows below.1 both.1 is.1)

-- a choice of fewer rows is one of more rows, and has no new one
choice-wider : (mask : ℕ) (sizes all rows : List ℕ) → AreAtMost sizes all → IsChoice mask sizes rows → IsChoice mask all rows
choice-wider mask [] [] rows below is = is
choice-wider mask [] (most ∷ all) rows below is = absurd below
choice-wider mask (size ∷ sizes) [] rows below is = absurd below
choice-wider mask (size ∷ sizes) (most ∷ all) [] below is = is
choice-wider mask (size ∷ sizes) (most ∷ all) (row ∷ rows) below is =
    (number-wider (eqb (mask % 2) 0) size most row below.0 is.0, choice-wider (mask / 2) sizes all rows below.1 is.1)

choice-none_new : (mask : ℕ) (sizes rows : List ℕ) → IsChoice mask sizes rows → has_new_row sizes rows ≡ false
choice-none_new mask [] rows is = refl
choice-none_new mask (size ∷ sizes) [] is = refl
choice-none_new mask (size ∷ sizes) (row ∷ rows) is =
    ap₂ (λ a b. a || b) (le-ltb size row (number-most (eqb (mask % 2) 0) size row is.0)) (choice-none_new (mask / 2) sizes rows is.1)

not-false : (b : Bool) → not b ≡ true → b ≡ false
not-false true e = cc
not-false false e = refl

module _ (old new : CatalogDef) (grows : CatalogueGrows old new) (block : Block) (is : IsBlock old block) where
  abbrev before : List ℕ
  before = sizes_of old block

  abbrev behind : List ℕ
  behind = sizes_of new block

  abbrev no_new_row : List ℕ → Bool
  no_new_row rows = not (has_new_row before rows)

  -- no entry has fewer rows
  sizes-more : (entries : List ℕ) → AreAtMost (map (size_of old block) entries) (map (size_of new block) entries)
  sizes-more [] = tt
  sizes-more (entry ∷ entries) = (size-grows old new grows block entry, sizes-more entries)

  no_fewer : AreAtMost before behind
  no_fewer = sizes-more (1 ∷ 2 ∷ 3 ∷ 4 ∷ 5 ∷ 6 ∷ [])

  -- conditions hold of a choice of rows that were there as they did
  satisfied : (mask : ℕ) (rows : List ℕ) → IsChoice mask before rows → satisfies new block mask rows ≡ satisfies old block mask rows
  satisfied mask rows choice = satisfies-grows old new grows block rows mask (HasRows-sizes old block before mask rows (IsSizes-all old block is) choice) is

  forth : (mask : ℕ) (rows : List ℕ) → In rows (filter no_new_row (combinations new block behind mask)) → In rows (combinations old block before mask)
  forth mask rows h =
      let both = In-filter-back no_new_row rows (combinations new block behind mask) h in
      let parts = In-combinations-back new block behind mask rows both.0 in
      let choice = choice-kept mask before behind rows no_fewer (not-false (has_new_row before rows) both.1) parts.0 in
      In-combinations old block before mask rows choice (sym (satisfied mask rows choice) ∙ parts.1)

  back : (mask : ℕ) (rows : List ℕ) → In rows (combinations old block before mask) → In rows (filter no_new_row (combinations new block behind mask))
  back mask rows h =
      let parts = In-combinations-back old block before mask rows h in
      In-filter no_new_row rows (combinations new block behind mask)
      (In-combinations new block behind mask rows (choice-wider mask before behind rows no_fewer parts.0) (satisfied mask rows parts.0 ∙ parts.1))
      (ap not (choice-none_new mask before rows parts.0))

  pub combinations-kept : filter no_new_row (all_combinations new block) ≡ all_combinations old block
  combinations-kept =
      let mask = all_entries block in
      Climbs-same (slice_cmp nat_cmp) nat_list_cmp_total (λ rows. rows) (filter no_new_row (all_combinations new block)) (all_combinations old block)
      (Climbs-filter (slice_cmp nat_cmp) (λ rows. rows) no_new_row (all_combinations new block) (Climbs-combinations new block behind mask))
      (Climbs-combinations old block before mask) (forth mask) (back mask)

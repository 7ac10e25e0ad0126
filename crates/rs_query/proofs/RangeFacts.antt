-- The rows of an entry that a part of a search looks at.
use Rattle.std.proofs.Common.{ℕ, ◌≡◌, ◌∙◌, ◌<◌, ◌≤◌, true, false, cond, eqb, min, nat_lt, List, sym, ap, subst, inl, inr, arith}
use Rattle.std.specs.Prelude.{◌↔◌}
use Rattle.std.proofs.lemmas.Bool.{cases_eq, cases_lt, eq-eqb, le-ltb, lt-ltb, ne_eqb}
use Rattle.rs_catalog.specs.Catalog.{CatalogDef}
use Rattle.rs_query.specs.declared.block.Block.{Block}
use Rattle.rs_query.specs.declared.step.Step.{Step}
use Rattle.rs_query.specs.Searching.{IsInPart, IsRanged}
use Rattle.rs_query.specs.Tables.{row_number, size_of}

module _ (old : List ℕ) (pivot entry size above last row : ℕ) (is_above : above ≡ cond (eqb entry pivot) (row_number old entry) 0)
    (is_last : last ≡ cond (nat_lt entry pivot) (min size (row_number old entry)) size) (some : 1 ≤ row) (most : row ≤ size) where
  -- an entry before the pivot
  before : entry < pivot → ((above < row) × (row ≤ last)) ↔ IsInPart old pivot entry row
  before less =
      let no_more : above ≡ 0 = is_above ∙ ap (λ b. cond b (row_number old entry) 0) (ne_eqb entry pivot (λ e. omega arith)) in
      let old_last : last ≡ min size (row_number old entry) = is_last ∙ ap (λ b. cond b (min size (row_number old entry)) size) (lt-ltb entry pivot less) in (
        (λ h. record { new = λ e. absurd (omega arith); old_ones = λ l. (let within = h.1 in omega arith) }),
        (λ p. (omega arith, (let stale = p.old_ones less in omega arith))),
      )

  -- the pivot
  at_pivot : entry ≡ pivot → ((above < row) × (row ≤ last)) ↔ IsInPart old pivot entry row
  at_pivot same =
      let new_above : above ≡ row_number old entry = is_above ∙ ap (λ b. cond b (row_number old entry) 0) (eq-eqb entry pivot same) in
      let all_last : last ≡ size = is_last ∙ ap (λ b. cond b (min size (row_number old entry)) size) (le-ltb entry pivot (omega arith)) in (
        (λ h. record { new = λ e. (let behind = h.0 in omega arith); old_ones = λ l. absurd (omega arith) }),
        (λ p. ((let behind = p.new same in omega arith), omega arith)),
      )

  -- an entry behind the pivot
  beyond : pivot < entry → ((above < row) × (row ≤ last)) ↔ IsInPart old pivot entry row
  beyond more =
      let no_more : above ≡ 0 = is_above ∙ ap (λ b. cond b (row_number old entry) 0) (ne_eqb entry pivot (λ e. omega arith)) in
      let all_last : last ≡ size = is_last ∙ ap (λ b. cond b (min size (row_number old entry)) size) (le-ltb entry pivot (omega arith)) in (
        (λ h. record { new = λ e. absurd (omega arith); old_ones = λ l. absurd (omega arith) }),
        (λ p. (omega arith, omega arith)),
      )

  pub range-part : ((above < row) × (row ≤ last)) ↔ IsInPart old pivot entry row
  range-part = elim (cases_lt entry pivot) [
    | inl less ↦ before less
    | inr le ↦ elim (cases_eq entry pivot) [ inl same ↦ at_pivot same | inr differ ↦ beyond (omega arith) ]
  ]

-- a step with such a range
pub IsRanged-range : (catalogue : CatalogDef) (block : Block) (old : List ℕ) (pivot : ℕ) (step : Step) → step.above ≡ cond (eqb step.entry pivot) (row_number old step.entry) 0
    → step.last ≡ cond (nat_lt step.entry pivot) (min (size_of catalogue block step.entry) (row_number old step.entry)) (size_of catalogue block step.entry)
    → IsRanged catalogue block old pivot step
IsRanged-range catalogue block old pivot step is_above is_last = λ row some most.
    range-part old pivot step.entry (size_of catalogue block step.entry) step.above step.last row is_above is_last some most

-- its last row is one of the table
pub range-last : (entry pivot size old last : ℕ) → last ≡ cond (nat_lt entry pivot) (min size old) size → last ≤ size
range-last entry pivot size old last is =
    subst (λ n. n ≤ size) (sym is) (elim (nat_lt entry pivot) as (λ b. cond b (min size old) size ≤ size) [
      | true ↦ omega arith
      | false ↦ omega arith
    ])

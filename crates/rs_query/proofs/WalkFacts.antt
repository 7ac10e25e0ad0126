-- What a step of a search asks for: rows of the entries before it, and conditions on them and its own.
use Rattle.std.proofs.Common.{ℕ, suc, ◌≡◌, ◌∙◌, ◌-◌, ◌<◌, ◌≤◌, true, List, [], ◌∷◌, length, set, Some, refl, sym, ap, subst, inl, inr, bit_or, arith}
use Rattle.rs_rank.specs.Masks.{has_number, mask_of}
use Rattle.rs_catalog.specs.Catalog.{CatalogDef}
use Rattle.rs_query.specs.declared.block.Block.{Block}
use Rattle.rs_query.specs.declared.step.Step.{Step}
use Rattle.rs_query.specs.declared.tie.Tie.{Tie}
use Rattle.rs_query.specs.Choices.{IsChoice}
use Rattle.rs_query.specs.EqualRows.{IsNext}
use Rattle.rs_query.specs.Meaning.{AreInside}
use Rattle.rs_query.specs.Searching.{Fits, IsStep, IsTie, IsTied}
use Rattle.rs_query.specs.Tables.{HasRows, size_of, sizes_of}
use Rattle.rs_query.specs.WellFormed.{IsBlock}
use Rattle.rs_query.proofs.ExtendFacts.{HasRows-choice, get_or-sizes_of}
use Rattle.rs_query.proofs.HoldNewFacts.{new-inside}
use Rattle.rs_query.proofs.MaskStepFacts.{IsChoice-set, has-none, is_inside-more}

module _ (catalogue : CatalogDef) (block : Block) (is : IsBlock catalogue block) (mask : ℕ) (step : Step) (is_step : IsStep catalogue block mask step) where
  -- the tie of a step that has one
  pub tie-of : (tie : Tie) → step.tie ≡ Some tie → IsTied catalogue block mask step.entry tie
  tie-of tie has = subst (IsTie catalogue block mask step.entry) has is_step.tie

  -- the last row of the step is one of the tie
  pub tie-last : (tie : Tie) → step.tie ≡ Some tie → step.last ≤ size_of catalogue block tie.right.0
  tie-last tie has = subst (λ entry. step.last ≤ size_of catalogue block entry) (sym (tie-of tie has).columns.equated.is_by.is_next) is_step.last

  -- with a tie a step begins at the first row of all
  tie-start : (tie : Tie) → step.tie ≡ Some tie → step.above ≡ 0
  tie-start tie has = elim is_step.start [
    | inl none ↦ absurd (has-none tie.left.0 (subst (λ m. has_number m tie.left.0 ≡ true) none (tie-of tie has).columns.equated.is_by.is_chosen))
    | inr e ↦ e
  ]

  -- so the first row that fits the tie is the first one of the step
  pub tie-first : (tie : Tie) → step.tie ≡ Some tie → (rows : List ℕ) (result : ℕ) → IsNext (Fits catalogue block (Some tie) rows) 0 step.last result
      → IsNext (Fits catalogue block step.tie rows) step.above step.last result
  tie-first tie has rows result next =
      subst (λ t. IsNext (Fits catalogue block t rows) step.above step.last result) (sym has)
      (subst (λ n. IsNext (Fits catalogue block (Some tie) rows) n step.last result) (sym (tie-start tie has)) next)

  few : step.entry - 1 < 6
  few = omega (arith, is_step.least, is_step.most, is.most_entries)

  -- rows with one of the step's entry are rows of all these entries
  pub HasRows-longer : (rows : List ℕ) (row : ℕ) → IsChoice mask (sizes_of catalogue block) rows → 1 ≤ row → row ≤ step.last
      → HasRows catalogue block (bit_or mask (mask_of step.entry)) (set rows (step.entry - 1) row)
  HasRows-longer rows row choice some most =
      HasRows-choice catalogue block (bit_or mask (mask_of step.entry)) (set rows (step.entry - 1) row) is.most_entries
      (IsChoice-set (step.entry - 1) mask (sizes_of catalogue block) rows row choice few some
      (subst (λ n. row ≤ n) (sym (get_or-sizes_of catalogue block (step.entry - 1) few ∙ ap (size_of catalogue block) (let e : suc (step.entry - 1) ≡ step.entry = omega (arith, is_step.least) in e)))
      (omega (arith, is_step.last))))

-- the conditions of a step speak of these entries alone
pub conditions-inside : (catalogue : CatalogDef) (block : Block) (mask : ℕ) (step : Step) → IsStep catalogue block mask step → AreInside step.conditions (bit_or mask (mask_of step.entry)) block.conjuncts
conditions-inside catalogue block mask step is_step =
    subst (λ conditions. AreInside conditions (bit_or mask (mask_of step.entry)) block.conjuncts) (sym is_step.conditions)
    (new-inside mask (bit_or mask (mask_of step.entry)) (is_inside-more mask (mask_of step.entry)) block.conjuncts)

-- a list of steps without a first one is empty
pub no-step : (steps : List Step) → length steps ≡ 0 → steps ≡ []
no-step [] none = refl
no-step (step ∷ steps) none = absurd (omega arith)

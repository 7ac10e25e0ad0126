-- The steps of a search lead to all entries, and their ranges make up the part of a search that one entry begins.
use Rattle.std.proofs.Common.{ℕ, ◌≡◌, ◌<◌, ◌≤◌, ◌⊎◌, ◌++◌, true, List, [], ◌∷◌, length, replicate, refl, sym, ap, subst, inl, inr, bit_or, arith}
use Rattle.std.specs.List.{AllByRecursion}
use Rattle.rs_order.specs.Climbing.{In}
use Rattle.rs_order.proofs.ClimbingFacts.{AllByRecursion-In}
use Rattle.rs_rank.specs.Masks.{has_number, mask_of}
use Rattle.rs_catalog.specs.Catalog.{CatalogDef}
use Rattle.rs_query.specs.declared.block.Block.{Block}
use Rattle.rs_query.specs.declared.step.Step.{Step}
use Rattle.rs_query.specs.Combinations.{satisfies}
use Rattle.rs_query.specs.Meaning.{is_inside}
use Rattle.rs_query.specs.Searching.{Adds, AreInRange, AreSteps, GoesOn, IsBegun, IsInPart, IsNewAt, IsRanged, IsStep}
use Rattle.rs_query.specs.Tables.{all_entries, row_number, size_of}
use Rattle.rs_query.specs.WellFormed.{IsBlock}
use Rattle.rs_query.proofs.AddsFacts.{Adds-none, Adds-same}
use Rattle.rs_query.proofs.GoFacts.{combination-row}
use Rattle.rs_query.proofs.MaskStepFacts.{has-back, has-none, has-up_to, is_inside-more}

-- the step to an entry
pub record IsStepTo (steps : List Step) (entry : ℕ) : Type 0 where
  pub step : Step
  pub is_in : In step steps
  pub is_to : step.entry ≡ entry

-- a step to an entry of the block
abbrev pub IsOfBlock : Block → Step → Type 0
IsOfBlock block step = (1 ≤ step.entry) × (step.entry ≤ length block.from)

-- no row at all
pub IsBegun-none : (catalogue : CatalogDef) (block : Block) → satisfies catalogue block 0 (replicate 6 0) ≡ true → IsBegun catalogue block 0 (replicate 6 0)
IsBegun-none catalogue block holds = record { choice = (refl, (refl, (refl, (refl, (refl, (refl, tt)))))); satisfied = holds }

module _ (catalogue : CatalogDef) (block : Block) where
  -- one step more
  pub AreSteps-push : (start mask : ℕ) (steps : List Step) (step : Step) → AreSteps catalogue block start mask steps → IsStep catalogue block mask step
      → AreSteps catalogue block start (bit_or mask (mask_of step.entry)) (steps ++ step ∷ [])
  AreSteps-push start mask [] step are is =
      (subst (λ m. IsStep catalogue block m step) (sym are) is, ap (λ m. bit_or m (mask_of step.entry)) are)
  AreSteps-push start mask (first ∷ steps) step are is = (are.0, AreSteps-push (bit_or start (mask_of first.entry)) mask steps step are.1 is)

  -- what is inside the entries before is inside those behind
  pub AreSteps-inside : (start end : ℕ) (steps : List Step) → AreSteps catalogue block start end steps → (entries : ℕ) → is_inside entries start ≡ true → is_inside entries end ≡ true
  AreSteps-inside start end [] are entries inside = subst (λ m. is_inside entries m ≡ true) are inside
  AreSteps-inside start end (step ∷ steps) are entries inside =
      AreSteps-inside (bit_or start (mask_of step.entry)) end steps are.1 entries (is_inside-more start (mask_of step.entry) entries inside)

  -- each entry at the end was there before or has a step
  AreSteps-to : (start end : ℕ) (steps : List Step) → AreSteps catalogue block start end steps → (entry : ℕ) → 1 ≤ entry → has_number end entry ≡ true
      → (has_number start entry ≡ true) ⊎ IsStepTo steps entry
  AreSteps-to start end [] are entry some has = inl (subst (λ m. has_number m entry ≡ true) (sym are) has)
  AreSteps-to start end (step ∷ steps) are entry some has = elim (AreSteps-to (bit_or start (mask_of step.entry)) end steps are.1 entry some has) [
    | inl before ↦ elim (has-back start step.entry entry are.0.least some before) [
      | inl e ↦ inr (record { step = step; is_in = inl refl; is_to = sym e })
      | inr old ↦ inl old
    ]
    | inr later ↦ inr (record { step = later.step; is_in = inr later.is_in; is_to = later.is_to })
  ]

  pub AreSteps-each : (start end : ℕ) (steps : List Step) → AreSteps catalogue block start end steps → AllByRecursion (IsOfBlock block) steps
  AreSteps-each start end [] are = tt
  AreSteps-each start end (step ∷ steps) are = ((are.0.least, are.0.most), AreSteps-each (bit_or start (mask_of step.entry)) end steps are.1)

-- the ranges of steps, one by one
in_range-at : (steps : List Step) (rows : List ℕ) (step : Step) → AreInRange steps rows → In step steps → (step.above < row_number rows step.entry) × (row_number rows step.entry ≤ step.last)
in_range-at [] rows step are h = absurd h
in_range-at (first ∷ steps) rows step are h = elim h [
  | inl e ↦ subst (λ (s : Step). (s.above < row_number rows s.entry) × (row_number rows s.entry ≤ s.last)) (sym e) (are.0, are.1)
  | inr k ↦ in_range-at steps rows step are.2 k
]

pub in_range-from : (steps : List Step) (rows : List ℕ) → ((step : Step) → In step steps → (step.above < row_number rows step.entry) × (row_number rows step.entry ≤ step.last)) → AreInRange steps rows
in_range-from [] rows each = tt
in_range-from (step ∷ steps) rows each = let first = each step (inl refl) in (first.0, first.1, in_range-from steps rows (λ s h. each s (inr h)))

module _ (catalogue : CatalogDef) (block : Block) (is : IsBlock catalogue block) (old : List ℕ) (pivot : ℕ) where
  -- all that goes on from there is the part of the pivot
  pub GoesOn-part : (steps : List Step) (found new : List (List ℕ)) → AreSteps catalogue block 0 (all_entries block) steps → AllByRecursion (IsRanged catalogue block old pivot) steps
      → Adds (GoesOn catalogue block steps 0 (replicate 6 0)) found new → Adds (IsNewAt catalogue block old pivot) found new
  GoesOn-part steps found new are ranged a =
      Adds-same (GoesOn catalogue block steps 0 (replicate 6 0)) (IsNewAt catalogue block old pivot) found new (λ rows. (forth rows, back rows)) a
    where
      forth : (rows : List ℕ) → GoesOn catalogue block steps 0 (replicate 6 0) rows → IsNewAt catalogue block old pivot rows
      forth rows goes = record {
        combination = goes.combination;
        part = λ entry some most. elim (AreSteps-to catalogue block 0 (all_entries block) steps are entry some (has-up_to (length block.from) entry some most)) [
          | inl none ↦ absurd (has-none entry none)
          | inr to ↦
              let row = combination-row catalogue block is rows goes.combination to.step.entry (subst (λ n. 1 ≤ n) (sym to.is_to) some) (subst (λ n. n ≤ length block.from) (sym to.is_to) most) in
              let range = AllByRecursion-In (IsRanged catalogue block old pivot) steps ranged to.step to.is_in in
              subst (λ n. IsInPart old pivot n (row_number rows n)) to.is_to
              ((range (row_number rows to.step.entry) row.0 row.1).0 (in_range-at steps rows to.step goes.in_range to.is_in))
        ];
      }

      back : (rows : List ℕ) → IsNewAt catalogue block old pivot rows → GoesOn catalogue block steps 0 (replicate 6 0) rows
      back rows new_at = record {
        agrees = λ entry some has. absurd (has-none entry has);
        combination = new_at.combination;
        in_range = in_range-from steps rows (λ step h.
            let of = AllByRecursion-In (IsOfBlock block) steps (AreSteps-each catalogue block 0 (all_entries block) steps are) step h in
            let row = combination-row catalogue block is rows new_at.combination step.entry of.0 of.1 in
            (AllByRecursion-In (IsRanged catalogue block old pivot) steps ranged step h (row_number rows step.entry) row.0 row.1).1 (new_at.part step.entry of.0 of.1));
      }

  -- there is none where the pivot has no new row
  pub part-none : (found : List (List ℕ)) → 1 ≤ pivot → pivot ≤ length block.from → size_of catalogue block pivot ≤ row_number old pivot → Adds (IsNewAt catalogue block old pivot) found found
  part-none found some most none =
      Adds-none (IsNewAt catalogue block old pivot) found
      (λ rows new_at.
      let row = combination-row catalogue block is rows new_at.combination pivot some most in
      let above = (new_at.part pivot some most).new refl in
      omega (arith, row.1))

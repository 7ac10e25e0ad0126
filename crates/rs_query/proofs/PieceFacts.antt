-- The pieces of a search, one behind another, are all combinations.
use Rattle.std.proofs.Common.{ℕ, ◌≡◌, ◌∙◌, ◌<◌, ◌≤◌, ◌&&◌, ◌++◌, Bool, true, false, cond, nat_le, nat_lt, List, [], ◌∷◌, length, replicate, refl, sym, ap, ap₂, subst, inl, inr, arith}
use Rattle.std.specs.List.{AllByRecursion, filter}
use Rattle.std.specs.List.Sorted.{IsPermutation, IsSorted}
use Rattle.std.specs.Ordering.{MatchOrdering, is_lt, nat_cmp, ordering_then}
use Rattle.std.specs.declared.cmp.Ordering.{Ordering}
use Rattle.std.specs.declared.cmp.Ordering.TheVariants.{Less, Equal, Greater}
use Rattle.std.proofs.lemmas.Bool.{cases_lt, false≢true, le-leb, le-ltb, leb-true, lt-leb, lt-ltb, ltb-true}
use Rattle.std.proofs.lemmas.Cmp.{ranked}
use Rattle.rs_order.specs.Climbing.{Climbs, In, Precedes}
use Rattle.rs_order.proofs.ClimbingFacts.{AllByRecursion-In, AllByRecursion-from_In}
use Rattle.rs_order.proofs.EachFacts.{each-filter, each-weaker}
use Rattle.rs_order.proofs.ItemFacts.{In-filter, In-filter-back}
use Rattle.rs_catalog.specs.Catalog.{CatalogDef}
use Rattle.rs_query.specs.declared.block.Block.{Block}
use Rattle.rs_query.specs.declared.step.Step.{Step}
use Rattle.rs_query.specs.Combinations.{all_combinations, satisfies}
use Rattle.rs_query.specs.Pieces.{AreFromFirst, BeginsAt, HasWholeRange, combinations_between, is_between, with_range}
use Rattle.rs_query.specs.Searching.{Adds, AreSteps, GoesOn, IsCombination, IsRanged}
use Rattle.rs_query.specs.Tables.{HasRows, all_entries, row_number, size_of, sizes_of}
use Rattle.rs_query.specs.WellFormed.{IsBlock}
use Rattle.rs_query.proofs.ChoiceFacts.{Climbs-combinations, In-combinations, In-combinations-back}
use Rattle.rs_query.proofs.ExtendFacts.{HasRows-combinations, and_both}
use Rattle.rs_query.proofs.FreshFacts.{fails-none, filter-each, found-sorted, rows_cmp}
use Rattle.rs_query.proofs.GoFacts.{combination-row}
use Rattle.rs_query.proofs.MaskStepFacts.{has-none}
use Rattle.rs_query.proofs.StepsFacts.{AreSteps-each, IsOfBlock, in_range-from}

-- the first of some steps
pub BeginsAt-one : (entry : ℕ) (steps : List Step) (step : Step) → steps ≡ [] → step.entry ≡ entry → BeginsAt entry (steps ++ step ∷ [])
BeginsAt-one entry steps step none is = subst (λ (before : List Step). BeginsAt entry (before ++ step ∷ [])) (sym none) is

pub BeginsAt-more : (entry : ℕ) (steps : List Step) (step : Step) → BeginsAt entry steps → BeginsAt entry (steps ++ step ∷ [])
BeginsAt-more entry [] step begins = absurd begins
BeginsAt-more entry (first ∷ steps) step begins = begins

-- the test of a range
between : (above last : ℕ) (rows : List ℕ) → above < row_number rows 1 → row_number rows 1 ≤ last → is_between above last rows ≡ true
between above last rows behind before = ap₂ (λ a b. a && b) (lt-ltb above (row_number rows 1) behind) (le-leb (row_number rows 1) last before)

not_behind : (above last : ℕ) (rows : List ℕ) → row_number rows 1 ≤ above → is_between above last rows ≡ false
not_behind above last rows at = ap (λ b. b && nat_le (row_number rows 1) last) (le-ltb above (row_number rows 1) at)

and-false : (b : Bool) → (b && false) ≡ false
and-false true = refl
and-false false = refl

beyond : (above last : ℕ) (rows : List ℕ) → last < row_number rows 1 → is_between above last rows ≡ false
beyond above last rows behind =
    ap (λ b. nat_lt above (row_number rows 1) && b) (lt-leb (row_number rows 1) last behind) ∙ and-false (nat_lt above (row_number rows 1))

-- what a test says of the first item
filter-in : {X : Type 0} (p : X → Bool) (x : X) (xs : List X) → p x ≡ true → filter p (x ∷ xs) ≡ x ∷ filter p xs
filter-in p x xs e = ap (λ b. cond b (x ∷ filter p xs) (filter p xs)) e

filter-out : {X : Type 0} (p : X → Bool) (x : X) (xs : List X) → p x ≡ false → filter p (x ∷ xs) ≡ filter p xs
filter-out p x xs e = ap (λ b. cond b (x ∷ filter p xs) (filter p xs)) e

-- rows that come before others in lexicographic order have no greater first one
first-ascends : (x y : List ℕ) → rows_cmp x y ≡ Less → row_number x 1 ≤ row_number y 1
first-ascends [] y less = omega arith
first-ascends (a ∷ x) [] less = absurd (false≢true (ap is_lt less))
first-ascends (a ∷ x) (b ∷ y) less = go (nat_cmp a b) (ranked a b (nat_cmp a b) refl) less where
  go : (o : Ordering) → MatchOrdering o (a < b) (a ≡ b) (b < a) → ordering_then o (rows_cmp x y) ≡ Less → a ≤ b
  go Less before e = omega arith
  go Equal same e = omega arith
  go Greater after e = absurd (false≢true (ap is_lt e))

-- there is none where all come behind the range
beyond-all : (above last : ℕ) (lists : List (List ℕ)) → AllByRecursion (λ rows. last < row_number rows 1) lists → filter (is_between above last) lists ≡ []
beyond-all above last [] all = refl
beyond-all above last (rows ∷ lists) all = filter-out (is_between above last) rows lists (beyond above last rows all.0) ∙ beyond-all above last lists all.1

-- two ranges, the one right behind the other, are one
ranges-joined : (a b c : ℕ) (lists : List (List ℕ)) → a ≤ b → b ≤ c → Climbs rows_cmp (λ rows. rows) lists
    → filter (is_between a b) lists ++ filter (is_between b c) lists ≡ filter (is_between a c) lists
ranges-joined a b c [] low high climbs = refl
ranges-joined a b c (rows ∷ lists) low high climbs =
    let rest = ranges-joined a b c lists low high climbs.1 in
    elim (cases_lt a (row_number rows 1)) [
      | inr at ↦
          ap₂ (λ xs ys. xs ++ ys) (filter-out (is_between a b) rows lists (not_behind a b rows at)) (filter-out (is_between b c) rows lists (not_behind b c rows (omega arith)))
          ∙ rest ∙ sym (filter-out (is_between a c) rows lists (not_behind a c rows at))
      | inl behind ↦ elim (cases_lt b (row_number rows 1)) [
        | inr within ↦
            ap₂ (λ xs ys. xs ++ ys) (filter-in (is_between a b) rows lists (between a b rows behind within)) (filter-out (is_between b c) rows lists (not_behind b c rows within))
            ∙ ap (λ xs. rows ∷ xs) rest ∙ sym (filter-in (is_between a c) rows lists (between a c rows behind (omega arith)))
        | inl later ↦
            let none : filter (is_between a b) lists ≡ [] =
            beyond-all a b lists (each-weaker (Precedes rows_cmp (λ (r : List ℕ). r) rows) (λ others. b < row_number others 1)
            (λ others less. let up = first-ascends rows others less in omega arith) lists climbs.0) in
            elim (cases_lt c (row_number rows 1)) [
              | inl last ↦
                  ap₂ (λ xs ys. xs ++ ys) (filter-out (is_between a b) rows lists (beyond a b rows later)) (filter-out (is_between b c) rows lists (beyond b c rows last))
                  ∙ rest ∙ sym (filter-out (is_between a c) rows lists (beyond a c rows last))
              | inr within ↦
                  ap₂ (λ xs ys. xs ++ ys) (filter-out (is_between a b) rows lists (beyond a b rows later) ∙ none) (filter-in (is_between b c) rows lists (between b c rows later within))
                  ∙ ap (λ xs. rows ∷ xs) (ap (λ xs. xs ++ filter (is_between b c) lists) (sym none) ∙ rest)
                  ∙ sym (filter-in (is_between a c) rows lists (between a c rows behind within))
            ]
      ]
    ]

module _ (catalogue : CatalogDef) (block : Block) where
  -- a piece and the one behind it
  pub between-more : (above middle last : ℕ) → above ≤ middle → middle ≤ last
      → combinations_between catalogue block above middle ++ combinations_between catalogue block middle last ≡ combinations_between catalogue block above last
  between-more above middle last low high =
      ranges-joined above middle last (all_combinations catalogue block) low high (Climbs-combinations catalogue block (sizes_of catalogue block) (all_entries block))

  -- no row comes behind the last one, and at or before it
  pub between-none : (row : ℕ) → combinations_between catalogue block row row ≡ []
  between-none row = none (all_combinations catalogue block) where
    none : (lists : List (List ℕ)) → filter (is_between row row) lists ≡ []
    none [] = refl
    none (rows ∷ lists) =
        elim (cases_lt row (row_number rows 1)) [
          | inl behind ↦ filter-out (is_between row row) rows lists (beyond row row rows behind) ∙ none lists
          | inr at ↦ filter-out (is_between row row) rows lists (not_behind row row rows at) ∙ none lists
        ]

  -- each combination of a piece has a row of each entry
  pub HasRows-between : (above last : ℕ) → length block.from ≤ 6 → AllByRecursion (HasRows catalogue block (all_entries block)) (combinations_between catalogue block above last)
  HasRows-between above last most =
      each-filter (HasRows catalogue block (all_entries block)) (is_between above last) (all_combinations catalogue block) (HasRows-combinations catalogue block most)

  -- steps that begin at the first entry
  pub from_first : (steps : List Step) → BeginsAt 1 steps → AreSteps catalogue block 0 (all_entries block) steps → AllByRecursion (IsRanged catalogue block (replicate 6 0) 1) steps
      → AreFromFirst catalogue block steps
  from_first [] begins are ranged = absurd begins
  from_first (step ∷ steps) begins are ranged = (
    begins,
    are,
    AllByRecursion-from_In (HasWholeRange catalogue block) steps (λ s h row some most.
        let of = AllByRecursion-In (IsOfBlock block) (step ∷ steps) (AreSteps-each catalogue block 0 (all_entries block) (step ∷ steps) are) s (inr h) in
        (AllByRecursion-In (IsRanged catalogue block (replicate 6 0) 1) steps ranged.1 s h row some most).1
        (record { new = λ e. whole row some s.entry e; old_ones = λ less. (let least = of.0 in absurd (omega arith)) })),
  )
    where
      whole : (row : ℕ) → 1 ≤ row → (entry : ℕ) → entry ≡ 1 → row_number (replicate 6 0) entry < row
      whole row some entry e = subst (λ n. row_number (replicate 6 0) n < row) (sym e) (omega arith)

  -- there is a first one
  pub from_first-some : (steps : List Step) → AreFromFirst catalogue block steps → 1 ≤ length steps
  from_first-some [] are = absurd are
  from_first-some (step ∷ steps) are = omega arith

  -- and its range can be another one
  pub from_first-range : (above last : ℕ) (steps : List Step) → last ≤ size_of catalogue block 1 → AreFromFirst catalogue block steps → AreFromFirst catalogue block (with_range above last steps)
  from_first-range above last [] most are = absurd are
  from_first-range above last (step ∷ steps) most are =
      let is = are.1.0 in (
        are.0,
        (
          record {
            least = is.least;
            most = is.most;
            is_new = is.is_new;
            last = subst (λ n. last ≤ size_of catalogue block n) (sym are.0) most;
            conditions = is.conditions;
            tie = is.tie;
            start = inl refl;
          },
          are.1.1,
        ),
        are.2,
      )

module _ (catalogue : CatalogDef) (block : Block) (is : IsBlock catalogue block) where
  -- all together are the combinations
  pub between-all : combinations_between catalogue block 0 (size_of catalogue block 1) ≡ all_combinations catalogue block
  between-all =
      filter-each (is_between 0 (size_of catalogue block 1)) (all_combinations catalogue block)
      (λ rows h.
      let parts = In-combinations-back catalogue block (sizes_of catalogue block) (all_entries block) rows h in
      let row = combination-row catalogue block is rows (record { choice = parts.0; satisfied = parts.1 }) 1 (omega arith) is.some_entries in
      between 0 (size_of catalogue block 1) rows row.0 row.1)

  -- what such steps lead to are the combinations of the range of the first one
  goes-between : (above last : ℕ) (steps : List Step) (rows : List ℕ) → AreFromFirst catalogue block steps → GoesOn catalogue block (with_range above last steps) 0 (replicate 6 0) rows
      → In rows (combinations_between catalogue block above last)
  goes-between above last [] rows are goes = absurd are
  goes-between above last (step ∷ steps) rows are goes =
      let range = subst (λ n. (above < row_number rows n) × (row_number rows n ≤ last)) are.0 (goes.in_range.0, goes.in_range.1) in
      In-filter (is_between above last) rows (all_combinations catalogue block)
      (In-combinations catalogue block (sizes_of catalogue block) (all_entries block) rows goes.combination.choice goes.combination.satisfied)
      (between above last rows range.0 range.1)

  between-goes : (above last : ℕ) (steps : List Step) (rows : List ℕ) → AreFromFirst catalogue block steps → In rows (combinations_between catalogue block above last)
      → GoesOn catalogue block (with_range above last steps) 0 (replicate 6 0) rows
  between-goes above last [] rows are h = absurd are
  between-goes above last (step ∷ steps) rows are h =
      let both = In-filter-back (is_between above last) rows (all_combinations catalogue block) h in
      let parts = In-combinations-back catalogue block (sizes_of catalogue block) (all_entries block) rows both.0 in
      let tests = and_both (nat_lt above (row_number rows 1)) (nat_le (row_number rows 1) last) both.1 in
      let combination : IsCombination catalogue block rows = record { choice = parts.0; satisfied = parts.1 } in
      record {
        agrees = λ entry some has. absurd (has-none entry has);
        combination = combination;
        in_range = (
          subst (λ n. above < row_number rows n) (sym are.0) (ltb-true above (row_number rows 1) tests.0),
          subst (λ n. row_number rows n ≤ last) (sym are.0) (leb-true (row_number rows 1) last tests.1),
          in_range-from steps rows (λ s i.
              let of = AllByRecursion-In (IsOfBlock block) steps (AreSteps-each catalogue block _ (all_entries block) steps are.1.1) s i in
              let row = combination-row catalogue block is rows combination s.entry of.0 of.1 in
              AllByRecursion-In (HasWholeRange catalogue block) steps are.2 s i (row_number rows s.entry) row.0 row.1),
        );
      }

  -- what was found in a range, sorted
  pub between-found : (above last : ℕ) (steps found_by : List Step) (start found ordered : List (List ℕ)) → AreFromFirst catalogue block steps → found_by ≡ with_range above last steps → start ≡ []
      → Adds (GoesOn catalogue block found_by 0 (replicate 6 0)) start found → IsPermutation found ordered → IsSorted rows_cmp ordered
      → ordered ≡ combinations_between catalogue block above last
  between-found above last steps found_by start found ordered are by empty a moved sorted =
      let goes : (rows : List ℕ) → GoesOn catalogue block found_by 0 (replicate 6 0) rows → GoesOn catalogue block (with_range above last steps) 0 (replicate 6 0) rows =
      λ rows. subst (λ (s : List Step). GoesOn catalogue block s 0 (replicate 6 0) rows) by in
      let back : (rows : List ℕ) → GoesOn catalogue block (with_range above last steps) 0 (replicate 6 0) rows → GoesOn catalogue block found_by 0 (replicate 6 0) rows =
      λ rows. subst (λ (s : List Step). GoesOn catalogue block s 0 (replicate 6 0) rows) (sym by) in
      found-sorted catalogue block (is_between above last) (GoesOn catalogue block found_by 0 (replicate 6 0)) start found ordered empty a moved sorted
      (λ rows g. goes-between above last steps rows are (goes rows g)) (λ rows h. back rows (between-goes above last steps rows are h))

  -- there is none where a condition without columns fails
  pub between-fails : (above last : ℕ) → satisfies catalogue block 0 (replicate 6 0) ≡ false → [] ≡ combinations_between catalogue block above last
  between-fails above last fails = ap (filter (is_between above last)) (sym (fails-none catalogue block is fails))

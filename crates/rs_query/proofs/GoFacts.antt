-- The combinations that go on from rows that are chosen: by the rows of the next step's entry, of which only those that fit its tie can be one's.
use Rattle.std.proofs.Common.{ℕ, suc, ◌≡◌, ◌∙◌, ◌+◌, ◌-◌, ◌<◌, ◌≤◌, ◌⊎◌, ◌&&◌, ◌++◌, Bool, true, false, cond, List, [], ◌∷◌, length, get_or, set, Some, None, refl, sym, ap, ap₂, subst, inl, inr, bit_or, arith}
use Rattle.std.specs.Prelude.{IfSome, Option, slice_get, unwrap_or}
use Rattle.std.specs.Int.{bit_at}
use Rattle.std.specs.List.{AllByRecursion, list_all}
use Rattle.std.proofs.lemmas.Bool.{cases_eq, cases_lt, eq-eqb, true≢false}
use Rattle.std.proofs.lemmas.Option.{unwrap_or-slice_get}
use Rattle.rs_value.specs.declared.kind.Kind.{Kind}
use Rattle.rs_value.specs.Value.{kind_of}
use Rattle.rs_value.specs.declared.value.Value.{Value}
use Rattle.rs_order.specs.Climbing.{In}
use Rattle.rs_order.proofs.ClimbingFacts.{AllByRecursion-In}
use Rattle.rs_rank.specs.Masks.{has_number, mask_of}
use Rattle.rs_catalog.specs.Catalog.{CatalogDef}
use Rattle.rs_query.specs.declared.block.Block.{Block}
use Rattle.rs_query.specs.declared.listed.Listed.{Listed}
use Rattle.rs_query.specs.declared.step.Step.{Step}
use Rattle.rs_query.specs.declared.tie.Tie.{Tie}
use Rattle.rs_query.specs.Choices.{AgreeOn, IsChoice}
use Rattle.rs_query.specs.Combinations.{holds_inside, satisfies}
use Rattle.rs_query.specs.Conjuncts.{ConjunctDef}
use Rattle.rs_query.specs.EqualRows.{IsNext}
use Rattle.rs_query.specs.Meaning.{all_hold, column_value, conjunct_holds, is_inside}
use Rattle.rs_query.specs.Searching.{Adds, AreListed, AreTied, Fits, GoesOn, HasKinds, IsBegun, IsCombination, IsStep, IsTie, cell_of, left_cells, other_columns, right_cells}
use Rattle.rs_query.specs.Tables.{HasRow, all_entries, row_number, size_of, sizes_of}
use Rattle.rs_query.specs.WellFormed.{IsBlock, IsColumn, IsConjunct, column_kind}
use Rattle.rs_query.proofs.AddsFacts.{Adds-both, Adds-none, Adds-one, Adds-same}
use Rattle.rs_query.proofs.EntryFacts.{conjuncts-inside}
use Rattle.rs_query.proofs.EquatedFacts.{equality-same}
use Rattle.rs_query.proofs.ExtendFacts.{HasRows-choice, IsChoice-length, all-fewer, and_both, get_or-sizes_of, satisfies-fails}
use Rattle.rs_query.proofs.HoldNewFacts.{satisfies-new}
use Rattle.rs_query.proofs.MaskStepFacts.{IsChoice-only, IsChoice-set, has-back, has-more, has-own, has-up_to, is_inside-more, own-number, row_number-other, row_number-own}

-- of those that go on by a step, the ones whose row of its entry comes before this one, or all behind the last row
pub record IsPassed (catalogue : CatalogDef) (block : Block) (mask : ℕ) (step : Step) (rows : List ℕ) (steps : List Step) (row : ℕ) (z : List ℕ) : Type 0 where
  pub goes : GoesOn catalogue block (step ∷ steps) mask rows z
  pub before : 1 ≤ row → row_number z step.entry < row

-- behind the last row there are all
pub passed-all : (catalogue : CatalogDef) (block : Block) (mask : ℕ) (step : Step) (rows : List ℕ) (steps : List Step) (row : ℕ) (old new : List (List ℕ)) → row ≡ 0
    → Adds (IsPassed catalogue block mask step rows steps row) old new → Adds (GoesOn catalogue block (step ∷ steps) mask rows) old new
passed-all catalogue block mask step rows steps row old new none a =
    Adds-same (IsPassed catalogue block mask step rows steps row) (GoesOn catalogue block (step ∷ steps) mask rows) old new
    (λ z. ((λ passed. passed.goes), (λ goes. record { goes = goes; before = λ some. absurd (omega arith) }))) a

-- one of some tests that are all passed
list_all-In : {X : Type 0} (p : X → Bool) (xs : List X) (x : X) → list_all p xs ≡ true → In x xs → p x ≡ true
list_all-In p [] x all h = absurd h
list_all-In p (y ∷ xs) x all h =
    let both = and_both (p y) (list_all p xs) all in
    elim h [ inl e ↦ ap p e ∙ both.0 | inr k ↦ list_all-In p xs x both.1 k ]

module _ (catalogue : CatalogDef) (block : Block) (is : IsBlock catalogue block) where
  -- a combination has a row of each entry
  pub combination-row : (rows : List ℕ) → IsCombination catalogue block rows → (entry : ℕ) → 1 ≤ entry → entry ≤ length block.from → HasRow catalogue block rows entry
  combination-row rows combination entry some most =
      HasRows-choice catalogue block (all_entries block) rows is.most_entries combination.choice entry some most (has-up_to (length block.from) entry some most)

  -- each conjunct holds of it
  pub combination-holds : (rows : List ℕ) → IsCombination catalogue block rows → (c : ConjunctDef) → In c block.conjuncts → conjunct_holds catalogue block rows c ≡ true
  combination-holds rows combination c h =
      let inside : is_inside c.entries (all_entries block) ≡ true =
      AllByRecursion-In (λ (d : ConjunctDef). is_inside d.entries (all_entries block) ≡ true) block.conjuncts (conjuncts-inside catalogue block is) c h in
      let whole = list_all-In (holds_inside catalogue block (all_entries block) rows) block.conjuncts c combination.satisfied h in
      sym (ap (λ b. cond b (conjunct_holds catalogue block rows c) true) inside) ∙ whole

  -- the cells of two columns that are equated are equal
  pub equated-cells : (mask entry : ℕ) (left right : ℕ × ℕ) (rows : List ℕ) → AreTied catalogue block mask entry left right → IsCombination catalogue block rows
      → cell_of catalogue block left (row_number rows left.0) ≡ cell_of catalogue block right (row_number rows right.0)
  equated-cells mask entry left right rows tied combination =
      let c = tied.equated.conjunct in
      let is_conjunct = AllByRecursion-In (IsConjunct catalogue block) block.conjuncts is.conjuncts c tied.equated.is_in in
      let holds = combination-holds rows combination c tied.equated.is_in in
      let left_is = kinds left tied.left_column tied.left_kind in
      let right_is = kinds right tied.right_column tied.right_kind in
      elim tied.equated.is_by.is_equality [
        | inl e ↦ equality-same catalogue block rows c is_conjunct left right e left_is right_is holds
        | inr e ↦ sym (equality-same catalogue block rows c is_conjunct right left e right_is left_is holds)
      ]
    where
      kinds : (column : ℕ × ℕ) → IsColumn catalogue block column → HasKinds catalogue block column → (kind : Kind) → column_kind catalogue block column ≡ Some kind
          → kind_of (column_value catalogue block rows column) ≡ kind
      kinds column is_column have kind e =
          let row = combination-row rows combination column.0 is_column.0 is_column.1 in
          have kind (row_number rows column.0) e row.0 row.1

  module _ (mask : ℕ) (step : Step) (rows : List ℕ) (is_step : IsStep catalogue block mask step) where
    abbrev pub longer_mask : ℕ
    longer_mask = bit_or mask (mask_of step.entry)

    few : step.entry - 1 < 6
    few = omega (arith, is_step.least, is_step.most, is.most_entries)

    sized : IsChoice mask (sizes_of catalogue block) rows → step.entry - 1 < length rows
    sized choice = let six : length rows ≡ 6 = IsChoice-length mask (sizes_of catalogue block) rows choice in omega (arith, few)

    -- rows with one of the step's entry agree with the others
    agree-before : (row : ℕ) → AgreeOn mask (set rows (step.entry - 1) row) rows
    agree-before row entry some has =
        row_number-other rows step.entry entry row is_step.least some
        (λ e. true≢false (sym has ∙ ap (has_number mask) e ∙ is_step.is_new))

    -- the conditions hold where the new ones do
    pub IsBegun-longer : (row : ℕ) → IsBegun catalogue block mask rows → 1 ≤ row → row ≤ step.last
        → all_hold catalogue block step.conditions (set rows (step.entry - 1) row) block.conjuncts ≡ true → IsBegun catalogue block longer_mask (set rows (step.entry - 1) row)
    IsBegun-longer row begun some most holds = record {
      choice = IsChoice-set (step.entry - 1) mask (sizes_of catalogue block) rows row begun.choice few some
          (subst (λ n. row ≤ n) (sym (get_or-sizes_of catalogue block (step.entry - 1) few ∙ ap (size_of catalogue block) (let e : suc (step.entry - 1) ≡ step.entry = omega (arith, is_step.least) in e)))
          (omega (arith, is_step.last)));
      satisfied = satisfies-new mask longer_mask (is_inside-more mask (mask_of step.entry)) catalogue block (set rows (step.entry - 1) row)
          ∙ ap₂ (λ a b. a && b)
          (all-fewer catalogue block mask mask (set rows (step.entry - 1) row) rows (agree-before row) (λ e inside. inside) block.conjuncts is.conjuncts begun.satisfied)
          (ap (λ conditions. all_hold catalogue block conditions (set rows (step.entry - 1) row) block.conjuncts) (sym is_step.conditions) ∙ holds);
    }

    -- and no combination goes on where one of them fails
    pub GoesOn-fails : (steps : List Step) (row : ℕ) → ((entries : ℕ) → is_inside entries longer_mask ≡ true → is_inside entries (all_entries block) ≡ true)
        → all_hold catalogue block step.conditions (set rows (step.entry - 1) row) block.conjuncts ≡ false
        → (z : List ℕ) → GoesOn catalogue block steps longer_mask (set rows (step.entry - 1) row) z → ⊥
    GoesOn-fails steps row within fails z goes =
        let longer = set rows (step.entry - 1) row in
        let now_fails : satisfies catalogue block longer_mask longer ≡ false =
        satisfies-new mask longer_mask (is_inside-more mask (mask_of step.entry)) catalogue block longer
        ∙ ap (λ b. satisfies catalogue block mask longer && b) (ap (λ conditions. all_hold catalogue block conditions longer block.conjuncts) (sym is_step.conditions) ∙ fails)
        ∙ and_false (satisfies catalogue block mask longer) in
        true≢false (sym goes.combination.satisfied
        ∙ satisfies-fails catalogue block longer_mask (all_entries block) longer z goes.agrees within is.conjuncts now_fails)
      where
        and_false : (b : Bool) → (b && false) ≡ false
        and_false true = refl
        and_false false = refl

    -- the cells of a combination that goes on are equal in columns that are tied, and in others of the same entries
    tied-cells : (steps : List Step) (z : List ℕ) (left right : ℕ × ℕ) → AreTied catalogue block mask step.entry left right → GoesOn catalogue block (step ∷ steps) mask rows z
        → cell_of catalogue block left (row_number rows left.0) ≡ cell_of catalogue block right (row_number z step.entry)
    tied-cells steps z left right tied goes =
        ap (cell_of catalogue block left) (goes.agrees left.0 tied.left_column.0 tied.equated.is_by.is_chosen)
        ∙ equated-cells mask step.entry left right z tied goes.combination
        ∙ ap (λ entry. cell_of catalogue block right (row_number z entry)) tied.equated.is_by.is_next

    other-cells : (steps : List Step) (z : List ℕ) (left : ℕ × ℕ) (others : List ((ℕ × ℕ) × (ℕ × ℕ))) → 1 ≤ left.0 → has_number mask left.0 ≡ true
        → AllByRecursion (λ (pair : (ℕ × ℕ) × (ℕ × ℕ)). AreTied catalogue block (mask_of left.0) step.entry pair.0 pair.1) others → GoesOn catalogue block (step ∷ steps) mask rows z
        → left_cells catalogue block others (row_number rows left.0) ≡ right_cells catalogue block others (row_number z step.entry)
    other-cells steps z left [] some chosen tied goes = refl
    other-cells steps z left (pair ∷ others) some chosen tied goes =
        let own : pair.0.0 ≡ left.0 = own-number left.0 pair.0.0 some tied.0.left_column.0 tied.0.equated.is_by.is_chosen in
        ap₂ (λ (v : Value) (vs : List Value). v ∷ vs)
        (ap (cell_of catalogue block pair.0) (goes.agrees left.0 some chosen ∙ ap (row_number z) (sym own))
        ∙ equated-cells (mask_of left.0) step.entry pair.0 pair.1 z tied.0 goes.combination
        ∙ ap (λ entry. cell_of catalogue block pair.1 (row_number z entry)) tied.0.equated.is_by.is_next)
        (other-cells steps z left others some chosen tied.1 goes)

    -- the row of a combination that goes on fits
    pub GoesOn-fits : (steps : List Step) (z : List ℕ) → GoesOn catalogue block (step ∷ steps) mask rows z → Fits catalogue block step.tie rows (row_number z step.entry)
    GoesOn-fits steps z goes = go step.tie is_step.tie where
      listed-cells : (left right : ℕ × ℕ) (listed : Option Listed) → AreTied catalogue block mask step.entry left right → IfSome listed (AreListed catalogue block left right)
          → left_cells catalogue block (other_columns listed) (row_number rows left.0) ≡ right_cells catalogue block (other_columns listed) (row_number z step.entry)
      listed-cells left right None tied are = refl
      listed-cells left right (Some listed) tied are =
          other-cells steps z left listed.others.items tied.left_column.0 tied.equated.is_by.is_chosen
          (subst (λ entry. AllByRecursion (λ (pair : (ℕ × ℕ) × (ℕ × ℕ)). AreTied catalogue block (mask_of left.0) entry pair.0 pair.1) listed.others.items)
          tied.equated.is_by.is_next are.others)
          goes

      go : (tie : Option Tie) → IsTie catalogue block mask step.entry tie → Fits catalogue block tie rows (row_number z step.entry)
      go None tied = tt
      go (Some tie) tied =
          ap₂ (λ (v : Value) (vs : List Value). v ∷ vs) (tied-cells steps z tie.left tie.right tied.columns goes)
          (listed-cells tie.left tie.right tie.listed tied.columns tied.listed)

    -- it goes on from the longer rows
    pub GoesOn-split : (steps : List Step) (z : List ℕ) → IsBegun catalogue block mask rows → GoesOn catalogue block (step ∷ steps) mask rows z
        → GoesOn catalogue block steps longer_mask (set rows (step.entry - 1) (row_number z step.entry)) z
    GoesOn-split steps z begun goes = record {
      agrees = λ entry some has. elim (has-back mask step.entry entry is_step.least some has) [
        | inl e ↦
            ap (row_number (set rows (step.entry - 1) (row_number z step.entry))) e
            ∙ row_number-own rows step.entry (row_number z step.entry) (sized begun.choice)
            ∙ ap (row_number z) (sym e)
        | inr old ↦ agree-before (row_number z step.entry) entry some old ∙ goes.agrees entry some old
      ];
      combination = goes.combination;
      in_range = goes.in_range.2;
    }

    -- and back
    pub GoesOn-row : (steps : List Step) (row : ℕ) (z : List ℕ) → IsBegun catalogue block mask rows → GoesOn catalogue block steps longer_mask (set rows (step.entry - 1) row) z
        → row_number z step.entry ≡ row
    GoesOn-row steps row z begun goes =
        sym (goes.agrees step.entry is_step.least (has-own mask step.entry)) ∙ row_number-own rows step.entry row (sized begun.choice)

    pub GoesOn-join : (steps : List Step) (row : ℕ) (z : List ℕ) → IsBegun catalogue block mask rows → step.above < row → row ≤ step.last
        → GoesOn catalogue block steps longer_mask (set rows (step.entry - 1) row) z → GoesOn catalogue block (step ∷ steps) mask rows z
    GoesOn-join steps row z begun above last goes =
        let own = GoesOn-row steps row z begun goes in
        record {
          agrees = λ entry some has. sym (agree-before row entry some has) ∙ goes.agrees entry some (has-more mask step.entry entry has);
          combination = goes.combination;
          in_range = (subst (λ n. step.above < n) (sym own) above, subst (λ n. n ≤ step.last) (sym own) last, goes.in_range);
        }

    abbrev Passed : List Step → ℕ → List ℕ → Type 0
    Passed steps row z = IsPassed catalogue block mask step rows steps row z

    -- there is none before the first row that fits
    pub passed-none : (steps : List Step) (first : ℕ) (found : List (List ℕ)) → IsNext (Fits catalogue block step.tie rows) step.above step.last first
        → Adds (Passed steps first) found found
    passed-none steps first found next =
        Adds-none (Passed steps first) found
        (λ z passed.
        let range = passed.goes.in_range in
        let at = next.first (row_number z step.entry) range.0 range.1 (GoesOn-fits steps z passed.goes) in
        let before = passed.before at.0 in
        omega (arith, at.1))

    -- those of a row join the others
    pub passed-more : (steps : List Step) (row next : ℕ) (old middle new : List (List ℕ)) → IsBegun catalogue block mask rows → step.above < row → row ≤ step.last
        → IsNext (Fits catalogue block step.tie rows) row step.last next → Adds (Passed steps row) old middle
        → Adds (GoesOn catalogue block steps longer_mask (set rows (step.entry - 1) row)) middle new → Adds (Passed steps next) old new
    passed-more steps row next old middle new begun above last is_next a b =
        Adds-both (Passed steps row) (GoesOn catalogue block steps longer_mask (set rows (step.entry - 1) row)) (Passed steps next) old middle new a b
        (λ z. (forth z, back z))
        (λ z y passed goes same.
        let less = passed.before (omega arith) in
        let own = ap (λ w. row_number w step.entry) same ∙ GoesOn-row steps row y begun goes in
        omega arith)
      where
        forth : (z : List ℕ) → Passed steps next z → Passed steps row z ⊎ GoesOn catalogue block steps longer_mask (set rows (step.entry - 1) row) z
        forth z passed = elim (cases_lt (row_number z step.entry) row) [
          | inl less ↦ inl (record { goes = passed.goes; before = λ some. less })
          | inr le ↦ elim (cases_eq (row_number z step.entry) row) [
            | inl same ↦ inr (subst (λ r. GoesOn catalogue block steps longer_mask (set rows (step.entry - 1) r) z) same (GoesOn-split steps z begun passed.goes))
            | inr differ ↦
                let range = passed.goes.in_range in
                let at = is_next.first (row_number z step.entry) (omega arith) range.1 (GoesOn-fits steps z passed.goes) in
                let before = passed.before at.0 in
                absurd (omega (arith, at.1))
          ]
        ]

        back : (z : List ℕ) → (Passed steps row z ⊎ GoesOn catalogue block steps longer_mask (set rows (step.entry - 1) row) z) → Passed steps next z
        back z h = elim h [
          | inl passed ↦ record {
            goes = passed.goes;
            before = λ some. let less = passed.before (omega arith) in let more = (is_next.there some).0 in omega arith;
          }
          | inr goes ↦ record {
            goes = GoesOn-join steps row z begun above last goes;
            before = λ some. let own = GoesOn-row steps row z begun goes in let more = (is_next.there some).0 in omega arith;
          }
        ]

  -- rows of all entries are the one combination that goes on from them
  pub GoesOn-whole : (mask : ℕ) (rows : List ℕ) (old new : List (List ℕ)) → mask ≡ all_entries block → IsBegun catalogue block mask rows → new ≡ old ++ rows ∷ []
      → Adds (GoesOn catalogue block [] mask rows) old new
  GoesOn-whole mask rows old new whole begun behind =
      Adds-one (GoesOn catalogue block [] mask rows) old new rows behind
      (record {
        agrees = λ entry some has. refl;
        combination = record {
          choice = subst (λ m. IsChoice m (sizes_of catalogue block) rows) whole begun.choice;
          satisfied = subst (λ m. satisfies catalogue block m rows ≡ true) whole begun.satisfied;
        };
        in_range = tt;
      })
      (λ z goes.
      IsChoice-only (all_entries block) (sizes_of catalogue block) z rows goes.combination.choice (subst (λ m. IsChoice m (sizes_of catalogue block) rows) whole begun.choice)
      (λ i bit. same z goes i bit))
    where
      same : (z : List ℕ) → GoesOn catalogue block [] mask rows z → (i : ℕ) → bit_at (all_entries block) i ≡ 1 → get_or z i 0 ≡ get_or rows i 0
      same z goes i bit =
          let number : i + 1 - 1 ≡ i = omega arith in
          let has : has_number mask (i + 1) ≡ true = eq-eqb (bit_at mask (i + 1 - 1)) 1 (ap (bit_at mask) number ∙ ap (λ m. bit_at m i) whole ∙ bit) in
          let agrees = goes.agrees (i + 1) (omega arith) has in
          sym (unwrap_or-slice_get z i 0)
          ∙ ap (λ j. unwrap_or (slice_get z j) 0) (sym number)
          ∙ sym agrees
          ∙ ap (λ j. unwrap_or (slice_get rows j) 0) number
          ∙ unwrap_or-slice_get rows i 0

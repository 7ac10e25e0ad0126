-- What the step of an INSERT did, from what the catalogue did.
use Rattle.std.proofs.Common.{ℕ, suc, ◌≡◌, ◌∙◌, ◌+◌, ◌<◌, ◌++◌, ◌==◌, Bool, true, false, List, [], ◌∷◌, length, Some, None, inl, inr, refl, sym, ap, subst, arith, append-nil, if◌then◌else◌}
use Rattle.std.specs.Prelude.{Result, Ok, Err, ◌⊎◌, slice_get}
use Rattle.std.specs.List.{AllByRecursion}
use Rattle.std.proofs.lemmas.Option.{slice_get_within}
use Rattle.rs_value.specs.declared.value.Value.{Value}
use Rattle.rs_expr.specs.InOrder.{InquiryEnds, InquiryFails, Inquires, Inquiry, InquiryStops, Request, and_then}
use Rattle.rs_expr.specs.Predicates.{PredicateDef}
use Rattle.rs_expr.specs.Scores.{as_score, is_score}
use Rattle.rs_expr.specs.Scoring.{Answering, ScorerState}
use Rattle.rs_rank.specs.declared.scored_row.ScoredRow.{ScoredRow}
use Rattle.rs_catalog.specs.Catalog.{CatalogDef, RankIndex}
use Rattle.rs_catalog.specs.Growing.{GrowsBy, catalogue_grown, comes_to, growing, growing_index, in_turn, scoring_new, scorings_new, with_entries, without_indexes}
use Rattle.rs_catalog.specs.Indexes.{args_in, predicate_for, rows_for}
use Rattle.rs_catalog.specs.declared.growth.GrowFault.{GrowFault}
use Rattle.rs_catalog.specs.declared.growth.GrowFault.TheVariants as grow
use Rattle.rs_catalog.specs.declared.index.BoundArg.{BoundArg}
use Rattle.rs_events.specs.Environment.{Environment}
use Rattle.rs_events.specs.Events.{calls_in}
use Rattle.rs_events.specs.Sequence.{run_of}
use Rattle.rs_events.proofs.InquirySteps.{Ran-unasked, TellFailedCalls, asked-ok}
use Rattle.rs_events.proofs.RanFacts.{Ran-all}
use Rattle.rs_events.proofs.SteppedFacts.{events-run_of, step_of}
use Rattle.rs_statement.specs.Inserts.{NamesIndex, grow_fault, grow_outcome, index_predicate, insert_step}
use Rattle.rs_statement.specs.Parts.Steps.{Ran, Stepped}
use Rattle.rs_statement.specs.Steps.{statement_faults}
use Rattle.rs_statement.specs.declared.fault.Fault.{Fault}
use Rattle.rs_statement.specs.declared.fault.Fault.TheVariants.{Memory, Probe}

-- what became of the indexes where the call answered so
grown-ok : (indexes : Result (List RankIndex) GrowFault) → Ok tt ≡ without_indexes indexes → (made : List RankIndex) × (indexes ≡ Ok made)
grown-ok (Ok made) e = (made, refl)
grown-ok (Err why) e = absurd cc

grown-err : (indexes : Result (List RankIndex) GrowFault) (why : GrowFault) → Err why ≡ without_indexes indexes → indexes ≡ Err why
grown-err (Ok made) why e = absurd cc
grown-err (Err other) why e = let same : other ≡ why = cc in ap Err same

-- what the last of some requests is, and all of them
all-last : {A : Type 0} (P : A → Type 0) (done : List A) (last : A) (rest : List A) → AllByRecursion P (done ++ last ∷ rest) → P last
all-last P [] last rest all = all.0
all-last P (a ∷ done) last rest all = all-last P done last rest all.1

all-append : {A : Type 0} (P : A → Type 0) (first more : List A) → AllByRecursion P first → AllByRecursion P more → AllByRecursion P (first ++ more)
all-append P [] more one two = two
all-append P (a ∷ first) more one two = (one.0, all-append P first more one.1 two)

all-map : {A : Type 0} (P Q : A → Type 0) → ((a : A) → P a → Q a) → (list : List A) → AllByRecursion P list → AllByRecursion Q list
all-map P Q turn [] all = tt
all-map P Q turn (a ∷ list) all = (turn a all.0, all-map P Q turn list all.1)

module _ (catalogue : CatalogDef) where
  -- a call that fails is told with the predicate that it is of, and of an index that is there
  abbrev IsTold : Request GrowFault → Type 0
  IsTold request = NamesIndex catalogue request.failed × (grow_fault catalogue request.failed ≡ statement_faults.failed_call request.call)

  -- a bad score is told of an index that is there
  abbrev IsToldOutcome : {A : Type 0} → Result A GrowFault → Type 0
  IsToldOutcome (Ok a) = Unit {0}
  IsToldOutcome (Err why) = NamesIndex catalogue why

  record Tells {A : Type 0} (inquiry : Inquiry A GrowFault) : Type 0 where
    requests : AllByRecursion IsTold inquiry.requests
    outcome : IsToldOutcome inquiry.outcome

  Tells-comes : {A : Type 0} (a : A) → Tells (comes_to a)
  Tells-comes a = record { requests = tt; outcome = tt }

  Tells-then : {A B : Type 0} (first : Inquiry A GrowFault) (next : A → Inquiry B GrowFault) → Tells first → ((a : A) → Tells (next a)) → Tells (and_then first next)
  Tells-then {A} {B} first next told more = go first.outcome told.outcome where
    go : (outcome : Result A GrowFault) → IsToldOutcome outcome → Tells (and_then (record { requests = first.requests; outcome = outcome }) next)
    go (Ok a) o = record { requests = all-append IsTold first.requests (next a).requests told.requests (more a).requests; outcome = (more a).outcome }
    go (Err why) o = record { requests = told.requests; outcome = o }

  -- an inquiry about items in turn
  Tells-in_turn : {X A : Type 0} (ask : ℕ → X → Inquiry A GrowFault) → ((n : ℕ) (x : X) → Tells (ask n x)) → (n : ℕ) (xs : List X) → Tells (in_turn ask n xs)
  Tells-in_turn ask each n [] = Tells-comes []
  Tells-in_turn ask each n (x ∷ xs) =
      Tells-then (ask n x) (λ a. and_then (in_turn ask (n + 1) xs) (λ others. comes_to (a ∷ others))) (each n x)
      (λ a. Tells-then (in_turn ask (n + 1) xs) (λ others. comes_to (a ∷ others)) (Tells-in_turn ask each (n + 1) xs) (λ others. Tells-comes (a ∷ others)))

  module _ (answer : Answering) (table : ℕ) (rows : List (List Value)) where
    -- the index of this number
    module _ (number : ℕ) (index : RankIndex) (there : slice_get catalogue.indexes number ≡ Some index) where
      abbrev predicate : PredicateDef
      predicate = predicate_for catalogue index.def

      within : number < length catalogue.indexes
      within = slice_get_within catalogue.indexes number index there

      named : index_predicate catalogue number ≡ predicate.name
      named = rw there refl

      row-told : (args : List BoundArg) (row : ℕ) (values : List Value) → Tells (scoring_new answer number predicate args row values)
      row-told args row values = record { requests = ((within, ap Probe named), tt); outcome = go (is_score predicate.max (answer predicate (args_in args values))) } where
        go : (b : Bool)
            → IsToldOutcome {A = ScoredRow} (if b then Ok (record { score = as_score (answer predicate (args_in args values)); row = row }) else Err (grow.BadScore number row (answer predicate (args_in args values)) predicate.max))
        go true = tt
        go false = within

      rows-told : Tells (scorings_new answer number predicate index.def.args (length (rows_for catalogue index.def) + 1) rows)
      rows-told = Tells-in_turn (scoring_new answer number predicate index.def.args) (row-told index.def.args) (length (rows_for catalogue index.def) + 1) rows

      index-told : Tells (growing_index answer catalogue table rows number index)
      index-told = go (index.def.table == table) where
        go : (b : Bool)
            → Tells (if b then and_then (scorings_new answer number predicate index.def.args (length (rows_for catalogue index.def) + 1) rows) (λ entries. comes_to (with_entries entries index)) else comes_to index)
        go true = Tells-then (scorings_new answer number predicate index.def.args (length (rows_for catalogue index.def) + 1) rows) (λ entries. comes_to (with_entries entries index))
            rows-told (λ entries. Tells-comes (with_entries entries index))
        go false = Tells-comes index

    -- the indexes from one number on
    indexes-told : (n : ℕ) (more : List RankIndex) → ((k m : ℕ) → m ≡ n + k → slice_get catalogue.indexes m ≡ slice_get more k)
        → Tells (in_turn (growing_index answer catalogue table rows) n more)
    indexes-told n [] there = Tells-comes []
    indexes-told n (index ∷ more) there =
        Tells-then (growing_index answer catalogue table rows n index) (λ a. and_then (in_turn (growing_index answer catalogue table rows) (n + 1) more) (λ others. comes_to (a ∷ others)))
        (index-told n index (there 0 n (omega arith)))
        (λ a. Tells-then (in_turn (growing_index answer catalogue table rows) (n + 1) more) (λ others. comes_to (a ∷ others))
        (indexes-told (n + 1) more (λ k m e. there (suc k) m (omega arith))) (λ others. Tells-comes (a ∷ others)))

    all-told : Tells (growing answer catalogue table rows)
    all-told = indexes-told 0 catalogue.indexes (λ k m e. ap (slice_get catalogue.indexes) (let same : m ≡ k = omega arith in same))

    calls-told : TellFailedCalls statement_faults (grow_fault catalogue) (growing answer catalogue table rows).requests
    calls-told = all-map IsTold (λ request. grow_fault catalogue request.failed ≡ statement_faults.failed_call request.call) (λ request told. told.1)
        (growing answer catalogue table rows).requests all-told.requests

    -- the fault of rows that didn't join names an index that is there
    fault-told : (why : GrowFault) (old new : ScorerState) → Inquires grow.Memory (growing answer catalogue table rows) (Err why) old new → NamesIndex catalogue why
    fault-told why old new asked = go asked.comes where
      go : (InquiryEnds (growing answer catalogue table rows) (Err why) old new ⊎ InquiryFails (growing answer catalogue table rows) (Err why) old new)
          ⊎ InquiryStops grow.Memory (growing answer catalogue table rows) (Err why) old new → NamesIndex catalogue why
      go (inl (inl ends)) = subst (λ (r : Result (List RankIndex) GrowFault). IsToldOutcome r) (sym ends.gives) all-told.outcome
      go (inl (inr fails)) =
          let same : fails.last.failed ≡ why = (let e = fails.gives in cc) in
          subst (NamesIndex catalogue) same (all-last IsTold fails.done fails.last fails.rest (subst (AllByRecursion IsTold) fails.split all-told.requests)).0
      go (inr stops) =
          let same : grow.Memory ≡ why = (let e = stops.gives in cc) in
          subst (NamesIndex catalogue) same tt

-- rows didn't join: why is told of an index that is there, and the catalogue is as it was
module _ (catalogue new : CatalogDef) (table : ℕ) (rows : List (List Value)) (before after : ScorerState) (why : GrowFault) (grows : GrowsBy table rows catalogue new (Err why) before after) where
  refused : grows.indexes ≡ Err why
  refused = grown-err grows.indexes why grows.answers

  asked_in_vain : Inquires grow.Memory (growing before.answer catalogue table rows) (Err why) before after
  asked_in_vain = subst (λ r. Inquires grow.Memory (growing before.answer catalogue table rows) r before after) refused grows.inquires

  pub Rows-named : NamesIndex catalogue why
  Rows-named = fault-told catalogue before.answer table rows why before after asked_in_vain

  pub Rows-kept : new ≡ catalogue
  Rows-kept = grows.joins ∙ ap (λ r. catalogue_grown table rows r catalogue) refused

module _ (catalogue new : CatalogDef) (table : ℕ) (rows : List (List Value)) (environment : Environment) (scorer : ScorerState) where
  abbrev asking : Inquiry (List RankIndex) GrowFault
  asking = growing environment.scorer.answer catalogue table rows

  abbrev behind : Environment
  behind = record environment { scorer = scorer }

  -- the rows joined
  pub Rows-joined : GrowsBy table rows catalogue new (Ok tt) environment.scorer scorer
      → Stepped (λ step. step ≡ insert_step environment.scorer.answer catalogue (table, rows)) new (Ok tt) environment behind
  Rows-joined grows =
      let made = grown-ok grows.indexes grows.answers in
      let asked = asked-ok grow.Memory asking made.0 environment scorer (subst (λ r. Inquires grow.Memory asking r environment.scorer scorer) made.1 grows.inquires) in record {
        step = insert_step environment.scorer.answer catalogue (table, rows);
        does = refl;
        ran = subst (λ r. Ran (run_of (step_of (calls_in asking) (grow_outcome catalogue table rows r))) (Ok tt) environment behind) (sym asked.given)
            (Ran-all (record { events = calls_in asking; fault = None }) (Ok tt) environment behind asked.has refl);
        leaves = ap (grow_outcome catalogue table rows) asked.given ∙ ap Ok (sym (grows.joins ∙ ap (λ r. catalogue_grown table rows r catalogue) made.1));
      }

  -- they didn't
  module _ (why : GrowFault) (grows : GrowsBy table rows catalogue new (Err why) environment.scorer scorer) where
    pub Rows-refused : (fault : Fault) → (fault ≡ grow_fault catalogue why) ⊎ (fault ≡ Memory)
        → Stepped (λ step. step ≡ insert_step environment.scorer.answer catalogue (table, rows)) new (Err fault) environment behind
    Rows-refused fault says = record {
      step = insert_step environment.scorer.answer catalogue (table, rows);
      does = refl;
      ran = Ran-unasked (grow_fault catalogue) grow.Memory asking why environment scorer (run_of (insert_step environment.scorer.answer catalogue (table, rows))) [] fault
          (calls-told catalogue environment.scorer.answer table rows) refl
          (events-run_of (calls_in asking) (grow_outcome catalogue table rows asking.outcome) ∙ sym (append-nil (calls_in asking)))
          (λ e. ap (λ r. run_of (step_of (calls_in asking) (grow_outcome catalogue table rows r))) e) says (asked_in_vain catalogue new table rows environment.scorer scorer why grows);
      leaves = tt;
    }

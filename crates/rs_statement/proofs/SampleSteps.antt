-- What the sample of a query did in a run, and the step behind it.
use Rattle.std.proofs.Common.{◌≡◌, ◌∙◌, true, List, refl, sym, inl, inr}
use Rattle.std.specs.Prelude.{Result, Ok, Err, ◌⊎◌}
use Rattle.rs_value.specs.Answer.{Gives}
use Rattle.rs_expr.specs.InOrder.{InquiryEnds, InquiryFails, InquiryStops, Inquires}
use Rattle.rs_expr.specs.Scoring.{ScorerState}
use Rattle.rs_catalog.specs.Catalog.{CatalogDef}
use Rattle.rs_query.specs.Questions.{Question}
use Rattle.rs_query.specs.declared.query.Query.{Query}
use Rattle.rs_sample.specs.Sampling.{asking_all, sample_faults}
use Rattle.rs_sample.specs.declared.fault.SampleFault.{SampleFault}
use Rattle.rs_sample.specs.declared.fault.SampleFault.TheVariants.{Memory}
use Rattle.rs_statement.specs.declared.fault.Fault.{Fault}
use Rattle.rs_statement.specs.declared.fault.Fault.TheVariants as fault
use Rattle.rs_statement.specs.Parts.Steps.{Stepped}
use Rattle.rs_statement.specs.declared.sampling.Sampling.{Sampling}
use Rattle.rs_statement.specs.Sampled.{sample_fault, sample_inquiry, sample_questions, sample_step}
use Rattle.rs_statement.specs.Steps.{Step, statement_faults}
use Rattle.rs_events.specs.Sequence.{then_step}
use Rattle.rs_statement.specs.Statements.{refused_or}
use Rattle.rs_events.specs.Environment.{Environment}
use Rattle.rs_events.proofs.InquirySteps.{TellFailedCalls}
use Rattle.rs_statement.proofs.QuerySteps.{Probes-questions}
use Rattle.rs_events.proofs.SoFar.{SoFar-ends, SoFar-more, SoFar-start, Stepped-broken}
use Rattle.rs_statement.proofs.StepFacts.{Stepped-bound}

-- a step that went well, and then another one
pub Stepped-then : {S T : Type 0} (first : Step T) (rest : Step S) (left : T) (state : S) (result : Result (Unit {0}) Fault) (old middle new : Environment)
    → Stepped (λ step. step ≡ first) left (Ok tt) old middle → Stepped (λ step. step ≡ rest) state result middle new
    → Stepped (λ step. step ≡ then_step first rest) state result old new
Stepped-then first rest left state result old middle new before after =
    SoFar-ends (then_step first rest) old middle new rest state result
    (SoFar-more (then_step first rest) old old middle first rest left (SoFar-start (then_step first rest) old) before) after

-- a bound query whose sample is taken, before anything else is done with it
module _ (catalogue : CatalogDef) (sampling : Sampling) (rest : Query → Step CatalogDef) (bound : Result Query Fault) (query : Query) (gives : Gives fault.Memory bound (Ok query)) (old new : Environment) where
  abbrev whole : Step CatalogDef
  whole = refused_or (λ q. then_step (sample_step catalogue sampling q) (rest q)) bound

  -- its sample broke off
  pub Sampled-broken : (why : Fault) → Stepped (λ step. step ≡ sample_step catalogue sampling query) catalogue (Err why) old new → Stepped (λ step. step ≡ whole) catalogue (Err why) old new
  Sampled-broken why sampled =
      Stepped-bound (λ q. then_step (sample_step catalogue sampling q) (rest q)) bound query catalogue (Err why) old new gives
      (Stepped-broken (sample_step catalogue sampling query) (rest query) why catalogue catalogue old new sampled)

  -- it was taken, and then the rest was done, or a part of it
  pub Sampled-then : (result : Result (Unit {0}) Fault) (middle : Environment) → Stepped (λ step. step ≡ sample_step catalogue sampling query) catalogue (Ok tt) old middle
      → Stepped (λ step. step ≡ rest query) catalogue result middle new → Stepped (λ step. step ≡ whole) catalogue result old new
  Sampled-then result middle sampled behind =
      Stepped-bound (λ q. then_step (sample_step catalogue sampling q) (rest q)) bound query catalogue result old new gives
      (Stepped-then (sample_step catalogue sampling query) (rest query) catalogue catalogue result old middle new sampled behind)

-- each call of a sample is of the predicate that is told where it fails
pub probes-sample : (catalogue : CatalogDef) (sampling : Sampling) (query : Query) → TellFailedCalls statement_faults (sample_fault catalogue) (sample_inquiry catalogue sampling query).requests
probes-sample catalogue sampling query =
    Probes-questions sample_faults (sample_fault catalogue) catalogue (λ number. refl) (sample_questions catalogue sampling query)

module _ (catalogue : CatalogDef) where
  -- of a scorer of which no call fails, there is a sample unless there was no memory
  pub steady-asking : {A : Type 0} (qs : List Question) (value : A) (result : Result A SampleFault) (why : SampleFault) (old new : ScorerState) → old.outside.steady ≡ true
      → Inquires Memory (asking_all catalogue qs value) result old new → result ≡ Err why → why ≡ Memory
  steady-asking {A} qs value result why old new steady inquires is = go inquires.comes where
    go : (InquiryEnds (asking_all catalogue qs value) result old new ⊎ InquiryFails (asking_all catalogue qs value) result old new)
        ⊎ InquiryStops Memory (asking_all catalogue qs value) result old new → why ≡ Memory
    go (inl (inl ends)) = absurd (let e = ends.gives in cc)
    go (inl (inr fails)) = absurd (let unsteady = sym steady ∙ fails.faulted.unsteady in cc)
    go (inr stops) = let e = stops.gives in cc

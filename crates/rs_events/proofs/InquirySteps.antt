-- What the calls of an inquiry did in a run.
use Rattle.std.proofs.Common.{ℕ, ◌≡◌, ◌∙◌, ◌++◌, List, [], ◌∷◌, map, Some, refl, sym, ap, subst, inl, inr, append_assoc, append-nil}
use Rattle.std.specs.Prelude.{Result, Ok, Err, IfOk, ◌⊎◌}
use Rattle.std.specs.List.{AllByRecursion}
use Rattle.rs_expr.specs.InOrder.{InquiryEnds, InquiryFails, Inquires, Inquiry, Request, InquiryStops, calls_of}
use Rattle.rs_expr.specs.Scoring.{ScorerState}
use Rattle.rs_events.specs.Environment.{Environment}
use Rattle.rs_events.specs.Events.{Event, Put, Score, calls_in}
use Rattle.rs_events.specs.HaltFaults.{HaltFaults}
use Rattle.rs_events.specs.Halts.{CallFailed, Done}
use Rattle.rs_events.specs.Run.{Run, lines_run}
use Rattle.rs_events.specs.Running.{HasDone, Ran, Stepped}
use Rattle.rs_events.specs.Sequence.{inquiry_step, run_of}
use Rattle.rs_events.proofs.RanFacts.{HasDone-scorer, Ran-all, Ran-behind, Ran-no_memory}
use Rattle.rs_events.proofs.SteppedFacts.{events-run_of, step_of}

-- the events of requests
abbrev pub scores_of : {G : Type 0} → List (Request G) → List Event
scores_of requests = map Score (calls_of requests)

scores-append : {G : Type 0} (a b : List (Request G)) → scores_of (a ++ b) ≡ scores_of a ++ scores_of b
scores-append [] b = refl
scores-append (request ∷ rest) b = ap (λ more. Score request.call ∷ more) (scores-append rest b)

-- the fault of each request is that its call failed
abbrev pub TellFailedCalls : {F G : Type 0} → HaltFaults F → (G → F) → List (Request G) → Type 0
TellFailedCalls faults tells requests = AllByRecursion (λ request. tells request.failed ≡ faults.failed_call request.call) requests

failed-at : {F G : Type 0} (faults : HaltFaults F) (tells : G → F) (done rest : List (Request G)) (last : Request G) → TellFailedCalls faults tells (done ++ last ∷ rest)
    → tells last.failed ≡ faults.failed_call last.call
failed-at faults tells [] rest last all = all.0
failed-at faults tells (request ∷ done) rest last all = failed-at faults tells done rest last all.1

-- an inquiry that came to something: all calls were made
pub record IsAsked {A G : Type 0} (inquiry : Inquiry A G) (a : A) (old new : Environment) : Type 0 where
  pub has : HasDone (calls_in inquiry) old new
  pub given : inquiry.outcome ≡ Ok a

pub asked-ok : {A G : Type 0} (memory : G) (inquiry : Inquiry A G) (a : A) (environment : Environment) (scorer : ScorerState) → Inquires memory inquiry (Ok a) environment.scorer scorer
    → IsAsked inquiry a environment (record environment { scorer = scorer })
asked-ok {A} {G} memory inquiry a environment scorer asked = go asked.comes where
  go : (InquiryEnds inquiry (Ok a) environment.scorer scorer ⊎ InquiryFails inquiry (Ok a) environment.scorer scorer) ⊎ InquiryStops memory inquiry (Ok a) environment.scorer scorer
      → IsAsked inquiry a environment (record environment { scorer = scorer })
  go (inl (inl ends)) = record { has = HasDone-scorer environment scorer (calls_of inquiry.requests) ends.made asked.keeps; given = sym ends.gives }
  go (inl (inr fails)) = absurd (let e = fails.gives in cc)
  go (inr stops) = absurd (let e = stops.gives in cc)

-- the events of a run that begins with the calls of an inquiry, from a place among its requests on
split-at : {F G : Type 0} (run : Run F) (requests done rest : List (Request G)) (more : List Event) → run.events ≡ scores_of requests ++ more → requests ≡ done ++ rest
    → run.events ≡ scores_of done ++ (scores_of rest ++ more)
split-at run requests done rest more begins split =
    begins ∙ ap (λ requests. scores_of requests ++ more) split ∙ ap (λ events. events ++ more) (scores-append done rest)
    ∙ append_assoc (scores_of done) (scores_of rest) more

-- one that came to a fault, in a run that begins with its calls and ends with what their answers give
module _ {A F G : Type 0} {faults : HaltFaults F} (tells : G → F) (memory : G) (inquiry : Inquiry A G) (why : G) (environment : Environment) (scorer : ScorerState) (run : Run F) (more : List Event) (told : F)
    (told_calls : TellFailedCalls faults tells inquiry.requests) (no_memory : tells memory ≡ faults.memory) (begins : run.events ≡ calls_in inquiry ++ more)
    (is : inquiry.outcome ≡ Err why → run ≡ record { events = calls_in inquiry; fault = Some (tells why) }) (says : (told ≡ tells why) ⊎ (told ≡ faults.memory)) where
  pub Ran-unasked : Inquires memory inquiry (Err why) environment.scorer scorer → Ran faults run (Err told) environment (record environment { scorer = scorer })
  Ran-unasked asked = go asked.comes where
    go : (InquiryEnds inquiry (Err why) environment.scorer scorer ⊎ InquiryFails inquiry (Err why) environment.scorer scorer) ⊎ InquiryStops memory inquiry (Err why) environment.scorer scorer
        → Ran faults run (Err told) environment (record environment { scorer = scorer })
    go (inl (inl ends)) = subst (λ run. Ran faults run (Err told) environment (record environment { scorer = scorer })) (sym (is (sym ends.gives)))
        (Ran-all (record { events = calls_in inquiry; fault = Some (tells why) }) (Err told) environment (record environment { scorer = scorer })
        (HasDone-scorer environment scorer (calls_of inquiry.requests) ends.made asked.keeps)
        (elim says [ inl e ↦ inl (ap Err e) | inr e ↦ inr (ap Err e) ]))
    go (inl (inr fails)) =
        let has = HasDone-scorer environment scorer (calls_of (fails.done ++ fails.last ∷ [])) fails.made asked.keeps in
        let same : why ≡ fails.last.failed = (let e = fails.gives in cc) in
        let failed : tells why ≡ faults.failed_call fails.last.call =
        ap tells same ∙ failed-at faults tells fails.done fails.rest fails.last (subst (TellFailedCalls faults tells) fails.split told_calls) in record {
          halt = CallFailed fails.last.call;
          did = record {
            done = scores_of fails.done;
            rest = Score fails.last.call ∷ (scores_of fails.rest ++ more);
            split = split-at run inquiry.requests fails.done (fails.last ∷ fails.rest) more begins fails.split;
            halts = (scores_of fails.rest ++ more, refl, fails.faulted);
            all = subst (λ events. Done events environment (record environment { scorer = scorer })) (scores-append fails.done (fails.last ∷ [])) has.all;
          };
          fault = Some (faults.failed_call fails.last.call);
          is_fault = refl;
          answers = elim says [ inl e ↦ inl (ap Err (e ∙ failed)) | inr e ↦ inr (ap Err e) ];
          keeps = has.keeps;
        }
    go (inr stops) =
        let same : why ≡ memory = (let e = stops.gives in cc) in
        let none : told ≡ faults.memory = elim says [ inl e ↦ e ∙ ap tells same ∙ no_memory | inr e ↦ e ] in
        subst (λ fault. Ran faults run (Err fault) environment (record environment { scorer = scorer })) (sym none)
        (Ran-no_memory run (scores_of stops.done) (scores_of stops.rest ++ more) environment (record environment { scorer = scorer }) (split-at run inquiry.requests stops.done stops.rest more begins stops.split)
        (HasDone-scorer environment scorer (calls_of stops.done) stops.made asked.keeps))

-- a step that makes the calls of an inquiry, and then puts the lines that its outcome gives
module _ {A F G S : Type 0} {faults : HaltFaults F} (lines : Result A G → List (List ℕ)) (outcome : Result A G → Result S F) (memory : G) (inquiry : Inquiry A G) (left : S) (environment : Environment) (scorer : ScorerState) where
  -- it came to a fault
  pub Stepped-unasked : (tells : G → F) (why : G) (told : F) → lines (Err why) ≡ [] → outcome (Err why) ≡ Err (tells why) → tells memory ≡ faults.memory → TellFailedCalls faults tells inquiry.requests
      → Inquires memory inquiry (Err why) environment.scorer scorer → (told ≡ tells why) ⊎ (told ≡ faults.memory)
      → Stepped faults (λ step. step ≡ inquiry_step lines outcome inquiry) left (Err told) environment (record environment { scorer = scorer })
  Stepped-unasked tells why told none ends no_memory told_calls asked says = record {
    step = inquiry_step lines outcome inquiry;
    does = refl;
    ran = Ran-unasked tells memory inquiry why environment scorer (run_of (inquiry_step lines outcome inquiry)) (map Put (lines inquiry.outcome)) told told_calls no_memory
        (events-run_of (calls_in inquiry ++ map Put (lines inquiry.outcome)) (outcome inquiry.outcome))
        (λ e. ap (λ r. run_of (step_of (calls_in inquiry ++ map Put (lines r)) (outcome r))) e
        ∙ ap (λ last. run_of (step_of (calls_in inquiry ++ map Put last) (outcome (Err why)))) none
        ∙ ap (λ events. run_of (step_of events (outcome (Err why)))) (append-nil (calls_in inquiry))
        ∙ ap (λ o. run_of (step_of (calls_in inquiry) o)) ends) says asked;
    leaves = tt;
  }

  -- all calls were made, and then its lines were put, all or those before a fault
  pub Stepped-asked : (a : A) (result : Result (Unit {0}) F) (new : Environment) → outcome (Ok a) ≡ Ok left → Inquires memory inquiry (Ok a) environment.scorer scorer
      → Ran faults (lines_run (lines (Ok a))) result (record environment { scorer = scorer }) new
      → Stepped faults (λ step. step ≡ inquiry_step lines outcome inquiry) left result environment new
  Stepped-asked a result new ends asks puts = record {
    step = inquiry_step lines outcome inquiry;
    does = refl;
    ran = subst (λ r. Ran faults (run_of (step_of (calls_in inquiry ++ map Put (lines r)) (outcome r))) result environment new) (sym asked.given)
        (subst (λ o. Ran faults (run_of (step_of (calls_in inquiry ++ map Put (lines (Ok a))) o)) result environment new) (sym ends)
        (Ran-behind (calls_in inquiry) (lines_run (lines (Ok a))) result environment (record environment { scorer = scorer }) new asked.has puts));
    leaves = leaves result;
  } where
    asked : IsAsked inquiry a environment (record environment { scorer = scorer })
    asked = asked-ok memory inquiry a environment scorer asks

    leaves : (result : Result (Unit {0}) F) → IfOk result (λ done. outcome inquiry.outcome ≡ Ok left)
    leaves (Ok done) = ap outcome asked.given ∙ ends
    leaves (Err fault) = tt

-- Calls of a scorer in order, up to the first answer that is bad or the first call that fails. What makes an index, evaluates a
-- query or asks for the next row of a plan is an inquiry.
use Rattle.std.specs.Prelude.{◌≡◌, ◌⊎◌, List, [], ◌∷◌, ◌++◌, map, Result, Ok, Err, IsOk}
use Rattle.rs_value.specs.Outside.{Faulted}
use Rattle.rs_expr.specs.Scoring.{KeepsScorer, Made, ScorerState}
use Rattle.rs_expr.specs.declared.scorer.Call.{Call}

-- a call, and the fault that ends all where it fails
pub record Request (F : Type 0) : Type 0 where
  pub call : Call
  pub failed : F

-- the calls, in order, up to the first whose answer is bad, and what comes of their answers: a bad one is a fault
pub record Inquiry (A F : Type 0) : Type 0 where
  pub requests : List (Request F)
  pub outcome : Result A F

-- the calls of some requests
abbrev pub calls_of : {F : Type 0} → List (Request F) → List Call
calls_of requests = map (λ request. request.call) requests

-- all calls were made, and the result is the outcome
pub record InquiryEnds {A F : Type 0} (inquiry : Inquiry A F) (result : Result A F) (old new : ScorerState) : Type 0 where
  pub made : Made (calls_of inquiry.requests) old new
  pub gives : result ≡ inquiry.outcome

-- the last call that was made failed, and the result is its fault
pub record InquiryFails {A F : Type 0} (inquiry : Inquiry A F) (result : Result A F) (old new : ScorerState) : Type 0 where
  pub done : List (Request F)
  pub last : Request F
  pub rest : List (Request F)
  pub split : inquiry.requests ≡ done ++ last ∷ rest
  pub made : Made (calls_of (done ++ last ∷ [])) old new
  pub faulted : Faulted old.outside new.outside
  pub gives : result ≡ Err last.failed

-- there was no memory: for the next call, or, where all were made and no answer was bad, for what comes of them
pub record InquiryStops {A F : Type 0} (memory : F) (inquiry : Inquiry A F) (result : Result A F) (old new : ScorerState) : Type 0 where
  pub done : List (Request F)
  pub rest : List (Request F)
  pub split : inquiry.requests ≡ done ++ rest
  pub good : rest ≡ [] → IsOk inquiry.outcome
  pub made : Made (calls_of done) old new
  pub gives : result ≡ Err memory

-- what a call did that makes an inquiry, where this fault is want of memory
pub record Inquires {A F : Type 0} (memory : F) (inquiry : Inquiry A F) (result : Result A F) (old new : ScorerState) : Type 0 where
  pub comes : (InquiryEnds inquiry result old new ⊎ InquiryFails inquiry result old new) ⊎ InquiryStops memory inquiry result old new
  pub keeps : KeepsScorer old new

-- an inquiry, and then the one that its outcome leads to
abbrev pub and_then : {A B F : Type 0} → Inquiry A F → (A → Inquiry B F) → Inquiry B F
and_then {A} {B} {F} first next = of first.outcome where
  of : Result A F → Inquiry B F
  of (Ok a) = record { requests = first.requests ++ (next a).requests; outcome = (next a).outcome }
  of (Err fault) = record { requests = first.requests; outcome = Err fault }

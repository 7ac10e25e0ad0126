-- How far the events of a run were done, and what stopped them.
use Rattle.std.specs.Prelude.{ℕ, ◌≡◌, ⊤, List, [], ◌∷◌, ◌++◌, option_map}
use Rattle.rs_value.specs.Outside.{Faulted}
use Rattle.rs_outside.specs.Sink.{IsPrefix}
use Rattle.rs_expr.specs.Scoring.{Made}
use Rattle.rs_expr.specs.declared.scorer.Call.{Call}
use Rattle.rs_events.specs.Environment.{Environment}
use Rattle.rs_events.specs.Events.{Event, Fetch, Put, Score, calls, fetches, puts}

-- the names that were fetched, when these were fetched too
abbrev pub fetched_more : List (List ℕ) → List (List ℕ) → List (List ℕ)
fetched_more names told = told ++ names

-- these events were done, and no others: these names were fetched, these calls made, and these pieces put, each in this order
pub record Done (events : List Event) (old new : Environment) : Type 0 where
  pub fetched : new.files.outside.told ≡ option_map (fetched_more (fetches events)) old.files.outside.told
  pub called : Made (calls events) old.scorer new.scorer
  pub put : new.out.told ≡ option_map (λ pieces. pieces ++ puts events) old.out.told

-- why no more events were done: all were; there was no memory; a put failed when it had taken this part; a fetch failed; a call failed
pub data Halt : Type 0 where
  Ended : Halt
  NoMemory : Halt
  PutFailed : List ℕ → Halt
  FetchFailed : List ℕ → Halt
  CallFailed : Call → Halt

-- what the halt itself did: a put that failed put its part, and a fetch or a call that failed was one
abbrev pub halt_events : Halt → List Event
halt_events Ended = []
halt_events NoMemory = []
halt_events (PutFailed part) = Put part ∷ []
halt_events (FetchFailed name) = Fetch name ∷ []
halt_events (CallFailed call) = Score call ∷ []

-- the halt fits the events that were not done: there are none; there was no memory; or the first of them is the put
-- that failed and had taken a prefix of its bytes, the fetch that failed, or the call
abbrev pub HaltsAt : Halt → List Event → Environment → Environment → Type 0
HaltsAt Ended rest old new = rest ≡ []
HaltsAt NoMemory rest old new = ⊤
HaltsAt (PutFailed part) rest old new =
    (bytes : List ℕ) × (more : List Event) × (rest ≡ Put bytes ∷ more) × IsPrefix part bytes × Faulted old.out new.out
HaltsAt (FetchFailed name) rest old new = (more : List Event) × (rest ≡ Fetch name ∷ more) × Faulted old.files.outside new.files.outside
HaltsAt (CallFailed call) rest old new = (more : List Event) × (rest ≡ Score call ∷ more) × Faulted old.scorer.outside new.scorer.outside

-- which of these events were done: all, or those before a halt, with what the halt itself did; and no others
pub record Did (events : List Event) (halt : Halt) (old new : Environment) : Type 0 where
  pub done : List Event
  pub rest : List Event
  pub split : events ≡ done ++ rest
  pub halts : HaltsAt halt rest old new
  pub all : Done (done ++ halt_events halt) old new

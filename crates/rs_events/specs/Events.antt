-- What a run does, event by event.
use Rattle.std.specs.Prelude.{ℕ, List, [], ◌∷◌, map}
use Rattle.rs_expr.specs.InOrder.{Inquiry, calls_of}
use Rattle.rs_expr.specs.declared.scorer.Call.{Call}

-- a fetch of the file of this name, a call of the scorer, or a put of these bytes on standard output
pub data Event : Type 0 where
  Fetch : List ℕ → Event
  Score : Call → Event
  Put : List ℕ → Event

-- the names that are fetched, in order
abbrev pub fetches : List Event → List (List ℕ)
fetches [] = []
fetches (Fetch name ∷ rest) = name ∷ fetches rest
fetches (Score call ∷ rest) = fetches rest
fetches (Put bytes ∷ rest) = fetches rest

-- the calls of the scorer, in order
abbrev pub calls : List Event → List Call
calls [] = []
calls (Fetch name ∷ rest) = calls rest
calls (Score call ∷ rest) = call ∷ calls rest
calls (Put bytes ∷ rest) = calls rest

-- what is put, in order
abbrev pub puts : List Event → List (List ℕ)
puts [] = []
puts (Fetch name ∷ rest) = puts rest
puts (Score call ∷ rest) = puts rest
puts (Put bytes ∷ rest) = bytes ∷ puts rest

-- the calls of an inquiry, in order
abbrev pub calls_in : {A F : Type 0} → Inquiry A F → List Event
calls_in inquiry = map Score (calls_of inquiry.requests)

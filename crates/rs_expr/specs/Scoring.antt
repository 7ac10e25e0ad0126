-- Calls of a scorer.
use Rattle.std.specs.Prelude.{ℕ, ℤ, ◌≡◌, List, [], ◌∷◌, ◌++◌, option_map, Result, Ok, Err}
use Rattle.rs_value.specs.Faults.{raised}
use Rattle.rs_value.specs.Outside.{Keeps, Outside}
use Rattle.rs_value.specs.declared.value.Value.{Value}
use Rattle.rs_expr.specs.Predicates.{PredicateDef}
use Rattle.rs_expr.specs.declared.scorer.Call.{Call}
use Rattle.rs_expr.specs.declared.scorer.ScorerFault.{ScorerFault}
use Rattle.rs_expr.specs.declared.scorer.ScorerFault.TheVariants.{Failed, Memory}

-- what a scorer answers, for a predicate and arguments
abbrev pub Answering : Type 0
Answering = PredicateDef → List Value → ℤ

-- a scorer as contracts see it: what it answers, how many calls were made, which stands still at 2^64 - 1, and what it tells
-- of itself as any object of the outside, which are its calls
pub record ScorerState : Type 0 where
  pub answer : Answering
  pub calls : ℕ
  pub outside : Outside (List Call)

-- the call of a predicate with these arguments
abbrev pub call_of : PredicateDef → List Value → Call
call_of predicate args = record { predicate = predicate.name; args = args }

-- the calls after one more with this answer: each is added, save one for which there was no memory
abbrev pub calls_after : Call → Result ℤ ScorerFault → List Call → List Call
calls_after call (Ok score) calls = calls ++ call ∷ []
calls_after call (Err Failed) calls = calls ++ call ∷ []
calls_after call (Err Memory) calls = calls

-- the number of calls after one more with this answer
abbrev pub count_after : Result ℤ ScorerFault → ℕ → ℕ
count_after (Ok score) count = raised count
count_after (Err Failed) count = raised count
count_after (Err Memory) count = count

-- what a call answers, where the scorer has this answer for it
abbrev pub Answers : ℤ → Result ℤ ScorerFault → Type 0
Answers answer (Ok score) = score ≡ answer
Answers answer (Err fault) = Unit {0}

-- the number of calls after these
abbrev pub counted : List Call → ℕ → ℕ
counted [] count = count
counted (call ∷ calls) count = counted calls (raised count)

-- these calls were made, and no others: the told list grew by them, and the number by as many, standing still at 2^64 -
-- 1
pub record Made (calls : List Call) (old new : ScorerState) : Type 0 where
  pub told : new.outside.told ≡ option_map (λ told. told ++ calls) old.outside.told
  pub counted : new.calls ≡ counted calls old.calls

-- for as long as calls go on, a scorer's answers stay, its count of faults never falls, and what is steady stays so
pub record KeepsScorer (old new : ScorerState) : Type 0 where
  pub answer : new.answer ≡ old.answer
  pub outside : Keeps old.outside new.outside

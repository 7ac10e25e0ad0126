-- Calls of a scorer, one after another.
use Rattle.std.proofs.Common.{ℕ, ◌≡◌, ◌∙◌, ◌++◌, List, [], ◌∷◌, refl, sym, ap, append_assoc, append-nil}
use Rattle.std.specs.Prelude.{ℤ, Option, Some, None, option_map, Result, Ok, Err}
use Rattle.rs_value.specs.Faults.{raised}
use Rattle.rs_value.specs.Outside.{Counts}
use Rattle.rs_value.proofs.OutsideFacts.{Keeps-refl, Keeps-then}
use Rattle.rs_expr.specs.Scoring.{KeepsScorer, Made, ScorerState, calls_after, count_after, counted}
use Rattle.rs_expr.specs.declared.scorer.Call.{Call}
use Rattle.rs_expr.specs.declared.scorer.ScorerFault.{ScorerFault}
use Rattle.rs_expr.specs.declared.scorer.ScorerFault.TheVariants.{Failed, Memory}

-- what is told stays as it is when no call is made
told-none : (told : Option (List Call)) → told ≡ option_map (λ calls. calls ++ []) told
told-none None = refl
told-none (Some calls) = ap Some (sym (append-nil calls))

-- calls that are told behind others
told-more : (first more : List Call) (told : Option (List Call)) → option_map (λ calls. calls ++ more) (option_map (λ calls. calls ++ first) told) ≡ option_map (λ calls. calls ++ (first ++ more)) told
told-more first more None = refl
told-more first more (Some calls) = ap Some (append_assoc calls first more)

-- the number of calls after some calls, and others behind them
counted-append : (first more : List Call) (count : ℕ) → counted (first ++ more) count ≡ counted more (counted first count)
counted-append [] more count = refl
counted-append (call ∷ first) more count = counted-append first more (raised count)

-- no call was made of a scorer that is as it was
pub Made-none : (scorer : ScorerState) → Made [] scorer scorer
Made-none scorer = record { told = told-none scorer.outside.told; counted = refl }

-- calls, and others behind them
pub Made-append : (first more : List Call) (old middle new : ScorerState) → Made first old middle → Made more middle new → Made (first ++ more) old new
Made-append first more old middle new one two = record {
  told = two.told ∙ ap (option_map (λ calls. calls ++ more)) one.told ∙ told-more first more old.outside.told;
  counted = two.counted ∙ ap (counted more) one.counted ∙ sym (counted-append first more old.calls);
}

-- a scorer that isn't called
pub KeepsScorer-refl : (scorer : ScorerState) → KeepsScorer scorer scorer
KeepsScorer-refl scorer = record { answer = refl; outside = Keeps-refl scorer.outside }

-- calls, and others behind them
pub KeepsScorer-then : (old middle new : ScorerState) → KeepsScorer old middle → KeepsScorer middle new → KeepsScorer old new
KeepsScorer-then old middle new one two = record {
  answer = two.answer ∙ one.answer;
  outside = Keeps-then old.outside middle.outside new.outside one.outside two.outside;
}

-- what the clauses of one call say
pub record Scored (call : Call) (result : Result ℤ ScorerFault) (old new : ScorerState) : Type 0 where
  pub same : new.answer ≡ old.answer
  pub told : new.outside.told ≡ option_map (calls_after call result) old.outside.told
  pub calls : new.calls ≡ count_after result old.calls
  pub counts : Counts (result ≡ Err Failed) old.outside new.outside

-- one call, whatever it answers
pub KeepsScorer-one : (call : Call) (result : Result ℤ ScorerFault) (old new : ScorerState) → Scored call result old new → KeepsScorer old new
KeepsScorer-one call result old new scored = record { answer = scored.same; outside = scored.counts.keeps }

-- one call that was answered, one that failed, and one for which there was no memory
pub Made-ok : (call : Call) (score : ℤ) (old new : ScorerState) → Scored call (Ok score) old new → Made (call ∷ []) old new
Made-ok call score old new scored = record { told = scored.told; counted = scored.calls }

pub Made-failed : (call : Call) (old new : ScorerState) → Scored call (Err Failed) old new → Made (call ∷ []) old new
Made-failed call old new scored = record { told = scored.told; counted = scored.calls }

pub Made-stopped : (call : Call) (old new : ScorerState) → Scored call (Err Memory) old new → Made [] old new
Made-stopped call old new scored = record { told = scored.told ∙ unchanged old.outside.told; counted = scored.calls } where
  unchanged : (told : Option (List Call)) → option_map (calls_after call (Err Memory)) told ≡ option_map (λ calls. calls ++ []) told
  unchanged None = refl
  unchanged (Some calls) = ap Some (sym (append-nil calls))

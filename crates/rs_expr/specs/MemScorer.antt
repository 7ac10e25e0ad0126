-- A scorer in memory: what it holds, and what each call does to it.
use Rattle.std.specs.Prelude.{ℕ, ℤ, ◌+◌, ◌==◌, ◌&&◌, Bool, List, [], ◌∷◌, ◌++◌, length, find, Option, Some, option_map, unwrap_or, Result, Ok, Err, if◌then◌else◌}
use Rattle.std.specs.List.{list_any}
use Rattle.std.specs.Str.{bytes_eq}
use Rattle.std.specs.Cmp.Lexicographic.{pointwise}
use Rattle.rs_value.specs.Faults.{raised}
use Rattle.rs_value.specs.declared.value.Value.{Value}
use Rattle.rs_value.specs.contracts.value.ValuePartialEq.TheImpl as value
use Rattle.rs_expr.specs.Meaning.{value_of}
use Rattle.rs_expr.specs.Predicates.{PredicateDef}
use Rattle.rs_expr.specs.Scoring.{ScorerState, call_of, calls_after, count_after}
use Rattle.rs_expr.specs.declared.scorer.Call.{Call}
use Rattle.rs_expr.specs.declared.scorer.ScorerFault.{ScorerFault}
use Rattle.rs_expr.specs.declared.scorer.ScorerFault.TheVariants.{Failed, Memory}
use Rattle.rs_expr.specs.declared.mem_scorer.WrittenScore.{WrittenScore}

-- the written scores, the calls so far, how many they were, the numbers of the calls that are to fail, and how many failed
pub record MemScorerState : Type 0 where
  pub written : List WrittenScore
  pub calls : List Call
  pub count : ℕ
  pub failing : List ℕ
  pub faults : ℕ

-- nothing written, no call yet, no failure planned
abbrev pub no_scores : MemScorerState
no_scores = record { written = []; calls = []; count = 0; failing = []; faults = 0 }

-- two calls of one predicate with equal arguments; values are equal as `==` says
abbrev pub is_same_call : Call → Call → Bool
is_same_call a b = bytes_eq a.predicate b.predicate && pointwise value.ghosts.eq a.args b.args

-- the score that is written for a call
abbrev pub written_for : Call → List WrittenScore → Option ℤ
written_for call written = option_map (λ entry. entry.score) (find (λ entry. is_same_call entry.call call) written)

-- the written scores with this one for a call: in place of the one that is there, or else as a last one
abbrev pub with_score : Call → ℤ → List WrittenScore → List WrittenScore
with_score call score [] = record { call = call; score = score } ∷ []
with_score call score (entry ∷ rest) =
    if is_same_call entry.call call then record entry { score = score } ∷ rest else entry ∷ with_score call score rest

-- the state with this score written for a call
abbrev pub after_set : Call → ℤ → MemScorerState → MemScorerState
after_set call score state = record state { written = with_score call score state.written }

-- the state with one more call that is to fail
abbrev pub after_fail_at : ℕ → MemScorerState → MemScorerState
after_fail_at call state = record state { failing = state.failing ++ call ∷ [] }

-- the next call is to fail: its place among the calls, counted from 1, is planned
abbrev pub is_call_planned : MemScorerState → Bool
is_call_planned state = list_any (λ call. call == length state.calls + 1) state.failing

-- the score of a predicate for these arguments: the one that is written, or else the formula's value
abbrev pub answered_score : MemScorerState → PredicateDef → List Value → ℤ
answered_score state predicate args = unwrap_or (written_for (call_of predicate args) state.written) (value_of predicate.formula args)

-- what a call answers, where there is memory: a fault where that is planned, the written score, or else the value of
-- the formula
abbrev pub score_answer : PredicateDef → List Value → MemScorerState → Result ℤ ScorerFault
score_answer predicate args state = if is_call_planned state then Err Failed else Ok (answered_score state predicate args)

-- the count of faults after a call with this answer
abbrev pub faults_after : Result ℤ ScorerFault → ℕ → ℕ
faults_after (Ok score) count = count
faults_after (Err Failed) count = raised count
faults_after (Err Memory) count = count

-- the state after a call with this answer
abbrev pub after_score : Call → Result ℤ ScorerFault → MemScorerState → MemScorerState
after_score call result state = record state {
  calls = calls_after call result state.calls;
  count = count_after result state.count;
  faults = faults_after result state.faults;
}

-- what contracts see of a scorer in memory: it tells its calls, and is steady where no call is to fail
abbrev pub scorer_state : MemScorerState → ScorerState
scorer_state state = record {
  answer = answered_score state;
  calls = state.count;
  outside = record { told = Some state.calls; faults = state.faults; steady = length state.failing == 0 };
}

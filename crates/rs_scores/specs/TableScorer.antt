-- A scorer over a table of known scores: what it holds, and what each call does to it.
use Rattle.std.specs.Prelude.{ℕ, ℤ, ◌≡◌, false, List, [], ◌∷◌, Option, Some, None, Result, Ok, Err, if◌then◌else◌}
use Rattle.rs_value.specs.declared.value.Value.{Value}
use Rattle.rs_expr.specs.Meaning.{value_of}
use Rattle.rs_expr.specs.MemScorer.{faults_after}
use Rattle.rs_expr.specs.Predicates.{PredicateDef}
use Rattle.rs_expr.specs.Scoring.{ScorerState, call_of, calls_after, count_after}
use Rattle.rs_expr.specs.declared.scorer.Call.{Call}
use Rattle.rs_expr.specs.declared.scorer.ScorerFault.{ScorerFault}
use Rattle.rs_expr.specs.declared.scorer.ScorerFault.TheVariants.{Failed, Memory}
use Rattle.rs_scores.specs.Known.{Known, is_asked, score_of}
use Rattle.rs_scores.specs.Questions.{question_of}
use Rattle.rs_scores.specs.declared.table_scorer.Answer.{Answer}
use Rattle.rs_scores.specs.declared.table_scorer.Answer.TheVariants.{Score, Missing}

-- what is known, the calls so far, how many they were, the question of the last one where it failed, the greatest score of its predicate, and how many failed
pub record TableScorerState : Type 0 where
  pub known : Known
  pub calls : List Call
  pub count : ℕ
  pub missing : Option (List (List ℕ))
  pub most : ℕ
  pub faults : ℕ

-- no call yet
abbrev pub new_scorer : Known → TableScorerState
new_scorer known = record { known = known; calls = []; count = 0; missing = None; most = 0; faults = 0 }

-- what is answered for a question whose score is this, where it is known
abbrev pub or_missing : List (List ℕ) → Option ℤ → Answer
or_missing question (Some score) = Score score
or_missing question None = Missing question

-- what is answered for a call: of a predicate that is asked for its known score, or that it is missing; of another one the value of its formula
abbrev pub answer_of : Known → PredicateDef → List Value → Answer
answer_of known predicate args =
    if is_asked known.names predicate.name then or_missing (question_of (call_of predicate args)) (score_of (question_of (call_of predicate args)) known)
    else Score (value_of predicate.formula args)

-- what a call answers, where there is memory
abbrev pub score_answer : Answer → Result ℤ ScorerFault
score_answer (Score score) = Ok score
score_answer (Missing question) = Err Failed

-- the score of a predicate for these arguments; where it is missing, the formula's value stands for it, which is never answered
abbrev pub answered_score : Known → PredicateDef → List Value → ℤ
answered_score known predicate args = or_else (answer_of known predicate args) where
  or_else : Answer → ℤ
  or_else (Score score) = score
  or_else (Missing question) = value_of predicate.formula args

-- the question of the last call after one more with this answer
abbrev pub missing_after : Call → Result ℤ ScorerFault → Option (List (List ℕ)) → Option (List (List ℕ))
missing_after call (Ok score) missing = None
missing_after call (Err Failed) missing = Some (question_of call)
missing_after call (Err Memory) missing = missing

-- the greatest score of the predicate of the last call after one more with this answer
abbrev pub most_after : ℕ → Result ℤ ScorerFault → ℕ → ℕ
most_after max (Ok score) most = max
most_after max (Err Failed) most = max
most_after max (Err Memory) most = most

-- the state after a call, of a predicate with this greatest score, with this answer
abbrev pub after_score : Call → ℕ → Result ℤ ScorerFault → TableScorerState → TableScorerState
after_score call max result state = record {
  known = state.known;
  calls = calls_after call result state.calls;
  count = count_after result state.count;
  missing = missing_after call result state.missing;
  most = most_after max result state.most;
  faults = faults_after result state.faults;
}

-- the question of a call, where its score is asked for and isn't known
abbrev pub missing_for : Known → Call → Option (List (List ℕ))
missing_for known call = if is_asked known.names call.predicate then unless_known (score_of (question_of call) known) else None where
  unless_known : Option ℤ → Option (List (List ℕ))
  unless_known (Some score) = None
  unless_known None = Some (question_of call)

-- the question of the last of some calls, where its score is asked for and isn't known
abbrev pub missing_last : Known → List Call → Option (List (List ℕ))
missing_last known [] = None
missing_last known (call ∷ []) = missing_for known call
missing_last known (call ∷ next ∷ rest) = missing_last known (next ∷ rest)

-- what holds of each scorer over a table: what it says is missing is the question of its last call, whose score isn't known
pub record IsTableScorer (state : TableScorerState) : Type 0 where
  pub missing : state.missing ≡ missing_last state.known state.calls

-- what contracts see of it: it tells its calls, and may fail
abbrev pub table_state : TableScorerState → ScorerState
table_state state = record {
  answer = answered_score state.known;
  calls = state.count;
  outside = record { told = Some state.calls; faults = state.faults; steady = false };
}

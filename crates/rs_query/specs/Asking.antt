-- One question to the scorer, for the functions that ask it.
use Rattle.std.specs.Prelude.{ℕ, ℤ, [], ◌∷◌, Result, Ok, Err, ok_or}
use Rattle.rs_rank.specs.Ids.{ids_inside}
use Rattle.rs_rank.specs.declared.ids.Ids.{Ids}
use Rattle.rs_expr.specs.InOrder.{Inquiry}
use Rattle.rs_expr.specs.Scores.{score_within}
use Rattle.rs_expr.specs.Scoring.{Answering}
use Rattle.rs_catalog.specs.Catalog.{CatalogDef}
use Rattle.rs_query.specs.Answers.{worth_of}
use Rattle.rs_query.specs.Questions.{Faults, asking, question_of}
use Rattle.rs_query.specs.declared.ask.AskFault.{AskFault}
use Rattle.rs_query.specs.declared.ask.AskFault.TheVariants.{BadScore, Probe}
use Rattle.rs_query.specs.declared.block.Block.{Block}
use Rattle.rs_query.specs.declared.term.Term.{Term}

module _ {F : Type 0} (faults : Faults F) where
  -- a number that the scorer answered to a term for these rows, as a worth where it is one
  abbrev pub worth_for : Term → Ids → ℕ → ℤ → Result ℕ F
  worth_for term ids max got = ok_or (score_within max got) (faults.bad term.predicate (ids_inside ids.block term.entries ids.rows) got max)

  -- the question of a term for these rows, and what the term is worth on them
  abbrev pub asking_worth : Answering → CatalogDef → Block → Ids → Term → Inquiry ℕ F
  asking_worth answer catalogue block ids term =
      asking faults answer catalogue (question_of ids.block block ids.rows term ∷ []) (worth_of answer catalogue block ids.rows term)

-- what is told of a question, in the words of a caller's own faults
abbrev pub faults_by : {F : Type 0} → (AskFault → F) → Faults F
faults_by told = record {
  failed = λ predicate. told (Probe predicate);
  bad = λ predicate ids got max. told (BadScore predicate ids got max);
}

abbrev pub ask_faults : Faults AskFault
ask_faults = faults_by (λ fault. fault)

-- a result with its fault in these words
abbrev pub told_by : {A F : Type 0} → (AskFault → F) → Result A AskFault → Result A F
told_by told (Ok value) = Ok value
told_by told (Err fault) = Err (told fault)

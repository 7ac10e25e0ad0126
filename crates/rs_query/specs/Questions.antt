-- Questions to the scorer: terms for rows, asked in order, up to the first number that is no score.
use Rattle.std.specs.Prelude.{ℕ, ℤ, not, Bool, List, [], ◌∷◌, map, Option, Some, None, Result, Ok, Err, if◌then◌else◌}
use Rattle.rs_rank.specs.Ids.{ids_inside}
use Rattle.rs_rank.specs.declared.ids.Ids.{Ids}
use Rattle.rs_expr.specs.InOrder.{Inquiry, Request}
use Rattle.rs_expr.specs.Scores.{is_score}
use Rattle.rs_expr.specs.Scoring.{Answering, call_of}
use Rattle.rs_expr.specs.declared.scorer.Call.{Call}
use Rattle.rs_catalog.specs.Catalog.{CatalogDef}
use Rattle.rs_query.specs.Answers.{scorer_answer, predicate_at}
use Rattle.rs_query.specs.Meaning.{argument_values}
use Rattle.rs_query.specs.declared.block.Block.{Block}
use Rattle.rs_query.specs.declared.term.Term.{Term}

-- a question: a term of the block of this number, for these rows
pub record Question : Type 0 where
  pub number : ℕ
  pub block : Block
  pub rows : List ℕ
  pub term : Term

-- the question of a term for these rows
abbrev pub question_of : ℕ → Block → List ℕ → Term → Question
question_of number block rows term = record { number = number; block = block; rows = rows; term = term }

-- a question as a call
abbrev pub call_for : CatalogDef → Question → Call
call_for catalogue q = call_of (predicate_at catalogue q.term.predicate) (argument_values catalogue q.block q.rows q.term)

-- the number that the scorer answers to a question, and the greatest score that it may be
abbrev pub got_for : Answering → CatalogDef → Question → ℤ
got_for answer catalogue q = scorer_answer answer catalogue q.block q.rows q.term

abbrev pub max_for : CatalogDef → Question → ℕ
max_for catalogue q = (predicate_at catalogue q.term.predicate).max

-- the number is no score
abbrev pub is_bad : Answering → CatalogDef → Question → Bool
is_bad answer catalogue q = not (is_score (max_for catalogue q) (got_for answer catalogue q))

-- the ids of the rows of its term's entries
abbrev pub ids_for : Question → Ids
ids_for q = ids_inside q.number q.term.entries q.rows

-- the items up to the first one of which something is so, that one too
abbrev pub through_first : {A : Type 0} → (A → Bool) → List A → List A
through_first is [] = []
through_first is (x ∷ xs) = x ∷ (if is x then [] else through_first is xs)

-- the first item of which something is so
abbrev pub first_of : {A : Type 0} → (A → Bool) → List A → Option A
first_of is [] = None
first_of is (x ∷ xs) = if is x then Some x else first_of is xs

-- what is told of a question that ends all: of one whose call failed, the predicate; of one whose number is no score, the
-- predicate, the rows of the term's entries, the number, and the greatest score
pub record Faults (F : Type 0) : Type 0 where
  pub failed : ℕ → F
  pub bad : ℕ → Ids → ℤ → ℕ → F

module _ {F : Type 0} (faults : Faults F) where
  -- a question as a request
  abbrev pub request_for : CatalogDef → Question → Request F
  request_for catalogue q = record { call = call_for catalogue q; failed = faults.failed q.term.predicate }

  abbrev pub bad_score : Answering → CatalogDef → Question → F
  bad_score answer catalogue q = faults.bad q.term.predicate (ids_for q) (got_for answer catalogue q) (max_for catalogue q)

  -- what is given where this question has the first bad number, or where there is none
  abbrev pub outcome_for : {A : Type 0} → Answering → CatalogDef → Option Question → A → Result A F
  outcome_for answer catalogue None value = Ok value
  outcome_for answer catalogue (Some q) value = Err (bad_score answer catalogue q)

  -- questions are asked in order, up to the first bad number; where there is none, this value is given
  abbrev pub asking : {A : Type 0} → Answering → CatalogDef → List Question → A → Inquiry A F
  asking answer catalogue questions value = record {
    requests = map (request_for catalogue) (through_first (is_bad answer catalogue) questions);
    outcome = outcome_for answer catalogue (first_of (is_bad answer catalogue) questions) value;
  }

-- What one question gives.
use Rattle.std.proofs.Common.{ℕ, ℤ, ◌≡◌, ◌∙◌, Bool, true, false, List, pos, negsuc, refl, sym, ap, subst, arith}
use Rattle.std.specs.Prelude.{Some, Result, Ok, Err, slice_get}
use Rattle.std.proofs.lemmas.Bool.{leb-true}
use Rattle.rs_value.specs.declared.value.Value.{Value}
use Rattle.rs_rank.specs.declared.ids.Ids.{Ids}
use Rattle.rs_expr.specs.InOrder.{Inquires, Inquiry}
use Rattle.rs_expr.specs.Predicates.{PredicateDef}
use Rattle.rs_expr.specs.Scores.{is_score, as_score}
use Rattle.rs_expr.specs.Scoring.{Answering, ScorerState, call_of}
use Rattle.rs_expr.specs.declared.scorer.ScorerFault.{ScorerFault}
use Rattle.rs_expr.specs.declared.scorer.ScorerFault.TheVariants as call_fault
use Rattle.rs_expr.proofs.InOrderFacts.{Inquires-failed, Inquires-one, Inquires-stopped, Inquires-uncalled, one}
use Rattle.rs_expr.proofs.ScoringFacts.{Scored}
use Rattle.rs_catalog.specs.Catalog.{CatalogDef}
use Rattle.rs_query.specs.Answers.{clamped, predicate_at}
use Rattle.rs_query.specs.Meaning.{argument_values}
use Rattle.rs_query.specs.declared.block.Block.{Block}
use Rattle.rs_query.specs.declared.term.Term.{Term}
use Rattle.rs_query.specs.Asking.{asking_worth, worth_for}
use Rattle.rs_query.specs.Questions.{Faults, Question, got_for, max_for, question_of, request_for}

-- a score is the worth
pub clamped-score : (max : ℕ) (got : ℤ) → is_score max got ≡ true → as_score got ≡ clamped max got
clamped-score max (pos n) score = omega (arith, leb-true n max score)
clamped-score max (negsuc n) score = cc

-- the predicate of a number is the one that the catalogue has there
pub predicate_at-is : (catalogue : CatalogDef) (number : ℕ) (predicate : PredicateDef) → slice_get catalogue.predicates number ≡ Some predicate → predicate_at catalogue number ≡ predicate
predicate_at-is catalogue number predicate has = rw has refl

module _ {F : Type 0} (faults : Faults F) (memory : F) where
  module _ (catalogue : CatalogDef) (block : Block) (ids : Ids) (term : Term) where
    abbrev question : Question
    question = question_of ids.block block ids.rows term

    -- what the answer to it gives
    abbrev worth : Answering → Result ℕ F
    worth answer = worth_for faults term ids (max_for catalogue question) (got_for answer catalogue question)

    abbrev inquiry : Answering → Inquiry ℕ F
    inquiry answer = asking_worth faults answer catalogue block ids term

    -- it is one request
    pub inquiry-is : (answer : Answering) → inquiry answer ≡ one (request_for faults catalogue question) (worth answer)
    inquiry-is answer = go (is_score (max_for catalogue question) (got_for answer catalogue question)) refl where
      go : (b : Bool) → is_score (max_for catalogue question) (got_for answer catalogue question) ≡ b → inquiry answer ≡ one (request_for faults catalogue question) (worth answer)
      go true score = rw score (ap (λ w. one (request_for faults catalogue question) (Ok w)) (sym (clamped-score (max_for catalogue question) (got_for answer catalogue question) score)))
      go false bad = rw bad refl

    -- there was no memory before the call
    pub Inquires-no_call : (scorer : ScorerState) → Inquires memory (inquiry scorer.answer) (Err memory) scorer scorer
    Inquires-no_call scorer =
        subst (λ i. Inquires memory i (Err memory) scorer scorer) (sym (inquiry-is scorer.answer))
        (Inquires-uncalled memory (request_for faults catalogue question) (worth scorer.answer) scorer)

    -- a call of this predicate with these arguments
    module _ (old new : ScorerState) (predicate : PredicateDef) (args : List Value) (has : slice_get catalogue.predicates term.predicate ≡ Some predicate)
        (is_args : args ≡ argument_values catalogue block ids.rows term) where
      scored-is : (answer : Result ℤ ScorerFault) → Scored (call_of predicate args) answer old new → Scored (request_for faults catalogue question).call answer old new
      scored-is answer scored =
          subst (λ call. Scored call answer old new)
          (ap (λ p. call_of p args) (sym (predicate_at-is catalogue term.predicate predicate has)) ∙ ap (call_of (predicate_at catalogue term.predicate)) is_args) scored

      -- it was answered
      pub Inquires-got : (max : ℕ) (got : ℤ) (result : Result ℕ F) → max ≡ predicate.max → got ≡ old.answer predicate args
          → result ≡ worth_for faults term ids max got → Scored (call_of predicate args) (Ok got) old new → Inquires memory (inquiry old.answer) result old new
      Inquires-got max got result is_max is_got is scored =
          let at = predicate_at-is catalogue term.predicate predicate has in
          let answered : got ≡ got_for old.answer catalogue question = is_got ∙ ap (λ p. old.answer p args) (sym at) ∙ ap (old.answer (predicate_at catalogue term.predicate)) is_args in
          let greatest : max ≡ max_for catalogue question = is_max ∙ ap (λ (p : PredicateDef). p.max) (sym at) in
          let gives : result ≡ worth old.answer =
          is ∙ ap (worth_for faults term ids max) answered ∙ ap (λ m. worth_for faults term ids m (got_for old.answer catalogue question)) greatest in
          subst (λ i. Inquires memory i result old new) (sym (inquiry-is old.answer))
          (subst (λ r. Inquires memory (one (request_for faults catalogue question) (worth old.answer)) r old new) (sym gives)
          (Inquires-one memory (request_for faults catalogue question) (worth old.answer) got old new (scored-is (Ok got) scored)))

      -- it failed
      pub Inquires-refused : Scored (call_of predicate args) (Err call_fault.Failed) old new → Inquires memory (inquiry old.answer) (Err (faults.failed term.predicate)) old new
      Inquires-refused scored =
          subst (λ i. Inquires memory i (Err (faults.failed term.predicate)) old new) (sym (inquiry-is old.answer))
          (Inquires-failed memory (request_for faults catalogue question) (worth old.answer) old new (scored-is (Err call_fault.Failed) scored))

      -- there was no memory for it
      pub Inquires-no_memory : Scored (call_of predicate args) (Err call_fault.Memory) old new → Inquires memory (inquiry old.answer) (Err memory) old new
      Inquires-no_memory scored =
          subst (λ i. Inquires memory i (Err memory) old new) (sym (inquiry-is old.answer))
          (Inquires-stopped memory (request_for faults catalogue question) (worth old.answer) old new (scored-is (Err call_fault.Memory) scored))

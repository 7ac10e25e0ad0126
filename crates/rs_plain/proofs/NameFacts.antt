-- The predicates that the faults of a query name are those of its terms, and stand in the catalogue.
use Rattle.std.proofs.Common.{ℕ, ◌≡◌, ◌<◌, List, [], ◌∷◌, length, refl, sym, subst, inl, inr}
use Rattle.std.specs.Prelude.{◌⊎◌, Option, Some, None, Result, Ok, Err, IfErr}
use Rattle.std.specs.List.{AllByRecursion, flat_map}
use Rattle.std.specs.declared.alloc.Global.{Global}
use Rattle.std.specs.declared.vec.Vec.{Vec}
use Rattle.std.proofs.lemmas.Option.{slice_get_within}
use Rattle.rs_order.specs.Climbing.{In}
use Rattle.rs_order.proofs.EachFacts.{each-append, each-behind, each-map, each-weaker}
use Rattle.rs_order.proofs.ItemFacts.{In-left, In-right}
use Rattle.rs_rank.specs.declared.answer.Answer.{Answer}
use Rattle.rs_expr.specs.InOrder.{InquiryEnds, InquiryFails, Inquires, Request, InquiryStops}
use Rattle.rs_expr.specs.Scoring.{Answering, ScorerState}
use Rattle.rs_catalog.specs.Catalog.{CatalogDef}
use Rattle.rs_query.specs.Combinations.{combinations}
use Rattle.rs_query.specs.Tables.{all_entries}
use Rattle.rs_query.specs.Views.{View}
use Rattle.rs_query.specs.WellFormed.{IsBlock, IsQuery, IsTerm}
use Rattle.rs_query.specs.declared.block.Block.{Block}
use Rattle.rs_query.specs.declared.query.Query.{Query}
use Rattle.rs_query.specs.declared.query.Query.TheVariants.{One, Set}
use Rattle.rs_query.specs.declared.term.Term.{Term}
use Rattle.rs_query.specs.Questions.{Question, asking, bad_score, first_of, is_bad, outcome_for, question_of, request_for, through_first}
use Rattle.rs_plain.specs.Plain.{block_questions, plain_faults, questions_of, row_questions}
use Rattle.rs_plain.specs.Results.{IsCalled, NamesCalled, as_list, terms_of}
use Rattle.rs_plain.specs.declared.fault.PlainFault.{PlainFault}
use Rattle.rs_plain.specs.declared.fault.PlainFault.TheVariants.{Memory}
use Rattle.rs_query.proofs.ThroughFacts.{each-first, each-through}

-- what holds of each item that a list gives holds of those of all together
pub each-flat_map : {X Y : Type 0} (P : Y → Type 0) (f : X → List Y) (xs : List X) → ((x : X) → AllByRecursion P (f x)) → AllByRecursion P (flat_map f xs)
each-flat_map P f [] h = tt
each-flat_map P f (x ∷ xs) h = each-append P (f x) (flat_map f xs) (h x) (each-flat_map P f xs h)

module _ (catalogue : CatalogDef) (query : Query) where
  abbrev CallsIt : Term → Type 0
  CallsIt term = IsCalled catalogue query term.predicate

  abbrev pub AsksIt : Question → Type 0
  AsksIt question = IsCalled catalogue query question.term.predicate

  abbrev Tells : Request PlainFault → Type 0
  Tells request = NamesCalled catalogue query request.failed

  terms-called : (terms : List Term) → ((term : Term) → In term terms → In term (terms_of query)) → AllByRecursion (λ (t : Term). t.predicate < length catalogue.predicates) terms
      → AllByRecursion CallsIt terms
  terms-called [] among h = tt
  terms-called (term ∷ terms) among h = (
    record { term = term; is_term = among term (inl refl); is_its = refl; within = h.0 },
    terms-called terms (λ other i. among other (inr i)) h.1,
  )

  pub block-called : (block : Block) → IsBlock catalogue block → ((term : Term) → In term block.terms → In term (terms_of query)) → AllByRecursion CallsIt block.terms
  block-called block formed among =
      terms-called block.terms among
      (each-weaker (IsTerm catalogue block) (λ (t : Term). t.predicate < length catalogue.predicates)
      (λ t is. slice_get_within catalogue.predicates t.predicate is.predicate is.has_predicate) block.terms formed.terms)

  questions-called : (number : ℕ) (block : Block) (sizes : List ℕ) → IsBlock catalogue block → ((term : Term) → In term block.terms → In term (terms_of query))
      → AllByRecursion AsksIt (block_questions catalogue number block sizes)
  questions-called number block sizes formed among =
      each-flat_map AsksIt (row_questions number block) (combinations catalogue block sizes (all_entries block))
      (λ rows. each-map AsksIt (question_of number block rows) block.terms (block-called block formed among))

  -- a bad answer
  ended-named : {A : Type 0} (answer : Answering) (questions : List Question) (value : A) (fault : PlainFault) (found : Option Question) → AllByRecursion AsksIt questions
      → first_of (is_bad answer catalogue) questions ≡ found → Err fault ≡ outcome_for plain_faults answer catalogue found value → NamesCalled catalogue query fault
  ended-named answer questions value fault None each first e = absurd (cc)
  ended-named answer questions value fault (Some q) each first e =
      let same : fault ≡ bad_score plain_faults answer catalogue q = cc in
      subst (NamesCalled catalogue query) (sym same) (each-first (is_bad answer catalogue) AsksIt questions q each first)

  -- any fault
  pub comes-named : {A : Type 0} (answer : Answering) (questions : List Question) (value : A) (fault : PlainFault) (old new : ScorerState) → AllByRecursion AsksIt questions
      → (InquiryEnds (asking plain_faults answer catalogue questions value) (Err fault) old new ⊎ InquiryFails (asking plain_faults answer catalogue questions value) (Err fault) old new)
      ⊎ InquiryStops Memory (asking plain_faults answer catalogue questions value) (Err fault) old new
      → NamesCalled catalogue query fault
  comes-named answer questions value fault old new each (inl (inl ends)) =
      ended-named answer questions value fault (first_of (is_bad answer catalogue) questions) each refl ends.gives
  comes-named answer questions value fault old new each (inl (inr fails)) =
      let is : fault ≡ fails.last.failed = (let e = fails.gives in cc) in
      let requests = each-map Tells (request_for plain_faults catalogue) (through_first (is_bad answer catalogue) questions) (each-through (is_bad answer catalogue) AsksIt questions each) in
      subst (NamesCalled catalogue query) (sym is)
      (each-behind Tells fails.done (fails.last ∷ fails.rest) (subst (AllByRecursion Tells) fails.split requests)).0
  comes-named answer questions value fault old new each (inr stops) =
      let is : fault ≡ Memory = (let e = stops.gives in cc) in
      subst (NamesCalled catalogue query) (sym is) tt

-- each question of a query
query-called : (catalogue : CatalogDef) (query : Query) (view : View) → IsQuery catalogue query → AllByRecursion (AsksIt catalogue query) (questions_of catalogue query view)
query-called catalogue (One block limit) view formed = questions-called catalogue (One block limit) 1 block view.first formed.0 (λ term i. i)
query-called catalogue (Set op left right limit) view formed =
    each-append (AsksIt catalogue (Set op left right limit)) (block_questions catalogue 1 left view.first) (block_questions catalogue 2 right view.second)
    (questions-called catalogue (Set op left right limit) 1 left view.first formed.0.left_block (λ term i. In-left term left.terms right.terms i))
    (questions-called catalogue (Set op left right limit) 2 right view.second formed.0.right_block (λ term i. In-right term left.terms right.terms i))

pub named-err : {A : Type 0} (catalogue : CatalogDef) (query : Query) (view : View) (value : A) (result : Result (Vec Answer Global) PlainFault) (fault : PlainFault) (old new : ScorerState)
    → IsQuery catalogue query → Inquires Memory (asking plain_faults old.answer catalogue (questions_of catalogue query view) value) (Err fault) old new
    → result ≡ Err fault → IfErr result (NamesCalled catalogue query)
named-err catalogue query view value result fault old new formed inquired is =
    subst (λ r. IfErr r (NamesCalled catalogue query)) (sym is)
    (comes-named catalogue query old.answer (questions_of catalogue query view) value fault old new (query-called catalogue query view formed) inquired.comes)

pub named-memory : (catalogue : CatalogDef) (query : Query) (result : Result (Vec Answer Global) PlainFault) → result ≡ Err Memory → IfErr result (NamesCalled catalogue query)
named-memory catalogue query result is = subst (λ r. IfErr r (NamesCalled catalogue query)) (sym is) tt

-- whatever the result is
pub named-any : (catalogue : CatalogDef) (query : Query) (view : View) (value : List Answer) (result : Result (Vec Answer Global) PlainFault) (old new : ScorerState)
    → IsQuery catalogue query → Inquires Memory (asking plain_faults old.answer catalogue (questions_of catalogue query view) value) (as_list result) old new
    → IfErr result (NamesCalled catalogue query)
named-any catalogue query view value (Ok rows) old new formed inquired = tt
named-any catalogue query view value (Err fault) old new formed inquired =
    comes-named catalogue query old.answer (questions_of catalogue query view) value fault old new (query-called catalogue query view formed) inquired.comes

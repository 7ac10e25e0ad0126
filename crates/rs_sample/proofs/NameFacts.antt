-- The predicates that faults of a sample name stand in the catalogue.
use Rattle.std.proofs.Common.{ℕ, ◌≡◌, ◌+◌, ◌<◌, List, [], ◌∷◌, length, sum, sym, subst, inl, inr}
use Rattle.std.specs.Prelude.{◌⊎◌, Result, Ok, Err, IfErr}
use Rattle.std.specs.List.{AllByRecursion, flat_map}
use Rattle.std.proofs.lemmas.Option.{slice_get_within}
use Rattle.rs_order.proofs.EachFacts.{each-append, each-behind, each-map}
use Rattle.rs_expr.specs.InOrder.{InquiryEnds, InquiryFails, Inquires, InquiryStops, Request}
use Rattle.rs_expr.specs.Scoring.{ScorerState}
use Rattle.rs_catalog.specs.Catalog.{CatalogDef}
use Rattle.rs_query.specs.Questions.{Question, question_of, request_for}
use Rattle.rs_query.specs.Views.{View}
use Rattle.rs_query.specs.WellFormed.{IsBlock, IsQuery, IsTerm}
use Rattle.rs_query.specs.declared.block.Block.{Block}
use Rattle.rs_query.specs.declared.query.Query.{Query}
use Rattle.rs_query.specs.declared.query.Query.TheVariants.{One, Set}
use Rattle.rs_sample.specs.Choosing.{sampled_choices}
use Rattle.rs_sample.specs.Sampling.{NamesPredicate, asking_all, block_questions, block_samples, done, done_of, questions_of, sample_faults, term_questions}
use Rattle.rs_sample.specs.Words.{words_of}
use Rattle.rs_sample.specs.declared.fault.SampleFault.{SampleFault}
use Rattle.rs_sample.specs.declared.fault.SampleFault.TheVariants.{Memory}

-- what holds of all that is asked for an item of a list holds of all that is asked
each-flat_map : {X Y : Type 0} (P : X → Type 0) (Q : Y → Type 0) (f : X → List Y) (xs : List X) → ((x : X) → P x → AllByRecursion Q (f x)) → AllByRecursion P xs
    → AllByRecursion Q (flat_map f xs)
each-flat_map P Q f [] each all = tt
each-flat_map P Q f (x ∷ xs) each all = each-append Q (f x) (flat_map f xs) (each x all.0) (each-flat_map P Q f xs each all.1)

-- what holds whatever the item is
each-any : {X : Type 0} (P : Type 0) (xs : List X) → P → AllByRecursion (λ (x : X). P) xs
each-any P [] p = tt
each-any P (x ∷ xs) p = (p, each-any P xs p)

module _ (catalogue : CatalogDef) where
  -- a question that calls a predicate of the catalogue
  abbrev Calls : Question → Type 0
  Calls question = question.term.predicate < length catalogue.predicates

  abbrev Tells : Request SampleFault → Type 0
  Tells request = NamesPredicate catalogue request.failed

  block-calls : (number : ℕ) (block : Block) (samples : List (List ℕ)) → IsBlock catalogue block → AllByRecursion Calls (block_questions number block samples)
  block-calls number block samples formed =
      each-flat_map (IsTerm catalogue block) Calls (term_questions number block samples) block.terms
      (λ term is. each-map Calls (λ rows. question_of number block rows term) (sampled_choices term.entries samples)
      (each-any (term.predicate < length catalogue.predicates) (sampled_choices term.entries samples) (slice_get_within catalogue.predicates term.predicate is.predicate is.has_predicate)))
      formed.terms

  query-calls : (query : Query) (view : View) (seed : ℕ) → IsQuery catalogue query → AllByRecursion Calls (questions_of query view seed)
  query-calls (One block limit) view seed formed = block-calls 1 block (block_samples block view.first (words_of seed (sum view.first))).0 formed.0
  query-calls (Set op left right limit) view seed formed =
      let first = block_samples left view.first (words_of seed (sum view.first + sum view.second)) in
      each-append Calls (block_questions 1 left first.0) (block_questions 2 right (block_samples right view.second first.1).0)
      (block-calls 1 left first.0 formed.0.left_block) (block-calls 2 right (block_samples right view.second first.1).0 formed.0.right_block)

  -- a fault of questions that are all asked
  comes-named : {A : Type 0} (questions : List Question) (value : A) (fault : SampleFault) (old new : ScorerState) → AllByRecursion Calls questions
      → (InquiryEnds (asking_all catalogue questions value) (Err fault) old new ⊎ InquiryFails (asking_all catalogue questions value) (Err fault) old new)
      ⊎ InquiryStops Memory (asking_all catalogue questions value) (Err fault) old new
      → NamesPredicate catalogue fault
  comes-named questions value fault old new each (inl (inl ends)) = absurd (let e = ends.gives in cc)
  comes-named questions value fault old new each (inl (inr fails)) =
      let is : fault ≡ fails.last.failed = (let e = fails.gives in cc) in
      let requests = each-map Tells (request_for sample_faults catalogue) questions each in
      subst (NamesPredicate catalogue) (sym is) (each-behind Tells fails.done (fails.last ∷ fails.rest) (subst (AllByRecursion Tells) fails.split requests)).0
  comes-named questions value fault old new each (inr stops) =
      let is : fault ≡ Memory = (let e = stops.gives in cc) in
      subst (NamesPredicate catalogue) (sym is) tt

-- the fault of a query's sample
pub names-asks : {A : Type 0} (catalogue : CatalogDef) (query : Query) (view : View) (seed : ℕ) (result : Result A SampleFault) (old new : ScorerState) → IsQuery catalogue query
    → Inquires Memory (asking_all catalogue (questions_of query view seed) done) (done_of result) old new → IfErr result (NamesPredicate catalogue)
names-asks catalogue query view seed (Ok value) old new formed inquired = tt
names-asks catalogue query view seed (Err fault) old new formed inquired =
    comes-named catalogue (questions_of query view seed) done fault old new (query-calls catalogue query view seed formed) inquired.comes

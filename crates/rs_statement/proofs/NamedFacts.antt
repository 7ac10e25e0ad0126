-- The predicates that the faults of asks name are those of the catalogue.
use Rattle.std.proofs.Common.{ℕ, zero, suc, ◌≡◌, ◌-◌, ◌<◌, ◌++◌, Bool, true, false, List, [], ◌∷◌, length, map, refl, sym, subst, inl, inr}
use Rattle.std.specs.Prelude.{Option, Some, None, Result, Ok, Err, slice_get, ◌⊎◌, if◌then◌else◌}
use Rattle.std.specs.List.{AllByRecursion, flat_map}
use Rattle.std.proofs.lemmas.Option.{slice_get_within}
use Rattle.rs_order.proofs.EachFacts.{each-append, each-behind, each-drop, each-slice_get}
use Rattle.rs_order.specs.Schedule.{JoinSide, Left, Right, SideAsk}
use Rattle.rs_rank.specs.declared.answer.Answer.{Answer}
use Rattle.rs_rank.specs.declared.row.RankRow.{RankRow}
use Rattle.rs_expr.specs.InOrder.{InquiryEnds, InquiryFails, InquiryStops, Inquires, Inquiry, Request}
use Rattle.rs_expr.specs.Scoring.{Answering, ScorerState}
use Rattle.rs_catalog.specs.Catalog.{CatalogDef}
use Rattle.rs_query.specs.Questions.{Question, asking, first_of, is_bad, outcome_for, request_for, through_first}
use Rattle.rs_query.specs.WellFormed.{IsQuery, IsTerm}
use Rattle.rs_query.specs.declared.term.Term.{Term}
use Rattle.rs_query.proofs.BlockFacts.{block-formed}
use Rattle.rs_query.proofs.ThroughFacts.{each-first, each-through}
use Rattle.rs_plan.specs.Asks.{child_asks}
use Rattle.rs_plan.specs.Calls.{own_question, part_of, questions, questions_of_ask, rank_part, side_part}
use Rattle.rs_plan.specs.Lists.{World, list_of, numbered_block}
use Rattle.rs_plan.specs.Trees.{Distinct, JoinOperator, Rank, RankScan, SeqScan, SetOperator, PlanTree}
use Rattle.rs_exec.specs.Asking.{exec_faults, world_of}
use Rattle.rs_exec.specs.Cursors.{CursorState, StandsFor, asks_of, call_of, is_over, next_answer, no_question, plan_of}
use Rattle.rs_exec.specs.declared.fault.ExecFault.{ExecFault}
use Rattle.rs_exec.specs.declared.fault.ExecFault.TheVariants.{BadScore, Broken, Memory, Probe}
use Rattle.rs_statement.specs.Parts.Asks.{NamesPredicate}

each-flat_map : {X Y : Type 0} (P : Y → Type 0) (f : X → List Y) (xs : List X) → ((x : X) → AllByRecursion P (f x)) → AllByRecursion P (flat_map f xs)
each-flat_map P f [] h = tt
each-flat_map P f (x ∷ xs) h = each-append P (f x) (flat_map f xs) (h x) (each-flat_map P f xs h)

module _ (w : World) (formed : IsQuery w.catalogue w.query) where
  -- the term of a question calls a predicate of the catalogue
  abbrev IsNamed : Question → Type 0
  IsNamed q = q.term.predicate < length w.catalogue.predicates

  named-term : (number : ℕ) (place : ℕ) (term : Term) → slice_get (numbered_block w number).terms place ≡ Some term → term.predicate < length w.catalogue.predicates
  named-term number place term there =
      let is = each-slice_get (IsTerm w.catalogue (numbered_block w number)) (numbered_block w number).terms place term (block-formed w.catalogue w.query number formed).terms there in
      slice_get_within w.catalogue.predicates term.predicate is.predicate is.has_predicate

  named-own : (term : ℕ) (row : Option RankRow) → AllByRecursion IsNamed (own_question w term row)
  named-own term None = tt
  named-own term (Some row) = go (slice_get (numbered_block w row.ids.block).terms (term - 1)) refl where
    go : (own : Option Term) → slice_get (numbered_block w row.ids.block).terms (term - 1) ≡ own → AllByRecursion IsNamed (own_question w term (Some row))
    go None e = rw e tt
    go (Some t) e = rw e (named-term row.ids.block (term - 1) t e, tt)

  named-part : (f : ℕ → List Question) → ((a : ℕ) → AllByRecursion IsNamed (f a)) → (a : ℕ) → AllByRecursion IsNamed (part_of f a)
  named-part f each zero = tt
  named-part f each (suc a) = each-drop IsNamed (length (f a)) (f (suc a)) (each (suc a))

  named-side : (left right : ℕ → List Question) → ((a : ℕ) → AllByRecursion IsNamed (left a)) → ((a : ℕ) → AllByRecursion IsNamed (right a)) → (ask : SideAsk)
      → AllByRecursion IsNamed (side_part left right ask)
  named-side left right lefts rights ask = go ask.side where
    go : (side : JoinSide) → AllByRecursion IsNamed (side_part left right (record ask { side = side }))
    go Left = named-part left lefts ask.number
    go Right = named-part right rights ask.number

  named-questions : (number : ℕ) (tree : PlanTree) (a : ℕ) → AllByRecursion IsNamed (questions w number tree a)
  named-questions number (SeqScan entry) a = tt
  named-questions number (RankScan entry term index) a = tt
  named-questions number (Rank term child) a =
      each-flat_map IsNamed (rank_part w term (list_of w number child) (questions w number child)) (child_asks w number (Rank term child) a)
      (λ ask. each-append IsNamed (part_of (questions w number child) ask.number) (own_question w term (slice_get (list_of w number child) (ask.number - 1)))
      (named-part (questions w number child) (named-questions number child) ask.number) (named-own term (slice_get (list_of w number child) (ask.number - 1))))
  named-questions number (Distinct child) a =
      each-flat_map IsNamed (λ (ask : SideAsk). part_of (questions w number child) ask.number) (child_asks w number (Distinct child) a)
      (λ ask. named-part (questions w number child) (named-questions number child) ask.number)
  named-questions number (JoinOperator kind left right) a =
      each-flat_map IsNamed (side_part (questions w number left) (questions w number right)) (child_asks w number (JoinOperator kind left right) a)
      (named-side (questions w number left) (questions w number right) (named-questions number left) (named-questions number right))
  named-questions number (SetOperator left right) a =
      each-flat_map IsNamed (side_part (questions w 1 left) (questions w 2 right)) (child_asks w number (SetOperator left right) a)
      (named-side (questions w 1 left) (questions w 2 right) (named-questions 1 left) (named-questions 2 right))

  -- so does each request of an ask, and a bad number of one
  abbrev Tells : Request ExecFault → Type 0
  Tells request = NamesPredicate w.catalogue request.failed

  tells-questions : (qs : List Question) → AllByRecursion IsNamed qs → AllByRecursion Tells (map (request_for exec_faults w.catalogue) qs)
  tells-questions [] named = tt
  tells-questions (q ∷ qs) named = (named.0, tells-questions qs named.1)

  names-bad : {A : Type 0} (value : A) (bad : Option Question) (why : ExecFault) → ((q : Question) → bad ≡ Some q → IsNamed q)
      → Err why ≡ outcome_for exec_faults w.answer w.catalogue bad value → NamesPredicate w.catalogue why
  names-bad value None why named e = absurd cc
  names-bad value (Some q) (BadScore predicate ids got max) named e =
      let same : predicate ≡ q.term.predicate = cc in subst (λ p. p < length w.catalogue.predicates) (sym same) (named q refl)
  names-bad value (Some q) (Probe predicate) named e = absurd cc
  names-bad value (Some q) Memory named e = tt
  names-bad value (Some q) Broken named e = tt

  names-last : (requests done rest : List (Request ExecFault)) (last : Request ExecFault) → AllByRecursion Tells requests → requests ≡ done ++ last ∷ rest → Tells last
  names-last requests done rest last each split = (each-behind Tells done (last ∷ rest) (subst (AllByRecursion Tells) split each)).0

  names-asking : {A : Type 0} (qs : List Question) (value : A) (why : ExecFault) (old new : ScorerState) → AllByRecursion IsNamed qs
      → Inquires Memory (asking exec_faults w.answer w.catalogue qs value) (Err why) old new → NamesPredicate w.catalogue why
  names-asking {A} qs value why old new named inquires = go inquires.comes where
    inquiry : Inquiry A ExecFault
    inquiry = asking exec_faults w.answer w.catalogue qs value

    go : (InquiryEnds (asking exec_faults w.answer w.catalogue qs value) (Err why) old new ⊎ InquiryFails (asking exec_faults w.answer w.catalogue qs value) (Err why) old new)
        ⊎ InquiryStops Memory (asking exec_faults w.answer w.catalogue qs value) (Err why) old new → NamesPredicate w.catalogue why
    go (inl (inl ends)) = names-bad value (first_of (is_bad w.answer w.catalogue) qs) why
        (λ q e. each-first (is_bad w.answer w.catalogue) IsNamed qs q named e) ends.gives
    go (inl (inr fails)) =
        let same : why ≡ fails.last.failed = (let e = fails.gives in cc) in
        subst (NamesPredicate w.catalogue) (sym same)
        (names-last (map (request_for exec_faults w.catalogue) (through_first (is_bad w.answer w.catalogue) qs)) fails.done fails.rest fails.last
        (tells-questions (through_first (is_bad w.answer w.catalogue) qs) (each-through (is_bad w.answer w.catalogue) IsNamed qs named)) fails.split)
    go (inr stops) = let same : why ≡ Memory = (let e = stops.gives in cc) in subst (NamesPredicate w.catalogue) (sym same) tt

-- and so does the fault of a cursor's call
names-none : (catalogue : CatalogDef) (outcome : Result (Option Answer) ExecFault) (why : ExecFault) (old new : ScorerState)
    → ((fault : ExecFault) → outcome ≡ Err fault → NamesPredicate catalogue fault) → Inquires Memory (no_question outcome) (Err why) old new → NamesPredicate catalogue why
names-none catalogue outcome why old new named inquires = go inquires.comes where
  go : (InquiryEnds (no_question outcome) (Err why) old new ⊎ InquiryFails (no_question outcome) (Err why) old new) ⊎ InquiryStops Memory (no_question outcome) (Err why) old new
      → NamesPredicate catalogue why
  go (inl (inl ends)) = named why (sym ends.gives)
  go (inl (inr fails)) = absurd (none fails.done fails.split) where
    none : (done : List (Request ExecFault)) → [] ≡ done ++ fails.last ∷ fails.rest → ⊥
    none [] e = cc
    none (request ∷ done) e = cc
  go (inr stops) = let same : why ≡ Memory = (let e = stops.gives in cc) in subst (NamesPredicate catalogue) (sym same) tt

pub names-call : (catalogue : CatalogDef) (answer : Answering) (cursor : CursorState) (why : ExecFault) (old new : ScorerState) → StandsFor catalogue answer cursor
    → Inquires Memory (call_of catalogue answer cursor) (Err why) old new → NamesPredicate catalogue why
names-call catalogue answer cursor why old new stands inquires = go cursor.failed (is_over w tree n) inquires where
  w : World
  w = world_of catalogue answer cursor.query

  tree : PlanTree
  tree = plan_of cursor

  n : ℕ
  n = asks_of cursor

  go : (failed over : Bool) → Inquires Memory (if failed then no_question (Err Broken) else if over then no_question (Ok None) else next_answer w tree n) (Err why) old new
      → NamesPredicate catalogue why
  go true over i = names-none catalogue (Err Broken) why old new (λ fault e. let same : Broken ≡ fault = cc in subst (NamesPredicate catalogue) same tt) i
  go false true i = names-none catalogue (Ok None) why old new (λ fault e. absurd cc) i
  go false false i = names-asking w stands.query (questions_of_ask w 1 tree (suc n)) _ why old new (named-part w stands.query (questions w 1 tree) (named-questions w stands.query 1 tree) (suc n)) i

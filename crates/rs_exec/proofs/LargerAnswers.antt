-- What the asks of a plan give, and what they ask of the scorer, is the same in a larger catalogue.
use Rattle.std.proofs.Common.{◌≡◌, ◌∙◌, ℕ, zero, suc, ◌-◌, Bool, true, false, List, [], ◌∷◌, length, map, Some, None, refl, ap}
use Rattle.std.specs.Prelude.{Option, Err, if◌then◌else◌, not, option_map, slice_get}
use Rattle.std.specs.List.{AllByRecursion, flat_map}
use Rattle.rs_order.specs.Asks.{bar_after}
use Rattle.rs_order.specs.Schedule.{Left, Right, SideAsk}
use Rattle.rs_order.proofs.EachFacts.{each-append, each-drop, each-slice_get}
use Rattle.rs_rank.specs.Keys.{key_cmp}
use Rattle.rs_rank.specs.Merging.{merge_key}
use Rattle.rs_rank.specs.Turns.{join_schedule}
use Rattle.rs_rank.specs.declared.key.Key.{Key}
use Rattle.rs_rank.specs.declared.row.RankRow.{RankRow}
use Rattle.rs_expr.specs.Scores.{is_score}
use Rattle.rs_expr.specs.Scoring.{Answering, call_of}
use Rattle.rs_catalog.specs.Catalog.{CatalogDef}
use Rattle.rs_catalog.specs.declared.index.BoundArg.{BoundArg}
use Rattle.rs_query.specs.Answers.{predicate_at}
use Rattle.rs_query.specs.Questions.{Question, asking, call_for, first_of, got_for, ids_for, is_bad, outcome_for, request_for, through_first}
use Rattle.rs_query.specs.declared.query.Query.{Query}
use Rattle.rs_query.specs.declared.term.Term.{Term}
use Rattle.rs_plan.specs.Asks.{asks_alone, child_asks, query_schedule}
use Rattle.rs_plan.specs.Calls.{own_question, part_of, questions, questions_of_ask, rank_part, side_part}
use Rattle.rs_plan.specs.Lists.{World, key_under, list_of, list_of_plan, weights_in}
use Rattle.rs_query.specs.Blocks.{block_in}
use Rattle.rs_plan.specs.Trees.{Distinct, JoinOperator, Rank, RankScan, SeqScan, SetOperator, PlanTree, terms}
use Rattle.rs_exec.specs.Asking.{exec_faults, world_of}
use Rattle.rs_exec.specs.Covering.{Covers, CoversBlock, HasPredicate}
use Rattle.rs_exec.specs.Cursors.{SameAsks, answer_for}
use Rattle.rs_exec.proofs.CoversFacts.{block-covered}
use Rattle.rs_catalog.proofs.JoinedFacts.{joined}
use Rattle.rs_exec.proofs.LargerFacts.{argument-same, outputs-same, predicate-same}
use Rattle.rs_exec.proofs.LargerNodes.{list-same}

each-flat_map : {X Y : Type 0} (P : Y → Type 0) (f : X → List Y) (xs : List X) → ((x : X) → AllByRecursion P (f x)) → AllByRecursion P (flat_map f xs)
each-flat_map P f [] all = tt
each-flat_map P f (x ∷ xs) all = each-append P (f x) (flat_map f xs) (all x) (each-flat_map P f xs all)

each-part : {Y : Type 0} (P : Y → Type 0) (f : ℕ → List Y) (n : ℕ) → ((a : ℕ) → AllByRecursion P (f a)) → AllByRecursion P (part_of f n)
each-part P f zero all = tt
each-part P f (suc n) all = each-drop P (length (f n)) (f (suc n)) (all (suc n))

module _ (catalogue more : CatalogDef) (answer : Answering) (query : Query) (covered : Covers catalogue query) where
  abbrev small : World
  small = world_of catalogue answer query

  abbrev large : World
  large = world_of (joined catalogue more) answer query

  abbrev list-is : (number : ℕ) (tree : PlanTree) → list_of large number tree ≡ list_of small number tree
  list-is number tree = list-same catalogue more answer query covered number tree

  -- the children of a node are asked in the same order
  child_asks-same : (number : ℕ) (tree : PlanTree) → (a : ℕ) → child_asks large number tree a ≡ child_asks small number tree a
  child_asks-same number tree zero = refl
  child_asks-same number (SeqScan entry) (suc n) = refl
  child_asks-same number (RankScan entry term index) (suc n) = refl
  child_asks-same number (Rank term child) (suc n) = λ i.
      asks_alone (map (key_under small (terms child)) (list-is number child i))
      (bar_after (λ (key : Key). key) (map (key_under small (terms (Rank term child))) (list-is number (Rank term child) i)) n)
  child_asks-same number (Distinct child) (suc n) = λ i.
      asks_alone (map (key_under small (terms child)) (list-is number child i))
      (bar_after (λ (key : Key). key) (map (key_under small (terms (Distinct child))) (list-is number (Distinct child) i)) n)
  child_asks-same number (JoinOperator kind left right) (suc n) = λ i.
      join_schedule key_cmp (merge_key (weights_in small) (terms left) (terms right))
      (map (key_under small (terms left)) (list-is number left i)) (map (key_under small (terms right)) (list-is number right i))
      (bar_after (λ (key : Key). key) (map (key_under small (terms (JoinOperator kind left right))) (list-is number (JoinOperator kind left right) i)) n)
  child_asks-same number (SetOperator left right) (suc n) = λ i.
      query_schedule query (map (key_under small (terms left)) (list-is 1 left i)) (map (key_under small (terms right)) (list-is 2 right i))
      (bar_after (λ (key : Key). key) (map (key_under small (terms (SetOperator left right))) (list-is number (SetOperator left right) i)) n)

  -- so its questions are the same
  questions-same : (number : ℕ) (tree : PlanTree) → (a : ℕ) → questions large number tree a ≡ questions small number tree a
  questions-same number (SeqScan entry) a = refl
  questions-same number (RankScan entry term index) a = refl
  questions-same number (Rank term child) a = λ i.
      flat_map (rank_part small term (list-is number child i) (λ b. questions-same number child b i)) (child_asks-same number (Rank term child) a i)
  questions-same number (Distinct child) a = λ i.
      flat_map (λ (ask : SideAsk). part_of (λ b. questions-same number child b i) ask.number) (child_asks-same number (Distinct child) a i)
  questions-same number (JoinOperator kind left right) a = λ i.
      flat_map (side_part (λ b. questions-same number left b i) (λ b. questions-same number right b i)) (child_asks-same number (JoinOperator kind left right) a i)
  questions-same number (SetOperator left right) a = λ i.
      flat_map (side_part (λ b. questions-same 1 left b i) (λ b. questions-same 2 right b i)) (child_asks-same number (SetOperator left right) a i)

  -- each is of a block that is covered and a term whose predicate is one of the catalogue
  abbrev IsCovered : Question → Type 0
  IsCovered q = CoversBlock catalogue q.block × HasPredicate catalogue q.term

  covered-own : (term : ℕ) (row : Option RankRow) → AllByRecursion IsCovered (own_question small term row)
  covered-own term None = tt
  covered-own term (Some row) = go (slice_get (block_in query row.ids.block).terms (term - 1)) refl where
    go : (t : Option Term) → slice_get (block_in query row.ids.block).terms (term - 1) ≡ t → AllByRecursion IsCovered (own_question small term (Some row))
    go None e = rw e tt
    go (Some t) e =
        let block = block-covered catalogue query row.ids.block covered in
        rw e ((block, each-slice_get (HasPredicate catalogue) (block_in query row.ids.block).terms (term - 1) t block.terms e), tt)

  covered-side : (left right : ℕ → List Question) → ((a : ℕ) → AllByRecursion IsCovered (left a)) → ((a : ℕ) → AllByRecursion IsCovered (right a)) → (ask : SideAsk)
      → AllByRecursion IsCovered (side_part left right ask)
  covered-side left right on_left on_right ask = elim ask.side as (λ side. AllByRecursion IsCovered (side_part left right (record ask { side = side }))) [
    | Left ↦ each-part IsCovered left ask.number on_left
    | Right ↦ each-part IsCovered right ask.number on_right
  ]

  covered-questions : (number : ℕ) (tree : PlanTree) → (a : ℕ) → AllByRecursion IsCovered (questions small number tree a)
  covered-questions number (SeqScan entry) a = tt
  covered-questions number (RankScan entry term index) a = tt
  covered-questions number (Rank term child) a =
      each-flat_map IsCovered (rank_part small term (list_of small number child) (questions small number child)) (child_asks small number (Rank term child) a)
      (λ ask. each-append IsCovered (part_of (questions small number child) ask.number) (own_question small term (slice_get (list_of small number child) (ask.number - 1)))
      (each-part IsCovered (questions small number child) ask.number (covered-questions number child)) (covered-own term (slice_get (list_of small number child) (ask.number - 1))))
  covered-questions number (Distinct child) a =
      each-flat_map IsCovered (λ (ask : SideAsk). part_of (questions small number child) ask.number) (child_asks small number (Distinct child) a)
      (λ ask. each-part IsCovered (questions small number child) ask.number (covered-questions number child))
  covered-questions number (JoinOperator kind left right) a =
      each-flat_map IsCovered (side_part (questions small number left) (questions small number right)) (child_asks small number (JoinOperator kind left right) a)
      (covered-side (questions small number left) (questions small number right) (covered-questions number left) (covered-questions number right))
  covered-questions number (SetOperator left right) a =
      each-flat_map IsCovered (side_part (questions small 1 left) (questions small 2 right)) (child_asks small number (SetOperator left right) a)
      (covered-side (questions small 1 left) (questions small 2 right) (covered-questions 1 left) (covered-questions 2 right))

  -- so the calls are the same, and what is told of their answers
  predicate-is : (q : Question) → IsCovered q → predicate_at (joined catalogue more) q.term.predicate ≡ predicate_at catalogue q.term.predicate
  predicate-is q is = predicate-same catalogue more q.term.predicate is.1

  call-same : (q : Question) → IsCovered q → call_for (joined catalogue more) q ≡ call_for catalogue q
  call-same q is = λ i. call_of (predicate-is q is i) (map (λ (a : BoundArg). argument-same catalogue more q.block is.0 q.rows a i) q.term.args)

  got-same : (q : Question) → IsCovered q → got_for answer (joined catalogue more) q ≡ got_for answer catalogue q
  got-same q is = λ i. answer (predicate-is q is i) (map (λ (a : BoundArg). argument-same catalogue more q.block is.0 q.rows a i) q.term.args)

  bad-same : (q : Question) → IsCovered q → is_bad answer (joined catalogue more) q ≡ is_bad answer catalogue q
  bad-same q is = λ i. not (is_score (predicate-is q is i).max (got-same q is i))

  requests-same : (qs : List Question) → AllByRecursion IsCovered qs
      → map (request_for exec_faults (joined catalogue more)) (through_first (is_bad answer (joined catalogue more)) qs) ≡ map (request_for exec_faults catalogue) (through_first (is_bad answer catalogue) qs)
  requests-same [] each = refl
  requests-same (q ∷ qs) each =
      (λ i. record { call = call-same q each.0 i; failed = exec_faults.failed q.term.predicate }
      ∷ map (request_for exec_faults (joined catalogue more)) (if bad-same q each.0 i then [] else through_first (is_bad answer (joined catalogue more)) qs))
      ∙ go (requests-same qs each.1) (is_bad answer catalogue q) where
        go : map (request_for exec_faults (joined catalogue more)) (through_first (is_bad answer (joined catalogue more)) qs) ≡ map (request_for exec_faults catalogue) (through_first (is_bad answer catalogue) qs)
            → (b : Bool) → request_for exec_faults catalogue q ∷ map (request_for exec_faults (joined catalogue more)) (if b then [] else through_first (is_bad answer (joined catalogue more)) qs)
            ≡ request_for exec_faults catalogue q ∷ map (request_for exec_faults catalogue) (if b then [] else through_first (is_bad answer catalogue) qs)
        go rest true = refl
        go rest false = ap (λ others. request_for exec_faults catalogue q ∷ others) rest

  outcome-same : {A : Type 0} (qs : List Question) → AllByRecursion IsCovered qs → (value : A)
      → outcome_for exec_faults answer (joined catalogue more) (first_of (is_bad answer (joined catalogue more)) qs) value ≡ outcome_for exec_faults answer catalogue (first_of (is_bad answer catalogue) qs) value
  outcome-same [] each value = refl
  outcome-same {A} (q ∷ qs) each value =
      (λ i. outcome_for exec_faults answer (joined catalogue more) (if bad-same q each.0 i then Some q else first_of (is_bad answer (joined catalogue more)) qs) value)
      ∙ go (outcome-same qs each.1 value) (is_bad answer catalogue q) where
        go : outcome_for exec_faults answer (joined catalogue more) (first_of (is_bad answer (joined catalogue more)) qs) value ≡ outcome_for exec_faults answer catalogue (first_of (is_bad answer catalogue) qs) value
            → (b : Bool) → outcome_for exec_faults answer (joined catalogue more) (if b then Some q else first_of (is_bad answer (joined catalogue more)) qs) value
            ≡ outcome_for exec_faults answer catalogue (if b then Some q else first_of (is_bad answer catalogue) qs) value
        go rest true = λ i. Err (exec_faults.bad q.term.predicate (ids_for q) (got-same q each.0 i) (predicate-is q each.0 i).max)
        go rest false = rest

  answer_for-same : answer_for large ≡ answer_for small
  answer_for-same = λ i row. record {
    ids = row.ids;
    score = row.sum;
    values = outputs-same catalogue more (block_in query row.ids.block) (block-covered catalogue query row.ids.block covered) i row.ids.rows;
  }

  pub asks-larger : (tree : PlanTree) → SameAsks large small tree
  asks-larger tree = record {
    list = list-is 1 tree;
    rows = λ i. map (answer_for-same i) (list-is 1 tree i);
    asks = λ n.
        let each = each-part IsCovered (questions small 1 tree) (suc n) (covered-questions 1 tree) in
        let qs = questions_of_ask small 1 tree (suc n) in
        let value = option_map (answer_for small) (slice_get (list_of_plan small tree) n) in
        (λ i. asking exec_faults answer (joined catalogue more) (part_of (λ b. questions-same 1 tree b i) (suc n))
        (option_map (answer_for-same i) (slice_get (list-is 1 tree i) n)))
        ∙ (λ i. record { requests = requests-same qs each i; outcome = outcome-same qs each value i });
  }

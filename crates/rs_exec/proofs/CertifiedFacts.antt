-- The questions of a plan certify its rows, those of each node by those of its children.
use Rattle.std.proofs.Common.{◌≡◌, ◌∙◌, ℕ, zero, suc, ◌≤◌, Bool, true, false, not, cond, List, [], ◌∷◌, ◌++◌, length, map, take, drop, Option, Some, refl, sym, ap, ap₂, subst, arith}
use Rattle.std.proofs.lemmas.List.{take-map}
use Rattle.std.specs.Prelude.{Result, Err, option_map}
use Rattle.rs_expr.specs.Scores.{is_score}
use Rattle.std.specs.List.{flat_map, slice_get}
use Rattle.rs_order.specs.Schedule.{Left, SideAsk}
use Rattle.rs_order.specs.Sorting.{sorted}
use Rattle.rs_order.proofs.EachFacts.{each-append, each-behind, each-front}
use Rattle.rs_order.proofs.PartFacts.{slice_get-shared}
use Rattle.rs_rank.specs.Keys.{key_cmp}
use Rattle.rs_rank.specs.declared.ids.Ids.{Ids}
use Rattle.rs_rank.specs.declared.row.RankRow.{RankRow}
use Rattle.rs_expr.specs.Scoring.{Answering}
use Rattle.rs_catalog.specs.Catalog.{CatalogDef}
use Rattle.rs_query.specs.Blocks.{block_in}
use Rattle.rs_query.specs.Questions.{Question, asking, call_for, first_of, got_for, ids_for, is_bad, max_for, outcome_for, request_for, through_first}
use Rattle.rs_query.specs.Tables.{sizes_of}
use Rattle.rs_query.specs.declared.query.Query.{Query}
use Rattle.rs_filter.specs.Matching.{IsView}
use Rattle.rs_plan.specs.Calls.{calls_of_plan, questions, questions_of_ask}
use Rattle.rs_plan.specs.Lists.{World, key_under, list_of, row_under, sources, weights_in, worths}
use Rattle.rs_plan.specs.Trees.{Distinct, JoinOperator, Rank, RankScan, SeqScan, SetOperator, PlanTree}
use Rattle.rs_exec.specs.Asking.{exec_faults, world_of}
use Rattle.rs_exec.specs.Certifying.{AnswerAlike, AnswersFit}
use Rattle.rs_exec.specs.Cursors.{answer_for, answers_of, next_answer}
use Rattle.rs_exec.specs.declared.fault.ExecFault.{ExecFault}
use Rattle.rs_exec.specs.Indexes.{PlanIndexesHold}
use Rattle.rs_exec.specs.Asked.{HasBlock}
use Rattle.rs_exec.specs.Parts.{IsPartOf}
use Rattle.rs_exec.proofs.BlockFacts.{first-block, sizes-are}
use Rattle.rs_exec.proofs.CursorFacts.{bounded-world}
use Rattle.rs_exec.proofs.PlacesFacts.{plan-part}
use Rattle.rs_exec.proofs.IndexListFacts.{index-list}
use Rattle.rs_exec.proofs.ListFacts.{IsView-itself, list-length}
use Rattle.rs_exec.proofs.OperatorFacts.{IsHeldPart, child-held, child_on, number_on, own_of, puts-are, puts_of, questions-are}
use Rattle.rs_exec.proofs.PartFacts.{grows}
use Rattle.rs_exec.proofs.TableFacts.{sum-none}
use Rattle.rs_order.specs.Schedule.{JoinSide, Right, asked}
use Rattle.rs_plan.specs.Plans.{IsPart}
use Rattle.rs_plan.specs.Trees.{JoinKind}
use Rattle.rs_ripple.specs.Stands.{Join, answers, schedule_of}
use Rattle.rs_exec.specs.Joining.{join_for}
use Rattle.rs_exec.proofs.CertifyFacts.{AreWorlds, Certifies, Share, rank-certifies, whole-view}
use Rattle.rs_exec.proofs.CertifyJoinFacts.{IsNumbered, ask-of, ask_at, asks-there, each-of, flat-alike, join-shared, numbered}
use Rattle.rs_exec.proofs.JoinListFacts.{CanJoinParts, join-list, join-sides}
use Rattle.rs_exec.proofs.JoinStepFacts.{join-schedule}
use Rattle.rs_exec.proofs.PlacesFacts.{part-of}
use Rattle.std.proofs.lemmas.List.{length-map}
use Rattle.rs_order.specs.Schedule.{Left, asks_from}
use Rattle.rs_order.proofs.ScheduleFacts.{asked-from}
use Rattle.rs_outputs.specs.Rows.{OutputRow, firsts}
use Rattle.rs_query.specs.Answers.{base_of}
use Rattle.rs_plan.specs.Counts.{asked_of}
use Rattle.rs_exec.specs.OutputValues.{output_row, outputs_in}
use Rattle.rs_exec.proofs.CertifyDistinctFacts.{alone-numbered, distinct-shared}
use Rattle.rs_exec.proofs.CertifySetFacts.{set-shared}
use Rattle.rs_exec.proofs.DistinctListFacts.{distinct-outputs, output_key}
use Rattle.rs_exec.proofs.DistinctStepFacts.{distinct-asks, distinct-child_asks, outputs-climb}
use Rattle.rs_exec.proofs.SetStepFacts.{SetFacts, set-facts}
use Rattle.rs_exec.proofs.SideFacts.{on-both}
use Rattle.rs_exec.proofs.UnscoredFacts.{base-unscored, query-unscored, same-ids}
use Rattle.rs_exec.specs.SetNodes.{operator_of, sides_for}
use Rattle.rs_exec.specs.Sides.{of_side}
use Rattle.rs_query.specs.Answers.{rows_of}
use Rattle.rs_query.specs.declared.query.Query.TheVariants.{One, Set}
use Rattle.rs_setop.specs.Sides.{schedule_of as set_schedule_of}
use Rattle.rs_plan.specs.Trees.{terms}
use Rattle.rs_plan.specs.Lists.{sizes_in}

-- the rows of outputs are those that they were made of
rows-in : (w : World) (all : List RankRow) → map (λ (row : OutputRow). row.row) (map (output_row w) all) ≡ all
rows-in w [] = refl
rows-in w (row ∷ rest) = ap (λ (more : List RankRow). row ∷ more) (rows-in w rest)

module _ (catalogue : CatalogDef) (answer other : Answering) (query : Query) where
  abbrev w : World
  w = world_of catalogue answer query

  abbrev v : World
  v = world_of catalogue other query

  -- a child of an operator is a part of a plan of the block of its number
  record IsChild (number : ℕ) (tree : PlanTree) (side : JoinSide) : Type 0 where
    are : AreWorlds catalogue answer other query (number_on number tree side)
    part : IsPartOf catalogue query (number_on number tree side) (child_on tree side)

  -- an operator whose children are asked by a schedule, with the questions that come with it
  module _ (number : ℕ) (tree : PlanTree) (asks : List SideAsk) (numbered_sides : (side : JoinSide) → IsNumbered asks side) (child : (side : JoinSide) → IsChild number tree side)
      (alike : AnswerAlike catalogue answer other (flat_map (puts_of w number tree) asks)) where
    side-alike : (side : JoinSide) (i : ℕ) → i ≤ asked side asks → AnswerAlike catalogue answer other (questions w (number_on number tree side) (child_on tree side) i)
    side-alike side zero le = subst (AnswerAlike catalogue answer other) (sym (questions-are w (number_on number tree side) (child_on tree side) 0)) tt
    side-alike side (suc i) le =
        let is = child side in
        let own = each-of (λ (q : Question). got_for answer catalogue q ≡ got_for other catalogue q) (puts_of w number tree) asks alike (ask_at side (suc i)) (asks-there asks side (numbered_sides side) i (omega arith)) in
        subst (AnswerAlike catalogue answer other)
        (sym (grows w (number_on number tree side) (child_on tree side) i is.are.formed is.are.has is.are.bounded (whole-view catalogue answer other query (number_on number tree side) is.are) is.part is.are.weights))
        (each-append (λ (q : Question). got_for answer catalogue q ≡ got_for other catalogue q) (questions w (number_on number tree side) (child_on tree side) i) (questions_of_ask w (number_on number tree side) (child_on tree side) (suc i))
        (side-alike side i (omega arith))
        (each-front (λ (q : Question). got_for answer catalogue q ≡ got_for other catalogue q) (questions_of_ask w (number_on number tree side) (child_on tree side) (suc i)) (own_of w number tree i)
        (subst (AnswerAlike catalogue answer other) (puts-are w number tree side i) own)))

    module _ (below : (side : JoinSide) → Certifies catalogue answer other query (number_on number tree side) (child_on tree side)) (own : (i : ℕ) → own_of w number tree i ≡ own_of v number tree i) where
      side-shared : (side : JoinSide) (i : ℕ) → i ≤ asked side asks → Share catalogue answer other query (number_on number tree side) (child_on tree side) i
      side-shared side i le = below side i (side-alike side i le)

      -- both put the same questions by it
      puts-shared : flat_map (puts_of w number tree) asks ≡ flat_map (puts_of v number tree) asks
      puts-shared =
          flat-alike (puts_of w number tree) (puts_of v number tree) asks (λ ask h.
          let is = ask-of asks numbered_sides ask h in
          let less = is.within in
          ap (puts_of w number tree) is.ask_is
          ∙ puts-are w number tree is.side is.place
          ∙ ap₂ (λ (xs ys : List Question). xs ++ ys)
          (ap₂ (λ (xs ys : List Question). drop (length xs) ys) (side-shared is.side is.place (omega arith)).asked (side-shared is.side (suc is.place) (omega arith)).asked)
          (own is.place)
          ∙ sym (puts-are v number tree is.side is.place)
          ∙ sym (ap (puts_of v number tree) is.ask_is))

  module _ (number : ℕ) (are : AreWorlds catalogue answer other query number) where
    module _ (kind : JoinKind) (left right : PlanTree) (part : IsPart catalogue (block_in query number) (JoinOperator kind left right))
        (left_below : Certifies catalogue answer other query number left) (right_below : Certifies catalogue answer other query number right)
        (same_left : sources w number left ≡ sources v number left) (same_right : sources w number right ≡ sources v number right) where
      abbrev tree : PlanTree
      tree = JoinOperator kind left right

      abbrev j : Join
      j = join_for w number left right

      parts : CanJoinParts w number left right
      parts = record {
        formed = are.formed;
        bounded = are.bounded number are.has;
        weights = are.weights;
        view = whole-view catalogue answer other query number are;
        left_part = part.0;
        right_part = part.1;
        joined = part.2;
      }

      other-parts : CanJoinParts v number left right
      other-parts = record {
        formed = are.formed;
        bounded = are.other_bounded number are.has;
        weights = are.weights;
        view = whole-view catalogue answer other query number are;
        left_part = part.0;
        right_part = part.1;
        joined = part.2;
      }

      child : (side : JoinSide) → IsChild number tree side
      child Left = record { are = are; part = part-of catalogue query number left part.0 }
      child Right = record { are = are; part = part-of catalogue query number right part.1 }

      below : (side : JoinSide) → Certifies catalogue answer other query (number_on number tree side) (child_on tree side)
      below Left = left_below
      below Right = right_below

      list-total : (side : PlanTree) → sources w number side ≡ sources v number side → length (list_of w number side) ≡ length (list_of v number side)
      list-total side same = list-length w number side ∙ ap (λ (all : List Ids). length all) same ∙ sym (list-length v number side)

      answers-total : length (answers j (list_of w number left) (list_of w number right)) ≡ length (answers j (list_of v number left) (list_of v number right))
      answers-total =
          sym (ap (λ (rows : List RankRow). length rows) (join-list w number left right parts kind))
          ∙ list-total tree refl
          ∙ ap (λ (rows : List RankRow). length rows) (join-list v number left right other-parts kind)

      -- a join of sides that are certified
      pub join-certifies : Certifies catalogue answer other query number (JoinOperator kind left right)
      join-certifies zero alike = record { rows = refl; asked = refl }
      join-certifies (suc n) alike =
          let lefts = list_of w number left in
          let rights = list_of w number right in
          let others = list_of v number left in
          let other_rights = list_of v number right in
          let sides = join-sides w number left right parts in
          let other_sides = join-sides v number left right other-parts in
          let asks = schedule_of j lefts rights (suc n) in
          let is = join-schedule w number kind left right parts (suc n) in
          let other_is = join-schedule v number kind left right other-parts (suc n) in
          let one = list-total left same_left in
          let two = list-total right same_right in
          let numbers = numbered j lefts rights others other_rights sides other_sides one two answers-total n in
          let all = subst (λ (made : List SideAsk). AnswerAlike catalogue answer other (flat_map (puts_of w number tree) made)) is alike in
          let share = side-shared number tree asks numbers child all below (λ i. refl) in
          let both = join-shared j lefts rights others other_rights sides other_sides one two answers-total (suc n) (λ a le. (share Left a le).rows, λ b le. (share Right b le).rows) in
          record {
            rows = ap (take (suc n)) (join-list w number left right parts kind) ∙ both.rows ∙ sym (ap (take (suc n)) (join-list v number left right other-parts kind));
            asked =
                ap (flat_map (puts_of w number tree)) is
                ∙ puts-shared number tree asks numbers child all below (λ i. refl)
                ∙ ap (flat_map (puts_of v number tree)) (both.asks ∙ sym other_is);
          }

    module _ (child : PlanTree) (part : IsPart catalogue (block_in query number) (Distinct child)) (child_below : Certifies catalogue answer other query number child)
        (same : sources w number child ≡ sources v number child) where
      abbrev rows : List OutputRow
      rows = outputs_in w number child

      abbrev others : List OutputRow
      others = outputs_in v number child

      input : (side : JoinSide) → IsChild number (Distinct child) side
      input side = record { are = are; part = part-of catalogue query number child part.0 }

      input-below : (side : JoinSide) → Certifies catalogue answer other query (number_on number (Distinct child) side) (child_on (Distinct child) side)
      input-below side = child_below

      rows-count : length rows ≡ length others
      rows-count =
          length-map (list_of w number child) (output_row w)
          ∙ list-length w number child ∙ ap (λ (all : List Ids). length all) same ∙ sym (list-length v number child)
          ∙ sym (length-map (list_of v number child) (output_row v))

      -- an operator that drops duplicates, of rows that are certified
      pub distinct-certifies : Certifies catalogue answer other query number (Distinct child)
      distinct-certifies zero alike = record { rows = refl; asked = refl }
      distinct-certifies (suc n) alike =
          let j = asked_of w number (Distinct child) (suc n) Left in
          let asks = asks_from Left 1 j in
          let is = distinct-child_asks w number child (suc n) in
          let other_is = distinct-child_asks v number child (suc n) in
          let all = subst (λ (made : List SideAsk). AnswerAlike catalogue answer other (flat_map (puts_of w number (Distinct child)) made)) is alike in
          let count = asked-from Left 1 j in
          let share = side-shared number (Distinct child) asks (alone-numbered j) input all input-below (λ i. refl) in
          let j_is = distinct-asks w number child are.formed (are.bounded number are.has) part are.weights n in
          let k_is = distinct-asks v number child are.formed (are.other_bounded number are.has) part are.weights n in
          let both = distinct-shared (output_key w (terms child)) rows others (outputs-climb w number child) (outputs-climb v number child) rows-count n (λ i le.
          take-map (output_row w) i (list_of w number child) ∙ ap (map (output_row w)) (share Left i (omega arith)).rows ∙ sym (take-map (output_row v) i (list_of v number child))) in
          record {
            rows =
                ap (take (suc n)) (sym (rows-in w (list_of w number (Distinct child))) ∙ ap (map (λ (row : OutputRow). row.row)) (distinct-outputs w number child are.formed (are.bounded number are.has) part are.weights))
                ∙ take-map (λ (row : OutputRow). row.row) (suc n) (firsts rows)
                ∙ ap (map (λ (row : OutputRow). row.row)) both.first
                ∙ sym (take-map (λ (row : OutputRow). row.row) (suc n) (firsts others))
                ∙ sym (ap (take (suc n)) (sym (rows-in v (list_of v number (Distinct child))) ∙ ap (map (λ (row : OutputRow). row.row)) (distinct-outputs v number child are.formed (are.other_bounded number are.has) part are.weights)));
            asked =
                ap (flat_map (puts_of w number (Distinct child))) is
                ∙ puts-shared number (Distinct child) asks (alone-numbered j) input all input-below (λ i. refl)
                ∙ ap (λ c. flat_map (puts_of v number (Distinct child)) (asks_from Left 1 c)) (j_is ∙ both.asks ∙ sym k_is)
                ∙ sym (ap (flat_map (puts_of v number (Distinct child))) other_is);
          }

  -- the worlds of a part of a plan are those of a part with another number
  with-number : (number next : ℕ) → AreWorlds catalogue answer other query number → HasBlock query next → AreWorlds catalogue answer other query next
  with-number number next are has = record { formed = are.formed; has = has; bounded = are.bounded; other_bounded = are.other_bounded; weights = are.weights }

  module _ (are : AreWorlds catalogue answer other query 1) (left right : PlanTree) (part : IsPartOf catalogue query 1 (SetOperator left right))
      (child : (side : JoinSide) → IsChild 1 (SetOperator left right) side) (below : (side : JoinSide) → Certifies catalogue answer other query (of_side 1 2 side) (of_side left right side)) where
    facts : SetFacts w left right
    facts = set-facts catalogue answer w.view query 1 left right are.formed are.bounded are.weights part

    other-facts : SetFacts v left right
    other-facts = set-facts catalogue other v.view query 1 left right are.formed are.other_bounded are.weights part

    outputs-shared : (number : ℕ) (tree : PlanTree) (i : ℕ) → Share catalogue answer other query number tree i → take i (outputs_in w number tree) ≡ take i (outputs_in v number tree)
    outputs-shared number tree i share =
        take-map (output_row w) i (list_of w number tree) ∙ ap (map (output_row w)) share.rows ∙ sym (take-map (output_row v) i (list_of v number tree))

    -- a set operator of sides that are certified
    set-certifies : Certifies catalogue answer other query 1 (SetOperator left right)
    set-certifies zero alike = record { rows = refl; asked = refl }
    set-certifies (suc n) alike =
        let s = sides_for w left in
        let o = operator_of query in
        let tree = SetOperator left right in
        let lefts = outputs_in w 1 left in
        let rights = outputs_in w 2 right in
        let others = outputs_in v 1 left in
        let other_rights = outputs_in v 2 right in
        let asks = set_schedule_of s o lefts rights (suc n) in
        let is = facts.asks (suc n) in
        let other_is = other-facts.asks (suc n) in
        let numbers = (set-shared s o lefts rights lefts rights facts.sides facts.sides (suc n) (λ side i le. refl)).numbered in
        let all = subst (λ (made : List SideAsk). AnswerAlike catalogue answer other (flat_map (puts_of w 1 tree) made)) is alike in
        let share = side-shared 1 tree asks numbers child all below (λ i. refl) in
        let both = set-shared s o lefts rights others other_rights facts.sides other-facts.sides (suc n)
        (on-both (λ side. (i : ℕ) → i ≤ asked side asks → take i (of_side lefts rights side) ≡ take i (of_side others other_rights side))
        (λ i le. outputs-shared 1 left i (share Left i le)) (λ i le. outputs-shared 2 right i (share Right i le))) in
        record {
          rows =
              ap (take (suc n)) (sym (rows-in w (list_of w 1 tree)) ∙ ap (map (λ (row : OutputRow). row.row)) facts.list)
              ∙ both.rows
              ∙ sym (ap (take (suc n)) (sym (rows-in v (list_of v 1 tree)) ∙ ap (map (λ (row : OutputRow). row.row)) other-facts.list));
          asked =
              ap (flat_map (puts_of w 1 tree)) is
              ∙ puts-shared 1 tree asks numbers child all below (λ i. refl)
              ∙ ap (flat_map (puts_of v 1 tree)) (both.asks ∙ sym other_is);
        }

  -- what stands from the set operator on has the number of the first block
  set-number : (q : Query) (number : ℕ) (left right : PlanTree) → IsPartOf catalogue q number (SetOperator left right) → number ≡ 1
  set-number (One block limit) number left right part = absurd part
  set-number (Set op l r limit) number left right part = part.0

  -- and it certifies its rows where its sides do
  set-number-certifies : (number : ℕ) → number ≡ 1 → (left right : PlanTree) → AreWorlds catalogue answer other query number → IsPartOf catalogue query number (SetOperator left right)
      → IsChild number (SetOperator left right) Left → IsChild number (SetOperator left right) Right → Certifies catalogue answer other query 1 left → Certifies catalogue answer other query 2 right
      → Certifies catalogue answer other query number (SetOperator left right)
  set-number-certifies number one left right are part left_child right_child left_below right_below =
      subst (λ m. Certifies catalogue answer other query m (SetOperator left right)) (sym one)
      (set-certifies (subst (AreWorlds catalogue answer other query) one are) left right (subst (λ m. IsPartOf catalogue query m (SetOperator left right)) one part)
      (on-both (IsChild 1 (SetOperator left right)) (record { are = left_child.are; part = left_child.part }) (record { are = right_child.are; part = right_child.part }))
      (on-both (λ side. Certifies catalogue answer other query (of_side 1 2 side) (of_side left right side)) left_below right_below))

  -- without an evaluated term a row's sum is 0
  unevaluated : (all : List Ids) → map (row_under w 0) all ≡ map (row_under v 0) all
  unevaluated [] = refl
  unevaluated (ids ∷ rest) =
      ap₂ (λ (row : RankRow) (more : List RankRow). row ∷ more)
      (ap (λ (sum : ℕ). record { ids = ids; sum = sum }) (sum-none (weights_in w).weight (worths w ids) ∙ sym (sum-none (weights_in v).weight (worths v ids))))
      (unevaluated rest)

  sources-shared : (number : ℕ) (tree : PlanTree) → sources w number tree ≡ sources v number tree
  sources-shared number (SeqScan entry) = refl
  sources-shared number (RankScan entry term index) = refl
  sources-shared number (Rank term child) = sources-shared number child
  sources-shared number (JoinOperator kind left right) = refl
  sources-shared number (Distinct child) =
      same-ids (base_of answer catalogue number (block_in query number) (sizes_in w number)) (base_of other catalogue number (block_in query number) (sizes_in w number))
      (base-unscored catalogue answer other number (block_in query number) (sizes_in w number))
  sources-shared number (SetOperator left right) = same-ids (rows_of answer catalogue query w.view) (rows_of other catalogue query w.view) (query-unscored catalogue answer other query w.view)

  -- a scan asks nothing, and what stands over parts that certify their rows certifies its own
  pub certifies : (number : ℕ) → AreWorlds catalogue answer other query number → (tree : PlanTree) → IsPartOf catalogue query number tree → PlanIndexesHold answer catalogue tree → PlanIndexesHold other catalogue tree
      → Certifies catalogue answer other query number tree
  certifies number are (SeqScan entry) part holds other_holds a alike =
      record { rows = ap (λ (all : List RankRow). take a (sorted key_cmp (key_under w 0) all)) (unevaluated (sources w number (SeqScan entry))); asked = refl }
  certifies number are (RankScan entry term index) part holds other_holds a alike =
      record {
        rows = ap (take a) (index-list w number entry term index are.formed part holds (sizes-are catalogue answer query number are.has)
            ∙ sym (index-list v number entry term index are.formed part other_holds (sizes-are catalogue other query number are.has)));
        asked = refl;
      }
  certifies number are (Rank term child) part holds other_holds a alike =
      rank-certifies catalogue answer other query number are term child part (certifies number are child part.0 holds other_holds) (sources-shared number child) a alike
  certifies number are (JoinOperator kind left right) part holds other_holds a alike =
      join-certifies number are kind left right part
      (certifies number are left (part-of catalogue query number left part.0) holds.0 other_holds.0)
      (certifies number are right (part-of catalogue query number right part.1) holds.1 other_holds.1)
      (sources-shared number left) (sources-shared number right) a alike
  certifies number are (Distinct child) part holds other_holds a alike =
      distinct-certifies number are child part (certifies number are child (part-of catalogue query number child part.0) holds other_holds) (sources-shared number child) a alike
  certifies number are (SetOperator left right) part holds other_holds a alike =
      let held : IsHeldPart catalogue answer query number (SetOperator left right) = record { number_is = are.has; part = part; indexes = holds } in
      let l = child-held catalogue answer query number (SetOperator left right) Left held in
      let r = child-held catalogue answer query number (SetOperator left right) Right held in
      let left_are = with-number number 1 are l.number_is in
      let right_are = with-number number 2 are r.number_is in
      set-number-certifies number (set-number query number left right part) left right are part (record { are = left_are; part = l.part }) (record { are = right_are; part = r.part })
      (certifies 1 left_are left l.part holds.0 other_holds.0) (certifies 2 right_are right r.part holds.1 other_holds.1) a alike

module _ (catalogue : CatalogDef) (answer other : Answering) where
  -- questions that are answered alike end in the same
  through-alike : (asked : List Question) → AnswerAlike catalogue answer other asked → through_first (is_bad answer catalogue) asked ≡ through_first (is_bad other catalogue) asked
  through-alike [] alike = refl
  through-alike (q ∷ asked) alike =
      ap₂ (λ (b : Bool) (rest : List Question). q ∷ cond b [] rest) (ap (λ got. not (is_score (max_for catalogue q) got)) alike.0) (through-alike asked alike.1)

  outcome-alike : {A : Type 0} (asked : List Question) (value : A) → AnswerAlike catalogue answer other asked
      → outcome_for exec_faults answer catalogue (first_of (is_bad answer catalogue) asked) value ≡ outcome_for exec_faults other catalogue (first_of (is_bad other catalogue) asked) value
  outcome-alike [] value alike = refl
  outcome-alike (q ∷ asked) value alike =
      go q asked value (is_bad answer catalogue q) (is_bad other catalogue q) alike.0 (ap (λ got. not (is_score (max_for catalogue q) got)) alike.0) (outcome-alike asked value alike.1) where
        go : {A : Type 0} (q : Question) (asked : List Question) (value : A) (b c : Bool) → got_for answer catalogue q ≡ got_for other catalogue q → b ≡ c
            → outcome_for exec_faults answer catalogue (first_of (is_bad answer catalogue) asked) value ≡ outcome_for exec_faults other catalogue (first_of (is_bad other catalogue) asked) value
            → outcome_for exec_faults answer catalogue (cond b (Some q) (first_of (is_bad answer catalogue) asked)) value
            ≡ outcome_for exec_faults other catalogue (cond c (Some q) (first_of (is_bad other catalogue) asked)) value
        go q asked value true true own same rest = ap (λ got. Err (exec_faults.bad q.term.predicate (ids_for q) got (max_for catalogue q))) own
        go q asked value false false own same rest = rest
        go q asked value true false own same rest = absurd (cc)
        go q asked value false true own same rest = absurd (cc)

  asking-alike : {A : Type 0} (asked : List Question) (value : A) → AnswerAlike catalogue answer other asked → asking exec_faults answer catalogue asked value ≡ asking exec_faults other catalogue asked value
  asking-alike {A} asked value alike =
      ap₂ (λ (qs : List Question) (outcome : Result A ExecFault). record { requests = map (request_for exec_faults catalogue) qs; outcome = outcome })
      (through-alike asked alike) (outcome-alike asked value alike)

-- a plan
module _ (catalogue : CatalogDef) (answer other : Answering) (query : Query) (tree : PlanTree) (n : ℕ)
    (fits : AnswersFit catalogue query tree answer) (other_fits : AnswersFit catalogue query tree other) where
  pub are-worlds : AreWorlds catalogue answer other query 1
  are-worlds = record {
    formed = fits.formed;
    has = first-block query;
    bounded = bounded-world catalogue answer query fits.formed fits.bounded;
    other_bounded = bounded-world catalogue other query fits.formed other_fits.bounded;
    weights = fits.weights;
  }

  shared : (a : ℕ) → AnswerAlike catalogue answer other (questions (world_of catalogue answer query) 1 tree a) → Share catalogue answer other query 1 tree a
  shared = certifies catalogue answer other query 1 are-worlds tree (plan-part catalogue query tree fits.plan) fits.indexes other_fits.indexes

  pub certified-rows : AnswerAlike catalogue answer other (questions (world_of catalogue answer query) 1 tree n)
      → take n (answers_of (world_of catalogue answer query) tree) ≡ take n (answers_of (world_of catalogue other query) tree)
  certified-rows alike =
      take-map (answer_for (world_of catalogue answer query)) n (list_of (world_of catalogue answer query) 1 tree)
      ∙ ap (map (answer_for (world_of catalogue answer query))) (shared n alike).rows
      ∙ sym (take-map (answer_for (world_of catalogue other query)) n (list_of (world_of catalogue other query) 1 tree))

  pub certified-calls : AnswerAlike catalogue answer other (questions (world_of catalogue answer query) 1 tree n)
      → calls_of_plan (world_of catalogue answer query) tree n ≡ calls_of_plan (world_of catalogue other query) tree n
  certified-calls alike = ap (map (call_for catalogue)) (shared n alike).asked

  -- the questions of the last ask alone
  pub certified-next : AnswerAlike catalogue answer other (questions (world_of catalogue answer query) 1 tree (suc n))
      → next_answer (world_of catalogue answer query) tree n ≡ next_answer (world_of catalogue other query) tree n
  certified-next alike =
      let w = world_of catalogue answer query in
      let v = world_of catalogue other query in
      let view = subst (λ (sizes : List ℕ). IsView sizes (sizes_of catalogue (block_in query 1))) (sym (sizes-are catalogue answer query 1 (first-block query))) (IsView-itself (sizes_of catalogue (block_in query 1))) in
      let split = subst (AnswerAlike catalogue answer other)
      (grows w 1 tree n fits.formed (first-block query) are-worlds.bounded view (plan-part catalogue query tree fits.plan) fits.weights) alike in
      let before = each-front (λ (q : Question). got_for answer catalogue q ≡ got_for other catalogue q) (questions w 1 tree n) (questions_of_ask w 1 tree (suc n)) split in
      let last = each-behind (λ (q : Question). got_for answer catalogue q ≡ got_for other catalogue q) (questions w 1 tree n) (questions_of_ask w 1 tree (suc n)) split in
      let now = shared (suc n) alike in
      asking-alike catalogue answer other (questions_of_ask w 1 tree (suc n)) (option_map (answer_for w) (slice_get (list_of w 1 tree) n)) last
      ∙ ap₂ (λ (asked : List Question) (row : Option RankRow). asking exec_faults other catalogue asked (option_map (answer_for w) row))
      (ap₂ (λ (xs ys : List Question). drop (length xs) ys) (shared n before).asked now.asked)
      (slice_get-shared n (list_of w 1 tree) (list_of v 1 tree) now.rows)

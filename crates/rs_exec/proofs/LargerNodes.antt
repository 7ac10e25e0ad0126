-- A cursor that stands goes on to stand in a larger catalogue: it reads nothing of what joined.
use Rattle.std.proofs.Common.{◌≡◌, ◌∙◌, ℕ, zero, suc, ◌-◌, ◌≤◌, ◌==◌, true, false, List, [], ◌∷◌, length, map, take, bit_or, refl, sym, ap, subst}
use Rattle.std.specs.Prelude.{if◌then◌else◌, min, nat_le, slice_get, slice_index, unwrap_or}
use Rattle.std.specs.List.{filter, AllByRecursion}
use Rattle.rs_query.specs.Tables.{HasRows, row_number, sizes_of}
use Rattle.rs_query.specs.Tops.{IsBounded}
use Rattle.rs_query.proofs.BoundedFacts.{same-in}
use Rattle.rs_filter.specs.Conditions.{conditions_of}
use Rattle.rs_order.specs.Asks.{bar_after}
use Rattle.rs_order.specs.Schedule.{JoinSide, Left, Right, SideAsk, is_of_side}
use Rattle.rs_order.specs.Sorting.{sorted}
use Rattle.rs_rank.specs.Keys.{key_cmp}
use Rattle.rs_rank.specs.Masks.{has_number, mask_of}
use Rattle.rs_rank.specs.Weights.{evaluated}
use Rattle.rs_rank.specs.declared.ids.Ids.{Ids}
use Rattle.rs_rank.specs.declared.key.Key.{Key}
use Rattle.rs_rank.specs.declared.row.RankRow.{RankRow}
use Rattle.rs_rank.specs.declared.scored_row.ScoredRow.{ScoredRow}
use Rattle.rs_expr.specs.Scoring.{Answering}
use Rattle.rs_mu.specs.Stands.{state_after}
use Rattle.rs_catalog.specs.Catalog.{CatalogDef}
use Rattle.rs_scan.specs.Scans.{last_at}
use Rattle.rs_query.specs.Answers.{rows_of, set_base, worth_of}
use Rattle.rs_query.specs.Views.{all_rows}
use Rattle.rs_query.specs.declared.block.Block.{Block}
use Rattle.rs_query.specs.declared.query.Query.{Query}
use Rattle.rs_query.specs.declared.query.Query.TheVariants.{One, Set}
use Rattle.rs_plan.specs.Asks.{asks_alone, child_asks, query_schedule}
use Rattle.rs_plan.specs.Counts.{asked_of, drawn_to, gave_of, place_in_index, place_in_table, size_at}
use Rattle.rs_plan.specs.Lists.{World, ids_of, key_under, list_of, row_under, sizes_in, sources, weights_in, worths}
use Rattle.rs_query.specs.Blocks.{block_in}
use Rattle.rs_plan.specs.Plans.{IsPart, IsRankScan}
use Rattle.rs_plan.specs.Trees.{Distinct, Hash, JoinKind, JoinOperator, Nested, Rank, RankScan, SeqScan, SetOperator, PlanTree, entries, terms}
use Rattle.rs_exec.specs.Asking.{world_of}
use Rattle.rs_exec.specs.Distincts.{distinct_node_after}
use Rattle.rs_exec.specs.OutputValues.{output_row, outputs_in}
use Rattle.rs_outputs.specs.Rows.{OutputRow, lists_of}
use Rattle.rs_rank.specs.declared.answer.Answer.{Answer}
use Rattle.rs_exec.specs.Cursors.{CursorState, StandsFor, asks_of, plan_of}
use Rattle.rs_rank.specs.Merging.{merge_key}
use Rattle.rs_rank.specs.Turns.{join_schedule}
use Rattle.rs_ripple.specs.After.{joined_after}
use Rattle.rs_ripple.specs.Joined.{Joined}
use Rattle.rs_exec.specs.Cores.{core_of, kind_of, with_values}
use Rattle.rs_exec.specs.Drawing.{entry_conjuncts}
use Rattle.rs_exec.specs.Covering.{Covers, CoversBlock}
use Rattle.rs_exec.specs.Joining.{side_for}
use Rattle.rs_exec.specs.Indexes.{PlanIndexesHold}
use Rattle.rs_exec.specs.Nodes.{asked_in, tree_in}
use Rattle.rs_exec.specs.Parts.{IsPartOf}
use Rattle.rs_exec.specs.SetCores.{CoreStands}
use Rattle.rs_exec.specs.SetNodes.{SetStands, operator_of, sides_for}
use Rattle.rs_exec.specs.declared.set.SetNode.{SetNode}
use Rattle.rs_exec.specs.Standing.{Stands, index_node_after, join_node_after, joined_from, rank_node_after, table_node_after}
use Rattle.rs_exec.specs.declared.join_core.JoinCore.TheVariants as core
use Rattle.rs_exec.specs.declared.node.PlanNode.{PlanNode}
use Rattle.rs_exec.specs.declared.node.PlanNode.TheVariants as node
use Rattle.rs_exec.proofs.CoversFacts.{block-covered, covers}
use Rattle.rs_catalog.proofs.JoinedFacts.{joined}
use Rattle.rs_exec.proofs.LargerFacts.{base-same, combinations-same, indexes-larger, joins-same, left_values-same, outputs-same, plan-larger, query-larger, ranking-same, right_values-same, size-same, worths-same}
use Rattle.rs_exec.proofs.PlacesFacts.{part-of, plan-part}

-- the tables of a block are as large
tables-same : (catalogue more : CatalogDef) (block : Block) → CoversBlock catalogue block → sizes_of (joined catalogue more) block ≡ sizes_of catalogue block
tables-same catalogue more block covered = λ i. map (size-same catalogue more block covered i) (1 ∷ 2 ∷ 3 ∷ 4 ∷ 5 ∷ 6 ∷ [])

-- a query sees the same rows of its tables
view-same : (catalogue more : CatalogDef) (query : Query) → Covers catalogue query → all_rows (joined catalogue more) query ≡ all_rows catalogue query
view-same catalogue more (One block limit) covered = λ i. record { first = map (size-same catalogue more block covered i) (1 ∷ 2 ∷ 3 ∷ 4 ∷ 5 ∷ 6 ∷ []); second = [] }
view-same catalogue more (Set op left right limit) covered = λ i. record {
  first = map (size-same catalogue more left covered.0 i) (1 ∷ 2 ∷ 3 ∷ 4 ∷ 5 ∷ 6 ∷ []);
  second = map (size-same catalogue more right covered.1 i) (1 ∷ 2 ∷ 3 ∷ 4 ∷ 5 ∷ 6 ∷ []);
}

-- and has the same rows
rows-same : (catalogue more : CatalogDef) (answer : Answering) (query : Query) → Covers catalogue query
    → rows_of answer (joined catalogue more) query (all_rows (joined catalogue more) query) ≡ rows_of answer catalogue query (all_rows catalogue query)
rows-same catalogue more answer (One block limit) covered = λ i. base-same catalogue more block covered answer 1 i (view-same catalogue more (One block limit) covered i).first
rows-same catalogue more answer (Set op left right limit) covered = λ i.
    set_base op (base-same catalogue more left covered.0 answer 1 i (view-same catalogue more (Set op left right limit) covered i).first)
    (base-same catalogue more right covered.1 answer 2 i (view-same catalogue more (Set op left right limit) covered i).second)

-- the sides of a set operator are plans of both blocks
side-parts : (catalogue : CatalogDef) (query : Query) (number : ℕ) (left right : PlanTree) → IsPartOf catalogue query number (SetOperator left right)
    → IsPart catalogue (block_in query 1) left × IsPart catalogue (block_in query 2) right
side-parts catalogue (One block limit) number left right part = absurd part
side-parts catalogue (Set op l r limit) number left right part = (part.1.part, part.2.part)

-- the indexes of a part of a plan go on to hold the answers
indexes_of-larger : (catalogue more : CatalogDef) (query : Query) (number : ℕ) → Covers catalogue query → (answer : Answering) (tree : PlanTree) → IsPartOf catalogue query number tree
    → PlanIndexesHold answer catalogue tree → PlanIndexesHold answer (joined catalogue more) tree
indexes_of-larger catalogue more query number covered answer (SeqScan entry) part holds = holds
indexes_of-larger catalogue more query number covered answer (Rank term child) part holds = indexes_of-larger catalogue more query number covered answer child part.0 holds
indexes_of-larger catalogue more query number covered answer (SetOperator left right) part holds =
    let parts = side-parts catalogue query number left right part in (
      indexes-larger catalogue more (block_in query 1) (block-covered catalogue query 1 covered) answer left parts.0 holds.0,
      indexes-larger catalogue more (block_in query 2) (block-covered catalogue query 2 covered) answer right parts.1 holds.1,
    )
indexes_of-larger catalogue more query number covered answer tree part holds =
    indexes-larger catalogue more (block_in query number) (block-covered catalogue query number covered) answer tree part holds

module _ (catalogue more : CatalogDef) (answer : Answering) (query : Query) (covered : Covers catalogue query) where
  abbrev small : World
  small = world_of catalogue answer query

  abbrev large : World
  large = world_of (joined catalogue more) answer query

  block-is : (number : ℕ) → CoversBlock catalogue (block_in query number)
  block-is number = block-covered catalogue query number covered

  sizes-same : (number : ℕ) → sizes_in large number ≡ sizes_in small number
  sizes-same number = λ i. if number == 1 then (view-same catalogue more query covered i).first else (view-same catalogue more query covered i).second

  size_at-same : (number entry : ℕ) → size_at large number entry ≡ size_at small number entry
  size_at-same number entry = λ i. unwrap_or (slice_get (sizes-same number i) (entry - 1)) 0

  worth-is : (ids : Ids) → worths large ids ≡ worths small ids
  worth-is ids = worths-same catalogue more (block_in query ids.block) (block-is ids.block) answer ids.rows

  ids-same : (number mask : ℕ) → ids_of large number mask ≡ ids_of small number mask
  ids-same number mask = λ i.
      map (λ (rows : List ℕ). record { block = number; mask = mask; rows = rows })
      (combinations-same catalogue more (block_in query number) (block-is number) i (sizes-same number i) mask)

  -- so the lists of its plans are the same
  sources-same : (number : ℕ) (tree : PlanTree) → sources large number tree ≡ sources small number tree
  sources-same number (SeqScan entry) = ids-same number (mask_of entry)
  sources-same number (RankScan entry term index) = ids-same number (mask_of entry)
  sources-same number (Rank term child) = sources-same number child
  sources-same number (JoinOperator kind left right) = ids-same number (bit_or (entries left) (entries right))
  sources-same number (Distinct child) = λ i.
      map (λ (row : Answer). row.ids) (base-same catalogue more (block_in query number) (block-is number) answer number i (sizes-same number i))
  sources-same number (SetOperator left right) = λ i. map (λ (row : Answer). row.ids) (rows-same catalogue more answer query covered i)

  row-same : (mask : ℕ) → row_under large mask ≡ row_under small mask
  row-same mask = λ i ids. record { ids = ids; sum = evaluated (weights_in small) mask (worth-is ids i) }

  pub list-same : (number : ℕ) (tree : PlanTree) → list_of large number tree ≡ list_of small number tree
  list-same number tree = λ i. sorted key_cmp (key_under small (terms tree)) (map (row-same (terms tree) i) (sources-same number tree i))

  gave-same : (number : ℕ) (tree : PlanTree) → (a : ℕ) → gave_of large number tree a ≡ gave_of small number tree a
  gave-same number tree a = λ i. min a (length (list-same number tree i))

  asked-same : (number term : ℕ) (child : PlanTree) → (a : ℕ) → asked_of large number (Rank term child) a Left ≡ asked_of small number (Rank term child) a Left
  asked-same number term child zero = refl
  asked-same number term child (suc n) = λ i.
      length (filter (is_of_side Left) (asks_alone (map (key_under small (terms child)) (list-same number child i))
      (bar_after (λ (key : Key). key) (map (key_under small (terms (Rank term child))) (list-same number (Rank term child) i)) n)))

  join_asked-same : (number : ℕ) (kind : JoinKind) (left right : PlanTree) → (a : ℕ) (side : JoinSide)
      → asked_of large number (JoinOperator kind left right) a side ≡ asked_of small number (JoinOperator kind left right) a side
  join_asked-same number kind left right zero side = refl
  join_asked-same number kind left right (suc n) side = λ i.
      length (filter (is_of_side side) (join_schedule key_cmp (merge_key (weights_in small) (terms left) (terms right))
      (map (key_under small (terms left)) (list-same number left i)) (map (key_under small (terms right)) (list-same number right i))
      (bar_after (λ (key : Key). key) (map (key_under small (terms (JoinOperator kind left right))) (list-same number (JoinOperator kind left right) i)) n)))

  distinct_asked-same : (number : ℕ) (child : PlanTree) → (a : ℕ) → asked_of large number (Distinct child) a Left ≡ asked_of small number (Distinct child) a Left
  distinct_asked-same number child zero = refl
  distinct_asked-same number child (suc n) = λ i.
      length (filter (is_of_side Left) (asks_alone (map (key_under small (terms child)) (list-same number child i))
      (bar_after (λ (key : Key). key) (map (key_under small (terms (Distinct child))) (list-same number (Distinct child) i)) n)))

  set_asks-same : (left right : PlanTree) → (a : ℕ) → child_asks large 1 (SetOperator left right) a ≡ child_asks small 1 (SetOperator left right) a
  set_asks-same left right zero = refl
  set_asks-same left right (suc n) = λ i.
      query_schedule query (map (key_under small (terms left)) (list-same 1 left i)) (map (key_under small (terms right)) (list-same 2 right i))
      (bar_after (λ (key : Key). key) (map (key_under small (terms left)) (list-same 1 (SetOperator left right) i)) n)

  set_asked-same : (left right : PlanTree) → (a : ℕ) (side : JoinSide)
      → asked_of large 1 (SetOperator left right) a side ≡ asked_of small 1 (SetOperator left right) a side
  set_asked-same left right a side = λ i. length (filter (is_of_side side) (set_asks-same left right a i))

  output-same : output_row large ≡ output_row small
  output-same = λ i row. record { row = row; values = outputs-same catalogue more (block_in query row.ids.block) (block-is row.ids.block) i row.ids.rows }

  -- and what its nodes keep
  table-same : (number entry a : ℕ) → table_node_after large number entry a ≡ table_node_after small number entry a
  table-same number entry a = λ i. record {
    scan = record {
      entry = entry;
      block = number;
      rows = size_at-same number entry i;
      drawn = drawn_to (place_in_table entry) (size_at-same number entry i) (list-same number (SeqScan entry) i) a;
    };
    block = number;
    entry = entry;
    conjuncts = entry_conjuncts (block_in query number) entry;
    tally = record { asked = a; gave = gave-same number (SeqScan entry) a i };
  }

  index-same : (number entry term index : ℕ) → IsRankScan catalogue (block_in query number) entry term index → (a : ℕ)
      → index_node_after large number entry term index a ≡ index_node_after small number entry term index a
  index-same number entry term index scans a =
      let ranking = ranking-same catalogue more (block_in query number) (block-is number) entry term index scans in
      λ i. record {
        scan = record {
          index = index;
          entry = entry;
          block = number;
          weight = slice_index (weights_in small).weight (term - 1);
          rows = size_at-same number entry i;
          drawn = drawn_to (place_in_index (filter (λ (e : ScoredRow). nat_le e.row (size_at-same number entry i)) (ranking i)) entry) (size_at-same number entry i)
              (list-same number (RankScan entry term index) i) a;
          last = last_at (ranking i) (drawn_to (place_in_index (filter (λ (e : ScoredRow). nat_le e.row (size_at-same number entry i)) (ranking i)) entry) (size_at-same number entry i)
              (list-same number (RankScan entry term index) i) a);
        };
        block = number;
        entry = entry;
        term = term;
        conjuncts = entry_conjuncts (block_in query number) entry;
        tally = record { asked = a; gave = gave-same number (RankScan entry term index) a i };
      }

  rank-same : (number term : ℕ) (child : PlanTree) → (a : ℕ) → rank_node_after large number term child a ≡ rank_node_after small number term child a
  rank-same number term child a = λ i. record {
    core = state_after (record {
      weights = weights_in small;
      terms = terms child;
      term = term;
      worth = λ (row : RankRow). slice_index (worth-is row.ids i) (term - 1);
    }) (list-same number child i) (asked-same number term child a i) (gave-same number (Rank term child) a i);
    term = term;
    args = tt;
    tally = record { asked = a; gave = gave-same number (Rank term child) a i };
    calls = min (asked-same number term child a i) (length (list-same number child i));
  }

  joined-same : (number : ℕ) (kind : JoinKind) (left right : PlanTree) → (a : ℕ)
      → joined_from large number left right (asked_of large number (JoinOperator kind left right) a Left) (asked_of large number (JoinOperator kind left right) a Right) (gave_of large number (JoinOperator kind left right) a)
      ≡ joined_from small number left right (asked_of small number (JoinOperator kind left right) a Left) (asked_of small number (JoinOperator kind left right) a Right) (gave_of small number (JoinOperator kind left right) a)
  joined-same number kind left right a = λ i.
      joined_after (record {
        weights = weights_in small;
        block = number;
        left = side_for left;
        right = side_for right;
        matches = joins-same catalogue more (block_in query number) (block-is number) i (entries left) (entries right);
      }) (list-same number left i) (list-same number right i)
      (join_asked-same number kind left right a Left i) (join_asked-same number kind left right a Right i)
      (gave-same number (JoinOperator kind left right) a i)

  core-same : (number : ℕ) (kind : JoinKind) (left right : ℕ) (large_rows small_rows : Joined) → large_rows ≡ small_rows
      → core_of kind (joined catalogue more) (block_in query number) left right large_rows ≡ core_of kind catalogue (block_in query number) left right small_rows
  core-same number Nested left right large_rows small_rows same = ap core.Nested same
  core-same number Hash left right large_rows small_rows same = λ i. core.Hash (record {
    ripple = (same i).ripple;
    lefts = with_values (left_values-same catalogue more (block_in query number) (block-is number) i left right) (same i).lefts;
    rights = with_values (right_values-same catalogue more (block_in query number) (block-is number) i left right) (same i).rights;
  })

  conditions-same : (number left right : ℕ) → conditions_of (joined catalogue more) (block_in query number) left right ≡ conditions_of catalogue (block_in query number) left right
  conditions-same number left right = λ i. record (conditions_of catalogue (block_in query number) left right) {
    sizes = tables-same catalogue more (block_in query number) (block-is number) i;
  }

  join-same : (number : ℕ) (kind : JoinKind) (left right : PlanTree) → (a : ℕ)
      → join_node_after large number kind left right a ≡ join_node_after small number kind left right a
  join-same number kind left right a =
      let kept = core-same number kind (entries left) (entries right)
      (joined_from large number left right (asked_of large number (JoinOperator kind left right) a Left) (asked_of large number (JoinOperator kind left right) a Right) (gave_of large number (JoinOperator kind left right) a))
      (joined_from small number left right (asked_of small number (JoinOperator kind left right) a Left) (asked_of small number (JoinOperator kind left right) a Right) (gave_of small number (JoinOperator kind left right) a))
      (joined-same number kind left right a) in
      λ i. record {
        core = kept i;
        block = number;
        conditions = conditions-same number (entries left) (entries right) i;
        tally = record { asked = a; gave = gave-same number (JoinOperator kind left right) a i };
      }

  distinct-same : (number : ℕ) (child : PlanTree) → (a : ℕ) → distinct_node_after large number child a ≡ distinct_node_after small number child a
  distinct-same number child a = λ i. record {
    core = record { lists = lists_of (take (distinct_asked-same number child a i) (map (output-same i) (list-same number child i))); spent = false };
    tally = record { asked = a; gave = gave-same number (Distinct child) a i };
  }

  set-stands : (head : SetNode) (left right : PlanTree) (left_asks right_asks : ℕ) → SetStands small head left right left_asks right_asks
      → SetStands large head left right left_asks right_asks
  set-stands head left right left_asks right_asks is =
      let tree = SetOperator left right in
      let a = head.tally.asked in
      let gave = gave-same 1 tree a in
      let outputs : (number : ℕ) (side : PlanTree) → outputs_in large number side ≡ outputs_in small number side = λ number side i. map (output-same i) (list-same number side i) in
      record {
        core = subst (λ (rows : List OutputRow). CoreStands (sides_for large left) (operator_of query) rows (outputs_in large 2 right) (child_asks large 1 tree a) (gave_of large 1 tree a) head.core)
            (sym (outputs 1 left))
            (subst (λ (rows : List OutputRow). CoreStands (sides_for large left) (operator_of query) (outputs_in small 1 left) rows (child_asks large 1 tree a) (gave_of large 1 tree a) head.core)
            (sym (outputs 2 right))
            (subst (λ (asks : List SideAsk). CoreStands (sides_for large left) (operator_of query) (outputs_in small 1 left) (outputs_in small 2 right) asks (gave_of large 1 tree a) head.core)
            (sym (set_asks-same left right a))
            (subst (λ n. CoreStands (sides_for large left) (operator_of query) (outputs_in small 1 left) (outputs_in small 2 right) (child_asks small 1 tree a) n head.core) (sym gave) is.core)));
        gave = is.gave ∙ sym gave;
        left_asked = is.left_asked ∙ sym (set_asked-same left right a Left);
        right_asked = is.right_asked ∙ sym (set_asked-same left right a Right);
      }

  stands-larger : (number : ℕ) (n : PlanNode) → IsPartOf catalogue query number (tree_in n) → Stands small number n → Stands large number n
  stands-larger number (node.SeqScan head) part is = is ∙ sym (table-same number head.entry head.tally.asked)
  stands-larger number (node.RankScan head) part is = is ∙ sym (index-same number head.entry head.term head.scan.index part head.tally.asked)
  stands-larger number (node.Rank' head p child) part is = (
    record {
      keeps = is.0.keeps ∙ sym (rank-same number head.term (tree_in child) head.tally.asked);
      asked = is.0.asked ∙ sym (asked-same number head.term (tree_in child) head.tally.asked);
    },
    stands-larger number child part.0 is.1,
  )
  stands-larger number (node.Join' head p left q right) part is = (
    record {
      keeps = is.0.keeps ∙ sym (join-same number (kind_of head.core) (tree_in left) (tree_in right) head.tally.asked);
      left_asked = is.0.left_asked ∙ sym (join_asked-same number (kind_of head.core) (tree_in left) (tree_in right) head.tally.asked Left);
      right_asked = is.0.right_asked ∙ sym (join_asked-same number (kind_of head.core) (tree_in left) (tree_in right) head.tally.asked Right);
    },
    stands-larger number left (part-of catalogue query number (tree_in left) part.0) is.1,
    stands-larger number right (part-of catalogue query number (tree_in right) part.1) is.2,
  )
  stands-larger number (node.Distinct' head p child) part is = (
    record {
      keeps = is.0.keeps ∙ sym (distinct-same number (tree_in child) head.tally.asked);
      asked = is.0.asked ∙ sym (distinct_asked-same number (tree_in child) head.tally.asked);
    },
    stands-larger number child (part-of catalogue query number (tree_in child) part.0) is.1,
  )
  stands-larger number (node.Set' head p left q right) part is =
      let parts = side-parts catalogue query number (tree_in left) (tree_in right) part in (
        is.0,
        set-stands head (tree_in left) (tree_in right) (asked_in left) (asked_in right) is.1,
        stands-larger 1 left (part-of catalogue query 1 (tree_in left) parts.0) is.2,
        stands-larger 2 right (part-of catalogue query 2 (tree_in right) parts.1) is.3,
      )

-- what joins gives its rows no other worths
bounded-larger : (catalogue more : CatalogDef) (query : Query) → Covers catalogue query → (answer : Answering) → IsBounded answer catalogue query → IsBounded answer (joined catalogue more) query
bounded-larger catalogue more query covered answer bounded number rows term there has =
    let block = block_in query number in
    let own = block-covered catalogue query number covered in
    let fewer : HasRows catalogue block term.entries rows =
    subst (λ (size : ℕ → ℕ). (entry : ℕ) → 1 ≤ entry → entry ≤ length block.from → has_number term.entries entry ≡ true → (1 ≤ row_number rows entry) × (row_number rows entry ≤ size entry))
    (size-same catalogue more block own) has in
    let same : worth_of answer (joined catalogue more) block rows term ≡ worth_of answer catalogue block rows term =
    same-in (worth_of answer (joined catalogue more) block rows) (worth_of answer catalogue block rows) block.terms term (worths-same catalogue more block own answer rows) there in
    subst (λ worth. worth ≤ term.max) (sym same) (bounded number rows term there fewer)

pub cursor-larger : (catalogue more : CatalogDef) (answer : Answering) (cursor : CursorState) → StandsFor catalogue answer cursor → StandsFor (joined catalogue more) answer cursor
cursor-larger catalogue more answer cursor stands =
    let query = cursor.query in
    let tree = plan_of cursor in
    let part = plan-part catalogue query tree stands.plan in
    let covered = covers catalogue query stands.query in
    record {
      sound = stands.sound;
      query = query-larger catalogue more query stands.query;
      plan = plan-larger catalogue more query tree stands.plan;
      indexes = indexes_of-larger catalogue more query 1 covered answer tree part stands.indexes;
      bounded = bounded-larger catalogue more query covered answer stands.bounded;
      tables = λ number. subst (AllByRecursion (λ size. size ≤ 131072))
          (sym (tables-same catalogue more (block_in query number) (block-covered catalogue query number covered))) (stands.tables number);
      weights = stands.weights;
      nodes = stands-larger catalogue more answer query covered 1 cursor.root part stands.nodes;
      asks = subst (λ (rows : List RankRow). asks_of cursor ≤ suc (length rows)) (sym (list-same catalogue more answer query covered 1 tree)) stands.asks;
    }

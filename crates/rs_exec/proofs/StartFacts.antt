-- Nodes that are made stand before any ask.
use Rattle.std.proofs.Common.{◌≡◌, ◌∙◌, ℕ, zero, suc, ◌-◌, ◌≤◌, Bool, false, List, [], ◌∷◌, length, map, None, refl, sym, ap, ap₂, subst, arith}
use Rattle.std.specs.Prelude.{min, nat_lt, slice_get, slice_index, unwrap_or}
use Rattle.std.proofs.lemmas.Bool.Decides.{nat_tests}
use Rattle.rs_filter.specs.Conditions.{conditions_of}
use Rattle.rs_filter.specs.Distinct.{new_distinct}
use Rattle.rs_mu.specs.Mu.{new_mu}
use Rattle.rs_query.specs.Answers.{weights_of}
use Rattle.rs_query.specs.Tables.{size_of, sizes_of}
use Rattle.rs_query.specs.declared.block.Block.{Block}
use Rattle.rs_catalog.specs.Catalog.{CatalogDef}
use Rattle.rs_rank.specs.declared.weights.Weights.{Weights}
use Rattle.rs_plan.specs.Counts.{size_at}
use Rattle.rs_plan.specs.Lists.{World, list_of, numbered_block, sizes_in, weights_in}
use Rattle.rs_plan.specs.Plans.{IsEntryNumber, IsPart}
use Rattle.rs_plan.specs.Trees.{Distinct, Hash, JoinKind, JoinOperator, Nested, Rank, RankScan, SeqScan, PlanTree, entries, terms}
use Rattle.rs_ripple.specs.Joined.{Joined, new_joined}
use Rattle.rs_ripple.specs.Stands.{side_keys, state_after}
use Rattle.rs_ripple.specs.declared.side.Side.{Side}
use Rattle.rs_exec.specs.Cores.{core_of, kind_of, new_join_core}
use Rattle.rs_exec.specs.Distincts.{DropsStand, distinct_node_after}
use Rattle.rs_exec.specs.Joining.{join_for, side_for}
use Rattle.rs_exec.specs.Nodes.{asked_in, tree_in}
use Rattle.rs_exec.specs.Standing.{HeadStands, JoinStands, Stands, core_after, index_node_after, join_node_after, joined_from, rank_node_after, table_node_after, tally_after}
use Rattle.rs_exec.specs.Starting.{IsStart, no_tally, new_table_node, new_index_node}
use Rattle.rs_exec.specs.declared.distinct.DistinctNode.{DistinctNode}
use Rattle.rs_exec.specs.declared.join.JoinNode.{JoinNode}
use Rattle.rs_exec.specs.declared.join_core.JoinCore.{JoinCore}
use Rattle.rs_exec.specs.declared.node.PlanNode.{PlanNode}
use Rattle.rs_exec.specs.declared.node.PlanNode.TheVariants as node
use Rattle.rs_exec.specs.declared.rank.RankNode.{RankNode}
use Rattle.rs_exec.specs.declared.scan.IndexNode.{IndexNode}
use Rattle.rs_exec.specs.declared.scan.TableNode.{TableNode}
use Rattle.rs_exec.specs.declared.tally.Tally.{Tally}

-- a new core is of its kind
new-kind : (kind : JoinKind) (weights : Weights) (left right : Side) → kind_of (new_join_core kind weights left right) ≡ kind
new-kind Nested weights left right = refl
new-kind Hash weights left right = refl

-- the nodes are of the tree that they were made for
pub start-tree : (catalogue : CatalogDef) (block : Block) (number : ℕ) (tree : PlanTree) (n : PlanNode) → IsStart catalogue block number tree n → tree_in n ≡ tree
start-tree catalogue block number (SeqScan entry) (node.SeqScan head) is = ap (λ (h : TableNode). SeqScan h.entry) is
start-tree catalogue block number (RankScan entry term index) (node.RankScan head) is = ap (λ (h : IndexNode). RankScan h.entry h.term h.scan.index) is
start-tree catalogue block number (Rank term child) (node.Rank' head p below) is =
    ap (λ (h : RankNode). Rank h.term (tree_in below)) is.0 ∙ ap (Rank term) (start-tree catalogue block number child below is.1)
start-tree catalogue block number (JoinOperator kind left right) (node.Join' head p l q r) is =
    ap (λ (h : JoinNode). JoinOperator (kind_of h.core) (tree_in l) (tree_in r)) is.0
    ∙ ap (λ (k : JoinKind). JoinOperator k (tree_in l) (tree_in r)) (new-kind kind (weights_of block) (side_for left) (side_for right))
    ∙ ap₂ (JoinOperator kind) (start-tree catalogue block number left l is.1) (start-tree catalogue block number right r is.2)
start-tree catalogue block number (Distinct child) (node.Distinct' head p below) is = ap Distinct (start-tree catalogue block number child below is.1)
start-tree catalogue block number tree n is = absurd is

-- they were not asked
pub start-asked : (catalogue : CatalogDef) (block : Block) (number : ℕ) (tree : PlanTree) (n : PlanNode) → IsStart catalogue block number tree n → asked_in n ≡ 0
start-asked catalogue block number (SeqScan entry) (node.SeqScan head) is = ap (λ (h : TableNode). h.tally.asked) is
start-asked catalogue block number (RankScan entry term index) (node.RankScan head) is = ap (λ (h : IndexNode). h.tally.asked) is
start-asked catalogue block number (Rank term child) (node.Rank' head p below) is = ap (λ (h : RankNode). h.tally.asked) is.0
start-asked catalogue block number (JoinOperator kind left right) (node.Join' head p l q r) is = ap (λ (h : JoinNode). h.tally.asked) is.0
start-asked catalogue block number (Distinct child) (node.Distinct' head p below) is = ap (λ (h : DistinctNode). h.tally.asked) is.0
start-asked catalogue block number tree n is = absurd is

-- the item of a number among six
of-six : (f : ℕ → ℕ) (entry : ℕ) → 1 ≤ entry → entry ≤ 6 → unwrap_or (slice_get (map f (1 ∷ 2 ∷ 3 ∷ 4 ∷ 5 ∷ 6 ∷ [])) (entry - 1)) 0 ≡ f entry
of-six f zero some few = absurd (omega arith)
of-six f (suc zero) some few = refl
of-six f (suc (suc zero)) some few = refl
of-six f (suc (suc (suc zero))) some few = refl
of-six f (suc (suc (suc (suc zero)))) some few = refl
of-six f (suc (suc (suc (suc (suc zero))))) some few = refl
of-six f (suc (suc (suc (suc (suc (suc zero)))))) some few = refl
of-six f (suc (suc (suc (suc (suc (suc (suc n))))))) some few = absurd (omega arith)

-- no row is given before any ask
pub none-given : (n : ℕ) → 0 ≡ min 0 n
none-given n = omega arith

none-less : (n : ℕ) → false ≡ nat_lt n 0
none-less n = grind (arith, nat_tests)

tally-none : (w : World) (number : ℕ) (tree : PlanTree) → no_tally ≡ tally_after w number tree 0
tally-none w number tree = ap (λ (gave : ℕ). record { asked = 0; gave = gave }) (none-given (length (list_of w number tree)))

pub rank-none : (w : World) (number term : ℕ) (child : PlanTree)
    → record { core = new_mu (weights_in w) (terms child) term; term = term; args = tt; tally = no_tally; calls = 0 } ≡ rank_node_after w number term child 0
rank-none w number term child =
    let gave = none-given (length (list_of w number (Rank term child))) in
    let core = λ (ended : Bool) (count : ℕ). record (core_after w number term child 0 count) { ended = ended } in
    ap (λ (ended : Bool). record { core = core ended 0; term = term; args = tt; tally = no_tally; calls = 0 }) (none-less (length (list_of w number child)))
    ∙ ap (λ (count : ℕ). record { core = core_after w number term child 0 count; term = term; args = tt; tally = record { asked = 0; gave = count }; calls = 0 }) gave
    ∙ ap (λ (calls : ℕ). record (rank_node_after w number term child 0) { calls = calls }) (none-given (length (list_of w number child)))

distinct-none : (w : World) (number : ℕ) (child : PlanTree) → record { core = new_distinct; tally = no_tally } ≡ distinct_node_after w number child 0
distinct-none w number child =
    ap (λ (gave : ℕ). record { core = new_distinct; tally = record { asked = 0; gave = gave } }) (none-given (length (list_of w number (Distinct child))))

-- a join of which nothing is drawn
abbrev new_join : World → JoinCore → ℕ → PlanTree → PlanTree → JoinNode
new_join w core number left right = record {
  core = core;
  block = number;
  conditions = conditions_of w.catalogue (numbered_block w number) (entries left) (entries right);
  tally = no_tally;
}

joined-none : (w : World) (number : ℕ) (left right : PlanTree) → new_joined (weights_in w) (side_for left) (side_for right) ≡ joined_from w number left right 0 0 0
joined-none w number left right =
    let j = join_for w number left right in
    let core : Bool → Bool → Joined = λ left_over right_over. record (joined_from w number left right 0 0 0) {
      ripple = record (state_after j (list_of w number left) (list_of w number right) 0 0 0) {
        left = record { side = side_for left; drawn = None; ended = left_over };
        right = record { side = side_for right; drawn = None; ended = right_over };
      };
    } in
    ap₂ core (none-less (length (side_keys j j.left (list_of w number left)))) (none-less (length (side_keys j j.right (list_of w number right))))

-- it keeps what no asks leave
new-is : (kind : JoinKind) (w : World) (number : ℕ) (left right : PlanTree) → new_join_core kind (weights_in w) (side_for left) (side_for right)
    ≡ core_of kind w.catalogue (numbered_block w number) (entries left) (entries right) (joined_from w number left right 0 0 0)
new-is Nested w number left right = ap (core_of Nested w.catalogue (numbered_block w number) (entries left) (entries right)) (joined-none w number left right)
new-is Hash w number left right = ap (core_of Hash w.catalogue (numbered_block w number) (entries left) (entries right)) (joined-none w number left right)

join-none : (kind : JoinKind) (w : World) (number : ℕ) (left right : PlanTree)
    → new_join w (new_join_core kind (weights_in w) (side_for left) (side_for right)) number left right ≡ join_node_after w number kind left right 0
join-none kind w number left right =
    let like = core_of kind w.catalogue (numbered_block w number) (entries left) (entries right) in
    let node : JoinCore → ℕ → JoinNode = λ kept gave. record (new_join w kept number left right) { tally = record { asked = 0; gave = gave } } in
    ap (λ (kept : JoinCore). node kept 0) (new-is kind w number left right)
    ∙ ap (λ (gave : ℕ). node (like (joined_from w number left right 0 0 gave)) gave) (none-given (length (list_of w number (JoinOperator kind left right))))

module _ (w : World) (number : ℕ) (most : length (numbered_block w number).from ≤ 6) (sizes : sizes_in w number ≡ sizes_of w.catalogue (numbered_block w number)) where
  -- an entry has the rows of its table
  pub size-is : (entry : ℕ) → IsEntryNumber (numbered_block w number) entry → size_of w.catalogue (numbered_block w number) entry ≡ size_at w number entry
  size-is entry is =
      let below = is.most in
      sym (ap (λ (all : List ℕ). unwrap_or (slice_get all (entry - 1)) 0) sizes
      ∙ of-six (size_of w.catalogue (numbered_block w number)) entry is.some (omega arith))

  module _ (weights : weights_of (numbered_block w number) ≡ weights_in w) where
    -- a join of two sides that weren't asked
    join-starts : (kind : JoinKind) (left right : PlanTree) (l r : PlanNode) (head : JoinNode) → head ≡ new_join w (new_join_core kind (weights_of (numbered_block w number)) (side_for left) (side_for right)) number left right
        → tree_in l ≡ left → tree_in r ≡ right → asked_in l ≡ 0 → asked_in r ≡ 0 → JoinStands w number head (tree_in l) (tree_in r) (asked_in l) (asked_in r)
    join-starts kind left right l r head is on_left on_right left_asked right_asked =
        let same : head ≡ new_join w (new_join_core kind (weights_in w) (side_for (tree_in l)) (side_for (tree_in r))) number (tree_in l) (tree_in r) =
        is ∙ ap (λ (ws : Weights). new_join w (new_join_core kind ws (side_for left) (side_for right)) number left right) weights
        ∙ ap₂ (λ (x y : PlanTree). new_join w (new_join_core kind (weights_in w) (side_for x) (side_for y)) number x y) (sym on_left) (sym on_right) in
        subst (λ (h : JoinNode). JoinStands w number h (tree_in l) (tree_in r) (asked_in l) (asked_in r)) (sym same) (record {
          keeps = join-none kind w number (tree_in l) (tree_in r)
              ∙ ap (λ (k : JoinKind). join_node_after w number k (tree_in l) (tree_in r) 0) (sym (new-kind kind (weights_in w) (side_for (tree_in l)) (side_for (tree_in r))));
          left_asked = left_asked;
          right_asked = right_asked;
        })

    pub start-stands : (tree : PlanTree) (n : PlanNode) → IsPart w.catalogue (numbered_block w number) tree → IsStart w.catalogue (numbered_block w number) number tree n → Stands w number n
    start-stands (SeqScan entry) (node.SeqScan head) part is =
        subst (λ (h : TableNode). h ≡ table_node_after w number h.entry h.tally.asked) (sym is)
        (ap (new_table_node (numbered_block w number) number entry) (size-is entry part)
        ∙ ap (λ (tally : Tally). record (new_table_node (numbered_block w number) number entry (size_at w number entry)) { tally = tally })
        (tally-none w number (SeqScan entry)))
    start-stands (RankScan entry term index) (node.RankScan head) part is =
        subst (λ (h : IndexNode). h ≡ index_node_after w number h.entry h.term h.scan.index h.tally.asked) (sym is)
        (ap (new_index_node (numbered_block w number) number entry term index (slice_index (weights_of (numbered_block w number)).weight (term - 1))) (size-is entry part.is_entry)
        ∙ ap (λ (ws : Weights). new_index_node (numbered_block w number) number entry term index (slice_index ws.weight (term - 1)) (size_at w number entry)) weights
        ∙ ap (λ (tally : Tally). record (new_index_node (numbered_block w number) number entry term index (slice_index (weights_in w).weight (term - 1)) (size_at w number entry)) { tally = tally })
        (tally-none w number (RankScan entry term index)))
    start-stands (Rank term child) (node.Rank' head p below) part is =
        let tree = start-tree w.catalogue (numbered_block w number) number child below is.1 in (
          subst (λ (h : RankNode). HeadStands w number h (tree_in below) (asked_in below)) (sym is.0) (record {
            keeps = ap (λ (ws : Weights). record { core = new_mu ws (terms child) term; term = term; args = tt; tally = no_tally; calls = 0 }) weights
                ∙ ap (λ (below : PlanTree). record { core = new_mu (weights_in w) (terms below) term; term = term; args = tt; tally = no_tally; calls = 0 }) (sym tree)
                ∙ rank-none w number term (tree_in below);
            asked = start-asked w.catalogue (numbered_block w number) number child below is.1;
          }),
          start-stands child below part.0 is.1,
        )
    start-stands (JoinOperator kind left right) (node.Join' head p l q r) part is = (
      join-starts kind left right l r head is.0 (start-tree w.catalogue (numbered_block w number) number left l is.1) (start-tree w.catalogue (numbered_block w number) number right r is.2)
          (start-asked w.catalogue (numbered_block w number) number left l is.1) (start-asked w.catalogue (numbered_block w number) number right r is.2),
      start-stands left l part.0 is.1,
      start-stands right r part.1 is.2,
    )
    start-stands (Distinct child) (node.Distinct' head p below) part is = (
      subst (λ (h : DistinctNode). DropsStand w number h (tree_in below) (asked_in below)) (sym is.0) (record {
        keeps = distinct-none w number (tree_in below);
        asked = start-asked w.catalogue (numbered_block w number) number child below is.1;
      }),
      start-stands child below part.0 is.1,
    )
    start-stands tree n part is = absurd is

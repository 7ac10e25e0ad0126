-- One ask of an operator, whichever it is: between two answers it goes on from one ask of a child to the next of its schedule.
use Rattle.std.proofs.Common.{◌≡◌, ◌∙◌, ℕ, zero, suc, ◌+◌, ◌-◌, ◌<◌, ◌^◌, List, [], ◌∷◌, ◌++◌, length, drop, min, refl, sym, ap, subst, subst₂, arith, append-nil, append_assoc}
use Rattle.std.specs.List.{filter, flat_map}
use Rattle.std.specs.Prelude.{None, Some, Option, Result, Ok, Err, IfSome, slice_get, if◌then◌else◌, is_some}
use Rattle.std.proofs.lemmas.Grind.{flat_map-append}
use Rattle.std.proofs.lemmas.List.{length-append}
use Rattle.std.proofs.lemmas.List.Elements.{filter-append}
use Rattle.rs_order.specs.Schedule.{JoinSide, Left, Right, SideAsk, asked, asks_from, is_of_side}
use Rattle.rs_order.proofs.ScheduleFacts.{asked-from, asked-left, asked-right}
use Rattle.rs_rank.specs.declared.row.RankRow.{RankRow}
use Rattle.rs_rank.proofs.TurnFacts.{Tells}
use Rattle.rs_expr.specs.InOrder.{Inquires}
use Rattle.rs_expr.specs.Scoring.{ScorerState}
use Rattle.rs_catalog.specs.Catalog.{CatalogDef}
use Rattle.rs_query.specs.Blocks.{block_in}
use Rattle.rs_query.specs.Questions.{Question, asking}
use Rattle.rs_query.specs.Tables.{sizes_of}
use Rattle.rs_query.specs.declared.query.Query.{Query}
use Rattle.rs_query.proofs.QuestionFacts.{AllAsked, AllAsked-more, AllAsked-none, Ended-behind, Gave, Gave-ok, Inquires-fault, Stopped-within}
use Rattle.rs_filter.specs.Matching.{IsView}
use Rattle.rs_plan.specs.Asks.{child_asks}
use Rattle.rs_plan.specs.Calls.{questions, questions_of_ask}
use Rattle.rs_plan.specs.Counts.{asked_of, gave_of}
use Rattle.rs_plan.specs.Lists.{World, list_of}
use Rattle.rs_plan.specs.Trees.{PlanTree}
use Rattle.rs_exec.specs.Asked.{Asked, CanAsk, NodeAfter}
use Rattle.rs_exec.specs.Asking.{exec_faults, next_row, world_of}
use Rattle.rs_exec.specs.Nodes.{asked_in, number_in, tree_in}
use Rattle.rs_exec.specs.Sides.{of_side}
use Rattle.rs_exec.specs.Standing.{Stands}
use Rattle.rs_exec.specs.declared.fault.ExecFault.{ExecFault}
use Rattle.rs_exec.specs.declared.fault.ExecFault.TheVariants.{Memory}
use Rattle.rs_exec.specs.declared.join.JoinNode.{JoinNode}
use Rattle.rs_exec.specs.declared.node.PlanNode.{PlanNode}
use Rattle.rs_exec.specs.declared.node.PlanNode.TheVariants as node
use Rattle.rs_exec.specs.declared.scan.IndexNode.{IndexNode}
use Rattle.rs_exec.specs.declared.scan.TableNode.{TableNode}
use Rattle.rs_exec.specs.declared.tally.Tally.{Tally}
use Rattle.rs_exec.proofs.BlockFacts.{sizes-are}
use Rattle.rs_exec.proofs.CycleFacts.{ask-failed, tally-more}
use Rattle.rs_exec.proofs.ListFacts.{IsView-itself}
use Rattle.rs_exec.proofs.OperatorFacts.{child-held, child-most, child_on, number_on, own_of, puts-are, puts_of, questions-are}
use Rattle.rs_exec.proofs.PartFacts.{asks-go_on}
use Rattle.rs_exec.proofs.PlacesFacts.{list-few-of}
use Rattle.rs_exec.proofs.RankFacts.{drop-front}
use Rattle.rs_exec.proofs.SideFacts.{need_of}

-- a node that stands gives the rows of its block
pub node-number : (w : World) (number : ℕ) (n : PlanNode) → Stands w number n → number_in n ≡ number
node-number w number (node.SeqScan head) is = ap (λ (h : TableNode). h.block) is
node-number w number (node.RankScan head) is = ap (λ (h : IndexNode). h.block) is
node-number w number (node.Rank' head p child) is = node-number w number child is.1
node-number w number (node.Join' head p left q right) is = ap (λ (h : JoinNode). h.block) is.0.keeps
node-number w number (node.Distinct' head p child) is = node-number w number child is.1
node-number w number (node.Set' head p left q right) is = sym is.0

-- the next ask of a side, behind those that were made; and these with it
abbrev pub next_ask : JoinSide → List SideAsk → SideAsk
next_ask side made = record { side = side; number = suc (asked side made) }

abbrev pub one_more : JoinSide → List SideAsk → List SideAsk
one_more side made = made ++ next_ask side made ∷ []

pub one-more : (side : JoinSide) (made : List SideAsk) → asked side (one_more side made) ≡ suc (asked side made)
one-more Left made = (asked-left made (suc (asked Left made))).0
one-more Right made = (asked-right made (suc (asked Right made))).1

-- where a row of a side is needed, the schedule goes on with the next ask of that side
pub tells-next : (asks made : List SideAsk) (count all : ℕ) (side : JoinSide) → Tells asks made count all (need_of side) → slice_get asks (length made) ≡ Some (next_ask side made)
tells-next asks made count all Left told = told
tells-next asks made count all Right told = told

-- the item at the end of the first part of a list begins the second one
begins-with : {X : Type 0} (made rest : List X) (x : X) → slice_get (made ++ rest) (length made) ≡ Some x → rest ≡ x ∷ drop 1 rest
begins-with [] [] x at = absurd (cc)
begins-with [] (y ∷ rest) x at = let same : y ≡ x = cc in ap (λ z. z ∷ rest) same
begins-with (m ∷ made) rest x at = begins-with made rest x at

-- asks of an only child, of which these were made: the next one of it, and where none is left
alone-at : (n count i : ℕ) → i < count → slice_get (asks_from Left n count) i ≡ Some (record { side = Left; number = n + i })
alone-at n zero i less = absurd (omega arith)
alone-at n (suc count) zero less = let same : n ≡ n + 0 = omega arith in ap (λ k. Some (record { side = Left; number = k })) same
alone-at n (suc count) (suc i) less =
    let same : suc n + i ≡ n + suc i = omega arith in
    alone-at (suc n) count i (omega arith) ∙ ap (λ k. Some (record { side = Left; number = k })) same

alone-made : (n count : ℕ) (made rest : List SideAsk) → asks_from Left n count ≡ made ++ rest → asked Left made ≡ length made
alone-made n count [] rest is = refl
alone-made n zero (ask ∷ made) rest is = absurd (cc)
alone-made n (suc count) (ask ∷ made) rest is =
    let first : record { side = Left; number = n } ≡ ask = cc in
    let behind : asks_from Left (suc n) count ≡ made ++ rest = cc in
    subst (λ (x : SideAsk). asked Left (x ∷ made) ≡ suc (length made)) first (ap suc (alone-made (suc n) count made rest behind))

no-more : {X : Type 0} (xs : List X) → length xs ≡ 0 → xs ≡ []
no-more [] none = refl
no-more (x ∷ xs) none = absurd (omega arith)

-- during ask a + 1 of an operator: these asks of its schedule were made, those of the asks before and a first part of the ask's own,
-- the others are left, and all questions of the first part were asked, with no bad answer
pub record During (catalogue : CatalogDef) (query : Query) (number : ℕ) (tree : PlanTree) (a : ℕ) (made : List SideAsk) (old now : ScorerState) : Type 0 where
  pub more : List SideAsk
  pub rest : List SideAsk
  pub made_is : made ≡ child_asks (world_of catalogue old.answer query) number tree a ++ more
  pub whole : child_asks (world_of catalogue old.answer query) number tree (suc a) ≡ made ++ rest
  pub all_asked : AllAsked old.answer catalogue (flat_map (puts_of (world_of catalogue old.answer query) number tree) more) old now

-- at its start
pub during-start : (catalogue : CatalogDef) (query : Query) (number : ℕ) (tree : PlanTree) (a : ℕ) (old : ScorerState) → CanAsk (world_of catalogue old.answer query) number tree a
    → During catalogue query number tree a (child_asks (world_of catalogue old.answer query) number tree a) old old
during-start catalogue query number tree a old can =
    let w = world_of catalogue old.answer query in
    let view = subst (λ (sizes : List ℕ). IsView sizes (sizes_of catalogue (block_in query number))) (sym (sizes-are catalogue old.answer query number can.number_is))
    (IsView-itself (sizes_of catalogue (block_in query number))) in
    let on = asks-go_on w number tree a can.formed can.number_is can.bounded view can.part can.weights in
    record {
      more = [];
      rest = on.more;
      made_is = sym (append-nil (child_asks w number tree a));
      whole = on.split;
      all_asked = AllAsked-none old.answer catalogue old;
    }

-- a child that was asked this many times stands as a node
pub record Below (w : World) (number : ℕ) (tree : PlanTree) (asks : ℕ) (n : PlanNode) : Type 0 where
  pub tree_is : tree_in n ≡ tree
  pub asked_is : asked_in n ≡ asks
  pub stands : Stands w number n

-- its children, one after another; where one of them was asked, what it is then comes in its place
abbrev pub one_child : PlanNode → JoinSide → Option PlanNode
one_child child side = of_side (Some child) None side

abbrev pub both : PlanNode → PlanNode → JoinSide → Option PlanNode
both left right side = of_side (Some left) (Some right) side

abbrev pub changed : JoinSide → PlanNode → (JoinSide → Option PlanNode) → JoinSide → Option PlanNode
changed Left next on side = of_side (Some next) (on Right) side
changed Right next on side = of_side (on Left) (Some next) side

-- during ask a + 1 of an operator with this tally and these children, of which these asks were made
pub record Turn (catalogue : CatalogDef) (query : Query) (number : ℕ) (tree : PlanTree) (a : ℕ) (old : ScorerState) (tally : Tally) (on : JoinSide → Option PlanNode) (made : List SideAsk) (now : ScorerState) : Type 0 where
  pub during : During catalogue query number tree a made old now
  pub below : (side : JoinSide) → IfSome (on side) (Below (world_of catalogue old.answer query) (number_on number tree side) (child_on tree side) (asked side made))
  pub asked_is : tally.asked ≡ suc a
  pub gave_is : tally.gave ≡ a

-- at its start
pub turn-start : (catalogue : CatalogDef) (query : Query) (number : ℕ) (tree : PlanTree) (old : ScorerState) (tally : Tally) (on : JoinSide → Option PlanNode)
    → CanAsk (world_of catalogue old.answer query) number tree tally.asked
    → ((side : JoinSide) → IfSome (on side) (Below (world_of catalogue old.answer query) (number_on number tree side) (child_on tree side) (asked_of (world_of catalogue old.answer query) number tree tally.asked side)))
    → tally.gave ≡ gave_of (world_of catalogue old.answer query) number tree tally.asked
    → (next : Tally) → next ≡ record tally { asked = tally.asked + 1 } → Turn catalogue query number tree tally.asked old next on (child_asks (world_of catalogue old.answer query) number tree tally.asked) old
turn-start catalogue query number tree old tally on can below gave next is =
    let w = world_of catalogue old.answer query in
    let more = can.more in
    let all : min tally.asked (length (list_of w number tree)) ≡ tally.asked = omega arith in
    let one : tally.asked + 1 ≡ suc tally.asked = omega arith in
    record {
      during = during-start catalogue query number tree tally.asked old can;
      below = below;
      asked_is = ap (λ (t : Tally). t.asked) is ∙ one;
      gave_is = ap (λ (t : Tally). t.gave) is ∙ gave ∙ all;
    }

module _ {catalogue : CatalogDef} {query : Query} {number : ℕ} {tree : PlanTree} {a : ℕ} {old : ScorerState} {tally : Tally} {on : JoinSide → Option PlanNode} {made : List SideAsk} {now : ScorerState}
    (turn : Turn catalogue query number tree a old tally on made now) (can : CanAsk (world_of catalogue old.answer query) number tree a) where
  abbrev w : World
  w = world_of catalogue old.answer query

  abbrev puts : SideAsk → List Question
  puts = puts_of w number tree

  pub turn-small : tally.gave < 2 ^ 128 - 1
  turn-small = let more = can.more in let few = can.few in let gave = turn.gave_is in omega arith

  -- the questions of the ask, in two parts
  in-two : (rest : List SideAsk) → child_asks w number tree (suc a) ≡ made ++ rest
      → questions_of_ask w number tree (suc a) ≡ flat_map puts turn.during.more ++ flat_map puts rest
  in-two rest is =
      let more = turn.during.more in
      let before = child_asks w number tree a in
      ap (λ (qs : List Question). drop (length qs) (questions w number tree (suc a))) (questions-are w number tree a)
      ∙ ap (drop (length (flat_map puts before)))
      (questions-are w number tree (suc a) ∙ ap (flat_map puts) (is ∙ ap (λ (front : List SideAsk). front ++ rest) turn.during.made_is ∙ append_assoc before more rest)
      ∙ flat_map-append puts before (more ++ rest))
      ∙ drop-front (flat_map puts before) (flat_map puts (more ++ rest))
      ∙ flat_map-append puts more rest

  -- of an only child
  module _ (alone : child_asks w number tree (suc a) ≡ asks_from Left 1 (asked_of w number tree (suc a) Left)) where
    abbrev last : ℕ
    last = asked_of w number tree (suc a) Left

    made-asks : asked Left made ≡ length made
    made-asks = alone-made 1 last made turn.during.rest (sym alone ∙ turn.during.whole)

    pub turn-alone : asked Left made < asked_of w number tree (suc a) Left
        → slice_get (child_asks w number tree (suc a)) (length made) ≡ Some (next_ask Left made)
    turn-alone less =
        let count = made-asks in
        let same : 1 + length made ≡ suc (asked Left made) = omega arith in
        ap (λ (asks : List SideAsk). slice_get asks (length made)) alone ∙ alone-at 1 last (length made) (omega arith)
        ∙ ap (λ k. Some (record { side = Left; number = k })) same

    pub turn-all : asked Left made ≡ asked_of w number tree (suc a) Left
        → made ≡ child_asks w number tree (suc a)
    turn-all exact =
        let count = made-asks in
        let whole = alone-made 1 last (asks_from Left 1 last) [] (sym (append-nil (asks_from Left 1 last))) in
        let asks = asked-from Left 1 last in
        let both_parts = ap (λ (xs : List SideAsk). length xs) (sym alone ∙ turn.during.whole) ∙ length-append made turn.during.rest in
        let none : turn.during.rest ≡ [] = no-more turn.during.rest (omega arith) in
        sym (turn.during.whole ∙ ap (λ (rest : List SideAsk). made ++ rest) none ∙ append-nil made)

  -- where all asks were made, all questions were asked
  module _ (all : made ≡ child_asks w number tree (suc a)) (row : Option RankRow) (value : row ≡ slice_get (list_of w number tree) a) where
    pub turn-inquires : Inquires Memory (next_row w number tree a) (Ok row) old now
    turn-inquires =
        Ended-behind exec_faults Memory catalogue {A = Option RankRow} (flat_map puts turn.during.more) (questions_of_ask w number tree (suc a)) (slice_get (list_of w number tree) a) row old now
        (in-two [] (sym all ∙ sym (append-nil made)) ∙ append-nil (flat_map puts turn.during.more)) value turn.during.all_asked

    -- and the tally counts the row, if there is one
    pub turn-gave : ◌≡◌ {A = ℕ} (if is_some row then tally.gave + 1 else tally.gave) (gave_of w number tree (suc a))
    turn-gave =
        let rows = list_of w number tree in
        let more = can.more in
        let most : min a (length rows) ≡ a = omega arith in
        ap (λ (n : ℕ). if is_some row then n + 1 else n) (turn.gave_is ∙ sym most)
        ∙ ap (λ (r : Option RankRow). if is_some r then min a (length rows) + 1 else min a (length rows)) value
        ∙ tally-more rows a

  -- a child that is asked next
  module _ (side : JoinSide) {n : PlanNode} (is : on side ≡ Some n)
      (next : slice_get (child_asks w number tree (suc a)) (length made) ≡ Some (next_ask side made)) where
    abbrev part : PlanTree
    part = child_on tree side

    abbrev own_number : ℕ
    own_number = number_on number tree side

    abbrev asks : ℕ
    asks = asked side made

    abbrev behind : List SideAsk
    behind = drop 1 turn.during.rest

    below : Below w own_number part asks n
    below = subst (λ (o : Option PlanNode). IfSome o (Below w own_number part asks)) is (turn.below side)

    pub turn-tree : tree_in n ≡ part
    turn-tree = below.tree_is

    number-is : number_in n ≡ own_number
    number-is = node-number w own_number n below.stands

    comes : child_asks w number tree (suc a) ≡ made ++ next_ask side made ∷ behind
    comes =
        turn.during.whole ∙ ap (λ (rest : List SideAsk). made ++ rest)
        (begins-with made turn.during.rest (next_ask side made) (subst (λ (xs : List SideAsk). slice_get xs (length made) ≡ Some (next_ask side made)) turn.during.whole next))

    whole-more : child_asks w number tree (suc a) ≡ one_more side made ++ behind
    whole-more = comes ∙ sym (append_assoc made (next_ask side made ∷ []) behind)

    -- fewer asks are left
    pub turn-less : asked side made < asked_of w number tree (suc a) side
    turn-less =
        let all : asked_of w number tree (suc a) side ≡ asked side (one_more side made) + asked side behind =
        ap (asked side) whole-more ∙ ap (λ (xs : List SideAsk). length xs) (filter-append (is_of_side side) (one_more side made) behind)
        ∙ length-append (filter (is_of_side side) (one_more side made)) (filter (is_of_side side) behind) in
        let one = one-more side made in
        omega arith

    -- it can be asked once more
    pub turn-can : CanAsk (world_of catalogue now.answer query) (number_in n) (tree_in n) (asked_in n)
    turn-can =
        let held = child-held catalogue old.answer query number tree side (record { number_is = can.number_is; part = can.part; indexes = can.indexes }) in
        let less = turn-less in
        let most = child-most w number tree (suc a) side in
        let child : CanAsk w own_number part asks = record {
          formed = can.formed;
          number_is = held.number_is;
          part = held.part;
          indexes = held.indexes;
          bounded = can.bounded;
          weights = can.weights;
          more = omega arith;
          tables = can.tables;
          few = list-few-of catalogue old.answer query own_number part held.number_is can.tables held.part;
        } in
        subst (λ k. CanAsk (world_of catalogue now.answer query) k (tree_in n) (asked_in n)) (sym number-is)
        (subst₂ (λ t k. CanAsk (world_of catalogue now.answer query) own_number t k) (sym below.tree_is) (sym below.asked_is)
        (subst (λ answer. CanAsk (world_of catalogue answer query) own_number part asks) (sym turn.during.all_asked.keeps.answer) child))

    pub turn-stands : Stands (world_of catalogue now.answer query) (number_in n) n
    turn-stands = subst₂ (λ k answer. Stands (world_of catalogue answer query) k n) (sym number-is) (sym turn.during.all_asked.keeps.answer) below.stands

    -- what the node was asked, as this child, by the scorer's first answers
    as-child : (result : Result (Option RankRow) ExecFault) (middle : ScorerState)
        → Inquires Memory (next_row (world_of catalogue now.answer query) (number_in n) (tree_in n) (asked_in n)) result now middle
        → Inquires Memory (next_row w own_number part asks) result now middle
    as-child result middle inquires =
        subst₂ (λ k answer. Inquires Memory (next_row (world_of catalogue answer query) k part asks) result now middle) number-is turn.during.all_asked.keeps.answer
        (subst₂ (λ t k. Inquires Memory (next_row (world_of catalogue now.answer query) (number_in n) t k) result now middle) below.tree_is below.asked_is inquires)

    split : questions_of_ask w number tree (suc a) ≡ flat_map puts turn.during.more
        ++ (questions_of_ask w own_number part (suc asks)
        ++ (own_of w number tree (asked side made) ++ flat_map puts behind))
    split =
        in-two (next_ask side made ∷ behind) comes
        ∙ ap (λ (qs : List Question). flat_map puts turn.during.more ++ qs)
        (ap (λ (qs : List Question). qs ++ flat_map puts behind) (puts-are w number tree side asks)
        ∙ append_assoc (questions_of_ask w own_number part (suc asks)) (own_of w number tree asks) (flat_map puts behind))

    -- a fault of it ends the ask
    pub turn-failed : (After : Type 0) (fault : ExecFault) (result : Result (Option RankRow) ExecFault) (middle : ScorerState) → result ≡ Err fault
        → Inquires Memory (next_row (world_of catalogue now.answer query) (number_in n) (tree_in n) (asked_in n)) (Err fault) now middle
        → Asked w number tree a After result old middle
    turn-failed After fault result middle is_fault inquires =
        ask-failed w number tree a After result fault old middle is_fault
        (Inquires-fault exec_faults Memory old.answer catalogue {A = Option RankRow} {B = Option RankRow} (flat_map puts turn.during.more) (questions_of_ask w own_number part (suc asks))
        (own_of w number tree asks ++ flat_map puts behind) (questions_of_ask w number tree (suc a)) (slice_get (list_of w own_number part) asks) (slice_get (list_of w number tree) a)
        fault old now middle split turn.during.all_asked (as-child (Err fault) middle inquires))

    -- behind the ask the child stands, and fewer asks are left of both sides together
    module _ (after : PlanNode) (kept : NodeAfter (world_of catalogue now.answer query) (number_in n) (tree_in n) (asked_in n) after) where
      asked-one : asked_in after ≡ suc asks
      asked-one = kept.asked_is ∙ ap suc below.asked_is

      pub turn-below : (s : JoinSide) → IfSome (changed side after on s) (Below w (number_on number tree s) (child_on tree s) (asked s (one_more side made)))
      turn-below = go side (record {
        tree_is = kept.tree_is ∙ below.tree_is;
        asked_is = asked-one;
        stands = subst₂ (λ k answer. Stands (world_of catalogue answer query) k after) number-is turn.during.all_asked.keeps.answer kept.stands;
      })
        where
          go : (v : JoinSide) → Below w (number_on number tree v) (child_on tree v) (suc (asked v made)) after
              → (s : JoinSide) → IfSome (changed v after on s) (Below w (number_on number tree s) (child_on tree s) (asked s (one_more v made)))
          go Left new Left = subst (λ k. Below w (number_on number tree Left) (child_on tree Left) k after) (sym (asked-left made (suc (asked Left made))).0) new
          go Left new Right = subst (λ k. IfSome (on Right) (Below w (number_on number tree Right) (child_on tree Right) k)) (sym (asked-left made (suc (asked Left made))).1) (turn.below Right)
          go Right new Left = subst (λ k. IfSome (on Left) (Below w (number_on number tree Left) (child_on tree Left) k)) (sym (asked-right made (suc (asked Right made))).0) (turn.below Left)
          go Right new Right = subst (λ k. Below w (number_on number tree Right) (child_on tree Right) k after) (sym (asked-right made (suc (asked Right made))).1) new

      pub turn-nearer : asked_of w number tree (suc a) side - asked_in after < asked_of w number tree (suc a) side - asked_in n
      turn-nearer =
          let less = turn-less in
          let one = asked-one in
          let same = below.asked_is in
          omega arith

    module _ (got : Option RankRow) (middle : ScorerState)
        (answered : Inquires Memory (next_row (world_of catalogue now.answer query) (number_in n) (tree_in n) (asked_in n)) (Ok got) now middle) where
      gave : Gave old.answer catalogue (questions_of_ask w own_number part (suc asks))
          (slice_get (list_of w own_number part) asks) got now middle
      gave =
          Gave-ok exec_faults Memory old.answer catalogue {A = Option RankRow} (questions_of_ask w own_number part (suc asks)) (slice_get (list_of w own_number part) asks) got now middle
          (as-child (Ok got) middle answered)

      -- what it gave is its next row
      pub turn-there : slice_get (list_of w own_number part) asks ≡ got
      turn-there = sym gave.is_value

      now-asked : AllAsked old.answer catalogue (flat_map puts turn.during.more ++ questions_of_ask w own_number part (suc asks)) old middle
      now-asked = AllAsked-more old.answer catalogue (flat_map puts turn.during.more) (questions_of_ask w own_number part (suc asks)) old now middle turn.during.all_asked gave.asked

      split-more : questions_of_ask w number tree (suc a)
          ≡ (flat_map puts turn.during.more ++ questions_of_ask w own_number part (suc asks))
          ++ (own_of w number tree (asked side made) ++ flat_map puts behind)
      split-more =
          split ∙ sym (append_assoc (flat_map puts turn.during.more) (questions_of_ask w own_number part (suc asks)) (own_of w number tree asks ++ flat_map puts behind))

      -- there was no memory for it
      pub turn-stopped : (After : Type 0) (result : Result (Option RankRow) ExecFault) → result ≡ Err Memory → Asked w number tree a After result old middle
      turn-stopped After result is_fault =
          ask-failed w number tree a After result Memory old middle is_fault
          (Stopped-within exec_faults Memory catalogue {A = Option RankRow} (flat_map puts turn.during.more ++ questions_of_ask w own_number part (suc asks))
          (own_of w number tree asks ++ flat_map puts behind) (questions_of_ask w number tree (suc a)) (slice_get (list_of w number tree) a) (Err Memory) old middle split-more refl now-asked)

      -- a question of the operator itself had a bad answer
      pub turn-own_failed : {B : Type 0} (value : B) (After : Type 0) (fault : ExecFault) (result : Result (Option RankRow) ExecFault) (new : ScorerState) → result ≡ Err fault
          → Inquires Memory (asking exec_faults old.answer catalogue (own_of w number tree asks) value) (Err fault) middle new
          → Asked w number tree a After result old new
      turn-own_failed {B} value After fault result new is_fault inquires =
          ask-failed w number tree a After result fault old new is_fault
          (Inquires-fault exec_faults Memory old.answer catalogue {A = B} {B = Option RankRow} (flat_map puts turn.during.more ++ questions_of_ask w own_number part (suc asks))
          (own_of w number tree asks) (flat_map puts behind) (questions_of_ask w number tree (suc a)) value (slice_get (list_of w number tree) a) fault old middle new split-more now-asked inquires)

      -- behind its own questions the operator stands one ask of the child further
      pub turn-more : (next_tally : Tally) (new : ScorerState) (after : PlanNode) → NodeAfter (world_of catalogue now.answer query) (number_in n) (tree_in n) (asked_in n) after
          → AllAsked old.answer catalogue (own_of w number tree asks) middle new
          → next_tally.asked ≡ tally.asked → next_tally.gave ≡ tally.gave
          → Turn catalogue query number tree a old next_tally (changed side after on) (one_more side made) new
      turn-more next_tally new after kept own asked_same gave_same = record {
        during = record {
          more = turn.during.more ++ next_ask side made ∷ [];
          rest = behind;
          made_is = ap (λ (front : List SideAsk). front ++ next_ask side made ∷ []) turn.during.made_is ∙ append_assoc (child_asks w number tree a) turn.during.more (next_ask side made ∷ []);
          whole = whole-more;
          all_asked = subst (λ (qs : List Question). AllAsked old.answer catalogue qs old new)
              (append_assoc (flat_map puts turn.during.more) (questions_of_ask w own_number part (suc asks)) (own_of w number tree asks)
              ∙ ap (λ (qs : List Question). flat_map puts turn.during.more ++ qs) (sym (append-nil (puts (next_ask side made)) ∙ puts-are w number tree side asks))
              ∙ sym (flat_map-append puts turn.during.more (next_ask side made ∷ [])))
              (AllAsked-more old.answer catalogue (flat_map puts turn.during.more ++ questions_of_ask w own_number part (suc asks)) (own_of w number tree asks) old middle new now-asked own);
        };
        below = turn-below after kept;
        asked_is = asked_same ∙ turn.asked_is;
        gave_is = gave_same ∙ turn.gave_is;
      }

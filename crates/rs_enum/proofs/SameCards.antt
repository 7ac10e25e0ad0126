-- Cards that say the same wherever they are asked give the same costs, the same least plan and the same texts.
use Rattle.std.proofs.Common.{◌≡◌, ◌∙◌, ℕ, zero, suc, ◌+◌, ◌-◌, ◌*◌, ◌<◌, List, [], ◌∷◌, ◌++◌, length, refl, sym, ap, arith}
use Rattle.std.specs.Prelude.{Option, codes, replicate, slice_get, unwrap_or}
use Rattle.std.specs.Fmt.{decimal}
use Rattle.std.specs.Ordering.{is_gt, nat_cmp, ordering_then}
use Rattle.rs_value.specs.declared.set_op.SetOp.{SetOp}
use Rattle.rs_catalog.specs.Catalog.{CatalogDef}
use Rattle.rs_expr.specs.Scoring.{Answering}
use Rattle.rs_query.specs.Tables.{all_entries}
use Rattle.rs_query.specs.Views.{View}
use Rattle.rs_query.specs.WellFormed.{IsQuery}
use Rattle.rs_query.specs.declared.block.Block.{Block}
use Rattle.rs_query.specs.declared.query.Query.{Query}
use Rattle.rs_query.specs.declared.query.Query.TheVariants.{One, Set}
use Rattle.rs_sample.specs.Cards.{AllSayTheSame, BlockCards, SayTheSame}
use Rattle.rs_sample.specs.Sampling.{query_cards}
use Rattle.rs_query.specs.Blocks.{block_in}
use Rattle.rs_plan.specs.Plans.{IsPart, IsPlan, IsSetPlan}
use Rattle.rs_plan.specs.Trees.{Distinct, Hash, JoinOperator, Nested, PlanTree, Rank, RankScan, SeqScan, SetOperator, code, code_cmp, entries, terms}
use Rattle.rs_plan.specs.declared.counts.Counts.{Counts}
use Rattle.rs_enum.specs.Costs.{call_cost, cost_in, cost_of, estimate_of}
use Rattle.rs_enum.specs.Least.{least_plan}
use Rattle.rs_enum.specs.QueryCards.{AreCards, IsBlockNumber, cards_at}
use Rattle.rs_enum.specs.Texts.{behind, done_by, first_of, name_of, nodes_of, plan_line, plan_lines, text_of}
use Rattle.rs_enum.proofs.CostFacts.{block-cards, first-numbered, masks-all, masks-part, set-below-left, set-below-right, set-numbered, set-rows, term-alone}
use Rattle.rs_enum.proofs.LeastFacts.{least-found}
use Rattle.rs_enum.proofs.OrderOfPlans.{estimate-part, least-one}

-- the cards of the block of each number
abbrev no_cards : BlockCards
no_cards = record { entries = 0; reads = []; estimate = λ mask terms. 0; index_estimate = λ entry term. 0 }

same-at : (cards other : List BlockCards) (place : ℕ) → AllSayTheSame cards other → place < length cards
    → SayTheSame (unwrap_or (slice_get cards place) no_cards) (unwrap_or (slice_get other place) no_cards)
same-at [] [] place same within = absurd (omega arith)
same-at [] (o ∷ others) place same within = absurd same
same-at (first ∷ rest) [] place same within = absurd same
same-at (first ∷ rest) (o ∷ others) zero same within = same.0
same-at (first ∷ rest) (o ∷ others) (suc place) same within = same-at rest others place same.1 (omega arith)

same-block : (cards other : List BlockCards) (number : ℕ) → AllSayTheSame cards other → IsBlockNumber cards number
    → SayTheSame (cards_at cards number) (cards_at other number)
same-block cards other number same is = same-at cards other (number - 1) same (let some = is.some in let most = is.most in omega arith)

module _ (catalogue : CatalogDef) (query : Query) (formed : IsQuery catalogue query) (cards other : List BlockCards) (are : AreCards query cards)
    (same : AllSayTheSame cards other) where
  module _ (number : ℕ) (is_number : IsBlockNumber cards number) where
    part-estimate : (tree : PlanTree) → IsPart catalogue (block_in query number) tree → estimate_of cards number tree ≡ estimate_of other number tree
    part-estimate tree is =
        estimate-part catalogue query cards (block_in query number) number tree (terms tree) is
        ∙ (same-block cards other number same is_number).estimate (entries tree) (terms tree)
        (masks-part (block_in query number) (cards_at cards number) (block-cards query cards number are is_number) catalogue tree is)
        ∙ sym (estimate-part catalogue query other (block_in query number) number tree (terms tree) is)

    part-cost : (tree : PlanTree) → IsPart catalogue (block_in query number) tree → cost_in catalogue query cards number tree ≡ cost_in catalogue query other number tree
    part-cost (SeqScan e) is = refl
    part-cost (RankScan e t i) is =
        ap (λ n. 2 * n) ((same-block cards other number same is_number).index_estimate e t
        (term-alone (block_in query number) (cards_at cards number) (block-cards query cards number are is_number) catalogue e t i is))
    part-cost (Rank t child) is =
        λ at. part-cost child is.0 at + part-estimate child is.0 at * call_cost catalogue (block_in query number) t
    part-cost (JoinOperator Hash l r) is =
        λ at. part-cost l is.0 at + part-cost r is.1 at + 2 * (part-estimate l is.0 at + part-estimate r is.1 at) + part-estimate (JoinOperator Hash l r) is at
    part-cost (JoinOperator Nested l r) is =
        λ at. part-cost l is.0 at + part-cost r is.1 at + part-estimate l is.0 at * part-estimate r is.1 at + part-estimate (JoinOperator Nested l r) is at
    part-cost (Distinct child) is = λ at. part-cost child is.0 at + part-estimate child is.0 at
    part-cost (SetOperator l r) is = absurd is

    -- a line, and all lines
    part-line : (level : ℕ) (tree : PlanTree) (counts : Option Counts) → IsPart catalogue (block_in query number) tree
        → plan_line catalogue query cards level number tree counts ≡ plan_line catalogue query other level number tree counts
    part-line level tree counts is = λ at.
        replicate (2 * level) 32 ++ name_of catalogue query number tree
        ++ codes " est=" ++ decimal (part-estimate tree is at) ++ codes " cost=" ++ decimal (part-cost tree is at) ++ done_by tree counts ++ 10 ∷ []

    part-lines : (level : ℕ) (tree : PlanTree) (counts : Option (List Counts)) → IsPart catalogue (block_in query number) tree
        → plan_lines catalogue query cards level number tree counts ≡ plan_lines catalogue query other level number tree counts
    part-lines level (SeqScan e) counts is = part-line level (SeqScan e) (first_of counts) is
    part-lines level (RankScan e t i) counts is = part-line level (RankScan e t i) (first_of counts) is
    part-lines level (Rank t child) counts is = λ at.
        part-line level (Rank t child) (first_of counts) is at ++ part-lines (level + 1) child (behind 1 counts) is.0 at
    part-lines level (JoinOperator kind l r) counts is = λ at.
        part-line level (JoinOperator kind l r) (first_of counts) is at
        ++ part-lines (level + 1) l (behind 1 counts) is.0 at ++ part-lines (level + 1) r (behind (1 + nodes_of l) counts) is.1 at
    part-lines level (Distinct child) counts is = λ at.
        part-line level (Distinct child) (first_of counts) is at ++ part-lines (level + 1) child (behind 1 counts) is.0 at
    part-lines level (SetOperator l r) counts is = absurd is

-- the same of two blocks
module _ (catalogue : CatalogDef) (op : SetOp) (left right : Block) (limit : Option ℕ) (formed : IsQuery catalogue (Set op left right limit))
    (cards other : List BlockCards) (are : AreCards (Set op left right limit) cards) (same : AllSayTheSame cards other) where
  set-estimate : (tree : PlanTree) → IsSetPlan catalogue left right tree → estimate_of cards 1 tree ≡ estimate_of other 1 tree
  set-estimate tree is =
      let numbers = set-numbered catalogue (Set op left right limit) cards tree are is in
      let first = (same-block cards other 1 same numbers.0).estimate (all_entries left) (terms tree)
      (masks-all left (cards_at cards 1) (block-cards (Set op left right limit) cards 1 are numbers.0) catalogue (terms tree) formed.0.left_block
      (set-below-left catalogue (Set op left right limit) tree is)) in
      let second = (same-block cards other 2 same numbers.1).estimate (all_entries right) (terms tree)
      (masks-all right (cards_at cards 2) (block-cards (Set op left right limit) cards 2 are numbers.1) catalogue (terms tree) formed.0.right_block
      (set-below-right catalogue (Set op left right limit) tree formed is)) in
      set-rows catalogue (Set op left right limit) cards tree is ∙ (λ at. first at + second at)
      ∙ sym (set-rows catalogue (Set op left right limit) other tree is)

  set-cost : (tree : PlanTree) → IsSetPlan catalogue left right tree
      → cost_in catalogue (Set op left right limit) cards 1 tree ≡ cost_in catalogue (Set op left right limit) other 1 tree
  set-cost (Rank t child) is = λ at. set-cost child is.0 at + set-estimate child is.0 at * call_cost catalogue left t
  set-cost (SetOperator l r) is =
      let numbers = set-numbered catalogue (Set op left right limit) cards (SetOperator l r) are is in
      let left_cost = part-cost catalogue (Set op left right limit) formed cards other are same 1 numbers.0 l is.0.part in
      let right_cost = part-cost catalogue (Set op left right limit) formed cards other are same 2 numbers.1 r is.1.part in
      let left_rows = part-estimate catalogue (Set op left right limit) formed cards other are same 1 numbers.0 l is.0.part in
      let right_rows = part-estimate catalogue (Set op left right limit) formed cards other are same 2 numbers.1 r is.1.part in
      λ at. left_cost at + right_cost at + left_rows at + right_rows at
  set-cost (SeqScan e) is = absurd is
  set-cost (RankScan e t i) is = absurd is
  set-cost (JoinOperator kind l r) is = absurd is
  set-cost (Distinct child) is = absurd is

  set-line : (level : ℕ) (tree : PlanTree) (counts : Option Counts) → IsSetPlan catalogue left right tree
      → plan_line catalogue (Set op left right limit) cards level 1 tree counts ≡ plan_line catalogue (Set op left right limit) other level 1 tree counts
  set-line level tree counts is = λ at.
      replicate (2 * level) 32 ++ name_of catalogue (Set op left right limit) 1 tree
      ++ codes " est=" ++ decimal (set-estimate tree is at) ++ codes " cost=" ++ decimal (set-cost tree is at) ++ done_by tree counts ++ 10 ∷ []

  set-lines : (level : ℕ) (tree : PlanTree) (counts : Option (List Counts)) → IsSetPlan catalogue left right tree
      → plan_lines catalogue (Set op left right limit) cards level 1 tree counts ≡ plan_lines catalogue (Set op left right limit) other level 1 tree counts
  set-lines level (Rank t child) counts is = λ at.
      set-line level (Rank t child) (first_of counts) is at ++ set-lines (level + 1) child (behind 1 counts) is.0 at
  set-lines level (SetOperator l r) counts is =
      let numbers = set-numbered catalogue (Set op left right limit) cards (SetOperator l r) are is in
      let left_lines = part-lines catalogue (Set op left right limit) formed cards other are same 1 numbers.0 (level + 1) l (behind 1 counts) is.0.part in
      let right_lines = part-lines catalogue (Set op left right limit) formed cards other are same 2 numbers.1 (level + 1) r (behind (1 + nodes_of l) counts) is.1.part in
      λ at. set-line level (SetOperator l r) (first_of counts) is at ++ left_lines at ++ right_lines at
  set-lines level (SeqScan e) counts is = absurd is
  set-lines level (RankScan e t i) counts is = absurd is
  set-lines level (JoinOperator kind l r) counts is = absurd is
  set-lines level (Distinct child) counts is = absurd is

plan-cost : (catalogue : CatalogDef) (query : Query) → IsQuery catalogue query → (cards other : List BlockCards) → AreCards query cards → AllSayTheSame cards other
    → (tree : PlanTree) → IsPlan catalogue query tree → cost_of catalogue query cards tree ≡ cost_of catalogue query other tree
plan-cost catalogue (One block limit) formed cards other are same tree is =
    part-cost catalogue (One block limit) formed cards other are same 1 (first-numbered (One block limit) cards are) tree is.0.part
plan-cost catalogue (Set op left right limit) formed cards other are same tree is =
    set-cost catalogue op left right limit formed cards other are same tree is.0

pub same-text : (catalogue : CatalogDef) (query : Query) → IsQuery catalogue query → (cards other : List BlockCards) → AreCards query cards → AllSayTheSame cards other
    → (tree : PlanTree) → IsPlan catalogue query tree → (counts : Option (List Counts)) → text_of catalogue query cards tree counts ≡ text_of catalogue query other tree counts
same-text catalogue (One block limit) formed cards other are same tree is counts =
    part-lines catalogue (One block limit) formed cards other are same 1 (first-numbered (One block limit) cards are) 0 tree counts is.0.part
same-text catalogue (Set op left right limit) formed cards other are same tree is counts =
    set-lines catalogue op left right limit formed cards other are same 0 tree counts is.0

pub same-least : (catalogue : CatalogDef) (query : Query) → IsQuery catalogue query → (cards other : List BlockCards) → AreCards query cards → AllSayTheSame cards other
    → least_plan catalogue query cards ≡ least_plan catalogue query other
same-least catalogue query formed cards other are same =
    let least = least-found catalogue query cards formed in
    least-one catalogue query other (least_plan catalogue query cards) (least_plan catalogue query other)
    (record {
      plan = least.plan;
      first = λ tree is.
          ap is_gt (λ at. ordering_then
          (nat_cmp (sym (plan-cost catalogue query formed cards other are same (least_plan catalogue query cards) least.plan) at)
          (sym (plan-cost catalogue query formed cards other are same tree is) at))
          (code_cmp (code (least_plan catalogue query cards)) (code tree)))
          ∙ least.first tree is;
    })
    (least-found catalogue query other formed)

-- the cards of a sample are those of a query
pub sampled-are : (answer : Answering) (catalogue : CatalogDef) (query : Query) (view : View) (seed : ℕ) (cards : List BlockCards)
    → AllSayTheSame cards (query_cards answer catalogue query view seed) → AreCards query cards
sampled-are answer catalogue (One block limit) view seed [] same = absurd same
sampled-are answer catalogue (One block limit) view seed (own ∷ []) same = (own, refl, record { entries = same.0.entries; reads = same.0.reads })
sampled-are answer catalogue (One block limit) view seed (own ∷ next ∷ rest) same = absurd same.1
sampled-are answer catalogue (Set op left right limit) view seed [] same = absurd same
sampled-are answer catalogue (Set op left right limit) view seed (first ∷ []) same = absurd same.1
sampled-are answer catalogue (Set op left right limit) view seed (first ∷ second ∷ []) same =
    (first, second, refl, record { entries = same.0.entries; reads = same.0.reads }, record { entries = same.1.0.entries; reads = same.1.0.reads })
sampled-are answer catalogue (Set op left right limit) view seed (first ∷ second ∷ third ∷ rest) same = absurd same.1.1

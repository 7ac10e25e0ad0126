-- The parts of a plan of a query, and the rows of their lists: each has the entries that its block's terms and output columns speak of.
use Rattle.std.proofs.Common.{◌≡◌, ◌∙◌, ℕ, ◌+◌, ◌-◌, ◌<◌, ◌≤◌, ◌^◌, ◌⊎◌, true, ◌++◌, List, length, map, Option, inl, inr, refl, sym, ap, subst, arith}
use Rattle.std.proofs.lemmas.List.{length-append, length-map}
use Rattle.std.specs.List.{AllByRecursion, filter}
use Rattle.std.specs.Prelude.{None, Some, not, slice_get}
use Rattle.std.proofs.lemmas.Option.{slice_get_within}
use Rattle.rs_order.proofs.ClimbingFacts.{AllByRecursion-In}
use Rattle.rs_order.proofs.EachFacts.{each-map, each-slice_get, each-weaker}
use Rattle.rs_order.proofs.ItemFacts.{In-map-back}
use Rattle.rs_order.proofs.PartFacts.{In-slice_get}
use Rattle.rs_order.proofs.SortingFacts.{In-sorted-back}
use Rattle.rs_rank.specs.Keys.{key_cmp}
use Rattle.rs_rank.specs.declared.answer.Answer.{Answer}
use Rattle.rs_rank.specs.declared.ids.Ids.{Ids}
use Rattle.rs_rank.specs.declared.row.RankRow.{RankRow}
use Rattle.rs_expr.specs.Scoring.{Answering}
use Rattle.rs_catalog.specs.Catalog.{CatalogDef}
use Rattle.rs_value.specs.declared.set_op.SetOp.{SetOp}
use Rattle.rs_value.specs.declared.set_op.SetOp.TheVariants.{UnionAll, Union, Intersect, Except}
use Rattle.rs_query.specs.Answers.{base_of, occurs_in, set_base}
use Rattle.rs_query.specs.Meaning.{is_inside}
use Rattle.rs_query.specs.Tables.{HasRows, all_entries, sizes_of}
use Rattle.rs_query.specs.WellFormed.{IsQuery, entries_mask}
use Rattle.rs_query.specs.declared.block.Block.{Block}
use Rattle.rs_query.specs.declared.query.Query.{Query}
use Rattle.rs_query.specs.declared.query.Query.TheVariants.{One, Set}
use Rattle.rs_query.specs.declared.term.Term.{Term}
use Rattle.rs_query.proofs.EntryFacts.{items-inside, terms-inside}
use Rattle.rs_plan.specs.Lists.{World, key_under, list_of, numbered_block, row_under, sources}
use Rattle.rs_query.specs.Blocks.{block_in}
use Rattle.rs_plan.specs.Plans.{IsPart, IsPlan, IsRank, IsSetPlan}
use Rattle.rs_plan.specs.Trees.{Rank, SetOperator, PlanTree, entries, terms}
use Rattle.rs_exec.specs.Asked.{HasBlock}
use Rattle.rs_exec.specs.Asking.{world_of}
use Rattle.rs_exec.specs.OutputValues.{CanPutOut}
use Rattle.rs_exec.specs.Parts.{IsPartOf}
use Rattle.rs_exec.proofs.BlockFacts.{block-formed, few-entries, same-counts, sizes-are, slice_get-none}
use Rattle.rs_exec.proofs.FewFacts.{base-few, filter-less, length-firsts, sources-few}
use Rattle.rs_exec.proofs.ListFacts.{IsOf, each-base, each-set, each-source, list-length, unsorted}

-- a part of a plan of a block is one of the query
pub part-of : (catalogue : CatalogDef) (query : Query) (number : ℕ) (tree : PlanTree) → IsPart catalogue (block_in query number) tree → IsPartOf catalogue query number tree
part-of catalogue query number (Rank term child) part = (part-of catalogue query number child part.0, part.1)
part-of catalogue query number (SetOperator left right) part = absurd part
part-of catalogue query number tree part = part

-- a plan is one
plan-set : (catalogue : CatalogDef) (op : SetOp) (left right : Block) (limit : Option ℕ) (tree : PlanTree) → IsSetPlan catalogue left right tree
    → IsPartOf catalogue (Set op left right limit) 1 tree
plan-set catalogue op left right limit (Rank term child) plan = (plan-set catalogue op left right limit child plan.0, plan.1)
plan-set catalogue op left right limit (SetOperator l r) plan = (refl, plan.0, plan.1, plan.2)
plan-set catalogue op left right limit tree plan = absurd plan

pub plan-part : (catalogue : CatalogDef) (query : Query) (tree : PlanTree) → IsPlan catalogue query tree → IsPartOf catalogue query 1 tree
plan-part catalogue (One block limit) tree plan = part-of catalogue (One block limit) 1 tree plan.0.part
plan-part catalogue (Set op left right limit) tree plan = plan-set catalogue op left right limit tree plan.0

-- it ranges over all entries
set-entries : (catalogue : CatalogDef) (left right : Block) (tree : PlanTree) → IsSetPlan catalogue left right tree → entries tree ≡ all_entries left
set-entries catalogue left right (Rank term child) plan = set-entries catalogue left right child plan.0
set-entries catalogue left right (SetOperator l r) plan = plan.0.all
set-entries catalogue left right tree plan = absurd plan

pub plan-entries : (catalogue : CatalogDef) (query : Query) (tree : PlanTree) → IsPlan catalogue query tree → entries tree ≡ all_entries (block_in query 1)
plan-entries catalogue (One block limit) tree plan = plan.0.all
plan-entries catalogue (Set op left right limit) tree plan = set-entries catalogue left right tree plan.0

-- ids of a part of a plan: of its block and its entries, or of all entries of their block; with rows of the tables of these
pub record IsPlaced (w : World) (number mask : ℕ) (ids : Ids) : Type 0 where
  pub place : ((ids.block ≡ number) × (ids.mask ≡ mask)) ⊎ (ids.mask ≡ all_entries (numbered_block w ids.block))
  pub rows : HasRows w.catalogue (numbered_block w ids.block) ids.mask ids.rows

-- they are no more than both sides have
length-set : (op : SetOp) (lefts rights : List Answer) → length (set_base op lefts rights) ≤ length lefts + length rights
length-set UnionAll lefts rights = let all = length-append lefts rights in omega arith
length-set Union lefts rights = let all = length-append lefts rights in let few = length-firsts (lefts ++ rights) in omega arith
length-set Intersect lefts rights =
    let few = length-firsts (filter (occurs_in rights) lefts) in let kept = filter-less (occurs_in rights) lefts in omega arith
length-set Except lefts rights =
    let few = length-firsts (filter (λ a. not (occurs_in rights a)) lefts) in let kept = filter-less (λ a. not (occurs_in rights a)) lefts in omega arith

module _ (catalogue : CatalogDef) (answer : Answering) where
  placed-rows : (query : Query) (number mask : ℕ) (ids : Ids) → ids.block ≡ number → ids.mask ≡ mask → HasRows catalogue (block_in query number) mask ids.rows
      → HasRows catalogue (block_in query ids.block) ids.mask ids.rows
  placed-rows query number mask ids block is_mask rows =
      subst (λ n. HasRows catalogue (block_in query n) ids.mask ids.rows) (sym block) (subst (λ m. HasRows catalogue (block_in query number) m ids.rows) (sym is_mask) rows)

  -- the ids of a part of a plan of a block
  of-block : (query : Query) (number mask : ℕ) (ids : Ids) → IsOf (world_of catalogue answer query) number mask ids → IsPlaced (world_of catalogue answer query) number mask ids
  of-block query number mask ids is = record { place = inl (is.block, is.mask_is); rows = placed-rows query number mask ids is.block is.mask_is is.rows }

  -- and those of all its rows
  of-base : (query : Query) (number other mask : ℕ) (ids : Ids) → IsOf (world_of catalogue answer query) number (all_entries (block_in query number)) ids
      → IsPlaced (world_of catalogue answer query) other mask ids
  of-base query number other mask ids is = record {
    place = inr (is.mask_is ∙ ap (λ n. all_entries (block_in query n)) (sym is.block));
    rows = placed-rows query number (all_entries (block_in query number)) ids is.block is.mask_is is.rows;
  }

  each-part : (query : Query) (number : ℕ) (tree : PlanTree) → IsQuery catalogue query → HasBlock query number → IsPart catalogue (block_in query number) tree
      → AllByRecursion (IsPlaced (world_of catalogue answer query) number (entries tree)) (sources (world_of catalogue answer query) number tree)
  each-part query number tree formed has part =
      let w = world_of catalogue answer query in
      each-weaker (IsOf w number (entries tree)) (IsPlaced w number (entries tree)) (of-block query number (entries tree)) (sources w number tree)
      (each-source w number (few-entries catalogue query number formed) (sizes-are catalogue answer query number has) tree part)

  abbrev Rows : Query → ℕ → Answer → Type 0
  Rows query mask row = IsPlaced (world_of catalogue answer query) 1 mask row.ids

  each-sides : (query : Query) (number : ℕ) (left right : PlanTree) → IsQuery catalogue query → IsPartOf catalogue query number (SetOperator left right)
      → AllByRecursion (IsPlaced (world_of catalogue answer query) number (entries left)) (sources (world_of catalogue answer query) number (SetOperator left right))
  each-sides (One block limit) number left right formed part = absurd part
  each-sides (Set op l r limit) number left right formed part =
      let query = Set op l r limit in
      let w = world_of catalogue answer query in
      let mask = entries left in
      let lefts = base_of answer catalogue 1 l w.view.first in
      let rights = base_of answer catalogue 2 r w.view.second in
      subst (λ n. AllByRecursion (IsPlaced w n mask) (map (λ (row : Answer). row.ids) (set_base op lefts rights))) (sym part.0)
      (each-map (IsPlaced w 1 mask) (λ (row : Answer). row.ids) (set_base op lefts rights)
      (each-set (Rows query mask) op lefts rights
      (each-weaker (λ (row : Answer). IsOf w 1 (all_entries (block_in query 1)) row.ids) (Rows query mask) (λ row is. of-base query 1 1 mask row.ids is) lefts
      (each-base w 1 (few-entries catalogue query 1 formed) (sizes-are catalogue answer query 1 (inl refl))))
      (each-weaker (λ (row : Answer). IsOf w 2 (all_entries (block_in query 2)) row.ids) (Rows query mask) (λ row is. of-base query 2 1 mask row.ids is) rights
      (each-base w 2 (few-entries catalogue query 2 formed) (sizes-are catalogue answer query 2 (inr refl))))))

  each-placed : (query : Query) (number : ℕ) (tree : PlanTree) → IsQuery catalogue query → HasBlock query number → IsPartOf catalogue query number tree
      → AllByRecursion (IsPlaced (world_of catalogue answer query) number (entries tree)) (sources (world_of catalogue answer query) number tree)
  each-placed query number (Rank term child) formed has part = each-placed query number child formed has part.0
  each-placed query number (SetOperator left right) formed has part = each-sides query number left right formed part
  each-placed query number tree formed has part = each-part query number tree formed has part

  -- so are those of each row of its list
  pub row-placed : (query : Query) (number : ℕ) (tree : PlanTree) → IsQuery catalogue query → HasBlock query number → IsPartOf catalogue query number tree
      → (n : ℕ) (row : RankRow) → slice_get (list_of (world_of catalogue answer query) number tree) n ≡ Some row
      → IsPlaced (world_of catalogue answer query) number (entries tree) row.ids
  row-placed query number tree formed has part n row there =
      let w = world_of catalogue answer query in
      let image = In-map-back (row_under w (terms tree)) row (sources w number tree)
      (In-sorted-back key_cmp (key_under w (terms tree)) (unsorted w number tree) row (In-slice_get n (list_of w number tree) row there)) in
      subst (λ (r : RankRow). IsPlaced w number (entries tree) r.ids) (sym image.image)
      (AllByRecursion-In (IsPlaced w number (entries tree)) (sources w number tree) (each-placed query number tree formed has part) image.source image.is_in)

  -- no list has more rows than the tables of two blocks can make
  few-sides : (query : Query) (number : ℕ) (left right : PlanTree) → ((n : ℕ) → AllByRecursion (λ size. size ≤ 131072) (sizes_of catalogue (block_in query n)))
      → IsPartOf catalogue query number (SetOperator left right) → length (sources (world_of catalogue answer query) number (SetOperator left right)) ≤ 2 ^ 103
  few-sides (One block limit) number left right tables part = absurd part
  few-sides (Set op l r limit) number left right tables part =
      let query = Set op l r limit in
      let w = world_of catalogue answer query in
      let lefts = base_of answer catalogue 1 l w.view.first in
      let rights = base_of answer catalogue 2 r w.view.second in
      let all = length-set op lefts rights in
      let count = length-map (set_base op lefts rights) (λ (row : Answer). row.ids) in
      let one = base-few w 1 (sizes-are catalogue answer query 1 (inl refl)) (tables 1) in
      let two = base-few w 2 (sizes-are catalogue answer query 2 (inr refl)) (tables 2) in
      omega arith

  few-part : (query : Query) (number : ℕ) (tree : PlanTree) → HasBlock query number → ((n : ℕ) → AllByRecursion (λ size. size ≤ 131072) (sizes_of catalogue (block_in query n)))
      → IsPart catalogue (block_in query number) tree → length (sources (world_of catalogue answer query) number tree) ≤ 2 ^ 103
  few-part query number tree has tables part =
      let w = world_of catalogue answer query in
      let few = sources-few w number (sizes-are catalogue answer query number has) (tables number) tree part in
      omega arith

  few-placed : (query : Query) (number : ℕ) (tree : PlanTree) → HasBlock query number → ((n : ℕ) → AllByRecursion (λ size. size ≤ 131072) (sizes_of catalogue (block_in query n)))
      → IsPartOf catalogue query number tree → length (sources (world_of catalogue answer query) number tree) ≤ 2 ^ 103
  few-placed query number (Rank term child) has tables part = few-placed query number child has tables part.0
  few-placed query number (SetOperator left right) has tables part = few-sides query number left right tables part
  few-placed query number tree has tables part = few-part query number tree has tables part

  pub list-few-of : (query : Query) (number : ℕ) (tree : PlanTree) → HasBlock query number → ((n : ℕ) → AllByRecursion (λ size. size ≤ 131072) (sizes_of catalogue (block_in query n)))
      → IsPartOf catalogue query number tree → length (list_of (world_of catalogue answer query) number tree) ≤ 2 ^ 103
  list-few-of query number tree has tables part =
      let same = list-length (world_of catalogue answer query) number tree in let all = few-placed query number tree has tables part in omega arith

-- a term of the block of a row, all of whose entries the row has
pub record TermFor (catalogue : CatalogDef) (query : Query) (number : ℕ) (ids : Ids) : Type 0 where
  pub term : Term
  pub there : slice_get (block_in query ids.block).terms (number - 1) ≡ Some term
  pub inside : is_inside term.entries ids.mask ≡ true

-- a term that is evaluated above a part of a plan is one of the block of each of its rows
pub row-term : (catalogue : CatalogDef) (answer : Answering) (query : Query) (number term : ℕ) (child : PlanTree) (ids : Ids) → IsQuery catalogue query
    → IsRank (block_in query number) term child → IsPlaced (world_of catalogue answer query) number (entries child) ids → TermFor catalogue query term ids
row-term catalogue answer query number term child ids formed rank placed = elim placed.place [
  | inl at ↦ record {
    term = rank.term;
    there = subst (λ n. slice_get (block_in query n).terms (term - 1) ≡ Some rank.term) (sym at.0) rank.is_term.there;
    inside = ap (is_inside rank.term.entries) at.1 ∙ rank.there;
  }
  | inr all ↦
      let block = block_in query ids.block in
      let within = slice_get_within (block_in query number).terms (term - 1) rank.term rank.is_term.there in
      let count = same-counts catalogue query ids.block number formed in
      found block refl all (omega arith) (slice_get block.terms (term - 1)) refl
]
  where
    found : (block : Block) → block ≡ block_in query ids.block → ids.mask ≡ all_entries block → term - 1 < length block.terms
        → (t : Option Term) → slice_get block.terms (term - 1) ≡ t → TermFor catalogue query term ids
    found block is all within None e = absurd (let past = slice_get-none block.terms (term - 1) e in omega arith)
    found block is all within (Some t) e = record {
      term = t;
      there = subst (λ (b : Block). slice_get b.terms (term - 1) ≡ Some t) is e;
      inside = ap (is_inside t.entries) all ∙ subst (λ (b : Block). is_inside t.entries (all_entries b) ≡ true) (sym is)
          (each-slice_get (λ (u : Term). is_inside u.entries (all_entries (block_in query ids.block)) ≡ true) (block_in query ids.block).terms (term - 1) t
          (terms-inside catalogue (block_in query ids.block) (block-formed catalogue query ids.block formed)) (subst (λ (b : Block). slice_get b.terms (term - 1) ≡ Some t) is e));
    }

-- a row of all entries of its block has those of its output columns
pub can-put_out : (catalogue : CatalogDef) (query : Query) (row : RankRow) → IsQuery catalogue query → row.ids.mask ≡ all_entries (block_in query row.ids.block)
    → HasRows catalogue (block_in query row.ids.block) row.ids.mask row.ids.rows → CanPutOut catalogue query row
can-put_out catalogue query row formed mask rows =
    let block = block-formed catalogue query row.ids.block formed in
    record {
      block = block;
      inside = ap (is_inside (entries_mask (block_in query row.ids.block).items)) mask ∙ items-inside catalogue (block_in query row.ids.block) block;
      rows = rows;
    }

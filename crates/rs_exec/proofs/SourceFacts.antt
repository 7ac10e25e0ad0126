-- The rows of a plan are made of those of the query.
use Rattle.std.proofs.Common.{◌≡◌, ◌∙◌, ℕ, Bool, true, false, List, [], ◌∷◌, map, Option, refl, sym, ap}
use Rattle.std.proofs.lemmas.Bool.{true≢false}
use Rattle.rs_rank.specs.declared.answer.Answer.{Answer}
use Rattle.rs_rank.specs.declared.ids.Ids.{Ids}
use Rattle.rs_expr.specs.Scoring.{Answering}
use Rattle.rs_catalog.specs.Catalog.{CatalogDef}
use Rattle.rs_value.specs.declared.set_op.SetOp.{SetOp}
use Rattle.rs_query.specs.Answers.{all_terms, base_of, distinct_if, answer_row, rows_of}
use Rattle.rs_query.specs.Combinations.{combinations}
use Rattle.rs_query.specs.Tables.{all_entries}
use Rattle.rs_query.specs.Views.{View}
use Rattle.rs_query.specs.declared.block.Block.{Block}
use Rattle.rs_query.specs.declared.query.Query.{Query}
use Rattle.rs_query.specs.declared.query.Query.TheVariants.{One, Set}
use Rattle.rs_plan.specs.Lists.{World, numbered_block, ids_of, sizes_in, sources}
use Rattle.rs_query.specs.Blocks.{block_in}
use Rattle.rs_plan.specs.Plans.{HasNoDistinct, IsComplete, IsPart, IsPlan, IsSetPlan}
use Rattle.rs_plan.specs.Trees.{Distinct, JoinOperator, Rank, RankScan, SeqScan, SetOperator, PlanTree, entries, terms}

-- the ids of rows
abbrev pub ids_in : List Answer → List Ids
ids_in rows = map (λ (row : Answer). row.ids) rows

module _ (w : World) where
  -- where no duplicates are dropped, they are all combinations of the entries
  pub sources-combinations : (block : Block) (number : ℕ) (tree : PlanTree) → IsPart w.catalogue block tree → HasNoDistinct tree
      → sources w number tree ≡ ids_of w number (entries tree)
  sources-combinations block number (Rank term child) part none = sources-combinations block number child part.0 none
  sources-combinations block number (Distinct child) part none = absurd none
  sources-combinations block number (SetOperator left right) part none = absurd part
  sources-combinations block number tree part none = refl

  -- the rows of a block
  abbrev base : ℕ → List Answer
  base number = base_of w.answer w.catalogue number (numbered_block w number) (sizes_in w number)

  -- where duplicates are dropped, they are the rows of the block
  sources-dropped : (block : Block) (number : ℕ) (tree : PlanTree) → IsPart w.catalogue block tree → (HasNoDistinct tree → ⊥)
      → sources w number tree ≡ ids_in (base number)
  sources-dropped block number (SeqScan entry) part drops = absurd (drops tt)
  sources-dropped block number (RankScan entry term index) part drops = absurd (drops tt)
  sources-dropped block number (Rank term child) part drops = sources-dropped block number child part.0 drops
  sources-dropped block number (JoinOperator kind left right) part drops = absurd (drops (part.2.left_whole, part.2.right_whole))
  sources-dropped block number (Distinct child) part drops = refl
  sources-dropped block number (SetOperator left right) part drops = absurd part

  -- where the block doesn't say so, none are dropped
  whole : (block : Block) (tree : PlanTree) → IsPart w.catalogue block tree → block.distinct ≡ false → HasNoDistinct tree
  whole block (SeqScan entry) part plain = tt
  whole block (RankScan entry term index) part plain = tt
  whole block (Rank term child) part plain = whole block child part.0 plain
  whole block (JoinOperator kind left right) part plain = (part.2.left_whole, part.2.right_whole)
  whole block (Distinct child) part plain = absurd (true≢false (sym part.1.wanted ∙ plain))
  whole block (SetOperator left right) part plain = absurd part

  -- all combinations of a block, as ids and as rows
  abbrev row : ℕ → List ℕ → Answer
  row number rows = answer_row w.answer w.catalogue (numbered_block w number) number rows

  abbrev all : ℕ → List (List ℕ)
  all number = combinations w.catalogue (numbered_block w number) (sizes_in w number) (all_entries (numbered_block w number))

  pub ids-rows : (number : ℕ) (combinations : List (List ℕ))
      → map (λ (rows : List ℕ). record { block = number; mask = all_entries (numbered_block w number); rows = rows }) combinations
      ≡ ids_in (map (answer_row w.answer w.catalogue (numbered_block w number) number) combinations)
  ids-rows number [] = refl
  ids-rows number (rows ∷ rest) = ap (λ (ids : List Ids). record { block = number; mask = all_entries (numbered_block w number); rows = rows } ∷ ids) (ids-rows number rest)

  pub sources-complete : (number : ℕ) (tree : PlanTree) → IsComplete w.catalogue (numbered_block w number) tree
      → sources w number tree ≡ ids_in (base_of w.answer w.catalogue number (numbered_block w number) (sizes_in w number))
  sources-complete number tree complete = go (numbered_block w number).distinct refl where
    go : (b : Bool) → (numbered_block w number).distinct ≡ b → sources w number tree ≡ ids_in (base number)
    go true wanted = sources-dropped (numbered_block w number) number tree complete.part (complete.drops wanted)
    go false plain =
        sources-combinations (numbered_block w number) number tree complete.part (whole (numbered_block w number) tree complete.part plain)
        ∙ ap (ids_of w number) complete.all
        ∙ ids-rows number (all number)
        ∙ ap (λ b. ids_in (distinct_if b (map (row number) (all number)))) (sym plain)

module _ (catalogue : CatalogDef) (answer : Answering) (view : View) where
  abbrev world : Query → World
  world query = record { catalogue = catalogue; answer = answer; query = query; view = view }

  sources-set : (op : SetOp) (left right : Block) (limit : Option ℕ) (tree : PlanTree) → IsSetPlan catalogue left right tree
      → sources (world (Set op left right limit)) 1 tree ≡ ids_in (rows_of answer catalogue (Set op left right limit) view)
  sources-set op left right limit (Rank term child) plan = sources-set op left right limit child plan.0
  sources-set op left right limit (SetOperator l r) plan = refl
  sources-set op left right limit tree plan = absurd plan

  -- the ids of the rows of a plan are those of the rows of the query
  sources-query : (query : Query) (tree : PlanTree) → IsPlan catalogue query tree → sources (world query) 1 tree ≡ ids_in (rows_of answer catalogue query view)
  sources-query (One block limit) tree plan = sources-complete (world (One block limit)) 1 tree plan.0
  sources-query (Set op left right limit) tree plan = sources-set op left right limit tree plan.0

pub sources-plan : (w : World) (tree : PlanTree) → IsPlan w.catalogue w.query tree → sources w 1 tree ≡ ids_in (rows_of w.answer w.catalogue w.query w.view)
sources-plan w tree plan = sources-query w.catalogue w.answer w.view w.query tree plan

-- a plan evaluates all terms
pub terms-plan : (catalogue : CatalogDef) (query : Query) (tree : PlanTree) → IsPlan catalogue query tree → terms tree ≡ all_terms (block_in query 1)
terms-plan catalogue (One block limit) tree plan = plan.1
terms-plan catalogue (Set op left right limit) tree plan = plan.1

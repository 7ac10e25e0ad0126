-- The rows of a plan, in the order of their keys, are the rows of the query in the stable order of their scores.
use Rattle.std.proofs.Common.{◌≡◌, ◌∙◌, ℕ, ◌-◌, ◌^◌, ◌≤◌, Bool, true, false, ◌++◌, List, [], ◌∷◌, length, map, refl, sym, ap}
use Rattle.std.proofs.lemmas.List.{length-map}
use Rattle.std.specs.Prelude.{not}
use Rattle.std.specs.List.{AllByRecursion, filter}
use Rattle.std.specs.Ordering.{flip_args, nat_cmp}
use Rattle.rs_order.specs.Climbing.{Climbs, Precedes}
use Rattle.rs_order.specs.Sorting.{sorted}
use Rattle.rs_order.proofs.EachFacts.{each-append, each-filter}
use Rattle.rs_order.proofs.PartFacts.{sorted-map}
use Rattle.rs_rank.specs.Keys.{ids_cmp, key_cmp}
use Rattle.rs_rank.specs.Stable.{stable}
use Rattle.rs_rank.specs.Weights.{evaluated}
use Rattle.rs_rank.specs.declared.answer.Answer.{Answer}
use Rattle.rs_rank.specs.declared.row.RankRow.{RankRow}
use Rattle.rs_rank.proofs.SortedFacts.{stable-by_key, stable-by_score}
use Rattle.rs_expr.specs.Scoring.{Answering}
use Rattle.rs_catalog.specs.Catalog.{CatalogDef}
use Rattle.rs_value.specs.declared.set_op.SetOp.{SetOp}
use Rattle.rs_value.specs.declared.set_op.SetOp.TheVariants.{UnionAll, Union, Intersect, Except}
use Rattle.rs_query.specs.Answers.{all_terms, base_of, distinct_if, occurs_in, answer_row, rows_of, score_of, set_base, weights_of, worths_of}
use Rattle.rs_query.specs.Combinations.{combinations}
use Rattle.rs_query.specs.Tables.{all_entries}
use Rattle.rs_query.specs.Views.{View}
use Rattle.rs_query.specs.WellFormed.{AreSameTerms}
use Rattle.rs_query.specs.declared.block.Block.{Block}
use Rattle.rs_query.specs.declared.query.Query.{Query}
use Rattle.rs_query.specs.declared.query.Query.TheVariants.{One, Set}
use Rattle.rs_query.specs.declared.term.Term.{Term}
use Rattle.rs_query.proofs.RiseFacts.{Rise, Rise-query, each-firsts, ids_of}
use Rattle.rs_query.proofs.ScoreFacts.{same-sides, same-weights, score-evaluated}
use Rattle.rs_plan.specs.Lists.{World, numbered_block, key_under, list_of_plan, row_under, sizes_in, sources, weights_in}
use Rattle.rs_plan.specs.Plans.{IsPlan}
use Rattle.rs_plan.specs.Trees.{PlanTree, terms}
use Rattle.rs_exec.specs.Cursors.{HasFewTerms, answer_for, answers_of}
use Rattle.rs_exec.proofs.SourceFacts.{ids_in, sources-plan, terms-plan}

-- the stable order of what a function gives of each item
stable-map : {X Y : Type 0} (score : Y → ℕ) (f : X → Y) (xs : List X) → stable score (map f xs) ≡ map f (stable (λ x. score (f x)) xs)
stable-map score f xs =
    stable-by_score score (map f xs)
    ∙ sorted-map (flip_args nat_cmp) score f xs
    ∙ ap (map f) (sym (stable-by_score (λ x. score (f x)) xs))

module _ (w : World) (mask : ℕ) where
  -- a row of the query is what its ids give
  abbrev IsGiven : Answer → Type 0
  IsGiven row = answer_for w (row_under w mask row.ids) ≡ row

  -- what the terms of the mask give to a combination of a block is its score
  abbrev pub GivesScores : ℕ → Type 0
  GivesScores number = (rows : List ℕ)
      → evaluated (weights_in w) mask (worths_of w.answer w.catalogue (numbered_block w number) rows) ≡ score_of w.answer w.catalogue (numbered_block w number) rows (numbered_block w number).terms

  abbrev row : ℕ → List ℕ → Answer
  row number rows = answer_row w.answer w.catalogue (numbered_block w number) number rows

  given-row : (number : ℕ) → GivesScores number → (rows : List ℕ) → IsGiven (row number rows)
  given-row number scores rows = ap (λ (score : ℕ). record (row number rows) { score = score }) (scores rows)

  given-all : (number : ℕ) → GivesScores number → (all : List (List ℕ)) → AllByRecursion IsGiven (map (row number) all)
  given-all number scores [] = tt
  given-all number scores (rows ∷ rest) = (given-row number scores rows, given-all number scores rest)

  abbrev base : ℕ → List Answer
  base number = base_of w.answer w.catalogue number (numbered_block w number) (sizes_in w number)

  pub given-base : (number : ℕ) → GivesScores number → AllByRecursion IsGiven (base number)
  given-base number scores = go (numbered_block w number).distinct where
    go : (distinct : Bool) → AllByRecursion IsGiven (distinct_if distinct (map (row number) (combinations w.catalogue (numbered_block w number) (sizes_in w number) (all_entries (numbered_block w number)))))
    go true = each-firsts IsGiven (map (row number) (combinations w.catalogue (numbered_block w number) (sizes_in w number) (all_entries (numbered_block w number))))
        (given-all number scores (combinations w.catalogue (numbered_block w number) (sizes_in w number) (all_entries (numbered_block w number))))
    go false = given-all number scores (combinations w.catalogue (numbered_block w number) (sizes_in w number) (all_entries (numbered_block w number)))

  pub given-set : (op : SetOp) (lefts rights : List Answer) → AllByRecursion IsGiven lefts → AllByRecursion IsGiven rights → AllByRecursion IsGiven (set_base op lefts rights)
  given-set UnionAll lefts rights l r = each-append IsGiven lefts rights l r
  given-set Union lefts rights l r = each-firsts IsGiven (lefts ++ rights) (each-append IsGiven lefts rights l r)
  given-set Intersect lefts rights l r = each-firsts IsGiven (filter (occurs_in rights) lefts) (each-filter IsGiven (occurs_in rights) lefts l)
  given-set Except lefts rights l r =
      each-firsts IsGiven (filter (λ a. not (occurs_in rights a)) lefts) (each-filter IsGiven (λ a. not (occurs_in rights a)) lefts l)

  -- the rows of a node, made of the ids of some rows of the query
  abbrev rows_under : List Answer → List RankRow
  rows_under rows = map (row_under w mask) (ids_in rows)

  map-given : (rows : List Answer) → AllByRecursion IsGiven rows → map (answer_for w) (rows_under rows) ≡ rows
  map-given [] given = refl
  map-given (first ∷ rows) given =
      ap (λ (a : Answer). a ∷ map (answer_for w) (rows_under rows)) given.0 ∙ ap (λ (rest : List Answer). first ∷ rest) (map-given rows given.1)

  -- their ids rise as those of the rows do
  before : (first : Answer) (rows : List Answer) → AllByRecursion (Precedes ids_cmp ids_of first) rows
      → AllByRecursion (Precedes ids_cmp (λ (r : RankRow). r.ids) (row_under w mask first.ids)) (rows_under rows)
  before first [] h = tt
  before first (other ∷ rows) h = (h.0, before first rows h.1)

  climbs-under : (rows : List Answer) → Rise rows → Climbs ids_cmp (λ (r : RankRow). r.ids) (rows_under rows)
  climbs-under [] h = tt
  climbs-under (first ∷ rows) h = (before first rows h.0, climbs-under rows h.1)

  -- in the order of their keys they are in the stable order of their scores
  pub stable-under : (rows : List Answer) → Rise rows → AllByRecursion IsGiven rows
      → map (answer_for w) (sorted key_cmp (key_under w mask) (rows_under rows)) ≡ stable (λ (a : Answer). a.score) rows
  stable-under rows rise given =
      ap (map (answer_for w)) (sym (stable-by_key (weights_in w) mask (rows_under rows) (climbs-under rows rise)))
      ∙ sym (stable-map (λ (a : Answer). a.score) (answer_for w) (rows_under rows))
      ∙ ap (stable (λ (a : Answer). a.score)) (map-given rows given)

-- the scores of a block whose terms are all in the mask
scores-block : (answer : Answering) (catalogue : CatalogDef) (block : Block) (mask : ℕ) → mask ≡ all_terms block → length block.terms ≤ 8
    → (rows : List ℕ) → evaluated (weights_of block) mask (worths_of answer catalogue block rows) ≡ score_of answer catalogue block rows block.terms
scores-block answer catalogue block mask all few rows =
    ap (λ m. evaluated (weights_of block) m (worths_of answer catalogue block rows)) all ∙ score-evaluated answer catalogue block rows 8 block.terms few

-- two blocks with the same terms have as many
pub same-count : (left right : Block) → AreSameTerms left right left.terms right.terms → length left.terms ≡ length right.terms
same-count left right same =
    sym (length-map left.terms (λ (t : Term). t.weight))
    ∙ ap (λ (weights : List ℕ). length weights) (same-weights left right left.terms right.terms same)
    ∙ length-map right.terms (λ (t : Term). t.weight)

module _ (catalogue : CatalogDef) (answer : Answering) (view : View) where
  abbrev world : Query → World
  world query = record { catalogue = catalogue; answer = answer; query = query; view = view }

  given-query : (query : Query) (tree : PlanTree) → HasFewTerms query → IsPlan catalogue query tree
      → AllByRecursion (λ (row : Answer). answer_for (world query) (row_under (world query) (terms tree) row.ids) ≡ row) (rows_of answer catalogue query view)
  given-query (One block limit) tree few plan =
      given-base (world (One block limit)) (terms tree) 1 (scores-block answer catalogue block (terms tree) plan.1 few)
  given-query (Set op left right limit) tree few plan =
      let w = world (Set op left right limit) in
      let same = same-sides left right few.2 in
      let all : terms tree ≡ all_terms right = plan.1 ∙ ap (λ (n : ℕ). 2 ^ n - 1) (same-count left right few.2) in
      given-set w (terms tree) op (base_of answer catalogue 1 left view.first) (base_of answer catalogue 2 right view.second)
      (given-base w (terms tree) 1 (scores-block answer catalogue left (terms tree) plan.1 few.0))
      (given-base w (terms tree) 2 (λ rows. ap (λ weights. evaluated weights (terms tree) (worths_of answer catalogue right rows)) same
      ∙ scores-block answer catalogue right (terms tree) all few.1 rows))

pub answers-stable : (w : World) (tree : PlanTree) → HasFewTerms w.query → IsPlan w.catalogue w.query tree
    → answers_of w tree ≡ stable (λ (a : Answer). a.score) (rows_of w.answer w.catalogue w.query w.view)
answers-stable w tree few plan =
    ap (λ sources. map (answer_for w) (sorted key_cmp (key_under w (terms tree)) (map (row_under w (terms tree)) sources))) (sources-plan w tree plan)
    ∙ stable-under w (terms tree) (rows_of w.answer w.catalogue w.query w.view) (Rise-query w.answer w.catalogue w.query w.view)
    (given-query w.catalogue w.answer w.view w.query tree few plan)

-- two plans have the same list
pub lists-same : (w : World) (tree other : PlanTree) → IsPlan w.catalogue w.query tree → IsPlan w.catalogue w.query other → list_of_plan w tree ≡ list_of_plan w other
lists-same w tree other plan second =
    ap (λ mask. sorted key_cmp (key_under w mask) (map (row_under w mask) (sources w 1 tree)))
    (terms-plan w.catalogue w.query tree plan ∙ sym (terms-plan w.catalogue w.query other second))
    ∙ ap (λ sources. sorted key_cmp (key_under w (terms other)) (map (row_under w (terms other)) sources)) (sources-plan w tree plan ∙ sym (sources-plan w other second))

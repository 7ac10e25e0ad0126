-- Which rows a query has depends on no score.
use Rattle.std.proofs.Common.{◌≡◌, ◌∙◌, ℕ, Bool, true, false, not, ◌||◌, ◌++◌, List, [], ◌∷◌, map, refl, sym, ap, ap₂}
use Rattle.std.proofs.lemmas.List.{map-append}
use Rattle.std.specs.List.{AllByRecursion, filter}
use Rattle.rs_rank.specs.declared.answer.Answer.{Answer}
use Rattle.rs_rank.specs.declared.ids.Ids.{Ids}
use Rattle.rs_expr.specs.Scoring.{Answering}
use Rattle.rs_catalog.specs.Catalog.{CatalogDef}
use Rattle.rs_value.specs.declared.set_op.SetOp.{SetOp}
use Rattle.rs_value.specs.declared.set_op.SetOp.TheVariants.{UnionAll, Union, Intersect, Except}
use Rattle.rs_outputs.specs.Seen.{same_values}
use Rattle.rs_query.specs.Answers.{answer_row, base_of, distinct_if, firsts, occurs_in, rows_of, set_base}
use Rattle.rs_query.specs.Combinations.{combinations}
use Rattle.rs_query.specs.Tables.{all_entries}
use Rattle.rs_query.specs.Views.{View}
use Rattle.rs_query.specs.declared.block.Block.{Block}
use Rattle.rs_query.specs.declared.query.Query.{Query}
use Rattle.rs_query.specs.declared.query.Query.TheVariants.{One, Set}
use Rattle.rs_exec.proofs.DistinctListFacts.{map-filter}

abbrev unscored : Answer → Answer
unscored row = record row { score = 0 }

unscored-firsts : (rows : List Answer) → map unscored (firsts rows) ≡ firsts (map unscored rows)
unscored-firsts [] = refl
unscored-firsts (row ∷ rows) =
    ap (λ (rest : List Answer). unscored row ∷ rest)
    (map-filter unscored (λ (other : Answer). not (same_values row.values other.values)) (λ (other : Answer). not (same_values row.values other.values)) (firsts rows) (each (firsts rows))
    ∙ ap (λ (rest : List Answer). filter (λ (other : Answer). not (same_values row.values other.values)) rest) (unscored-firsts rows))
  where
    each : (others : List Answer) → AllByRecursion (λ (other : Answer). not (same_values row.values other.values) ≡ not (same_values row.values (unscored other).values)) others
    each [] = tt
    each (other ∷ others) = (refl, each others)

-- whether a row's values occur among those of others
occurs-unscored : (rows : List Answer) (row : Answer) → occurs_in rows row ≡ occurs_in (map unscored rows) (unscored row)
occurs-unscored [] row = refl
occurs-unscored (other ∷ rows) row = ap (λ b. same_values other.values row.values || b) (occurs-unscored rows row)

each-occurs : (test : Bool → Bool) (lefts rights : List Answer) → AllByRecursion (λ (row : Answer). test (occurs_in rights row) ≡ test (occurs_in (map unscored rights) (unscored row))) lefts
each-occurs test [] rights = tt
each-occurs test (row ∷ lefts) rights = (ap test (occurs-unscored rights row), each-occurs test lefts rights)

set-unscored : (op : SetOp) (lefts rights : List Answer) → map unscored (set_base op lefts rights) ≡ set_base op (map unscored lefts) (map unscored rights)
set-unscored UnionAll lefts rights = map-append unscored lefts rights
set-unscored Union lefts rights = unscored-firsts (lefts ++ rights) ∙ ap firsts (map-append unscored lefts rights)
set-unscored Intersect lefts rights =
    unscored-firsts (filter (occurs_in rights) lefts)
    ∙ ap firsts (map-filter unscored (occurs_in rights) (occurs_in (map unscored rights)) lefts (each-occurs (λ b. b) lefts rights))
set-unscored Except lefts rights =
    unscored-firsts (filter (λ row. not (occurs_in rights row)) lefts)
    ∙ ap firsts (map-filter unscored (λ row. not (occurs_in rights row)) (λ row. not (occurs_in (map unscored rights) row)) lefts (each-occurs not lefts rights))

module _ (catalogue : CatalogDef) (answer other : Answering) where
  rows-unscored : (number : ℕ) (block : Block) (all : List (List ℕ)) → map unscored (map (answer_row answer catalogue block number) all) ≡ map unscored (map (answer_row other catalogue block number) all)
  rows-unscored number block [] = refl
  rows-unscored number block (rows ∷ rest) = ap (λ (more : List Answer). unscored (answer_row answer catalogue block number rows) ∷ more) (rows-unscored number block rest)

  pub base-unscored : (number : ℕ) (block : Block) (sizes : List ℕ) → map unscored (base_of answer catalogue number block sizes) ≡ map unscored (base_of other catalogue number block sizes)
  base-unscored number block sizes = go block.distinct where
    go : (b : Bool) → map unscored (distinct_if b (map (answer_row answer catalogue block number) (combinations catalogue block sizes (all_entries block))))
        ≡ map unscored (distinct_if b (map (answer_row other catalogue block number) (combinations catalogue block sizes (all_entries block))))
    go false = rows-unscored number block (combinations catalogue block sizes (all_entries block))
    go true =
        unscored-firsts (map (answer_row answer catalogue block number) (combinations catalogue block sizes (all_entries block)))
        ∙ ap firsts (rows-unscored number block (combinations catalogue block sizes (all_entries block)))
        ∙ sym (unscored-firsts (map (answer_row other catalogue block number) (combinations catalogue block sizes (all_entries block))))

  pub query-unscored : (query : Query) (view : View) → map unscored (rows_of answer catalogue query view) ≡ map unscored (rows_of other catalogue query view)
  query-unscored (One block limit) view = base-unscored 1 block view.first
  query-unscored (Set op left right limit) view =
      set-unscored op (base_of answer catalogue 1 left view.first) (base_of answer catalogue 2 right view.second)
      ∙ ap₂ (set_base op) (base-unscored 1 left view.first) (base-unscored 2 right view.second)
      ∙ sym (set-unscored op (base_of other catalogue 1 left view.first) (base_of other catalogue 2 right view.second))

ids-unscored : (rows : List Answer) → map (λ (row : Answer). row.ids) (map unscored rows) ≡ map (λ (row : Answer). row.ids) rows
ids-unscored [] = refl
ids-unscored (row ∷ rows) = ap (λ (rest : List Ids). row.ids ∷ rest) (ids-unscored rows)

pub same-ids : (rows others : List Answer) → map unscored rows ≡ map unscored others → map (λ (row : Answer). row.ids) rows ≡ map (λ (row : Answer). row.ids) others
same-ids rows others same = sym (ids-unscored rows) ∙ ap (map (λ (row : Answer). row.ids)) same ∙ ids-unscored others

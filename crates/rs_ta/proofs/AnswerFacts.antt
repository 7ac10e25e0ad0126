-- What a scan of an eligible block gives is the answer of the block.
use Rattle.std.proofs.Common.{◌≡◌, ◌∙◌, ℕ, zero, suc, ◌+◌, ◌-◌, ◌^◌, ◌<◌, ◌≤◌, ◌++◌, Bool, true, false, cond, List, [], ◌∷◌, length, map, refl, sym, ap, subst, arith, add-zero}
use Rattle.std.specs.Prelude.{Option, Some, option_and_then, option_map, slice_get, unwrap_or}
use mathlib.Core.Path.{fun_ext}
use Rattle.std.specs.List.{AllByRecursion, filter, flat_map}
use Rattle.rs_order.specs.Climbing.{Climbs, Precedes}
use Rattle.rs_order.specs.Schedule.{numbers_from}
use Rattle.rs_order.specs.Sorting.{sorted}
use Rattle.rs_order.proofs.ClimbingFacts.{AllByRecursion-from_In, Climbs-map}
use Rattle.rs_order.proofs.EachFacts.{each-filter}
use Rattle.rs_order.proofs.ItemFacts.{Climbs-filter}
use Rattle.rs_table.specs.Relation.{Relation}
use Rattle.rs_rank.specs.Keys.{ids_cmp, key_cmp}
use Rattle.rs_rank.specs.Rows.{key_of}
use Rattle.rs_rank.specs.Stable.{stable}
use Rattle.rs_rank.specs.declared.answer.Answer.{Answer}
use Rattle.rs_rank.specs.declared.key.Key.{Key}
use Rattle.rs_rank.specs.declared.row.RankRow.{RankRow}
use Rattle.rs_rank.specs.declared.weights.Weights.{Weights}
use Rattle.rs_rank.proofs.SortedFacts.{stable-by_key}
use Rattle.rs_rank.proofs.StableFacts.{stable-map}
use Rattle.rs_expr.specs.Scoring.{Answering}
use Rattle.rs_catalog.specs.Catalog.{CatalogDef, NamedTable}
use Rattle.rs_catalog.specs.IndexesHold.{Holds}
use Rattle.rs_query.specs.Answers.{answer_of, answer_row, cut, distinct_if, score_of as block_score}
use Rattle.rs_query.specs.Combinations.{choices, combinations, numbers_to, satisfies}
use Rattle.rs_query.specs.Meaning.{outputs_of}
use Rattle.rs_query.specs.Tables.{all_entries, size_of, sizes_of}
use Rattle.rs_query.specs.Views.{all_rows}
use Rattle.rs_query.specs.WellFormed.{IsBlock, IsFromEntry}
use Rattle.rs_query.specs.declared.block.Block.{Block}
use Rattle.rs_query.specs.declared.query.Query.TheVariants.{One}
use Rattle.rs_query.specs.declared.term.Term.{Term}
use Rattle.rs_ta.specs.BlockTests.{holds_on, rows_of_one}
use Rattle.rs_ta.specs.Depths.{ScanInput, answers, ids_at, row_key, row_of}
use Rattle.rs_ta.specs.Eligible.{answer_for, block_input, eligible_indexes}
use Rattle.rs_ta.specs.IndexLists.{rankings_of}
use Rattle.rs_ta.specs.Lists.{IsRow, rows_in}
use Rattle.rs_ta.proofs.EligibleFacts.{AreFound, IsEligible, eligible-distinct, eligible-parts, found-count}
use Rattle.rs_ta.proofs.NumberFacts.{In-numbers_from-back}
use Rattle.rs_ta.proofs.PressFacts.{same-sum}
use Rattle.rs_ta.proofs.TermFacts.{IndexLaw, ranking-rows, some-at, sum-worth}

-- the numbers from one on
numbers-next : (first count : ℕ) → numbers_from first (suc count) ≡ numbers_from first count ++ (first + count) ∷ []
numbers-next first zero = let same : first ≡ first + 0 = omega arith in ap (λ n. n ∷ []) same
numbers-next first (suc count) =
    let same : suc first + count ≡ first + suc count = omega arith in
    ap (λ rest. first ∷ rest) (numbers-next (suc first) count) ∙ ap (λ n. (first ∷ numbers_from (suc first) count) ++ n ∷ []) same

numbers-same : (count : ℕ) → numbers_to count ≡ numbers_from 1 count
numbers-same zero = refl
numbers-same (suc count) =
    let next : suc count ≡ 1 + count = omega arith in
    ap (λ front. front ++ suc count ∷ []) (numbers-same count)
    ∙ ap (λ n. numbers_from 1 count ++ n ∷ []) next
    ∙ sym (numbers-next 1 count)

-- the choices of one entry of six are its row numbers
choices-one : (size : ℕ) → choices 1 (size ∷ 0 ∷ 0 ∷ 0 ∷ 0 ∷ 0 ∷ []) ≡ map rows_of_one (numbers_to size)
choices-one size = singles (numbers_to size) where
  singles : (rows : List ℕ) → flat_map (λ row. map (λ rest. row ∷ rest) ((0 ∷ 0 ∷ 0 ∷ 0 ∷ 0 ∷ []) ∷ [])) rows ≡ map rows_of_one rows
  singles [] = refl
  singles (row ∷ rows) = ap (λ rest. rows_of_one row ∷ rest) (singles rows)

filter-map : {A B : Type 0} (p : B → Bool) (f : A → B) (xs : List A) → filter p (map f xs) ≡ map f (filter (λ x. p (f x)) xs)
filter-map p f [] = refl
filter-map p f (x ∷ xs) =
    elim (p (f x)) as (λ b. cond b (f x ∷ filter p (map f xs)) (filter p (map f xs)) ≡ map f (cond b (x ∷ filter (λ x. p (f x)) xs) (filter (λ x. p (f x)) xs))) [
      | true ↦ ap (λ rest. f x ∷ rest) (filter-map p f xs)
      | false ↦ filter-map p f xs
    ]

map-map : {A B C : Type 0} (g : B → C) (f : A → B) (xs : List A) → map g (map f xs) ≡ map (λ x. g (f x)) xs
map-map g f [] = refl
map-map g f (x ∷ xs) = ap (λ rest. g (f x) ∷ rest) (map-map g f xs)

map-same : {A B : Type 0} (f g : A → B) (xs : List A) → AllByRecursion (λ x. f x ≡ g x) xs → map f xs ≡ map g xs
map-same f g [] same = refl
map-same f g (x ∷ xs) same = ap (λ y. y ∷ map f xs) same.0 ∙ ap (λ rest. g x ∷ rest) (map-same f g xs same.1)

-- rows of later numbers come behind
ids-climb : (first count : ℕ) → Climbs ids_cmp (ids_at 1 1) (numbers_from first count)
ids-climb first zero = tt
ids-climb first (suc count) = (
  AllByRecursion-from_In (Precedes ids_cmp (ids_at 1 1) first) (numbers_from (suc first) count)
      (λ number h. let bounds = In-numbers_from-back (suc first) count number h in same-sum 1 1 (record { least = omega arith; most = omega arith }) first number 0 (let least = bounds.0 in omega arith)),
  ids-climb (suc first) count,
)

abbrev no_weights : Weights
no_weights = record { weight = []; max = [] }

module _ (law : IndexLaw) (answer : Answering) (catalogue : CatalogDef) (block : Block) (indexes : List ℕ) (formed : IsBlock catalogue block) (eligible : eligible_indexes catalogue block ≡ Some indexes)
    (holds : AllByRecursion (Holds answer catalogue) indexes) where
  abbrev input : ScanInput
  input = block_input catalogue block indexes

  abbrev is : IsEligible catalogue block.from block.terms indexes
  is = eligible-parts catalogue block indexes eligible

  abbrev size : ℕ
  size = size_of catalogue block 1

  table-within : is.table < length catalogue.tables
  table-within = (subst (AllByRecursion (IsFromEntry catalogue)) is.from_is formed.entries).0

  -- the lists have the rows of the table
  first-rows : (terms : List Term) (some : List ℕ) → 1 ≤ length some → AreFound catalogue is.table terms some → AllByRecursion (Holds answer catalogue) some → rows_in (rankings_of catalogue some) ≡ size
  first-rows terms [] least found all_hold = absurd (omega arith)
  first-rows [] (index ∷ some) least found all_hold = absurd found
  first-rows (term ∷ terms) (index ∷ some) least found all_hold =
      let there = some-at catalogue.tables is.table table-within in
      ranking-rows law answer catalogue block is.table is.alias is.from_is there.0 there.1 term index found.0 all_hold.0

  pub input-rows : size ≡ rows_in input.lists
  input-rows =
      let some = is.some in
      let count = found-count catalogue is.table block.terms indexes is.found in
      sym (first-rows block.terms indexes (omega arith) is.found holds)

  -- the sum of a row is its score
  row-score : (row : ℕ) → IsRow size row → answer_for catalogue block (row_of input row) ≡ answer_row answer catalogue block 1 (rows_of_one row)
  row-score row is_row =
      let there = some-at catalogue.tables is.table table-within in
      let mask : 1 ≡ all_entries block = ap (λ (from : List (ℕ × List ℕ)). 2 ^ length from - 1) (sym is.from_is) in
      let sum = sum-worth law answer catalogue block is.table is.alias is.from_is there.0 there.1 row is_row 8 block.terms indexes formed.most_terms is.found holds in
      ap (λ (n : ℕ). record { ids = record { block = 1; mask = 1; rows = rows_of_one row }; score = n; values = outputs_of catalogue block (rows_of_one row) }) sum
      ∙ ap (λ (n : ℕ). record {
        ids = record { block = 1; mask = n; rows = rows_of_one row };
        score = block_score answer catalogue block (rows_of_one row) block.terms;
        values = outputs_of catalogue block (rows_of_one row);
      }) mask

  -- the rows for which the test holds
  abbrev kept : List ℕ
  kept = filter (holds_on catalogue block) (numbers_from 1 (rows_in input.lists))

  kept-rows : AllByRecursion (λ row. answer_for catalogue block (row_of input row) ≡ answer_row answer catalogue block 1 (rows_of_one row)) kept
  kept-rows =
      each-filter (λ row. answer_for catalogue block (row_of input row) ≡ answer_row answer catalogue block 1 (rows_of_one row)) (holds_on catalogue block) (numbers_from 1 (rows_in input.lists))
      (AllByRecursion-from_In (λ row. answer_for catalogue block (row_of input row) ≡ answer_row answer catalogue block 1 (rows_of_one row)) (numbers_from 1 (rows_in input.lists))
      (λ row h.
      let bounds = In-numbers_from-back 1 (rows_in input.lists) row h in
      let least = bounds.0 in
      let most = bounds.1 in
      let same = input-rows in
      row-score row (record { some = omega arith; within = omega arith })))

  -- the scan gives them in the stable order of their sums
  scan-stable : answers input ≡ stable (λ (row : RankRow). row.sum) (map (row_of input) kept)
  scan-stable =
      let rows = map (row_of input) kept in
      let climbs : Climbs ids_cmp (λ (row : RankRow). row.ids) rows =
      Climbs-map ids_cmp (λ (row : RankRow). row.ids) (row_of input) kept (Climbs-filter ids_cmp (ids_at 1 1) (holds_on catalogue block) (numbers_from 1 (rows_in input.lists)) (ids-climb 1 (rows_in input.lists))) in
      ap (λ (key : RankRow → Key). sorted key_cmp key rows) key-same ∙ sym (stable-by_key no_weights 0 rows climbs) where
        key-same : row_key ≡ key_of no_weights 0
        key-same = fun_ext (λ row. ap (λ (n : ℕ). record { bound = n; ids = row.ids }) (sym (add-zero row.sum)))

  -- and these are the combinations of the block
  kept-combinations : map (answer_row answer catalogue block 1) (combinations catalogue block (sizes_of catalogue block) (all_entries block)) ≡ map (answer_for catalogue block) (map (row_of input) kept)
  kept-combinations =
      let holding = satisfies catalogue block (all_entries block) in
      let one : all_entries block ≡ 1 = ap (λ (from : List (ℕ × List ℕ)). 2 ^ length from - 1) is.from_is in
      ap (λ (all : List (List ℕ)). map (answer_row answer catalogue block 1) (filter holding all))
      (ap (λ mask. choices mask (sizes_of catalogue block)) one ∙ ap (λ (sizes : List ℕ). choices 1 sizes) sizes-are ∙ choices-one size
      ∙ ap (map rows_of_one) (numbers-same size ∙ ap (numbers_from 1) input-rows))
      ∙ ap (map (answer_row answer catalogue block 1)) (filter-map holding rows_of_one (numbers_from 1 (rows_in input.lists)))
      ∙ map-map (answer_row answer catalogue block 1) rows_of_one kept
      ∙ sym (map-same (λ row. answer_for catalogue block (row_of input row)) (λ row. answer_row answer catalogue block 1 (rows_of_one row)) kept kept-rows)
      ∙ sym (map-map (answer_for catalogue block) (row_of input) kept) where
        -- how many rows an entry of these has
        size_in : List (ℕ × List ℕ) → ℕ → ℕ
        size_in from entry =
            unwrap_or (option_map (λ (table : Relation). length table.rows) (option_and_then (λ (f : ℕ × List ℕ). option_map (λ (t : NamedTable). t.table) (slice_get catalogue.tables f.0)) (slice_get from (entry - 1)))) 0

        -- there is no table at the other entries
        sizes-are : sizes_of catalogue block ≡ size ∷ 0 ∷ 0 ∷ 0 ∷ 0 ∷ 0 ∷ []
        sizes-are = ap (λ (from : List (ℕ × List ℕ)). size ∷ map (size_in from) (2 ∷ 3 ∷ 4 ∷ 5 ∷ 6 ∷ [])) is.from_is

  pub scan-answer : (limit : Option ℕ) → cut limit (map (answer_for catalogue block) (answers input)) ≡ answer_of answer catalogue (One block limit) (all_rows catalogue (One block limit))
  scan-answer limit =
      let rows = map (row_of input) kept in
      ap (λ (all : List Answer). cut limit all)
      (ap (map (answer_for catalogue block)) scan-stable
      ∙ stable-map (answer_for catalogue block) (λ (row : RankRow). row.sum) (λ (row : Answer). row.score) rows (each-refl rows)
      ∙ ap (stable (λ (row : Answer). row.score)) (sym kept-combinations ∙ sym (ap (λ b. distinct_if b (map (answer_row answer catalogue block 1) (combinations catalogue block (sizes_of catalogue block) (all_entries block)))) (eligible-distinct catalogue block indexes eligible)))) where
        each-refl : (rows : List RankRow) → AllByRecursion (λ (row : RankRow). (answer_for catalogue block row).score ≡ row.sum) rows
        each-refl [] = tt
        each-refl (row ∷ rows) = (refl, each-refl rows)

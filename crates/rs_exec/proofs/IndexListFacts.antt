-- The list of a scan of a rank index is the rows of the index that satisfy the conjuncts of its entry, in the order of the index.
use Rattle.std.proofs.Common.{◌≡◌, ◌∙◌, ℕ, ℤ, zero, suc, ◌+◌, ◌-◌, ◌*◌, ◌/◌, ◌%◌, ◌^◌, ◌<◌, ◌≤◌, ◌++◌, true, false, cond, eqb, List, [], ◌∷◌, length, map, set, get_or, refl, sym, ap, subst, arith}
use Rattle.std.specs.Int.Bits.{or_zero_l}
use Rattle.std.specs.List.{AllByRecursion, filter}
use Rattle.std.specs.Prelude.{Option, Some, option_map, slice_get, slice_index, unwrap_or}
use Rattle.std.proofs.Math.Nat.{zero-add, zero-div}
use Rattle.std.proofs.lemmas.List.{length-map}
use Rattle.std.proofs.lemmas.Option.{slice_get-get_or, slice_get_within}
use Rattle.rs_value.specs.declared.value.Value.{Value}
use Rattle.rs_order.specs.Climbing.{Climbs, Differs, HasDistinctKeys, Precedes}
use Rattle.rs_order.specs.Schedule.{numbers_from}
use Rattle.rs_order.specs.Sorting.{sorted}
use Rattle.rs_order.proofs.ClimbingFacts.{AllByRecursion-from_In}
use Rattle.rs_order.proofs.EachFacts.{each-slice_get}
use Rattle.rs_order.proofs.ItemFacts.{sorted-filter}
use Rattle.rs_order.proofs.SortingFacts.{HasDistinctKeys-sorted}
use Rattle.rs_rank.specs.Keys.{ids_cmp, key_cmp}
use Rattle.rs_rank.specs.Masks.{mask_of}
use Rattle.rs_rank.specs.Weights.{sum_inside}
use Rattle.rs_rank.specs.declared.ids.Ids.{Ids}
use Rattle.rs_rank.specs.declared.row.RankRow.{RankRow}
use Rattle.rs_rank.specs.declared.scored_row.ScoredRow.{ScoredRow}
use Rattle.rs_rank.specs.declared.weights.Weights.{Weights}
use Rattle.rs_rank.proofs.OrderFacts.{key_cmp-total}
use Rattle.rs_rank.proofs.SortedFacts.{ids_cmp-total}
use Rattle.rs_rank.proofs.StableFacts.{AllByRecursion-stable, length-stable}
use Rattle.rs_rank.proofs.WeightFacts.{sum_inside-one}
use Rattle.rs_expr.specs.Scores.{is_score, as_score}
use Rattle.rs_catalog.specs.Catalog.{CatalogDef, NamedTable, RankIndex}
use Rattle.rs_catalog.specs.Indexes.{RowsDiffer, args_in, predicate_for, ranking_at, rows_for, scored_from}
use Rattle.rs_query.specs.Answers.{padded, weights_of, worth_of}
use Rattle.rs_query.specs.Combinations.{choices, numbers_to}
use Rattle.rs_query.specs.Tables.{entry_table, row_number, size_of, sizes_of}
use Rattle.rs_query.specs.WellFormed.{IsFromEntry, IsQuery, IsTerm}
use Rattle.rs_query.specs.declared.block.Block.{Block}
use Rattle.rs_query.specs.declared.query.Query.{Query}
use Rattle.rs_query.specs.declared.query.Query.TheVariants.{One, Set}
use Rattle.rs_query.specs.declared.term.Term.{Term}
use Rattle.rs_query.proofs.CellFacts.{IsOf-table, entry_table-entry}
use Rattle.rs_query.proofs.ChoiceFacts.{Climbs-choices}
use Rattle.rs_query.proofs.ScoreFacts.{ranking-by_key, same-sides}
use Rattle.rs_scan.specs.Scans.{entries_in, entry_row, index_rows, scored}
use Rattle.rs_scan.proofs.IndexFacts.{entries_in-all}
use Rattle.rs_plan.specs.Counts.{size_at}
use Rattle.rs_plan.specs.Lists.{World, numbered_block, key_under, list_of, row_under, sizes_in, weights_in, worths}
use Rattle.rs_query.specs.Blocks.{block_in}
use Rattle.rs_plan.specs.Plans.{IsPart}
use Rattle.rs_plan.specs.Trees.{RankScan}
use Rattle.rs_exec.specs.Drawing.{passes}
use Rattle.rs_catalog.specs.IndexesHold.{Holds}
use Rattle.rs_exec.proofs.DrawFacts.{place-row_of}
use Rattle.rs_catalog.proofs.IndexForFacts.{IsIndexFor, index-for}
use Rattle.rs_query.proofs.IndexTermFacts.{index-worth}
use Rattle.rs_exec.proofs.ListFacts.{IdsRise, distinct-under, keys-of, others-of, rise-choices, tied-ids, unsorted}
use Rattle.rs_exec.proofs.MakingFacts.{IsRanked, ranked, scored-count, scored-rows, scored-within}
use Rattle.rs_exec.proofs.PartFacts.{numbers-next}
use Rattle.rs_exec.proofs.StepFacts.{block-formed, get_or-map-at}
use Rattle.rs_exec.proofs.TableFacts.{choices-are, filter-mapped, map-twice, sum-none}

-- the numbers from one on
numbers-same : (n : ℕ) → numbers_from 1 n ≡ numbers_to n
numbers-same zero = refl
numbers-same (suc n) =
    let next : 1 + n ≡ suc n = omega arith in
    numbers-next 1 n ∙ ap (λ (front : List ℕ). front ++ (1 + n) ∷ []) (numbers-same n) ∙ ap (λ k. numbers_to n ++ k ∷ []) next

-- what holds of what a function gives of each item
each-unmapped : {A B : Type 0} (P : B → Type 0) (f : A → B) (xs : List A) → AllByRecursion P (map f xs) → AllByRecursion (λ x. P (f x)) xs
each-unmapped P f [] all = tt
each-unmapped P f (x ∷ xs) all = (all.0, each-unmapped P f xs all.1)

-- ids that rise along what entries are mapped to
climbs-unmapped : {A : Type 0} (f : A → Ids) (xs : List A) → Climbs ids_cmp (λ (i : Ids). i) (map f xs) → Climbs ids_cmp f xs
climbs-unmapped f [] climbs = tt
climbs-unmapped f (x ∷ xs) climbs = (each-unmapped (Precedes ids_cmp (λ (i : Ids). i) (f x)) f xs climbs.0, climbs-unmapped f xs climbs.1)

-- entries whose rows have other ids are of other rows
rows-differ : (block entry weight : ℕ) (entries : List ScoredRow) → HasDistinctKeys ids_cmp (λ (r : RankRow). r.ids) (map (scored block entry weight) entries) → RowsDiffer entries
rows-differ block entry weight [] distinct = tt
rows-differ block entry weight (e ∷ entries) distinct = (
  differ entries distinct.0,
  rows-differ block entry weight entries distinct.1,
) where
  differ : (others : List ScoredRow) → AllByRecursion (Differs ids_cmp (λ (r : RankRow). r.ids) (scored block entry weight e)) (map (scored block entry weight) others)
      → AllByRecursion (λ (other : ScoredRow). e.row ≡ other.row → ⊥) others
  differ [] all = tt
  differ (other ∷ others) all = (
    λ same. all.0 (tied-ids (scored block entry weight e).ids (scored block entry weight other).ids refl (ap (λ n. (entry_row block entry n 0).ids.rows) same)),
    differ others all.1,
  )

-- numbers are where they stood before zeros were put behind them
padded-at : (n : ℕ) (numbers : List ℕ) (i : ℕ) → i < n → get_or (padded n numbers) i 0 ≡ get_or numbers i 0
padded-at zero numbers i within = absurd (omega arith)
padded-at (suc n) [] zero within = refl
padded-at (suc n) [] (suc i) within = padded-at n [] i (omega arith)
padded-at (suc n) (x ∷ numbers) zero within = refl
padded-at (suc n) (x ∷ numbers) (suc i) within = padded-at n numbers i (omega arith)

length-padded : (n : ℕ) (numbers : List ℕ) → length (padded n numbers) ≡ n
length-padded zero numbers = refl
length-padded (suc n) [] = ap suc (length-padded n [])
length-padded (suc n) (x ∷ numbers) = ap suc (length-padded n numbers)

-- each block of a query has the weights of the first one
weights-same : (catalogue : CatalogDef) (query : Query) (number : ℕ) → IsQuery catalogue query → weights_of (block_in query 1) ≡ weights_of (block_in query number)
weights-same catalogue (One block limit) number formed = refl
weights-same catalogue (Set op left right limit) number formed =
    elim (eqb number 1) as (λ b. weights_of left ≡ weights_of (cond b left right)) [ true ↦ refl | false ↦ same-sides left right formed.0.terms ]

-- the number of rows of an entry of six
sizes-at : (catalogue : CatalogDef) (block : Block) (entry : ℕ) → 1 ≤ entry → entry ≤ 6 → unwrap_or (slice_get (sizes_of catalogue block) (entry - 1)) 0 ≡ size_of catalogue block entry
sizes-at catalogue block zero some few = absurd (omega arith)
sizes-at catalogue block (suc zero) some few = refl
sizes-at catalogue block (suc (suc zero)) some few = refl
sizes-at catalogue block (suc (suc (suc zero))) some few = refl
sizes-at catalogue block (suc (suc (suc (suc zero)))) some few = refl
sizes-at catalogue block (suc (suc (suc (suc (suc zero))))) some few = refl
sizes-at catalogue block (suc (suc (suc (suc (suc (suc zero)))))) some few = refl
sizes-at catalogue block (suc (suc (suc (suc (suc (suc (suc entry))))))) some few = absurd (omega arith)

no_table : NamedTable
no_table = record { name = []; table = record { schema = []; rows = [] } }

module _ (w : World) (number entry term index : ℕ) (formed : IsQuery w.catalogue w.query) (part : IsPart w.catalogue (numbered_block w number) (RankScan entry term index))
    (holds : Holds w.answer w.catalogue index) (sizes : sizes_in w number ≡ sizes_of w.catalogue (numbered_block w number)) where
  abbrev block : Block
  block = numbered_block w number

  abbrev weight : ℕ
  weight = slice_index (weights_in w).weight (term - 1)

  abbrev size : ℕ
  size = size_at w number entry

  few : entry ≤ 6
  few = let is = block-formed w.catalogue w.query number formed in let most = is.most_entries in let last = part.is_entry.most in omega arith

  -- the table of the entry
  named : NamedTable
  named = get_or w.catalogue.tables part.table no_table

  table-named : slice_get w.catalogue.tables part.table ≡ Some named
  unfolding named
  table-named =
      let is = block-formed w.catalogue w.query number formed in
      slice_get-get_or w.catalogue.tables part.table no_table
      (each-slice_get (IsFromEntry w.catalogue) block.from (entry - 1) (part.table, part.alias) is.entries part.from)

  table-there : entry_table w.catalogue block entry ≡ Some named.table
  table-there = entry_table-entry w.catalogue block entry (part.table, part.alias) named.table part.from (ap (option_map (λ (t : NamedTable). t.table)) table-named)

  size-is : size ≡ length named.table.rows
  size-is =
      ap (λ (all : List ℕ). unwrap_or (slice_get all (entry - 1)) 0) sizes
      ∙ sizes-at w.catalogue block entry part.is_entry.some few
      ∙ (IsOf-table w.catalogue block (entry, 0) named.table table-there).size

  -- the index, and what it asks
  found : IsIndexFor w.catalogue part.table part.term.predicate part.term.args entry index
  found = index-for w.catalogue part.table part.term.predicate part.term.args entry index part.first

  rows-are : rows_for w.catalogue found.found.def ≡ named.table.rows
  rows-are =
      ap (λ n. unwrap_or (option_map (λ (t : NamedTable). t.table.rows) (slice_get w.catalogue.tables n)) []) found.table_is
      ∙ ap (λ (o : Option NamedTable). unwrap_or (option_map (λ (t : NamedTable). t.table.rows) o) []) table-named

  ranking-is : ranking_at w.catalogue index ≡ found.found.ranking
  ranking-is = ap (λ (o : Option RankIndex). unwrap_or (option_map (λ (i : RankIndex). i.ranking) o) []) found.there

  abbrev asks : List Value → ℤ
  asks values = w.answer (predicate_for w.catalogue found.found.def) (args_in found.found.def.args values)

  abbrev max : ℕ
  max = (predicate_for w.catalogue found.found.def).max

  rows-ranked : IsRanked (scored_from asks max 1 (rows_for w.catalogue found.found.def)) found.found.ranking
  rows-ranked = ranked (scored_from asks max 1 (rows_for w.catalogue found.found.def)) found.found.ranking (holds found.found found.there)

  count : length (rows_for w.catalogue found.found.def) ≡ size
  count = ap (λ (rows : List (List Value)). length rows) rows-are ∙ sym size-is

  -- a row of the entry, with what the term gives to it
  abbrev ids : List ℕ → Ids
  ids rows = record { block = number; mask = mask_of entry; rows = rows }

  abbrev ids_at : ℕ → Ids
  ids_at n = (entry_row number entry n 0).ids

  abbrev row : ℕ → RankRow
  row n = row_under w (mask_of term) (ids_at n)

  abbrev worth : List ℕ → ℕ
  worth rows = worth_of w.answer w.catalogue block rows part.term

  place : term - 1 < length block.terms
  place = slice_get_within block.terms (term - 1) part.term part.is_term.there

  place-few : term - 1 < 8
  place-few = let is = block-formed w.catalogue w.query number formed in let most = is.most_terms in let within = place in omega arith

  row-sum : (n : ℕ) → (row n).sum ≡ weight * worth (ids_at n).rows
  row-sum n =
      let weights = (weights_in w).weight in
      let values = worths w (ids_at n) in
      let within = place in
      let few_terms = place-few in
      let values_count : length values ≡ length block.terms = length-map block.terms (worth_of w.answer w.catalogue block (ids_at n).rows) in
      let weights_count : length weights ≡ 8 = length-padded 8 (map (λ (t : Term). t.weight) (block_in w.query 1).terms) in
      let no_term : eqb (0 / 2 ^ (term - 1) % 2) 1 ≡ false = ap (λ k. eqb (k % 2) 1) (zero-div (2 ^ (term - 1))) in
      ap (λ mask. sum_inside mask weights values) (sym (or_zero_l (mask_of term)))
      ∙ sum_inside-one (term - 1) 0 weights values (omega arith) (omega arith) no_term
      ∙ ap (λ k. k + get_or weights (term - 1) 0 * get_or values (term - 1) 0) (sum-none weights values)
      ∙ zero-add (get_or weights (term - 1) 0 * get_or values (term - 1) 0)
      ∙ ap (λ v. weight * v) (get_or-map-at (worth_of w.answer w.catalogue block (ids_at n).rows) block.terms (term - 1) part.term part.is_term.there)

  weight-some : 1 ≤ weight
  weight-some =
      let is = block-formed w.catalogue w.query number formed in
      let own = each-slice_get (IsTerm w.catalogue block) block.terms (term - 1) part.term is.terms part.is_term.there in
      let some = own.some_weight in
      let same : weight ≡ part.term.weight =
      ap (λ (all : Weights). get_or all.weight (term - 1) 0) (weights-same w.catalogue w.query number formed)
      ∙ padded-at 8 (map (λ (t : Term). t.weight) block.terms) (term - 1) place-few
      ∙ get_or-map-at (λ (t : Term). t.weight) block.terms (term - 1) part.term part.is_term.there in
      omega arith

  -- the score of the index for a row makes just that
  scored-row : (i : ℕ) (values : List Value) → slice_get (rows_for w.catalogue found.found.def) i ≡ Some values → is_score max (asks values) ≡ true
      → entry_row number entry (1 + i) (weight * as_score (asks values)) ≡ row (1 + i)
  scored-row i values there score =
      let at : 1 + i - 1 ≡ i = omega arith in
      let here : slice_get named.table.rows (row_number (ids_at (1 + i)).rows entry - 1) ≡ Some values =
      ap (λ n. slice_get named.table.rows (n - 1)) (place-row_of number entry (1 + i) part.is_entry.some few)
      ∙ ap (slice_get named.table.rows) at
      ∙ ap (λ (rows : List (List Value)). slice_get rows i) (sym rows-are)
      ∙ there in
      ap (λ (sum : ℕ). record { ids = ids_at (1 + i); sum = sum })
      (ap (λ n. weight * n) (index-worth w.answer w.catalogue block entry part.term found.found.def found.predicate_is found.args_are (ids_at (1 + i)).rows named.table values table-there here score)
      ∙ sym (row-sum (1 + i)))

  made-rows : map (scored number entry weight) rows-ranked.rows ≡ map row (numbers_to size)
  made-rows =
      scored-rows asks max number entry weight row 1 (rows_for w.catalogue found.found.def) rows-ranked.rows rows-ranked.scoring_is scored-row
      ∙ ap (λ n. map row (numbers_from 1 n)) count
      ∙ ap (map row) (numbers-same size)

  -- all rows of the entry, in the order of the table
  abbrev all : List RankRow
  all = map (row_under w (mask_of term)) (map ids (choices (mask_of entry) (sizes_in w number)))

  all-is : all ≡ map row (numbers_to size)
  all-is =
      ap (λ (chosen : List (List ℕ)). map (row_under w (mask_of term)) (map ids chosen)) (choices-are w number entry part.is_entry.some few sizes)
      ∙ ap (map (row_under w (mask_of term))) (map-twice ids (set (0 ∷ 0 ∷ 0 ∷ 0 ∷ 0 ∷ 0 ∷ []) (entry - 1)) (numbers_to size))
      ∙ map-twice (row_under w (mask_of term)) (λ n. ids (set (0 ∷ 0 ∷ 0 ∷ 0 ∷ 0 ∷ 0 ∷ []) (entry - 1) n)) (numbers_to size)

  unsorted-is : unsorted w number (RankScan entry term index) ≡ filter (passes w.catalogue w.query) all
  unsorted-is =
      sym (filter-mapped (passes w.catalogue w.query) (row_under w (mask_of term)) (map ids (choices (mask_of entry) (sizes_in w number)))
      ∙ ap (map (row_under w (mask_of term))) (filter-mapped (λ i. passes w.catalogue w.query (row_under w (mask_of term) i)) ids (choices (mask_of entry) (sizes_in w number))))

  rise : IdsRise (map ids (choices (mask_of entry) (sizes_in w number)))
  rise = rise-choices number (mask_of entry) (choices (mask_of entry) (sizes_in w number)) (Climbs-choices (mask_of entry) (sizes_in w number))

  distinct : HasDistinctKeys ids_cmp (λ (r : RankRow). r.ids) all
  distinct = distinct-under w (mask_of term) (map ids (choices (mask_of entry) (sizes_in w number))) rise

  -- their order by key is that of the index
  ids-under : (some : List Ids) → map (λ (r : RankRow). r.ids) (map (row_under w (mask_of term)) some) ≡ some
  ids-under [] = refl
  ids-under (first ∷ rest) = ap (λ (others : List Ids). first ∷ others) (ids-under rest)

  made-climb : Climbs ids_cmp (λ (e : ScoredRow). (scored number entry weight e).ids) rows-ranked.rows
  made-climb =
      climbs-unmapped (λ (e : ScoredRow). (scored number entry weight e).ids) rows-ranked.rows
      (subst IdsRise
      (sym (ids-under (map ids (choices (mask_of entry) (sizes_in w number))))
      ∙ ap (map (λ (r : RankRow). r.ids)) (all-is ∙ sym made-rows)
      ∙ map-twice (λ (r : RankRow). r.ids) (scored number entry weight) rows-ranked.rows)
      rise)

  ranking-rows : map (scored number entry weight) found.found.ranking ≡ sorted key_cmp (key_under w (mask_of term)) all
  ranking-rows =
      ap (map (scored number entry weight)) (sym rows-ranked.ranking_is)
      ∙ ranking-by_key (weights_in w) (mask_of term) weight (scored number entry weight) rows-ranked.rows weight-some
      (AllByRecursion-from_In (λ (e : ScoredRow). (scored number entry weight e).sum ≡ weight * e.score) rows-ranked.rows (λ e inside. refl)) made-climb
      ∙ ap (sorted key_cmp (key_under w (mask_of term))) (made-rows ∙ sym all-is)

  -- all its rows are in the view
  view-is : entries_in size found.found.ranking ≡ found.found.ranking
  view-is =
      let rows = count in
      entries_in-all size found.found.ranking
      (subst (AllByRecursion (λ (e : ScoredRow). e.row ≤ size)) rows-ranked.ranking_is
      (AllByRecursion-stable (λ (e : ScoredRow). e.score) (λ (e : ScoredRow). e.row ≤ size) rows-ranked.rows
      (scored-within asks max size 1 (rows_for w.catalogue found.found.def) rows-ranked.rows (omega arith) rows-ranked.scoring_is)))

  entries-are : index_rows number entry weight size (ranking_at w.catalogue index) ≡ sorted key_cmp (key_under w (mask_of term)) all
  entries-are =
      ap (λ (ranking : List ScoredRow). map (scored number entry weight) (entries_in size ranking)) ranking-is
      ∙ ap (map (scored number entry weight)) view-is
      ∙ ranking-rows

  -- an index that holds the answers is the stable order of its table by the worths of the term, and the rows that pass stay in
  -- this order
  pub index-list : list_of w number (RankScan entry term index) ≡ filter (passes w.catalogue w.query) (index_rows number entry weight size (ranking_at w.catalogue index))
  index-list =
      ap (sorted key_cmp (key_under w (mask_of term))) unsorted-is
      ∙ sorted-filter key_cmp (key_under w (mask_of term)) key_cmp-total (passes w.catalogue w.query) all (keys-of (key_under w (mask_of term)) (λ r. refl) all (others-of all distinct))
      ∙ ap (filter (passes w.catalogue w.query)) (sym entries-are)

  -- it has as many entries as its table has rows, and each row once
  pub index-count : length (entries_in size (ranking_at w.catalogue index)) ≡ size
  index-count =
      ap (λ (ranking : List ScoredRow). length (entries_in size ranking)) ranking-is
      ∙ ap (λ (ranking : List ScoredRow). length ranking) (view-is ∙ sym rows-ranked.ranking_is)
      ∙ length-stable (λ (e : ScoredRow). e.score) rows-ranked.rows
      ∙ scored-count asks max 1 (rows_for w.catalogue found.found.def) rows-ranked.rows rows-ranked.scoring_is
      ∙ count

  pub index-differ : RowsDiffer (entries_in size (ranking_at w.catalogue index))
  index-differ =
      rows-differ number entry weight (entries_in size (ranking_at w.catalogue index))
      (subst (HasDistinctKeys ids_cmp (λ (r : RankRow). r.ids)) (sym entries-are)
      (HasDistinctKeys-sorted key_cmp (key_under w (mask_of term)) ids_cmp ids_cmp-total (λ (r : RankRow). r.ids) all distinct))

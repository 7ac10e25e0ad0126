-- What a scan draws is what its list says: the rows of a table or of an index that satisfy the conjuncts of the entry.
use Rattle.std.proofs.Common.{◌≡◌, ◌∙◌, ℕ, zero, suc, ◌+◌, ◌-◌, ◌≤◌, List, [], ◌∷◌, slice_get, refl, sym, ap, arith}
use Rattle.std.proofs.lemmas.List.{length-map}
use Rattle.std.specs.List.{filter}
use Rattle.std.specs.Prelude.{option_map, slice_index, unwrap_or}
use Rattle.rs_rank.specs.declared.row.RankRow.{RankRow}
use Rattle.rs_catalog.specs.Indexes.{ranking_at}
use Rattle.rs_query.specs.Tables.{sizes_of}
use Rattle.rs_query.specs.WellFormed.{IsQuery}
use Rattle.rs_scan.proofs.ScanFacts.{length-rows_from}
use Rattle.rs_scan.specs.Scans.{index_rows, scored, table_rows}
use Rattle.rs_plan.specs.Counts.{drawn_of, entries_at, place_in_index, place_in_table, size_at}
use Rattle.rs_plan.specs.Lists.{World, numbered_block, list_of, sizes_in, weights_in}
use Rattle.rs_plan.specs.Plans.{IsPart}
use Rattle.rs_plan.specs.Trees.{RankScan, SeqScan}
use Rattle.rs_exec.specs.Drawing.{drawn_then, next_drawn, passes}
use Rattle.rs_catalog.specs.IndexesHold.{Holds}
use Rattle.rs_exec.proofs.DrawFacts.{drawn_for, drawn_for-index, drawn_for-most, drawn_for-table, first_of-drawn, place-row_of, through_first-drawn}
use Rattle.rs_exec.proofs.IndexListFacts.{index-count, index-differ, index-list}
use Rattle.rs_exec.proofs.StepFacts.{block-formed}
use Rattle.rs_exec.proofs.TableFacts.{table-list}

-- a scan of a table
module _ (w : World) (number entry : ℕ) (some : 1 ≤ entry) (few : entry ≤ 6) (sizes : sizes_in w number ≡ sizes_of w.catalogue (numbered_block w number)) where
  abbrev raw : List RankRow
  raw = table_rows number entry (size_at w number entry)

  -- it has drawn up to the last row that it gave
  drawn-table : (a : ℕ) → drawn_of w number (SeqScan entry) a ≡ drawn_for (passes w.catalogue w.query) raw a
  drawn-table zero = none raw where
    none : (xs : List RankRow) → 0 ≡ drawn_for (passes w.catalogue w.query) xs 0
    none [] = refl
    none (x ∷ xs) = refl
  drawn-table (suc n) =
      ap (λ (rows : List RankRow). unwrap_or (option_map (place_in_table entry) (slice_get rows n)) (size_at w number entry)) (table-list w number entry some few sizes)
      ∙ sym (drawn_for-table (passes w.catalogue w.query) number entry (λ k. place-row_of number entry k some few) 0 (size_at w number entry) n
      ∙ ap (unwrap_or (option_map (place_in_table entry) (slice_get (filter (passes w.catalogue w.query) raw) n))) (zero-less (size_at w number entry)))
      ∙ zero-less (drawn_for (passes w.catalogue w.query) raw (suc n)) where
        zero-less : (n : ℕ) → 0 + n ≡ n
        zero-less n = omega arith

  -- the next draws give the next row of its list
  pub table-next : (a : ℕ) → next_drawn (passes w.catalogue w.query) raw (drawn_of w number (SeqScan entry) a) ≡ slice_get (list_of w number (SeqScan entry)) a
  table-next a =
      ap (next_drawn (passes w.catalogue w.query) raw) (drawn-table a)
      ∙ first_of-drawn (passes w.catalogue w.query) raw a
      ∙ ap (λ (rows : List RankRow). slice_get rows a) (sym (table-list w number entry some few sizes))

  -- and go on up to it
  pub table-then : (a : ℕ) → drawn_then (passes w.catalogue w.query) raw (drawn_of w number (SeqScan entry) a) ≡ drawn_of w number (SeqScan entry) (suc a)
  table-then a =
      ap (drawn_then (passes w.catalogue w.query) raw) (drawn-table a)
      ∙ through_first-drawn (passes w.catalogue w.query) raw a
      ∙ sym (drawn-table (suc a))

  -- it draws no more rows than the table has
  pub table-drawn-most : (a : ℕ) → drawn_of w number (SeqScan entry) a ≤ size_at w number entry
  table-drawn-most a =
      let drawn = drawn-table a in
      let most = drawn_for-most (passes w.catalogue w.query) raw a in
      let count = length-rows_from number entry 1 (size_at w number entry) in
      omega arith

-- a scan of an index
module _ (w : World) (number entry term index : ℕ) (formed : IsQuery w.catalogue w.query) (part : IsPart w.catalogue (numbered_block w number) (RankScan entry term index))
    (holds : Holds w.answer w.catalogue index) (sizes : sizes_in w number ≡ sizes_of w.catalogue (numbered_block w number)) where
  abbrev entries : List RankRow
  entries = index_rows number entry (slice_index (weights_in w).weight (term - 1)) (size_at w number entry) (ranking_at w.catalogue index)

  few : entry ≤ 6
  few = let is = block-formed w.catalogue w.query number formed in let most = is.most_entries in let last = part.is_entry.most in omega arith

  list : list_of w number (RankScan entry term index) ≡ filter (passes w.catalogue w.query) entries
  list = index-list w number entry term index formed part holds sizes

  -- the place of a row in the index is its own, since no row stands twice in it
  drawn-index : (a : ℕ) → drawn_of w number (RankScan entry term index) a ≡ drawn_for (passes w.catalogue w.query) entries a
  drawn-index zero = none entries where
    none : (xs : List RankRow) → 0 ≡ drawn_for (passes w.catalogue w.query) xs 0
    none [] = refl
    none (x ∷ xs) = refl
  drawn-index (suc n) =
      let weight = slice_index (weights_in w).weight (term - 1) in
      let seen = entries_at w number entry index in
      ap (λ (rows : List RankRow). unwrap_or (option_map (place_in_index seen entry) (slice_get rows n)) (size_at w number entry)) list
      ∙ ap (λ all. unwrap_or (option_map (place_in_index seen entry) (slice_get (filter (passes w.catalogue w.query) entries) n)) all)
      (sym (index-count w number entry term index formed part holds sizes))
      ∙ sym (drawn_for-index (passes w.catalogue w.query) number entry weight (λ e. place-row_of number entry e.row part.is_entry.some few) seen n
      (index-differ w number entry term index formed part holds sizes))

  pub index-next : (a : ℕ) → next_drawn (passes w.catalogue w.query) entries (drawn_of w number (RankScan entry term index) a) ≡ slice_get (list_of w number (RankScan entry term index)) a
  index-next a =
      ap (next_drawn (passes w.catalogue w.query) entries) (drawn-index a)
      ∙ first_of-drawn (passes w.catalogue w.query) entries a
      ∙ ap (λ (rows : List RankRow). slice_get rows a) (sym list)

  pub index-then : (a : ℕ) → drawn_then (passes w.catalogue w.query) entries (drawn_of w number (RankScan entry term index) a) ≡ drawn_of w number (RankScan entry term index) (suc a)
  index-then a =
      ap (drawn_then (passes w.catalogue w.query) entries) (drawn-index a)
      ∙ through_first-drawn (passes w.catalogue w.query) entries a
      ∙ sym (drawn-index (suc a))

  -- it draws no more rows than its table has
  pub index-drawn-most : (a : ℕ) → drawn_of w number (RankScan entry term index) a ≤ size_at w number entry
  index-drawn-most a =
      let drawn = drawn-index a in
      let most = drawn_for-most (passes w.catalogue w.query) entries a in
      let mapped = length-map (entries_at w number entry index) (scored number entry (slice_index (weights_in w).weight (term - 1))) in
      let count = index-count w number entry term index formed part holds sizes in
      omega arith

-- The score of a row in the list of a term is what the term is worth on it, and the weighted sum is the score of the row.
use Rattle.std.proofs.Common.{◌≡◌, ◌∙◌, ℕ, ℤ, zero, suc, ◌+◌, ◌-◌, ◌*◌, ◌<◌, ◌≤◌, List, [], ◌∷◌, length, map, pos, refl, sym, ap, ap₂, arith}
use Rattle.std.specs.Prelude.{Option, Some, Ok, option_map, slice_get, unwrap_or}
use Rattle.std.specs.List.{AllByRecursion}
use Rattle.std.proofs.lemmas.Bool.{le-leb}
use Rattle.rs_value.specs.declared.value.Value.{Value}
use Rattle.rs_order.proofs.EachFacts.{each-get_or, each-weaker}
use Rattle.rs_rank.specs.declared.scored_row.ScoredRow.{ScoredRow}
use Rattle.rs_expr.specs.Predicates.{PredicateDef}
use Rattle.rs_expr.specs.Scores.{as_score, is_score}
use Rattle.rs_expr.specs.Scoring.{Answering}
use Rattle.rs_catalog.specs.Catalog.{CatalogDef, NamedTable, RankIndex}
use Rattle.rs_catalog.specs.Indexes.{IsIndexEntry, IsRanking, args_in, index_of, making_of, predicate_for, ranking_at, row_at, rows_for}
use Rattle.rs_catalog.specs.declared.index.BoundArg.{BoundArg}
use Rattle.rs_catalog.specs.IndexesHold.{Holds}
use Rattle.rs_catalog.proofs.IndexForFacts.{index-for}
use Rattle.rs_query.specs.Answers.{padded, worth_of, score_of as block_score}
use Rattle.rs_query.specs.Tables.{entry_table, size_of}
use Rattle.rs_query.specs.declared.block.Block.{Block}
use Rattle.rs_query.specs.declared.term.Term.{Term}
use Rattle.rs_query.proofs.CellFacts.{IsOf-table, entry_table-entry}
use Rattle.rs_query.proofs.IndexTermFacts.{index-worth}
use Rattle.rs_ta.specs.BlockTests.{rows_of_one}
use Rattle.rs_ta.specs.Depths.{entry_at, weighted_sum}
use Rattle.rs_ta.specs.IndexLists.{rankings_of}
use Rattle.rs_ta.specs.Lists.{IsRanked, IsRow, score_of}
use Rattle.rs_ta.proofs.EligibleFacts.{AreFound}
use Rattle.rs_ta.proofs.RankedFacts.{ranked-stands}

-- a ranking is a ranked list
pub IsRanked-ranking : (rows max : ℕ) (ranking : List ScoredRow) → IsRanking rows max ranking → IsRanked rows ranking
IsRanked-ranking rows max ranking is = record {
  all = is.all;
  each = each-weaker (IsIndexEntry rows max) (λ e. IsRow rows e.row) (λ e entry. record { some = entry.some; within = entry.within }) ranking is.each;
  differ = is.differ;
  ordered = is.ordered;
}

-- what stands at a place
pub some-at : {A : Type 0} (xs : List A) (i : ℕ) → i < length xs → (x : A) × (slice_get xs i ≡ Some x)
some-at [] i within = absurd (omega arith)
some-at (x ∷ xs) zero within = (x, refl)
some-at (x ∷ xs) (suc i) within = some-at xs i (omega arith)

there-at : {A : Type 0} (xs : List A) (i : ℕ) (other : A) → i < length xs → slice_get xs i ≡ Some (unwrap_or (slice_get xs i) other)
there-at [] i other within = absurd (omega arith)
there-at (x ∷ xs) zero other within = refl
there-at (x ∷ xs) (suc i) other within = there-at xs i other (omega arith)

-- what the law of rank indexes says of one that was made: its ranking has each row once, with the row's own score
pub record IndexLaw : Type 0 where
  pub is_ranking : (answer : Answering) (predicate : PredicateDef) (args : List BoundArg) (rows : List (List Value)) (ranking : List ScoredRow)
      → (making_of answer predicate args rows).outcome ≡ Ok ranking → IsRanking (length rows) predicate.max ranking
  pub scores_are : (answer : Answering) (predicate : PredicateDef) (args : List BoundArg) (rows : List (List Value)) (ranking : List ScoredRow)
      → (making_of answer predicate args rows).outcome ≡ Ok ranking → AllByRecursion (λ entry. pos entry.score ≡ answer predicate (args_in args (row_at rows entry.row))) ranking

module _ (law : IndexLaw) (answer : Answering) (catalogue : CatalogDef) (block : Block) (table : ℕ) (alias : List ℕ) (from_is : block.from ≡ (table, alias) ∷ [])
    (named : NamedTable) (named_is : slice_get catalogue.tables table ≡ Some named) where
  -- the table of the only entry
  pub entry-is : entry_table catalogue block 1 ≡ Some named.table
  entry-is =
      entry_table-entry catalogue block 1 (table, alias) named.table (ap (λ (from : List (ℕ × List ℕ)). slice_get from 0) from_is)
      (ap (option_map (λ (t : NamedTable). t.table)) named_is)

  pub size-is : size_of catalogue block 1 ≡ length named.table.rows
  size-is = (IsOf-table catalogue block (1, 0) named.table entry-is).size

  -- the index of a term
  module _ (term : Term) (index : ℕ) (first : index_of table term.predicate term.args 1 catalogue ≡ Some index) (holds : Holds answer catalogue index) where
    abbrev found : RankIndex
    found = (index-for catalogue table term.predicate term.args 1 index first).found

    abbrev predicate : PredicateDef
    predicate = predicate_for catalogue found.def

    -- the number that it got for a row
    abbrev own : List Value → ℤ
    own row = answer predicate (args_in found.def.args row)

    ranking-is : ranking_at catalogue index ≡ found.ranking
    ranking-is = ap (λ (o : Option RankIndex). unwrap_or (option_map (λ i. i.ranking) o) []) (index-for catalogue table term.predicate term.args 1 index first).there

    rows-are : rows_for catalogue found.def ≡ named.table.rows
    rows-are =
        ap (λ n. unwrap_or (option_map (λ (t : NamedTable). t.table.rows) (slice_get catalogue.tables n)) []) (index-for catalogue table term.predicate term.args 1 index first).table_is
        ∙ ap (λ (o : Option NamedTable). unwrap_or (option_map (λ (t : NamedTable). t.table.rows) o) []) named_is

    made-ranking : IsRanking (length (rows_for catalogue found.def)) predicate.max found.ranking
    made-ranking = law.is_ranking answer predicate found.def.args (rows_for catalogue found.def) found.ranking (holds found (index-for catalogue table term.predicate term.args 1 index first).there)

    pub ranking-rows : length (ranking_at catalogue index) ≡ size_of catalogue block 1
    ranking-rows =
        ap (λ (ranking : List ScoredRow). length ranking) ranking-is ∙ made-ranking.all ∙ ap (λ (rows : List (List Value)). length rows) rows-are ∙ sym size-is

    -- the score of a row in its list is what the term is worth on the row
    pub term-worth : (row : ℕ) → IsRow (size_of catalogue block 1) row → score_of row (ranking_at catalogue index) ≡ worth_of answer catalogue block (rows_of_one row) term
    term-worth row is_row =
        let rows : List (List Value) = rows_for catalogue found.def in
        let some = is_row.some in
        let within = is_row.within in
        let count : size_of catalogue block 1 ≡ length rows = size-is ∙ ap (λ (all : List (List Value)). length all) (sym rows-are) in
        let here : IsRow (length rows) row = record { some = some; within = omega arith } in
        let stands = ranked-stands (length rows) found.ranking (IsRanked-ranking (length rows) predicate.max found.ranking made-ranking) row here in
        let no_entry : ScoredRow = record { score = 0; row = 0 } in
        let e : ScoredRow = entry_at stands.place found.ranking in
        let got : pos e.score ≡ own (row_at rows e.row) =
        each-get_or (λ (entry : ScoredRow). pos entry.score ≡ own (row_at rows entry.row)) found.ranking stands.place no_entry
        (law.scores_are answer predicate found.def.args rows found.ranking (holds found (index-for catalogue table term.predicate term.args 1 index first).there)) stands.within in
        let most : e.score ≤ predicate.max = (each-get_or (IsIndexEntry (length rows) predicate.max) found.ranking stands.place no_entry made-ranking.each stands.within).scored in
        let values : List Value = row_at rows row in
        let got_row : pos e.score ≡ own values = got ∙ ap (λ n. own (row_at rows n)) stands.row_is in
        let is_there : slice_get named.table.rows (row - 1) ≡ Some values =
        ap (λ (all : List (List Value)). slice_get all (row - 1)) (sym rows-are) ∙ there-at rows (row - 1) [] (omega arith) in
        ap (score_of row) ranking-is
        ∙ sym stands.score_is
        ∙ ap as_score got_row
        ∙ index-worth answer catalogue block 1 term found.def (index-for catalogue table term.predicate term.args 1 index first).predicate_is
        (index-for catalogue table term.predicate term.args 1 index first).args_are (rows_of_one row) named.table values entry-is is_there
        (sym (ap (is_score predicate.max) got_row) ∙ le-leb e.score predicate.max most)

  -- the sum over the terms
  pub sum-worth : (row : ℕ) → IsRow (size_of catalogue block 1) row → (size : ℕ) (terms : List Term) (indexes : List ℕ) → length terms ≤ size
      → AreFound catalogue table terms indexes → AllByRecursion (Holds answer catalogue) indexes
      → weighted_sum (padded size (map (λ (t : Term). t.weight) terms)) (map (score_of row) (rankings_of catalogue indexes)) ≡ block_score answer catalogue block (rows_of_one row) terms
  sum-worth row is_row zero [] [] few found holds = refl
  sum-worth row is_row (suc size) [] [] few found holds = refl
  sum-worth row is_row size [] (index ∷ indexes) few found holds = absurd found
  sum-worth row is_row size (term ∷ terms) [] few found holds = absurd found
  sum-worth row is_row zero (term ∷ terms) (index ∷ indexes) few found holds = absurd (omega arith)
  sum-worth row is_row (suc size) (term ∷ terms) (index ∷ indexes) few found holds =
      ap₂ (λ worth rest. term.weight * worth + rest) (term-worth term index found.0 holds.0 row is_row)
      (sum-worth row is_row size terms indexes (omega arith) found.1 holds.1)

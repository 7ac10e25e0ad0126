-- No term is worth more than its top, where the rank indexes hold the scorer's answers.
use Rattle.std.proofs.Common.{ℕ, ℤ, zero, suc, ◌≡◌, ◌∙◌, ◌+◌, ◌-◌, ◌<◌, ◌≤◌, Bool, true, false, cond, eqb, List, [], ◌∷◌, length, pos, negsuc, refl, sym, ap, subst, arith}
use Rattle.std.specs.Prelude.{Option, Some, None, Result, Ok, Err, nat_le, option_and_then, option_map, slice_get, unwrap_or}
use Rattle.std.specs.Int.Bits.{or_zero_l}
use Rattle.std.specs.List.{AllByRecursion}
use Rattle.std.proofs.lemmas.Bool.{eqb-true, leb-false, leb-true}
use Rattle.std.proofs.lemmas.Option.{slice_get_within}
use Rattle.rs_order.proofs.EachFacts.{each-slice_get}
use Rattle.rs_rank.specs.Masks.{has_number, mask_of}
use Rattle.rs_rank.specs.declared.scored_row.ScoredRow.{ScoredRow}
use Rattle.rs_value.specs.declared.value.Value.{Value}
use Rattle.rs_table.specs.Relation.{Relation}
use Rattle.rs_expr.specs.Scores.{as_score, is_score}
use Rattle.rs_expr.specs.Scoring.{Answering}
use Rattle.rs_catalog.specs.Catalog.{CatalogDef, NamedTable, RankIndex}
use Rattle.rs_catalog.specs.Indexes.{IsRanking, args_in, index_of, predicate_for, ranking_at, ranking_of, row_at, rows_for, scored_from}
use Rattle.rs_catalog.specs.declared.index.IndexFault.{IndexFault}
use Rattle.rs_catalog.specs.declared.index.IndexFault.TheVariants.{BadScore}
use Rattle.rs_rank.specs.Stable.{put_all, put_behind, stable}
use Rattle.rs_catalog.specs.IndexesHold.{IndexHolds}
use Rattle.rs_catalog.proofs.IndexForFacts.{IsIndexFor, index-for}
use Rattle.rs_query.specs.declared.block.Block.{Block}
use Rattle.rs_query.specs.declared.term.Term.{Term}
use Rattle.rs_query.specs.Answers.{clamped, predicate_at, scorer_answer, worth_of}
use Rattle.rs_query.specs.Tables.{HasRow, HasRows, entry_table, row_number, size_of}
use Rattle.rs_query.specs.Tops.{first_score, top_by, top_from, top_of}
use Rattle.rs_query.proofs.CellFacts.{IsOf-table, entry_table-entry}
use Rattle.rs_query.proofs.IndexTermFacts.{index-worth}
use Rattle.rs_query.proofs.MaskStepFacts.{has-own}

-- a worth is at most the greatest score of its predicate
pub clamped-most : (most : ℕ) (n : ℤ) → clamped most n ≤ most
clamped-most most (pos n) = omega arith
clamped-most most (negsuc n) = omega arith

-- entries that are put in order: each that is put in and the first one of before have no greater score than the first one
first-put_behind : (entry : ScoredRow) (entries : List ScoredRow)
    → (entry.score ≤ first_score (put_behind (λ e. e.score) entry entries)) × (first_score entries ≤ first_score (put_behind (λ e. e.score) entry entries))
first-put_behind entry [] = (omega arith, omega arith)
first-put_behind entry (first ∷ rest) = go (nat_le entry.score first.score) refl where
  go : (b : Bool) → nat_le entry.score first.score ≡ b
      → (entry.score ≤ first_score (cond b (first ∷ put_behind (λ e. e.score) entry rest) (entry ∷ first ∷ rest)))
      × (first.score ≤ first_score (cond b (first ∷ put_behind (λ e. e.score) entry rest) (entry ∷ first ∷ rest)))
  go true below = (leb-true entry.score first.score below, omega arith)
  go false above = (omega arith, let less = leb-false entry.score first.score above in omega arith)

first-put_all : (ordered entries : List ScoredRow)
    → (first_score ordered ≤ first_score (put_all (λ e. e.score) ordered entries)) × AllByRecursion (λ e. e.score ≤ first_score (put_all (λ e. e.score) ordered entries)) entries
first-put_all ordered [] = (omega arith, tt)
first-put_all ordered (entry ∷ entries) =
    let one = first-put_behind entry ordered in
    let others = first-put_all (put_behind (λ e. e.score) entry ordered) entries in
    let entry_is = one.0 in
    let before = one.1 in
    let later = others.0 in
    (omega arith, (omega arith, others.1))

-- a ranking that was made, and the entries of the rows that were put in order for it
record WasMade (scoring : Result (List ScoredRow) IndexFault) (ranking : List ScoredRow) : Type 0 where
  entries : List ScoredRow
  scoring_is : scoring ≡ Ok entries
  most : AllByRecursion (λ e. e.score ≤ first_score ranking) entries

was-made : (scoring : Result (List ScoredRow) IndexFault) (ranking : List ScoredRow) → ranking_of scoring ≡ Ok ranking → WasMade scoring ranking
was-made (Ok entries) ranking made =
    let is : stable (λ e. e.score) entries ≡ ranking = cc in
    record { entries = entries; scoring_is = refl; most = subst (λ all. AllByRecursion (λ e. e.score ≤ first_score all) entries) is (first-put_all [] entries).1 }
was-made (Err fault) ranking made = absurd cc

-- where all rows have scores, what holds of each entry holds of the one that a row has
module _ (answer : List Value → ℤ) (most : ℕ) where
  -- the first of some rows that all have scores, and those behind it
  pub record FirstScored (row : ℕ) (first : List Value) (rest : List (List Value)) (entries : List ScoredRow) : Type 0 where
    pub score : is_score most (answer first) ≡ true
    pub others : List ScoredRow
    pub rest_is : scored_from answer most (row + 1) rest ≡ Ok others
    pub all_is : entries ≡ record { score = as_score (answer first); row = row } ∷ others

  pub first-scored : (row : ℕ) (first : List Value) (rest : List (List Value)) (entries : List ScoredRow) → scored_from answer most row (first ∷ rest) ≡ Ok entries → FirstScored row first rest entries
  first-scored row first rest entries made = go (is_score most (answer first)) refl (scored_from answer most (row + 1) rest) refl where
    go : (b : Bool) → is_score most (answer first) ≡ b → (behind : Result (List ScoredRow) IndexFault) → scored_from answer most (row + 1) rest ≡ behind → FirstScored row first rest entries
    go true score (Ok others) rest_is =
        let is : scored_from answer most row (first ∷ rest) ≡ Ok (record { score = as_score (answer first); row = row } ∷ others) = rw (score, rest_is) refl in
        record { score = score; others = others; rest_is = rest_is; all_is = cc }
    go true score (Err fault) rest_is =
        let is : scored_from answer most row (first ∷ rest) ≡ Err fault = rw (score, rest_is) refl in
        absurd cc
    go false bad behind rest_is =
        let is : scored_from answer most row (first ∷ rest) ≡ Err (BadScore row (answer first) most) = rw bad refl in
        absurd cc

  row-scored : (P : ScoredRow → Type 0) (row : ℕ) (rows : List (List Value)) (entries : List ScoredRow) → scored_from answer most row rows ≡ Ok entries → AllByRecursion P entries
      → (i : ℕ) (values : List Value) → slice_get rows i ≡ Some values → (is_score most (answer values) ≡ true) × P (record { score = as_score (answer values); row = row + i })
  row-scored P row [] entries made each i values there = absurd cc
  row-scored P row (first ∷ rest) entries made each zero values there =
      let one = first-scored row first rest entries made in
      let both : AllByRecursion P (record { score = as_score (answer first); row = row } ∷ one.others) = subst (AllByRecursion P) one.all_is each in
      let same : first ≡ values = cc in
      let here : row ≡ row + 0 = omega arith in
      subst (λ v. (is_score most (answer v) ≡ true) × P (record { score = as_score (answer v); row = row + 0 })) same
      (one.score, subst (λ n. P (record { score = as_score (answer first); row = n })) here both.0)
  row-scored P row (first ∷ rest) entries made each (suc i) values there =
      let one = first-scored row first rest entries made in
      let both : AllByRecursion P (record { score = as_score (answer first); row = row } ∷ one.others) = subst (AllByRecursion P) one.all_is each in
      let found = row-scored P (row + 1) rest one.others one.rest_is both.1 i values there in
      let same : row + 1 + i ≡ row + suc i = omega arith in
      (found.0, subst (λ n. P (record { score = as_score (answer values); row = n })) same found.1)

-- the first score of a ranking is one that the predicate may have
pub first_score-low : (rows most : ℕ) (ranking : List ScoredRow) → IsRanking rows most ranking → first_score ranking ≤ most
first_score-low rows most [] is = omega arith
first_score-low rows most (first ∷ rest) is = let each = is.each in each.0.scored

-- what is said of the top of a term is said of each index that it may come from, and of the predicate's greatest score
pub top-by_cases : (P : ℕ → Type 0) (catalogue : CatalogDef) (term : Term) (entry : ℕ) (froms : List (ℕ × List ℕ)) → P (top_by catalogue term.predicate None)
    → ((i : ℕ) (from : ℕ × List ℕ) → slice_get froms i ≡ Some from → term.entries ≡ mask_of (entry + i)
    → P (top_by catalogue term.predicate (index_of from.0 term.predicate term.args (entry + i) catalogue)))
    → P (top_from catalogue term entry froms)
top-by_cases P catalogue term entry [] none some = none
top-by_cases P catalogue term entry (from ∷ froms) none some =
    let behind = top-by_cases P catalogue term (entry + 1) froms none (λ i own there alone.
    let same : entry + suc i ≡ entry + 1 + i = omega arith in
    subst (λ e. P (top_by catalogue term.predicate (index_of own.0 term.predicate term.args e catalogue))) same
    (some (suc i) own there (alone ∙ ap mask_of (sym same)))) in
    let here : term.entries ≡ mask_of entry → P (top_by catalogue term.predicate (index_of from.0 term.predicate term.args entry catalogue)) =
    let same : entry + 0 ≡ entry = omega arith in
    subst (λ e. term.entries ≡ mask_of e → P (top_by catalogue term.predicate (index_of from.0 term.predicate term.args e catalogue))) same (some 0 from refl) in
    (elim (eqb term.entries (mask_of entry)) as (λ b. eqb term.entries (mask_of entry) ≡ b
    → P (cond b (top_by catalogue term.predicate (index_of from.0 term.predicate term.args entry catalogue)) (top_from catalogue term (entry + 1) froms))) [
      | true ↦ λ alone. here (eqb-true term.entries (mask_of entry) alone)
      | false ↦ λ other. behind
    ]) refl

module _ (answer : Answering) (catalogue : CatalogDef) (block : Block) (rows : List ℕ) where
  -- what a term is worth for a row of the table of an index that was made for it
  module _ (entry : ℕ) (from : ℕ × List ℕ) (from_is : slice_get block.from (entry - 1) ≡ Some from) (has : HasRow catalogue block rows entry)
      (term : Term) (index : ℕ) (first : index_of from.0 term.predicate term.args entry catalogue ≡ Some index)
      (holds : AllByRecursion (IndexHolds answer catalogue) catalogue.indexes) where
    abbrev is_for : IsIndexFor catalogue from.0 term.predicate term.args entry index
    is_for = index-for catalogue from.0 term.predicate term.args entry index first

    abbrev found : RankIndex
    found = is_for.found

    abbrev all : List (List Value)
    all = rows_for catalogue found.def

    abbrev most : ℕ
    most = (predicate_for catalogue found.def).max

    abbrev own : List Value → ℤ
    own values = answer (predicate_for catalogue found.def) (args_in found.def.args values)

    made : IndexHolds answer catalogue found
    made = each-slice_get (IndexHolds answer catalogue) catalogue.indexes index found holds is_for.there

    ranking-is : ranking_at catalogue index ≡ found.ranking
    ranking-is = ap (λ (o : Option RankIndex). unwrap_or (option_map (λ (i : RankIndex). i.ranking) o) []) is_for.there

    -- the table of the entry is that of the index
    table-is : (named : Option NamedTable) → slice_get catalogue.tables from.0 ≡ named → (table : Relation) × (entry_table catalogue block entry ≡ Some table) × (table.rows ≡ all)
    table-is (Some named) at = (
      named.table,
      entry_table-entry catalogue block entry from named.table from_is (ap (option_map (λ (t : NamedTable). t.table)) at),
      sym (ap (λ n. unwrap_or (option_map (λ (t : NamedTable). t.table.rows) (slice_get catalogue.tables n)) []) is_for.table_is
          ∙ ap (λ (o : Option NamedTable). unwrap_or (option_map (λ (t : NamedTable). t.table.rows) o) []) at),
    )
    table-is None at =
        let none : size_of catalogue block entry ≡ 0 =
        ap (λ (o : Option (ℕ × List ℕ)).
        unwrap_or (option_map (λ (t : Relation). length t.rows) (option_and_then (λ (f : ℕ × List ℕ). option_map (λ (t : NamedTable). t.table) (slice_get catalogue.tables f.0)) o)) 0)
        from_is
        ∙ ap (λ (o : Option NamedTable). unwrap_or (option_map (λ (t : Relation). length t.rows) (option_map (λ (t : NamedTable). t.table) o)) 0) at in
        let some = has.0 in
        let last = has.1 in
        absurd (omega arith)

    -- the row has a score in the ranking, which is the number that it got
    pub worth-first : worth_of answer catalogue block rows term ≤ first_score (ranking_at catalogue index)
    worth-first =
        let table = table-is (slice_get catalogue.tables from.0) refl in
        let row : ℕ = row_number rows entry in
        let some = has.0 in
        let last = has.1 in
        let size : size_of catalogue block entry ≡ length table.0.rows = (IsOf-table catalogue block (entry, 0) table.0 table.1).size in
        let count : length table.0.rows ≡ length all = ap (λ (vs : List (List Value)). length vs) table.2 in
        let was = was-made (scored_from own most 1 all) found.ranking made.holds in
        let own_row = row-scored own most (λ e. e.score ≤ first_score found.ranking) 1 all was.entries was.scoring_is was.most (row - 1) (row_at all row) (there-at all (row - 1) (omega arith)) in
        let low : as_score (own (row_at all row)) ≤ first_score found.ranking = own_row.1 in
        let here : slice_get table.0.rows (row - 1) ≡ Some (row_at all row) =
        ap (λ (vs : List (List Value)). slice_get vs (row - 1)) table.2 ∙ there-at all (row - 1) (omega arith) in
        let worth : as_score (own (row_at all row)) ≡ worth_of answer catalogue block rows term =
        index-worth answer catalogue block entry term found.def is_for.predicate_is is_for.args_are rows table.0 (row_at all row) table.1 here
        own_row.0 in
        let whole : first_score (ranking_at catalogue index) ≡ first_score found.ranking = ap first_score ranking-is in
        omega arith where
          there-at : (vs : List (List Value)) (i : ℕ) → i < length vs → slice_get vs i ≡ Some (unwrap_or (slice_get vs i) [])
          there-at [] i within = absurd (omega arith)
          there-at (v ∷ vs) zero within = refl
          there-at (v ∷ vs) (suc i) within = there-at vs i (omega arith)

  -- a term is worth at most its top
  pub worth-top : (term : Term) → AllByRecursion (IndexHolds answer catalogue) catalogue.indexes → HasRows catalogue block term.entries rows
      → worth_of answer catalogue block rows term ≤ top_of catalogue block term
  worth-top term holds has =
      top-by_cases (λ most. worth_of answer catalogue block rows term ≤ most) catalogue term 1 block.from greatest by_index where
        greatest : worth_of answer catalogue block rows term ≤ (predicate_at catalogue term.predicate).max
        greatest = clamped-most (predicate_at catalogue term.predicate).max (scorer_answer answer catalogue block rows term)

        by_index : (i : ℕ) (from : ℕ × List ℕ) → slice_get block.from i ≡ Some from → term.entries ≡ mask_of (1 + i)
            → worth_of answer catalogue block rows term ≤ top_by catalogue term.predicate (index_of from.0 term.predicate term.args (1 + i) catalogue)
        by_index i from there alone = go (index_of from.0 term.predicate term.args (1 + i) catalogue) refl where
          go : (o : Option ℕ) → index_of from.0 term.predicate term.args (1 + i) catalogue ≡ o → worth_of answer catalogue block rows term ≤ top_by catalogue term.predicate o
          go None first = greatest
          go (Some index) first =
              let at : i ≡ 1 + i - 1 = omega arith in
              let within = slice_get_within block.from i from there in
              let own : has_number term.entries (1 + i) ≡ true = ap (λ mask. has_number mask (1 + i)) (alone ∙ sym (or_zero_l (mask_of (1 + i)))) ∙ has-own 0 (1 + i) in
              let most = worth-first (1 + i) from (subst (λ n. slice_get block.from n ≡ Some from) at there) (has (1 + i) (omega arith) (omega arith) own) term index first holds in
              let low = greatest in
              omega arith

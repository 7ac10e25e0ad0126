-- The rows of an index before they are ranked: one for each row of the table, in its order.
use Rattle.std.proofs.Common.{◌≡◌, ◌∙◌, ℕ, ℤ, suc, ◌+◌, ◌*◌, ◌≤◌, Bool, true, false, List, [], ◌∷◌, length, map, refl, sym, ap, ap₂, subst, arith}
use Rattle.std.specs.Prelude.{Some, slice_get, Result, Ok, Err}
use Rattle.std.specs.List.{AllByRecursion}
use Rattle.rs_value.specs.declared.value.Value.{Value}
use Rattle.rs_order.specs.Schedule.{numbers_from}
use Rattle.rs_rank.specs.Stable.{stable}
use Rattle.rs_rank.specs.declared.row.RankRow.{RankRow}
use Rattle.rs_rank.specs.declared.scored_row.ScoredRow.{ScoredRow}
use Rattle.rs_expr.specs.Scores.{is_score, as_score}
use Rattle.rs_catalog.specs.Indexes.{ranking_of, scored_from}
use Rattle.rs_catalog.specs.declared.index.IndexFault.{IndexFault}
use Rattle.rs_catalog.specs.declared.index.IndexFault.TheVariants.{BadScore}
use Rattle.rs_scan.specs.Scans.{entry_row, scored}

module _ (answer : List Value → ℤ) (max : ℕ) where
  -- the first of some rows that all have scores, and those behind it
  record IsScored (row : ℕ) (values : List Value) (rest : List (List Value)) (all : List ScoredRow) : Type 0 where
    score : is_score max (answer values) ≡ true
    others : List ScoredRow
    rest_is : scored_from answer max (row + 1) rest ≡ Ok others
    all_is : all ≡ record { score = as_score (answer values); row = row } ∷ others

  scored-first : (row : ℕ) (values : List Value) (rest : List (List Value)) (all : List ScoredRow) → scored_from answer max row (values ∷ rest) ≡ Ok all → IsScored row values rest all
  scored-first row values rest all made = go (is_score max (answer values)) refl (scored_from answer max (row + 1) rest) refl where
    go : (b : Bool) → is_score max (answer values) ≡ b → (behind : Result (List ScoredRow) IndexFault) → scored_from answer max (row + 1) rest ≡ behind → IsScored row values rest all
    go true score (Ok others) rest_is =
        let is : scored_from answer max row (values ∷ rest) ≡ Ok (record { score = as_score (answer values); row = row } ∷ others) = rw (score, rest_is) refl in
        record { score = score; others = others; rest_is = rest_is; all_is = cc }
    go true score (Err fault) rest_is =
        let is : scored_from answer max row (values ∷ rest) ≡ Err fault = rw (score, rest_is) refl in
        absurd cc
    go false bad behind rest_is =
        let is : scored_from answer max row (values ∷ rest) ≡ Err (BadScore row (answer values) max) = rw bad refl in
        absurd cc

  -- the same, where the rows behind are numbered on
  scored-rest : (row : ℕ) (rest : List (List Value)) (others : List ScoredRow) → scored_from answer max (row + 1) rest ≡ Ok others → scored_from answer max (suc row) rest ≡ Ok others
  scored-rest row rest others is = subst (λ n. scored_from answer max n rest ≡ Ok others) (let next : row + 1 ≡ suc row = omega arith in next) is

  pub scored-count : (row : ℕ) (values : List (List Value)) (all : List ScoredRow) → scored_from answer max row values ≡ Ok all → length all ≡ length values
  scored-count row [] all made = let none : all ≡ [] = cc in ap (λ (es : List ScoredRow). length es) none
  scored-count row (v ∷ rest) all made =
      let first = scored-first row v rest all made in
      let others = scored-count (suc row) rest first.others (scored-rest row rest first.others first.rest_is) in
      ap (λ (es : List ScoredRow). length es) first.all_is ∙ ap suc others

  -- each has a number up to that of the last row
  pub scored-within : (last row : ℕ) (values : List (List Value)) (all : List ScoredRow) → row + length values ≤ suc last → scored_from answer max row values ≡ Ok all
      → AllByRecursion (λ (e : ScoredRow). e.row ≤ last) all
  scored-within last row [] all few made = let none : all ≡ [] = cc in subst (AllByRecursion (λ (e : ScoredRow). e.row ≤ last)) (sym none) tt
  scored-within last row (v ∷ rest) all few made =
      let first = scored-first row v rest all made in
      subst (AllByRecursion (λ (e : ScoredRow). e.row ≤ last)) (sym first.all_is)
      (omega arith, scored-within last (suc row) rest first.others (omega arith) (scored-rest row rest first.others first.rest_is))

  -- as rows of an entry they are what a function gives of their numbers, where it does so of each
  pub scored-rows : (block entry weight : ℕ) (made : ℕ → RankRow) (row : ℕ) (values : List (List Value)) (all : List ScoredRow) → scored_from answer max row values ≡ Ok all
      → ((i : ℕ) (v : List Value) → slice_get values i ≡ Some v → is_score max (answer v) ≡ true → entry_row block entry (row + i) (weight * as_score (answer v)) ≡ made (row + i))
      → map (scored block entry weight) all ≡ map made (numbers_from row (length values))
  scored-rows block entry weight made row [] all is each = let none : all ≡ [] = cc in ap (map (scored block entry weight)) none
  scored-rows block entry weight made row (v ∷ rest) all is each =
      let first = scored-first row v rest all is in
      let here : row + 0 ≡ row = omega arith in
      ap (map (scored block entry weight)) first.all_is
      ∙ ap₂ (λ (r : RankRow) (rs : List RankRow). r ∷ rs)
      (subst (λ n. entry_row block entry n (weight * as_score (answer v)) ≡ made n) here (each 0 v refl first.score))
      (scored-rows block entry weight made (suc row) rest first.others (scored-rest row rest first.others first.rest_is)
      (λ i values there score.
      let next : row + suc i ≡ suc row + i = omega arith in
      subst (λ n. entry_row block entry n (weight * as_score (answer values)) ≡ made n) next (each (suc i) values there score)))

-- a ranking is the stable order of rows that all have scores
pub record IsRanked (scoring : Result (List ScoredRow) IndexFault) (ranking : List ScoredRow) : Type 0 where
  pub rows : List ScoredRow
  pub scoring_is : scoring ≡ Ok rows
  pub ranking_is : stable (λ (e : ScoredRow). e.score) rows ≡ ranking

pub ranked : (scoring : Result (List ScoredRow) IndexFault) (ranking : List ScoredRow) → ranking_of scoring ≡ Ok ranking → IsRanked scoring ranking
ranked (Ok rows) ranking is = record { rows = rows; scoring_is = refl; ranking_is = cc }
ranked (Err fault) ranking is = absurd cc

-- The entries of an index whose rows are among the first so many.
use Rattle.std.proofs.Common.{ℕ, ℤ, zero, suc, ◌≡◌, ◌∙◌, ◌+◌, ◌-◌, ◌<◌, ◌≤◌, ◌++◌, Bool, true, false, not, cond, eqb, nat_le, List, [], ◌∷◌, length, map, take, refl, sym, ap, inl, inr, arith, append-nil}
use Rattle.std.specs.Prelude.{Result, Ok}
use Rattle.std.specs.List.{AllByRecursion, IsDistinct, filter, list_any}
use Rattle.std.proofs.lemmas.Bool.{cond-false, cond-true, eqb-true, leb-false, leb-true, le-leb, lt-leb, ne_eqb, not-true, or_cases}
use Rattle.std.proofs.lemmas.List.{length-map}
use Rattle.std.proofs.lemmas.List.Elements.{filter-append}
use Rattle.std.proofs.lemmas.List.Filters.{length-filter_both}
use Rattle.std.proofs.lemmas.Map.Steps.{length-le_from_distinct_below}
use Rattle.rs_value.specs.declared.value.Value.{Value}
use Rattle.rs_table.specs.Appended.{appended}
use Rattle.rs_expr.specs.Predicates.{PredicateDef}
use Rattle.rs_expr.specs.Scores.{is_score}
use Rattle.rs_expr.specs.Scoring.{Answering}
use Rattle.rs_order.proofs.EachFacts.{each-filter}
use Rattle.rs_rank.specs.Stable.{stable}
use Rattle.rs_rank.specs.declared.scored_row.ScoredRow.{ScoredRow}
use Rattle.rs_rank.proofs.StableFacts.{Falls, Falls-stable, Falls-unique, of_score, of_score-stable}
use Rattle.rs_catalog.specs.After.{entries_within}
use Rattle.rs_catalog.specs.Indexes.{EntriesInOrder, EntryPrecedes, IsIndexEntry, IsRanking, RowsDiffer, args_in, making_of, ranking_of, scored_from}
use Rattle.rs_catalog.specs.declared.index.BoundArg.{BoundArg}
use Rattle.rs_catalog.specs.declared.index.IndexFault.{IndexFault}
use Rattle.rs_catalog.proofs.AfterFacts.{filter-swapped}
use Rattle.rs_catalog.proofs.MoreFacts.{stable-ordered}
use Rattle.rs_catalog.proofs.RankingFacts.{AreMade-scored, Numbered, behind-ok, score, sorted-from}
use Rattle.rs_catalog.proofs.ScoreFacts.{entry_of, scored_from-bad, scored_from-score}

-- scores never rise along what passes of entries along which they never rise
Falls-filter : (test : ScoredRow → Bool) (entries : List ScoredRow) → Falls score entries → Falls score (filter test entries)
unfolding Falls
Falls-filter test [] falls = tt
Falls-filter test (entry ∷ rest) falls =
    elim (test entry) as (λ b. Falls score (cond b (entry ∷ filter test rest) (filter test rest))) [
      | true ↦ (each-filter (λ (later : ScoredRow). later.score ≤ entry.score) test rest falls.0, Falls-filter test rest falls.1)
      | false ↦ Falls-filter test rest falls.1
    ]

-- what passes of the stable order is the stable order of what passes
filter-stable : (test : ScoredRow → Bool) (entries : List ScoredRow) → filter test (stable score entries) ≡ stable score (filter test entries)
filter-stable test entries =
    Falls-unique score (filter test (stable score entries)) (stable score (filter test entries))
    (Falls-filter test (stable score entries) (Falls-stable score entries)) (Falls-stable score (filter test entries)) of_each where
      of_each : (entry : ScoredRow) → of_score score entry.score (filter test (stable score entries)) ≡ of_score score entry.score (stable score (filter test entries))
      of_each entry =
          let same : ScoredRow → Bool = λ other. eqb other.score entry.score in
          filter-swapped same test (stable score entries)
          ∙ ap (filter test) (of_score-stable score entry.score entries)
          ∙ filter-swapped test same entries
          ∙ sym (of_score-stable score entry.score (filter test entries))

-- entries of later rows
pub within-later : (entries : List ScoredRow) (row count : ℕ) → Numbered row entries → count < row → entries_within count entries ≡ []
within-later [] row count numbered later = refl
within-later (entry ∷ rest) row count numbered later =
    cond-false (nat_le entry.row count) (entry ∷ entries_within count rest) (entries_within count rest) (lt-leb entry.row count (omega (arith, numbered.0)))
    ∙ within-later rest (row + 1) count numbered.1 (omega arith)

-- entries of numbered rows
within-numbered : (entries : List ScoredRow) (row count last : ℕ) → Numbered row entries → row + count ≡ last + 1 → entries_within last entries ≡ take count entries
within-numbered [] row zero last numbered at = refl
within-numbered [] row (suc count) last numbered at = refl
within-numbered (entry ∷ rest) row zero last numbered at = within-later (entry ∷ rest) row last numbered (omega arith)
within-numbered (entry ∷ rest) row (suc count) last numbered at =
    cond-true (nat_le entry.row last) (entry ∷ entries_within last rest) (entries_within last rest) (le-leb entry.row last (omega (arith, numbered.0)))
    ∙ ap (λ entries. entry ∷ entries) (within-numbered rest (row + 1) count last numbered.1 (omega arith))

-- all entries of a table that has no more rows
pub within-all : (entries : List ScoredRow) (count max : ℕ) → AllByRecursion (IsIndexEntry count max) entries → entries_within count entries ≡ entries
within-all [] count max each = refl
within-all (entry ∷ rest) count max each =
    cond-true (nat_le entry.row count) (entry ∷ entries_within count rest) (entries_within count rest) (le-leb entry.row count each.0.within)
    ∙ ap (λ entries. entry ∷ entries) (within-all rest count max each.1)

-- the first rows have their scores
scored_from-take : (answer : List Value → ℤ) (max : ℕ) (rows : List (List Value)) (row count : ℕ) (entries : List ScoredRow) → scored_from answer max row rows ≡ Ok entries
    → scored_from answer max row (take count rows) ≡ Ok (take count entries)
scored_from-take answer max rows row zero entries e = refl
scored_from-take answer max [] row (suc count) entries e = let none : entries ≡ [] = cc in ap (λ (all : List ScoredRow). Ok (take (suc count) all)) (sym none)
scored_from-take answer max (values ∷ rest) row (suc count) entries e = go (is_score max (answer values)) refl (scored_from-take answer max rest (row + 1) count) where
  go : (b : Bool) → is_score max (answer values) ≡ b
      → ((others : List ScoredRow) → scored_from answer max (row + 1) rest ≡ Ok others → scored_from answer max (row + 1) (take count rest) ≡ Ok (take count others))
      → scored_from answer max row (values ∷ take count rest) ≡ Ok (take (suc count) entries)
  go true is later =
      let entry = entry_of answer max row values in
      let parts = behind-ok (entry ∷ []) (scored_from answer max (row + 1) rest) entries (sym (scored_from-score answer max row values rest is) ∙ e) in
      scored_from-score answer max row values (take count rest) is
      ∙ ap (λ (scored : Result (List ScoredRow) IndexFault). appended (entry ∷ []) scored) (later parts.others parts.rest_is)
      ∙ ap (λ (all : List ScoredRow). Ok (take (suc count) all)) (sym parts.all_is)
  go false is later = absurd (let bad = sym (scored_from-bad answer max row values rest is) ∙ e in cc)

-- making an index of the first rows gives their entries
pub making-first : (answer : Answering) (predicate : PredicateDef) (args : List BoundArg) (rows : List (List Value)) (ranking : List ScoredRow) (count : ℕ)
    → (making_of answer predicate args rows).outcome ≡ Ok ranking → (making_of answer predicate args (take count rows)).outcome ≡ Ok (entries_within count ranking)
making-first answer predicate args rows ranking count made =
    let f : List Value → ℤ = λ row. answer predicate (args_in args row) in
    let sorted = sorted-from f predicate.max rows ranking made in
    let numbered = (AreMade-scored f predicate.max rows [] sorted.entries sorted.made).numbered in
    ap ranking_of (scored_from-take f predicate.max rows 1 count sorted.entries sorted.made)
    ∙ ap (λ (entries : List ScoredRow). Ok (stable score entries)) (sym (within-numbered sorted.entries 1 count count numbered (omega arith)))
    ∙ ap Ok (sym (filter-stable (λ (e : ScoredRow). nat_le e.row count) sorted.entries) ∙ ap (entries_within count) sorted.is)

-- later rows that join a ranking are none of the first ones, which stay in their order
pub within-joined : (ranking entries : List ScoredRow) (row count : ℕ) → EntriesInOrder ranking → Numbered row entries → count < row
    → entries_within count (stable score (ranking ++ entries)) ≡ entries_within count ranking
within-joined ranking entries row count ordered numbered later =
    let test : ScoredRow → Bool = λ e. nat_le e.row count in
    filter-stable test (ranking ++ entries)
    ∙ ap (stable score) (filter-append test ranking entries
    ∙ ap (λ (more : List ScoredRow). entries_within count ranking ++ more) (within-later entries row count numbered later)
    ∙ append-nil (entries_within count ranking))
    ∙ sym (filter-stable test ranking)
    ∙ ap (entries_within count) (stable-ordered ranking ordered)

-- what passes of entries in order is in order, and no row of it stands twice
EntriesInOrder-filter : (test : ScoredRow → Bool) (entries : List ScoredRow) → EntriesInOrder entries → EntriesInOrder (filter test entries)
EntriesInOrder-filter test [] ordered = tt
EntriesInOrder-filter test (entry ∷ rest) ordered =
    elim (test entry) as (λ b. EntriesInOrder (cond b (entry ∷ filter test rest) (filter test rest))) [
      | true ↦ (each-filter (EntryPrecedes entry) test rest ordered.0, EntriesInOrder-filter test rest ordered.1)
      | false ↦ EntriesInOrder-filter test rest ordered.1
    ]

RowsDiffer-filter : (test : ScoredRow → Bool) (entries : List ScoredRow) → RowsDiffer entries → RowsDiffer (filter test entries)
RowsDiffer-filter test [] differ = tt
RowsDiffer-filter test (entry ∷ rest) differ =
    elim (test entry) as (λ b. RowsDiffer (cond b (entry ∷ filter test rest) (filter test rest))) [
      | true ↦ (each-filter (λ (b : ScoredRow). entry.row ≡ b.row → ⊥) test rest differ.0, RowsDiffer-filter test rest differ.1)
      | false ↦ RowsDiffer-filter test rest differ.1
    ]

-- what passes has what follows of each item that passes
each-passes : {X : Type 0} (P Q : X → Type 0) (test : X → Bool) → ((x : X) → test x ≡ true → P x → Q x) → (xs : List X) → AllByRecursion P xs → AllByRecursion Q (filter test xs)
each-passes P Q test follows [] all = tt
each-passes {X} P Q test follows (x ∷ xs) all = go (test x) refl (each-passes P Q test follows xs all.1) where
  go : (b : Bool) → test x ≡ b → AllByRecursion Q (filter test xs) → AllByRecursion Q (cond b (x ∷ filter test xs) (filter test xs))
  go true is rest = (follows x is all.0, rest)
  go false is rest = rest

-- a row is one of so many from this one on
abbrev IsFrom : ℕ → ℕ → ScoredRow → Type 0
IsFrom first many entry = (first ≤ entry.row) × (entry.row < first + many)

module _ (first many : ℕ) where
  abbrev place : ScoredRow → ℕ
  place entry = entry.row - first

  apart-places : (entry : ScoredRow) (rest : List ScoredRow) → IsFrom first many entry → AllByRecursion (IsFrom first many) rest → AllByRecursion (λ (b : ScoredRow). entry.row ≡ b.row → ⊥) rest
      → AllByRecursion (λ (n : ℕ). eqb (place entry) n ≡ false) (map place rest)
  apart-places entry [] is all differ = tt
  apart-places entry (b ∷ rest) is all differ =
      (ne_eqb (place entry) (place b) (λ same. differ.0 (let from = is.0 in let later = all.0.0 in omega arith)), apart-places entry rest is all.1 differ.1)

  IsDistinct-places : (entries : List ScoredRow) → AllByRecursion (IsFrom first many) entries → RowsDiffer entries → IsDistinct eqb (map place entries)
  unfolding IsDistinct
  IsDistinct-places [] all differ = tt
  IsDistinct-places (entry ∷ rest) all differ = (apart-places entry rest all.0 all.1 differ.0, IsDistinct-places rest all.1 differ.1)

  below-places : (entries : List ScoredRow) (q : ℕ) → AllByRecursion (IsFrom first many) entries → list_any (eqb q) (map place entries) ≡ true → q < many
  below-places [] q all is = cc
  below-places (entry ∷ rest) q all is =
      elim (or_cases (eqb q (place entry)) (list_any (eqb q) (map place rest)) is) [
        | inl here ↦ let same : q ≡ place entry = eqb-true q (place entry) here in let from = all.0 in omega (arith, from.0, from.1)
        | inr behind ↦ below-places rest q all.1 behind
      ]

  -- no more entries than rows
  few-places : (entries : List ScoredRow) → AllByRecursion (IsFrom first many) entries → RowsDiffer entries → length entries ≤ many
  few-places entries all differ =
      let few = length-le_from_distinct_below (map place entries) many (IsDistinct-places entries all differ) (λ q is. below-places entries q all is) in
      omega (arith, length-map entries place)

-- the entries of the first rows are a ranking of them: each of these rows has an entry, since there are no more entries than rows on either side
pub IsRanking-within : (count size max : ℕ) (ranking : List ScoredRow) → count ≤ size → IsRanking size max ranking → IsRanking count max (entries_within count ranking)
IsRanking-within count size max ranking few is =
    let test : ScoredRow → Bool = λ e. nat_le e.row count in
    let other : ScoredRow → Bool = λ e. not (nat_le e.row count) in
    let inside : AllByRecursion (IsFrom 1 count) (filter test ranking) =
    each-passes (IsIndexEntry size max) (IsFrom 1 count) test (λ (e : ScoredRow) passes entry. (entry.some, (let low = leb-true e.row count passes in omega arith))) ranking is.each in
    let outside : AllByRecursion (IsFrom (count + 1) (size - count)) (filter other ranking) =
    each-passes (IsIndexEntry size max) (IsFrom (count + 1) (size - count)) other
    (λ (e : ScoredRow) passes entry. let high = leb-false e.row count (not-true (nat_le e.row count) passes) in let most = entry.within in (omega arith, omega arith)) ranking is.each in
    let low = few-places 1 count (filter test ranking) inside (RowsDiffer-filter test ranking is.differ) in
    let high = few-places (count + 1) (size - count) (filter other ranking) outside (RowsDiffer-filter other ranking is.differ) in
    let both = length-filter_both test other (λ _. refl) ranking in
    record {
      all = omega (arith, is.all);
      each = each-passes (IsIndexEntry size max) (IsIndexEntry count max) test
          (λ (e : ScoredRow) passes entry. record { some = entry.some; within = leb-true e.row count passes; scored = entry.scored }) ranking is.each;
      differ = RowsDiffer-filter test ranking is.differ;
      ordered = EntriesInOrder-filter test ranking is.ordered;
    }

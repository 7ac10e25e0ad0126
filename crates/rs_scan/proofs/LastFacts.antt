-- What comes behind the entry of an index that was drawn last: the entries that weren't drawn.
use Rattle.std.proofs.Common.{ℕ, ◌≡◌, ◌∙◌, ◌+◌, ◌-◌, ◌<◌, ◌≤◌, ◌&&◌, ◌||◌, true, false, nat_lt, eqb, zero, suc, List, [], ◌∷◌, length, drop, get_or, min, refl, sym, ap, subst, arith}
use Rattle.std.specs.Prelude.{◌⊎◌, Option, Some, None, option_map, slice_get}
use Rattle.std.specs.List.{AllByRecursion, filter}
use Rattle.std.proofs.lemmas.Bool.{cond-false, cond-true}
use Rattle.std.proofs.lemmas.Bool.Decides.{nat_tests}
use Rattle.std.proofs.lemmas.List.{get_or-set_same}
use Rattle.std.proofs.lemmas.Option.{slice_get-map, slice_get_past}
use Rattle.rs_rank.specs.declared.scored_row.ScoredRow.{ScoredRow}
use Rattle.rs_catalog.specs.After.{first_entry, is_behind}
use Rattle.rs_catalog.specs.Catalog.{CatalogDef, RankIndex}
use Rattle.rs_catalog.specs.Indexes.{EntriesInOrder, EntryPrecedes, IsIndexEntry, IsRanking, predicate_for, ranking_at, rows_for}
use Rattle.rs_catalog.specs.declared.index.IndexDef.{IndexDef}
use Rattle.rs_catalog.proofs.AfterFacts.{filter-none}
use Rattle.rs_scan.specs.Scans.{IndexScan, IsEntryNumber, IsOfAllRows, entries_in, entry_row, index_rows, last_at, rows_of_index, scan_at, scored}
use Rattle.rs_scan.proofs.IndexFacts.{entries_in-ranking, index-count}

-- an entry as it is kept of a scan
abbrev kept : ScoredRow → Option (ℕ × ℕ)
kept e = Some (e.score, e.row)

-- no entry comes behind itself
itself : (score row : ℕ) → (nat_lt score score || (eqb score score && nat_lt row row)) ≡ false
itself score row = grind (arith, nat_tests)

-- an entry comes behind each one before it, and that one doesn't come behind it
later : (score row later_score later_row : ℕ) → (later_score < score) ⊎ ((score ≡ later_score) × (row < later_row))
    → (nat_lt later_score score || (eqb later_score score && nat_lt row later_row)) ≡ true
later score row later_score later_row before = grind (arith, nat_tests)

earlier : (score row later_score later_row : ℕ) → (later_score < score) ⊎ ((score ≡ later_score) × (row < later_row))
    → (nat_lt score later_score || (eqb score later_score && nat_lt later_row row)) ≡ false
earlier score row later_score later_row before = grind (arith, nat_tests)

all-behind : (e : ScoredRow) (rest : List ScoredRow) → AllByRecursion (EntryPrecedes e) rest → filter (is_behind (kept e)) rest ≡ rest
all-behind e [] all = refl
all-behind e (other ∷ rest) all =
    cond-true (is_behind (kept e) other) (other ∷ filter (is_behind (kept e)) rest) (filter (is_behind (kept e)) rest) (later e.score e.row other.score other.row all.0)
    ∙ ap (λ more. other ∷ more) (all-behind e rest all.1)

not-behind : (e : ScoredRow) (rest : List ScoredRow) (n : ℕ) → AllByRecursion (EntryPrecedes e) rest → n < length rest → is_behind (last_at rest (suc n)) e ≡ false
not-behind e [] n all within = absurd (omega arith)
not-behind e (other ∷ rest) zero all within = earlier e.score e.row other.score other.row all.0
not-behind e (other ∷ rest) (suc n) all within = not-behind e rest n all.1 (omega arith)

behind-last : (ranking : List ScoredRow) (n : ℕ) → EntriesInOrder ranking → n ≤ length ranking → filter (is_behind (last_at ranking n)) ranking ≡ drop n ranking
behind-last ranking zero ordered within = filter-none ranking
behind-last [] (suc n) ordered within = refl
behind-last (e ∷ rest) (suc zero) ordered within =
    cond-false (is_behind (kept e) e) (e ∷ filter (is_behind (kept e)) rest) (filter (is_behind (kept e)) rest) (itself e.score e.row)
    ∙ all-behind e rest ordered.0
behind-last (e ∷ rest) (suc (suc n)) ordered within =
    let last = last_at rest (suc n) in
    cond-false (is_behind last e) (e ∷ filter (is_behind last) rest) (filter (is_behind last) rest) (not-behind e rest n ordered.0 (omega arith))
    ∙ behind-last rest (suc n) ordered.1 (omega arith)

first-drop : (ranking : List ScoredRow) (n : ℕ) → first_entry (drop n ranking) ≡ last_at ranking (suc n)
first-drop [] zero = refl
first-drop [] (suc n) = refl
first-drop (e ∷ rest) zero = refl
first-drop (e ∷ rest) (suc n) = first-drop rest n

-- an entry that is there, and none
at-some : (size max : ℕ) (ranking : List ScoredRow) (n score row : ℕ) → AllByRecursion (IsIndexEntry size max) ranking → last_at ranking (suc n) ≡ Some (score, row)
    → (slice_get ranking n ≡ Some (record { score = score; row = row })) × ((n < length ranking) × (1 ≤ row))
at-some size max [] n score row each is = cc
at-some size max (e ∷ rest) zero score row each is =
    let same_score : e.score ≡ score = grind arith in
    let same_row : e.row ≡ row = grind arith in
    (λ i. Some (record { score = same_score i; row = same_row i }), (omega arith, (let some = each.0.some in omega arith)))
at-some size max (e ∷ rest) (suc n) score row each is =
    let more = at-some size max rest n score row each.1 is in
    (more.0, (let less = more.1.0 in omega arith, more.1.1))

at-none : (ranking : List ScoredRow) (n : ℕ) → last_at ranking (suc n) ≡ None → length ranking ≤ n
at-none [] n is = omega arith
at-none (e ∷ rest) zero is = cc
at-none (e ∷ rest) (suc n) is = let more = at-none rest n is in omega arith

-- an entry was found behind those that were drawn
pub record IsNext (ranking : List ScoredRow) (size drawn score row : ℕ) : Type 0 where
  pub there : slice_get ranking drawn ≡ Some (record { score = score; row = row })
  pub less : drawn < size
  pub some : 1 ≤ row
  pub count : min (drawn + 1) size ≡ drawn + 1
  pub last : Some (score, row) ≡ last_at ranking (drawn + 1)

module _ (size max : ℕ) (ranking : List ScoredRow) (is : IsRanking size max ranking) (drawn : ℕ) (within : drawn ≤ size) where
  next : (last found : Option (ℕ × ℕ)) → last ≡ last_at ranking drawn → found ≡ first_entry (filter (is_behind last) ranking) → found ≡ last_at ranking (suc drawn)
  next last found was gives =
      gives ∙ ap (λ (after : Option (ℕ × ℕ)). first_entry (filter (is_behind after) ranking)) was
      ∙ ap first_entry (behind-last ranking drawn is.ordered (let all = is.all in omega arith))
      ∙ first-drop ranking drawn

  pub IsNext-found : (last found : Option (ℕ × ℕ)) (score row : ℕ) → last ≡ last_at ranking drawn → found ≡ first_entry (filter (is_behind last) ranking) → found ≡ Some (score, row)
      → IsNext ranking size drawn score row
  IsNext-found last found score row was gives is_found =
      let one : suc drawn ≡ drawn + 1 = omega arith in
      let here = sym (next last found was gives) ∙ is_found in
      let parts = at-some size max ranking drawn score row is.each here in
      let less : drawn < size = let low = parts.1.0 in let all = is.all in omega arith in
      record {
        there = parts.0;
        less = less;
        some = parts.1.1;
        count = omega arith;
        last = sym here ∙ ap (last_at ranking) one;
      }

  -- none was found, so all were drawn
  pub all-drawn : (last found : Option (ℕ × ℕ)) → last ≡ last_at ranking drawn → found ≡ first_entry (filter (is_behind last) ranking) → found ≡ None → drawn ≡ size
  all-drawn last found was gives none =
      let most = at-none ranking drawn (sym (next last found was gives) ∙ none) in
      let all = is.all in
      omega arith

-- the row of an entry has the entry's number
pub number-scored : (block entry number sum : ℕ) → IsEntryNumber entry → get_or (entry_row block entry number sum).ids.rows (entry - 1) 0 ≡ number
number-scored block entry number sum is =
    let least = is.least in
    let most = is.most in
    get_or-set_same (0 ∷ 0 ∷ 0 ∷ 0 ∷ 0 ∷ 0 ∷ []) (entry - 1) number 0 (omega arith)

-- a scan of an index, and what is found behind the entry that it drew last
module _ (catalogue : CatalogDef) (scan : IndexScan) (def : IndexDef) (found : Option (ℕ × ℕ)) (within : scan.drawn ≤ scan.rows) (view : IsOfAllRows catalogue scan)
    (value : option_map (λ (i : RankIndex). i.def) (slice_get catalogue.indexes scan.index) ≡ Some def)
    (ranked : IsRanking (length (rows_for catalogue def)) (predicate_for catalogue def).max (ranking_at catalogue scan.index))
    (was : scan.last ≡ last_at (ranking_at catalogue scan.index) scan.drawn)
    (gives : found ≡ first_entry (filter (is_behind scan.last) (ranking_at catalogue scan.index))) where
  is : IsRanking scan.rows (predicate_for catalogue def).max (ranking_at catalogue scan.index)
  is = subst (λ size. IsRanking size (predicate_for catalogue def).max (ranking_at catalogue scan.index)) (sym (view def value)) ranked

  pub scan-found : (score row : ℕ) → found ≡ Some (score, row) → IsNext (ranking_at catalogue scan.index) scan.rows scan.drawn score row
  scan-found score row is_found =
      IsNext-found scan.rows (predicate_for catalogue def).max (ranking_at catalogue scan.index) is scan.drawn within scan.last found score row was gives is_found

  pub scan-over : found ≡ None → scan.drawn ≡ scan.rows
  scan-over none = all-drawn scan.rows (predicate_for catalogue def).max (ranking_at catalogue scan.index) is scan.drawn within scan.last found was gives none

  -- the row that is given
  pub row-found : (score row : ℕ) → found ≡ Some (score, row)
      → slice_get (rows_of_index catalogue scan) scan.drawn ≡ Some (scored scan.block scan.entry scan.weight (record { score = score; row = row }))
  row-found score row is_found =
      slice_get-map (scored scan.block scan.entry scan.weight) (entries_in scan.rows (ranking_at catalogue scan.index)) scan.drawn
      ∙ ap (option_map (scored scan.block scan.entry scan.weight))
      (ap (λ entries. slice_get entries scan.drawn) (entries_in-ranking scan.rows (predicate_for catalogue def).max (ranking_at catalogue scan.index) is) ∙ (scan-found score row is_found).there)

  pub row-over : found ≡ None → slice_get (rows_of_index catalogue scan) scan.drawn ≡ None
  row-over none =
      let count = index-count scan.block scan.entry scan.weight scan.rows (predicate_for catalogue def).max (ranking_at catalogue scan.index) is in
      let end = scan-over none in
      slice_get_past (index_rows scan.block scan.entry scan.weight scan.rows (ranking_at catalogue scan.index)) scan.drawn (omega (arith, count, end))

  -- where the scan stands then
  pub after-found : (score row : ℕ) → found ≡ Some (score, row)
      → record scan { drawn = scan.drawn + 1; last = Some (score, row) } ≡ scan_at catalogue (min (scan.drawn + 1) scan.rows) scan
  after-found score row is_found =
      let next = scan-found score row is_found in
      ap (λ (kept : Option (ℕ × ℕ)). record scan { drawn = scan.drawn + 1; last = kept }) next.last
      ∙ ap (λ n. scan_at catalogue n scan) (sym next.count)

  pub after-over : found ≡ None → scan ≡ scan_at catalogue (min (scan.drawn + 1) scan.rows) scan
  after-over none =
      let end = scan-over none in
      let count : scan.drawn ≡ min (scan.drawn + 1) scan.rows = omega (arith, end) in
      ap (λ (kept : Option (ℕ × ℕ)). record scan { last = kept }) was ∙ ap (λ n. scan_at catalogue n scan) count

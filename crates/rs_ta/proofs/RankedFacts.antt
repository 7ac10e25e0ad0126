-- Ranked lists: what stands at their places, and the scores of their rows.
use Rattle.std.proofs.Common.{◌≡◌, ℕ, zero, suc, ◌<◌, true, false, cond, eqb, List, [], ◌∷◌, length, map, refl, sym, ◌∙◌, ap, inl, inr, arith}
use Rattle.std.proofs.lemmas.Bool.{eq-eqb, eqb-true, eqb-false, ne_eqb}
use Rattle.std.proofs.lemmas.List.{length-map}
use Rattle.rs_order.specs.Climbing.{In}
use Rattle.rs_order.proofs.EachFacts.{each-get_or, each-map}
use Rattle.rs_rank.specs.declared.scored_row.ScoredRow.{ScoredRow}
use Rattle.rs_ta.specs.Depths.{entry_at}
use Rattle.rs_catalog.specs.Indexes.{EntriesInOrder, EntryPrecedes, RowsDiffer}
use Rattle.rs_ta.specs.Lists.{IsRanked, IsRow, score_of}
use Rattle.rs_ta.proofs.NumberFacts.{AreApart, all-apart}

abbrev no_entry : ScoredRow
no_entry = record { score = 0; row = 0 }

abbrev row_at : ScoredRow → ℕ
row_at e = e.row

-- an entry at a place comes before that at a later one
pub entries-ordered : (list : List ScoredRow) (i j : ℕ) → EntriesInOrder list → i < j → j < length list → EntryPrecedes (entry_at i list) (entry_at j list)
entries-ordered [] i j ordered before within = absurd (omega arith)
entries-ordered (e ∷ list) i zero ordered before within = absurd (omega arith)
entries-ordered (e ∷ list) zero (suc j) ordered before within = each-get_or (EntryPrecedes e) list j no_entry ordered.0 (omega arith)
entries-ordered (e ∷ list) (suc i) (suc j) ordered before within = entries-ordered list i j ordered.1 (omega arith) (omega arith)

-- the score of the row at a place is the one there
pub score_of-at : (list : List ScoredRow) (place : ℕ) → RowsDiffer list → place < length list → score_of (entry_at place list).row list ≡ (entry_at place list).score
score_of-at [] place differ within = absurd (omega arith)
score_of-at (e ∷ list) zero differ within = ap (λ b. cond b e.score (score_of e.row list)) (eq-eqb e.row e.row refl)
score_of-at (e ∷ list) (suc place) differ within =
    let other = entry_at place list in
    let apart : e.row ≡ other.row → ⊥ = each-get_or (λ (b : ScoredRow). e.row ≡ b.row → ⊥) list place no_entry differ.0 (omega arith) in
    ap (λ b. cond b e.score (score_of other.row list)) (ne_eqb e.row other.row apart) ∙ score_of-at list place differ.1 (omega arith)

-- a row stands at a place with its score
pub record StandsAt (list : List ScoredRow) (row : ℕ) : Type 0 where
  pub place : ℕ
  pub within : place < length list
  pub row_is : (entry_at place list).row ≡ row
  pub score_is : (entry_at place list).score ≡ score_of row list

pub stands-at : (list : List ScoredRow) (row : ℕ) → In row (map row_at list) → StandsAt list row
stands-at [] row h = absurd h
stands-at (e ∷ list) row h =
    (elim (eqb e.row row) as (λ b. eqb e.row row ≡ b → StandsAt (e ∷ list) row) [
      | true ↦ λ is. record {
        place = 0;
        within = omega arith;
        row_is = eqb-true e.row row is;
        score_is = sym (ap (λ b. cond b e.score (score_of row list)) is);
      }
      | false ↦ λ is.
          let behind : In row (map row_at list) = elim h [ inl same ↦ absurd (eqb-false e.row row is (sym same)) | inr behind ↦ behind ] in
          let there = stands-at list row behind in
          let inside = there.within in
          record {
            place = suc there.place;
            within = omega arith;
            row_is = there.row_is;
            score_is = there.score_is ∙ sym (ap (λ b. cond b e.score (score_of row list)) is);
          }
    ]) refl

AreApart-rows : (list : List ScoredRow) → RowsDiffer list → AreApart (map row_at list)
AreApart-rows [] differ = tt
AreApart-rows (e ∷ list) differ = (each-map (λ y. e.row ≡ y → ⊥) row_at list differ.0, AreApart-rows list differ.1)

-- each row stands in a ranked list
pub ranked-stands : (rows : ℕ) (list : List ScoredRow) → IsRanked rows list → (row : ℕ) → IsRow rows row → StandsAt list row
ranked-stands rows list is row is_row =
    stands-at list row
    (all-apart rows (map row_at list) (each-map (IsRow rows) row_at list is.each) (AreApart-rows list is.differ) (length-map list row_at ∙ is.all) row is_row)

-- what stands at a place is a row
pub ranked-row : (rows : ℕ) (list : List ScoredRow) → IsRanked rows list → (place : ℕ) → place < rows → IsRow rows (entry_at place list).row
ranked-row rows list is place within =
    let all = is.all in
    each-get_or (λ (e : ScoredRow). IsRow rows e.row) list place no_entry is.each (omega arith)

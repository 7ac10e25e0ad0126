-- Rankings with new rows: what holds of new rows with their scores, and of a ranking that they join.
use Rattle.std.proofs.Common.{ℕ, ◌≡◌, ◌∙◌, ◌+◌, ◌-◌, ◌<◌, ◌≤◌, ◌++◌, Bool, true, false, List, [], ◌∷◌, length, map, refl, sym, ap, subst, arith, length-append, if◌then◌else◌}
use Rattle.std.specs.Prelude.{Result, Ok, Err}
use Rattle.std.specs.List.{AllByRecursion}
use Rattle.std.proofs.lemmas.List.{length-map}
use Rattle.rs_value.specs.declared.value.Value.{Value}
use Rattle.rs_table.specs.Appended.{appended}
use Rattle.rs_order.proofs.EachFacts.{each-weaker}
use Rattle.rs_expr.specs.Predicates.{PredicateDef}
use Rattle.rs_expr.specs.Scores.{as_score, is_score}
use Rattle.rs_expr.specs.Scoring.{Answering}
use Rattle.rs_expr.specs.InOrder.{Inquiry}
use Rattle.rs_rank.specs.Stable.{put_all, stable}
use Rattle.rs_rank.specs.declared.scored_row.ScoredRow.{ScoredRow}
use Rattle.rs_rank.proofs.StableFacts.{AllByRecursion-put_all, Falls, length-stable}
use Rattle.rs_catalog.specs.Growing.{in_turn, scoring_new, scorings_new}
use Rattle.rs_catalog.specs.Indexes.{EntriesInOrder, EntryPrecedes, IsIndexEntry, IsRanking, RowsDiffer, args_in, score_in}
use Rattle.rs_catalog.specs.Inside.{AreScores}
use Rattle.rs_catalog.specs.declared.growth.GrowFault.{GrowFault}
use Rattle.rs_catalog.specs.declared.growth.GrowFault.TheVariants.{BadScore}
use Rattle.rs_catalog.specs.declared.index.BoundArg.{BoundArg}
use Rattle.rs_catalog.proofs.InTurnFacts.{in_turn-err, in_turn-ok}
use Rattle.rs_catalog.proofs.MergeFacts.{stable-behind, stable-falls}
use Rattle.rs_catalog.proofs.RankingFacts.{Numbered, put_all-ordered, put_all-scored, score, score-EntryPrecedes, score_of-score}

-- new rows with scores up to a greatest one; the first one has this number
pub record AreNew (max row : ℕ) (rows : List (List Value)) (entries : List ScoredRow) : Type 0 where
  pub all : length entries ≡ length rows
  pub numbered : Numbered row entries
  pub each : AllByRecursion (IsIndexEntry (row - 1 + length rows) max) entries

module _ (answer : Answering) (index : ℕ) (predicate : PredicateDef) (args : List BoundArg) where
  -- a new row that got a score
  scored-new : (row : ℕ) (values : List Value) (entry : ScoredRow) → (scoring_new answer index predicate args row values).outcome ≡ Ok entry → (entry.row ≡ row) × (entry.score ≤ predicate.max)
  scored-new row values entry = go (is_score predicate.max (answer predicate (args_in args values))) refl where
    go : (b : Bool) → is_score predicate.max (answer predicate (args_in args values)) ≡ b
        → (if b then Ok (record { score = as_score (answer predicate (args_in args values)); row = row }) else Err (BadScore index row (answer predicate (args_in args values)) predicate.max)) ≡ Ok entry
        → (entry.row ≡ row) × (entry.score ≤ predicate.max)
    go true is e =
        let low = (score_of-score predicate.max (answer predicate (args_in args values)) is).0 in
        let same : record { score = as_score (answer predicate (args_in args values)); row = row } ≡ entry = cc in
        (ap (λ (e : ScoredRow). e.row) (sym same), subst (λ (e : ScoredRow). e.score ≤ predicate.max) same low)
    go false is e = cc

  -- so all that was read is new rows with scores
  pub AreNew-scored : (rows : List (List Value)) (row : ℕ) (entries : List ScoredRow) → 1 ≤ row → (scorings_new answer index predicate args row rows).outcome ≡ Ok entries → AreNew predicate.max row rows entries
  AreNew-scored [] row entries some e = let none : entries ≡ [] = cc in subst (AreNew predicate.max row []) (sym none) (record { all = refl; numbered = tt; each = tt })
  AreNew-scored (values ∷ rows) row entries some e =
      go (scoring_new answer index predicate args row values).outcome refl (in_turn (scoring_new answer index predicate args) (row + 1) rows).outcome refl
      (λ others others_is. AreNew-scored rows (row + 1) others (omega arith) others_is) where
        go : (first : Result ScoredRow GrowFault) → (scoring_new answer index predicate args row values).outcome ≡ first
            → (rest : Result (List ScoredRow) GrowFault) → (in_turn (scoring_new answer index predicate args) (row + 1) rows).outcome ≡ rest
            → ((others : List ScoredRow) → (in_turn (scoring_new answer index predicate args) (row + 1) rows).outcome ≡ Ok others → AreNew predicate.max (row + 1) rows others)
            → AreNew predicate.max row (values ∷ rows) entries
        go (Ok entry) is (Ok others) others_is known =
            let whole : (in_turn (scoring_new answer index predicate args) row (values ∷ rows)).outcome ≡ appended (entry ∷ []) (in_turn (scoring_new answer index predicate args) (row + 1) rows).outcome =
            ap (λ (inquiry : Inquiry (List ScoredRow) GrowFault). inquiry.outcome) (in_turn-ok (scoring_new answer index predicate args) row values rows entry is) in
            let later = known others others_is in
            let own = scored-new row values entry is in
            let all : appended (entry ∷ []) (Ok others) ≡ Ok entries = ap (appended (entry ∷ [])) (sym others_is) ∙ sym whole ∙ e in
            let same : entry ∷ others ≡ entries = cc in
            subst (AreNew predicate.max row (values ∷ rows)) same (record {
              all = let size = later.all in omega arith;
              numbered = (own.0, later.numbered);
              each = (
                record { some = omega (arith, own.0); within = omega (arith, own.0); scored = own.1 },
                subst (λ n. AllByRecursion (IsIndexEntry n predicate.max) others) (let e : row + 1 - 1 + length rows ≡ row - 1 + length (values ∷ rows) = omega arith in e) later.each,
              );
            })
        go (Ok entry) is (Err fault) others_is known =
            absurd (let bad : appended (entry ∷ []) (Err fault) ≡ Ok entries =
            ap (appended (entry ∷ [])) (sym others_is)
            ∙ sym (ap (λ (inquiry : Inquiry (List ScoredRow) GrowFault). inquiry.outcome) (in_turn-ok (scoring_new answer index predicate args) row values rows entry is)) ∙ e in cc)
        go (Err fault) is rest others_is known =
            absurd (let bad : Err fault ≡ Ok entries = ap (λ (inquiry : Inquiry (List ScoredRow) GrowFault). inquiry.outcome) (sym (in_turn-err (scoring_new answer index predicate args) row values rows fault is)) ∙ e in cc)

-- entries in order have falling scores, so their stable order is as they stand
Falls-ordered : (entries : List ScoredRow) → EntriesInOrder entries → Falls score entries
unfolding Falls
Falls-ordered [] ordered = tt
Falls-ordered (first ∷ rest) ordered = (each-weaker (EntryPrecedes first) (λ e. e.score ≤ first.score) (score-EntryPrecedes first) rest ordered.0, Falls-ordered rest ordered.1)

pub stable-ordered : (entries : List ScoredRow) → EntriesInOrder entries → stable score entries ≡ entries
stable-ordered entries ordered = stable-falls score entries (Falls-ordered entries ordered)

stable-more : (ranking entries : List ScoredRow) → EntriesInOrder ranking → stable score (ranking ++ entries) ≡ put_all score ranking entries
stable-more ranking entries ordered = stable-behind score ranking entries (stable-ordered ranking ordered)

module _ (rows max : ℕ) (ranking entries : List ScoredRow) (more : List (List Value)) (is : IsRanking rows max ranking) (new : AreNew max (rows + 1) more entries) where
  before : AllByRecursion (λ e. e.row < rows + 1) ranking
  before = each-weaker (IsIndexEntry rows max) (λ e. e.row < rows + 1) (λ e is. let within = is.within in omega arith) ranking is.each

  -- a ranking with new rows is one
  pub IsRanking-more : IsRanking (rows + length more) max (stable (λ entry. entry.score) (ranking ++ entries))
  IsRanking-more =
      let ordered = put_all-ordered entries ranking (rows + 1) new.numbered before is.ordered is.differ in
      let size = new.all in
      let old_size = is.all in
      let same = sym (stable-more ranking entries is.ordered) in
      record {
        all = length-stable score (ranking ++ entries) ∙ length-append ranking entries ∙ (let e : length ranking + length entries ≡ rows + length more = omega arith in e);
        each = subst (AllByRecursion (IsIndexEntry (rows + length more) max)) same
            (AllByRecursion-put_all score (IsIndexEntry (rows + length more) max) ranking entries
            (each-weaker (IsIndexEntry rows max) (IsIndexEntry (rows + length more) max) (λ e is. let within = is.within in record { some = is.some; within = omega arith; scored = is.scored }) ranking is.each)
            (subst (λ n. AllByRecursion (IsIndexEntry n max) entries) (let e : rows + 1 - 1 + length more ≡ rows + length more = omega arith in e) new.each));
        differ = subst RowsDiffer same ordered.1;
        ordered = subst EntriesInOrder same ordered.0;
      }

  -- and its scores are those of the old rows, and behind them those of the new ones
  pub AreScores-more : (scores : List ℕ) → AreScores ranking scores → AreScores (stable (λ entry. entry.score) (ranking ++ entries)) (scores ++ map (λ entry. entry.score) entries)
  AreScores-more scores known =
      let size = known.all in
      let old_size = is.all in
      record {
        all = length-append scores (map score entries) ∙ ap (λ n. length scores + n) (length-map entries score) ∙ ap (λ n. n + length entries) size ∙ sym (length-append ranking entries) ∙ sym (length-stable score (ranking ++ entries));
        each = λ row some within.
            ap (score_in row) (stable-more ranking entries is.ordered)
            ∙ put_all-scored entries ranking scores (rows + 1) (omega arith) new.numbered before (omega arith)
            (λ r some_r less. known.each r some_r (omega arith)) row some
            (omega (arith, length-stable score (ranking ++ entries), length-append ranking entries));
      }

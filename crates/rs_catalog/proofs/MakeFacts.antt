-- Making an index, row by row.
use Rattle.std.proofs.Common.{ℕ, ℤ, ◌≡◌, ◌∙◌, ◌+◌, ◌-◌, ◌<◌, ◌≤◌, ◌++◌, List, [], ◌∷◌, length, map, take, drop, get_or, refl, sym, ap, subst, inl, inr, arith, append-nil}
use Rattle.std.specs.Prelude.{Some, option_map, slice_get, Result, Ok, Err, IsOk}
use Rattle.std.proofs.lemmas.List.{map-append, take-append-drop, length-take-le, take_more, take_all}
use Rattle.std.proofs.lemmas.Option.{unwrap_or-slice_get}
use Rattle.rs_value.specs.declared.value.Value.{Value}
use Rattle.rs_table.specs.Appended.{appended}
use Rattle.rs_table.specs.Relation.{Relation}
use Rattle.rs_expr.specs.Predicates.{PredicateDef}
use Rattle.rs_expr.specs.Scoring.{Answering, KeepsScorer, Made, ScorerState}
use Rattle.rs_expr.specs.InOrder.{Inquires, Inquiry, Request, calls_of}
use Rattle.rs_expr.proofs.ScoringFacts.{KeepsScorer-then}
use Rattle.rs_expr.proofs.InOrderFacts.{Begins, InquiryEnds-ok, Inquires-begun, Inquires-behind, Inquires-unheld, Made-requests, behind, one}
use Rattle.rs_rank.specs.declared.scored_row.ScoredRow.{ScoredRow}
use Rattle.rs_catalog.specs.Catalog.{CatalogDef, with_index}
use Rattle.rs_catalog.specs.Indexes.{args_in, asked_rows, making, making_of, predicate_for, ranking_of, row_request, row_at, rows_for, scored_from}
use Rattle.rs_catalog.specs.Making.{MakesIndex, score_for, scoring_of, scoring_row}
use Rattle.rs_catalog.specs.declared.index.BoundArg.{BoundArg}
use Rattle.rs_catalog.specs.declared.index.IndexDef.{IndexDef}
use Rattle.rs_catalog.specs.declared.index.IndexFault.{IndexFault}
use Rattle.rs_catalog.specs.declared.index.IndexFault.TheVariants.{Memory}
use Rattle.rs_catalog.proofs.GrowthFacts.{rows_for-table}
use Rattle.rs_catalog.proofs.ScoreFacts.{Asked, Asked-scored, Rest, rest-all, rest-bad, rest-next, score_for-err}

module _ (answer : List Value → ℤ) (request : List Value → Request IndexFault) (max : ℕ) (rows : List (List Value)) where
  -- the scores of all rows
  abbrev scored : Result (List ScoredRow) IndexFault
  scored = scored_from answer max 1 rows

  abbrev pub scoring : Inquiry (List ScoredRow) IndexFault
  scoring = record { requests = map request (asked_rows scored rows); outcome = scored }

  -- scoring the row at a place
  abbrev scoring_at : ℕ → Inquiry ScoredRow IndexFault
  scoring_at i = one (request (row_at rows (i + 1))) (score_for max (i + 1) (answer (row_at rows (i + 1))))

  -- the first rows were asked for and have these scores
  pub record Between (i : ℕ) (entries : List ScoredRow) (old new : ScorerState) : Type 0 where
    pub rest : Rest answer max rows i entries
    pub made : Made (calls_of (map request (take i rows))) old new
    pub keeps : KeepsScorer old new

  -- the rows up to a place, with the one behind
  take-row : (i : ℕ) → i < length rows → take (i + 1) rows ≡ take i rows ++ row_at rows (i + 1) ∷ []
  take-row i within =
      take_more rows i [] within
      ∙ ap (λ row. take i rows ++ row ∷ []) (let same : i ≡ i + 1 - 1 = omega arith in ap (λ n. get_or rows n []) same ∙ sym (unwrap_or-slice_get rows (i + 1 - 1) []))

  -- the requests so far, with that of the next row
  map-row : (i : ℕ) → i < length rows → map request (take (i + 1) rows) ≡ map request (take i rows) ++ request (row_at rows (i + 1)) ∷ []
  map-row i within = ap (map request) (take-row i within) ∙ map-append request (take i rows) (row_at rows (i + 1) ∷ [])

  -- the rows that are asked for begin with those that were
  asked-split : (i : ℕ) (entries : List ScoredRow) → i ≤ length rows → Rest answer max rows i entries
      → Asked answer max (take i rows) (drop i rows) (asked_rows scored rows)
  asked-split i entries within rest =
      subst (λ all. Asked answer max (take i rows) (drop i rows) (asked_rows scored all)) (take-append-drop i rows)
      (subst (λ s. Asked answer max (take i rows) (drop i rows) (asked_rows s (take i rows ++ drop i rows))) rest
      (Asked-scored answer max (drop i rows) (take i rows) i entries (length-take-le i rows within)))

  -- the requests that are left; where there are none, all rows have scores
  record Left (i : ℕ) : Type 0 where
    more : List (Request IndexFault)
    split : scoring.requests ≡ map request (take i rows) ++ more
    good : more ≡ [] → IsOk scored

  left : (i : ℕ) (entries : List ScoredRow) → i ≤ length rows → Rest answer max rows i entries → Left i
  left i entries within rest =
      let asked = asked-split i entries within rest in
      record {
        more = map request asked.more;
        split = ap (map request) asked.split ∙ map-append request (take i rows) asked.more;
        good = λ none. subst IsOk rest (last asked none (drop i rows) refl);
      } where
        last : (asked : Asked answer max (take i rows) (drop i rows) (asked_rows scored rows)) → map request asked.more ≡ [] → (others : List (List Value)) → drop i rows ≡ others
            → IsOk (appended entries (scored_from answer max (i + 1) others))
        last asked none [] e = refl
        last asked none (first ∷ later) e = let next = asked.next first later e in absurd (let some = ap (map request) next.1 in cc)

  -- scoring begins with the first rows and the next one
  Begins-at : (i : ℕ) (entries : List ScoredRow) → i < length rows → Rest answer max rows i entries → Begins (behind (map request (take i rows)) (scoring_at i)) scoring
  Begins-at i entries within rest = go (score_for max (i + 1) (answer (row_at rows (i + 1)))) refl where
    go : (outcome : Result ScoredRow IndexFault) → score_for max (i + 1) (answer (row_at rows (i + 1))) ≡ outcome
        → Begins (behind (map request (take i rows)) (one (request (row_at rows (i + 1))) outcome)) scoring
    go (Ok entry) score =
        let later = left (i + 1) (entries ++ entry ∷ []) (omega arith) (rest-next answer max rows i entries entry within rest score) in
        record {
          more = later.more;
          split = later.split ∙ ap (λ some. some ++ later.more) (map-row i within);
          bad = λ fault e. cc;
          good = λ ok none. later.good none;
        }
    go (Err fault) score =
        let scored_is = rest-bad answer max rows i entries fault within rest score in
        let bad = score_for-err answer max (i + 1) (row_at rows (i + 1)) fault score in
        record {
          more = [];
          split = ap (λ s. map request (asked_rows s rows)) (scored_is ∙ ap Err bad.1) ∙ map-row i within ∙ sym (append-nil (map request (take i rows) ++ request (row_at rows (i + 1)) ∷ []));
          bad = λ other e. (refl, scored_is ∙ (let same : fault ≡ other = cc in ap Err same));
          good = λ ok none. cc;
        }

  -- the next row gave a score
  Between-more : (i : ℕ) (entries : List ScoredRow) (entry : ScoredRow) (old middle new : ScorerState) → i < length rows → Between i entries old middle
      → Inquires Memory (scoring_at i) (Ok entry) middle new → Between (i + 1) (entries ++ entry ∷ []) old new
  Between-more i entries entry old middle new within between inquires =
      let ends = InquiryEnds-ok Memory (scoring_at i) entry middle new inquires in
      record {
        rest = rest-next answer max rows i entries entry within between.rest (sym ends.gives);
        made = subst (λ requests. Made (calls_of requests) old new) (sym (map-row i within))
            (Made-requests (map request (take i rows)) (request (row_at rows (i + 1)) ∷ []) old middle new between.made ends.made);
        keeps = KeepsScorer-then old middle new between.keeps inquires.keeps;
      }

  -- the next row gave a fault
  Inquires-at : (i : ℕ) (entries : List ScoredRow) (fault : IndexFault) (old middle new : ScorerState) → i < length rows → Between i entries old middle
      → Inquires Memory (scoring_at i) (Err fault) middle new → Inquires Memory scoring (Err fault) old new
  Inquires-at i entries fault old middle new within between inquires =
      Inquires-begun Memory (behind (map request (take i rows)) (scoring_at i)) scoring fault old new (Begins-at i entries within between.rest)
      (Inquires-behind Memory (map request (take i rows)) (scoring_at i) (Err fault) old middle new between.made between.keeps inquires)

  -- there was no memory to go on
  Inquires-full : (i : ℕ) (entries : List ScoredRow) (old new : ScorerState) → i ≤ length rows → Between i entries old new → Inquires Memory scoring (Err Memory) old new
  Inquires-full i entries old new within between =
      let later = left i entries within between.rest in
      record {
        comes = inr (record { done = map request (take i rows); rest = later.more; split = later.split; good = later.good; made = between.made; gives = refl });
        keeps = between.keeps;
      }

  -- all rows have scores
  pub Inquires-all : (i : ℕ) (entries : List ScoredRow) (old new : ScorerState) → length rows ≤ i → Between i entries old new → Inquires Memory scoring (Ok entries) old new
  Inquires-all i entries old new all between =
      let is : Ok entries ≡ scored = sym (rest-all answer max rows i entries all between.rest) in
      record {
        comes = inl (inl (record {
          made = subst (λ requests. Made (calls_of requests) old new) (ap (map request) (take_all i rows all ∙ ap (λ s. asked_rows s rows) is)) between.made;
          gives = is;
        }));
        keeps = between.keeps;
      }

module _ (predicate : PredicateDef) (args : List BoundArg) (rows : List (List Value)) where
  -- the first rows were asked for, and have these scores, by the answers of a scorer that was first as `old`
  abbrev pub Scores : ℕ → List ScoredRow → ScorerState → ScorerState → Type 0
  Scores i entries old new = Between (λ row. old.answer predicate (args_in args row)) (row_request predicate args) predicate.max rows i entries old new

  -- the next row, by the answers of a scorer that answers alike
  row-same : (i : ℕ) (entries : List ScoredRow) (result : Result ScoredRow IndexFault) (old middle new : ScorerState) → Scores i entries old middle
      → Inquires Memory (scoring_row middle.answer predicate args (i + 1) (row_at rows (i + 1))) result middle new → Inquires Memory (scoring_row old.answer predicate args (i + 1) (row_at rows (i + 1))) result middle new
  row-same i entries result old middle new scores inquires = subst (λ answer. Inquires Memory (scoring_row answer predicate args (i + 1) (row_at rows (i + 1))) result middle new) scores.keeps.answer inquires

  -- it gave a score
  pub Scores-more : (i : ℕ) (entries : List ScoredRow) (entry : ScoredRow) (old middle new : ScorerState) → i < length rows → Scores i entries old middle
      → Inquires Memory (scoring_row middle.answer predicate args (i + 1) (row_at rows (i + 1))) (Ok entry) middle new → Scores (i + 1) (entries ++ entry ∷ []) old new
  Scores-more i entries entry old middle new within scores inquires =
      Between-more (λ row. old.answer predicate (args_in args row)) (row_request predicate args) predicate.max rows i entries entry old middle new within scores
      (row-same i entries (Ok entry) old middle new scores inquires)

  -- it gave a fault
  pub Scores-err : (i : ℕ) (entries : List ScoredRow) (fault : IndexFault) (old middle new : ScorerState) → i < length rows → Scores i entries old middle
      → Inquires Memory (scoring_row middle.answer predicate args (i + 1) (row_at rows (i + 1))) (Err fault) middle new → Inquires Memory (scoring_of old.answer predicate args rows) (Err fault) old new
  Scores-err i entries fault old middle new within scores inquires =
      Inquires-at (λ row. old.answer predicate (args_in args row)) (row_request predicate args) predicate.max rows i entries fault old middle new within scores
      (row-same i entries (Err fault) old middle new scores inquires)

  -- there was no memory for the rows with their scores
  pub Scores-full : (i : ℕ) (entries : List ScoredRow) (old new : ScorerState) → i ≤ length rows → Scores i entries old new → Inquires Memory (scoring_of old.answer predicate args rows) (Err Memory) old new
  Scores-full i entries old new within scores = Inquires-full (λ row. old.answer predicate (args_in args row)) (row_request predicate args) predicate.max rows i entries old new within scores

-- the same calls, and the rows by score
abbrev pub ranked : Inquiry (List ScoredRow) IndexFault → Inquiry (List ScoredRow) IndexFault
ranked scoring = record { requests = scoring.requests; outcome = ranking_of scoring.outcome }

-- sorting the rows calls nobody, and has no fault of its own
Begins-ranked : (scoring : Inquiry (List ScoredRow) IndexFault) → Begins scoring (ranked scoring)
Begins-ranked scoring = go scoring.outcome where
  go : (outcome : Result (List ScoredRow) IndexFault) → Begins (record { requests = scoring.requests; outcome = outcome }) (record { requests = scoring.requests; outcome = ranking_of outcome })
  go (Ok entries) = record { more = []; split = sym (append-nil scoring.requests); bad = λ fault e. cc; good = λ ok none. refl }
  go (Err other) = record { more = []; split = sym (append-nil scoring.requests); bad = λ fault e. (refl, let same : other ≡ fault = cc in ap Err same); good = λ ok none. cc }

-- the scores came, or a fault did
pub Inquires-ranked : (scoring : Inquiry (List ScoredRow) IndexFault) (entries : List ScoredRow) (old new : ScorerState) → Inquires Memory scoring (Ok entries) old new → Inquires Memory (ranked scoring) (ranking_of (Ok entries)) old new
Inquires-ranked scoring entries old new inquires =
    let ends = InquiryEnds-ok Memory scoring entries old new inquires in
    record { comes = inl (inl (record { made = ends.made; gives = ap ranking_of ends.gives })); keeps = inquires.keeps }

pub Inquires-unranked : (scoring : Inquiry (List ScoredRow) IndexFault) (fault : IndexFault) (old new : ScorerState) → Inquires Memory scoring (Err fault) old new → Inquires Memory (ranked scoring) (Err fault) old new
Inquires-unranked scoring fault old new inquires = Inquires-begun Memory scoring (ranked scoring) fault old new (Begins-ranked scoring) inquires

-- there was no memory to sort them
pub Inquires-unsorted : (scoring : Inquiry (List ScoredRow) IndexFault) (entries : List ScoredRow) (old new : ScorerState) → Inquires Memory scoring (Ok entries) old new → Inquires Memory (ranked scoring) (Err Memory) old new
Inquires-unsorted scoring entries old new inquires = Inquires-unranked scoring Memory old new (Inquires-unheld Memory scoring entries old new inquires)

-- making an index of a catalogue is making one of its table and its predicate
pub Inquires-making : (answer : Answering) (catalogue : CatalogDef) (def : IndexDef) (table : Relation) (predicate : PredicateDef) (args : List BoundArg) (result : Result (List ScoredRow) IndexFault) (old new : ScorerState)
    → option_map (λ t. t.table) (slice_get catalogue.tables def.table) ≡ Some table → slice_get catalogue.predicates def.predicate ≡ Some predicate → args ≡ def.args
    → Inquires Memory (making_of answer predicate args table.rows) result old new → Inquires Memory (making answer catalogue def) result old new
Inquires-making answer catalogue def table predicate args result old new has_table has_predicate has_args inquires =
    let is : predicate_for catalogue def ≡ predicate = rw has_predicate refl in
    subst (λ p. Inquires Memory (making_of answer p def.args (rows_for catalogue def)) result old new) (sym is)
    (subst (λ rows. Inquires Memory (making_of answer predicate def.args rows) result old new) (sym (rows_for-table catalogue def table has_table))
    (subst (λ some. Inquires Memory (making_of answer predicate some table.rows) result old new) has_args inquires))

-- a ranking joined a catalogue
pub MakesIndex-ok : (making : Inquiry (List ScoredRow) IndexFault) (def : IndexDef) (ranking : List ScoredRow) (old new : CatalogDef) (before after : ScorerState)
    → Inquires Memory making (Ok ranking) before after → new ≡ with_index def ranking old → MakesIndex making def old new (Ok tt) before after
MakesIndex-ok making def ranking old new before after inquires joins = record { ranking = Ok ranking; inquires = inquires; answers = refl; joins = joins }

-- nothing joined it, by a fault of the ranking
pub MakesIndex-err : (making : Inquiry (List ScoredRow) IndexFault) (def : IndexDef) (fault : IndexFault) (old new : CatalogDef) (before after : ScorerState)
    → Inquires Memory making (Err fault) before after → new ≡ old → MakesIndex making def old new (Err fault) before after
MakesIndex-err making def fault old new before after inquires same = record { ranking = Err fault; inquires = inquires; answers = refl; joins = same }

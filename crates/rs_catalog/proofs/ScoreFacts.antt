-- The rows of a table with their scores, up to the first row that has none.
use Rattle.std.proofs.Common.{ℕ, ℤ, ◌≡◌, ◌∙◌, ◌+◌, ◌-◌, ◌<◌, ◌≤◌, ◌++◌, Bool, true, false, List, [], ◌∷◌, length, take, drop, get_or, refl, sym, ap, arith, append_assoc, append-nil, length-append, if◌then◌else◌}
use Rattle.std.specs.Prelude.{Some, None, option_map, ok_or, Result, Ok, Err}
use Rattle.std.proofs.lemmas.List.{take_at, drop_more, drop_all}
use Rattle.std.proofs.lemmas.Option.{unwrap_or-slice_get}
use Rattle.rs_value.specs.declared.value.Value.{Value}
use Rattle.rs_table.specs.Appended.{appended}
use Rattle.rs_expr.specs.Scores.{is_score, as_score}
use Rattle.rs_rank.specs.declared.scored_row.ScoredRow.{ScoredRow}
use Rattle.rs_catalog.specs.Indexes.{asked_rows, row_at, scored_from}
use Rattle.rs_catalog.specs.Making.{score_for}
use Rattle.rs_catalog.specs.declared.index.IndexFault.{IndexFault}
use Rattle.rs_catalog.specs.declared.index.IndexFault.TheVariants.{BadScore}

-- what is read behind nothing, and behind two parts
pub appended-nil : {A E : Type 0} (rest : Result (List A) E) → appended [] rest ≡ rest
appended-nil (Ok all) = refl
appended-nil (Err fault) = refl

pub appended-appended : {A E : Type 0} (first second : List A) (rest : Result (List A) E) → appended first (appended second rest) ≡ appended (first ++ second) rest
appended-appended first second (Ok all) = ap Ok (sym (append_assoc first second all))
appended-appended first second (Err fault) = refl

-- a row with this score
abbrev row_with : ℕ → ℕ → ScoredRow
row_with row score = record { score = score; row = row }

module _ (answer : List Value → ℤ) (max : ℕ) where
  -- a row with its score
  abbrev pub entry_of : ℕ → List Value → ScoredRow
  entry_of row values = record { score = as_score (answer values); row = row }

  -- the first row has a score
  pub scored_from-score : (row : ℕ) (values : List Value) (rest : List (List Value)) → is_score max (answer values) ≡ true
      → scored_from answer max row (values ∷ rest) ≡ appended (entry_of row values ∷ []) (scored_from answer max (row + 1) rest)
  scored_from-score row values rest score = go (scored_from answer max (row + 1) rest) refl where
    go : (others : Result (List ScoredRow) IndexFault) → scored_from answer max (row + 1) rest ≡ others
        → scored_from answer max row (values ∷ rest) ≡ appended (entry_of row values ∷ []) (scored_from answer max (row + 1) rest)
    go (Ok entries) e = rw (score, e) refl
    go (Err fault) e = rw (score, e) refl

  -- the first row has none
  pub scored_from-bad : (row : ℕ) (values : List Value) (rest : List (List Value)) → is_score max (answer values) ≡ false
      → scored_from answer max row (values ∷ rest) ≡ Err (BadScore row (answer values) max)
  scored_from-bad row values rest bad = rw bad refl

  -- what a row with a number that is a score gives
  pub score_for-ok : (row : ℕ) (values : List Value) (entry : ScoredRow) → score_for max row (answer values) ≡ Ok entry → (is_score max (answer values) ≡ true) × (entry ≡ entry_of row values)
  score_for-ok row values entry = go (is_score max (answer values)) refl where
    go : (b : Bool) → is_score max (answer values) ≡ b → ok_or (option_map (λ score. row_with row score) (if b then Some (as_score (answer values)) else None)) (BadScore row (answer values) max) ≡ Ok entry
        → (is_score max (answer values) ≡ true) × (entry ≡ entry_of row values)
    go true score e = (score, cc)
    go false score e = cc

  pub score_for-err : (row : ℕ) (values : List Value) (fault : IndexFault) → score_for max row (answer values) ≡ Err fault → (is_score max (answer values) ≡ false) × (fault ≡ BadScore row (answer values) max)
  score_for-err row values fault = go (is_score max (answer values)) refl where
    go : (b : Bool) → is_score max (answer values) ≡ b → ok_or (option_map (λ score. row_with row score) (if b then Some (as_score (answer values)) else None)) (BadScore row (answer values) max) ≡ Err fault
        → (is_score max (answer values) ≡ false) × (fault ≡ BadScore row (answer values) max)
    go true score e = cc
    go false score e = (score, cc)

  -- the scores from a row on, behind those that are known, and with that of the row
  pub scored-next : (i : ℕ) (entries : List ScoredRow) (values : List Value) (rest : List (List Value)) → is_score max (answer values) ≡ true
      → appended entries (scored_from answer max (i + 1) (values ∷ rest)) ≡ appended (entries ++ entry_of (i + 1) values ∷ []) (scored_from answer max (i + 1 + 1) rest)
  scored-next i entries values rest score =
      ap (appended entries) (scored_from-score (i + 1) values rest score) ∙ appended-appended entries (entry_of (i + 1) values ∷ []) (scored_from answer max (i + 1 + 1) rest)

  -- the rows that are asked for where these were, and more may be
  pub record Asked (done rest asked : List (List Value)) : Type 0 where
    pub more : List (List Value)
    pub split : asked ≡ done ++ more
    pub next : (first : List Value) (later : List (List Value)) → rest ≡ first ∷ later → (tail : List (List Value)) × (more ≡ first ∷ tail)

  -- rows that have scores were asked for, and so is the one behind them
  pub Asked-scored : (rest done : List (List Value)) (i : ℕ) (entries : List ScoredRow) → length done ≡ i
      → Asked done rest (asked_rows (appended entries (scored_from answer max (i + 1) rest)) (done ++ rest))
  Asked-scored [] done i entries size = record { more = []; split = refl; next = λ first later e. cc }
  Asked-scored (values ∷ rest) done i entries size =
      go (is_score max (answer values)) refl
      (Asked-scored rest (done ++ values ∷ []) (i + 1) (entries ++ entry_of (i + 1) values ∷ []) (length-append done (values ∷ []) ∙ ap (λ n. n + 1) size)) where
        go : (b : Bool) → is_score max (answer values) ≡ b
            → Asked (done ++ values ∷ []) rest (asked_rows (appended (entries ++ entry_of (i + 1) values ∷ []) (scored_from answer max (i + 1 + 1) rest)) ((done ++ values ∷ []) ++ rest))
            → Asked done (values ∷ rest) (asked_rows (appended entries (scored_from answer max (i + 1) (values ∷ rest))) (done ++ values ∷ rest))
        go true score later = record {
          more = values ∷ later.more;
          split = ap (λ scored. asked_rows scored (done ++ values ∷ rest)) (scored-next i entries values rest score)
              ∙ ap (asked_rows (appended (entries ++ entry_of (i + 1) values ∷ []) (scored_from answer max (i + 1 + 1) rest))) (sym (append_assoc done (values ∷ []) rest))
              ∙ later.split ∙ append_assoc done (values ∷ []) later.more;
          next = λ first others e. (later.more, cc);
        }
        go false bad later = record {
          more = values ∷ [];
          split = ap (λ scored. asked_rows (appended entries scored) (done ++ values ∷ rest)) (scored_from-bad (i + 1) values rest bad)
              ∙ ap (take (i + 1)) (sym (append_assoc done (values ∷ []) rest))
              ∙ take_at (done ++ values ∷ []) rest (i + 1) (length-append done (values ∷ []) ∙ ap (λ n. n + 1) size);
          next = λ first others e. ([], cc);
        }

module _ (answer : List Value → ℤ) (max : ℕ) (rows : List (List Value)) where
  -- the row at a place, and those behind it
  pub drop-row : (i : ℕ) → i < length rows → drop i rows ≡ row_at rows (i + 1) ∷ drop (i + 1) rows
  drop-row i within =
      drop_more rows i [] within
      ∙ ap (λ row. row ∷ drop (i + 1) rows) (let same : i ≡ i + 1 - 1 = omega arith in ap (λ n. get_or rows n []) same ∙ sym (unwrap_or-slice_get rows (i + 1 - 1) []))

  -- the first rows have these scores, and the others decide
  abbrev pub Rest : ℕ → List ScoredRow → Type 0
  Rest i entries = appended entries (scored_from answer max (i + 1) (drop i rows)) ≡ scored_from answer max 1 rows

  pub rest-none : Rest 0 []
  rest-none = appended-nil (scored_from answer max 1 rows)

  -- the next row has a score
  pub rest-next : (i : ℕ) (entries : List ScoredRow) (entry : ScoredRow) → i < length rows → Rest i entries
      → score_for max (i + 1) (answer (row_at rows (i + 1))) ≡ Ok entry → Rest (i + 1) (entries ++ entry ∷ [])
  rest-next i entries entry within rest score =
      let is = score_for-ok answer max (i + 1) (row_at rows (i + 1)) entry score in
      ap (λ e. appended (entries ++ e ∷ []) (scored_from answer max (i + 1 + 1) (drop (i + 1) rows))) is.1
      ∙ sym (scored-next answer max i entries (row_at rows (i + 1)) (drop (i + 1) rows) is.0)
      ∙ ap (λ left. appended entries (scored_from answer max (i + 1) left)) (sym (drop-row i within))
      ∙ rest

  -- the next row has none: its fault is that of all
  pub rest-bad : (i : ℕ) (entries : List ScoredRow) (fault : IndexFault) → i < length rows → Rest i entries
      → score_for max (i + 1) (answer (row_at rows (i + 1))) ≡ Err fault → scored_from answer max 1 rows ≡ Err fault
  rest-bad i entries fault within rest score =
      let is = score_for-err answer max (i + 1) (row_at rows (i + 1)) fault score in
      sym (ap (appended entries) (sym (scored_from-bad answer max (i + 1) (row_at rows (i + 1)) (drop (i + 1) rows) is.0))
      ∙ ap (λ left. appended entries (scored_from answer max (i + 1) left)) (sym (drop-row i within))
      ∙ rest)
      ∙ ap Err (sym is.1)

  -- all rows have scores
  pub rest-all : (i : ℕ) (entries : List ScoredRow) → length rows ≤ i → Rest i entries → scored_from answer max 1 rows ≡ Ok entries
  rest-all i entries all rest =
      sym (ap Ok (sym (append-nil entries)) ∙ ap (λ left. appended entries (scored_from answer max (i + 1) left)) (sym (drop_all i rows all)) ∙ rest)

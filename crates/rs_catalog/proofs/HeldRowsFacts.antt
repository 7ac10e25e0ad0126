-- The indexes of a catalogue go on to hold a scorer's answers where rows join a table.
use Rattle.std.proofs.Common.{ℕ, zero, suc, ℤ, ◌≡◌, ◌∙◌, ◌+◌, ◌++◌, Bool, true, false, List, [], ◌∷◌, length, add-zero, refl, sym, ap, subst, inl, inr, arith, if◌then◌else◌}
use Rattle.std.specs.Prelude.{◌⊎◌, ◌==◌, Option, Some, Result, Ok, Err, option_map, slice_get, unwrap_or}
use Rattle.std.specs.List.{AllByRecursion}
use Rattle.std.proofs.lemmas.Bool.{eqb-true, eqb-false}
use Rattle.rs_value.specs.declared.value.Value.{Value}
use Rattle.rs_table.specs.Appended.{appended}
use Rattle.rs_table.specs.Lent.{with_rows}
use Rattle.rs_expr.specs.InOrder.{Inquiry, InquiryEnds, InquiryFails, InquiryStops}
use Rattle.rs_expr.specs.Predicates.{PredicateDef}
use Rattle.rs_expr.specs.Scores.{as_score, is_score}
use Rattle.rs_expr.specs.Scoring.{Answering, ScorerState}
use Rattle.rs_rank.specs.Stable.{stable}
use Rattle.rs_rank.specs.declared.scored_row.ScoredRow.{ScoredRow}
use Rattle.rs_catalog.specs.Catalog.{CatalogDef, NamedTable, RankIndex}
use Rattle.rs_catalog.specs.Growing.{CanJoin, GrowsBy, catalogue_grown, grown, growing, growing_index, in_turn, scoring_new, scorings_new, with_entries, with_rows_in}
use Rattle.rs_catalog.specs.Grown.{finished}
use Rattle.rs_catalog.specs.IndexesHold.{IndexHolds, IndexesHold}
use Rattle.rs_catalog.specs.Indexes.{args_in, making, making_of, predicate_for, ranking_of, rows_for, scored_from}
use Rattle.rs_catalog.specs.declared.growth.GrowFault.{GrowFault}
use Rattle.rs_catalog.specs.declared.growth.GrowFault.TheVariants.{BadScore, Memory}
use Rattle.rs_catalog.specs.declared.index.BoundArg.{BoundArg}
use Rattle.rs_catalog.specs.declared.index.IndexFault.{IndexFault}
use Rattle.rs_catalog.proofs.GrowAtFacts.{growing_index-other, growing_index-own}
use Rattle.rs_catalog.proofs.InTurnFacts.{Parts-in_turn, in_turn-err, in_turn-ok}
use Rattle.rs_catalog.proofs.JoinRowsFacts.{with_rows_in-other, with_rows_in-own}
use Rattle.rs_catalog.proofs.MergeFacts.{put_all-append, stable-again, stable-behind}
use Rattle.rs_catalog.proofs.RankingFacts.{score, sorted-from}
use Rattle.rs_catalog.proofs.ScoreFacts.{appended-appended, appended-nil, entry_of, scored_from-bad, scored_from-score}

-- what comes of an inquiry about each item of a list has what comes of each
in_turn-each : {X A : Type 0} (ask : ℕ → X → Inquiry A GrowFault) (P : X → Type 0) (Q : A → Type 0) → ((n : ℕ) (x : X) (a : A) → P x → (ask n x).outcome ≡ Ok a → Q a)
    → (n : ℕ) (xs : List X) (all : List A) → AllByRecursion P xs → (in_turn ask n xs).outcome ≡ Ok all → AllByRecursion Q all
in_turn-each {X} {A} ask P Q step n [] all each e = let none : all ≡ [] = cc in subst (AllByRecursion Q) (sym none) tt
in_turn-each ask P Q step n (x ∷ xs) all each e =
    let parts = Parts-in_turn ask n x xs all e in
    subst (AllByRecursion Q) parts.all_are (step n x parts.first each.0 parts.first_is, in_turn-each ask P Q step (n + 1) xs parts.others each.1 parts.others_are)

-- rows that are put behind a stable order are put into it
stable-joined : (first more : List ScoredRow) → stable score (stable score first ++ more) ≡ stable score (first ++ more)
stable-joined first more = stable-behind score (stable score first) more (stable-again score first) ∙ sym (put_all-append score first more [])

module _ (f : List Value → ℤ) (max : ℕ) where
  -- rows behind others
  scored_from-append : (rows more : List (List Value)) (n : ℕ) (entries : List ScoredRow) → scored_from f max n rows ≡ Ok entries
      → scored_from f max n (rows ++ more) ≡ appended entries (scored_from f max (n + length rows) more)
  scored_from-append [] more n entries e =
      let none : entries ≡ [] = cc in
      sym (ap (λ all. appended all (scored_from f max (n + 0) more)) none ∙ appended-nil (scored_from f max (n + 0) more) ∙ ap (λ m. scored_from f max m more) (add-zero n))
  scored_from-append (values ∷ rows) more n entries e = go (is_score max (f values)) refl (scored_from f max (n + 1) rows) refl (scored_from-append rows more (n + 1)) where
    go : (b : Bool) → is_score max (f values) ≡ b → (rest : Result (List ScoredRow) IndexFault) → scored_from f max (n + 1) rows ≡ rest
        → ((others : List ScoredRow) → scored_from f max (n + 1) rows ≡ Ok others → scored_from f max (n + 1) (rows ++ more) ≡ appended others (scored_from f max (n + 1 + length rows) more))
        → scored_from f max n (values ∷ rows ++ more) ≡ appended entries (scored_from f max (n + length (values ∷ rows)) more)
    go true is (Ok others) rest_is later =
        let whole : appended (entry_of f max n values ∷ []) (Ok others) ≡ Ok entries =
        ap (appended (entry_of f max n values ∷ [])) (sym rest_is) ∙ sym (scored_from-score f max n values rows is) ∙ e in
        let same : entry_of f max n values ∷ others ≡ entries = cc in
        scored_from-score f max n values (rows ++ more) is
        ∙ ap (appended (entry_of f max n values ∷ [])) (later others rest_is)
        ∙ appended-appended (entry_of f max n values ∷ []) others (scored_from f max (n + 1 + length rows) more)
        ∙ ap (λ all. appended all (scored_from f max (n + 1 + length rows) more)) same
        ∙ ap (λ m. appended entries (scored_from f max m more)) (let at : n + 1 + length rows ≡ n + length (values ∷ rows) = omega arith in at)
    go true is (Err fault) rest_is later =
        absurd (let whole : appended (entry_of f max n values ∷ []) (Err fault) ≡ Ok entries =
        ap (appended (entry_of f max n values ∷ [])) (sym rest_is) ∙ sym (scored_from-score f max n values rows is) ∙ e in cc)
    go false is rest rest_is later = absurd (let bad = sym (scored_from-bad f max n values rows is) ∙ e in cc)

module _ (answer : Answering) (number : ℕ) (predicate : PredicateDef) (args : List BoundArg) where
  abbrev f : List Value → ℤ
  f row = answer predicate (args_in args row)

  abbrev ask : ℕ → List Value → Inquiry ScoredRow GrowFault
  ask row values = scoring_new answer number predicate args row values

  -- a new row whose number is a score, and one whose number is none
  ask-ok : (n : ℕ) (values : List Value) → is_score predicate.max (f values) ≡ true → (ask n values).outcome ≡ Ok (entry_of f predicate.max n values)
  ask-ok n values is = ap (λ b. if b then Ok (record { score = as_score (f values); row = n }) else Err (BadScore number n (f values) predicate.max)) is

  ask-bad : (n : ℕ) (values : List Value) → is_score predicate.max (f values) ≡ false → (ask n values).outcome ≡ Err (BadScore number n (f values) predicate.max)
  ask-bad n values is = ap (λ b. if b then Ok (record { score = as_score (f values); row = n }) else Err (BadScore number n (f values) predicate.max)) is

  -- the scores of new rows are those that making an index would give them
  scored_from-new : (rows : List (List Value)) (n : ℕ) (entries : List ScoredRow) → (scorings_new answer number predicate args n rows).outcome ≡ Ok entries → scored_from f predicate.max n rows ≡ Ok entries
  scored_from-new [] n entries e = let none : entries ≡ [] = cc in ap Ok (sym none)
  scored_from-new (values ∷ rows) n entries e = go (is_score predicate.max (f values)) refl (in_turn ask (n + 1) rows).outcome refl (scored_from-new rows (n + 1)) where
    go : (b : Bool) → is_score predicate.max (f values) ≡ b → (rest : Result (List ScoredRow) GrowFault) → (in_turn ask (n + 1) rows).outcome ≡ rest
        → ((others : List ScoredRow) → (in_turn ask (n + 1) rows).outcome ≡ Ok others → scored_from f predicate.max (n + 1) rows ≡ Ok others)
        → scored_from f predicate.max n (values ∷ rows) ≡ Ok entries
    go true is (Ok others) rest_is later =
        let entry = entry_of f predicate.max n values in
        let whole : appended (entry ∷ []) (Ok others) ≡ Ok entries =
        ap (appended (entry ∷ [])) (sym rest_is) ∙ ap (λ (inquiry : Inquiry (List ScoredRow) GrowFault). inquiry.outcome) (sym (in_turn-ok ask n values rows entry (ask-ok n values is))) ∙ e in
        let same : entry ∷ others ≡ entries = cc in
        scored_from-score f predicate.max n values rows is ∙ ap (appended (entry ∷ [])) (later others rest_is) ∙ ap Ok same
    go true is (Err fault) rest_is later =
        let entry = entry_of f predicate.max n values in
        absurd (let whole : appended (entry ∷ []) (Err fault) ≡ Ok entries =
        ap (appended (entry ∷ [])) (sym rest_is) ∙ ap (λ (inquiry : Inquiry (List ScoredRow) GrowFault). inquiry.outcome) (sym (in_turn-ok ask n values rows entry (ask-ok n values is))) ∙ e in cc)
    go false is rest rest_is later =
        absurd (let bad : Err (BadScore number n (f values) predicate.max) ≡ Ok entries =
        ap (λ (inquiry : Inquiry (List ScoredRow) GrowFault). inquiry.outcome) (sym (in_turn-err ask n values rows (BadScore number n (f values) predicate.max) (ask-bad n values is))) ∙ e in cc)

-- what was finished comes of an outcome
pub record IsFinished {A B : Type 0} (finish : A → B) (inquiry : Inquiry A GrowFault) (made : B) : Type 0 where
  pub from : A
  pub outcome_is : inquiry.outcome ≡ Ok from
  pub made_is : finish from ≡ made

pub IsFinished-from : {A B : Type 0} (finish : A → B) (inquiry : Inquiry A GrowFault) (made : B) → (finished finish inquiry).outcome ≡ Ok made → IsFinished finish inquiry made
IsFinished-from {A} {B} finish inquiry made e = go inquiry.outcome refl e where
  go : (outcome : Result A GrowFault) → inquiry.outcome ≡ outcome → (finished finish (record { requests = inquiry.requests; outcome = outcome })).outcome ≡ Ok made → IsFinished finish inquiry made
  go (Ok a) is same = record { from = a; outcome_is = is; made_is = let both : Ok (finish a) ≡ Ok made = same in cc }
  go (Err fault) is same = cc

-- making an index anew over old and new rows gives its ranking with the new rows
making-more : (answer : Answering) (number : ℕ) (predicate : PredicateDef) (args : List BoundArg) (rows more : List (List Value)) (ranking entries : List ScoredRow)
    → (making_of answer predicate args rows).outcome ≡ Ok ranking → (scorings_new answer number predicate args (length rows + 1) more).outcome ≡ Ok entries
    → (making_of answer predicate args (rows ++ more)).outcome ≡ Ok (stable score (ranking ++ entries))
making-more answer number predicate args rows more ranking entries old new =
    let f : List Value → ℤ = λ row. answer predicate (args_in args row) in
    let sorted = sorted-from f predicate.max rows ranking old in
    let later : scored_from f predicate.max (1 + length rows) more ≡ Ok entries =
    ap (λ n. scored_from f predicate.max n more) (let at : 1 + length rows ≡ length rows + 1 = omega arith in at) ∙ scored_from-new answer number predicate args more (length rows + 1) entries new in
    ap ranking_of (scored_from-append f predicate.max rows more 1 sorted.entries sorted.made ∙ ap (appended sorted.entries) later)
    ∙ ap Ok (sym (stable-joined sorted.entries entries) ∙ ap (λ first. stable score (first ++ entries)) sorted.is)

module _ (answer : Answering) (catalogue : CatalogDef) (table : ℕ) (rows : List (List Value)) (join : CanJoin catalogue table rows) (indexes : List RankIndex) where
  abbrev later : CatalogDef
  later = grown table rows indexes catalogue

  number-of-tables : (place : ℕ) (tables : List NamedTable) → length (with_rows_in place rows tables) ≡ length tables
  number-of-tables place [] = refl
  number-of-tables zero (first ∷ rest) = refl
  number-of-tables (suc place) (first ∷ rest) = ap suc (number-of-tables place rest)

  -- an index of the table holds the answers for all rows
  holds-own : (number : ℕ) (index made : RankIndex) → index.def.table ≡ table → IndexHolds answer catalogue index → (growing_index answer catalogue table rows number index).outcome ≡ Ok made → IndexHolds answer later made
  holds-own number index made own held e =
      let whole = sym (ap (λ (inquiry : Inquiry RankIndex GrowFault). inquiry.outcome) (growing_index-own answer catalogue table rows number index own)) ∙ e in
      let parts = IsFinished-from (λ (entries : List ScoredRow). with_entries entries index) (scorings_new answer number (predicate_for catalogue index.def) index.def.args (length (rows_for catalogue index.def) + 1) rows) made whole in
      let old : slice_get catalogue.tables index.def.table ≡ Some join.named = ap (slice_get catalogue.tables) own ∙ join.has_table in
      let more : NamedTable = record join.named { table = with_rows rows join.named.table } in
      let new : slice_get (with_rows_in table rows catalogue.tables) index.def.table ≡ Some more =
      ap (slice_get (with_rows_in table rows catalogue.tables)) own ∙ with_rows_in-own table rows catalogue.tables join.named join.has_table in
      let old_rows : rows_for catalogue index.def ≡ join.named.table.rows = ap (λ (found : Option NamedTable). unwrap_or (option_map (λ (t : NamedTable). t.table.rows) found) []) old in
      let new_rows : rows_for later index.def ≡ rows_for catalogue index.def ++ rows =
      ap (λ (found : Option NamedTable). unwrap_or (option_map (λ (t : NamedTable). t.table.rows) found) []) new ∙ ap (λ (rs : List (List Value)). rs ++ rows) (sym old_rows) in
      let size = number-of-tables table catalogue.tables in
      let within = held.table in
      let holds : (making answer later index.def).outcome ≡ Ok (stable score (index.ranking ++ parts.from)) =
      ap (λ (rs : List (List Value)). (making_of answer (predicate_for catalogue index.def) index.def.args rs).outcome) new_rows
      ∙ making-more answer number (predicate_for catalogue index.def) index.def.args (rows_for catalogue index.def) rows index.ranking parts.from held.holds parts.outcome_is in
      subst (IndexHolds answer later) parts.made_is (record { table = omega arith; predicate = held.predicate; holds = holds })

  -- one of another table holds the same
  holds-other : (number : ℕ) (index made : RankIndex) → (index.def.table ≡ table → ⊥) → IndexHolds answer catalogue index → (growing_index answer catalogue table rows number index).outcome ≡ Ok made → IndexHolds answer later made
  holds-other number index made differ held e =
      let whole : Ok index ≡ Ok made = sym (ap (λ (inquiry : Inquiry RankIndex GrowFault). inquiry.outcome) (growing_index-other answer catalogue table rows number index differ)) ∙ e in
      let same : index ≡ made = cc in
      let kept : slice_get (with_rows_in table rows catalogue.tables) index.def.table ≡ slice_get catalogue.tables index.def.table = with_rows_in-other table index.def.table rows catalogue.tables differ in
      let rows_same : rows_for later index.def ≡ rows_for catalogue index.def = ap (λ (found : Option NamedTable). unwrap_or (option_map (λ (t : NamedTable). t.table.rows) found) []) kept in
      let size = number-of-tables table catalogue.tables in
      let within = held.table in
      subst (IndexHolds answer later) same (record {
        table = omega arith;
        predicate = held.predicate;
        holds = ap (λ (rs : List (List Value)). (making_of answer (predicate_for catalogue index.def) index.def.args rs).outcome) rows_same ∙ held.holds;
      })

  holds-each : (number : ℕ) (index made : RankIndex) → IndexHolds answer catalogue index → (growing_index answer catalogue table rows number index).outcome ≡ Ok made → IndexHolds answer later made
  holds-each number index made held e = go (index.def.table == table) refl where
    go : (b : Bool) → (index.def.table == table) ≡ b → IndexHolds answer later made
    go true is = holds-own number index made (eqb-true index.def.table table is) held e
    go false is = holds-other number index made (eqb-false index.def.table table is) held e

-- so they do all where rows joined
pub held-grown : (answer : Answering) (catalogue : CatalogDef) (table : ℕ) (rows : List (List Value)) (indexes : List RankIndex) → CanJoin catalogue table rows → IndexesHold answer catalogue
    → (growing answer catalogue table rows).outcome ≡ Ok indexes → IndexesHold answer (grown table rows indexes catalogue)
held-grown answer catalogue table rows indexes join held gives =
    in_turn-each (growing_index answer catalogue table rows) (IndexHolds answer catalogue) (IndexHolds answer (grown table rows indexes catalogue))
    (holds-each answer catalogue table rows join indexes) 0 catalogue.indexes indexes held gives

-- and whatever comes of it, for the scorer behind the calls
pub held-grows : (catalogue new : CatalogDef) (table : ℕ) (rows : List (List Value)) (result : Result (Unit {0}) GrowFault) (before after : ScorerState) → CanJoin catalogue table rows
    → IndexesHold before.answer catalogue → GrowsBy table rows catalogue new result before after → IndexesHold after.answer new
held-grows catalogue new table rows result before after join held grows =
    subst (λ (answer : Answering). IndexesHold answer new) (sym grows.inquires.keeps.answer)
    (subst (IndexesHold before.answer) (sym grows.joins) (go grows.indexes grows.inquires.comes)) where
      go : (indexes : Result (List RankIndex) GrowFault)
          → (InquiryEnds (growing before.answer catalogue table rows) indexes before after ⊎ InquiryFails (growing before.answer catalogue table rows) indexes before after)
          ⊎ InquiryStops Memory (growing before.answer catalogue table rows) indexes before after
          → IndexesHold before.answer (catalogue_grown table rows indexes catalogue)
      go (Err fault) comes = held
      go (Ok indexes) (inl (inl ends)) = held-grown before.answer catalogue table rows indexes join held (sym ends.gives)
      go (Ok indexes) (inl (inr fails)) = let gives = fails.gives in cc
      go (Ok indexes) (inr stops) = let gives = stops.gives in cc

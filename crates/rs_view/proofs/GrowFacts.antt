-- What a growth does, from what its parts do.
use Rattle.std.proofs.Common.{ℕ, ◌≡◌, ◌∙◌, List, [], ◌++◌, length, map, refl, sym, ap, subst, append-nil}
use Rattle.std.specs.Prelude.{Result, Ok, Err, IfErr, OnErr, OnOk}
use Rattle.rs_rank.specs.declared.row.RankRow.{RankRow}
use Rattle.rs_expr.specs.InOrder.{Inquires}
use Rattle.rs_expr.specs.Scoring.{Answering, ScorerState}
use Rattle.rs_catalog.specs.Catalog.{CatalogDef}
use Rattle.rs_query.specs.Blocks.{block_in}
use Rattle.rs_query.specs.Questions.{Question, asking}
use Rattle.rs_query.specs.Tables.{sizes_of}
use Rattle.rs_query.specs.WellFormed.{IsQuery}
use Rattle.rs_query.specs.declared.query.Query.{Query}
use Rattle.rs_query.proofs.QuestionFacts.{AllAsked-none, Ended-behind, Failed-behind, Gave-ok, Stopped-behind}
use Rattle.rs_plain.specs.Plain.{plain_faults}
use Rattle.rs_plain.specs.Results.{NamesCalled}
use Rattle.rs_plain.specs.declared.fault.PlainFault.{PlainFault}
use Rattle.rs_plain.specs.declared.fault.PlainFault.TheVariants.{Memory}
use Rattle.rs_view.specs.Fresh.{as_grown, fresh_questions, fresh_rows, growing, making, whole_view}
use Rattle.rs_view.specs.Keeping.{AreFirst, key_of_row}
use Rattle.rs_view.specs.Views.{IsKeepable, Stands, ViewDef, kept_rows, most_kept, without_values}
use Rattle.rs_view.proofs.CallFacts.{fresh-named, questions-all}
use Rattle.rs_view.proofs.FirstFacts.{first_scored}
use Rattle.rs_view.proofs.RowFacts.{kept-grown, kept-none}
use Rattle.rs_view.proofs.SplitFacts.{IsSizes-none, no_lengths}
use Rattle.rs_view.proofs.StandFacts.{Stands-whole}
use Rattle.rs_query.proofs.BlockFacts.{block-formed}

-- what a growth promises
pub record Grown (catalogue : CatalogDef) (old new : ViewDef) (result : Result (Unit {0}) PlainFault) (before after : ScorerState) : Type 0 where
  pub grows : Inquires Memory (growing before.answer catalogue old) (as_grown new result) before after
  pub ok : OnOk result (new ≡ whole_view before.answer catalogue old.query)
  pub err : OnErr result (new ≡ old)
  pub stands : Stands after.answer catalogue new
  pub names : IfErr result (NamesCalled catalogue old.query)

module _ (catalogue : CatalogDef) (old : ViewDef) (before after : ScorerState) (stood : Stands before.answer catalogue old) where
  -- the questions, and the first rows that they lead to
  abbrev questions : List Question
  questions = fresh_questions catalogue (block_in old.query 1) old.lengths

  abbrev first_rows : Answering → List RankRow
  first_rows answer = first_scored (most_kept old.query) (fresh_rows answer catalogue (block_in old.query 1) old.lengths)

  abbrev Asks : Result (List RankRow) PlainFault → Type 0
  Asks result = Inquires Memory (asking plain_faults before.answer catalogue questions (first_rows before.answer)) result before after

  -- the catalogue was seen as it is
  pub Asks-seen : (seen : CatalogDef) (most : ℕ) (result : Result (List RankRow) PlainFault) → seen ≡ catalogue → most ≡ most_kept old.query
      → Inquires Memory (asking plain_faults before.answer seen (fresh_questions seen (block_in old.query 1) old.lengths) (first_scored most (fresh_rows before.answer seen (block_in old.query 1) old.lengths)))
      result before after
      → Asks result
  Asks-seen seen most result same many inquired =
      subst (λ (n : ℕ). Inquires Memory (asking plain_faults before.answer catalogue questions (first_scored n (fresh_rows before.answer catalogue (block_in old.query 1) old.lengths))) result before after) many
      (subst (λ (s : CatalogDef). Inquires Memory (asking plain_faults before.answer s (fresh_questions s (block_in old.query 1) old.lengths) (first_scored most (fresh_rows before.answer s (block_in old.query 1) old.lengths)))
      result before after) same inquired)

  -- the answers of the scorer stay
  still : (new : ViewDef) → after.answer ≡ before.answer → Stands before.answer catalogue new → Stands after.answer catalogue new
  still new same stands = subst (λ (answer : Answering). Stands answer catalogue new) (sym same) stands

  refused : (new : ViewDef) (result : Result (Unit {0}) PlainFault) (fault : PlainFault) → result ≡ Err fault → new ≡ old → after.answer ≡ before.answer
      → Inquires Memory (growing before.answer catalogue old) (Err fault) before after → NamesCalled catalogue old.query fault → Grown catalogue old new result before after
  refused new result fault is same answers inquired named = record {
    grows = subst (λ r. Inquires Memory (growing before.answer catalogue old) r before after) (sym (ap (as_grown new) is)) inquired;
    ok = subst (λ (r : Result (Unit {0}) PlainFault). OnOk r (new ≡ whole_view before.answer catalogue old.query)) (sym is) tt;
    err = subst (λ (r : Result (Unit {0}) PlainFault). OnErr r (new ≡ old)) (sym is) same;
    stands = still new answers (subst (Stands before.answer catalogue) (sym same) stood);
    names = subst (λ (r : Result (Unit {0}) PlainFault). IfErr r (NamesCalled catalogue old.query)) (sym is) named;
  }

  -- a call failed, or an answer was bad, or there was no memory for one
  pub Grown-failed : (new : ViewDef) (result : Result (Unit {0}) PlainFault) (fault : PlainFault) → result ≡ Err fault → new ≡ old → Asks (Err fault) → Grown catalogue old new result before after
  Grown-failed new result fault is same inquired =
      refused new result fault is same inquired.keeps.answer
      (Failed-behind plain_faults Memory catalogue {A = List RankRow} {B = ViewDef} [] questions [] questions first_rows (whole_view before.answer catalogue old.query) fault (Err fault) before before after
      (sym (append-nil questions)) refl (AllAsked-none before.answer catalogue before) inquired)
      (fresh-named catalogue old.query old.lengths (first_rows before.answer) fault before after stood.query stood.keepable inquired)

  -- there was no memory for the new rows
  pub Grown-stopped : (new : ViewDef) (result : Result (Unit {0}) PlainFault) (more : List RankRow) → result ≡ Err Memory → new ≡ old → Asks (Ok more) → Grown catalogue old new result before after
  Grown-stopped new result more is same inquired =
      let gave = Gave-ok plain_faults Memory before.answer catalogue questions (first_rows before.answer) more before after inquired in
      refused new result Memory is same inquired.keeps.answer
      (Stopped-behind plain_faults Memory catalogue {A = ViewDef} questions (whole_view before.answer catalogue old.query) (Err Memory) before after refl gave.asked) tt

  -- the new rows joined
  pub Grown-done : (new : ViewDef) (more : List RankRow) → length old.lengths ≡ 6 → new.query ≡ old.query → new.lengths ≡ sizes_of catalogue (block_in old.query 1)
      → Asks (Ok more) → AreFirst key_of_row (most_kept old.query) (old.rows ++ more) new.rows → Grown catalogue old new (Ok tt) before after
  Grown-done new more six same sizes inquired first =
      let gave = Gave-ok plain_faults Memory before.answer catalogue questions (first_rows before.answer) more before after inquired in
      let rows : new.rows ≡ map without_values (kept_rows before.answer catalogue old.query (sizes_of catalogue (block_in old.query 1))) =
      kept-grown before.answer catalogue old.query old.lengths old.rows more new.rows stood.query stood.keepable six stood.lengths stood.rows gave.is_value first in
      let whole : new ≡ whole_view before.answer catalogue old.query = λ i. record { query = same i; lengths = sizes i; rows = rows i } in
      record {
        grows = Ended-behind plain_faults Memory catalogue {A = ViewDef} questions questions (whole_view before.answer catalogue old.query) new before after refl whole gave.asked;
        ok = whole;
        err = tt;
        stands = still new inquired.keeps.answer (subst (Stands before.answer catalogue) (sym whole) (Stands-whole before.answer catalogue old.query stood.query stood.keepable));
        names = tt;
      }

-- a view of no rows stands
pub Stands-none : (answer : Answering) (catalogue : CatalogDef) (query : Query) (rows : List RankRow) → rows ≡ [] → IsQuery catalogue query → IsKeepable query
    → Stands answer catalogue (record { query = query; lengths = no_lengths; rows = rows })
Stands-none answer catalogue query rows none formed all = record {
  query = formed;
  keepable = all;
  lengths = IsSizes-none catalogue (block_in query 1) (block-formed catalogue query 1 formed);
  rows = none ∙ sym (kept-none answer catalogue query formed all);
}

-- a growth from no rows makes the view
pub Makes-grown : (catalogue : CatalogDef) (query : Query) (rows : List RankRow) (result : Result ViewDef PlainFault) (before after : ScorerState) → IsQuery catalogue query → IsKeepable query
    → Inquires Memory (growing before.answer catalogue (record { query = query; lengths = no_lengths; rows = rows })) result before after
    → Inquires Memory (making before.answer catalogue query) result before after
Makes-grown catalogue query rows result before after formed all inquired =
    subst (λ asked. Inquires Memory (asking plain_faults before.answer catalogue asked (whole_view before.answer catalogue query)) result before after)
    (questions-all catalogue query formed all) inquired

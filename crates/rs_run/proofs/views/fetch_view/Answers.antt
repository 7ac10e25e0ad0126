use Rattle.std.proofs.Common.{◌≡◌, ◌∙◌, List, ℕ, ℤ, ap, inl, inr, rules, subst, sym, take}
use Rattle.std.specs.Prelude.{Err, Ok, Result}
use Rattle.std.proofs.lemmas.Int.{to_z-of_z}
use mir.Syntax.{w64}
use mir.Val.{SFits, of_z, to_z}
use Rattle.rs_bind.specs.Queries.{count_of}
use Rattle.rs_typing.specs.declared.fault.BindFault.{BindFault}
use Rattle.rs_lex.specs.declared.token.Span.{Span}
use Rattle.rs_value.proofs.ResultFacts.{given-err}
use Rattle.rs_value.specs.Answer.{Gives}
use Rattle.rs_value.specs.Results.{◌>>=◌}
use Rattle.rs_rank.specs.declared.answer.Answer.{Answer}
use Rattle.rs_syntax.specs.declared.name.Name.{Name}
use Rattle.rs_catalog.specs.Catalog.{CatalogDef}
use Rattle.rs_statement.specs.declared.fault.Fault.{Fault}
use Rattle.rs_statement.specs.declared.fault.Fault.TheVariants.{Memory}
use Rattle.rs_statement.proofs.EntryFacts.{each-named}
use Rattle.rs_events.proofs.SteppedFacts.{Stepped-lines}
use Rattle.rs_events.specs.Sequence.{lines_step}
use Rattle.rs_statement.specs.Lines.{rank_lines}
use Rattle.rs_statement.specs.Statements.{bind_fault, or_bind_fault}
use Rattle.rs_statement.proofs.StepFacts.{Stepped-bound, Stepped-refused}
use Rattle.rs_run.specs.Parts.Holding.{kept_of, views_in}
use Rattle.rs_run.specs.Viewing.{HeldView, fetched_rows, view_named}
use Rattle.rs_view.specs.Views.{Stands, ViewDef, rows_in}
use Rattle.rs_run.proofs.views.fetch_view.Goals as goal

-- what is counted of a number that was handed on
counted : (count : ℤ × Span) (result : Result ℕ BindFault) → SFits w64 count.0 → result ≡ count_of (to_z w64 (of_z w64 count.0), count.1) → result ≡ count_of count
counted count result fits e = e ∙ ap (λ n. count_of (n, count.1)) (to_z-of_z w64 count.0 fits)

pub returns-in_err-count : goal.returns-in_err-count
returns-in_err-count g c = λ beside.
    let views = views_in c.args.held.now in
    let kept = kept_of c.args.catalog.now views in
    let name = c.args.name.now in
    rw (given-err c.from_residual.result (bind_fault c.in_err-count.field-0.0) c.from_residual.ensures)
    (Stepped-refused (λ rows. lines_step (rank_lines 1 rows) kept) (fetched_rows kept c.args.count.now name) (bind_fault c.in_err-count.field-0.0) kept (record beside { out = g.O.Sink.state c.args.out.now })
    (inl (ap (λ r. or_bind_fault r >>= (λ wanted. view_named name.text views >>= (λ view. Ok (take wanted (rows_in c.args.catalog.now view)))))
    (counted c.args.count.now (Err c.in_err-count.field-0.0) (search rules) c.in_err-count.ensures))))

-- what is fetched, by the number that was counted and the view that was named
abbrev fetched_by : CatalogDef → ℕ → Result ViewDef Fault → Result (List Answer) Fault
fetched_by catalogue count found = found >>= (λ view. Ok (take count (rows_in catalogue view)))

fetched : (catalogue : CatalogDef) (views : List HeldView) (asked : ℤ × Span) (name : Name) (count : ℕ) → Ok count ≡ count_of asked
    → fetched_rows (kept_of catalogue views) asked name ≡ fetched_by catalogue count (view_named name.text views)
fetched catalogue views asked name count is = ap (λ r. or_bind_fault r >>= (λ wanted. fetched_by catalogue wanted (view_named name.text views))) (sym is)

-- the view that was named is one of those that are held
view-found : (name : List ℕ) (views : List HeldView) (view : ViewDef) → Gives Memory (view_named name views) (Ok view) → view_named name views ≡ Ok view
view-found name views view (inl e) = sym e
view-found name views view (inr e) = absurd cc

none-found : (catalogue : CatalogDef) (count : ℕ) (found : Result ViewDef Fault) (fault : Fault) → Gives Memory found (Err fault) → Gives Memory (fetched_by catalogue count found) (Err fault)
none-found catalogue count found fault (inl e) = inl (ap (fetched_by catalogue count) e)
none-found catalogue count found fault (inr e) = inr cc

pub put_first-requires : goal.put_first-requires
put_first-requires g c =
    let name = c.args.name.now.text in
    let views = views_in c.args.held.now in
    let answer = c.requires.0 in (
      answer,
      each-named (Stands answer c.args.catalog.now) (λ (held : HeldView). held.0) (λ (held : HeldView). held.1) name views c.in_ok-view.view.now c.requires.1
          (view-found name views c.in_ok-view.view.now c.in_ok-view.ensures),
    )

pub returns : goal.returns
returns g c = λ beside.
    let views = views_in c.args.held.now in
    let catalogue = c.args.catalog.now in
    let kept = kept_of catalogue views in
    let name = c.args.name.now in
    let count = c.in_ok-count.count in
    let view = c.in_ok-view.view.now in
    let rows = rows_in catalogue view in
    let old = record beside { out = g.O.Sink.state c.args.out.now } in
    let new = record beside { out = g.O.Sink.state c.put_first.new.out } in
    Stepped-bound (λ rows. lines_step (rank_lines 1 rows) kept) (fetched_rows kept c.args.count.now name) (take count rows) kept c.put_first.result old new
    (inl (sym (fetched catalogue views c.args.count.now name count (counted c.args.count.now (Ok count) (search rules) c.in_ok-count.ensures)
    ∙ ap (fetched_by catalogue count) (view-found name.text views view c.in_ok-view.ensures))))
    (Stepped-lines (rank_lines 1 (take count rows)) kept c.put_first.result old new (c.put_first.ensures beside))

pub returns-in_err-view : goal.returns-in_err-view
returns-in_err-view g c = λ beside.
    let views = views_in c.args.held.now in
    let catalogue = c.args.catalog.now in
    let kept = kept_of catalogue views in
    let name = c.args.name.now in
    let count = c.in_ok-count.count in
    let fault = c.in_err-view.field-0.0 in
    rw (given-err c.from_residual-in_err-view.result fault c.from_residual-in_err-view.ensures)
    (Stepped-refused (λ rows. lines_step (rank_lines 1 rows) kept) (fetched_rows kept c.args.count.now name) fault kept (record beside { out = g.O.Sink.state c.args.out.now })
    (subst (λ found. Gives Memory found (Err fault)) (sym (fetched catalogue views c.args.count.now name count (counted c.args.count.now (Ok count) (search rules) c.in_ok-count.ensures)))
    (none-found catalogue count (view_named name.text views) fault c.in_err-view.ensures)))

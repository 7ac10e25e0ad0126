use Rattle.std.proofs.Common.{◌≡◌, ◌∙◌, ℕ, ℤ, ap, rules, subst, sym}
use Rattle.std.specs.Prelude.{Err, Ok, Result}
use Rattle.std.proofs.lemmas.Int.{to_z-of_z}
use mir.Syntax.{w64}
use mir.Val.{SFits, of_z, to_z}
use Rattle.rs_bind.specs.Queries.{count_of}
use Rattle.rs_typing.specs.declared.fault.BindFault.{BindFault}
use Rattle.rs_lex.specs.declared.token.Span.{Span}
use Rattle.rs_value.proofs.ResultFacts.{given-err}
use Rattle.rs_statement.specs.Parts.Session.{CanAllBeAsked, CanBeAsked, next_of, open_cursor, state_of}
use Rattle.rs_statement.specs.Session.{fetched_cursor, fetched_step}
use Rattle.rs_statement.specs.Statements.{bind_fault}
use Rattle.rs_statement.proofs.EntryFacts.{each-found, each-set, is_key}
use Rattle.rs_statement.proofs.SessionFacts.{cursor-none, cursor-some}
use Rattle.rs_statement.proofs.SessionSteps.{Fetched-rows, fetched-cursors, fetched-known, fetched-refused, fetched-unknown, if-ok-map}
use Rattle.rs_statement.proofs.StepFacts.{Stepped-bound, Stepped-refused}
use Rattle.rs_statement.proofs.session.fetch.Goals as goal

-- what is counted of a number that was handed on
counted : (count : ℤ × Span) (result : Result ℕ BindFault) → SFits w64 count.0 → result ≡ count_of (to_z w64 (of_z w64 count.0), count.1) → result ≡ count_of count
counted count result fits e = e ∙ ap (λ n. count_of (n, count.1)) (to_z-of_z w64 count.0 fits)

pub returns-in_err-count : goal.returns-in_err-count
returns-in_err-count g c =
    let old = g.W.Host.state c.args.host.now in
    let state = state_of c.args.catalog.now c.args.session.now.cursors.held.entries in
    rw (given-err c.from_residual.result (bind_fault c.in_err-count.field-0.0) c.from_residual.ensures) (record {
      puts = Stepped-refused (fetched_step old.scorer.answer state) (fetched_cursor state c.args.count.now c.args.name.now) (bind_fault c.in_err-count.field-0.0) state old
          (fetched-refused state c.args.count.now c.args.name.now c.in_err-count.field-0.0 (counted c.args.count.now (Err c.in_err-count.field-0.0) (search rules) c.in_err-count.ensures));
      asked = tt;
    })

pub fetch_rows-requires : goal.fetch_rows-requires
fetch_rows-requires g c =
    each-found (CanBeAsked (g.W.Host.state c.args.host.now).scorer.answer c.args.catalog.now) (is_key c.args.name.now.text) c.args.session.now.cursors.held.entries c.in-Some.held.now c.requires
    (sym c.in-Some.ensures.value)

pub returns-in-Some : goal.returns-in-Some
returns-in-Some g c =
    let old = g.W.Host.state c.args.host.now in
    let answer = old.scorer.answer in
    let catalogue = c.args.catalog.now in
    let entries = c.args.session.now.cursors.held.entries in
    let state = state_of catalogue entries in
    let name = c.args.name.now in
    let count = c.in_ok-count.count in
    let before = c.in-Some.held.now in
    let after = c.fetch_rows.new.held in
    let written = (c.named_mut.follows.lender after).held.entries in
    let set = (c.named_mut.follows.holds after).0 in
    let found = sym c.in-Some.ensures.value in record {
      puts = Stepped-bound (fetched_step answer state) (fetched_cursor state c.args.count.now name) (open_cursor (name.text, before), count) (state_of catalogue written) c.fetch_rows.result old _
          (fetched-known state c.args.count.now name count (open_cursor (name.text, before)) (counted c.args.count.now (Ok count) (search rules) c.in_ok-count.ensures) (cursor-some name.text entries before found))
          (Fetched-rows answer catalogue entries written name.text count c.fetch_rows.result old _ before
          (fetched-cursors name.text (next_of catalogue answer before count) entries written before after c.fetch_rows.result c.named_mut.ensures.unique found set c.fetch_rows.ensures.source
          c.fetch_rows.ensures.count)
          c.fetch_rows.ensures.puts);
      asked = if-ok-map c.fetch_rows.result (CanBeAsked answer catalogue after) (CanAllBeAsked answer catalogue written)
          (λ one. subst (CanAllBeAsked answer catalogue) (sym set) (each-set (CanBeAsked answer catalogue) (is_key name.text) entries after c.requires one)) c.fetch_rows.ensures.asked;
    }

pub returns-in-None : goal.returns-in-None
returns-in-None g c =
    let old = g.W.Host.state c.args.host.now in
    let catalogue = c.args.catalog.now in
    let entries = c.args.session.now.cursors.held.entries in
    let state = state_of catalogue entries in
    let name = c.args.name.now in record {
      puts = Stepped-refused (fetched_step old.scorer.answer state) (fetched_cursor state c.args.count.now name) c.session_fault.result (state_of catalogue (c.named_mut.follows.lender-at-none).held.entries) old
          (fetched-unknown state c.args.count.now name c.in_ok-count.count c.session_fault.result (counted c.args.count.now (Ok c.in_ok-count.count) (search rules) c.in_ok-count.ensures) (cursor-none name.text entries (sym c.in-None.ensures.value))
          c.session_fault.ensures);
      asked = tt;
    }

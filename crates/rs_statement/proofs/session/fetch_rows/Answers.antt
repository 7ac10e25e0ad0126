use Rattle.std.proofs.Common.{◌≡◌, ◌≤◌, ◌+◌, ℕ, List, arith, drop, length, refl, suc, subst, sym, take}
use Rattle.std.specs.Prelude.{IfOk}
use Rattle.rs_catalog.specs.Snapshot.{HaveRows, snapshot}
use Rattle.rs_exec.specs.Cursors.{StandsFor, asks_of}
use Rattle.rs_statement.specs.Lines.{rank_lines}
use Rattle.rs_statement.specs.Parts.Session.{IsAskedMore, asked_of, next_of, next_of_cursor, source_of, wanted_step}
use Rattle.rs_statement.specs.Parts.Steps.{Ran, Stepped}
use Rattle.rs_events.specs.Run.{lines_run}
use Rattle.rs_statement.specs.Session.{ByPlan, next_rows}
use Rattle.rs_statement.specs.declared.session.CursorRows.TheVariants as held
use Rattle.rs_statement.proofs.SessionSteps.{if-ok-map}
use Rattle.rs_events.proofs.SteppedFacts.{Stepped-lines}
use Rattle.rs_statement.proofs.session.fetch_rows.Goals as goal

pub fetch_seen-requires : goal.fetch_seen-requires
fetch_seen-requires g c =
    let answer = (g.W.Host.state c.args.host.now).scorer.answer in
    let catalogue = c.args.catalog.now in
    let asked = rw c.in-Asked.is at c.requires in record {
      have = subst (λ (slice : List ℕ). HaveRows slice catalogue.tables) (sym c.deref.ensures.value) asked.0;
      stands = subst (λ (slice : List ℕ). StandsFor (snapshot slice catalogue) answer c.in-Asked.cursor) (sym c.deref.ensures.value) asked.1;
    }

pub returns-in-Asked : goal.returns-in-Asked
returns-in-Asked g c =
    let answer = (g.W.Host.state c.args.host.now).scorer.answer in
    let catalogue = c.args.catalog.now in
    let count = c.args.count in
    let cursor = c.in-Asked.cursor in
    let sizes = c.in-Asked.sizes in
    let seen = snapshot sizes.items catalogue in
    let next = c.fetch_seen.new.cursor in
    let result = c.fetch_seen.result in
    let old = g.W.Host.state c.args.host.now in
    let new = g.W.Host.state c.fetch_seen.new.host in
    let asks = next_of_cursor seen answer cursor count in
    let counted = subst (λ (slice : List ℕ). IfOk result (λ _. IsAskedMore cursor (next_of_cursor (snapshot slice catalogue) answer cursor count) next)) c.deref.ensures.value c.fetch_seen.ensures.count in
    let have = (rw c.in-Asked.is at c.requires).0 in record {
      puts = rw c.in-Asked.is (subst (λ (slice : List ℕ). Stepped (λ step. step ≡ wanted_step (snapshot slice catalogue) answer cursor count) (snapshot slice catalogue) result old new)
          c.deref.ensures.value c.fetch_seen.ensures.puts);
      source = if-ok-map result (IsAskedMore cursor asks next) (source_of (held.Asked next sizes) ≡ source_of c.args.held.now)
          (λ more. subst (λ kept. source_of (held.Asked next sizes) ≡ source_of kept) (sym c.in-Asked.is) (λ i. ByPlan (more.query_is i) (more.plan_is i) sizes.items)) counted;
      count = if-ok-map result (IsAskedMore cursor asks next) (asks_of next ≡ asked_of c.args.held.now + next_of catalogue answer c.args.held.now count)
          (λ more. subst (λ kept. asks_of next ≡ asked_of kept + next_of catalogue answer kept count) (sym c.in-Asked.is) more.asks_are) counted;
      asked = if-ok-map result (StandsFor seen answer next) (HaveRows sizes.items catalogue.tables × StandsFor seen answer next) (λ stands. (have, stands))
          (subst (λ (slice : List ℕ). IfOk result (λ _. StandsFor (snapshot slice catalogue) answer next)) c.deref.ensures.value c.fetch_seen.ensures.stands);
    }

pub fetch_ready-requires : goal.fetch_ready-requires
fetch_ready-requires g c = subst (λ rows. c.in-Ready.given ≤ length rows) (sym c.deref-in-Ready.ensures.value) (rw c.in-Ready.is at c.requires)

pub returns-in-Ready : goal.returns-in-Ready
returns-in-Ready g c =
    let old = g.W.Host.state c.args.host.now in
    let answer = old.scorer.answer in
    let catalogue = c.args.catalog.now in
    let count = c.args.count in
    let rows = c.in-Ready.rows in
    let given = c.in-Ready.given in
    let next = c.fetch_ready.new.given in
    let result = c.fetch_ready.result in
    let within : given ≤ length rows.items = rw c.in-Ready.is at c.requires in
    let more = subst (λ slice. IfOk result (λ _. next ≡ given + next_rows slice given count)) c.deref-in-Ready.ensures.value c.fetch_ready.ensures.count in record {
      puts =
          let new = record old { out = g.W.Out.Sink.state c.fetch_ready.new.out } in
          rw (c.in-Ready.is, g.met.W.Host.after_out) (Stepped-lines (rank_lines (suc given) (take (next_rows rows.items given count) (drop given rows.items))) catalogue result old new
          (subst (λ slice. Ran (lines_run (rank_lines (suc given) (take (next_rows slice given count) (drop given slice)))) result old new) c.deref-in-Ready.ensures.value
          (rw c.out.ensures.value at c.fetch_ready.ensures.puts old)));
      source = if-ok-map result (next ≡ given + next_rows rows.items given count) (source_of (held.Ready rows next) ≡ source_of c.args.held.now)
          (λ _. subst (λ kept. source_of (held.Ready rows next) ≡ source_of kept) (sym c.in-Ready.is) refl) more;
      count = if-ok-map result (next ≡ given + next_rows rows.items given count) (next ≡ asked_of c.args.held.now + next_of catalogue answer c.args.held.now count)
          (λ is. subst (λ kept. next ≡ asked_of kept + next_of catalogue answer kept count) (sym c.in-Ready.is) is) more;
      asked = if-ok-map result (next ≡ given + next_rows rows.items given count) (next ≤ length rows.items) (λ is. omega arith) more;
    }

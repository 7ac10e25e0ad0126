use Rattle.std.proofs.Common.{◌≡◌, ◌+◌, ◌-◌, ap, arith, subst, suc, sym}
use Rattle.std.specs.Prelude.{Ok}
use Rattle.rs_value.proofs.ResultFacts.{given-err}
use Rattle.rs_exec.specs.Asking.{world_of}
use Rattle.rs_exec.specs.Cursors.{IsOver, StandsFor, asks_after, asks_of, plan_of}
use Rattle.rs_statement.specs.Parts.Asks.{IsAt}
use Rattle.rs_statement.specs.Parts.Session.{wanted_step}
use Rattle.rs_events.proofs.SoFar.{SoFar, SoFar-start}
use Rattle.rs_statement.proofs.WantedSteps.{IsFetching, Wanted-broken, Wanted-done, Wanted-more, fetching-all, fetching-next, fetching-start, none-next, none-wanted}
use Rattle.rs_statement.proofs.session.fetch_asked.Goals as goal

pub loop-init : goal.loop-init
loop-init g c =
    let answer = (g.W.Host.state c.args.host.now).scorer.answer in
    let catalogue = c.args.catalog.now in
    let cursor = c.args.cursor.now in
    let count = c.args.count in
    let all : count ≡ count - 0 = omega arith in record {
      so_far =
          let old = g.W.Host.state c.args.host.now in
          subst (λ left. SoFar (wanted_step catalogue answer cursor count) (wanted_step catalogue answer cursor left) old old) all (SoFar-start (wanted_step catalogue answer cursor count) old);
      fetching = subst (IsFetching catalogue answer cursor count cursor) all (fetching-start catalogue answer cursor count c.requires);
    }

pub put_next-requires : goal.put_next-requires
put_next-requires g c =
    record { stands = subst (λ answer. StandsFor c.args.catalog.now answer c.loop.cursor) (sym c.loop.invariant.so_far.has.keeps.scorer.answer) c.loop.invariant.fetching.stands }

pub returns-in_err-put_next : goal.returns-in_err-put_next
returns-in_err-put_next g c =
    let answer = (g.W.Host.state c.args.host.now).scorer.answer in
    let catalogue = c.args.catalog.now in
    let whole = wanted_step catalogue answer c.args.cursor.now c.args.count in
    let rest = c.args.count - (c.loop.counter + 1) in
    let same : c.args.count - c.loop.counter ≡ suc rest = omega (arith, c.loop-test.true) in
    rw (given-err c.from_residual.result c.in_err-put_next.field-0.0 c.from_residual.ensures) (record {
      puts =
          let old = g.W.Host.state c.args.host.now in
          let middle = g.W.Host.state c.loop.host in
          let new = g.W.Host.state c.put_next.new.host in
          let so_far = c.loop.invariant.so_far in
          Wanted-broken catalogue answer whole old middle new c.loop.cursor rest c.loop.invariant.fetching.stands
          (subst (λ left. SoFar whole (wanted_step catalogue answer c.loop.cursor left) old middle) same so_far) so_far.has.keeps.scorer.answer c.in_err-put_next.field-0.0
          c.in_err-put_next.ensures.puts;
      count = tt;
      stands = tt;
    })

pub loop-preserved : goal.loop-preserved
loop-preserved g c =
    let answer = (g.W.Host.state c.args.host.now).scorer.answer in
    let catalogue = c.args.catalog.now in
    let whole = wanted_step catalogue answer c.args.cursor.now c.args.count in
    let cursor = c.loop.cursor in
    let next = c.put_next.new.cursor in
    let rest = c.args.count - (c.loop.counter + 1) in
    let same : c.args.count - c.loop.counter ≡ suc rest = omega (arith, c.loop-test.true) in
    let at = c.loop.invariant.so_far.has.keeps.scorer.answer in
    let called = subst (λ a. IsAt cursor.query (plan_of cursor) (asks_after (world_of catalogue a cursor.query) (plan_of cursor) (asks_of cursor)) next) at c.in_ok-put_next.ensures.count in
    let stands = subst (λ a. StandsFor catalogue a next) at c.in_ok-put_next.ensures.stands in record {
      so_far =
          let old = g.W.Host.state c.args.host.now in
          let middle = g.W.Host.state c.loop.host in
          let new = g.W.Host.state c.put_next.new.host in
          Wanted-more catalogue answer whole old middle new cursor rest c.loop.invariant.fetching.stands
          (subst (λ left. SoFar whole (wanted_step catalogue answer cursor left) old middle) same c.loop.invariant.so_far) at next called c.in_ok-put_next.ensures.puts;
      fetching = fetching-next catalogue answer c.args.cursor.now c.args.count cursor next rest
          (subst (IsFetching catalogue answer c.args.cursor.now c.args.count cursor) same c.loop.invariant.fetching) called stands;
    }

pub returns : goal.returns
returns g c =
    let answer = (g.W.Host.state c.args.host.now).scorer.answer in
    let catalogue = c.args.catalog.now in
    let cursor = c.loop.cursor in
    let whole = wanted_step catalogue answer c.args.cursor.now c.args.count in
    let all : c.args.count - c.loop.counter ≡ 0 = omega (arith, c.loop-test.false) in
    let fetching = subst (IsFetching catalogue answer c.args.cursor.now c.args.count cursor) all c.loop.invariant.fetching in record {
      puts =
          let old = g.W.Host.state c.args.host.now in
          let new = g.W.Host.state c.loop.host in
          Wanted-done catalogue answer whole old new cursor 0 (none-wanted catalogue answer cursor)
          (subst (λ left. SoFar whole (wanted_step catalogue answer cursor left) old new) all c.loop.invariant.so_far);
      count = fetching-all catalogue answer c.args.cursor.now c.args.count cursor 0 fetching (none-wanted catalogue answer cursor);
      stands = c.loop.invariant.fetching.stands;
    }

pub returns-then-not-branch : goal.returns-then-not-branch
returns-then-not-branch g c =
    let answer = (g.W.Host.state c.args.host.now).scorer.answer in
    let catalogue = c.args.catalog.now in
    let whole = wanted_step catalogue answer c.args.cursor.now c.args.count in
    let cursor = c.loop.cursor in
    let next = c.put_next.new.cursor in
    let rest = c.args.count - (c.loop.counter + 1) in
    let same : c.args.count - c.loop.counter ≡ suc rest = omega (arith, c.loop-test.true) in
    let at = c.loop.invariant.so_far.has.keeps.scorer.answer in
    let called = subst (λ a. IsAt cursor.query (plan_of cursor) (asks_after (world_of catalogue a cursor.query) (plan_of cursor) (asks_of cursor)) next) at c.in_ok-put_next.ensures.count in
    let stands = subst (λ a. StandsFor catalogue a next) at c.in_ok-put_next.ensures.stands in
    let none = none-next catalogue answer next rest (subst (λ a. IsOver catalogue a next) at (c.in_ok-put_next.ensures.over (ap Ok c.if-not-branch.true))) in record {
      puts =
          let old = g.W.Host.state c.args.host.now in
          let middle = g.W.Host.state c.loop.host in
          let new = g.W.Host.state c.put_next.new.host in
          Wanted-done catalogue answer whole old new next rest none
          (Wanted-more catalogue answer whole old middle new cursor rest c.loop.invariant.fetching.stands
          (subst (λ left. SoFar whole (wanted_step catalogue answer cursor left) old middle) same c.loop.invariant.so_far) at next called c.in_ok-put_next.ensures.puts);
      count = fetching-all catalogue answer c.args.cursor.now c.args.count next rest
          (fetching-next catalogue answer c.args.cursor.now c.args.count cursor next rest
          (subst (IsFetching catalogue answer c.args.cursor.now c.args.count cursor) same c.loop.invariant.fetching) called stands) none;
      stands = stands;
    }

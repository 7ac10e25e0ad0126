use Rattle.std.proofs.Common.{false, true, subst, sym}
use Rattle.std.specs.Prelude.{None}
use Rattle.rs_value.specs.Outside.{untold}
use Rattle.rs_outside.specs.DirFiles.{disk_state}
use Rattle.rs_value.proofs.ResultFacts.{given-err}
use Rattle.rs_exec.specs.Cursors.{StandsFor}
use Rattle.rs_statement.specs.Parts.Asks.{AskedOnce, left_of}
use Rattle.rs_events.specs.Sequence.{silent}
use Rattle.rs_events.specs.Environment.{environment}
use Rattle.rs_statement.proofs.AnalyzeSteps.{Silent-ended, asked-more, goes-all, goes-more, goes-on, left-once, silent-then}
use Rattle.rs_statement.proofs.LeftSteps.{Left-broken, Left-more, fewer-asks}
use Rattle.rs_events.proofs.SoFar.{SoFar-start}
use Rattle.rs_statement.proofs.analyzed.ask_all.Goals as goal

pub loop-init : goal.loop-init
loop-init g c =
    let answer = (g.S.Scorer.state c.args.scorer.now).answer in record {
      so_far = λ beside. SoFar-start (silent (left_of c.args.catalog.now answer c.args.cursor.now)) (record beside { scorer = g.S.Scorer.state c.args.scorer.now });
      goes_on = goes-on c.args.catalog.now answer c.args.cursor.now c.requires;
    }

pub ask_next-requires : goal.ask_next-requires
ask_next-requires g c =
    let same = (c.loop.invariant.so_far (environment (disk_state (record { faults = 0; last = None })) (g.S.Scorer.state c.args.scorer.now) (untold 0) (untold 0))).has.keeps.scorer.answer in
    subst (λ answer. StandsFor c.args.catalog.now answer c.loop.cursor) (sym same) c.loop.invariant.goes_on.stands

pub returns-in_err-ask_next : goal.returns-in_err-ask_next
returns-in_err-ask_next g c =
    let catalogue = c.args.catalog.now in
    let answer = (g.S.Scorer.state c.args.scorer.now).answer in
    rw (given-err c.from_residual.result c.in_err-ask_next.field-0.0 c.from_residual.ensures) (record {
      asks = λ beside. Left-broken silent silent-then catalogue answer (silent (left_of catalogue answer c.args.cursor.now)) c.loop.cursor
          (record beside { scorer = g.S.Scorer.state c.args.scorer.now }) (record beside { scorer = g.S.Scorer.state c.loop.scorer })
          (record beside { scorer = g.S.Scorer.state c.ask_next.new.scorer }) (c.loop.invariant.so_far beside) (c.loop.invariant.so_far beside).has.keeps.scorer.answer
          c.loop.invariant.goes_on.stands c.in_err-ask_next.field-0.0 (c.in_err-ask_next.ensures.asks beside);
      all = tt;
      stands = tt;
    })

pub loop-smaller : goal.loop-smaller
loop-smaller g c =
    let catalogue = c.args.catalog.now in
    let answer = (g.S.Scorer.state c.args.scorer.now).answer in
    let cursor = c.loop.cursor in
    let next = c.ask_next.new.cursor in
    let same = (c.loop.invariant.so_far (environment (disk_state (record { faults = 0; last = None })) (g.S.Scorer.state c.args.scorer.now) (untold 0) (untold 0))).has.keeps.scorer.answer in
    let asked = subst (λ answer. AskedOnce catalogue answer cursor true next) same
    (subst (λ more. AskedOnce catalogue (g.S.Scorer.state c.loop.scorer).answer cursor more next) c.if-branch.true c.in_ok-ask_next.ensures.next) in
    fewer-asks catalogue answer cursor next (asked-more catalogue answer cursor next c.args.cursor.now c.loop.invariant.goes_on asked) asked.stands

pub loop-preserved : goal.loop-preserved
loop-preserved g c =
    let catalogue = c.args.catalog.now in
    let answer = (g.S.Scorer.state c.args.scorer.now).answer in
    let here = (g.S.Scorer.state c.loop.scorer).answer in
    let cursor = c.loop.cursor in
    let next = c.ask_next.new.cursor in
    let goes_on = c.loop.invariant.goes_on in
    let same = (c.loop.invariant.so_far (environment (disk_state (record { faults = 0; last = None })) (g.S.Scorer.state c.args.scorer.now) (untold 0) (untold 0))).has.keeps.scorer.answer in
    let once = subst (λ more. AskedOnce catalogue here cursor more next) c.if-branch.true c.in_ok-ask_next.ensures.next in record {
      so_far = λ beside. Left-more silent silent-then catalogue answer (silent (left_of catalogue answer c.args.cursor.now)) cursor
          (record beside { scorer = g.S.Scorer.state c.args.scorer.now }) (record beside { scorer = g.S.Scorer.state c.loop.scorer })
          (record beside { scorer = g.S.Scorer.state c.ask_next.new.scorer }) (c.loop.invariant.so_far beside) (c.loop.invariant.so_far beside).has.keeps.scorer.answer
          next (left-once catalogue here cursor next (subst (λ a. StandsFor catalogue a cursor) (sym same) goes_on.stands) true once) (c.in_ok-ask_next.ensures.asks beside);
      goes_on = goes-more catalogue answer cursor next c.args.cursor.now goes_on (subst (λ a. AskedOnce catalogue a cursor true next) same once);
    }

pub returns : goal.returns
returns g c =
    let catalogue = c.args.catalog.now in
    let answer = (g.S.Scorer.state c.args.scorer.now).answer in
    let here = (g.S.Scorer.state c.loop.scorer).answer in
    let cursor = c.loop.cursor in
    let next = c.ask_next.new.cursor in
    let whole = silent (left_of catalogue answer c.args.cursor.now) in
    let goes_on = c.loop.invariant.goes_on in
    let same = (c.loop.invariant.so_far (environment (disk_state (record { faults = 0; last = None })) (g.S.Scorer.state c.args.scorer.now) (untold 0) (untold 0))).has.keeps.scorer.answer in
    let once = subst (λ more. AskedOnce catalogue here cursor more next) c.if-branch.false c.in_ok-ask_next.ensures.next in
    let asked = subst (λ a. AskedOnce catalogue a cursor false next) same once in record {
      asks = λ beside.
          let old = record beside { scorer = g.S.Scorer.state c.args.scorer.now } in
          let new = record beside { scorer = g.S.Scorer.state c.ask_next.new.scorer } in
          Silent-ended catalogue answer cursor next asked whole old new
          (Left-more silent silent-then catalogue answer whole cursor old (record beside { scorer = g.S.Scorer.state c.loop.scorer }) new
          (c.loop.invariant.so_far beside) (c.loop.invariant.so_far beside).has.keeps.scorer.answer
          next (left-once catalogue here cursor next (subst (λ a. StandsFor catalogue a cursor) (sym same) goes_on.stands) false once) (c.in_ok-ask_next.ensures.asks beside));
      all = goes-all catalogue answer cursor next c.args.cursor.now goes_on asked;
      stands = asked.stands;
    }

use Rattle.std.proofs.Common.{ap, refl, subst, sym}
use Rattle.std.specs.Prelude.{Ok}
use Rattle.rs_value.proofs.ResultFacts.{given-err}
use Rattle.rs_exec.specs.Cursors.{StandsFor}
use Rattle.rs_statement.specs.Parts.Asks.{left_of}
use Rattle.rs_statement.proofs.LeftSteps.{Left-broken, Left-ended, Left-more, as_they_are, fewer-asks}
use Rattle.rs_events.proofs.SoFar.{SoFar-start}
use Rattle.rs_statement.proofs.planned.put_all.Goals as goal

pub loop-lines-init : goal.loop-lines-init
loop-lines-init g c =
    let old = g.W.Host.state c.args.host.now in
    record { so_far = SoFar-start (left_of c.args.catalog.now old.scorer.answer c.args.cursor.now) old; stands = c.requires.stands }

pub put_next-requires : goal.put_next-requires
put_next-requires g c = record {
  stands = subst (λ answer. StandsFor c.args.catalog.now answer c.loop-lines.cursor) (sym c.loop-lines.invariant.so_far.has.keeps.scorer.answer) c.loop-lines.invariant.stands;
}

pub returns-in_err-put_next : goal.returns-in_err-put_next
returns-in_err-put_next g c =
    let old = g.W.Host.state c.args.host.now in
    let so_far = c.loop-lines.invariant.so_far in
    rw (given-err c.from_residual.result c.in_err-put_next.field-0.0 c.from_residual.ensures) (
    Left-broken as_they_are (λ first rest. refl) c.args.catalog.now old.scorer.answer (left_of c.args.catalog.now old.scorer.answer c.args.cursor.now) c.loop-lines.cursor old _ _
    so_far so_far.has.keeps.scorer.answer c.loop-lines.invariant.stands c.in_err-put_next.field-0.0 c.in_err-put_next.ensures.puts)

pub loop-lines-smaller : goal.loop-lines-smaller
loop-lines-smaller g c =
    fewer-asks c.args.catalog.now (g.W.Host.state c.args.host.now).scorer.answer c.loop-lines.cursor c.put_next.new.cursor (c.in_ok-put_next.ensures.more (ap Ok c.if-branch.true))
    (subst (λ answer. StandsFor c.args.catalog.now answer c.put_next.new.cursor) c.loop-lines.invariant.so_far.has.keeps.scorer.answer c.in_ok-put_next.ensures.stands)

pub loop-lines-preserved : goal.loop-lines-preserved
loop-lines-preserved g c =
    let old = g.W.Host.state c.args.host.now in
    let so_far = c.loop-lines.invariant.so_far in record {
      so_far = Left-more as_they_are (λ first rest. refl) c.args.catalog.now old.scorer.answer (left_of c.args.catalog.now old.scorer.answer c.args.cursor.now) c.loop-lines.cursor old _ _
          so_far so_far.has.keeps.scorer.answer c.put_next.new.cursor (c.in_ok-put_next.ensures.left (ap Ok c.if-branch.true)) c.in_ok-put_next.ensures.puts;
      stands = subst (λ answer. StandsFor c.args.catalog.now answer c.put_next.new.cursor) so_far.has.keeps.scorer.answer c.in_ok-put_next.ensures.stands;
    }

pub returns : goal.returns
returns g c =
    let old = g.W.Host.state c.args.host.now in
    let so_far = c.loop-lines.invariant.so_far in
    Left-ended as_they_are (λ first rest. refl) c.args.catalog.now old.scorer.answer (left_of c.args.catalog.now old.scorer.answer c.args.cursor.now) c.loop-lines.cursor old _ _
    so_far so_far.has.keeps.scorer.answer (c.in_ok-put_next.ensures.end (ap Ok c.if-branch.false)) c.in_ok-put_next.ensures.puts

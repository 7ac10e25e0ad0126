-- One round more where the first row held isn't reached; else the depth of the next answer is.
use Rattle.std.proofs.Common.{Option, refl, sym, ◌∙◌, subst, arith}
use Rattle.rs_rank.specs.declared.key.Key.{Key}
use Rattle.rs_ta.specs.Rounds.{Rounded, input_with}
use Rattle.rs_ta.proofs.ExtensionFacts.{on_err_from}
use Rattle.rs_ta.proofs.AdvanceFacts.{rounding-between, rounding-end, rounding-input, rounding-nearer, rounding-refused, rounding-step, rounding-through}
use Rattle.rs_ta.proofs.round.advance.Goals as goal

pub loop-rows-init : goal.loop-rows-init
loop-rows-init g c = record { lists_are = refl; given_are = refl; rise = omega arith; can = c.requires.can }

pub round-requires-clause-input : goal.round-requires-clause-input
round-requires-clause-input g c =
    rounding-input c.args.terms.now (g.L.Lists.state c.args.lists.now) (g.T.RowTest.truth c.args.test.now) (g.T.RowTest.rows c.args.test.now) c.requires.input (g.L.Lists.state c.loop-rows.lists) c.loop-rows.invariant.lists_are

pub round-requires-clause-between : goal.round-requires-clause-between
round-requires-clause-between g c =
    rounding-between c.args.terms.now (g.L.Lists.state c.args.lists.now) (g.T.RowTest.truth c.args.test.now) (g.T.RowTest.rows c.args.test.now) c.requires.input c.args.rows.now c.loop-rows.rows c.loop-rows.last (g.L.Lists.state c.loop-rows.lists) c.loop-rows.invariant

pub loop-rows-preserved : goal.loop-rows-preserved
loop-rows-preserved g c =
    rounding-step c.args.terms.now (g.L.Lists.state c.args.lists.now) (g.T.RowTest.truth c.args.test.now) (g.T.RowTest.rows c.args.test.now) c.requires.input
    c.args.rows.now c.loop-rows.rows c.round.new.rows c.loop-rows.last (g.L.Lists.state c.loop-rows.lists) (g.L.Lists.state c.round.new.lists) c.in-Some.key c.loop-rows.invariant
    (sym c.is_reached.ensures ∙ c.loop-rows-test.true) c.in_ok-key.ensures.lists
    (subst (λ (key : Option Key). Rounded (input_with c.args.terms.now (g.L.Lists.state c.loop-rows.lists) (g.T.RowTest.truth c.args.test.now)) c.loop-rows.rows c.round.new.rows (g.L.Lists.state c.round.new.lists) key)
    c.in-Some.is c.in_ok-key.ensures.ok)

pub loop-rows-smaller : goal.loop-rows-smaller
loop-rows-smaller g c =
    rounding-nearer c.args.terms.now (g.L.Lists.state c.args.lists.now) (g.T.RowTest.truth c.args.test.now) (g.T.RowTest.rows c.args.test.now) c.requires.input
    c.args.rows.now c.loop-rows.rows c.round.new.rows c.loop-rows.last (g.L.Lists.state c.loop-rows.lists) (g.L.Lists.state c.round.new.lists) c.in-Some.key c.loop-rows.invariant
    c.in_ok-key.ensures.lists
    (subst (λ (key : Option Key). Rounded (input_with c.args.terms.now (g.L.Lists.state c.loop-rows.lists) (g.T.RowTest.truth c.args.test.now)) c.loop-rows.rows c.round.new.rows (g.L.Lists.state c.round.new.lists) key)
    c.in-Some.is c.in_ok-key.ensures.ok)

pub returns-in-None-clause-ok : goal.returns-in-None-clause-ok
returns-in-None-clause-ok g c =
    rounding-end c.args.terms.now (g.L.Lists.state c.args.lists.now) (g.T.RowTest.truth c.args.test.now) (g.T.RowTest.rows c.args.test.now) c.requires.input
    c.args.rows.now c.loop-rows.rows c.round.new.rows c.loop-rows.last (g.L.Lists.state c.loop-rows.lists) (g.L.Lists.state c.round.new.lists) c.loop-rows.invariant
    (subst (λ (key : Option Key). Rounded (input_with c.args.terms.now (g.L.Lists.state c.loop-rows.lists) (g.T.RowTest.truth c.args.test.now)) c.loop-rows.rows c.round.new.rows (g.L.Lists.state c.round.new.lists) key)
    c.in-None.is c.in_ok-key.ensures.ok)

pub returns-clause-ok : goal.returns-clause-ok
returns-clause-ok g c =
    rounding-through c.args.terms.now (g.L.Lists.state c.args.lists.now) (g.T.RowTest.truth c.args.test.now) (g.T.RowTest.rows c.args.test.now) c.requires.input
    c.args.rows.now c.loop-rows.rows c.loop-rows.last (g.L.Lists.state c.loop-rows.lists) c.loop-rows.invariant (sym c.is_reached.ensures ∙ c.loop-rows-test.false)

pub returns-in_err-key-clause-err : goal.returns-in_err-key-clause-err
returns-in_err-key-clause-err g c =
    on_err_from c.from_residual.result
    (rounding-refused c.args.terms.now (g.L.Lists.state c.args.lists.now) (g.T.RowTest.truth c.args.test.now) (g.T.RowTest.rows c.args.test.now) c.requires.input
    c.args.rows.now c.loop-rows.rows c.loop-rows.last (g.L.Lists.state c.loop-rows.lists) (g.L.Lists.state c.round.new.lists) c.loop-rows.invariant
    (sym c.is_reached.ensures ∙ c.loop-rows-test.true) c.in_err-key.ensures.err)

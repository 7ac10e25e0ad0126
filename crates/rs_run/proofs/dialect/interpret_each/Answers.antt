use Rattle.std.proofs.Common.{ℕ, ◌≡◌, ◌∙◌, refl, sym, subst, suc, ◌+◌, drop, arith}
use Rattle.std.specs.Prelude.{Err, Ok}
use Rattle.rs_value.proofs.ResultFacts.{given-err}
use Rattle.rs_syntax.specs.Syntax.{command_of, commands_of}
use Rattle.rs_outside.specs.Files.{finds_in}
use Rattle.rs_events.proofs.LoopFacts.{Between, Between-next, Between-start, Runs-all, Runs-stops, drop-all, drop-at}
use Rattle.rs_statement.proofs.StatementFacts.{written-at}
use Rattle.rs_run.specs.Numbered.{DoesNext, Numbered}
use Rattle.rs_run.proofs.NumberedFacts.{Stepped-next, some-next}
use Rattle.rs_run.proofs.dialect.interpret_each.Goals as goal

-- the state in front of the statement of this number
abbrev at : {K : Type 0} → ℕ → K → Numbered K
at number kept = record { number = number; kept = kept }

pub loop-index-init : goal.loop-index-init
loop-index-init g c =
    let old = g.W.Host.state c.args.host.now in
    let does = DoesNext (g.D.Dialect.does (g.D.Dialect.way c.args.dialect.now) (finds_in old.files.contents) old.scorer.answer) in
    let first = at (c.args.done + 1) (g.D.Dialect.state c.args.dialect.now) in record {
      between = subst (λ number. Between does first (commands_of c.args.statements.now) 0 (at number (g.D.Dialect.state c.args.dialect.now)) old old) (omega arith)
          (Between-start does first (commands_of c.args.statements.now) old);
      statements_same = refl;
      way_same = refl;
      holds = c.requires.holds;
    }

pub take-requires : goal.take-requires
take-requires g c = record {
  written = written-at c.args.statements.now c.loop-index.index c.index-statements-index.result c.loop-index-test.true c.index-statements-index.is c.requires.written;
  holds = subst (λ answer. g.D.Dialect.holds answer c.loop-index.dialect) (sym c.loop-index.invariant.between.has.keeps.scorer.answer) c.loop-index.invariant.holds;
}

pub returns-in_err-take : goal.returns-in_err-take
returns-in_err-take g c =
    let old = g.W.Host.state c.args.host.now in
    let between = c.loop-index.invariant.between in
    let i = c.loop-index.index in
    let state = g.D.Dialect.state c.loop-index.dialect in
    let next = g.D.Dialect.state c.take.new.self in
    let does = g.D.Dialect.does (g.D.Dialect.way c.args.dialect.now) in
    let all = does (finds_in old.files.contents) old.scorer.answer in
    rw (given-err c.from_residual.result c.in_err-take.field-0.0 c.from_residual.ensures)
    (Runs-stops (DoesNext all) (at (c.args.done + 1) (g.D.Dialect.state c.args.dialect.now)) (commands_of c.args.statements.now)
    (drop (suc i) (commands_of c.args.statements.now)) (command_of c.index-statements-index.result) i (at (c.args.done + i + 1) state) (at (suc (c.args.done + i + 1)) next) old _ _ between
    (drop-at command_of c.args.statements.now i c.index-statements-index.result c.loop-index-test.true c.index-statements-index.is)
    (some-next all (c.requires.dialect.some old.files.contents old.scorer.answer)) c.in_err-take.field-0.0
    (Stepped-next does c.requires.dialect between.made (c.args.done + i + 1) (suc (c.args.done + i + 1)) state next (command_of c.index-statements-index.result)
    (Err c.in_err-take.field-0.0) old _ _ refl between.has (rw c.loop-index.invariant.way_same at c.in_err-take.ensures.does)))

pub loop-index-preserved : goal.loop-index-preserved
loop-index-preserved g c =
    let old = g.W.Host.state c.args.host.now in
    let between = c.loop-index.invariant.between in
    let i = c.loop-index.index in
    let state = g.D.Dialect.state c.loop-index.dialect in
    let next = g.D.Dialect.state c.take.new.self in
    let does = g.D.Dialect.does (g.D.Dialect.way c.args.dialect.now) in
    let number : c.args.done + (i + 1) + 1 ≡ suc (c.args.done + i + 1) = omega arith in record {
      between = Between-next (DoesNext (does (finds_in old.files.contents) old.scorer.answer)) (at (c.args.done + 1) (g.D.Dialect.state c.args.dialect.now)) (commands_of c.args.statements.now)
          (drop (suc i) (commands_of c.args.statements.now)) (command_of c.index-statements-index.result) i (at (c.args.done + i + 1) state) (at (c.args.done + (i + 1) + 1) next) old _ _ between
          (drop-at command_of c.args.statements.now i c.index-statements-index.result c.loop-index-test.true c.index-statements-index.is)
          (i + 1) (omega arith) refl
          (Stepped-next does c.requires.dialect between.made (c.args.done + i + 1) (c.args.done + (i + 1) + 1) state next (command_of c.index-statements-index.result)
          (Ok tt) old _ _ number between.has (rw c.loop-index.invariant.way_same at c.in_ok-take.ensures.does));
      statements_same = refl;
      way_same = c.in_ok-take.ensures.way ∙ c.loop-index.invariant.way_same;
      holds = subst (λ answer. g.D.Dialect.holds answer c.take.new.self) between.has.keeps.scorer.answer c.in_ok-take.ensures.holds;
    }

pub returns : goal.returns
returns g c =
    let old = g.W.Host.state c.args.host.now in
    Runs-all (DoesNext (g.D.Dialect.does (g.D.Dialect.way c.args.dialect.now) (finds_in old.files.contents) old.scorer.answer)) (at (c.args.done + 1) (g.D.Dialect.state c.args.dialect.now))
    (commands_of c.args.statements.now) c.loop-index.index (at (c.args.done + c.loop-index.index + 1) (g.D.Dialect.state c.loop-index.dialect)) old _
    (drop-all command_of c.args.statements.now c.loop-index.index c.loop-index-test.false) c.loop-index.invariant.between

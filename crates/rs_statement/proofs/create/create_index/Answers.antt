use Rattle.std.proofs.Common.{◌≡◌, ◌∙◌, ap, refl}
use Rattle.rs_value.proofs.ResultFacts.{given-err}
use Rattle.rs_syntax.specs.Syntax.{command_of}
use Rattle.rs_bind.specs.Indexes.{index_def_of}
use Rattle.rs_catalog.specs.declared.room.What.TheVariants as what
use Rattle.rs_statement.specs.declared.fault.Fault.TheVariants.{Memory}
use Rattle.rs_statement.specs.Faults.{index_fault}
use Rattle.rs_statement.specs.Statements.{index_step, refused_or, with_room}
use Rattle.rs_statement.proofs.IndexSteps.{Index-made, Index-unmade, name-for}
use Rattle.rs_statement.proofs.StepFacts.{Stepped-bound, Stepped-refused}
use Rattle.rs_events.proofs.SteppedFacts.{Stepped-no_memory}
use Rattle.rs_statement.proofs.create.create_index.Goals as goal

pub returns-in_err-def : goal.returns-in_err-def
returns-in_err-def g c = λ beside. rw (given-err c.from_residual.result c.in_err-def.field-0.0 c.from_residual.ensures) (Stepped-refused (index_step (g.S.Scorer.state c.args.scorer.now).answer c.args.catalog.now) (with_room c.args.catalog.now what.Index c.args.name.now (index_def_of c.args.catalog.now (command_of c.args.statement.now)))
    c.in_err-def.field-0.0 c.args.catalog.now (record beside { scorer = g.S.Scorer.state c.args.scorer.now }) c.in_err-def.ensures.gives)

pub returns-in_err-predicate : goal.returns-in_err-predicate
returns-in_err-predicate g c = λ beside. rw (given-err c.from_residual-in_err-predicate.result Memory c.from_residual-in_err-predicate.ensures) (Stepped-no_memory
    (λ step. step ≡ refused_or (index_step (g.S.Scorer.state c.args.scorer.now).answer c.args.catalog.now) (with_room c.args.catalog.now what.Index c.args.name.now (index_def_of c.args.catalog.now (command_of c.args.statement.now))))
    (refused_or (index_step (g.S.Scorer.state c.args.scorer.now).answer c.args.catalog.now) (with_room c.args.catalog.now what.Index c.args.name.now (index_def_of c.args.catalog.now (command_of c.args.statement.now))))
    c.args.catalog.now (record beside { scorer = g.S.Scorer.state c.args.scorer.now }) refl)

pub returns-in-Ok : goal.returns-in-Ok
returns-in-Ok g c = λ beside. Stepped-bound (index_step (g.S.Scorer.state c.args.scorer.now).answer c.args.catalog.now)
    (with_room c.args.catalog.now what.Index c.args.name.now (index_def_of c.args.catalog.now (command_of c.args.statement.now))) c.in_ok-def.def c.add_index.new.self _
    (record beside { scorer = g.S.Scorer.state c.args.scorer.now }) (record beside { scorer = g.S.Scorer.state c.add_index.new.scorer }) c.in_ok-def.ensures.gives
    (Index-made (g.S.Scorer.state c.args.scorer.now).answer c.args.catalog.now c.add_index.new.self c.in_ok-def.def (record beside { scorer = g.S.Scorer.state c.args.scorer.now })
    (g.S.Scorer.state c.add_index.new.scorer) c.in-Ok.ensures.makes)

pub returns-in-Err : goal.returns-in-Err
returns-in-Err g c = λ beside. Stepped-bound (index_step (g.S.Scorer.state c.args.scorer.now).answer c.args.catalog.now)
    (with_room c.args.catalog.now what.Index c.args.name.now (index_def_of c.args.catalog.now (command_of c.args.statement.now))) c.in_ok-def.def c.add_index.new.self _
    (record beside { scorer = g.S.Scorer.state c.args.scorer.now }) (record beside { scorer = g.S.Scorer.state c.add_index.new.scorer }) c.in_ok-def.ensures.gives
    (Index-unmade (g.S.Scorer.state c.args.scorer.now).answer c.args.catalog.now c.add_index.new.self c.in_ok-def.def (record beside { scorer = g.S.Scorer.state c.args.scorer.now })
    (g.S.Scorer.state c.add_index.new.scorer) c.in-Err.why _ c.in-Err.ensures.makes
    (c.index_fault.ensures ∙ ap (λ name. index_fault name c.in-Err.why) (c.in_ok-predicate.ensures
    ∙ name-for c.args.catalog.now c.in_ok-def.def c.predicate.result.now c.name.result.now c.predicate.ensures c.name.ensures)))

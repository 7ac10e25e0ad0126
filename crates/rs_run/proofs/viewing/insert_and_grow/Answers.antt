use Rattle.std.proofs.Common.{◌≡◌, subst, sym}
use Rattle.std.specs.Prelude.{IfOk, None}
use Rattle.rs_value.proofs.ResultFacts.{given-err}
use Rattle.rs_syntax.specs.Syntax.{command_of}
use Rattle.rs_bind.specs.Inserts.{insert_of}
use Rattle.rs_catalog.specs.IndexesHold.{IndexesHold}
use Rattle.rs_value.specs.Outside.{untold}
use Rattle.rs_outside.specs.DirFiles.{disk_state}
use Rattle.rs_expr.specs.Scoring.{ScorerState}
use Rattle.rs_events.specs.Environment.{Environment, environment}
use Rattle.rs_outside.specs.Files.{finds_in}
use Rattle.rs_statement.specs.Parts.Steps.{Stepped}
use Rattle.rs_statement.specs.Inserts.{insert_step}
use Rattle.rs_statement.specs.Statements.{or_bind_fault, refused_or}
use Rattle.rs_statement.specs.declared.evaluating.Evaluating.TheVariants.{Plainly}
use Rattle.rs_statement.proofs.HeldSteps.{held-step}
use Rattle.rs_statement.proofs.SessionSteps.{if-ok}
use Rattle.rs_run.specs.Parts.Holding.{AllStand, kept_of, views_in}
use Rattle.rs_run.specs.Viewing.{DoesKept, grown_step}
use Rattle.rs_run.proofs.GrowthSteps.{Stepped-joined, Stepped-unjoined}
use Rattle.rs_run.proofs.HeldFacts.{stand-step}
use Rattle.rs_run.proofs.ViewSteps.{does-joined, insert-does}
use Rattle.rs_run.proofs.viewing.insert_and_grow.Goals as goal

-- what is around the scorer doesn't matter to the catalogue that is left: objects that tell nothing serve
around : ScorerState → Environment
around scorer = environment (disk_state (record { faults = 0; last = None })) scorer (untold 0) (untold 0)

pub grow_views-requires : goal.grow_views-requires
grow_views-requires g c =
    let old = g.S.Scorer.state c.args.scorer.now in
    let catalogue = c.args.catalog.now in
    let views = views_in c.args.held.now in
    let command = command_of c.args.statement.now in
    let next = c.insert_rows.new.catalog in
    let finds = finds_in (around old).files.contents in
    let joined = c.in_ok-insert_rows.ensures.does (around old) in
    subst (λ answer. AllStand answer next views) (sym joined.ran.keeps.scorer.answer)
    (stand-step old.answer catalogue finds command joined.step next views (c.views_go_on_to_stand.ensures old.answer) c.requires.stand c.requires.written
    (insert-does finds old.answer catalogue command joined.step c.requires.form joined.does) joined.leaves)

pub returns-in_err-insert_rows : goal.returns-in_err-insert_rows
returns-in_err-insert_rows g c =
    let old = g.S.Scorer.state c.args.scorer.now in
    let catalogue = c.args.catalog.now in
    let views = views_in c.args.held.now in
    let command = command_of c.args.statement.now in
    rw (given-err c.from_residual.result c.in_err-insert_rows.field-0.0 c.from_residual.ensures) (record {
      does = λ beside. Stepped-unjoined old.answer views (λ step. step ≡ refused_or (insert_step old.answer catalogue) (or_bind_fault (insert_of catalogue command)))
          (DoesKept (finds_in beside.files.contents) old.answer (kept_of catalogue views) command) c.insert_rows.new.catalog (kept_of c.insert_rows.new.catalog views)
          (λ step does. does-joined (finds_in beside.files.contents) old.answer (kept_of catalogue views) command step c.requires.form does)
          c.in_err-insert_rows.field-0.0 (record beside { scorer = old }) (record beside { scorer = g.S.Scorer.state c.insert_rows.new.scorer }) (c.in_err-insert_rows.ensures.does beside);
      indexes = tt;
      stand = tt;
    })

pub returns : goal.returns
returns g c =
    let old = g.S.Scorer.state c.args.scorer.now in
    let catalogue = c.args.catalog.now in
    let views = views_in c.args.held.now in
    let command = command_of c.args.statement.now in
    let next = c.insert_rows.new.catalog in
    let left = kept_of next (views_in c.grow_views.new.held) in
    let finds = finds_in (around old).files.contents in
    let joined = c.in_ok-insert_rows.ensures.does (around old) in
    let same = joined.ran.keeps.scorer.answer in record {
      does = λ beside.
          Stepped-joined old.answer views (λ step. step ≡ refused_or (insert_step old.answer catalogue) (or_bind_fault (insert_of catalogue command)))
          (DoesKept (finds_in beside.files.contents) old.answer (kept_of catalogue views) command) next left
          (λ step does. does-joined (finds_in beside.files.contents) old.answer (kept_of catalogue views) command step c.requires.form does)
          c.grow_views.result (record beside { scorer = old }) (record beside { scorer = g.S.Scorer.state c.insert_rows.new.scorer }) (record beside { scorer = g.S.Scorer.state c.grow_views.new.scorer })
          (c.in_ok-insert_rows.ensures.does beside)
          (subst (λ answer. Stepped (λ step. step ≡ grown_step answer next views) left c.grow_views.result (record beside { scorer = g.S.Scorer.state c.insert_rows.new.scorer })
          (record beside { scorer = g.S.Scorer.state c.grow_views.new.scorer })) same (c.grow_views.ensures.grows beside));
      indexes = if-ok c.grow_views.result (IndexesHold old.answer next)
          (held-step old.answer catalogue finds Plainly command joined.step next c.requires.indexes c.requires.written
          (insert-does finds old.answer catalogue command joined.step c.requires.form joined.does) joined.leaves);
      stand = subst (λ answer. IfOk c.grow_views.result (λ _. AllStand answer next (views_in c.grow_views.new.held))) same c.grow_views.ensures.stand;
    }

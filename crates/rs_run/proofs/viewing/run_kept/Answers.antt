use Rattle.std.proofs.Common.{refl}
use Rattle.rs_syntax.specs.Syntax.{command_of}
use Rattle.rs_catalog.specs.IndexesHold.{IndexesHold}
use Rattle.rs_outside.specs.Files.{finds_in}
use Rattle.rs_events.proofs.SteppedFacts.{Stepped-is, Stepped-still}
use Rattle.rs_statement.specs.Statements.{Does}
use Rattle.rs_statement.specs.declared.evaluating.Evaluating.TheVariants.{Plainly}
use Rattle.rs_statement.proofs.HeldSteps.{held-step}
use Rattle.rs_statement.proofs.SessionSteps.{if-ok, if-stepped}
use Rattle.rs_run.specs.Parts.Holding.{AllStand, kept_of, views_in}
use Rattle.rs_run.specs.Viewing.{DoesKept, close_outcome, fetch_step}
use Rattle.rs_run.proofs.HeldFacts.{stand-step}
use Rattle.rs_run.proofs.ViewSteps.{Stepped-beside_views, beside-does, kept-of_no_cursor, made-others}
use Rattle.rs_run.proofs.viewing.run_kept.Goals as goal

pub fetch_view-requires : goal.fetch_view-requires
fetch_view-requires g c = ((g.W.Host.state c.args.host.now).scorer.answer, c.requires.stand)

pub returns-in-Fetch : goal.returns-in-Fetch
returns-in-Fetch g c =
    let old = g.W.Host.state c.args.host.now in
    let kept = kept_of c.args.catalog.now (views_in c.args.held.now) in record {
      does = rw g.met.W.Host.after_out (Stepped-is (DoesKept (finds_in old.files.contents) old.scorer.answer kept (command_of c.args.statement.now))
          (fetch_step kept c.in-Fetch.count c.in-Fetch.name) kept c.fetch_view.result old _ (rw c.in-Fetch.is refl)
          (rw c.out.ensures.value at c.fetch_view.ensures old));
      indexes = if-ok c.fetch_view.result _ c.requires.indexes;
      stand = if-ok c.fetch_view.result _ c.requires.stand;
    }

pub returns-in-Close : goal.returns-in-Close
returns-in-Close g c =
    let old = g.W.Host.state c.args.host.now in
    let kept = kept_of c.args.catalog.now (views_in c.args.held.now) in record {
      does = Stepped-still (DoesKept (finds_in old.files.contents) old.scorer.answer kept (command_of c.args.statement.now))
          (close_outcome kept c.in-Close.name) (kept_of c.args.catalog.now (views_in c.close_view.new.held)) c.close_view.result old (rw c.in-Close.is refl)
          (c.close_view.ensures.closes c.args.catalog.now);
      indexes = if-ok c.close_view.result _ c.requires.indexes;
      stand = if-ok c.close_view.result _ (c.close_view.ensures.stand old.scorer.answer c.args.catalog.now c.requires.stand);
    }

pub insert_and_grow-requires : goal.insert_and_grow-requires
insert_and_grow-requires g c = record {
  form = rw c.in-Insert.is tt;
  written = c.requires.written;
  indexes = rw c.scorer.ensures.value c.requires.indexes;
  stand = rw c.scorer.ensures.value c.requires.stand;
}

pub returns-in-Insert : goal.returns-in-Insert
returns-in-Insert g c =
    let old = g.W.Host.state c.args.host.now in record {
      does = rw g.met.W.Host.after_scorer (rw c.scorer.ensures.value at c.insert_and_grow.ensures.does old);
      indexes = rw c.scorer.ensures.value at c.insert_and_grow.ensures.indexes;
      stand = rw c.scorer.ensures.value at c.insert_and_grow.ensures.stand;
    }

pub run_without_cursor-requires : goal.run_without_cursor-requires
run_without_cursor-requires g c = record {
  form = kept-of_no_cursor (command_of c.args.statement.now) c.requires.kept (made-others c.args.statement.now c.in_default.not-Fetch c.in_default.not-Close c.in_default.not-Insert);
  written = c.requires.written;
  held = c.requires.indexes;
}

pub returns-in_default : goal.returns-in_default
returns-in_default g c =
    let old = g.W.Host.state c.args.host.now in
    let finds = finds_in old.files.contents in
    let answer = old.scorer.answer in
    let catalogue = c.args.catalog.now in
    let views = views_in c.args.held.now in
    let command = command_of c.args.statement.now in
    let next = c.run_without_cursor.new.catalog in
    let new = g.W.Host.state c.run_without_cursor.new.host in record {
      does = Stepped-beside_views (DoesKept finds answer (kept_of catalogue views) command) (Does finds answer Plainly catalogue command) views next c.run_without_cursor.result old new
          (λ step does. beside-does finds answer (kept_of catalogue views) command step c.requires.kept
          (made-others c.args.statement.now c.in_default.not-Fetch c.in_default.not-Close c.in_default.not-Insert) does) c.run_without_cursor.ensures;
      indexes = if-stepped (Does finds answer Plainly catalogue command) next c.run_without_cursor.result old new (IndexesHold answer next) c.run_without_cursor.ensures
          (λ step does leaves. held-step answer catalogue finds Plainly command step next c.requires.indexes c.requires.written does leaves);
      stand = if-stepped (Does finds answer Plainly catalogue command) next c.run_without_cursor.result old new (AllStand answer next views) c.run_without_cursor.ensures
          (λ step does leaves. stand-step answer catalogue finds command step next views (c.views_go_on_to_stand.ensures answer) c.requires.stand c.requires.written does leaves);
    }

use Rattle.std.proofs.Common.{refl}
use Rattle.rs_syntax.specs.Syntax.{command_of, query_of}
use Rattle.rs_catalog.specs.IndexesHold.{IndexesHold}
use Rattle.rs_outside.specs.Files.{finds_in}
use Rattle.rs_events.proofs.SteppedFacts.{Stepped-is}
use Rattle.rs_run.specs.Parts.Holding.{kept_of, views_in}
use Rattle.rs_run.specs.Viewing.{DoesByViews, declared_step}
use Rattle.rs_run.proofs.ScanSteps.{if-ended}
use Rattle.rs_run.proofs.ViewSteps.{Stepped-view_untaken, kept-others}
use Rattle.rs_run.proofs.viewing.Viewed.run_statement.Goals as goal

pub declare_view-requires : goal.declare_view-requires
declare_view-requires g c = record {
  written = rw c.in-Declare.is at c.requires.written;
  stand = rw c.scorer.ensures.value c.requires.stand;
}

pub returns-in-Declare : goal.returns-in-Declare
returns-in-Declare g c =
    let old = g.W.Host.state c.args.host.now in
    let finds = finds_in old.files.contents in
    let answer = old.scorer.answer in
    let kept = kept_of c.args.self.now.catalog (views_in c.args.self.now.held) in record {
      does = rw g.met.W.Host.after_scorer (Stepped-is (DoesByViews finds answer c.args.number kept (command_of c.args.statement.now))
          (declared_step answer c.args.number kept c.in-Declare.name (query_of c.in-Declare.select))
          (kept_of c.args.self.now.catalog (views_in c.declare_view.new.held)) c.declare_view.result old _ (rw c.in-Declare.is refl)
          (rw c.scorer.ensures.value at c.declare_view.ensures.makes old));
      indexes = if-ended c.declare_view.result (IndexesHold answer c.args.self.now.catalog) c.requires.indexes;
      stand = rw c.scorer.ensures.value at c.declare_view.ensures.stand;
    }

pub returns-in-Query : goal.returns-in-Query
returns-in-Query g c =
    let old = g.W.Host.state c.args.host.now in record {
      does = Stepped-view_untaken (finds_in old.files.contents) old.scorer.answer c.args.number (kept_of c.args.self.now.catalog (views_in c.args.self.now.held)) (command_of c.args.statement.now) c.not_eligible.result old
          (rw c.in-Query.is refl) c.not_eligible.ensures;
      indexes = tt;
      stand = tt;
    }

pub returns-in-Explain : goal.returns-in-Explain
returns-in-Explain g c =
    let old = g.W.Host.state c.args.host.now in record {
      does = Stepped-view_untaken (finds_in old.files.contents) old.scorer.answer c.args.number (kept_of c.args.self.now.catalog (views_in c.args.self.now.held)) (command_of c.args.statement.now) c.not_eligible-in-Explain.result old
          (rw c.in-Explain.is refl) c.not_eligible-in-Explain.ensures;
      indexes = tt;
      stand = tt;
    }

pub returns-in-ExplainAnalyze : goal.returns-in-ExplainAnalyze
returns-in-ExplainAnalyze g c =
    let old = g.W.Host.state c.args.host.now in record {
      does = Stepped-view_untaken (finds_in old.files.contents) old.scorer.answer c.args.number (kept_of c.args.self.now.catalog (views_in c.args.self.now.held)) (command_of c.args.statement.now) c.not_eligible-in-ExplainAnalyze.result old
          (rw c.in-ExplainAnalyze.is refl) c.not_eligible-in-ExplainAnalyze.ensures;
      indexes = tt;
      stand = tt;
    }

pub told-requires : goal.told-requires
told-requires g c = record {
  kept = kept-others c.args.statement.now c.in_default.not-Declare c.in_default.not-Query c.in_default.not-Explain c.in_default.not-ExplainAnalyze;
  written = c.requires.written;
  indexes = c.requires.indexes;
  stand = c.requires.stand;
}

pub returns-in_default : goal.returns-in_default
returns-in_default g c = record { does = c.told.ensures.does c.args.number; indexes = c.told.ensures.indexes; stand = c.told.ensures.stand }

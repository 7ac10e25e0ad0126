use Rattle.std.proofs.Common.{refl}
use Rattle.rs_syntax.specs.Syntax.{command_of, query_of}
use Rattle.rs_catalog.specs.IndexesHold.{IndexesHold}
use Rattle.rs_outside.specs.Files.{finds_in}
use Rattle.rs_events.proofs.SteppedFacts.{Stepped-is}
use Rattle.rs_run.specs.Threshold.{DoesByScan, scanned_step}
use Rattle.rs_run.proofs.ScanSteps.{Stepped-untaken, if-ended, makes-others}
use Rattle.rs_run.proofs.threshold.Scanned.run_statement.Goals as goal

pub scan_query-requires : goal.scan_query-requires
scan_query-requires g c = record { written = rw c.in-Query.is at c.requires.written; held = c.requires.held }

pub returns-in-Query : goal.returns-in-Query
returns-in-Query g c =
    let old = g.W.Host.state c.args.host.now in record {
      does = Stepped-is (DoesByScan (finds_in old.files.contents) old.scorer.answer c.args.number c.args.self.now.catalog (command_of c.args.statement.now))
          (scanned_step old.scorer.answer c.args.number c.args.self.now.catalog (query_of c.in-Query.select)) c.args.self.now.catalog c.scan_query.result old _ (rw c.in-Query.is refl) c.scan_query.ensures;
      held = if-ended c.scan_query.result (IndexesHold old.scorer.answer c.args.self.now.catalog) c.requires.held;
    }

pub returns-in-Declare : goal.returns-in-Declare
returns-in-Declare g c =
    let old = g.W.Host.state c.args.host.now in record {
      does = Stepped-untaken (finds_in old.files.contents) old.scorer.answer c.args.number c.args.self.now.catalog (command_of c.args.statement.now) c.not_eligible.result old (rw c.in-Declare.is refl) c.not_eligible.ensures;
      held = tt;
    }

pub returns-in-Fetch : goal.returns-in-Fetch
returns-in-Fetch g c =
    let old = g.W.Host.state c.args.host.now in record {
      does = Stepped-untaken (finds_in old.files.contents) old.scorer.answer c.args.number c.args.self.now.catalog (command_of c.args.statement.now) c.not_eligible-in-Fetch.result old (rw c.in-Fetch.is refl) c.not_eligible-in-Fetch.ensures;
      held = tt;
    }

pub returns-in-Close : goal.returns-in-Close
returns-in-Close g c =
    let old = g.W.Host.state c.args.host.now in record {
      does = Stepped-untaken (finds_in old.files.contents) old.scorer.answer c.args.number c.args.self.now.catalog (command_of c.args.statement.now) c.not_eligible-in-Close.result old (rw c.in-Close.is refl) c.not_eligible-in-Close.ensures;
      held = tt;
    }

pub returns-in-Explain : goal.returns-in-Explain
returns-in-Explain g c =
    let old = g.W.Host.state c.args.host.now in record {
      does = Stepped-untaken (finds_in old.files.contents) old.scorer.answer c.args.number c.args.self.now.catalog (command_of c.args.statement.now) c.not_eligible-in-Explain.result old (rw c.in-Explain.is refl) c.not_eligible-in-Explain.ensures;
      held = tt;
    }

pub returns-in-ExplainAnalyze : goal.returns-in-ExplainAnalyze
returns-in-ExplainAnalyze g c =
    let old = g.W.Host.state c.args.host.now in record {
      does = Stepped-untaken (finds_in old.files.contents) old.scorer.answer c.args.number c.args.self.now.catalog (command_of c.args.statement.now) c.not_eligible-in-ExplainAnalyze.result old (rw c.in-ExplainAnalyze.is refl) c.not_eligible-in-ExplainAnalyze.ensures;
      held = tt;
    }

pub make-requires : goal.make-requires
make-requires g c = record {
  makes = makes-others c.args.statement.now c.in_default.not-Query c.in_default.not-Declare c.in_default.not-Fetch c.in_default.not-Close c.in_default.not-Explain c.in_default.not-ExplainAnalyze;
  written = c.requires.written;
  held = c.requires.held;
}

pub returns-in_default : goal.returns-in_default
returns-in_default g c = record { does = c.make.ensures.does c.args.number; held = c.make.ensures.held }

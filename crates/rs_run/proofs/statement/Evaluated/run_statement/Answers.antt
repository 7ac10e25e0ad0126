use Rattle.std.proofs.Common.{refl}
use Rattle.rs_syntax.specs.Syntax.{command_of, query_of}
use Rattle.rs_catalog.specs.IndexesHold.{IndexesHold}
use Rattle.rs_statement.specs.Parts.Session.{CanAllBeAsked, held_in, state_of}
use Rattle.rs_outside.specs.Files.{finds_in}
use Rattle.rs_statement.specs.Session.{DoesInSession, close_outcome, declare_step, fetch_step}
use Rattle.rs_statement.specs.Statements.{Does}
use Rattle.rs_statement.proofs.HeldSteps.{asked-step, held-step}
use Rattle.rs_statement.proofs.SessionSteps.{Stepped-beside, does-close, does-declare, does-fetch, if-ok, if-stepped, of_no_cursor}
use Rattle.rs_events.proofs.SteppedFacts.{Stepped-is, Stepped-still}
use Rattle.rs_run.proofs.statement.Evaluated.run_statement.Goals as goal

pub declare-requires : goal.declare-requires
declare-requires g c = record {
  written = rw c.in-Declare.is at c.requires.written;
  held = rw c.scorer.ensures.value c.requires.held;
  asked = rw c.scorer.ensures.value c.requires.asked;
}

pub returns-in-Declare : goal.returns-in-Declare
returns-in-Declare g c =
    let old = g.W.Host.state c.args.host.now in
    let finds = finds_in old.files.contents in
    let answer = old.scorer.answer in
    let state = state_of c.args.self.now.catalog (held_in c.args.self.now.session) in record {
      does = rw g.met.W.Host.after_scorer (Stepped-is (DoesInSession finds answer c.args.self.now.evaluating state (command_of c.args.statement.now))
          (declare_step c.args.self.now.evaluating answer state c.in-Declare.name (query_of c.in-Declare.select))
          (state_of c.args.self.now.catalog (held_in c.declare.new.session)) c.declare.result old _
          (does-declare finds answer c.args.self.now.evaluating state c.args.statement.now c.in-Declare.name c.in-Declare.select c.in-Declare.is)
          (rw c.scorer.ensures.value at c.declare.ensures.opens old));
      held = if-ok c.declare.result _ c.requires.held;
      asked = rw c.scorer.ensures.value at c.declare.ensures.asked;
      same = refl;
    }

pub fetch-requires : goal.fetch-requires
fetch-requires g c = c.requires.asked

pub returns-in-Fetch : goal.returns-in-Fetch
returns-in-Fetch g c =
    let old = g.W.Host.state c.args.host.now in
    let finds = finds_in old.files.contents in
    let answer = old.scorer.answer in
    let state = state_of c.args.self.now.catalog (held_in c.args.self.now.session) in record {
      does = Stepped-is (DoesInSession finds answer c.args.self.now.evaluating state (command_of c.args.statement.now))
          (fetch_step answer state c.in-Fetch.count c.in-Fetch.name)
          (state_of c.args.self.now.catalog (held_in c.fetch.new.session)) c.fetch.result old _
          (does-fetch finds answer c.args.self.now.evaluating state c.args.statement.now c.in-Fetch.count c.in-Fetch.name c.in-Fetch.is)
          c.fetch.ensures.puts;
      held = if-ok c.fetch.result _ c.requires.held;
      asked = c.fetch.ensures.asked;
      same = refl;
    }

pub returns-in-Close : goal.returns-in-Close
returns-in-Close g c =
    let old = g.W.Host.state c.args.host.now in
    let finds = finds_in old.files.contents in
    let answer = old.scorer.answer in
    let state = state_of c.args.self.now.catalog (held_in c.args.self.now.session) in record {
      does = Stepped-still (DoesInSession finds answer c.args.self.now.evaluating state (command_of c.args.statement.now))
          (close_outcome state c.in-Close.name) (state_of c.args.self.now.catalog (held_in c.close.new.session)) c.close.result old
          (does-close finds answer c.args.self.now.evaluating state c.args.statement.now c.in-Close.name c.in-Close.is)
          (c.close.ensures.closes c.args.self.now.catalog);
      held = if-ok c.close.result _ c.requires.held;
      asked = if-ok c.close.result _ (c.close.ensures.asked answer c.args.self.now.catalog c.requires.asked);
      same = refl;
    }

pub run_without_cursor-requires : goal.run_without_cursor-requires
run_without_cursor-requires g c = record {
  form = of_no_cursor c.args.statement.now c.in_default.not-Declare c.in_default.not-Fetch c.in_default.not-Close;
  written = c.requires.written;
  held = c.requires.held;
}

pub returns-in_default : goal.returns-in_default
returns-in_default g c =
    let old = g.W.Host.state c.args.host.now in
    let finds = finds_in old.files.contents in
    let answer = old.scorer.answer in
    let catalogue = c.args.self.now.catalog in
    let entries = held_in c.args.self.now.session in
    let command = command_of c.args.statement.now in
    let next = c.run_without_cursor.new.catalog in
    let new = g.W.Host.state c.run_without_cursor.new.host in
    let larger = c.cursors_stand_in_larger_catalogues.ensures in record {
      does = Stepped-beside finds answer c.args.self.now.evaluating (state_of catalogue entries) command next c.run_without_cursor.result old new
          (of_no_cursor c.args.statement.now c.in_default.not-Declare c.in_default.not-Fetch c.in_default.not-Close) c.run_without_cursor.ensures;
      held = if-stepped (Does finds answer c.args.self.now.evaluating catalogue command) next c.run_without_cursor.result old new (IndexesHold answer next) c.run_without_cursor.ensures
          (λ step does leaves. held-step answer catalogue finds c.args.self.now.evaluating command step next c.requires.held c.requires.written does leaves);
      asked = if-stepped (Does finds answer c.args.self.now.evaluating catalogue command) next c.run_without_cursor.result old new (CanAllBeAsked answer next entries) c.run_without_cursor.ensures
          (λ step does leaves. asked-step answer catalogue finds c.args.self.now.evaluating command step next entries (record {
            tables = λ seen cursor name table. larger.tables seen answer cursor name table;
            predicates = λ seen cursor predicate. larger.predicates seen answer cursor predicate;
            indexes = λ seen cursor def ranking. larger.indexes seen answer cursor def ranking;
          }) c.requires.held c.requires.asked c.requires.written does leaves);
      same = refl;
    }

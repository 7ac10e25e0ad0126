use Rattle.std.proofs.Common.{ℕ, ◌≡◌, List, ap, refl, rules, sym}
use Rattle.std.specs.Prelude.{Err, Ok}
use Rattle.rs_value.specs.Outside.{Outside}
use Rattle.rs_expr.specs.Scoring.{ScorerState}
use Rattle.rs_outside.specs.Files.{FilesState}
use Rattle.rs_events.specs.Environment.{environment}
use Rattle.rs_run.specs.Words.{form_of}
use Rattle.rs_events.specs.declared.status.Status.TheVariants.{Done}
use Rattle.rs_run.proofs.OutcomeFacts.{Tells, tells-fault, tells-ok}
use Rattle.rs_run.proofs.TextFacts.{Runs-of}
use Rattle.rs_run.proofs.command.run.Goals as goal

pub returns-in-Ok : goal.returns-in-Ok
returns-in-Ok g c =
    let old = environment (g.F.Files.state c.args.files.now) (g.S.Scorer.state c.args.scorer.now) (g.O.Sink.state c.args.out.now) (g.E.Sink.state c.args.err.now) in
    let held = c.answer.new.host in
    let does = c.in-Ok.ensures.does in
    let same = sym does.ran.keeps.references in
    let told : (files : FilesState) (scorer : ScorerState) (out : Outside (List (List ℕ))) → files ≡ g.F.Files.state held.files.now → scorer ≡ g.S.Scorer.state held.scorer.now → out ≡ g.O.Sink.state held.out.now
    → Tells (form_of c.args.words.now) Done old (environment files scorer out old.err) =
    λ files scorer out f s o. tells-ok (form_of c.args.words.now) old (environment files scorer out old.err) refl (Runs-of _ (Ok tt) _ _ old files scorer out f s o does) in
    let t = told _ _ _ (search (rules, ap (λ (r : ℕ × ℕ × ℕ). r.0) same)) (search (rules, ap (λ (r : ℕ × ℕ × ℕ). r.1) same)) (search (rules, ap (λ (r : ℕ × ℕ × ℕ). r.2) same)) in
    record { run = t.run; usage = t.usage; no_form = t.no_form; write = t.write; probe = t.probe; unfetched = λ number rows form. search (rules, ap (λ (r : ℕ × ℕ × ℕ). r.0) same, c.in-Ok.ensures.unfetched number rows form); keeps = t.keeps }

pub returns-in-Err : goal.returns-in-Err
returns-in-Err g c =
    let old = environment (g.F.Files.state c.args.files.now) (g.S.Scorer.state c.args.scorer.now) (g.O.Sink.state c.args.out.now) (g.E.Sink.state c.args.err.now) in
    let held = c.answer.new.host in
    let does = c.in-Err.ensures.does in
    let same = sym does.ran.keeps.references in
    let told : (files : FilesState) (scorer : ScorerState) (out : Outside (List (List ℕ))) → files ≡ g.F.Files.state held.files.now → scorer ≡ g.S.Scorer.state held.scorer.now → out ≡ g.O.Sink.state held.out.now
    → Tells (form_of c.args.words.now) c.report.result old (environment files scorer out (g.E.Sink.state c.report.new.err)) =
    λ files scorer out f s o. tells-fault (form_of c.args.words.now) c.in-Err.fault c.report.result old (environment files scorer out old.err) (g.E.Sink.state c.report.new.err) c.report.ensures.reports c.report.ensures.keeps
    (Runs-of _ (Err c.in-Err.fault) _ _ old files scorer out f s o does) in
    let t = told _ _ _ (search (rules, ap (λ (r : ℕ × ℕ × ℕ). r.0) same)) (search (rules, ap (λ (r : ℕ × ℕ × ℕ). r.1) same)) (search (rules, ap (λ (r : ℕ × ℕ × ℕ). r.2) same)) in
    record { run = t.run; usage = t.usage; no_form = t.no_form; write = t.write; probe = t.probe; unfetched = λ number rows form. search (rules, ap (λ (r : ℕ × ℕ × ℕ). r.0) same, c.in-Err.ensures.unfetched number rows form); keeps = t.keeps }

use Rattle.std.proofs.Common.{ℕ, ◌≡◌, List, Some, ap, refl, rules, sym}
use Rattle.std.specs.Prelude.{Err, Ok}
use Rattle.rs_value.specs.Outside.{Outside}
use Rattle.rs_expr.specs.Scoring.{ScorerState}
use Rattle.rs_outside.specs.Files.{FilesState, finds_in}
use Rattle.rs_events.specs.Environment.{environment}
use Rattle.rs_run.specs.Words.{RunScript}
use Rattle.rs_run.specs.declared.fault.RunFault.TheVariants.{Statement}
use Rattle.rs_events.specs.declared.status.Status.TheVariants.{Done}
use Rattle.rs_run.proofs.OutcomeFacts.{Tells, tells-fault, tells-ok}
use Rattle.rs_run.proofs.RunFacts.{Runs-told_err, Runs-told_ok}
use Rattle.rs_run.proofs.TextFacts.{Runs-of}
use Rattle.rs_run.proofs.command.run_file.Goals as goal

pub returns-in-Ok : goal.returns-in-Ok
returns-in-Ok g c =
    let form = RunScript c.args.script.now c.args.evaluating in
    let old = environment (g.F.Files.state c.args.files.now) (g.S.Scorer.state c.args.scorer.now) (g.O.Sink.state c.args.out.now) (g.E.Sink.state c.args.err.now) in
    let held = c.run_script.new.host in
    let same = sym c.in-Ok.ensures.ran.keeps.references in
    let told : (files : FilesState) (scorer : ScorerState) (out : Outside (List (List ℕ))) → files ≡ g.F.Files.state held.files.now → scorer ≡ g.S.Scorer.state held.scorer.now → out ≡ g.O.Sink.state held.out.now
    → Tells (Some form) Done old (environment files scorer out old.err) =
    λ files scorer out f s o. tells-ok (Some form) old (environment files scorer out old.err) refl
    (Runs-told_ok (finds_in old.files.contents) old.scorer.answer form old (environment files scorer out old.err) (Runs-of _ (Ok tt) _ _ old files scorer out f s o c.in-Ok.ensures)) in
    let t = told _ _ _ (search (rules, ap (λ (r : ℕ × ℕ × ℕ). r.0) same)) (search (rules, ap (λ (r : ℕ × ℕ × ℕ). r.1) same)) (search (rules, ap (λ (r : ℕ × ℕ × ℕ). r.2) same)) in
    record { run = t.run; usage = λ usage. absurd (let none = t.usage usage in cc); write = t.write; probe = t.probe; keeps = t.keeps }

pub returns-in-Err : goal.returns-in-Err
returns-in-Err g c =
    let form = RunScript c.args.script.now c.args.evaluating in
    let old = environment (g.F.Files.state c.args.files.now) (g.S.Scorer.state c.args.scorer.now) (g.O.Sink.state c.args.out.now) (g.E.Sink.state c.args.err.now) in
    let held = c.run_script.new.host in
    let same = sym c.in-Err.ensures.ran.keeps.references in
    let told : (files : FilesState) (scorer : ScorerState) (out : Outside (List (List ℕ))) → files ≡ g.F.Files.state held.files.now → scorer ≡ g.S.Scorer.state held.scorer.now → out ≡ g.O.Sink.state held.out.now
    → Tells (Some form) c.report.result old (environment files scorer out (g.E.Sink.state c.report.new.err)) =
    λ files scorer out f s o. tells-fault (Some form) (Statement c.in-Err.fault) c.report.result old (environment files scorer out old.err) (g.E.Sink.state c.report.new.err) c.report.ensures.reports c.report.ensures.keeps
    (Runs-told_err (finds_in old.files.contents) old.scorer.answer form old (environment files scorer out old.err) c.in-Err.fault (Runs-of _ (Err c.in-Err.fault) _ _ old files scorer out f s o c.in-Err.ensures)) in
    let t = told _ _ _ (search (rules, ap (λ (r : ℕ × ℕ × ℕ). r.0) same)) (search (rules, ap (λ (r : ℕ × ℕ × ℕ). r.1) same)) (search (rules, ap (λ (r : ℕ × ℕ × ℕ). r.2) same)) in
    record { run = t.run; usage = λ usage. absurd (let none = t.usage usage in cc); write = t.write; probe = t.probe; keeps = t.keeps }

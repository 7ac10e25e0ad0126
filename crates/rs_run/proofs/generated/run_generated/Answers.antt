use Rattle.std.proofs.Common.{ℕ, ap, refl, rules, sym}
use Rattle.rs_value.specs.Outside.{untold}
use Rattle.rs_value.proofs.ResultFacts.{given-err}
use Rattle.rs_outside.specs.Files.{finds_in}
use Rattle.rs_outside.specs.MemFiles.{files_state}
use Rattle.rs_events.specs.Environment.{environment}
use Rattle.rs_statement.specs.declared.fault.Fault.TheVariants.{Memory}
use Rattle.rs_run.proofs.GeneratedFacts.{Runs-generated, Runs-generated_none}
use Rattle.rs_run.proofs.TextFacts.{Runs-of}
use Rattle.rs_run.proofs.generated.run_generated.Goals as goal

-- there was no memory for the name, or for the files
pub returns-in_err-name : goal.returns-in_err-name
returns-in_err-name g c = rw (given-err c.from_residual.result Memory c.from_residual.ensures)
    (record { does = Runs-generated_none (finds_in (g.F.Files.state c.args.host.now.files.now).contents) (g.S.Scorer.state c.args.host.now.scorer.now).answer c.args.number c.args.rows _; unfetched = refl })

pub returns-in_err-files : goal.returns-in_err-files
returns-in_err-files g c = rw (given-err c.from_residual-in_err-files.result Memory c.from_residual-in_err-files.ensures)
    (record { does = Runs-generated_none (finds_in (g.F.Files.state c.args.host.now.files.now).contents) (g.S.Scorer.state c.args.host.now.scorer.now).answer c.args.number c.args.rows _; unfetched = refl })

pub returns : goal.returns
returns g c =
    let o = c.args.host.now in
    let old = record (environment (g.F.Files.state o.files.now) (g.S.Scorer.state o.scorer.now) (g.O.Sink.state o.out.now) (untold 0)) {
      references = (o.files.ghost_name, o.scorer.ghost_name, o.out.ghost_name);
    } in
    let same = sym c.run_script.ensures.ran.keeps.references in record {
      does = Runs-generated old.files (record old { files = files_state c.in_ok-files.files })
          (record old { files = files_state c.run_script.new.host.files.now; scorer = _; out = _ })
          old.scorer.answer c.args.number c.args.rows c.in_ok-name.name c.run_script.result c.in_ok-name.ensures (ap files_state c.in_ok-files.ensures)
          (Runs-of _ c.run_script.result _ _ old _ _ _ refl (search (rules, ap (λ (r : ℕ × ℕ × ℕ). r.1) same)) (search (rules, ap (λ (r : ℕ × ℕ × ℕ). r.2) same)) c.run_script.ensures);
      unfetched = refl;
    }

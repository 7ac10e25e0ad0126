use Rattle.std.proofs.Common.{refl, inr}
use Rattle.std.specs.Prelude.{option_map}
use Rattle.rs_run.specs.Naming.{Looks}
use Rattle.rs_run.proofs.NamingFacts.{if-none, no-script, no-statements}
use Rattle.rs_run.proofs.naming.unmade_predicate.Goals as goal

pub returns-in-Err-read-clause-looks : goal.returns-in-Err-read-clause-looks
returns-in-Err-read-clause-looks g c =
    let old = g.F.Files.state c.args.files.now in
    let new = g.F.Files.state c.fetch_script.new.files in
    if-none c.none_but.result (λ name. Looks c.args.script.now c.args.names.now (option_map (λ name. name.now) name) old new) c.in-Err-read.fault
    (λ not_memory. inr (refl, no-statements c.args.script.now c.in-Ok.text c.in-Err-read.fault old new not_memory c.in-Err-read.ensures.refused c.in-Ok.ensures.fetches))
    c.none_but.ensures

pub returns-in-Err-clause-looks : goal.returns-in-Err-clause-looks
returns-in-Err-clause-looks g c =
    let old = g.F.Files.state c.args.files.now in
    let new = g.F.Files.state c.fetch_script.new.files in
    if-none c.none_but-in-Err.result (λ name. Looks c.args.script.now c.args.names.now (option_map (λ name. name.now) name) old new) c.in-Err.fault
    (λ not_memory. inr (refl, no-script c.args.script.now c.in-Err.fault old new not_memory c.in-Err.ensures.fetches))
    c.none_but-in-Err.ensures

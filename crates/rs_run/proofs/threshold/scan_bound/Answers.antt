use Rattle.std.proofs.Common.{◌≡◌, ◌∙◌, None, refl, sym, ap, subst}
use Rattle.std.specs.Prelude.{Err, option_map}
use Rattle.rs_value.proofs.ResultFacts.{given-err}
use Rattle.rs_query.specs.declared.query.Query.{Query}
use Rattle.rs_query.specs.declared.query.Query.TheVariants.{One}
use Rattle.rs_query.specs.WellFormed.{IsQuery}
use Rattle.rs_ta.specs.Eligible.{block_input, eligible_indexes}
use Rattle.rs_events.specs.Running.{Stepped}
use Rattle.rs_events.proofs.SteppedFacts.{Stepped-no_memory}
use Rattle.rs_statement.specs.declared.fault.Fault.TheVariants.{Memory}
use Rattle.rs_run.specs.Faults.{run_faults}
use Rattle.rs_run.specs.Threshold.{scan_step}
use Rattle.rs_run.specs.declared.fault.RunFault.TheVariants.{Statement}
use Rattle.rs_run.proofs.ScanSteps.{Stepped-ineligible, Stepped-scanned}
use Rattle.rs_run.proofs.threshold.scan_bound.Goals as goal

pub returns-in_err-indexes-in-One : goal.returns-in_err-indexes-in-One
returns-in_err-indexes-in-One g c =
    let old = g.W.Host.state c.args.host.now in
    let step = scan_step old.scorer.answer c.args.number c.args.catalog.now c.args.query.now in
    subst (λ result. Stepped run_faults (λ s. s ≡ step) c.args.catalog.now result old old) (sym (given-err c.from_residual.result (Statement Memory) c.from_residual.ensures))
    (Stepped-no_memory (λ s. s ≡ step) step c.args.catalog.now old refl)

pub scan_block-requires : goal.scan_block-requires
scan_block-requires g c = record {
  formed = (subst (IsQuery c.args.catalog.now) c.in-One.is c.requires.formed).0;
  eligible = sym c.in_ok-indexes-in-One.ensures ∙ ap (option_map (λ made. made.items)) c.in-Some.is;
  held = c.requires.held;
}

pub returns-in-Some : goal.returns-in-Some
returns-in-Some g c =
    let old = g.W.Host.state c.args.host.now in
    subst (λ (query : Query). Stepped run_faults (λ step. step ≡ scan_step old.scorer.answer c.args.number c.args.catalog.now query) c.args.catalog.now c.scan_block.result old (g.W.Host.state c.scan_block.new.host)) (sym c.in-One.is)
    (Stepped-scanned old.scorer.answer c.args.number c.args.catalog.now c.in-One.block c.in-One.limit c.in-Some.indexes.items c.scan_block.result old _
    (sym c.in_ok-indexes-in-One.ensures ∙ ap (option_map (λ made. made.items)) c.in-Some.is) c.scan_block.ensures)

pub returns-in-None : goal.returns-in-None
returns-in-None g c =
    let old = g.W.Host.state c.args.host.now in
    let none : eligible_indexes c.args.catalog.now c.in-One.block ≡ None = sym c.in_ok-indexes-in-One.ensures ∙ ap (option_map (λ made. made.items)) c.in-None.is in
    subst (λ (query : Query). Stepped run_faults (λ step. step ≡ scan_step old.scorer.answer c.args.number c.args.catalog.now query) c.args.catalog.now (Err c.not_eligible.result) old old) (sym c.in-One.is)
    (Stepped-ineligible old.scorer.answer c.args.number c.args.catalog.now old (One c.in-One.block c.in-One.limit) c.not_eligible.result
    (ap (option_map (block_input c.args.catalog.now c.in-One.block)) none) c.not_eligible.ensures)

pub returns-in-Set : goal.returns-in-Set
returns-in-Set g c =
    let old = g.W.Host.state c.args.host.now in
    Stepped-ineligible old.scorer.answer c.args.number c.args.catalog.now old c.args.query.now c.not_eligible-in-Set.result (rw c.in-Set.is refl) c.not_eligible-in-Set.ensures

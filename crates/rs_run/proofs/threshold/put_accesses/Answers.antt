use Rattle.std.proofs.Common.{[], ◌∷◌, ◌∙◌, ap, sym, subst}
use Rattle.rs_value.proofs.ResultFacts.{given-err}
use Rattle.rs_ta.specs.IndexLists.{index_lists_state}
use Rattle.rs_ta.specs.Lists.{AreRanked}
use Rattle.rs_events.specs.Run.{lines_run}
use Rattle.rs_events.specs.Running.{Ran}
use Rattle.rs_events.proofs.RanFacts.{Ran-first}
use Rattle.rs_statement.specs.declared.fault.Fault.TheVariants.{Memory}
use Rattle.rs_run.specs.declared.fault.RunFault.TheVariants.{Statement}
use Rattle.rs_run.specs.Faults.{run_faults}
use Rattle.rs_run.specs.Parts.Scanning.{accesses_text}
use Rattle.rs_run.specs.Threshold.{access_line}
use Rattle.rs_run.proofs.ScanFacts.{accessed, line-is}
use Rattle.rs_run.proofs.threshold.put_accesses.Goals as goal

pub returns-in_err-line : goal.returns-in_err-line
returns-in_err-line g c = λ beside i asks is.
    let run = lines_run (access_line i asks ∷ []) in
    let at = record beside { out = g.O.Sink.state c.args.out.now } in
    subst (λ result. Ran run_faults run result at at) (sym (given-err c.from_residual.result (Statement Memory) c.from_residual.ensures)) (Ran-first run at)

pub returns : goal.returns
returns g c = λ beside i asks is.
    let scan = c.args.scan.now in
    let lists = c.args.lists.now in
    let sums = c.depths_decide_the_sums_of_accesses.ensures in
    let state = index_lists_state lists in
    let had = accessed i asks scan lists is in
    let ranked = subst AreRanked (sym is.lists_are) c.lists.ensures.ranked in
    let text = line-is i asks scan lists is c.counts-sorted.result.0 c.counts-sorted.result.1 c.lists.ensures.ranked c.counts-sorted.ensures.sorted c.counts-sorted.ensures.random
    (sums.sorted i asks state had) (sums.random i asks state had) (sums.few_sorted i asks ranked) (sums.few_random i asks ranked) in
    subst (λ line. Ran run_faults (lines_run (line ∷ [])) c.put_text.result (record beside { out = g.O.Sink.state c.args.out.now }) (record beside { out = g.O.Sink.state c.put_text.new.out }))
    (c.as_bytes.ensures.value ∙ c.in_ok-line.ensures ∙ ap (λ depth. accesses_text depth c.counts-sorted.result.0 c.counts-sorted.result.1) c.depth.ensures ∙ text) (c.put_text.ensures beside)

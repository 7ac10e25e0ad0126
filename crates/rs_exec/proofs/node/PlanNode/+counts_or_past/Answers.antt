-- The place is the operator's own, or one of its left side, or one of its right side.
use Rattle.std.proofs.Common.{◌∙◌, Ok, Err, ap}
use Rattle.rs_exec.specs.Nodes.{at_or_past, counts_in}
use Rattle.rs_exec.specs.declared.node.PlanNode.{PlanNode}
use Rattle.rs_exec.proofs.CountFacts.{join-counts, set-counts}
use Rattle.rs_exec.proofs.node.PlanNode.+counts_or_past.Goals as goal

pub returns-in-Ok-counts_or_past : goal.returns-in-Ok-counts_or_past
returns-in-Ok-counts_or_past t c =
    join-counts c.args.self.now c.in-Join.head c.in-Join.left c.in-Join.right c.counts-in-Join.result c.deref-in-Err-counts_or_next.result.now
    c.args.place c.in-Err-counts_or_next.place (Ok c.in-Ok-counts_or_past.counts) c.in-Join.is c.counts-in-Join.ensures c.in-Err-counts_or_next.ensures
    c.deref-in-Err-counts_or_next.ensures c.in-Ok-counts_or_past.ensures

pub returns-in-Err-counts_or_past : goal.returns-in-Err-counts_or_past
returns-in-Err-counts_or_past t c =
    c.counts_or_past-in-Err-counts_or_past.ensures
    ∙ ap (λ (n : PlanNode). at_or_past (counts_in n) c.in-Err-counts_or_past.place) c.deref-in-Err-counts_or_past.ensures
    ∙ join-counts c.args.self.now c.in-Join.head c.in-Join.left c.in-Join.right c.counts-in-Join.result c.deref-in-Err-counts_or_next.result.now
    c.args.place c.in-Err-counts_or_next.place (Err c.in-Err-counts_or_past.place) c.in-Join.is c.counts-in-Join.ensures c.in-Err-counts_or_next.ensures
    c.deref-in-Err-counts_or_next.ensures c.in-Err-counts_or_past.ensures

pub returns-in-Ok-counts_or_past-2 : goal.returns-in-Ok-counts_or_past-2
returns-in-Ok-counts_or_past-2 t c =
    set-counts c.args.self.now c.in-Set.head c.in-Set.left c.in-Set.right c.counts-in-Set.result c.deref-in-Err-counts_or_next-3.result.now
    c.args.place c.in-Err-counts_or_next-3.place (Ok c.in-Ok-counts_or_past-2.counts) c.in-Set.is c.counts-in-Set.ensures c.in-Err-counts_or_next-3.ensures
    c.deref-in-Err-counts_or_next-3.ensures c.in-Ok-counts_or_past-2.ensures

pub returns-in-Err-counts_or_past-2 : goal.returns-in-Err-counts_or_past-2
returns-in-Err-counts_or_past-2 t c =
    c.counts_or_past-in-Err-counts_or_past-2.ensures
    ∙ ap (λ (n : PlanNode). at_or_past (counts_in n) c.in-Err-counts_or_past-2.place) c.deref-in-Err-counts_or_past-2.ensures
    ∙ set-counts c.args.self.now c.in-Set.head c.in-Set.left c.in-Set.right c.counts-in-Set.result c.deref-in-Err-counts_or_next-3.result.now
    c.args.place c.in-Err-counts_or_next-3.place (Err c.in-Err-counts_or_past-2.place) c.in-Set.is c.counts-in-Set.ensures c.in-Err-counts_or_next-3.ensures
    c.deref-in-Err-counts_or_next-3.ensures c.in-Err-counts_or_past-2.ensures

-- Which of the two first pairs comes before the other one.
use Rattle.std.proofs.Common.{◌<◌, length, refl, sym, ◌∙◌, ap, arith}
use Rattle.std.specs.BinaryHeap.{heap_items}
use Rattle.std.specs.Ordering.{is_lt}
use Rattle.rs_order.proofs.PartFacts.{is_lt-Less}
use Rattle.rs_queue.proofs.RunFacts.{Leads-from, Leads-none, bound-before, bound-whole_run, none-left}
use Rattle.rs_queue.proofs.queue.run_leads.Goals as goal

pub returns-in-Some-Some-clause-run : goal.returns-in-Some-Some-clause-run
returns-in-Some-Some-clause-run g c before =
    let cmp = g.K.Ord.cmp in
    let first = c.in-Some-Some.first.now in
    let top = c.in-Some-Some.top.now in
    let heap = heap_items c.args.heap.now in
    let run = c.args.run.now.items in
    let asked = c.cmp.ensures ∙ ap (λ key. cmp key c.key-in-Some-Some.result.now) c.key.ensures ∙ ap (cmp first.0) c.key-in-Some-Some.ensures in
    let held : 0 < c.args.run.now.len = c.in-Some-Some.ensures.variant.0 refl in
    let some : 0 < length run = omega (arith, c.args.run.now.ok.0) in
    Leads-from cmp g.met.K.Ord.total first run heap some c.in-Some-Some.ensures.lookup
    (bound-before cmp g.met.K.Ord.total first top heap (is_lt-Less (cmp first.0 top.0) (ap is_lt (sym asked) ∙ sym c.is_lt.ensures ∙ before)) (c.in-Some-Some.ensures'.greatest c.requires.heap))

pub returns-in-Some-Some-clause-heap : goal.returns-in-Some-Some-clause-heap
returns-in-Some-Some-clause-heap g c behind =
    let cmp = g.K.Ord.cmp in
    let first = c.in-Some-Some.first.now in
    let top = c.in-Some-Some.top.now in
    let heap = heap_items c.args.heap.now in
    let run = c.args.run.now.items in
    let asked = c.cmp.ensures ∙ ap (λ key. cmp key c.key-in-Some-Some.result.now) c.key.ensures ∙ ap (cmp first.0) c.key-in-Some-Some.ensures in
    let held : 0 < c.args.heap.now.data.len = c.in-Some-Some.ensures'.variant.0 refl in
    let some : 0 < length heap = omega (arith, c.args.heap.now.data.ok.0) in
    Leads-from cmp g.met.K.Ord.total top heap run some c.in-Some-Some.ensures'.lookup
    (bound-whole_run cmp g.met.K.Ord.total top first run c.in-Some-Some.ensures.lookup (ap is_lt (sym asked) ∙ sym c.is_lt.ensures ∙ behind) c.requires.run)

pub returns-in-Some-None-clause-run : goal.returns-in-Some-None-clause-run
returns-in-Some-None-clause-run g c before =
    let heap = heap_items c.args.heap.now in
    let none = none-left c.args.heap.now.data.len c.in-Some-None.ensures'.variant.1 in
    Leads-none g.K.Ord.cmp g.met.K.Ord.total c.args.run.now.items heap (sym c.args.heap.now.data.ok.0 ∙ none)

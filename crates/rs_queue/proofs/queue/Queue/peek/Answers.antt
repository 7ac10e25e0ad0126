-- The first pair of the run or the top of the heap is the first pair of the queue.
use Rattle.std.proofs.Common.{◌<◌, ◌++◌, Some, length, refl, sym, ◌∙◌, ap, subst, arith}
use Rattle.std.specs.BinaryHeap.{heap_items}
use Rattle.std.specs.List.{slice_get}
use Rattle.std.specs.Option.{option_map}
use Rattle.rs_order.specs.Climbing.{Climbs}
use Rattle.rs_queue.proofs.QueueFacts.{Climbs-queue, key_of}
use Rattle.rs_queue.proofs.RunFacts.{sorted-heap_top, sorted-run_top}
use Rattle.rs_queue.proofs.queue.Queue.peek.Goals as goal

pub returns-in-Some-clause-first : goal.returns-in-Some-clause-first
returns-in-Some-clause-first g c =
    let run = c.self.inside.run in
    let held : 0 < run.len = c.in-Some.ensures.variant.0 refl in
    let some : 0 < length run.items = omega (arith, run.ok.0) in
    let top = sorted-run_top g.K.Ord.cmp g.met.K.Ord.total c.in-Some.entry.now (heap_items c.self.inside.heap) run.items some c.in-Some.ensures.lookup c.self.invariant.2 (c.if-run_leads.ensures.run refl) c.self.invariant.1 in
    ap (λ key. Some key) c.key.ensures ∙ ap (option_map key_of) (sym top ∙ ap (λ queue. slice_get queue 0) c.self.view_is)

pub returns-in-Some-clause-ordered : goal.returns-in-Some-clause-ordered
returns-in-Some-clause-ordered g c =
    subst (Climbs g.K.Ord.cmp key_of) c.self.view_is (Climbs-queue g.K.Ord.cmp g.met.K.Ord.total (heap_items c.self.inside.heap ++ c.self.inside.run.items) c.self.invariant.2)

pub returns-in-Some-peek-clause-first : goal.returns-in-Some-peek-clause-first
returns-in-Some-peek-clause-first g c =
    let heap = c.self.inside.heap in
    let held : 0 < heap.data.len = c.in-Some-peek.ensures.variant.0 refl in
    let some : 0 < length (heap_items heap) = omega (arith, heap.data.ok.0) in
    let top = sorted-heap_top g.K.Ord.cmp g.met.K.Ord.total c.in-Some-peek.entry.now (heap_items heap) c.self.inside.run.items some c.in-Some-peek.ensures.lookup c.self.invariant.2
    (c.in-Some-peek.ensures.greatest c.self.invariant.0) (c.if-run_leads.ensures.heap refl) in
    ap (λ key. Some key) c.key-in-Some-peek.ensures ∙ ap (option_map key_of) (sym top ∙ ap (λ queue. slice_get queue 0) c.self.view_is)

pub returns-in-Some-peek-clause-ordered : goal.returns-in-Some-peek-clause-ordered
returns-in-Some-peek-clause-ordered g c =
    subst (Climbs g.K.Ord.cmp key_of) c.self.view_is (Climbs-queue g.K.Ord.cmp g.met.K.Ord.total (heap_items c.self.inside.heap ++ c.self.inside.run.items) c.self.invariant.2)

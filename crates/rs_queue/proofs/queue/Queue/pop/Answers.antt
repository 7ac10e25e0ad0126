-- The first pair of the run or the greatest one of the heap is the first of the queue, and the others stay.
use Rattle.std.proofs.Common.{◌++◌, ◌<◌, Some, drop, length, refl, sym, ◌∙◌, ap, subst, arith}
use Rattle.std.specs.BinaryHeap.{IsHeap, heap_items}
use Rattle.std.specs.List.{slice_get}
use Rattle.rs_order.specs.Climbing.{Climbs}
use Rattle.rs_order.specs.Sorting.{sorted}
use Rattle.rs_queue.specs.Queue.{Leads, by_falling_key}
use Rattle.rs_queue.proofs.QueueFacts.{AreApart, Climbs-queue, key_of}
use Rattle.rs_queue.proofs.RunFacts.{AreApart-from_heap, AreApart-from_run, Leads-bound, Leads-nothing, sorted-from_heap, sorted-from_run, sorted-nothing}
use Rattle.rs_queue.proofs.queue.Queue.pop.Goals.{in-Some, in-None, in-Some-pop, in-None-pop}
use Rattle.rs_queue.proofs.queue.Queue.pop.Goals as goal

pub invariant_of-self : goal.invariant_of-self
invariant_of-self g c =
    let cmp = g.K.Ord.cmp in
    let heap = heap_items c.self.inside.heap in
    let rest = c.pop_front.new.self.items in
    elim c.match-pop_front.branch [
      | in-Some w ↦ (
        c.self.invariant.0,
        (subst (Climbs cmp key_of) w.in-Some.ensures.items c.self.invariant.1).1,
        AreApart-from_run cmp g.met.K.Ord.total w.in-Some.entry heap rest (subst (λ pairs. AreApart cmp (heap ++ pairs)) w.in-Some.ensures.items c.self.invariant.2),
      )
      | in-None w ↦
          subst (λ pairs. IsHeap (by_falling_key cmp) heap × Climbs cmp key_of pairs × AreApart cmp (heap ++ pairs)) w.in-None.ensures.items c.self.invariant
    ]

pub invariant_of-self-else-run_leads : goal.invariant_of-self-else-run_leads
invariant_of-self-else-run_leads g c =
    let cmp = g.K.Ord.cmp in
    let heap = heap_items c.self.inside.heap in
    elim c.match-pop.branch [
      | in-Some-pop w ↦ (
        (w.in-Some-pop.ensures.heap_order c.self.invariant.0).0,
        c.self.invariant.1,
        AreApart-from_heap cmp g.met.K.Ord.total w.in-Some-pop.entry heap (heap_items c.pop.new.self) c.self.inside.run.items w.in-Some-pop.ensures.permutation c.self.invariant.2,
      )
      | in-None-pop w ↦ rw w.in-None-pop.ensures.unchanged.0 c.self.invariant
    ]

pub returns-after-pop_front-clause-first : goal.returns-after-pop_front-clause-first
returns-after-pop_front-clause-first g c =
    let cmp = g.K.Ord.cmp in
    let heap = heap_items c.self.inside.heap in
    let run = c.self.inside.run.items in
    let rest = c.pop_front.new.self.items in
    elim c.match-pop_front.branch [
      | in-Some w ↦ rw w.result-is
          (let is = w.in-Some.ensures.items in
          let first = sorted-from_run cmp g.met.K.Ord.total w.in-Some.entry heap rest
          (subst (λ pairs. AreApart cmp (heap ++ pairs)) is c.self.invariant.2)
          (subst (λ pairs. Leads cmp pairs heap) is (c.if-run_leads.ensures.run refl))
          (subst (Climbs cmp key_of) is c.self.invariant.1) in
          ap (λ pair. Some pair) w.into_pair.ensures
          ∙ ap (λ queue. slice_get queue 0) (sym (ap (λ pairs. sorted cmp key_of (heap ++ pairs)) is ∙ first) ∙ c.self.view_is))
      | in-None w ↦ rw w.result-is
          (let none = sym c.self.inside.run.ok.0 ∙ w.in-None.ensures.cases.0 in
          let nothing = sorted-nothing cmp g.met.K.Ord.total heap run (Leads-nothing cmp g.met.K.Ord.total run heap none (c.if-run_leads.ensures.run refl)) none in
          ap (λ queue. slice_get queue 0) (sym nothing ∙ c.self.view_is))
    ]

pub returns-after-pop_front-clause-rest : goal.returns-after-pop_front-clause-rest
returns-after-pop_front-clause-rest g c =
    let cmp = g.K.Ord.cmp in
    let heap = heap_items c.self.inside.heap in
    let run = c.self.inside.run.items in
    let rest = c.pop_front.new.self.items in
    elim c.match-pop_front.branch [
      | in-Some w ↦
          let is = w.in-Some.ensures.items in
          let first = sorted-from_run cmp g.met.K.Ord.total w.in-Some.entry heap rest
          (subst (λ pairs. AreApart cmp (heap ++ pairs)) is c.self.invariant.2)
          (subst (λ pairs. Leads cmp pairs heap) is (c.if-run_leads.ensures.run refl))
          (subst (Climbs cmp key_of) is c.self.invariant.1) in
          ap (drop 1) (sym (ap (λ pairs. sorted cmp key_of (heap ++ pairs)) is ∙ first) ∙ c.self.view_is)
      | in-None w ↦
          let none = sym c.self.inside.run.ok.0 ∙ w.in-None.ensures.cases.0 in
          let nothing = sorted-nothing cmp g.met.K.Ord.total heap run (Leads-nothing cmp g.met.K.Ord.total run heap none (c.if-run_leads.ensures.run refl)) none in
          ap (λ pairs. sorted cmp key_of (heap ++ pairs)) (sym w.in-None.ensures.items) ∙ nothing ∙ ap (drop 1) (sym nothing ∙ c.self.view_is)
    ]

pub returns-after-pop_front-clause-ordered : goal.returns-after-pop_front-clause-ordered
returns-after-pop_front-clause-ordered g c =
    subst (Climbs g.K.Ord.cmp key_of) c.self.view_is (Climbs-queue g.K.Ord.cmp g.met.K.Ord.total (heap_items c.self.inside.heap ++ c.self.inside.run.items) c.self.invariant.2)

pub returns-after-pop-clause-first : goal.returns-after-pop-clause-first
returns-after-pop-clause-first g c =
    let cmp = g.K.Ord.cmp in
    let heap = heap_items c.self.inside.heap in
    let run = c.self.inside.run.items in
    let leads = c.if-run_leads.ensures.heap refl in
    elim c.match-pop.branch [
      | in-Some-pop w ↦ rw w.result-is
          (let held : 0 < c.self.inside.heap.data.len = w.in-Some-pop.ensures.variant.0 refl in
          let some : 0 < length heap = omega (arith, c.self.inside.heap.data.ok.0) in
          let first = sorted-from_heap cmp g.met.K.Ord.total w.in-Some-pop.entry heap (heap_items c.pop.new.self) run w.in-Some-pop.ensures.permutation c.self.invariant.2
          (w.in-Some-pop.ensures.below_top c.self.invariant.0) (Leads-bound cmp g.met.K.Ord.total w.in-Some-pop.entry heap run some w.in-Some-pop.ensures.top leads) in
          ap (λ pair. Some pair) w.into_pair-in-Some-pop.ensures ∙ ap (λ queue. slice_get queue 0) (sym first ∙ c.self.view_is))
      | in-None-pop w ↦ rw w.result-is
          (let none = sym c.self.inside.heap.data.ok.0 ∙ w.in-None-pop.ensures.none in
          let nothing = sorted-nothing cmp g.met.K.Ord.total heap run none (Leads-nothing cmp g.met.K.Ord.total heap run none leads) in
          ap (λ queue. slice_get queue 0) (sym nothing ∙ c.self.view_is))
    ]

pub returns-after-pop-clause-rest : goal.returns-after-pop-clause-rest
returns-after-pop-clause-rest g c =
    let cmp = g.K.Ord.cmp in
    let heap = heap_items c.self.inside.heap in
    let run = c.self.inside.run.items in
    let leads = c.if-run_leads.ensures.heap refl in
    elim c.match-pop.branch [
      | in-Some-pop w ↦
          let held : 0 < c.self.inside.heap.data.len = w.in-Some-pop.ensures.variant.0 refl in
          let some : 0 < length heap = omega (arith, c.self.inside.heap.data.ok.0) in
          let first = sorted-from_heap cmp g.met.K.Ord.total w.in-Some-pop.entry heap (heap_items c.pop.new.self) run w.in-Some-pop.ensures.permutation c.self.invariant.2
          (w.in-Some-pop.ensures.below_top c.self.invariant.0) (Leads-bound cmp g.met.K.Ord.total w.in-Some-pop.entry heap run some w.in-Some-pop.ensures.top leads) in
          ap (drop 1) (sym first ∙ c.self.view_is)
      | in-None-pop w ↦
          let none = sym c.self.inside.heap.data.ok.0 ∙ w.in-None-pop.ensures.none in
          let nothing = sorted-nothing cmp g.met.K.Ord.total heap run none (Leads-nothing cmp g.met.K.Ord.total heap run none leads) in
          ap (λ pairs. sorted cmp key_of (pairs ++ run)) w.in-None-pop.ensures.unchanged.0 ∙ nothing ∙ ap (drop 1) (sym nothing ∙ c.self.view_is)
    ]

pub returns-after-pop-clause-ordered : goal.returns-after-pop-clause-ordered
returns-after-pop-clause-ordered g c =
    subst (Climbs g.K.Ord.cmp key_of) c.self.view_is (Climbs-queue g.K.Ord.cmp g.met.K.Ord.total (heap_items c.self.inside.heap ++ c.self.inside.run.items) c.self.invariant.2)

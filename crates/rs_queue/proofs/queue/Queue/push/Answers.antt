-- The new pair goes on with the run or joins the heap, so the queue has it at the place of its key.
use Rattle.std.proofs.Common.{◌++◌, [], ◌∷◌, refl, sym, ◌∙◌, ap, subst}
use Rattle.std.specs.BinaryHeap.{heap_items}
use Rattle.rs_order.specs.Climbing.{Climbs}
use Rattle.rs_order.specs.Sorting.{put, sorted}
use Rattle.rs_queue.specs.Queue.{has_key}
use Rattle.rs_queue.proofs.QueueFacts.{key_of}
use Rattle.rs_queue.proofs.RunFacts.{AreApart-in_heap, AreApart-on_run, sorted-in_heap, sorted-on_run}
use Rattle.rs_queue.proofs.queue.Queue.push.Goals.{in-Ok, in-Err, in-Ok-push, in-Err-push}
use Rattle.rs_queue.proofs.queue.Queue.push.Goals as goal

pub invariant_of-self : goal.invariant_of-self
invariant_of-self g c =
    let cmp = g.K.Ord.cmp in
    let heap = heap_items c.self.inside.heap in
    let run = c.self.inside.run.items in
    let free = ap (λ pair. has_key cmp (key_of pair) (sorted cmp key_of (heap ++ run))) c.new.ensures ∙ ap (has_key cmp c.args.key) c.self.view_is ∙ c.requires in
    elim c.match-push_back.branch [
      | in-Ok w ↦ rw w.in-Ok.ensures.items (
        c.self.invariant.0,
        subst (λ pair. Climbs cmp key_of (run ++ pair ∷ [])) (sym c.new.ensures) (c.if-is_behind.ensures c.args.item refl),
        AreApart-on_run cmp g.met.K.Ord.total c.new.result heap run free c.self.invariant.2,
      )
      | in-Err w ↦ rw w.in-Err.ensures.items c.self.invariant
    ]

pub invariant_of-self-else-is_behind : goal.invariant_of-self-else-is_behind
invariant_of-self-else-is_behind g c =
    let cmp = g.K.Ord.cmp in
    let heap = heap_items c.self.inside.heap in
    let run = c.self.inside.run.items in
    let pair = c.new-else-is_behind.result in
    let free = ap (λ pair. has_key cmp (key_of pair) (sorted cmp key_of (heap ++ run))) c.new-else-is_behind.ensures ∙ ap (has_key cmp c.args.key) c.self.view_is ∙ c.requires in
    elim c.match-push.branch [
      | in-Ok-push w ↦ (
        w.in-Ok-push.ensures.heap_order c.self.invariant.0,
        c.self.invariant.1,
        AreApart-in_heap cmp g.met.K.Ord.total pair heap (heap_items c.push.new.self) run w.in-Ok-push.ensures.permutation free c.self.invariant.2,
      )
      | in-Err-push w ↦ rw w.in-Err-push.ensures.unchanged.0 c.self.invariant
    ]

pub returns-after-push_back-clause-ok : goal.returns-after-push_back-clause-ok
returns-after-push_back-clause-ok g c =
    let cmp = g.K.Ord.cmp in
    let heap = heap_items c.self.inside.heap in
    let run = c.self.inside.run.items in
    elim c.match-push_back.branch [
      | in-Ok w ↦ rw w.result-is
          (ap (λ pairs. sorted cmp key_of (heap ++ pairs)) w.in-Ok.ensures.items
          ∙ sorted-on_run cmp g.met.K.Ord.total c.new.result heap run
          ∙ ap (λ pair. put cmp key_of pair (sorted cmp key_of (heap ++ run))) c.new.ensures
          ∙ ap (put cmp key_of (c.args.key, c.args.item)) c.self.view_is)
      | in-Err w ↦ rw w.result-is tt
    ]

pub returns-after-push-clause-ok : goal.returns-after-push-clause-ok
returns-after-push-clause-ok g c =
    let cmp = g.K.Ord.cmp in
    let heap = heap_items c.self.inside.heap in
    let run = c.self.inside.run.items in
    let pair = c.new-else-is_behind.result in
    let free = ap (λ pair. has_key cmp (key_of pair) (sorted cmp key_of (heap ++ run))) c.new-else-is_behind.ensures ∙ ap (has_key cmp c.args.key) c.self.view_is ∙ c.requires in
    elim c.match-push.branch [
      | in-Ok-push w ↦ rw w.result-is
          (sorted-in_heap cmp g.met.K.Ord.total pair heap (heap_items c.push.new.self) run w.in-Ok-push.ensures.permutation free c.self.invariant.2
          ∙ ap (λ pair. put cmp key_of pair (sorted cmp key_of (heap ++ run))) c.new-else-is_behind.ensures
          ∙ ap (put cmp key_of (c.args.key, c.args.item)) c.self.view_is)
      | in-Err-push w ↦ rw w.result-is tt
    ]

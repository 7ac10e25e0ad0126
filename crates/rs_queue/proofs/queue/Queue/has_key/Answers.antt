-- A key is in the queue where it is in the heap or in the run.
use Rattle.std.proofs.Common.{sym, ◌∙◌, ap}
use Rattle.std.specs.BinaryHeap.{heap_items}
use Rattle.std.specs.List.{list_any}
use Rattle.std.specs.Ordering.{is_eq}
use Rattle.rs_queue.specs.Queue.{has_key}
use Rattle.rs_queue.proofs.RunFacts.{has_key-in_heap, has_key-in_run}
use Rattle.rs_queue.proofs.queue.Queue.has_key.Goals as goal

pub returns-then-has_entry : goal.returns-then-has_entry
returns-then-has_entry g c =
    let asked = c.has_entry.ensures ∙ ap (list_any (λ pair. is_eq (g.K.Ord.cmp pair.0 c.args.key.now))) c.as_slice.ensures.value in
    c.if-has_entry.true
    ∙ has_key-in_heap g.K.Ord.cmp g.met.K.Ord.total c.args.key.now (heap_items c.self.inside.heap) c.self.inside.run.items (sym asked ∙ c.if-has_entry.true)
    ∙ ap (has_key g.K.Ord.cmp c.args.key.now) c.self.view_is

pub returns-else-has_entry : goal.returns-else-has_entry
returns-else-has_entry g c =
    let asked = c.has_entry.ensures ∙ ap (list_any (λ pair. is_eq (g.K.Ord.cmp pair.0 c.args.key.now))) c.as_slice.ensures.value in
    c.run_has.ensures
    ∙ has_key-in_run g.K.Ord.cmp g.met.K.Ord.total c.args.key.now (heap_items c.self.inside.heap) c.self.inside.run.items (sym asked ∙ c.if-has_entry.false)
    ∙ ap (has_key g.K.Ord.cmp c.args.key.now) c.self.view_is

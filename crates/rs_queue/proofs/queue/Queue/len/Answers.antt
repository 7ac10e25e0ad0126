-- Sorting keeps the number of pairs.
use Rattle.std.proofs.Common.{◌+◌, ◌++◌, length, sym, ◌∙◌, ap}
use Rattle.std.proofs.lemmas.List.{length-append}
use Rattle.std.specs.BinaryHeap.{heap_items}
use Rattle.rs_queue.proofs.QueueFacts.{length-sorted}
use Rattle.rs_queue.proofs.queue.Queue.len.Goals as goal

pub returns : goal.returns
returns g c =
    let heap = heap_items c.self.inside.heap in
    let run = c.self.inside.run.items in
    ap (λ m. m + c.len-2.result) (c.len.ensures ∙ c.self.inside.heap.data.ok.0)
    ∙ ap (λ n. length heap + n) (c.len-2.ensures ∙ c.self.inside.run.ok.0)
    ∙ sym (length-append heap run)
    ∙ sym (length-sorted g.K.Ord.cmp (heap ++ run))
    ∙ ap length c.self.view_is

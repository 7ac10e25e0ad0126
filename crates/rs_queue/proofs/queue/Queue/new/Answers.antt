-- A queue without a pair.
use Rattle.std.proofs.Common.{[], ◌++◌, ◌≡◌, List, sym, ◌∙◌, ap, subst}
use Rattle.std.specs.List.{IsDistinct}
use Rattle.rs_order.specs.Climbing.{Climbs}
use Rattle.rs_order.specs.Sorting.{sorted}
use Rattle.rs_queue.proofs.QueueFacts.{AreApart, key_of}
use Rattle.rs_queue.proofs.queue.Queue.new.Goals as goal

no-pairs : {X : Type 0} {heap run : List X} → heap ≡ [] → run ≡ [] → heap ++ run ≡ []
no-pairs {run = run} none more = ap (λ pairs. pairs ++ run) none ∙ more

pub invariant_of-result : goal.invariant_of-result
unfolding IsDistinct
invariant_of-result g c = (
  c.new.ensures.heap_order,
  subst (Climbs g.K.Ord.cmp key_of) (sym c.new-2.ensures.items) tt,
  subst (AreApart g.K.Ord.cmp) (sym (no-pairs c.new.ensures.items c.new-2.ensures.items)) tt,
)

pub returns : goal.returns
returns g c = ap (sorted g.K.Ord.cmp key_of) (no-pairs c.new.ensures.items c.new-2.ensures.items)

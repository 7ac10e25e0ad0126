-- Where the next list is the one that is looked for, it is one of those that are left.
use Rattle.std.proofs.Common.{◌+◌, ◌||◌, Bool, drop, sym, ◌∙◌, ap}
use Rattle.std.specs.Cmp.Lexicographic.{pointwise}
use Rattle.rs_value.specs.contracts.value.ValuePartialEq.TheImpl as value
use Rattle.rs_outputs.specs.Seen.{has_list}
use Rattle.rs_outputs.specs.Waiting.{lists_in}
use Rattle.rs_outputs.proofs.WaitingFacts.{has_list-next}
use Rattle.rs_outputs.proofs.outputs.is_among.Goals as goal

pub returns-then-eq : goal.returns-then-eq
returns-then-eq c =
    sym (ap (λ (b : Bool). b || has_list c.args.values.now (lists_in (drop (c.loop-list.list-index + 1) c.args.lists.now))) c.if-eq.true)
    ∙ sym (has_list-next c.args.values.now c.args.lists.now c.loop-list.list-index c.list-item.result c.eq.result c.loop-list-test.true c.list-item.is
    (c.eq.ensures ∙ ap (pointwise value.ghosts.eq c.args.values.now) c.as_slice.ensures.value))
    ∙ c.loop-list.invariant

pub loop-list-preserved : goal.loop-list-preserved
loop-list-preserved c =
    sym (has_list-next c.args.values.now c.args.lists.now c.loop-list.list-index c.list-item.result c.eq.result c.loop-list-test.true c.list-item.is
    (c.eq.ensures ∙ ap (pointwise value.ghosts.eq c.args.values.now) c.as_slice.ensures.value)
    ∙ ap (λ (b : Bool). b || has_list c.args.values.now (lists_in (drop (c.loop-list.list-index + 1) c.args.lists.now))) c.if-eq.false)
    ∙ c.loop-list.invariant

-- The list that waits from now on is none of the others.
use Rattle.std.proofs.Common.{sym, ◌∙◌, ap}
use Rattle.rs_outputs.specs.Seen.{Seen, has_list}
use Rattle.rs_outputs.proofs.WaitingFacts.{are_new-pushed}
use Rattle.rs_outputs.proofs.outputs.Outputs.add_in_room.Goals as goal

pub invariant_of-self : goal.invariant_of-self
invariant_of-self c =
    are_new-pushed c.self.inside.placed c.self.inside.waiting.items c.push_back_reserved.new.self.items c.args.values c.push_back_reserved.ensures.items c.self.invariant
    (ap (λ (seen : Seen). has_list c.args.values.items seen.lists) c.self.view_is
    ∙ sym (ap (λ values. has_list values c.args.self.now.lists) c.deref.ensures.value) ∙ sym c.has.ensures ∙ c.if-not-has.true)

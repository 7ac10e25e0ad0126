use Rattle.std.proofs.Common.{◌∙◌}
use Rattle.rs_plain.proofs.FirstFacts.{AreKept-added, AreKept-left}
use Rattle.rs_plain.proofs.sets.first_rows.Goals as goal

pub loop-row-preserved-in-Continue-branch-2 : goal.loop-row-preserved-in-Continue-branch-2
loop-row-preserved-in-Continue-branch-2 c =
    AreKept-added c.loop-row.yielded c.loop-row.kept.items c.push.new.self.items c.loop-row.seen.lists c.add_copy.new.self.lists c.in-Some.row c.deref.result.now c.in_ok-add_copy.field-0
    c.loop-row.invariant (c.deref.ensures.value ∙ c.items.ensures) c.in_ok-add_copy.ensures.new c.if-branch.true c.in_ok-add_copy.ensures.ok c.in_ok-push.ensures.items

pub loop-row-preserved : goal.loop-row-preserved
loop-row-preserved c =
    AreKept-left c.loop-row.yielded c.loop-row.kept.items c.loop-row.seen.lists c.add_copy.new.self.lists c.in-Some.row c.deref.result.now c.in_ok-add_copy.field-0
    c.loop-row.invariant (c.deref.ensures.value ∙ c.items.ensures) c.in_ok-add_copy.ensures.new c.if-branch.false c.in_ok-add_copy.ensures.ok

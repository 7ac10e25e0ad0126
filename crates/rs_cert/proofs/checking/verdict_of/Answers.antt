use Rattle.std.proofs.Common.{sym, ◌∙◌, ap}
use Rattle.rs_order.specs.Last.{last_of}
use Rattle.rs_cert.proofs.CheckFacts.{claimed-alike, last-of_first, order-alike}
use Rattle.rs_cert.proofs.FirstFacts.{first-order}
use Rattle.rs_cert.proofs.checking.verdict_of.Goals as goal

pub returns-in_default : goal.returns-in_default
returns-in_default c = (
  c.requires.falls,
  λ first. c.in_default.ensures
      (order-alike _ _ _ _ _ _ (sym (c.deref.ensures.value ∙ c.items-lefts.ensures)) (sym (c.rows.ensures ∙ c.requires.rights)) (sym (c.deref-2.ensures.value ∙ c.items.ensures))
      (first-order c.args.cert.now.left.rows c.args.cert.now.right.rows c.args.cert.now.pairs first.first)),
)

pub is_left_reached-requires-clause-last : goal.is_left_reached-requires-clause-last
is_left_reached-requires-clause-last c =
    c.in-InOrder.ensures.1
    ∙ ap last_of (claimed-alike _ _ _ _ _ _ (c.deref.ensures.value ∙ c.items-lefts.ensures) (c.rows.ensures ∙ c.requires.rights) (c.deref-2.ensures.value ∙ c.items.ensures))
    ∙ last-of_first c.args.cert.now (c.are_first.ensures.0 c.if-not-are_first.false)

pub is_right_reached-requires-clause-last : goal.is_right_reached-requires-clause-last
is_right_reached-requires-clause-last c =
    c.in-InOrder.ensures.1
    ∙ ap last_of (claimed-alike _ _ _ _ _ _ (c.deref.ensures.value ∙ c.items-lefts.ensures) (c.rows.ensures ∙ c.requires.rights) (c.deref-2.ensures.value ∙ c.items.ensures))
    ∙ last-of_first c.args.cert.now (c.are_first.ensures.0 c.if-not-are_first.false)

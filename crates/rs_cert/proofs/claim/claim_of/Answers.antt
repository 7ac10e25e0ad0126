use Rattle.std.proofs.Common.{Some, sym, ◌∙◌, ap}
use Rattle.rs_cert.proofs.ClaimFacts.{last-more, no_pair, not_behind, order-more}
use Rattle.rs_cert.proofs.claim.claim_of.Goals as goal

pub returns-in_default : goal.returns-in_default
returns-in_default c = λ order.
    no_pair c.args.lefts.now c.args.rights.now c.args.pairs.now c.loop-left.left-index _ c.loop-left-test.true c.in_default.ensures order

pub returns-then-not-comes_behind : goal.returns-then-not-comes_behind
returns-then-not-comes_behind c = λ order.
    not_behind c.args.lefts.now c.args.rights.now c.args.pairs.now c.loop-left.left-index _ c.loop-left-test.true
    c.loop-left.last c.in-Some.pair c.loop-left.invariant.last c.in-Some.ensures.0 (sym c.comes_behind.ensures ∙ c.if-not-comes_behind.true) order

pub loop-left-preserved : goal.loop-left-preserved
loop-left-preserved c = record {
  order =
      order-more c.args.lefts.now c.args.rights.now c.args.pairs.now c.loop-left.left-index _ c.loop-left-test.true
      c.loop-left.last c.in-Some.pair c.loop-left.invariant.last c.in-Some.ensures.0 c.loop-left.invariant.order
      c.in-Some.ensures.1
      (sym c.comes_behind.ensures ∙ c.if-not-comes_behind.false);
  last = ap Some c.in-Some.ensures.0 ∙ sym (last-more c.args.lefts.now c.args.rights.now c.args.pairs.now c.loop-left.left-index _ c.loop-left-test.true);
}

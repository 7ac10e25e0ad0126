use Rattle.std.proofs.Common.{◌≡◌, ◌∙◌, ◌+◌, ◌<◌, suc, List, Some, None, Ok, length, ap, inl, inr, subst, sym, arith}
use Rattle.rs_value.proofs.ResultFacts.{given-err}
use Rattle.rs_words.specs.Certs.{AreGiven}
use Rattle.rs_words.proofs.GivenFacts.{given-more, given-same}
use Rattle.rs_feed.specs.declared.feed_row.FeedRow.{FeedRow}
use Rattle.rs_feed_join.specs.declared.fault.JoinFault.TheVariants.{Memory}
use Rattle.rs_feed_join.specs.Answers.{IsNext, MayBe}
use Rattle.rs_feed_join.specs.Joins.{FeedJoinState, IsAfter}
use Rattle.rs_words.proofs.GatheringFacts.{Gathered, gathered-all, gathered-more, gathered-none, gathered-short, gathered-stops, gathered-wanted, given-none, size-next}
use Rattle.rs_words.proofs.PuttingFacts.{leaves-none, leaves-short, leaves-then, leaves-well, may-short, went_well}
use Rattle.rs_words.proofs.certificate.first_pairs.Goals as goal

pub loop-index-init : goal.loop-index-init
loop-index-init g c = record {
  given = ap (λ (join : FeedJoinState). join.given) c.requires.undrawn;
  whole = ap (λ (join : FeedJoinState). join.broken) c.requires.undrawn;
  leaves = leaves-none c.args.join.now (g.L.Feed.state c.args.left.now) (g.R.Feed.state c.args.right.now) c.requires.undrawn c.requires.left c.requires.right;
  size = ap length c.new-pairs.ensures.items;
  are_given = given-none c.args.join.now c.new-pairs.result.items c.requires.undrawn c.new-pairs.ensures.items;
  gathered = λ lefts rights left right. gathered-none lefts rights c.args.join.now c.new-pairs.result.items c.requires.undrawn c.new-pairs.ensures.items;
}

pub returns-in_err-pair-clause-pairs : goal.returns-in_err-pair-clause-pairs
returns-in_err-pair-clause-pairs g c =
    let why = c.in_err-pair.field-0.0 in
    rw (given-err c.from_residual.result why c.from_residual.ensures)
    (λ lefts rights left right.
    gathered-stops lefts rights c.loop-index.join c.next_pair.new.join c.loop-index.index c.loop-index.invariant.given c.loop-index.pairs.items (c.loop-index.invariant.gathered lefts rights)
    why c.in_err-pair.ensures.after left right (c.in_err-pair.ensures.next lefts rights left right) c.args.count c.loop-index-test.true)

pub returns-in_err-pair-clause-leaves : goal.returns-in_err-pair-clause-leaves
returns-in_err-pair-clause-leaves g c =
    rw (given-err c.from_residual.result c.in_err-pair.field-0.0 c.from_residual.ensures)
    (leaves-then c.loop-index.join c.next_pair.new.join (g.L.Feed.state c.args.left.now) (g.L.Feed.state c.loop-index.left) (g.L.Feed.state c.next_pair.new.left)
    (g.R.Feed.state c.args.right.now) (g.R.Feed.state c.loop-index.right) (g.R.Feed.state c.next_pair.new.right) _ c.loop-index.invariant.leaves c.in_err-pair.ensures.leaves)

pub returns-in_err-pair-clause-whole : goal.returns-in_err-pair-clause-whole
returns-in_err-pair-clause-whole g c = rw (given-err c.from_residual.result c.in_err-pair.field-0.0 c.from_residual.ensures) (inr c.in_err-pair.ensures.after.broken)

pub returns-in_err-add_numbers-in-Some-clause-pairs : goal.returns-in_err-add_numbers-in-Some-clause-pairs
returns-in_err-add_numbers-in-Some-clause-pairs g c =
    let join = c.next_pair.new.join in
    let inv = c.loop-index.invariant in
    rw (given-err c.from_residual-in_err-add_numbers-in-Some.result Memory c.from_residual-in_err-add_numbers-in-Some.ensures)
    (λ lefts rights left right.
    gathered-short lefts rights c.loop-index.join join c.loop-index.index inv.given c.loop-index.pairs.items (inv.gathered lefts rights) c.in-Some.pair
    (subst (λ pair. IsAfter c.loop-index.join join (Ok pair)) c.in-Some.is c.in_ok-pair.ensures.after) (may-short 1 lefts join.left left) (may-short 2 rights join.right right)
    (subst (λ pair. MayBe 1 lefts join.left (Ok pair) → MayBe 2 rights join.right (Ok pair) → IsNext lefts rights c.loop-index.join.given join.left join.right (Ok pair)) c.in-Some.is (c.in_ok-pair.ensures.next lefts rights))
    c.args.count c.loop-index-test.true)

pub returns-in_err-add_numbers-in-Some-clause-leaves : goal.returns-in_err-add_numbers-in-Some-clause-leaves
returns-in_err-add_numbers-in-Some-clause-leaves g c =
    let join = c.next_pair.new.join in
    let l0 = g.L.Feed.state c.args.left.now in
    let l1 = g.L.Feed.state c.loop-index.left in
    let l2 = g.L.Feed.state c.next_pair.new.left in
    let r0 = g.R.Feed.state c.args.right.now in
    let r1 = g.R.Feed.state c.loop-index.right in
    let r2 = g.R.Feed.state c.next_pair.new.right in
    rw (given-err c.from_residual-in_err-add_numbers-in-Some.result Memory c.from_residual-in_err-add_numbers-in-Some.ensures)
    (leaves-short join l0 l2 r0 r2 None
    (leaves-then c.loop-index.join join l0 l1 l2 r0 r1 r2 went_well c.loop-index.invariant.leaves (leaves-well join l1 l2 r1 r2 _ c.in_ok-pair.ensures.leaves)))

pub returns-in-None-clause-pairs : goal.returns-in-None-clause-pairs
returns-in-None-clause-pairs g c = λ lefts rights left right.
    let join = c.next_pair.new.join in
    let inv = c.loop-index.invariant in
    gathered-all lefts rights c.loop-index.join join c.loop-index.index inv.given c.loop-index.pairs.items (inv.gathered lefts rights)
    (subst (λ pair. IsAfter c.loop-index.join join (Ok pair)) c.in-None.is c.in_ok-pair.ensures.after) left right
    (subst (λ pair. MayBe 1 lefts join.left (Ok pair) → MayBe 2 rights join.right (Ok pair) → IsNext lefts rights c.loop-index.join.given join.left join.right (Ok pair)) c.in-None.is (c.in_ok-pair.ensures.next lefts rights) left right)
    c.args.count c.loop-index-test.true

pub returns-in-None-clause-given : goal.returns-in-None-clause-given
returns-in-None-clause-given g c =
    let join = c.next_pair.new.join in
    given-same c.loop-index.join join c.loop-index.pairs.items (record {
      before = c.loop-index.invariant.leaves.kept;
      kept = c.in_ok-pair.ensures.leaves.kept;
      after = subst (λ pair. IsAfter c.loop-index.join join (Ok pair)) c.in-None.is c.in_ok-pair.ensures.after;
      next = λ lefts rights. subst (λ pair. MayBe 1 lefts join.left (Ok pair) → MayBe 2 rights join.right (Ok pair) → IsNext lefts rights c.loop-index.join.given join.left join.right (Ok pair)) c.in-None.is (c.in_ok-pair.ensures.next lefts rights);
    }) c.loop-index.invariant.are_given

pub returns-in-None-clause-enough : goal.returns-in-None-clause-enough
returns-in-None-clause-enough g c =
    let after = subst (λ pair. IsAfter c.loop-index.join c.next_pair.new.join (Ok pair)) c.in-None.is c.in_ok-pair.ensures.after in
    inr (subst (λ n. n < c.args.count) (sym c.loop-index.invariant.size) c.loop-index-test.true, after.finished)

pub returns-in-None-clause-leaves : goal.returns-in-None-clause-leaves
returns-in-None-clause-leaves g c =
    let join = c.next_pair.new.join in
    let l1 = g.L.Feed.state c.loop-index.left in
    let l2 = g.L.Feed.state c.next_pair.new.left in
    let r1 = g.R.Feed.state c.loop-index.right in
    let r2 = g.R.Feed.state c.next_pair.new.right in
    leaves-then c.loop-index.join join (g.L.Feed.state c.args.left.now) l1 l2 (g.R.Feed.state c.args.right.now) r1 r2 went_well c.loop-index.invariant.leaves
    (leaves-well join l1 l2 r1 r2 _ c.in_ok-pair.ensures.leaves)

pub returns-in-None-clause-whole : goal.returns-in-None-clause-whole
returns-in-None-clause-whole g c = (c.in_ok-pair.ensures.after).broken

pub loop-index-preserved : goal.loop-index-preserved
loop-index-preserved g c =
    let join = c.next_pair.new.join in
    let inv = c.loop-index.invariant in
    let n = c.loop-index.index in
    let l1 = g.L.Feed.state c.loop-index.left in
    let l2 = g.L.Feed.state c.next_pair.new.left in
    let r1 = g.R.Feed.state c.loop-index.right in
    let r2 = g.R.Feed.state c.next_pair.new.right in
    let next : suc n ≡ n + 1 = omega arith in
    let pair = c.in-Some.pair in
    let added = c.in_ok-add_numbers-in-Some.ensures in
    let after = subst (λ pair. IsAfter c.loop-index.join join (Ok pair)) c.in-Some.is c.in_ok-pair.ensures.after in
    let found : (lefts rights : List FeedRow) → MayBe 1 lefts join.left (Ok (Some pair)) → MayBe 2 rights join.right (Ok (Some pair)) → IsNext lefts rights c.loop-index.join.given join.left join.right (Ok (Some pair))
    = λ lefts rights. subst (λ pair. MayBe 1 lefts join.left (Ok pair) → MayBe 2 rights join.right (Ok pair) → IsNext lefts rights c.loop-index.join.given join.left join.right (Ok pair)) c.in-Some.is (c.in_ok-pair.ensures.next lefts rights) in record {
      given = after.given ∙ ap suc inv.given ∙ next;
      whole = after.broken;
      leaves = leaves-then c.loop-index.join join (g.L.Feed.state c.args.left.now) l1 l2 (g.R.Feed.state c.args.right.now) r1 r2 went_well inv.leaves (leaves-well join l1 l2 r1 r2 _ c.in_ok-pair.ensures.leaves);
      size = size-next c.loop-index.pairs.items c.add_numbers.new.pairs.items (pair.left, pair.right) n added inv.size;
      are_given = subst (AreGiven join) (sym added) (given-more c.loop-index.join join pair c.loop-index.pairs.items (record { before = inv.leaves.kept; kept = c.in_ok-pair.ensures.leaves.kept; after = after; next = found }) inv.are_given);
      gathered = λ lefts rights left right.
          subst (λ list. Gathered lefts rights (n + 1) list join.left join.right) (sym added)
          (gathered-more lefts rights c.loop-index.join join n inv.given c.loop-index.pairs.items (inv.gathered lefts rights) pair after left right (found lefts rights));
    }

pub returns-clause-pairs : goal.returns-clause-pairs
returns-clause-pairs g c = λ lefts rights left right.
    let inv = c.loop-index.invariant in
    let n = c.loop-index.index in
    let all : n ≡ c.args.count = omega (arith, c.loop-index-test.false, c.loop-index.auto.index-end) in
    gathered-wanted lefts rights c.args.count n c.loop-index.pairs.items c.loop-index.join all inv.given (inv.gathered lefts rights left right)

pub returns-clause-enough : goal.returns-clause-enough
returns-clause-enough g c =
    let all : c.loop-index.index ≡ c.args.count = omega (arith, c.loop-index-test.false, c.loop-index.auto.index-end) in
    inl (c.loop-index.invariant.size ∙ all)

use Rattle.std.proofs.Common.{◌≡◌, ◌∙◌, ◌+◌, suc, true, false, Ok, ap, refl, subst, arith}
use Rattle.rs_value.proofs.ResultFacts.{given-err}
use Rattle.rs_feed_join.specs.Joins.{FeedJoinState}
use Rattle.rs_words.specs.Putting.{IsAfterPut, PutsNext}
use Rattle.rs_words.proofs.PuttingFacts.{broken-after, leaves-none, leaves-then, may-before, puts-all, puts-end, puts-fault, so-far-more, so-far-none, went_well}
use Rattle.rs_words.proofs.putting.put_each.Goals as goal

pub loop-index-init : goal.loop-index-init
loop-index-init g c = record {
  given = ap (λ (join : FeedJoinState). join.given) c.requires.undrawn;
  whole = ap (λ (join : FeedJoinState). join.broken) c.requires.undrawn;
  going = ap (λ (join : FeedJoinState). join.finished) c.requires.undrawn;
  leaves = leaves-none c.args.join.now (g.L.Feed.state c.args.left.now) (g.R.Feed.state c.args.right.now) c.requires.undrawn c.requires.left c.requires.right;
  puts = λ beside lefts rights left right. so-far-none lefts rights c.args.join.now (record beside { out = g.O.Sink.state c.args.out.now }) c.requires.undrawn;
}

pub returns-in_err-put_next-clause-puts : goal.returns-in_err-put_next-clause-puts
returns-in_err-put_next-clause-puts g c = λ beside.
    let fault = c.in_err-put_next.field-0.0 in
    let old = record beside { out = g.O.Sink.state c.args.out.now } in
    let middle = record beside { out = g.O.Sink.state c.loop-index.out } in
    let new = record beside { out = g.O.Sink.state c.put_next.new.out } in
    rw (given-err c.from_residual.result fault c.from_residual.ensures)
    (λ lefts rights left right.
    puts-fault c.args.count c.loop-index.index c.loop-index.join c.put_next.new.join c.loop-index-test.true c.loop-index.invariant.given lefts rights old middle new fault
    c.in_err-put_next.ensures.after (c.loop-index.invariant.puts beside lefts rights) left right (c.in_err-put_next.ensures.puts beside lefts rights left right))

pub returns-in_err-put_next-clause-leaves : goal.returns-in_err-put_next-clause-leaves
returns-in_err-put_next-clause-leaves g c =
    rw (given-err c.from_residual.result c.in_err-put_next.field-0.0 c.from_residual.ensures)
    (leaves-then c.loop-index.join c.put_next.new.join (g.L.Feed.state c.args.left.now) (g.L.Feed.state c.loop-index.left) (g.L.Feed.state c.put_next.new.left)
    (g.R.Feed.state c.args.right.now) (g.R.Feed.state c.loop-index.right) (g.R.Feed.state c.put_next.new.right) _ c.loop-index.invariant.leaves c.in_err-put_next.ensures.leaves)

pub returns-in_err-put_next-clause-broken : goal.returns-in_err-put_next-clause-broken
returns-in_err-put_next-clause-broken g c =
    rw (given-err c.from_residual.result c.in_err-put_next.field-0.0 c.from_residual.ensures)
    (broken-after c.loop-index.join c.put_next.new.join c.in_err-put_next.field-0.0 c.in_err-put_next.ensures.after)

pub returns-then-not-branch-clause-puts : goal.returns-then-not-branch-clause-puts
returns-then-not-branch-clause-puts g c = λ beside lefts rights left right.
    let ensures = c.in_ok-put_next.ensures in
    let inv = c.loop-index.invariant in
    let n = c.loop-index.index in
    let old = c.loop-index.join in
    let new = c.put_next.new.join in
    let first = record beside { out = g.O.Sink.state c.args.out.now } in
    let middle = record beside { out = g.O.Sink.state c.loop-index.out } in
    let last = record beside { out = g.O.Sink.state c.put_next.new.out } in
    let after = subst (λ b. IsAfterPut old new (Ok b)) c.if-not-branch.true ensures.after in
    puts-end lefts rights n old.left old.right first middle
    (inv.puts beside lefts rights (may-before 1 lefts old.left new.left went_well after.left_grows after.left_over left) (may-before 2 rights old.right new.right went_well after.right_grows after.right_over right))
    c.args.count c.loop-index-test.true new last
    (subst (λ m. PutsNext lefts rights m (Ok false) new.left new.right middle last) inv.given
    (subst (λ b. PutsNext lefts rights old.given (Ok b) new.left new.right middle last) c.if-not-branch.true (ensures.puts beside lefts rights left right)))
    (after.given ∙ inv.given) after.finished

pub returns-then-not-branch-clause-leaves : goal.returns-then-not-branch-clause-leaves
returns-then-not-branch-clause-leaves g c =
    leaves-then c.loop-index.join c.put_next.new.join (g.L.Feed.state c.args.left.now) (g.L.Feed.state c.loop-index.left) (g.L.Feed.state c.put_next.new.left)
    (g.R.Feed.state c.args.right.now) (g.R.Feed.state c.loop-index.right) (g.R.Feed.state c.put_next.new.right) went_well c.loop-index.invariant.leaves c.in_ok-put_next.ensures.leaves

pub returns-then-not-branch-clause-broken : goal.returns-then-not-branch-clause-broken
returns-then-not-branch-clause-broken g c = (subst (λ b. IsAfterPut c.loop-index.join c.put_next.new.join (Ok b)) c.if-not-branch.true c.in_ok-put_next.ensures.after).broken

pub loop-index-preserved : goal.loop-index-preserved
loop-index-preserved g c =
    let ensures = c.in_ok-put_next.ensures in
    let inv = c.loop-index.invariant in
    let n = c.loop-index.index in
    let old = c.loop-index.join in
    let new = c.put_next.new.join in
    let after = (subst (λ b. IsAfterPut old new (Ok b)) c.if-not-branch.false ensures.after).1 in
    let next : suc n ≡ n + 1 = omega arith in record {
      given = after.given ∙ ap suc inv.given ∙ next;
      whole = after.broken;
      going = after.finished ∙ inv.going;
      leaves = leaves-then old new (g.L.Feed.state c.args.left.now) (g.L.Feed.state c.loop-index.left) (g.L.Feed.state c.put_next.new.left)
          (g.R.Feed.state c.args.right.now) (g.R.Feed.state c.loop-index.right) (g.R.Feed.state c.put_next.new.right) went_well inv.leaves ensures.leaves;
      puts = λ beside lefts rights left right.
          let first = record beside { out = g.O.Sink.state c.args.out.now } in
          let middle = record beside { out = g.O.Sink.state c.loop-index.out } in
          let last = record beside { out = g.O.Sink.state c.put_next.new.out } in
          so-far-more lefts rights n old.left old.right first middle
          (inv.puts beside lefts rights (may-before 1 lefts old.left new.left went_well after.left_grows after.left_over left) (may-before 2 rights old.right new.right went_well after.right_grows after.right_over right))
          new.left new.right last
          (subst (λ m. PutsNext lefts rights m (Ok true) new.left new.right middle last) inv.given
          (subst (λ b. PutsNext lefts rights old.given (Ok b) new.left new.right middle last) c.if-not-branch.false (ensures.puts beside lefts rights left right)));
    }

pub returns-clause-puts : goal.returns-clause-puts
returns-clause-puts g c = λ beside lefts rights left right.
    let inv = c.loop-index.invariant in
    let n = c.loop-index.index in
    let all : n ≡ c.args.count = omega (arith, c.loop-index-test.false, c.loop-index.auto.index-end) in
    puts-all lefts rights n c.loop-index.join.left c.loop-index.join.right (record beside { out = g.O.Sink.state c.args.out.now }) (record beside { out = g.O.Sink.state c.loop-index.out })
    (inv.puts beside lefts rights left right) c.args.count c.loop-index.join refl refl all inv.given inv.going

use Rattle.std.proofs.Common.{Ok, subst}
use Rattle.rs_value.proofs.ResultFacts.{given-err}
use Rattle.rs_feed_join.specs.Answers.{IsNext}
use Rattle.rs_feed_join.specs.Joins.{IsAfter}
use Rattle.rs_events.proofs.RanFacts.{HasDone-none}
use Rattle.rs_words.specs.declared.fault.PairsFault.TheVariants.{Join, Put}
use Rattle.rs_words.proofs.PuttingFacts.{leaves-well, may-well, put-breaks, put-none, put-one}
use Rattle.rs_words.proofs.putting.put_next.Goals as goal

pub returns-in_err-pair-clause-puts : goal.returns-in_err-pair-clause-puts
returns-in_err-pair-clause-puts g c = λ beside.
    rw (given-err c.from_residual.result (Join c.in_err-pair.field-0.0) c.from_residual.ensures)
    (λ lefts rights left right. (c.in_err-pair.ensures.next lefts rights left right, HasDone-none (record beside { out = g.O.Sink.state c.args.out.now })))

pub returns-in_err-pair-clause-after : goal.returns-in_err-pair-clause-after
returns-in_err-pair-clause-after g c = rw (given-err c.from_residual.result (Join c.in_err-pair.field-0.0) c.from_residual.ensures) c.in_err-pair.ensures.after

pub returns-in_err-pair-clause-leaves : goal.returns-in_err-pair-clause-leaves
returns-in_err-pair-clause-leaves g c = rw (given-err c.from_residual.result (Join c.in_err-pair.field-0.0) c.from_residual.ensures) c.in_err-pair.ensures.leaves

pub returns-in_err-put_pair-in-Some-clause-puts : goal.returns-in_err-put_pair-in-Some-clause-puts
returns-in_err-put_pair-in-Some-clause-puts g c = λ beside.
    let why = c.in_err-put_pair-in-Some.field-0.0 in
    let join = c.next_pair.new.join in
    rw (given-err c.from_residual-in_err-put_pair-in-Some.result (Put why) c.from_residual-in_err-put_pair-in-Some.ensures)
    (λ lefts rights left right.
    put-breaks lefts rights c.args.join.now.given c.args.rank join.left join.right c.in-Some.pair c.requires.rank (record beside { out = g.O.Sink.state c.args.out.now }) (record beside { out = g.O.Sink.state c.put_pair.new.out })
    (subst (λ pair. IsNext lefts rights c.args.join.now.given join.left join.right (Ok pair)) c.in-Some.is
    (c.in_ok-pair.ensures.next lefts rights (may-well 1 lefts join.left _ left) (may-well 2 rights join.right _ right)))
    why (c.in_err-put_pair-in-Some.ensures beside))

pub returns-in_err-put_pair-in-Some-clause-after : goal.returns-in_err-put_pair-in-Some-clause-after
returns-in_err-put_pair-in-Some-clause-after g c =
    rw (given-err c.from_residual-in_err-put_pair-in-Some.result (Put c.in_err-put_pair-in-Some.field-0.0) c.from_residual-in_err-put_pair-in-Some.ensures)
    (c.in-Some.pair, subst (λ pair. IsAfter c.args.join.now c.next_pair.new.join (Ok pair)) c.in-Some.is c.in_ok-pair.ensures.after)

pub returns-in_err-put_pair-in-Some-clause-leaves : goal.returns-in_err-put_pair-in-Some-clause-leaves
returns-in_err-put_pair-in-Some-clause-leaves g c =
    rw (given-err c.from_residual-in_err-put_pair-in-Some.result (Put c.in_err-put_pair-in-Some.field-0.0) c.from_residual-in_err-put_pair-in-Some.ensures)
    (leaves-well c.next_pair.new.join (g.L.Feed.state c.args.left.now) (g.L.Feed.state c.next_pair.new.left) (g.R.Feed.state c.args.right.now) (g.R.Feed.state c.next_pair.new.right) _ c.in_ok-pair.ensures.leaves)

pub returns-in_ok-put_pair-in-Some-clause-puts : goal.returns-in_ok-put_pair-in-Some-clause-puts
returns-in_ok-put_pair-in-Some-clause-puts g c = λ beside lefts rights left right.
    let join = c.next_pair.new.join in
    put-one lefts rights c.args.join.now.given c.args.rank join.left join.right c.in-Some.pair c.requires.rank (record beside { out = g.O.Sink.state c.args.out.now }) (record beside { out = g.O.Sink.state c.put_pair.new.out })
    (subst (λ pair. IsNext lefts rights c.args.join.now.given join.left join.right (Ok pair)) c.in-Some.is
    (c.in_ok-pair.ensures.next lefts rights (may-well 1 lefts join.left _ left) (may-well 2 rights join.right _ right)))
    (c.in_ok-put_pair-in-Some.ensures beside)

pub returns-in_ok-put_pair-in-Some-clause-after : goal.returns-in_ok-put_pair-in-Some-clause-after
returns-in_ok-put_pair-in-Some-clause-after g c = (c.in-Some.pair, subst (λ pair. IsAfter c.args.join.now c.next_pair.new.join (Ok pair)) c.in-Some.is c.in_ok-pair.ensures.after)

pub returns-in_ok-put_pair-in-Some-clause-leaves : goal.returns-in_ok-put_pair-in-Some-clause-leaves
returns-in_ok-put_pair-in-Some-clause-leaves g c =
    leaves-well c.next_pair.new.join (g.L.Feed.state c.args.left.now) (g.L.Feed.state c.next_pair.new.left) (g.R.Feed.state c.args.right.now) (g.R.Feed.state c.next_pair.new.right) _ c.in_ok-pair.ensures.leaves

pub returns-in-None-clause-puts : goal.returns-in-None-clause-puts
returns-in-None-clause-puts g c = λ beside lefts rights left right.
    let join = c.next_pair.new.join in
    put-none lefts rights c.args.join.now.given join.left join.right (record beside { out = g.O.Sink.state c.args.out.now })
    (subst (λ pair. IsNext lefts rights c.args.join.now.given join.left join.right (Ok pair)) c.in-None.is
    (c.in_ok-pair.ensures.next lefts rights (may-well 1 lefts join.left _ left) (may-well 2 rights join.right _ right)))

pub returns-in-None-clause-after : goal.returns-in-None-clause-after
returns-in-None-clause-after g c = subst (λ pair. IsAfter c.args.join.now c.next_pair.new.join (Ok pair)) c.in-None.is c.in_ok-pair.ensures.after

pub returns-in-None-clause-leaves : goal.returns-in-None-clause-leaves
returns-in-None-clause-leaves g c =
    leaves-well c.next_pair.new.join (g.L.Feed.state c.args.left.now) (g.L.Feed.state c.next_pair.new.left) (g.R.Feed.state c.args.right.now) (g.R.Feed.state c.next_pair.new.right) _ c.in_ok-pair.ensures.leaves

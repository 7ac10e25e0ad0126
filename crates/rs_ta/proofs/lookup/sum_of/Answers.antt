-- One list more, and at the end all of them.
use Rattle.std.proofs.Common.{◌+◌, ◌*◌, get_or, sym, ◌∙◌, ap, subst, arith}
use Rattle.rs_ta.specs.Lists.{IsList, IsRow, list_at, rows_in, score_of}
use Rattle.rs_ta.proofs.LookupFacts.{looking-counts, looking-start, looking-step, looking-sum, looking-told}
use Rattle.rs_ta.proofs.lookup.sum_of.Goals as goal

pub loop-place-init : goal.loop-place-init
loop-place-init g c = looking-start c.args.weights.now.weight c.args.shown c.args.row (g.L.Lists.state c.args.lists.now)

pub score_in-score-requires-clause-list : goal.score_in-score-requires-clause-list
score_in-score-requires-clause-list g c =
    let count = c.lists-place-end.ensures.count in
    let inside = c.loop-place-test.true in
    subst (λ ls. IsList ls (c.loop-place.place + 1)) (sym c.loop-place.invariant.lists_are) (record { some = omega arith; within = omega arith })

pub score_in-score-requires-clause-row : goal.score_in-score-requires-clause-row
score_in-score-requires-clause-row g c = subst (λ ls. IsRow (rows_in ls) c.args.row) (sym c.loop-place.invariant.lists_are) c.requires.row

pub score_in-score-requires-clause-score : goal.score_in-score-requires-clause-score
score_in-score-requires-clause-score g c =
    c.requires.score ∙ ap (λ ls. score_of c.args.row (list_at ls c.args.shown)) (sym c.loop-place.invariant.lists_are)

pub loop-place-preserved : goal.loop-place-preserved
loop-place-preserved g c =
    let count = c.lists-place-end.ensures.count in
    let inside = c.loop-place-test.true in
    let most = c.lists-place-end.ensures.ranked.most in
    looking-step c.args.weights.now c.args.shown c.args.row (g.L.Lists.state c.args.lists.now) (g.L.Lists.state c.loop-place.lists) (g.L.Lists.state c.score_in-score.new.lists) c.loop-place.place c.loop-place.sum
    c.score_in-score.result c.share-sum.result c.requires.weights c.loop-place.invariant (omega arith) (omega arith) (omega arith) c.score_in-score.ensures.score
    (c.share-sum.ensures ∙ ap (λ n. get_or c.args.weights.now.weight n 0 * c.score_in-score.result) c.from.ensures)
    c.score_in-score.ensures.lists c.score_in-score.ensures.counts c.score_in-score.ensures.others c.score_in-score.ensures.told

pub returns-clause-sum : goal.returns-clause-sum
returns-clause-sum g c =
    let count = c.lists-place-end.ensures.count in
    looking-sum c.args.weights.now.weight c.args.shown c.args.row (g.L.Lists.state c.args.lists.now) (g.L.Lists.state c.loop-place.lists) c.loop-place.place c.loop-place.sum c.loop-place.invariant (omega arith)

pub returns-clause-lists : goal.returns-clause-lists
returns-clause-lists g c = c.loop-place.invariant.lists_are

pub returns-clause-counts : goal.returns-clause-counts
returns-clause-counts g c =
    let count = c.lists-place-end.ensures.count in
    looking-counts c.args.weights.now.weight c.args.shown c.args.row (g.L.Lists.state c.args.lists.now) (g.L.Lists.state c.loop-place.lists) c.loop-place.place c.loop-place.sum c.loop-place.invariant (omega arith)

pub returns-clause-others : goal.returns-clause-others
returns-clause-others g c = c.loop-place.invariant.others

pub returns-clause-told : goal.returns-clause-told
returns-clause-told g c =
    let count = c.lists-place-end.ensures.count in
    looking-told c.args.weights.now.weight c.args.shown c.args.row (g.L.Lists.state c.args.lists.now) (g.L.Lists.state c.loop-place.lists) c.loop-place.place c.loop-place.sum c.loop-place.invariant (omega arith)

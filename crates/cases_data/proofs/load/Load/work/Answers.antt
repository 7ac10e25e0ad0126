-- As many pairs are put in as there are pushes, at most 2,000,000.
use Rattle.std.proofs.Common.{◌∙◌, ap, arith}
use Rattle.cases_data.specs.Work.{Work}
use Rattle.cases_data.proofs.LoadFacts.{count-filled, count-worked}
use Rattle.cases_data.proofs.load.Load.work.Goals as goal

pub push-requires : goal.push-requires
push-requires c =
    let count = ap (λ (work : Work). work.count) c.loop-pair.invariant ∙ count-filled c.args.sizes.now.held c.loop-pair._pair in
    let most = c.args.sizes.now.within.0 in
    let test = c.loop-pair-test.true in
    omega arith

pub push-requires-in-loop-operation : goal.push-requires-in-loop-operation
push-requires-in-loop-operation c =
    let count = ap (λ (work : Work). work.count) c.loop-operation.invariant ∙ count-worked c.args.sizes.now.held c.loop-operation._operation in
    let popped = ap (λ (work : Work). work.count) c.pop.ensures in
    let held = c.args.sizes.now.within.0 in
    let most = c.args.sizes.now.within.1 in
    let test = c.loop-operation-test.true in
    omega arith

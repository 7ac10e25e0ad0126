use Rattle.std.proofs.Common.{◌+◌, ◌*◌, ◌≤◌, nat_le, arith, rules}
use Rattle.rs_sample.proofs.CountFacts.{count-few}
use Rattle.rs_sample.proofs.index.count_worths.Goals as goal

pub overflow_add-count : goal.overflow_add-count
overflow_add-count c =
    let few = count-few (λ worth. nat_le c.args.cutoff (c.args.weight * worth + c.args.rest)) c.args.worths.now c.loop-worth.worth-index in
    let counted = c.loop-worth.invariant in
    let most = c.requires.few in
    let total : c.loop-worth.count + 1 ≤ 65537 = omega arith in
    search rules

pub returns-clause-limit : goal.returns-clause-limit
returns-clause-limit c =
    let few = count-few (λ worth. nat_le c.args.cutoff (c.args.weight * worth + c.args.rest)) c.args.worths.now c.loop-worth.worth-index in
    let counted = c.loop-worth.invariant in
    omega arith

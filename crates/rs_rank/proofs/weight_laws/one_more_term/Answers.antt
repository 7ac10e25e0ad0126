-- The term's bit is set, and all others stay.
use Rattle.std.proofs.Common.{◌<◌, ◌-◌, length, arith}
use Rattle.rs_rank.proofs.WeightFacts.{sum_inside-one, sum_outside-one}
use Rattle.rs_rank.proofs.weight_laws.one_more_term.Goals as goal

pub returns-clause-rest : goal.returns-clause-rest
returns-clause-rest c = λ weights terms term limits least most absent.
    let w : term - 1 < length weights.weight = let n = limits.weight_count in omega arith in
    let m : term - 1 < length weights.max = let n = limits.max_count in omega arith in
    sum_outside-one (term - 1) terms weights.weight weights.max w m absent

pub returns-clause-evaluated : goal.returns-clause-evaluated
returns-clause-evaluated c = λ weights terms term worths limits least most count absent.
    let w : term - 1 < length weights.weight = let n = limits.weight_count in omega arith in
    sum_inside-one (term - 1) terms weights.weight worths w (omega arith) absent

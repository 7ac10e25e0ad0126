-- All counts of the lists are summed.
use Rattle.std.proofs.Common.{◌∙◌, ◌-◌, ◌^◌, ap, arith, sum, take}
use Rattle.std.specs.Prelude.{min}
use Rattle.std.proofs.lemmas.List.{take_all}
use Rattle.rs_ta.proofs.CountFacts.{total-counts}
use Rattle.rs_ta.proofs.access_counts.sum_of.Goals as goal

pub returns : goal.returns
returns c =
    c.loop-count.invariant
    ∙ ap (λ n. min n (2 ^ 64 - 1))
    (ap sum (take_all c.loop-count.count-index (take c.args.lists c.args.counts.now) c.loop-count-test.false) ∙ total-counts c.args.counts.now c.args.lists (omega arith))

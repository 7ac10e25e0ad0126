use Rattle.std.proofs.Common.{◌≡◌, ◌∙◌, ap, subst, sym}
use Rattle.std.specs.Prelude.{IfSome, Option}
use Rattle.rs_plan.specs.Counts.{AreWithinLimits, counts_at}
use Rattle.rs_plan.specs.declared.counts.Counts.{Counts}
use Rattle.rs_exec.specs.Asking.{world_of}
use Rattle.rs_exec.specs.Cursors.{asks_of, plan_of}
use Rattle.rs_statement.proofs.PlanSteps.{first-counts}
use Rattle.rs_statement.proofs.planned.rank_of.Goals as goal

pub returns-clause-rank : goal.returns-clause-rank
returns-clause-rank c = λ catalogue answer stands.
    let w = world_of catalogue answer c.args.cursor.now.query in
    let is = sym c.in-Some.is ∙ c.counts.ensures.counts catalogue answer stands ∙ first-counts w (plan_of c.args.cursor.now) (asks_of c.args.cursor.now) in
    ap (λ counts. counts.gave) (let same : c.in-Some.counts ≡ counts_at w 1 (plan_of c.args.cursor.now) (asks_of c.args.cursor.now) = cc in same)

pub returns-clause-limit : goal.returns-clause-limit
returns-clause-limit c =
    let stands = c.requires in
    (subst (λ (found : Option Counts). IfSome found AreWithinLimits) c.in-Some.is (c.counts.ensures.limits stands.0 stands.1 stands.2)).gave

pub unreachable-requires : goal.unreachable-requires
unreachable-requires c =
    let stands = c.requires in
    let w = world_of stands.0 stands.1 c.args.cursor.now.query in
    let is = sym c.in-None.is ∙ c.counts.ensures.counts stands.0 stands.1 stands.2 ∙ first-counts w (plan_of c.args.cursor.now) (asks_of c.args.cursor.now) in
    absurd cc

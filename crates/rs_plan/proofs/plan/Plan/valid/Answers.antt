-- Where the numbers are in range the tests say that a tree is a plan, and elsewhere it is none.
use Rattle.std.proofs.Common.{true≢false, sym, ◌∙◌}
use Rattle.std.proofs.lemmas.Bool.Decides.{Decides-at}
use Rattle.rs_plan.specs.Deciding.{is_plan}
use Rattle.rs_plan.specs.Numbers.{HasNumbers}
use Rattle.rs_plan.specs.Shapes.{tree_of}
use Rattle.rs_plan.proofs.DecidingFacts.{plan-decided, plan-numbers}
use Rattle.rs_plan.proofs.plan.Plan.valid.Goals as goal

pub returns-then-has_numbers : goal.returns-then-has_numbers
returns-then-has_numbers c =
    let tree = tree_of c.args.self.now in
    let numbers : HasNumbers tree = c.has_numbers.ensures.0 c.if-has_numbers.true in
    Decides-at c.is_plan.result (is_plan c.args.catalog.now c.args.query.now tree) c.is_plan.ensures
    (plan-decided c.args.catalog.now c.args.query.now tree numbers)

pub returns-else-has_numbers : goal.returns-else-has_numbers
returns-else-has_numbers c = (
  λ yes. absurd (true≢false (sym yes ∙ c.if-has_numbers.false)),
  λ is.
      let numbers = plan-numbers c.args.catalog.now c.args.query.now (tree_of c.args.self.now) c.requires is in
      absurd (true≢false (sym (c.has_numbers.ensures.1 numbers) ∙ c.if-has_numbers.false)),
)

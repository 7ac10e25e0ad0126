-- Costs, and then codes, are compared by total orders.
use Rattle.rs_enum.proofs.OrderOfPlans.{plans-total}
use Rattle.rs_enum.proofs.laws.plan_order_is_total.Goals as goal

pub returns : goal.returns
returns c = plans-total

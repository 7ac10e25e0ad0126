-- Lists in the lexicographic order of numbers.
use Rattle.std.proofs.Common.{rules}
use Rattle.std.specs.Cmp.Rules.{comparing}
use Rattle.rs_plan.proofs.laws.code_order_is_total.Goals as goal

pub returns : goal.returns
returns c = search (comparing, rules) depth 9

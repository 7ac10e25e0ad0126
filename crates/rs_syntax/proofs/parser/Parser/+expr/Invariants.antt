use Rattle.std.proofs.Common.{ℕ, ◌+◌, ◌*◌, ◌≤◌, map}
use Rattle.rs_syntax.specs.Cases.{when_view}
use Rattle.rs_syntax.specs.Syntax.{expression_of}
use Rattle.rs_syntax.specs.declared.parser.operators.Level.{Level}
use Rattle.rs_syntax.specs.declared.parser.operators.Level.TheVariants.{Or, And, Sum, Product}
use Rattle.rs_syntax.proofs.Chains.{Chained}
use Rattle.rs_syntax.proofs.Cycle.{Repeating}
use Rattle.rs_syntax.proofs.parser.Parser.+expr.Given as goal

-- how many calls can follow at one place, level by level
abbrev pub operand_height : Level → ℕ
operand_height Or = 15
operand_height And = 13
operand_height Sum = 9
operand_height Product = 7

abbrev pub decreases-chain : goal.decreases-chain
decreases-chain l = 20 * l.self.now.left + operand_height l.level + 1

abbrev pub decreases-operand : goal.decreases-operand
decreases-operand l = 20 * l.self.now.left + operand_height l.level

abbrev pub decreases-neg : goal.decreases-neg
decreases-neg l = 20 * l.self.now.left + 12

abbrev pub decreases-comp : goal.decreases-comp
decreases-comp l = 20 * l.self.now.left + 11

abbrev pub decreases-sign : goal.decreases-sign
decreases-sign l = 20 * l.self.now.left + 6

abbrev pub decreases-base : goal.decreases-base
decreases-base l = 20 * l.self.now.left + 5

abbrev pub decreases-absolute : goal.decreases-absolute
decreases-absolute l = 20 * l.self.now.left + 4

abbrev pub decreases-extreme : goal.decreases-extreme
decreases-extreme l = 20 * l.self.now.left + 4

abbrev pub decreases-brackets : goal.decreases-brackets
decreases-brackets l = 20 * l.self.now.left + 4

abbrev pub decreases-case : goal.decreases-case
decreases-case l = 20 * l.self.now.left + 4

abbrev pub decreases-whens : goal.decreases-whens
decreases-whens l = 20 * l.self.now.left + 3

abbrev pub decreases-when : goal.decreases-when
decreases-when l = 20 * l.self.now.left + 2

abbrev pub decreases-expr_before : goal.decreases-expr_before
decreases-expr_before l = 20 * l.self.now.left + 17

abbrev pub invariant-chain-more : goal.invariant-chain-more
invariant-chain-more l = record { chain : Chained l.level l.from l.fn.self l.self (expression_of l.node); left : l.self.left ≤ l.fn.self.left }

abbrev pub decreases-chain-more : goal.decreases-chain-more
decreases-chain-more l = l.self.left

abbrev pub invariant-whens-more : goal.invariant-whens-more
invariant-whens-more l = record { parts : Repeating l.fn.self l.self (map when_view l.parts.items); left : l.self.left ≤ l.fn.self.left }

abbrev pub decreases-whens-more : goal.decreases-whens-more
decreases-whens-more l = l.self.left

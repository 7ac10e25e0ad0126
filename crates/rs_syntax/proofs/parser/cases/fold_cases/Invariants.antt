use Rattle.std.proofs.Common.{map, ◌≡◌, length}
use Rattle.rs_syntax.specs.Cases.{cases_in, when_view}
use Rattle.rs_syntax.specs.Syntax.{expression_of}
use Rattle.rs_syntax.proofs.parser.cases.fold_cases.Given as goal

abbrev pub invariant-loop-part : goal.invariant-loop-part
invariant-loop-part l = cases_in l.to (map when_view l.parts.items) (expression_of l.rest) ≡ cases_in l.to (map when_view l.initial.parts.items) (expression_of l.initial.rest)

abbrev pub decreases-loop-part : goal.decreases-loop-part
decreases-loop-part l = length l.parts.items

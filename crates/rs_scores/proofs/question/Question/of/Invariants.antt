use Rattle.std.proofs.Common.{◌≡◌, ◌∷◌, map, take}
use Rattle.rs_value.specs.Value.{printed}
use Rattle.rs_scores.proofs.question.Question.of.Given as goal

abbrev pub invariant-loop-arg : goal.invariant-loop-arg
invariant-loop-arg l = l.fields.items ≡ l.predicate ∷ map printed (take l.arg-index l.args)

-- The rows so far are those of the first combinations.
use Rattle.std.proofs.Common.{◌≡◌, map, take}
use Rattle.rs_plain.specs.Keeping.{answer_in}
use Rattle.rs_plain.proofs.outputs.query_answers.Given as goal

abbrev pub invariant-loop-row : goal.invariant-loop-row
invariant-loop-row l = l.answers.items ≡ map (answer_in l.catalog l.query) (take l.row-index l.scored)

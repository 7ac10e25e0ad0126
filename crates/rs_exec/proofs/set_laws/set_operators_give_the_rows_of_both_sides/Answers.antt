-- Rows of both sides with the same output values have the same key but for their ids.
use Rattle.rs_exec.proofs.SetStepFacts.{set-facts}
use Rattle.rs_exec.proofs.set_laws.set_operators_give_the_rows_of_both_sides.Goals as goal

pub returns : goal.returns
returns c = λ w left right formed bounded weights part. (set-facts w.catalogue w.answer w.view w.query 1 left right formed bounded weights part).list

-- All asks that the next answer takes are made.
use Rattle.rs_ripple.proofs.LawFacts.{ready-settled}
use Rattle.rs_ripple.proofs.laws.ready_answers_are_certain.Goals as goal

pub returns : goal.returns
returns c = λ j lefts rights made count ripple s ready. ready-settled j lefts rights made count ripple s ready

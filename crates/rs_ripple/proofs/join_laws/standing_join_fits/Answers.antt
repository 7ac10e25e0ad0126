-- The held pairs are the answers behind those that were given.
use Rattle.rs_ripple.proofs.JoinLawFacts.{stands-fits}
use Rattle.rs_ripple.proofs.join_laws.standing_join_fits.Goals as goal

pub returns : goal.returns
returns c = λ j lefts rights made count joined s. stands-fits j lefts rights made count joined s

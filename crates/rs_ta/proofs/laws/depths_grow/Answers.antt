-- A later answer lies further on.
use Rattle.rs_ta.proofs.DepthFacts.{depth-more, depth-most}
use Rattle.rs_ta.proofs.laws.depths_grow.Goals as goal

pub returns-clause-grow : goal.returns-clause-grow
returns-clause-grow c = λ i asks entry ranked have. depth-more i entry ranked have asks

pub returns-clause-most : goal.returns-clause-most
returns-clause-most c = λ i asks. depth-most i asks

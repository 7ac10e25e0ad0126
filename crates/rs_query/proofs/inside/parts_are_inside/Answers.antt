use Rattle.rs_query.proofs.EntryFacts.{conjuncts-inside, items-inside, terms-inside}
use Rattle.rs_query.proofs.inside.parts_are_inside.Goals as goal

pub returns : goal.returns
returns c = record { terms = terms-inside; conjuncts = conjuncts-inside; items = items-inside }

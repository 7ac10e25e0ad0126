-- The first entry behind none is the first of all.
use Rattle.rs_catalog.specs.Indexes.{ranking_at}
use Rattle.test_units.proofs.SeenFacts.{first_of}
use Rattle.test_units.proofs.snapshots.is_first.Goals as goal

pub returns-in-Some : goal.returns-in-Some
returns-in-Some c = λ is. first_of (ranking_at c.args.catalog.now c.args.index) c.in-Some.score c.in-Some.row c.in-Some.ensures (c.are_first.ensures is)

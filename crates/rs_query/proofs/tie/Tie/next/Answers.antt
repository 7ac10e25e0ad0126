-- The next listed row, where it isn't behind the last one.
use Rattle.rs_query.proofs.TieFacts.{next-fits}
use Rattle.rs_query.proofs.tie.Tie.next.Goals as goal

pub returns-in-Some : goal.returns-in-Some
returns-in-Some c =
    let tied = c.requires.tied in
    next-fits c.args.catalog.now c.args.block.now tied.0 tied.1 c.args.self.now tied.2 c.args.rows.now c.in-Some.listed c.in-Some.is c.args.last c.requires.last
    c.args.row c.next.result c.up_to.result c.requires.least c.requires.most c.requires.fits c.next.ensures c.up_to.ensures

-- The first listed row, where it isn't behind the last one.
use Rattle.std.proofs.Common.{◌-◌, get_or, sym}
use Rattle.std.proofs.lemmas.Option.{unwrap_or-slice_get}
use Rattle.rs_query.proofs.TieFacts.{first-fits}
use Rattle.rs_query.proofs.tie.Tie.first.Goals as goal

pub returns-in-Some : goal.returns-in-Some
returns-in-Some c =
    let tied = c.requires.tied in
    first-fits c.args.catalog.now c.args.block.now tied.0 tied.1 c.args.self.now tied.2 c.args.rows.now c.in-Some.listed c.in-Some.is c.args.last c.requires.last
    (get_or c.args.rows.now (c.args.self.now.left.0 - 1) 0) c.first.result c.up_to.result tied.3 (sym (unwrap_or-slice_get c.args.rows.now (c.args.self.now.left.0 - 1) 0)) c.first.ensures
    c.up_to.ensures

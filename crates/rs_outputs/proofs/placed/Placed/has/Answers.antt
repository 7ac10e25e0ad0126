use Rattle.std.proofs.Common.{◌∙◌, ap}
use Rattle.rs_outputs.specs.Seen.{has_list}
use Rattle.rs_outputs.proofs.PlaceFacts.{has_list-places}
use Rattle.rs_outputs.proofs.placed.Placed.has.Goals as goal

pub returns : goal.returns
returns c = c.contains_key.ensures ∙ has_list-places c.args.values.now c.self.inside.places c.self.invariant ∙ ap (has_list c.args.values.now) c.self.view_is

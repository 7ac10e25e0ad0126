-- The first key tells whether the first row is reached.
use Rattle.std.proofs.Common.{sym, ◌∙◌, ap}
use Rattle.rs_ta.specs.Rounds.{SeenState, is_reached, reaches}
use Rattle.rs_ta.proofs.SeenFacts.{reached-rows}
use Rattle.rs_ta.proofs.seen_rows.SeenRows.is_reached.Goals as goal

pub returns : goal.returns
returns c =
    let last = c.args.last.now in
    c.reaches.ensures
    ∙ ap (reaches last) c.peek.ensures.first
    ∙ sym (reached-rows last c.self.inside.held)
    ∙ ap (λ (s : SeenState). is_reached last s.held) c.self.view_is

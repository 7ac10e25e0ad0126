-- The scores fall, and so each is at most any earlier one.
use Rattle.std.proofs.Common.{arith}
use Rattle.rs_rank.specs.Stable.{stable}
use Rattle.rs_rank.proofs.StableFacts.{Falls-at, Falls-stable, length-stable}
use Rattle.rs_rank.proofs.laws.stable_is_sorted.Goals as goal

pub returns : goal.returns
returns g c = λ rows i j other before within.
    let size = length-stable g.T.Scored.score_of rows in
    Falls-at g.T.Scored.score_of (stable g.T.Scored.score_of rows) (Falls-stable g.T.Scored.score_of rows) i j other before (omega arith)

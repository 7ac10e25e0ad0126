-- The test says whether there is such a conjunct.
use Rattle.std.proofs.lemmas.Bool.Decides.{Decides-at}
use Rattle.rs_plan.specs.Deciding.{is_hashed}
use Rattle.rs_plan.proofs.DecidingFacts.{hashed-decided}
use Rattle.rs_plan.proofs.valid.can_hash.Goals as goal

pub returns : goal.returns
returns c =
    Decides-at c.is_hashed.result (is_hashed c.args.block.now c.args.left c.args.right) c.is_hashed.ensures
    (hashed-decided c.args.block.now c.args.left c.args.right)

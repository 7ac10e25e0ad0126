-- The conjuncts from this one on decide whether all hold.
use Rattle.std.proofs.Common.{◌≡◌}
use Rattle.rs_query.specs.Meaning.{all_hold}
use Rattle.rs_query.proofs.HoldFacts.{hold_from}
use Rattle.rs_query.proofs.block.Block.holds.Given as goal

abbrev pub invariant-loop-place : goal.invariant-loop-place
invariant-loop-place l =
    hold_from l.catalog l.self l.ids.rows l.conjuncts l.self.conjuncts l.place ≡ all_hold l.catalog l.self l.conjuncts l.ids.rows l.self.conjuncts

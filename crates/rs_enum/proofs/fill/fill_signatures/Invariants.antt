use Rattle.std.proofs.Common.{◌≤◌}
use Rattle.std.specs.Prelude.{vec_capacity}
use Rattle.rs_sample.specs.Kept.{cards_of}
use Rattle.rs_enum.specs.QueryCards.{alone, alone_cards}
use Rattle.rs_enum.proofs.FilledFacts.{AreFilled}
use Rattle.rs_enum.proofs.fill.fill_signatures.Given as goal

-- as many places are filled as were counted, and there is room for all
abbrev pub invariant-loop-place : goal.invariant-loop-place
invariant-loop-place l =
    AreFilled l.planning.catalog.now (alone l.planning.query.now l.number) (alone_cards (cards_of l.planning.cards.now) l.number) l.places.items l.place
    × (16640 ≤ vec_capacity l.places)

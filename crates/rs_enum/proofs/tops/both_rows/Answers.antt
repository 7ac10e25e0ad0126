-- Both blocks have as many terms.
use Rattle.std.proofs.Common.{◌<◌, ◌^◌, subst}
use Rattle.rs_sample.specs.Kept.{cards_of}
use Rattle.rs_enum.proofs.WholeFacts.{extent-numbered, right-terms-below}
use Rattle.rs_enum.proofs.tops.both_rows.Goals as goal

pub rows_of_all-left-requires-clause-number : goal.rows_of_all-left-requires-clause-number
rows_of_all-left-requires-clause-number c = (extent-numbered c.args.planning.now.query.now (cards_of c.args.planning.now.cards.now) c.requires.planning.cards c.requires.both).0

pub rows_of_all-right-requires-clause-number : goal.rows_of_all-right-requires-clause-number
rows_of_all-right-requires-clause-number c = (extent-numbered c.args.planning.now.query.now (cards_of c.args.planning.now.cards.now) c.requires.planning.cards c.requires.both).1

pub rows_of_all-right-requires-clause-evaluated : goal.rows_of_all-right-requires-clause-evaluated
rows_of_all-right-requires-clause-evaluated c =
    subst (λ n. c.args.evaluated < 2 ^ n) (right-terms-below c.args.planning.now.catalog.now c.args.planning.now.query.now (cards_of c.args.planning.now.cards.now) c.requires.planning.query c.requires.both) c.requires.evaluated

use Rattle.std.proofs.Common.{◌≡◌, true, false}
use Rattle.rs_value.specs.declared.kind.Kind.TheVariants as kind
use Rattle.rs_table_feed.proofs.TableFeedFacts.{second-column}
use Rattle.rs_table_feed.proofs.table_feed.number.Goals as goal

-- no text fits a column of numbers
pub unreachable-requires : goal.unreachable-requires
unreachable-requires c =
    let second = second-column c.args.table.now.schema c.requires.columns in
    let h : false ≡ true = c.in-Text.ensures.fits (second.0, kind.Int) second.1 in cc

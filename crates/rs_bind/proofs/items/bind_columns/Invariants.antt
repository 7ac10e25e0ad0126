use Rattle.std.proofs.Common.{◌≡◌, drop, length}
use Rattle.rs_table.specs.Appended.{appended}
use Rattle.rs_bind.specs.Sources.{items_behind, sources_of}
use Rattle.rs_bind.proofs.items.bind_columns.Given as goal

abbrev pub invariant-loop-column : goal.invariant-loop-column
invariant-loop-column l =
    let sources = sources_of l.sources.catalog.now l.sources.from.now in
    appended l.made.items (items_behind sources (length l.made.items) (drop l.column-index l.columns)) ≡ items_behind sources 0 l.columns

use Rattle.std.proofs.Common.{◌≡◌, ◌+◌, ◌++◌, drop}
use Rattle.rs_bind.specs.Sources.{all_columns_from, sources_of}
use Rattle.rs_bind.proofs.items.all_columns.Given as goal

abbrev pub invariant-loop-index : goal.invariant-loop-index
invariant-loop-index l =
    (l.made.items ++ all_columns_from (l.index + 1) (sources_of l.sources.catalog.now (drop l.index l.sources.from.now)))
    ≡ all_columns_from 1 (sources_of l.sources.catalog.now l.sources.from.now)

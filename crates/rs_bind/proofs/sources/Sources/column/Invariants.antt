use Rattle.std.proofs.Common.{◌≡◌, ◌+◌, ◌++◌, drop}
use Rattle.std.specs.Prelude.{option_to_list}
use Rattle.rs_bind.specs.Sources.{matches_from, sources_of}
use Rattle.rs_bind.proofs.sources.Sources.column.Given as goal

abbrev pub invariant-loop-index : goal.invariant-loop-index
invariant-loop-index l =
    (option_to_list l.found ++ matches_from (l.index + 1) l.column (sources_of l.self.catalog.now (drop l.index l.self.from.now)))
    ≡ matches_from 1 l.column (sources_of l.self.catalog.now l.self.from.now)

use Rattle.std.proofs.Common.{◌≡◌, ◌-◌, take}
use Rattle.rs_expr.specs.Scoring.{Answering}
use Rattle.rs_catalog.specs.Catalog.{CatalogDef}
use Rattle.rs_plan.specs.Counts.{counts_of_plan}
use Rattle.rs_exec.specs.Asking.{world_of}
use Rattle.rs_exec.specs.Cursors.{StandsFor, asks_of, plan_of}
use Rattle.rs_statement.proofs.analyzed.all_counts.Given as goal

-- the counts of the nodes so far
abbrev pub invariant-loop-counts : goal.invariant-loop-counts
invariant-loop-counts l = (catalogue : CatalogDef) (answer : Answering) → StandsFor catalogue answer l.cursor
    → l.told.items ≡ take l.node (counts_of_plan (world_of catalogue answer l.cursor.query) (plan_of l.cursor) (asks_of l.cursor))

-- no plan has more nodes
abbrev pub decreases-loop-counts : goal.decreases-loop-counts
decreases-loop-counts l = 255 - l.node

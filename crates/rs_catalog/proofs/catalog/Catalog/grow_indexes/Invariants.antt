use Rattle.std.proofs.Common.{◌≡◌, length, take}
use Rattle.rs_catalog.specs.Growing.{growing_index}
use Rattle.rs_catalog.specs.Grown.{AreGrown, all_renewed}
use Rattle.rs_catalog.proofs.InTurnFacts.{InTurn}
use Rattle.rs_catalog.proofs.catalog.Catalog.grow_indexes.Given as goal

-- the indexes so far were asked about, in the order of making, and this became of them
abbrev pub invariant-loop-number : goal.invariant-loop-number
invariant-loop-number g l = record {
  turn : InTurn (growing_index (g.S.Scorer.state l.fn.scorer).answer l.self l.table l.rows) 0 l.self.indexes l.number (all_renewed (take l.number l.self.indexes) l.grown.items)
      (g.S.Scorer.state l.fn.scorer) (g.S.Scorer.state l.scorer);
  grown : AreGrown l.self l.table (length l.rows) l.self.indexes l.grown.items;
  len : length l.grown.items ≡ l.number;
}

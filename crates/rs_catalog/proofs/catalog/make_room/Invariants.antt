use Rattle.std.proofs.Common.{◌≡◌, ◌<◌, ℕ, map}
use Rattle.std.specs.Prelude.{Some, slice_get}
use Rattle.std.specs.Map.{values_of}
use Rattle.rs_catalog.specs.Grown.{HasRoom, kept_in}
use Rattle.rs_catalog.specs.declared.catalog.RankIndex.{RankIndex as StoredIndex}
use Rattle.rs_catalog.specs.declared.ranked.Ranked.{Ranked}
use Rattle.rs_catalog.proofs.catalog.make_room.Given as goal

-- the indexes are the same, and the first ones have room
abbrev pub invariant-loop-place : goal.invariant-loop-place
invariant-loop-place l = record {
  same : map kept_in l.indexes.entries ≡ map kept_in l.fn.indexes.entries;
  room : (i : ℕ) (ranked : Ranked) (stored : StoredIndex) → i < l.place → slice_get l.grown i ≡ Some (Some ranked) → slice_get (values_of l.indexes.entries) i ≡ Some stored → HasRoom ranked stored;
}

-- The first rows of some rows in the order of keys.
use Rattle.std.specs.Prelude.{ℕ, ◌≡◌, List, take}
use Rattle.std.specs.List.Sorted.{IsPermutation, IsSortedByKey}
use Rattle.rs_rank.specs.Keys.{key_cmp}
use Rattle.rs_rank.specs.declared.key.Key.{Key}
use Rattle.rs_rank.specs.declared.row.RankRow.{RankRow}

-- the key of a row whose terms are all evaluated: its score and its ids
abbrev pub key_of_row : RankRow → Key
key_of_row row = record { bound = row.sum; ids = row.ids }

-- rows are the first ones, at most so many, of others that were put into the order of keys
pub record AreFirst {X : Type 0} (key : X → Key) (most : ℕ) (all rows : List X) : Type 0 where
  pub ordered : List X
  pub moved : IsPermutation all ordered
  pub sorted : IsSortedByKey key key_cmp ordered
  pub first : rows ≡ take most ordered

-- rows that are in the order of keys already, at most so many
pub record AreKept {X : Type 0} (key : X → Key) (most : ℕ) (rows : List X) : Type 0 where
  pub sorted : IsSortedByKey key key_cmp rows
  pub few : rows ≡ take most rows

-- Which rows of the entries of a block make up a row: row numbers count from 1, and 0 stands where there is no entry.
use Rattle.std.specs.Prelude.{ℕ, ◌≡◌, ◌<◌, ◌/◌, ◌%◌, ◌^◌, ◌==◌, List, [], ◌∷◌, length, bit_or, if◌then◌else◌}
use Rattle.rs_rank.specs.declared.ids.Ids.{Ids}
use Rattle.rs_rank.specs.Masks.{AreDisjoint}

-- the row numbers are 0 at all entries outside the mask
abbrev pub IsZeroOutside : ℕ → List ℕ → Type 0
IsZeroOutside mask [] = Unit {0}
IsZeroOutside mask (row ∷ rows) = (mask % 2 ≡ 0 → row ≡ 0) × IsZeroOutside (mask / 2) rows

-- the ids are those of entries among six: six row numbers, which are 0 at entries outside the mask
pub record IsIds (ids : Ids) : Type 0 where
  pub sized : length ids.rows ≡ 6
  pub entries : ids.mask < 2 ^ 6
  pub within : IsZeroOutside ids.mask ids.rows

-- the row numbers of the entries in a mask, and 0 at the others
abbrev pub rows_inside : ℕ → List ℕ → List ℕ
rows_inside mask [] = []
rows_inside mask (row ∷ rows) = (if mask % 2 == 0 then 0 else row) ∷ rows_inside (mask / 2) rows

-- ids of the entries in a mask alone
abbrev pub ids_inside : ℕ → ℕ → List ℕ → Ids
ids_inside block entries rows = record { block = block; mask = entries; rows = rows_inside entries rows }

-- ids of another block, or with other row numbers
abbrev pub AreOtherIds : Ids → Ids → Type 0
AreOtherIds ids other = ids.block ≡ other.block → ids.rows ≡ other.rows → ⊥

-- at each entry the left row, or the right one where there is none
abbrev pub merge_rows : List ℕ → List ℕ → List ℕ
merge_rows [] rights = []
merge_rows (left ∷ lefts) [] = []
merge_rows (left ∷ lefts) (right ∷ rights) = (if left == 0 then right else left) ∷ merge_rows lefts rights

-- the entries of both
abbrev pub merge_ids : Ids → Ids → Ids
merge_ids left right = record {
  block = left.block;
  mask = bit_or left.mask right.mask;
  rows = merge_rows left.rows right.rows;
}

-- two sides of one row: they are of the same block and have no entry in common
pub record AreSidesOfRow (left right : Ids) : Type 0 where
  pub left_ids : IsIds left
  pub right_ids : IsIds right
  pub block : left.block ≡ right.block
  pub entries : AreDisjoint left.mask right.mask

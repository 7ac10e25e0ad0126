-- The core of a join as a node: what it keeps of the rows of its sides, without how it finds those that match.
use Rattle.std.specs.Prelude.{ℕ, ◌≡◌, Bool, true, List, map}
use Rattle.std.specs.List.{AllByRecursion}
use Rattle.rs_catalog.specs.Catalog.{CatalogDef}
use Rattle.rs_filter.specs.Conditions.{AreConditions}
use Rattle.rs_filter.specs.JoinValues.{left_values, right_values}
use Rattle.rs_filter.specs.Matching.{is_side, joins}
use Rattle.rs_filter.specs.declared.conditions.JoinConditions.{JoinConditions}
use Rattle.rs_hrjn.specs.Drawn.{DrawnRow}
use Rattle.rs_hrjn.specs.Hashed.{Hashed, joined_of, new_hashed}
use Rattle.rs_order.specs.Schedule.{JoinSide, Left, Right}
use Rattle.rs_plan.specs.Trees.{Hash, JoinKind, Nested}
use Rattle.rs_query.specs.Tables.{HasRows}
use Rattle.rs_query.specs.WellFormed.{IsBlock}
use Rattle.rs_query.specs.declared.block.Block.{Block}
use Rattle.rs_rank.specs.Masks.{AreDisjoint}
use Rattle.rs_rank.specs.declared.row.RankRow.{RankRow}
use Rattle.rs_rank.specs.declared.weights.Weights.{Weights}
use Rattle.rs_ripple.specs.Joined.{CanFeedLeft, CanFeedRight, Fits, Joined, fed_left, fed_right, new_joined}
use Rattle.rs_ripple.specs.Ripple.{Ripple}
use Rattle.rs_ripple.specs.declared.side.Side.{Side}
use Rattle.rs_value.specs.declared.value.Value.{Value}
use Rattle.rs_exec.specs.declared.join_core.JoinCore.{JoinCore}
use Rattle.rs_exec.specs.declared.join_core.JoinCore.TheVariants as core
use Rattle.rs_exec.specs.Sides.{of_side}

-- the rows without their join values
abbrev pub joined_in : JoinCore → Joined
joined_in (core.Nested joined) = joined
joined_in (core.Hash hashed) = joined_of hashed

-- how the join with this core finds the pairs that match
abbrev pub kind_of : JoinCore → JoinKind
kind_of (core.Nested joined) = Nested
kind_of (core.Hash hashed) = Hash

-- rows with their join values
abbrev pub with_values : (List ℕ → List Value) → List RankRow → List DrawnRow
with_values values rows = map (λ (row : RankRow). record { row = row; values = values row.ids.rows }) rows

abbrev pub hashed_with : CatalogDef → Block → ℕ → ℕ → Joined → Hashed
hashed_with catalogue block left right joined = record {
  ripple = joined.ripple;
  lefts = with_values (left_values catalogue block left right) joined.lefts;
  rights = with_values (right_values catalogue block left right) joined.rights;
}

-- a core of a kind that keeps these rows; a hash join keeps them with their join values
abbrev pub core_of : JoinKind → CatalogDef → Block → ℕ → ℕ → Joined → JoinCore
core_of Nested catalogue block left right joined = core.Nested joined
core_of Hash catalogue block left right joined = core.Hash (hashed_with catalogue block left right joined)

-- the rows of a hash join have their own join values
abbrev pub HasValues : CatalogDef → Block → ℕ → ℕ → JoinCore → Type 0
HasValues catalogue block left right core = core ≡ core_of (kind_of core) catalogue block left right (joined_in core)

-- a row comes next of a side
abbrev pub CanFeed : JoinSide → RankRow → Joined → Type 0
CanFeed Left row joined = CanFeedLeft row joined
CanFeed Right row joined = CanFeedRight row joined

-- a core can take a row of a side: the row comes next and is one of the side, and those drawn of the other side are of that one
pub record CanTake (side : JoinSide) (catalogue : CatalogDef) (block : Block) (conditions : JoinConditions) (row : RankRow) (core : JoinCore) : Type 0 where
  pub block_is : IsBlock catalogue block
  pub conditions_are : AreConditions catalogue block conditions
  pub apart : AreDisjoint conditions.left conditions.right
  pub values : HasValues catalogue block conditions.left conditions.right core
  pub next : CanFeed side row (joined_in core)
  pub rows : HasRows catalogue block (of_side conditions.left conditions.right side) row.ids.rows
  pub own : is_side catalogue block (of_side conditions.left conditions.right side) row ≡ true
  pub others : AllByRecursion (λ other. is_side catalogue block (of_side conditions.right conditions.left side) other ≡ true)
      (of_side (joined_in core).rights (joined_in core).lefts side)
  pub fits : Fits (joins catalogue block conditions.left conditions.right) (joined_in core)

-- the core after it took a row of a side, and found the rows drawn of the other one that match
abbrev pub joined_with_row : JoinSide → (RankRow → RankRow → Bool) → RankRow → Joined → Joined
joined_with_row Left matches row joined = fed_left matches row joined
joined_with_row Right matches row joined = fed_right matches row joined

abbrev pub core_with_row : JoinSide → CatalogDef → Block → JoinConditions → RankRow → JoinCore → JoinCore
core_with_row side catalogue block conditions row core =
    core_of (kind_of core) catalogue block conditions.left conditions.right (joined_with_row side (joins catalogue block conditions.left conditions.right) row (joined_in core))

-- a core of a kind for two sides of which no row is drawn
abbrev pub new_join_core : JoinKind → Weights → Side → Side → JoinCore
new_join_core Nested weights left right = core.Nested (new_joined weights left right)
new_join_core Hash weights left right = core.Hash (new_hashed weights left right)

-- the same rows, where the state of the join is this one
abbrev pub core_with : JoinCore → Ripple → JoinCore
core_with (core.Nested joined) ripple = core.Nested (record joined { ripple = ripple })
core_with (core.Hash hashed) ripple = core.Hash (record hashed { ripple = ripple })

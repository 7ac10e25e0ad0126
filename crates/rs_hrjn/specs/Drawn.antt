-- The rows drawn of a side with their join values, and the places at which a map of these values has them.
use Rattle.std.specs.Prelude.{ℕ, suc, Bool, List, [], ◌∷◌, map, if◌then◌else◌}
use Rattle.std.specs.Cmp.Lexicographic.{slice_cmp}
use Rattle.std.specs.List.{filter}
use Rattle.std.specs.Ordering.{is_eq}
use Rattle.rs_rank.specs.declared.row.RankRow.{RankRow}
use Rattle.rs_value.specs.declared.value.Value.{Value}
use Rattle.rs_value.specs.Value.{value_cmp}

-- a row, and its values that are to be equal to those of a row of the other side
pub record DrawnRow : Type 0 where
  pub row : RankRow
  pub values : List Value

-- the rows alone
abbrev pub rows_of : List DrawnRow → List RankRow
rows_of rows = map (λ drawn. drawn.row) rows

-- whether two lists of join values are equal: the order of values tells none of them apart
abbrev pub are_equal : List Value → List Value → Bool
are_equal xs ys = is_eq (slice_cmp value_cmp xs ys)

-- the rows with these join values
abbrev pub alike : List Value → List DrawnRow → List DrawnRow
alike values rows = filter (λ drawn. are_equal values drawn.values) rows

-- their places, counted from n
abbrev pub places_alike : List Value → ℕ → List DrawnRow → List ℕ
places_alike values n [] = []
places_alike values n (drawn ∷ rows) =
    if are_equal values drawn.values then n ∷ places_alike values (suc n) rows else places_alike values (suc n) rows

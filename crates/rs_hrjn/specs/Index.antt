-- A map of join values to the places of the rows that have them.
use Rattle.std.specs.Prelude.{ℕ, suc, ◌≡◌, ◌<◌, ◌==◌, List, [], ◌∷◌, ◌++◌, length, map, Option, Some, None, if◌then◌else◌}
use Rattle.std.specs.BTreeMap.{BTreeMap, insert_entry}
use Rattle.std.specs.Cmp.Lexicographic.{slice_cmp}
use Rattle.std.specs.List.{AllByRecursion, list_any}
use Rattle.std.specs.Map.{lookup, set_value}
use Rattle.std.specs.declared.alloc.Global.{Global}
use Rattle.std.specs.declared.vec.Vec.{Vec}
use Rattle.rs_rank.specs.declared.row.RankRow.{RankRow}
use Rattle.rs_value.specs.declared.value.Value.{Value}
use Rattle.rs_value.specs.Value.{value_cmp}
use Rattle.rs_hrjn.specs.Drawn.{DrawnRow, are_equal, places_alike}

-- the lists that a map has: of each list of join values its places
abbrev pub index_of : BTreeMap (Vec Value Global) (Vec ℕ Global) → List (List Value × List ℕ)
index_of m = map (λ e. (e.0.items, e.1.items)) m.entries

-- the places of some join values, none where it hasn't these values
abbrev pub places_or_none : Option (List ℕ) → List ℕ
places_or_none None = []
places_or_none (Some places) = places

abbrev pub places_of : List Value → List (List Value × List ℕ) → List ℕ
places_of values index = places_or_none (lookup (are_equal values) index)

-- with one more place of some join values: new values come in the order of values
abbrev pub with_more : Option (List ℕ) → List Value → ℕ → List (List Value × List ℕ) → List (List Value × List ℕ)
with_more None values place index = insert_entry (slice_cmp value_cmp) index values (place ∷ [])
with_more (Some places) values place index = set_value (are_equal values) index (places ++ place ∷ [])

abbrev pub with_place : List Value → ℕ → List (List Value × List ℕ) → List (List Value × List ℕ)
with_place values place index = with_more (lookup (are_equal values) index) values place index

-- the join values that have a place
abbrev pub values_at : ℕ → List (List Value × List ℕ) → List Value
values_at place [] = []
values_at place (entry ∷ index) = if list_any (λ other. other == place) entry.1 then entry.0 else values_at place index

-- rows with the join values of their places, counted from n
abbrev pub drawn_rows : List (List Value × List ℕ) → ℕ → List RankRow → List DrawnRow
drawn_rows index n [] = []
drawn_rows index n (row ∷ rows) = record { row = row; values = values_at n index } ∷ drawn_rows index (suc n) rows

-- what holds of each map of rows: it has exactly the places of the rows with each list of join values
pub record IsIndex (index : List (List Value × List ℕ)) (rows : List RankRow) : Type 0 where
  pub within : AllByRecursion (λ entry. AllByRecursion (λ place. place < length rows) entry.1) index
  pub finds : (values : List Value) → places_of values index ≡ places_alike values 0 (drawn_rows index 0 rows)

-- Lists of output values with their places in the order of adding, counted from 0, as an ordered map has them.
use Rattle.std.specs.Prelude.{ℕ, zero, suc, ◌≡◌, ◌<◌, ◌==◌, List, [], ◌∷◌, length, map, if◌then◌else◌}
use Rattle.std.specs.BTreeMap.{BTreeMap}
use Rattle.std.specs.List.{AllByRecursion, list_any}
use Rattle.std.specs.declared.alloc.Global.{Global}
use Rattle.std.specs.declared.vec.Vec.{Vec}
use Rattle.rs_value.specs.declared.value.Value.{Value}
use Rattle.rs_outputs.specs.Seen.{has_list, same_values}

-- the lists of a map with their places, in the order of the map
abbrev pub entries_of : BTreeMap (Vec Value Global) ℕ → List (List Value × ℕ)
entries_of m = map (λ e. (e.0.items, e.1)) m.entries

-- the list at a place
abbrev pub list_at : ℕ → List (List Value × ℕ) → List Value
list_at place [] = []
list_at place (entry ∷ entries) = if entry.1 == place then entry.0 else list_at place entries

-- those at some places, the first of which is given
abbrev pub lists_at : ℕ → ℕ → List (List Value × ℕ) → List (List Value)
lists_at zero place entries = []
lists_at (suc n) place entries = list_at place entries ∷ lists_at n (suc place) entries

-- the lists in the order of their places
abbrev pub by_place : List (List Value × ℕ) → List (List Value)
by_place entries = lists_at (length entries) 0 entries

-- what holds of them: each place is that of one of them, and they are the lists that the map has
pub record ArePlaces (entries : List (List Value × ℕ)) : Type 0 where
  pub within : AllByRecursion (λ entry. entry.1 < length entries) entries
  pub finds : (values : List Value) → has_list values (by_place entries) ≡ list_any (λ entry. same_values values entry.0) entries

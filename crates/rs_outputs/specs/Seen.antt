-- Lists of output values that were seen.
use Rattle.std.specs.Prelude.{ℕ, Bool, true, false, ◌&&◌, List, [], ◌∷◌, ◌++◌, if◌then◌else◌}
use Rattle.std.specs.List.{list_any}
use Rattle.std.specs.Ordering.{int_eq}
use Rattle.std.specs.Str.{bytes_eq}
use Rattle.rs_value.specs.declared.value.Value.{Value}
use Rattle.rs_value.specs.declared.value.Value.TheVariants.{Int, Text}

-- the lists in the order of adding, and how many further ones there is room for
pub record Seen : Type 0 where
  pub lists : List (List Value)
  pub room : ℕ

-- equal values
abbrev pub same_value : Value → Value → Bool
same_value (Int n) (Int m) = int_eq n m
same_value (Text t) (Text u) = bytes_eq t u
same_value (Int n) (Text u) = false
same_value (Text t) (Int m) = false

-- whether two lists are equal, value by value
abbrev pub same_values : List Value → List Value → Bool
same_values [] [] = true
same_values [] (v ∷ vs) = false
same_values (u ∷ us) [] = false
same_values (u ∷ us) (v ∷ vs) = same_value u v && same_values us vs

-- whether these values are one of these lists
abbrev pub has_list : List Value → List (List Value) → Bool
has_list values lists = list_any (same_values values) lists

-- the lists with this one behind them, where it isn't one of them
abbrev pub with_list : List Value → List (List Value) → List (List Value)
with_list values lists = if has_list values lists then lists else lists ++ values ∷ []

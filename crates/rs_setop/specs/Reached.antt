-- How far the right side of INTERSECT or EXCEPT was drawn.
use Rattle.std.specs.Prelude.{ℕ, ◌||◌, Bool, false, nat_lt, List, Option, Some, None}
use Rattle.rs_value.specs.declared.value.Value.{Value}
use Rattle.rs_outputs.specs.Seen.{with_list}

-- the bound of the row that came last, whether no more comes, and the output values of the rows that came
pub record Reach : Type 0 where
  pub last : Option ℕ
  pub ended : Bool
  pub values : List (List Value)

-- the last row's bound is below this one
abbrev pub is_below : Option ℕ → ℕ → Bool
is_below None bound = false
is_below (Some last) bound = nat_lt last bound

-- so no row still to come has this bound or a greater one
abbrev pub is_past : Reach → ℕ → Bool
is_past right bound = right.ended || is_below right.last bound

-- after one more row
abbrev pub fed : ℕ → List Value → Reach → Reach
fed bound values right = record right { last = Some bound; values = with_list values right.values }

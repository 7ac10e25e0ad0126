-- What a hash join keeps, and what one more row does to it.
use Rattle.std.specs.Prelude.{ℕ, ◌≡◌, Bool, true, List, [], ◌∷◌, ◌++◌, map, slice_index_or}
use Rattle.std.specs.List.{AllByRecursion}
use Rattle.rs_rank.specs.declared.row.RankRow.{RankRow}
use Rattle.rs_rank.specs.declared.weights.Weights.{Weights}
use Rattle.rs_ripple.specs.declared.side.Side.{Side}
use Rattle.rs_ripple.specs.Joined.{Joined, fed_left, fed_right}
use Rattle.rs_ripple.specs.Ripple.{Ripple, new_ripple}
use Rattle.rs_value.specs.declared.value.Value.{Value}
use Rattle.rs_hrjn.specs.Drawn.{DrawnRow, rows_of}

-- the core, and the rows drawn of each side with their join values, in the order in which they came
pub record Hashed : Type 0 where
  pub ripple : Ripple
  pub lefts : List DrawnRow
  pub rights : List DrawnRow

-- nothing is drawn
abbrev pub new_hashed : Weights → Side → Side → Hashed
new_hashed weights left right = record { ripple = new_ripple weights left right; lefts = []; rights = [] }

-- the same join without the join values
abbrev pub joined_of : Hashed → Joined
joined_of hashed = record { ripple = hashed.ripple; lefts = rows_of hashed.lefts; rights = rows_of hashed.rights }

-- a row that matches one of these has its join values
abbrev pub HaveTheirValues : (RankRow → Bool) → List Value → List DrawnRow → Type 0
HaveTheirValues matches values rows = AllByRecursion (λ drawn. matches drawn.row ≡ true → values ≡ drawn.values) rows

-- a row of these that has these join values matches
abbrev pub MatchTheirValues : (RankRow → Bool) → List Value → List DrawnRow → Type 0
MatchTheirValues matches values rows = AllByRecursion (λ drawn. values ≡ drawn.values → matches drawn.row ≡ true) rows

-- after one more row of a side, with all pairs found
abbrev pub hash_left : (RankRow → RankRow → Bool) → RankRow → List Value → Hashed → Hashed
hash_left matches row values hashed = record {
  ripple = (fed_left matches row (joined_of hashed)).ripple;
  lefts = hashed.lefts ++ record { row = row; values = values } ∷ [];
  rights = hashed.rights;
}

abbrev pub hash_right : (RankRow → RankRow → Bool) → RankRow → List Value → Hashed → Hashed
hash_right matches row values hashed = record {
  ripple = (fed_right matches row (joined_of hashed)).ripple;
  lefts = hashed.lefts;
  rights = hashed.rights ++ record { row = row; values = values } ∷ [];
}

-- the rows at some places
abbrev pub rows_at : RankRow → List ℕ → List RankRow → List RankRow
rows_at other places rows = map (λ place. slice_index_or rows place other) places

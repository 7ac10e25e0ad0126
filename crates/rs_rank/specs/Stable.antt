-- The stable order of scored rows.
use Rattle.std.specs.Prelude.{ℕ, nat_le, List, [], ◌∷◌, if◌then◌else◌}

-- puts a row behind all rows whose score is at least its own
abbrev pub put_behind : {T : Type 0} → (T → ℕ) → T → List T → List T
put_behind score row [] = row ∷ []
put_behind score row (first ∷ rest) =
    if nat_le (score row) (score first) then first ∷ put_behind score row rest else row ∷ first ∷ rest

-- puts rows, one after another, into a list that is in order
abbrev pub put_all : {T : Type 0} → (T → ℕ) → List T → List T → List T
put_all score ordered [] = ordered
put_all score ordered (row ∷ rest) = put_all score (put_behind score row ordered) rest

-- the stable order: each row in turn is put behind all rows whose score is at least its own
abbrev pub stable : {T : Type 0} → (T → ℕ) → List T → List T
stable score rows = put_all score [] rows

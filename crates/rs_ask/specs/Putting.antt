-- What was put on a sink, over several puts.
use Rattle.std.specs.Prelude.{ℕ, ◌≡◌, false, List, [], ◌∷◌, ◌++◌, Option, Some, None, option_map}
use Rattle.std.specs.List.{concat}
use Rattle.rs_value.specs.Outside.{Faulted, Outside}
use Rattle.rs_outside.specs.Sink.{IsPrefix}

-- what a run's sink tells before the run, and where no put failed behind these pieces
abbrev pub all_put : List (List ℕ) → Outside (List (List ℕ))
all_put pieces = record { told = Some pieces; faults = 0; steady = false }

-- these pieces were put, in order
abbrev pub PutsAll : List (List ℕ) → Outside (List (List ℕ)) → Outside (List (List ℕ)) → Type 0
PutsAll pieces old new = new.told ≡ option_map (λ told. told ++ pieces) old.told

-- nothing, or one piece that begins this line
abbrev pub IsPartOf : Option (List ℕ) → List (List ℕ) → Type 0
IsPartOf line [] = Unit {0}
IsPartOf None (part ∷ rest) = ⊥
IsPartOf (Some line) (part ∷ []) = IsPrefix part line
IsPartOf (Some line) (part ∷ next ∷ rest) = ⊥

-- these pieces were put, and then nothing or one piece that begins this line
pub record PutsAndPart (pieces : List (List ℕ)) (line : Option (List ℕ)) (old new : Outside (List (List ℕ))) : Type 0 where
  pub more : List (List ℕ)
  pub part : IsPartOf line more
  pub put : PutsAll (pieces ++ more) old new

-- pieces were put that are these bytes, one after another
pub record PutsBytes (bytes : List ℕ) (old new : Outside (List (List ℕ))) : Type 0 where
  pub pieces : List (List ℕ)
  pub put : PutsAll pieces old new
  pub are : concat pieces ≡ bytes

-- the put of a line failed, which took at most a part of it
pub record PutFails (line : List ℕ) (old new : Outside (List (List ℕ))) : Type 0 where
  pub part : PutsAndPart [] (Some line) old new
  pub faulted : Faulted old new

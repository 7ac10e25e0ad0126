-- A list that is read piece by piece, until a fault.
use Rattle.std.specs.Prelude.{List, ◌++◌, Result, Ok, Err}

-- what is read, behind what was read before it
abbrev pub appended : {A E : Type 0} → List A → Result (List A) E → Result (List A) E
appended made (Ok rest) = Ok (made ++ rest)
appended made (Err fault) = Err fault

-- The standard streams that were closed at the start.
use Rattle.std.specs.Prelude.{pos, ◌≡◌, ◌≤ℤ◌, int_le, List, [], ◌∷◌, Option, Some, None, IfSome, Result, Ok, Err, if◌then◌else◌}
use Rattle.std.specs.Fd.{file_raw_fd}
use Rattle.std.specs.List.{All}
use Rattle.std.specs.declared.fs.File.{File}
use Rattle.std.specs.declared.io.Error.{Error}

-- what is held of what was opened: the file, where its number is that of a standard stream, which are at most 2
abbrev pub held_of : Result File Error → Option File
held_of (Ok file) = if int_le (file_raw_fd file) (pos 2) then Some file else None
held_of (Err error) = None

-- each of three files that were opened so is held, where its number is that of a standard stream
abbrev pub HoldsThree : (Result File Error → Type 0) → List (Option File) → Type 0
HoldsThree opens held = (first : Result File Error) × (second : Result File Error) × (third : Result File Error) × opens first × opens second × opens third
    × (held ≡ held_of first ∷ held_of second ∷ held_of third ∷ [])

-- nothing is held but files with the numbers of standard streams
abbrev pub AreStandard : List (Option File) → Type 0
AreStandard held = All (λ one. IfSome one (λ file. file_raw_fd file ≤ℤ pos 2)) held

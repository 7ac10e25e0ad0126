-- What a read answered.
use Rattle.std.specs.Prelude.{ℕ, Result, Ok, Err}
use Rattle.std.specs.IoError.{error_kind}
use Rattle.std.specs.declared.io.Error.{Error}
use Rattle.std.specs.declared.io.ErrorKind.{ErrorKind}

-- how many bytes a read gave, or of which kind its error was
abbrev pub read_answer : Result ℕ Error → Result ℕ ErrorKind
read_answer (Ok count) = Ok count
read_answer (Err error) = Err (error_kind error)

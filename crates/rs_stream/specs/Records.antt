-- The records of a stream: bytes up to a line feed that stands outside of quotes.
use Rattle.std.specs.Prelude.{ℕ, ◌≡◌, ◌==◌, ◌&&◌, not, Bool, false, List, [], ◌∷◌, ◌++◌, option_map, Option, Some, None, Result, Ok, Err, if◌then◌else◌, ⊤}
use Rattle.std.specs.declared.alloc.Global.{Global}
use Rattle.std.specs.declared.vec.Vec.{Vec}
use Rattle.std.specs.Io.KnownBytes.{Consumes, IsAtEnd}

-- these bytes have an odd number of quotes
abbrev pub is_quoted : List ℕ → Bool
is_quoted [] = false
is_quoted (byte ∷ rest) = if byte == 34 then not (is_quoted rest) else is_quoted rest

-- this byte ends a record that begins with these bytes
abbrev pub ends_record : List ℕ → ℕ → Bool
ends_record begun byte = byte == 10 && not (is_quoted begun)

-- the whole records of bytes, of which these are begun. What stands behind the last whole one is none
abbrev pub records_behind : List ℕ → List ℕ → List (List ℕ)
records_behind begun [] = []
records_behind begun (byte ∷ rest) =
    if ends_record begun byte then (begun ++ byte ∷ []) ∷ records_behind [] rest else records_behind (begun ++ byte ∷ []) rest

abbrev pub records_in : List ℕ → List (List ℕ)
records_in bytes = records_behind [] bytes

-- a reader, and the bytes that were read of the next record
pub record RecordsState (R : Type 0) : Type 0 where
  pub reader : R
  pub begun : List ℕ

-- the records that a reader has left, where it tells its bytes
abbrev pub records_left : {R : Type 0} → (R → Option (List ℕ)) → RecordsState R → Option (List (List ℕ))
records_left remaining state = option_map (λ bytes. records_behind state.begun bytes) (remaining state.reader)

-- what reading one byte does to the bytes that are left, where they are known: it takes the first one; where none is left, or the read fails, it takes none
abbrev pub ReadsByte : {E : Type 0} → Result (Option ℕ) E → Option (List ℕ) → Option (List ℕ) → Type 0
ReadsByte (Ok (Some byte)) old new = Consumes old new (byte ∷ [])
ReadsByte (Ok None) old new = Consumes old new [] × IsAtEnd new
ReadsByte (Err fault) old new = Consumes old new []

-- no byte was lost, and the same records are left
pub record AreLeft (begun bytes begun_then rest : List ℕ) : Type 0 where
  pub bytes_left : begun ++ bytes ≡ begun_then ++ rest
  pub records_left : records_behind begun bytes ≡ records_behind begun_then rest

-- exactly the bytes of this record were taken, and it is the first of those that were left
pub record IsTaken (record_taken begun bytes rest : List ℕ) : Type 0 where
  pub bytes_left : begun ++ bytes ≡ record_taken ++ rest
  pub records_left : records_behind begun bytes ≡ record_taken ∷ records_in rest

-- the same, where the bytes are known
abbrev pub Leaves : List ℕ → Option (List ℕ) → List ℕ → Option (List ℕ) → Type 0
Leaves begun None begun_then new = ⊤
Leaves begun (Some bytes) begun_then None = ⊥
Leaves begun (Some bytes) begun_then (Some rest) = AreLeft begun bytes begun_then rest

abbrev pub Takes : List ℕ → List ℕ → Option (List ℕ) → Option (List ℕ) → Type 0
Takes record_taken begun None new = ⊤
Takes record_taken begun (Some bytes) None = ⊥
Takes record_taken begun (Some bytes) (Some rest) = IsTaken record_taken begun bytes rest

-- the bytes of a record that was read
abbrev pub items_of : {E : Type 0} → Result (Option (Vec ℕ Global)) E → Result (Option (List ℕ)) E
items_of (Ok (Some found)) = Ok (Some found.items)
items_of (Ok None) = Ok None
items_of (Err fault) = Err fault

-- what reading a record does to the bytes that are left: it takes those of the first whole record; or there is none, and no byte of the reader is left; or nothing is lost
abbrev pub ReadsRecord : {E : Type 0} → Result (Option (List ℕ)) E → List ℕ → Option (List ℕ) → List ℕ → Option (List ℕ) → Type 0
ReadsRecord (Ok (Some record_taken)) begun old begun_then new = (begun_then ≡ []) × Takes record_taken begun old new
ReadsRecord (Ok None) begun old begun_then new = Leaves begun old begun_then new × IsAtEnd new
ReadsRecord (Err fault) begun old begun_then new = Leaves begun old begun_then new

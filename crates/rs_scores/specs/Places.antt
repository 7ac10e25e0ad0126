-- Where in a file of comma-separated fields a byte stands.
use Rattle.std.specs.Prelude.{ℕ, ◌==◌, ◌||◌, Bool, true, false, List, [], ◌∷◌, if◌then◌else◌}
use Rattle.rs_scores.specs.declared.place.Place.{Place}
use Rattle.rs_scores.specs.declared.place.Place.TheVariants.{Closed, Field, Plain, Quoted, Record}

-- the place behind a byte that stands in no quotes: a line feed, a carriage return or a comma ends the field
abbrev pub place_unquoted : ℕ → Place
place_unquoted byte = if byte == 10 then Record else if (byte == 13) || (byte == 44) then Field else Plain

-- the place behind a byte: a quotation mark opens a field at its front, closes one, and counts as a byte of it where two stand together
abbrev pub place_after : Place → ℕ → Place
place_after Record byte = if byte == 34 then Quoted else place_unquoted byte
place_after Field byte = if byte == 34 then Quoted else place_unquoted byte
place_after Plain byte = place_unquoted byte
place_after Quoted byte = if byte == 34 then Closed else Quoted
place_after Closed byte = if byte == 34 then Quoted else place_unquoted byte

-- the place behind some bytes
abbrev pub place_behind : Place → List ℕ → Place
place_behind place [] = place
place_behind place (byte ∷ rest) = place_behind (place_after place byte) rest

-- a record begins here: each one before is ended by a line feed
abbrev pub is_record : Place → Bool
is_record Record = true
is_record Field = false
is_record Plain = false
is_record Quoted = false
is_record Closed = false

-- What was appended before a fault is cut off again.
use Rattle.std.proofs.Common.{ℕ, ◌≡◌, ◌∙◌, ◌+◌, ◌<◌, ◌≤◌, List, [], ◌++◌, Option, Some, None, Result, Ok, Err, length, take, refl, ap, arith}
use Rattle.std.proofs.lemmas.Grind.{common_steps}
use Rattle.std.specs.Prelude.{IfSome}
use Rattle.rs_outside.specs.declared.files.FetchFault.{FetchFault}
use Rattle.rs_outside.specs.declared.files.FetchFault.TheVariants.{Missing, TooLong, Failed, Memory}
use Rattle.rs_outside.specs.Files.{Fetches}
use Rattle.rs_outside.specs.Sink.{IsPrefix}
use Rattle.std.specs.Io.KnownBytes.{Consumes}
use Rattle.rs_outside.specs.DirFiles.{AppendsRest, ConsumesAtMost}
use Rattle.rs_outside.proofs.StreamFacts.{Consumes-then}

take_before : (old bytes : List ℕ) → take (length old) (old ++ bytes) ≡ old
take_before old bytes = grind (arith, common_steps)

-- the bytes that are left of a reader, where it tells them, or else these
abbrev told_or : Option (List ℕ) → List ℕ → List ℕ
told_or None bytes = bytes
told_or (Some all) bytes = all

is_told : (left : Option (List ℕ)) (bytes : List ℕ) → IfSome left (λ told. told ≡ told_or left bytes)
is_told None bytes = tt
is_told (Some all) bytes = refl

-- what a fetch gives of a reader that had this many bytes left
abbrev pub FetchesLeft : Option (List ℕ) → ℕ → List ℕ → Result (Unit {0}) FetchFault → List ℕ → Type 0
FetchesLeft left limit old result new = (bytes : List ℕ) × IfSome left (λ told. told ≡ bytes) × Fetches (Some bytes) limit old result new

-- the bytes that were appended are there
pub Fetches-appended : (left : Option (List ℕ)) (limit : ℕ) (old new : List ℕ) → AppendsRest left limit old (Ok tt) new → FetchesLeft left limit old (Ok tt) new
Fetches-appended left limit old new read = (read.0, read.2.1, (read.0, refl, read.2.0, read.1))

-- a reader that gave more bytes than the limit had more
longer : (left : Option (List ℕ)) (limit : ℕ) (bytes : List ℕ) → length bytes ≡ limit + 1 → IfSome left (λ all. IsPrefix bytes all) → limit < length (told_or left bytes)
longer None limit bytes long begins = omega (arith, long)
longer (Some all) limit bytes long begins =
    let same = ap length begins.split in
    let sizes : length (bytes ++ begins.rest) ≡ length bytes + length begins.rest = grind (arith, common_steps) in
    omega (arith, long, same, sizes)

-- the buffer is as before where what was appended is cut off
cut_off : (old new kept bytes : List ℕ) → new ≡ old ++ bytes → kept ≡ take (length old) new → kept ≡ old
cut_off old new kept bytes appended cut = cut ∙ ap (take (length old)) appended ∙ take_before old bytes

-- a fault after which what was appended is cut off
pub Fetches-cut_off : (left : Option (List ℕ)) (limit : ℕ) (old new kept : List ℕ) (fault : FetchFault) → AppendsRest left limit old (Err fault) new
    → kept ≡ take (length old) new → FetchesLeft left limit old (Err fault) kept
Fetches-cut_off left limit old new kept Missing read cut = absurd read.2
Fetches-cut_off left limit old new kept TooLong read cut =
    (told_or left read.0, is_told left read.0, (told_or left read.0, refl, longer left limit read.0 read.2.0 read.2.1, cut_off old new kept read.0 read.1 cut))
Fetches-cut_off left limit old new kept Failed read cut = (told_or left [], is_told left [], cut_off old new kept read.0 read.1 cut)
Fetches-cut_off left limit old new kept Memory read cut = (told_or left [], is_told left [], cut_off old new kept read.0 read.1 cut)

-- no more bytes are taken than were asked for
take_few : (count : ℕ) (bytes : List ℕ) → length (take count bytes) ≤ count
take_few count bytes = grind (arith, common_steps)

-- bytes that were taken, and the last ones, which may be one more than there was room for
pub ConsumesAtMost-more : (left middle after : Option (List ℕ)) (first chunk : List ℕ) (count room limit : ℕ) → Consumes left middle first
    → Consumes middle after (take count chunk) → length first + room ≡ limit → count ≤ room + 1 → ConsumesAtMost (limit + 1) left after
ConsumesAtMost-more left middle after first chunk count room limit one two size few =
    let sizes : length (first ++ take count chunk) ≡ length first + length (take count chunk) = grind (arith, common_steps) in
    let some = take_few count chunk in
    (first ++ take count chunk, Consumes-then left middle after first (take count chunk) one two, omega (arith, size, few, sizes, some))

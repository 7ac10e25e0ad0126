-- What one read of a record does to the list of the records that are left.
use Rattle.std.proofs.Common.{◌≡◌, ◌⊎◌, inl, inr, ◌<◌, ◌≤◌, ◌+◌, ℕ, zero, suc, Bool, true, false, List, [], ◌∷◌, ◌++◌, length, Option, Some, None, refl, sym, ap, ◌∙◌, arith, add-one, if◌then◌else◌, IfSome}
use Rattle.std.specs.Bool.{MatchBool}
use Rattle.std.specs.Borrow.{Bor}
use Rattle.csv.specs.Machine.{Read, ends_at_end, field_after, fields_after, is_end, next_record, step}
use Rattle.csv.specs.Reading.{NextIs, ReadRecord, ReadsNext, Ready, default_config, is_bom, is_flexible, names_headers, pending_of, reader_config, reader_headers, reader_source, reader_state, reader_trim, records_from, records_next, strip_bom}
use Rattle.csv.specs.declared.reader.Trim.TheVariants as trim
use Rattle.csv.specs.declared.parser.Config.{Config}
use Rattle.csv.specs.declared.parser.State.{State}
use Rattle.csv.specs.declared.parser.State.TheVariants as st
use Rattle.rs_lines.specs.Records.{ByteReader, Fields, IsReading, bytes_left, records_after, records_left, records_of}

-- a read leaves fewer bytes than these, or it ended with the text
abbrev Leaves : List ℕ → Read → Type 0
Leaves bytes read = (length read.2 < length bytes) ⊎ ((read.1 ≡ st.StartRecord) × (read.2 ≡ []))

-- a fact of a choice, from the fact of both
IfSome-if : {A : Type 0} (b : Bool) (x y : Option A) (P : A → Type 0) → IfSome x P → IfSome y P → IfSome (if b then x else y) P
IfSome-if true x y P first second = first
IfSome-if false x y P first second = second

-- what a read leaves is also fewer than one byte more
Leaves-more : (read : Option Read) (c : ℕ) (rest : List ℕ) → IfSome read (Leaves rest) → IfSome read (Leaves (c ∷ rest))
Leaves-more None c rest h = tt
Leaves-more (Some p) c rest h = elim h [ inl shorter ↦ inl (omega arith) | inr ended ↦ inr ended ]

-- reading a record takes a byte or ends with the text
next_record-leaves : (cfg : Config) (s : State) (fields : List (List ℕ)) (field xs : List ℕ) → IfSome (next_record cfg s fields field xs) (Leaves xs)
unfolding next_record
next_record-leaves cfg s fields field [] = IfSome-if (ends_at_end s) (Some (fields ++ (field ∷ []), st.StartRecord, [])) None (Leaves []) (inr (refl, refl)) tt
next_record-leaves cfg s fields field (c ∷ rest) =
    IfSome-if (is_end (step cfg s c).1) (Some (fields_after (step cfg s c).1 fields field, (step cfg s c).0, rest)) (next_record cfg (step cfg s c).0 (fields_after (step cfg s c).1 fields field) (field_after (step cfg s c).1 c field) rest) (Leaves (c ∷ rest))
    (inl (omega arith))
    (Leaves-more (next_record cfg (step cfg s c).0 (fields_after (step cfg s c).1 fields field) (field_after (step cfg s c).1 c field) rest) c rest
    (next_record-leaves cfg (step cfg s c).0 (fields_after (step cfg s c).1 fields field) (field_after (step cfg s c).1 c field) rest))

-- no record is left at the start of one where no byte is left
pub records_from-ended : (cfg : Config) (n : ℕ) → records_from cfg n st.StartRecord [] ≡ []
unfolding records_from next_record
records_from-ended cfg zero = refl
records_from-ended cfg (suc n) = refl

-- the records after a read are the same under two counts that both suffice
records_next-same : (cfg : Config) (n m : ℕ) (xs : List ℕ) (read : Option Read) → length xs ≤ n → length xs ≤ m
    → ((s : State) (ys : List ℕ) → length ys < n → length ys < m → records_from cfg n s ys ≡ records_from cfg m s ys)
    → IfSome read (Leaves xs) → records_next (records_from cfg n) read ≡ records_next (records_from cfg m) read
records_next-same cfg n m xs None le le2 same h = refl
records_next-same cfg n m xs (Some p) le le2 same h =
    ap (λ (rows : List Fields). p.0 ∷ rows) (elim h [
      | inl shorter ↦ same p.1 p.2 (omega arith) (omega arith)
      | inr ended ↦ rw (ended.0, ended.1) (records_from-ended cfg n ∙ sym (records_from-ended cfg m))
    ])

-- a count above the number of bytes is as good as any other
records_from-enough : (cfg : Config) (n m : ℕ) (s : State) (xs : List ℕ) → length xs < n → length xs < m → records_from cfg n s xs ≡ records_from cfg m s xs
unfolding records_from
records_from-enough cfg zero m s xs h k = absurd (omega arith)
records_from-enough cfg (suc n) zero s xs h k = absurd (omega arith)
records_from-enough cfg (suc n) (suc m) s xs h k =
    records_next-same cfg n m xs (next_record cfg s [] [] xs) (omega arith) (omega arith) (λ s2 ys. records_from-enough cfg n m s2 ys) (next_record-leaves cfg s [] [] xs)

-- the records of a text: those after a read, behind the record that it gave
abbrev pub after_read : Config → Option Read → List Fields
after_read cfg read = records_next (λ s ys. records_from cfg (length ys + 1) s ys) read

-- the same, from a count that suffices
records_next-after_read : (cfg : Config) (n : ℕ) (xs : List ℕ) (read : Option Read) → length xs ≤ n → IfSome read (Leaves xs)
    → records_next (records_from cfg n) read ≡ after_read cfg read
records_next-after_read cfg n xs None le h = refl
records_next-after_read cfg n xs (Some p) le h =
    ap (λ (rows : List Fields). p.0 ∷ rows) (elim h [
      | inl shorter ↦ records_from-enough cfg n (length p.2 + 1) p.1 p.2 (omega arith) (omega arith)
      | inr ended ↦ rw (ended.0, ended.1) (records_from-ended cfg n ∙ sym (records_from-ended cfg (length {A = ℕ} [] + 1)))
    ])

-- the records of a text, by its first
pub records_from-first : (cfg : Config) (s : State) (xs : List ℕ) → records_from cfg (length xs + 1) s xs ≡ after_read cfg (next_record cfg s [] [] xs)
unfolding records_from
records_from-first cfg s xs = rw (add-one (length xs)) (records_next-after_read cfg (length xs) xs (next_record cfg s [] [] xs) (omega arith) (next_record-leaves cfg s [] [] xs))

-- a read that found a record gave the first of those that are left
after_read-found : (cfg : Config) (read : Option Read) (fields : Fields) (s : State) (ys : List ℕ) → NextIs read true fields s ys
    → after_read cfg read ≡ fields ∷ records_from cfg (length ys + 1) s ys
after_read-found cfg None fields s ys n = cc n
after_read-found cfg (Some p) fields s ys n = rw (n.1, n.2, n.3) refl

-- a read that found no record: none is left
after_read-none : (cfg : Config) (read : Option Read) (fields : Fields) (s : State) (ys : List ℕ) → NextIs read false fields s ys → after_read cfg read ≡ []
after_read-none cfg None fields s ys n = refl
after_read-none cfg (Some p) fields s ys n = cc n.0

-- a read by a reader of bytes in memory
abbrev ReadBytes : ByteReader → ByteReader → Bool → Fields → Type 0
ReadBytes old new found fields = ReadRecord (λ (bytes : Bor (List ℕ)). Some bytes.now) old new found fields

-- the records behind a read
found-after : (s s2 : State) (xs : List ℕ) (after : Option (List ℕ)) (fields : Fields) → ReadsNext default_config s (Some xs) after true fields s2
    → (ys : List ℕ) × (after ≡ Some ys) × (records_after s (Some xs) ≡ fields ∷ records_after s2 after)
found-after s s2 xs None fields r = absurd r
found-after s s2 xs (Some ys) fields r = (ys, refl, records_from-first default_config s xs ∙ after_read-found default_config (next_record default_config s [] [] xs) fields s2 ys r)

none-after : (s s2 : State) (xs : List ℕ) (after : Option (List ℕ)) (fields : Fields) → ReadsNext default_config s (Some xs) after false fields s2
    → records_after s (Some xs) ≡ []
none-after s s2 xs None fields r = absurd r
none-after s s2 xs (Some ys) fields r =
    records_from-first default_config s xs ∙ after_read-none default_config (next_record default_config s [] [] xs) fields s2 ys r

-- what a read did to the records that are left
pub record ReadOne (found : Bool) (old new : ByteReader) (fields : Fields) : Type 0 where
  pub first : MatchBool found (records_left old ≡ fields ∷ records_left new) (records_left old ≡ [])
  pub reading : found ≡ true → IsReading new

pub read-one : (found : Bool) (old new : ByteReader) (fields : Fields) → IsReading old → Ready new → is_flexible new ≡ is_flexible old → ReadBytes old new found fields → ReadOne found old new fields
read-one true old new fields h ready flexible r =
    let next = rw (h.config, h.known) at r.0 in
    let after = found-after (reader_state old) (reader_state new) h.bytes (pending_of (Some (reader_source new).now) new) fields next in
    record {
      first = rw (h.known, r.1) after.2;
      reading = λ _. record { config = r.2 ∙ h.config; untrimmed = r.3 ∙ h.untrimmed; ready = ready; flexible = flexible ∙ h.flexible; bytes = after.0; known = rw r.1 after.1 };
    }
read-one false old new fields h ready flexible r =
    let next = rw (h.config, h.known) at r.0 in
    record {
      first = rw h.known (none-after (reader_state old) (reader_state new) h.bytes (pending_of (Some (reader_source new).now) new) fields next);
      reading = λ e. cc e;
    }

-- a new reader that takes no header row, over these bytes
pub IsReading-new : (reader : ByteReader) (bytes : List ℕ) → reader_config reader ≡ default_config → reader_trim reader ≡ trim.None
    → names_headers reader ≡ false → reader_headers reader ≡ None → is_flexible reader ≡ true → bytes_left reader ≡ Some (strip_bom bytes) → IsReading reader
IsReading-new reader bytes config untrimmed named headers flexible known =
    record { config = config; untrimmed = untrimmed; ready = inr (inr (named, headers)); flexible = flexible; bytes = strip_bom bytes; known = known }

-- a text is no longer without the mark at its start
pub length-strip_bom : (xs : List ℕ) → length (strip_bom xs) ≤ length xs
unfolding strip_bom
length-strip_bom [] = omega arith
length-strip_bom (a ∷ []) = omega arith
length-strip_bom (a ∷ b ∷ []) = omega arith
length-strip_bom (a ∷ b ∷ c ∷ rest) = of (is_bom a b c)
  where
    of : (mark : Bool) → length (if mark then rest else a ∷ b ∷ c ∷ rest) ≤ length (a ∷ b ∷ c ∷ rest)
    of true = omega arith
    of false = omega arith

-- there are no more records than were counted
length-records_from : (cfg : Config) (n : ℕ) (s : State) (xs : List ℕ) → length (records_from cfg n s xs) ≤ n
unfolding records_from
length-records_from cfg zero s xs = omega arith
length-records_from cfg (suc n) s xs = behind (next_record cfg s [] [] xs) (λ t ys. length-records_from cfg n t ys)
  where
    behind : (read : Option Read) → ((t : State) (ys : List ℕ) → length (records_from cfg n t ys) ≤ n) → length (records_next (records_from cfg n) read) ≤ suc n
    behind None few = omega arith
    behind (Some p) few = omega (arith, few p.1 p.2)

-- a file has at most one record more than bytes behind its mark
pub length-records_of : (bytes : List ℕ) → length (records_of bytes) ≤ length (strip_bom bytes) + 1
length-records_of bytes = length-records_from default_config (length (strip_bom bytes) + 1) st.StartRecord (strip_bom bytes)

-- and so than bytes
pub few-records : (bytes : List ℕ) → length (records_of bytes) ≤ length bytes + 1
few-records bytes = omega (arith, length-records_of bytes, length-strip_bom bytes)

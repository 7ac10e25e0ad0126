-- What one read of a record does to the list of the records that are left.
use Rattle.std.proofs.Common.{◌≡◌, ◌⊎◌, inl, inr, ◌<◌, ◌≤◌, ◌+◌, ℕ, zero, suc, Bool, true, false, List, [], ◌∷◌, ◌++◌, length, Option, Some, None, refl, sym, ap, ◌∙◌, arith, length-append, add-one, zero-add, if◌then◌else◌, IfSome}
use Rattle.std.specs.Borrow.{Bor}
use Rattle.csv.specs.Machine.{Read, ends_at_end, field_after, fields_after, is_end, next_record, step}
use Rattle.csv.specs.Reading.{NextIs, ReadRecord, ReadsNext, Ready, default_config, is_bom, is_flexible, names_headers, pending_of, reader_config, reader_headers, reader_source, reader_state, reader_trim, records_from, records_next, strip_bom}
use Rattle.csv.specs.declared.reader.Trim.TheVariants as trim
use Rattle.csv.specs.declared.parser.Config.{Config}
use Rattle.csv.specs.declared.parser.State.{State}
use Rattle.csv.specs.declared.parser.Action.{Action}
use Rattle.csv.specs.declared.parser.Action.TheVariants as act
use Rattle.csv.specs.declared.parser.State.TheVariants as st
use Rattle.rs_table.specs.Records.{ByteReader, IsReading, bytes_left, records_after, records_left}

-- a read leaves fewer bytes than these, or it ended with the text, and its record has no more fields than this
abbrev Leaves : List ℕ → ℕ → Read → Type 0
Leaves bytes most p = ((length p.2 < length bytes) ⊎ ((p.1 ≡ st.StartRecord) × (p.2 ≡ []))) × (length p.0 ≤ most)

-- a fact of a choice, from the fact of both
IfSome-if : {A : Type 0} (b : Bool) (x y : Option A) (P : A → Type 0) → IfSome x P → IfSome y P → IfSome (if b then x else y) P
IfSome-if true x y P first second = first
IfSome-if false x y P first second = second

-- what a read leaves is also fewer than one byte more, and more fields are allowed
Leaves-weaker : (o : Option Read) (c : ℕ) (rest : List ℕ) (most more : ℕ) → most ≤ more → IfSome o (Leaves rest most) → IfSome o (Leaves (c ∷ rest) more)
Leaves-weaker None c rest most more le h = tt
Leaves-weaker (Some p) c rest most more le h =
    (elim h.0 [ inl shorter ↦ inl (omega arith) | inr ended ↦ inr ended ], omega arith)

-- an action adds at most one field
length-fields_after : (a : Action) (fields : List (List ℕ)) (field : List ℕ) → length (fields_after a fields field) ≤ length fields + 1
length-fields_after act.EndField fields field = omega (arith, length-append fields (field ∷ []))
length-fields_after act.EndRecord fields field = omega (arith, length-append fields (field ∷ []))
length-fields_after act.Skip fields field = omega arith
length-fields_after act.Copy fields field = omega arith

-- reading a record takes a byte or ends with the text, and each byte ends at most one field
next_record-leaves : (cfg : Config) (s : State) (fields : List (List ℕ)) (field xs : List ℕ)
    → IfSome (next_record cfg s fields field xs) (Leaves xs (length fields + length xs + 1))
unfolding next_record
next_record-leaves cfg s fields field [] =
    IfSome-if (ends_at_end s) (Some (fields ++ (field ∷ []), st.StartRecord, [])) None (Leaves [] (length fields + 0 + 1)) (inr (refl, refl), omega (arith, length-append fields (field ∷ []))) tt
next_record-leaves cfg s fields field (c ∷ rest) =
    let a = (step cfg s c).1 in
    let grown = length-fields_after (step cfg s c).1 fields field in
    let later = next_record-leaves cfg (step cfg s c).0 (fields_after (step cfg s c).1 fields field) (field_after (step cfg s c).1 c field) rest in
    IfSome-if (is_end (step cfg s c).1) (Some (fields_after (step cfg s c).1 fields field, (step cfg s c).0, rest)) (next_record cfg (step cfg s c).0 (fields_after (step cfg s c).1 fields field) (field_after (step cfg s c).1 c field) rest) (Leaves (c ∷ rest) (length fields + length (c ∷ rest) + 1))
    (inl (omega arith), omega arith)
    (Leaves-weaker (next_record cfg (step cfg s c).0 (fields_after (step cfg s c).1 fields field) (field_after (step cfg s c).1 c field) rest) c rest
    (length (fields_after (step cfg s c).1 fields field) + length rest + 1) (length fields + length (c ∷ rest) + 1) (omega arith) later)

-- no record is left at the start of one where no byte is left
records_from-ended : (cfg : Config) (n : ℕ) → records_from cfg n st.StartRecord [] ≡ []
unfolding records_from next_record
records_from-ended cfg zero = refl
records_from-ended cfg (suc n) = refl

-- the records after a read are the same under two counts that both suffice
records_next-same : (cfg : Config) (n m : ℕ) (xs : List ℕ) (most : ℕ) (o : Option Read) → length xs ≤ n → length xs ≤ m
    → ((s : State) (ys : List ℕ) → length ys < n → length ys < m → records_from cfg n s ys ≡ records_from cfg m s ys)
    → IfSome o (Leaves xs most) → records_next (records_from cfg n) o ≡ records_next (records_from cfg m) o
records_next-same cfg n m xs most None le le2 same h = refl
records_next-same cfg n m xs most (Some p) le le2 same h =
    ap (λ (rows : List (List (List ℕ))). p.0 ∷ rows) (elim h.0 [
      | inl shorter ↦ same p.1 p.2 (omega arith) (omega arith)
      | inr ended ↦ rw (ended.0, ended.1) (records_from-ended cfg n ∙ sym (records_from-ended cfg m))
    ])

-- a count above the number of bytes is as good as any other
records_from-enough : (cfg : Config) (n m : ℕ) (s : State) (xs : List ℕ) → length xs < n → length xs < m → records_from cfg n s xs ≡ records_from cfg m s xs
unfolding records_from
records_from-enough cfg zero m s xs h k = absurd (omega arith)
records_from-enough cfg (suc n) zero s xs h k = absurd (omega arith)
records_from-enough cfg (suc n) (suc m) s xs h k =
    records_next-same cfg n m xs (length {A = List ℕ} [] + length xs + 1) (next_record cfg s [] [] xs) (omega arith) (omega arith) (λ s2 ys. records_from-enough cfg n m s2 ys) (next_record-leaves cfg s [] [] xs)

-- the records of a text: those after a read, behind the record that it gave
abbrev after_read : Config → Option Read → List (List (List ℕ))
after_read cfg o = records_next (λ s ys. records_from cfg (length ys + 1) s ys) o

-- the same, from a count that suffices
records_next-after_read : (cfg : Config) (n : ℕ) (xs : List ℕ) (most : ℕ) (o : Option Read) → length xs ≤ n → IfSome o (Leaves xs most)
    → records_next (records_from cfg n) o ≡ after_read cfg o
records_next-after_read cfg n xs most None le h = refl
records_next-after_read cfg n xs most (Some p) le h =
    ap (λ (rows : List (List (List ℕ))). p.0 ∷ rows) (elim h.0 [
      | inl shorter ↦ records_from-enough cfg n (length p.2 + 1) p.1 p.2 (omega arith) (omega arith)
      | inr ended ↦ rw (ended.0, ended.1) (records_from-ended cfg n ∙ sym (records_from-ended cfg (length {A = ℕ} [] + 1)))
    ])

-- the records of a text, by its first
records_from-first : (cfg : Config) (s : State) (xs : List ℕ) → records_from cfg (length xs + 1) s xs ≡ after_read cfg (next_record cfg s [] [] xs)
unfolding records_from
records_from-first cfg s xs =
    rw (add-one (length xs)) (records_next-after_read cfg (length xs) xs (length {A = List ℕ} [] + length xs + 1) (next_record cfg s [] [] xs) (omega arith) (next_record-leaves cfg s [] [] xs))

-- a read that found a record gave the first of those that are left
after_read-found : (cfg : Config) (xs : List ℕ) (most : ℕ) (o : Option Read) (fields : List (List ℕ)) (s : State) (ys : List ℕ)
    → NextIs o true fields s ys → length xs ≤ most → IfSome o (Leaves xs (length xs + 1))
    → (after_read cfg o ≡ fields ∷ records_from cfg (length ys + 1) s ys) × (length ys ≤ most) × (length fields ≤ most + 1)
after_read-found cfg xs most None fields s ys n le h = cc n
after_read-found cfg xs most (Some p) fields s ys n le h =
    rw (n.1, n.2, n.3) (refl, elim h.0 [ inl shorter ↦ omega arith | inr ended ↦ rw ended.1 (omega arith) ], omega arith)

-- a read that found no record: none is left
after_read-none : (cfg : Config) (o : Option Read) (fields : List (List ℕ)) (s : State) (ys : List ℕ) → NextIs o false fields s ys → after_read cfg o ≡ []
after_read-none cfg None fields s ys n = refl
after_read-none cfg (Some p) fields s ys n = cc n.0

-- the bytes and the records after a read that found a record
found-after : (s s2 : State) (xs : List ℕ) (after : Option (List ℕ)) (fields : List (List ℕ)) → length xs ≤ 33554432
    → ReadsNext default_config s (Some xs) after true fields s2
    → (ys : List ℕ) × (after ≡ Some ys) × (length ys ≤ 33554432) × (records_after s (Some xs) ≡ fields ∷ records_after s2 after) × (length fields ≤ 33554433)
found-after s s2 xs None fields le r = absurd r
found-after s s2 xs (Some ys) fields le r =
    let leaves = next_record-leaves default_config s [] [] xs in
    let here = after_read-found default_config xs 33554432 (next_record default_config s [] [] xs) fields s2 ys r le (rw zero-add at leaves) in
    (ys, refl, here.1, records_from-first default_config s xs ∙ here.0, here.2)

-- no record is left where a read found none
none-after : (s s2 : State) (xs : List ℕ) (after : Option (List ℕ)) (fields : List (List ℕ)) → ReadsNext default_config s (Some xs) after false fields s2
    → records_after s (Some xs) ≡ []
none-after s s2 xs None fields r = absurd r
none-after s s2 xs (Some ys) fields r =
    records_from-first default_config s xs ∙ after_read-none default_config (next_record default_config s [] [] xs) fields s2 ys r

-- what a read that found a record says of the reader and of the record
pub record Found (old new : ByteReader) (fields : List (List ℕ)) : Type 0 where
  pub first : records_left old ≡ fields ∷ records_left new
  pub reading : IsReading new
  pub few_fields : length fields ≤ 33554433

-- a read by a reader of bytes in memory
abbrev pub ReadBytes : ByteReader → ByteReader → Bool → List (List ℕ) → Type 0
ReadBytes old new found fields = ReadRecord (λ (bytes : Bor (List ℕ)). Some bytes.now) old new found fields

-- a read that found a record took the first of those that were left
pub Found-from_read : (old new : ByteReader) (fields : List (List ℕ)) → IsReading old → Ready new → is_flexible new ≡ is_flexible old → ReadBytes old new true fields → Found old new fields
Found-from_read old new fields h ready flexible r =
    let next = rw (h.config, h.known) at r.0 in
    let (ys, known, few, first, few_fields) = found-after (reader_state old) (reader_state new) h.bytes (pending_of (Some (reader_source new).now) new) fields h.few next in
    record {
      first = rw (h.known, r.1) first;
      reading = record { config = r.2 ∙ h.config; untrimmed = r.3 ∙ h.untrimmed; ready = ready; flexible = flexible ∙ h.flexible; bytes = ys; known = rw r.1 known; few = few };
      few_fields = few_fields;
    }

-- a read that found none had none left
pub records_left-none : (old new : ByteReader) (fields : List (List ℕ)) → IsReading old → ReadBytes old new false fields → records_left old ≡ []
records_left-none old new fields h r =
    let next = rw (h.config, h.known) at r.0 in
    rw h.known (none-after (reader_state old) (reader_state new) h.bytes (pending_of (Some (reader_source new).now) new) fields next)

-- a text is no longer without the mark at its start
length-strip_bom : (xs : List ℕ) → length (strip_bom xs) ≤ length xs
unfolding strip_bom
length-strip_bom [] = omega arith
length-strip_bom (a ∷ []) = omega arith
length-strip_bom (a ∷ b ∷ []) = omega arith
length-strip_bom (a ∷ b ∷ c ∷ rest) = of (is_bom a b c)
  where
    of : (b2 : Bool) → length (if b2 then rest else a ∷ b ∷ c ∷ rest) ≤ length (a ∷ b ∷ c ∷ rest)
    of true = omega arith
    of false = omega arith

-- a new reader that takes no header row, over these bytes
pub IsReading-new : (reader : ByteReader) (bytes : List ℕ) → reader_config reader ≡ default_config → reader_trim reader ≡ trim.None
    → names_headers reader ≡ false → reader_headers reader ≡ None → is_flexible reader ≡ true → bytes_left reader ≡ Some (strip_bom bytes) → length bytes ≤ 33554432 → IsReading reader
IsReading-new reader bytes config untrimmed named headers flexible known few =
    let shorter = length-strip_bom bytes in
    record { config = config; untrimmed = untrimmed; ready = inr (inr (named, headers)); flexible = flexible; bytes = strip_bom bytes; known = known; few = omega arith }

-- Records that are read byte by byte.
use Rattle.std.proofs.Common.{ℕ, ◌≡◌, ◌∙◌, Bool, true, false, not, eqb, ◌&&◌, cond, List, [], ◌∷◌, ◌++◌, Option, Some, None, Result, Ok, Err, refl, sym, ap, subst, append-nil, append_assoc}
use Rattle.std.specs.Io.KnownBytes.{Consumes, IsAtEnd}
use Rattle.rs_stream.specs.declared.fault.RecordFault.{RecordFault}
use Rattle.rs_stream.specs.Records.{AreLeft, IsTaken, Leaves, RecordsState, ReadsByte, Takes, ends_record, is_quoted, records_behind, records_in}

-- the quotes of bytes, and one more byte
pub quoted-push : (bytes : List ℕ) (byte : ℕ) → is_quoted (bytes ++ byte ∷ []) ≡ cond (eqb byte 34) (not (is_quoted bytes)) (is_quoted bytes)
quoted-push [] byte = refl
quoted-push (first ∷ rest) byte =
    ap (λ b. cond (eqb first 34) (not b) b) (quoted-push rest byte)
    ∙ (elim (eqb first 34) as (λ f. cond f (not (cond (eqb byte 34) (not (is_quoted rest)) (is_quoted rest))) (cond (eqb byte 34) (not (is_quoted rest)) (is_quoted rest))
    ≡ cond (eqb byte 34) (not (cond f (not (is_quoted rest)) (is_quoted rest))) (cond f (not (is_quoted rest)) (is_quoted rest))) [
      | true ↦ (elim (eqb byte 34) as (λ b. not (cond b (not (is_quoted rest)) (is_quoted rest)) ≡ cond b (not (not (is_quoted rest))) (not (is_quoted rest))) [ true ↦ refl | false ↦ refl ])
      | false ↦ refl
    ])

-- nothing happened
pub Leaves-refl : (begun : List ℕ) (left : Option (List ℕ)) → Leaves begun left begun left
Leaves-refl begun None = tt
Leaves-refl begun (Some bytes) = record { bytes_left = refl; records_left = refl }

-- what is left stays, where the reader's bytes stay
pub Leaves-still : (begun middle : List ℕ) (old left new : Option (List ℕ)) → Leaves begun old middle left → Consumes left new [] → Leaves begun old middle new
Leaves-still begun middle None left new leaves same = tt
Leaves-still begun middle (Some bytes) None new leaves same = absurd leaves
Leaves-still begun middle (Some bytes) (Some rest) None leaves same = absurd same
Leaves-still begun middle (Some bytes) (Some rest) (Some more) leaves same = subst (λ (xs : List ℕ). AreLeft begun bytes middle xs) same leaves

-- one byte more was read, which ends no record
behind-more : (begun : List ℕ) (byte : ℕ) (rest : List ℕ) → ends_record begun byte ≡ false → records_behind begun (byte ∷ rest) ≡ records_behind (begun ++ byte ∷ []) rest
behind-more begun byte rest ends = ap (λ (b : Bool). cond b ((begun ++ byte ∷ []) ∷ records_behind [] rest) (records_behind (begun ++ byte ∷ []) rest)) ends

behind-ended : (begun : List ℕ) (byte : ℕ) (rest : List ℕ) → ends_record begun byte ≡ true → records_behind begun (byte ∷ rest) ≡ (begun ++ byte ∷ []) ∷ records_in rest
behind-ended begun byte rest ends = ap (λ (b : Bool). cond b ((begun ++ byte ∷ []) ∷ records_behind [] rest) (records_behind (begun ++ byte ∷ []) rest)) ends

pub Leaves-more : (begun middle : List ℕ) (byte : ℕ) (old left new : Option (List ℕ)) → Leaves begun old middle left → Consumes left new (byte ∷ []) → ends_record middle byte ≡ false
    → Leaves begun old (middle ++ byte ∷ []) new
Leaves-more begun middle byte None left new leaves took ends = tt
Leaves-more begun middle byte (Some bytes) None new leaves took ends = absurd leaves
Leaves-more begun middle byte (Some bytes) (Some rest) None leaves took ends = absurd took
Leaves-more begun middle byte (Some bytes) (Some rest) (Some more) leaves took ends = record {
  bytes_left = leaves.bytes_left ∙ ap (λ (xs : List ℕ). middle ++ xs) took ∙ sym (append_assoc middle (byte ∷ []) more);
  records_left = leaves.records_left ∙ ap (records_behind middle) took ∙ behind-more middle byte more ends;
}

-- the byte that was read ends a record
pub Takes-last : (begun middle : List ℕ) (byte : ℕ) (old left new : Option (List ℕ)) → Leaves begun old middle left → Consumes left new (byte ∷ []) → ends_record middle byte ≡ true
    → Takes (middle ++ byte ∷ []) begun old new
Takes-last begun middle byte None left new leaves took ends = tt
Takes-last begun middle byte (Some bytes) None new leaves took ends = absurd leaves
Takes-last begun middle byte (Some bytes) (Some rest) None leaves took ends = absurd took
Takes-last begun middle byte (Some bytes) (Some rest) (Some more) leaves took ends = record {
  bytes_left = leaves.bytes_left ∙ ap (λ (xs : List ℕ). middle ++ xs) took ∙ sym (append_assoc middle (byte ∷ []) more);
  records_left = leaves.records_left ∙ ap (records_behind middle) took ∙ behind-ended middle byte more ends;
}

-- what one read took
pub byte_read : (next : Option ℕ) (byte : ℕ) (old new : Option (List ℕ)) → next ≡ Some byte → ReadsByte {E = RecordFault} (Ok next) old new → Consumes old new (byte ∷ [])
byte_read next byte old new is reads = subst (λ (n : Option ℕ). ReadsByte {E = RecordFault} (Ok n) old new) is reads

pub end_read : (next : Option ℕ) (old new : Option (List ℕ)) → next ≡ None → ReadsByte {E = RecordFault} (Ok next) old new → Consumes old new [] × IsAtEnd new
end_read next old new is reads = subst (λ (n : Option ℕ). ReadsByte {E = RecordFault} (Ok n) old new) is reads

-- the same of the records as they were at the begin of a call, and of bytes that are equal
pub Leaves-at : {R : Type 0} (remaining : R → Option (List ℕ)) (from state : RecordsState R) (middle items : List ℕ) (left : Option (List ℕ)) → from ≡ state → items ≡ middle
    → Leaves from.begun (remaining from.reader) middle left → Leaves state.begun (remaining state.reader) items left
Leaves-at remaining from state middle items left is same leaves =
    subst (λ (s : RecordsState _). Leaves s.begun (remaining s.reader) items left) is
    (subst (λ (xs : List ℕ). Leaves from.begun (remaining from.reader) xs left) (sym same) leaves)

pub Takes-at : {R : Type 0} (remaining : R → Option (List ℕ)) (from state : RecordsState R) (found items : List ℕ) (left : Option (List ℕ)) → from ≡ state → items ≡ found
    → Takes found from.begun (remaining from.reader) left → Takes items state.begun (remaining state.reader) left
Takes-at remaining from state found items left is same takes =
    subst (λ (s : RecordsState _). Takes items s.begun (remaining s.reader) left) is
    (subst (λ (xs : List ℕ). Takes xs from.begun (remaining from.reader) left) (sym same) takes)

-- whether a byte ends a record, by what is kept of its quotes
pub ends-as : (begun : List ℕ) (byte : ℕ) (quoted ends value : Bool) → ends ≡ (eqb byte 10 && not quoted) → quoted ≡ is_quoted begun → ends ≡ value → ends_record begun byte ≡ value
ends-as begun byte quoted ends value is q e = sym (is ∙ ap (λ (b : Bool). eqb byte 10 && not b) q) ∙ e

pub quoted-then : (begun pushed : List ℕ) (byte : ℕ) (quoted after : Bool) → after ≡ cond (eqb byte 34) (not quoted) quoted → quoted ≡ is_quoted begun → pushed ≡ begun ++ byte ∷ [] → after ≡ is_quoted pushed
quoted-then begun pushed byte quoted after is q same =
    is ∙ ap (λ (b : Bool). cond (eqb byte 34) (not b) b) q ∙ sym (quoted-push begun byte) ∙ ap is_quoted (sym same)

-- The rows of a stream, record by record.
use Rattle.std.proofs.Common.{ℕ, ℤ, pos, negsuc, zero, suc, ◌≡◌, ◌∙◌, ◌≤◌, ◌⊎◌, inl, inr, arith, Bool, true, false, cond, nat_le, List, [], ◌∷◌, length, Option, Some, None, Result, Ok, Err, refl, sym, ap, subst, nat_eq}
use Rattle.std.specs.Str.{is_utf8}
use Rattle.rs_value.specs.Faults.{raised}
use Rattle.rs_value.specs.Number.{int_value}
use Rattle.rs_lines.specs.Records.{Fields}
use Rattle.rs_feed.specs.declared.feed_row.FeedRow.{FeedRow}
use Rattle.rs_stream.specs.declared.fault.StreamFault.{StreamFault}
use Rattle.rs_stream.specs.declared.fault.StreamFault.TheVariants.{BrokenOff, Failed, Header, Memory, NoRow, Range}
use Rattle.rs_stream.specs.Rows.{Draws, DrawsRow, Reads, Stream, ends, field_of, fields_in, goes_on, is_end, left_behind, most_score, row_if, row_in, row_of_fields, row_with, scored_row, stream_behind, stream_left}

-- a choice of two that aren't this isn't
if-not : {X : Type 0} (b : Bool) (x y z : X) → (x ≡ z → ⊥) → (y ≡ z → ⊥) → cond b x y ≡ z → ⊥
if-not true x y z p q e = p e
if-not false x y z p q e = q e

-- no record says that a read failed
unfailed-with : (number : ℕ) (key : List ℕ) (score : ℤ) → row_with number key score ≡ Err Failed → ⊥
unfailed-with number key (pos score) e =
    if-not (nat_le score most_score) (Ok (Some (record { join = key; score = score }))) (Err (Range number (pos score))) (Err Failed) (λ e. absurd cc) (λ e. absurd cc) e
unfailed-with number key (negsuc less) e = absurd cc

unfailed-scored : (number : ℕ) (key : List ℕ) (score : Option ℤ) → scored_row number key score ≡ Err Failed → ⊥
unfailed-scored number key None e = absurd cc
unfailed-scored number key (Some score) e = if-not (is_utf8 key) (row_with number key score) (Err (NoRow number)) (Err Failed) (unfailed-with number key score) (λ e. absurd cc) e

unfailed-if : (number : ℕ) (fields : Option Fields) → row_if number fields ≡ Err Failed → ⊥
unfailed-if number None e = absurd cc
unfailed-if number (Some fields) e =
    if-not (is_end fields) (Ok None) (cond (nat_eq (length fields) 2) (scored_row number (field_of fields 0) (int_value (field_of fields 1))) (Err (NoRow number))) (Err Failed) (λ e. absurd cc)
    (if-not (nat_eq (length fields) 2) (scored_row number (field_of fields 0) (int_value (field_of fields 1))) (Err (NoRow number)) (Err Failed)
    (unfailed-scored number (field_of fields 0) (int_value (field_of fields 1))) (λ e. absurd cc)) e

-- a stream that ends with a fault, which is no failed read
ends-with : (why : StreamFault) (old new : Stream) → (why ≡ Failed → ⊥) → old ≡ ends (Err why) → DrawsRow (Err why) old new
ends-with Failed old new other is = absurd (other refl)
ends-with BrokenOff old new other is = is
ends-with Header old new other is = is
ends-with (NoRow number) old new other is = is
ends-with (Range number got) old new other is = is
ends-with Memory old new other is = tt

-- a record was read that is no row, or there was no memory
pub refused-row : (why : StreamFault) (ended ended_then : Bool) (number number_then : ℕ) (bytes : List ℕ) (old new : Option (List (List ℕ))) (result : Result (Option FeedRow) StreamFault)
    → ended ≡ false → 1 ≤ number → number_then ≡ raised number → Reads (Ok bytes) old new
    → (result ≡ row_in number_then bytes) ⊎ (result ≡ Err Memory) → result ≡ Err why → Draws (Err why) (stream_left ended number old) (stream_left ended_then number_then new)
refused-row why ended ended_then number number_then bytes None new result goes some next reads gave is = tt
refused-row why ended ended_then number number_then bytes (Some left) None result goes some next reads gave is = absurd reads
refused-row why true ended_then number number_then bytes (Some left) (Some rest) result goes some next reads gave is = absurd cc
refused-row why false ended_then zero number_then bytes (Some left) (Some rest) result goes some next reads gave is = absurd (omega (arith, some))
refused-row why false ended_then (suc number) number_then bytes (Some left) (Some rest) result goes some next reads (inr lacked) is =
    let e = sym lacked ∙ is in
    let same : Memory ≡ why = cc in
    subst (λ (w : StreamFault). DrawsRow (Err w) (left_behind false (suc number) left) (left_behind ended_then number_then rest)) same tt
refused-row why false ended_then (suc number) number_then bytes (Some left) (Some rest) result goes some next reads (inl gave) is =
    let row : row_in (raised (suc number)) bytes ≡ Err why = ap (λ (n : ℕ). row_in n bytes) (sym next) ∙ sym gave ∙ is in
    ends-with why (left_behind false (suc number) left) (left_behind ended_then number_then rest)
    (λ failed. unfailed-if (raised (suc number)) (fields_in bytes) (row ∙ ap Err failed))
    (ap (stream_behind (suc number)) reads ∙ ap (λ (r : Result (Option FeedRow) StreamFault). goes_on r (stream_behind (raised (suc number)) rest)) row)

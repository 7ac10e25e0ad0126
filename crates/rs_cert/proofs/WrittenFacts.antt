-- What is written of a certificate is read back.
use Rattle.std.proofs.Common.{◌≡◌, ℕ, ◌+◌, ◌≤◌, ◌<◌, pos, Bool, true, false, cond, List, [], ◌∷◌, ◌++◌, codes, get_or, length, map, take, Some, None, option_map, Result, Ok, Err, IfOk, refl, sym, ap, ap₂, ◌∙◌, subst, arith, append_assoc}
use Rattle.std.proofs.lemmas.List.{append-nil, map-append, take_more}
use Rattle.std.proofs.lemmas.List.Concat.{flat_map-append}
use Rattle.std.specs.Cmp.Lexicographic.{bytes_decides}
use Rattle.std.specs.Fmt.{decimal}
use Rattle.std.specs.List.{AllByRecursion}
use Rattle.std.specs.Str.{bytes_eq}
use Rattle.std.specs.declared.alloc.Global.{Global}
use Rattle.std.specs.declared.vec.Vec.{Vec}
use Rattle.csv.specs.Reading.{default_config, records, records_from, strip_bom}
use Rattle.csv.specs.Writing.{default_writer, read_back, row_text}
use Rattle.csv.specs.declared.parser.State.TheVariants as st
use Rattle.csv.proofs.RoundTrip.{read-write}
use Rattle.rs_feed.specs.declared.feed_row.FeedRow.{FeedRow}
use Rattle.rs_order.proofs.EachFacts.{each-append}
use Rattle.rs_value.specs.Number.{int_value}
use Rattle.rs_value.specs.declared.memory.Memory.{Memory}
use Rattle.rs_cert.specs.declared.cert.Cert.{Cert}
use Rattle.rs_cert.specs.declared.cert.CertSide.{CertSide}
use Rattle.rs_cert.specs.declared.entry.Entry.{Entry}
use Rattle.rs_cert.specs.declared.entry.Entry.TheVariants.{OfLeft, OfRight, OfPair}
use Rattle.rs_cert.specs.declared.entry.SideEntry.{SideEntry}
use Rattle.rs_cert.specs.declared.entry.SideEntry.TheVariants.{Row, End}
use Rattle.rs_lines.specs.Records.{Fields, records_of}
use Rattle.rs_cert.specs.Records.{AreRecordsOf, HasFewRows, entry_of, greatest_number, most_wanted, number_up_to, side_entries, side_entry_of}
use Rattle.rs_cert.specs.Written.{AreWritablePairs, AreWritableRows, IsWritablePair, IsWritableRow, end_record, end_records, pair_record, row_record, side_records, text_of, wanted_record, written, written_records}
use Rattle.rs_lines.proofs.RecordsFacts.{after_read, records_from-ended, records_from-first}
use Rattle.rs_cert.proofs.NumeralFacts.{int_value-decimal, number_up_to-decimal}

-- the records of a text that was written
records-written : (rows : List Fields) → records_from default_config (length (text_of rows) + 1) st.StartRecord (text_of rows) ≡ map read_back rows
records-written [] = records_from-ended default_config (length {A = ℕ} [] + 1)
records-written (row ∷ rows) =
    records_from-first default_config st.StartRecord (row_text default_writer row ++ text_of rows)
    ∙ ap (after_read default_config) (read-write row (text_of rows))
    ∙ ap (λ (more : List Fields). read_back row ∷ more) (records-written rows)

-- digits aren't the word of an end
digits-end : (n : ℕ) → n ≤ greatest_number → (b : Bool) → bytes_eq (decimal n) (codes "end") ≡ b → b ≡ false
digits-end n few false e = refl
digits-end n few true e =
    let same : decimal n ≡ codes "end" = (bytes_decides (decimal n) (codes "end")).0 e in
    let number : int_value (codes "end") ≡ Some (pos n) = ap int_value (sym same) ∙ int_value-decimal n (omega arith) in
    absurd (differ number)
  where
    differ : {A : Type 0} {x : A} → None ≡ Some x → ⊥
    differ e = cc

-- the records of a row, of an end and of a pair say them
row-said : (row : FeedRow) → IsWritableRow row → side_entry_of (decimal row.score) row.join ≡ Some (Row row)
row-said row fit =
    let other : bytes_eq (decimal row.score) (codes "end") ≡ false = digits-end row.score fit.0 (bytes_eq (decimal row.score) (codes "end")) refl in
    let number : number_up_to greatest_number (decimal row.score) ≡ Some row.score = number_up_to-decimal greatest_number row.score fit.0 (omega (arith, fit.0)) in
    rw (other, number, fit.1) refl

-- what the records of a side say, of a side with this name
module _ (name : List ℕ) (of : SideEntry → Entry) (says : (first second : List ℕ) → entry_of (name ∷ first ∷ second ∷ []) ≡ option_map (λ entry. of entry) (side_entry_of first second)) where
  rows-said : (rows : List FeedRow) → AreWritableRows rows → map entry_of (map (row_record name) rows) ≡ map (λ entry. Some entry) (map of (map (λ row. Row row) rows))
  rows-said [] fit = refl
  rows-said (row ∷ rows) fit =
      ap₂ (λ o list. o ∷ list) (says (decimal row.score) row.join ∙ ap (option_map (λ entry. of entry)) (row-said row fit.0)) (rows-said rows fit.1)

  end-said : entry_of (end_record name) ≡ Some (of End)
  end-said = says (codes "end") (codes "end") ∙ refl

  ends-said : (ended : Bool) → map entry_of (cond ended (end_record name ∷ []) []) ≡ map (λ entry. Some entry) (map of (cond ended (End ∷ []) []))
  ends-said true = ap (λ o. o ∷ []) end-said
  ends-said false = refl

  side-said : (side : CertSide) → AreWritableRows side.rows → map entry_of (side_records name side) ≡ map (λ entry. Some entry) (map of (side_entries side))
  side-said side fit =
      map-append entry_of (map (row_record name) side.rows) (cond side.ended (end_record name ∷ []) [])
      ∙ ap₂ (λ xs ys. xs ++ ys) (rows-said side.rows fit) (ends-said side.ended)
      ∙ sym (map-append (λ entry. Some entry) (map of (map (λ row. Row row) side.rows)) (map of (cond side.ended (End ∷ []) [])))
      ∙ ap (map (λ entry. Some entry)) (sym (map-append of (map (λ row. Row row) side.rows) (cond side.ended (End ∷ []) [])))

left-says : (first second : List ℕ) → entry_of (codes "left" ∷ first ∷ second ∷ []) ≡ option_map (λ entry. OfLeft entry) (side_entry_of first second)
left-says first second = refl

right-says : (first second : List ℕ) → entry_of (codes "right" ∷ first ∷ second ∷ []) ≡ option_map (λ entry. OfRight entry) (side_entry_of first second)
right-says first second = refl

pair-said : (pair : ℕ × ℕ) → IsWritablePair pair → entry_of (pair_record pair) ≡ Some (OfPair pair.0 pair.1)
pair-said pair fit =
    let left : number_up_to greatest_number (decimal pair.0) ≡ Some pair.0 = number_up_to-decimal greatest_number pair.0 fit.0 (omega (arith, fit.0)) in
    let right : number_up_to greatest_number (decimal pair.1) ≡ Some pair.1 = number_up_to-decimal greatest_number pair.1 fit.1 (omega (arith, fit.1)) in
    rw (left, right) refl

pairs-said : (pairs : List (ℕ × ℕ)) → AreWritablePairs pairs → map entry_of (map pair_record pairs) ≡ map (λ entry. Some entry) (map (λ pair. OfPair pair.0 pair.1) pairs)
pairs-said [] fit = refl
pairs-said (pair ∷ pairs) fit = ap₂ (λ o list. o ∷ list) (pair-said pair fit.0) (pairs-said pairs fit.1)

-- what the parts of a certificate say
joined-said : (xs ys zs : List Fields) (us vs ws : List Entry) → map entry_of xs ≡ map (λ entry. Some entry) us → map entry_of ys ≡ map (λ entry. Some entry) vs → map entry_of zs ≡ map (λ entry. Some entry) ws
    → map entry_of (xs ++ (ys ++ zs)) ≡ map (λ entry. Some entry) (us ++ (vs ++ ws))
joined-said xs ys zs us vs ws e f g =
    map-append entry_of xs (ys ++ zs)
    ∙ ap₂ (λ a b. a ++ b) e (map-append entry_of ys zs ∙ ap₂ (λ a b. a ++ b) f g ∙ sym (map-append (λ entry. Some entry) vs ws))
    ∙ sym (map-append (λ entry. Some entry) us (vs ++ ws))

-- the records that are written of a certificate are its records
pub written-are : (cert : Cert) → cert.k ≤ most_wanted → HasFewRows cert → AreWritableRows cert.left.rows → AreWritableRows cert.right.rows → AreWritablePairs cert.pairs → AreRecordsOf cert (written_records cert)
written-are cert wanted few lefts rights pairs = record {
  first = wanted_record cert.k;
  rest = side_records (codes "left") cert.left ++ (side_records (codes "right") cert.right ++ map pair_record cert.pairs);
  are = refl;
  wanted = number_up_to-decimal most_wanted cert.k wanted (omega arith);
  entries =
      joined-said (side_records (codes "left") cert.left) (side_records (codes "right") cert.right) (map pair_record cert.pairs)
      (map (λ entry. OfLeft entry) (side_entries cert.left)) (map (λ entry. OfRight entry) (side_entries cert.right)) (map (λ pair. OfPair pair.0 pair.1) cert.pairs)
      (side-said (codes "left") (λ entry. OfLeft entry) left-says cert.left lefts)
      (side-said (codes "right") (λ entry. OfRight entry) right-says cert.right rights)
      (pairs-said cert.pairs pairs);
  few = few;
}

-- and they are read back from their text: each has a field
rows-back : (name : List ℕ) (rows : List FeedRow) → map read_back (map (row_record name) rows) ≡ map (row_record name) rows
rows-back name [] = refl
rows-back name (row ∷ rows) = ap (λ list. row_record name row ∷ list) (rows-back name rows)

ends-back : (name : List ℕ) (ended : Bool) → map read_back (cond ended (end_record name ∷ []) []) ≡ cond ended (end_record name ∷ []) []
ends-back name true = refl
ends-back name false = refl

side-back : (name : List ℕ) (side : CertSide) → map read_back (side_records name side) ≡ side_records name side
side-back name side =
    map-append read_back (map (row_record name) side.rows) (cond side.ended (end_record name ∷ []) [])
    ∙ ap₂ (λ xs ys. xs ++ ys) (rows-back name side.rows) (ends-back name side.ended)

pairs-back : (pairs : List (ℕ × ℕ)) → map read_back (map pair_record pairs) ≡ map pair_record pairs
pairs-back [] = refl
pairs-back (pair ∷ pairs) = ap (λ list. pair_record pair ∷ list) (pairs-back pairs)

all-back : (cert : Cert) → map read_back (written_records cert) ≡ written_records cert
all-back cert =
    ap (λ list. wanted_record cert.k ∷ list)
    (map-append read_back (side_records (codes "left") cert.left) (side_records (codes "right") cert.right ++ map pair_record cert.pairs)
    ∙ ap₂ (λ xs ys. xs ++ ys) (side-back (codes "left") cert.left)
    (map-append read_back (side_records (codes "right") cert.right) (map pair_record cert.pairs)
    ∙ ap₂ (λ xs ys. xs ++ ys) (side-back (codes "right") cert.right) (pairs-back cert.pairs)))

-- a certificate's text begins with no byte order mark
no-mark : (cert : Cert) → strip_bom (written cert) ≡ written cert
unfolding strip_bom
no-mark cert = refl

pub written-records : (cert : Cert) → records_of (written cert) ≡ written_records cert
written-records cert = ap (records default_config) (no-mark cert) ∙ records-written (written_records cert) ∙ all-back cert

pub written-back : (cert : Cert) (bytes : List ℕ) → bytes ≡ written cert → cert.k ≤ most_wanted → HasFewRows cert → AreWritableRows cert.left.rows → AreWritableRows cert.right.rows → AreWritablePairs cert.pairs
    → AreRecordsOf cert (records_of bytes)
written-back cert bytes are wanted few lefts rights pairs =
    subst (AreRecordsOf cert) (sym (ap records_of are ∙ written-records cert)) (written-are cert wanted few lefts rights pairs)

-- the same of bytes that may not be there
pub same-ok : (want : List ℕ) (result : Result (Vec ℕ Global) Memory) (text : List ℕ) → text ≡ want → IfOk result (λ bytes. bytes.items ≡ text) → IfOk result (λ bytes. bytes.items ≡ want)
same-ok want (Ok bytes) text are is = is ∙ are
same-ok want (Err memory) text are is = tt

pub back-ok : (cert : Cert) (result : Result (Vec ℕ Global) Memory) → IfOk result (λ bytes. bytes.items ≡ written cert) → cert.k ≤ most_wanted → HasFewRows cert → AreWritableRows cert.left.rows
    → AreWritableRows cert.right.rows → AreWritablePairs cert.pairs → IfOk result (λ bytes. AreRecordsOf cert (records_of bytes.items))
back-ok cert (Ok bytes) are wanted few lefts rights pairs = written-back cert bytes.items are wanted few lefts rights pairs
back-ok cert (Err memory) are wanted few lefts rights pairs = tt

-- one record more that is written
text-one : (front : List Fields) (fields : Fields) → text_of (front ++ fields ∷ []) ≡ text_of front ++ row_text default_writer fields
text-one front fields = flat_map-append (row_text default_writer) front (fields ∷ []) ∙ ap (λ list. text_of front ++ list) (append-nil (row_text default_writer fields))

pub text-at : {A : Type 0} (said : A → Fields) (xs : List A) (i : ℕ) (d : A) (old made new : List ℕ) → i < length xs → made ≡ old ++ text_of (map said (take i xs)) → new ≡ made ++ row_text default_writer (said (get_or xs i d))
    → new ≡ old ++ text_of (map said (take (i + 1) xs))
text-at said xs i d old made new within so_far put =
    let more : text_of (map said (take (i + 1) xs)) ≡ text_of (map said (take i xs)) ++ row_text default_writer (said (get_or xs i d)) =
    ap (λ list. text_of (map said list)) (take_more xs i d within) ∙ ap text_of (map-append said (take i xs) (get_or xs i d ∷ [])) ∙ text-one (map said (take i xs)) (said (get_or xs i d)) in
    put ∙ ap (λ list. list ++ row_text default_writer (said (get_or xs i d))) so_far
    ∙ append_assoc old (text_of (map said (take i xs))) (row_text default_writer (said (get_or xs i d)))
    ∙ ap (λ list. old ++ list) (sym more)

pub each-at : {A : Type 0} (P : A → Type 0) (xs : List A) (i : ℕ) (d : A) → i < length xs → AllByRecursion P (take i xs) → P (get_or xs i d) → AllByRecursion P (take (i + 1) xs)
each-at P xs i d within front there = subst (AllByRecursion P) (sym (take_more xs i d within)) (each-append P (take i xs) (get_or xs i d ∷ []) front (there, tt))

-- the rows of a side, and its end
pub side-put : (name : List ℕ) (side : CertSide) (rows : List FeedRow) (old made new : List ℕ) → rows ≡ side.rows → made ≡ old ++ text_of (map (row_record name) rows) → new ≡ made ++ text_of (end_records name side.ended)
    → new ≡ old ++ text_of (side_records name side)
side-put name side rows old made new same put_rows put_end =
    put_end
    ∙ ap (λ list. list ++ text_of (end_records name side.ended)) (put_rows ∙ ap (λ list. old ++ text_of (map (row_record name) list)) same)
    ∙ append_assoc old (text_of (map (row_record name) side.rows)) (text_of (end_records name side.ended))
    ∙ ap (λ list. old ++ list) (sym (flat_map-append (row_text default_writer) (map (row_record name) side.rows) (end_records name side.ended)))

-- all parts of a certificate
pub parts-written : (cert : Cert) (a b c d : List ℕ) → a ≡ [] ++ text_of (wanted_record cert.k ∷ []) → b ≡ a ++ text_of (side_records (codes "left") cert.left)
    → c ≡ b ++ text_of (side_records (codes "right") cert.right) → d ≡ c ++ text_of (map pair_record cert.pairs) → d ≡ written cert
parts-written cert a b c d e f g h =
    let sides : text_of (side_records (codes "left") cert.left ++ (side_records (codes "right") cert.right ++ map pair_record cert.pairs))
    ≡ text_of (side_records (codes "left") cert.left) ++ (text_of (side_records (codes "right") cert.right) ++ text_of (map pair_record cert.pairs)) =
    flat_map-append (row_text default_writer) (side_records (codes "left") cert.left) (side_records (codes "right") cert.right ++ map pair_record cert.pairs)
    ∙ ap (λ list. text_of (side_records (codes "left") cert.left) ++ list) (flat_map-append (row_text default_writer) (side_records (codes "right") cert.right) (map pair_record cert.pairs)) in
    let all : written cert ≡ text_of (wanted_record cert.k ∷ []) ++ (text_of (side_records (codes "left") cert.left) ++ (text_of (side_records (codes "right") cert.right) ++ text_of (map pair_record cert.pairs))) =
    flat_map-append (row_text default_writer) (wanted_record cert.k ∷ []) (side_records (codes "left") cert.left ++ (side_records (codes "right") cert.right ++ map pair_record cert.pairs))
    ∙ ap (λ list. text_of (wanted_record cert.k ∷ []) ++ list) sides in
    h ∙ ap (λ list. list ++ text_of (map pair_record cert.pairs)) (g ∙ ap (λ list. list ++ text_of (side_records (codes "right") cert.right)) (f ∙ ap (λ list. list ++ text_of (side_records (codes "left") cert.left)) e))
    ∙ regroup (text_of (wanted_record cert.k ∷ [])) (text_of (side_records (codes "left") cert.left)) (text_of (side_records (codes "right") cert.right)) (text_of (map pair_record cert.pairs))
    ∙ sym all
  where
    regroup : (u v w x : List ℕ) → (((([] ++ u) ++ v) ++ w) ++ x) ≡ u ++ (v ++ (w ++ x))
    regroup u v w x = simp append_assoc

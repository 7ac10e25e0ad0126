-- Scores that were written are read back.
use Rattle.std.proofs.Common.{◌≡◌, ◌==◌, ◌+◌, ◌-◌, ◌≤◌, ℕ, ℤ, pos, negsuc, zero, suc, Bool, true, false, List, [], ◌∷◌, ◌++◌, eqb-true, inl, inr, length, map, take, Some, Result, Ok, Err, refl, sym, ap, ◌∙◌, subst, arith, append_assoc, length-append}
use Rattle.std.specs.Fmt.{signed_decimal}
use Rattle.std.specs.List.{All, concat}
use Rattle.std.specs.Prelude.{if◌then◌else◌, nat_abs, slice_index_or}
use Rattle.std.specs.Cmp.Lexicographic.{bytes_decides}
use Rattle.std.specs.Str.{IsAscii, bytes_eq, is_utf8}
use Rattle.std.proofs.lemmas.Bool.{cases_Bool, le-ltb, true≢false}
use Rattle.std.proofs.lemmas.Fmt.{IsAscii-signed}
use Rattle.std.proofs.lemmas.Grind.{common_steps}
use Rattle.std.proofs.lemmas.List.{append-nil}
use Rattle.std.proofs.lemmas.Str.{IsUtf8-from_ascii, is_utf8-from_IsUtf8}
use Rattle.csv.proofs.RoundTrip.{read-write}
use Rattle.csv.specs.Reading.{default_config, is_bom, records_from, records_next, strip_bom}
use Rattle.csv.specs.Writing.{read_back}
use Rattle.csv.specs.declared.parser.State.TheVariants as st
use Rattle.rs_value.specs.Number.{greatest_int, int_value}
use Rattle.rs_value.specs.Results.{◌>>=◌}
use Rattle.rs_lines.specs.Records.{records_of}
use Rattle.rs_scores.specs.Kept.{AreNew, CanBeKept}
use Rattle.rs_scores.specs.Known.{is_asked}
use Rattle.rs_scores.specs.Lines.{known_line, known_lines}
use Rattle.rs_scores.specs.Names.{has_marked, is_marked}
use Rattle.rs_scores.specs.Places.{is_record, place_after, place_behind}
use Rattle.rs_scores.specs.Reading.{is_ended, known_in, known_of, scores_behind, scores_from, scores_in, texts_from, with_entry, with_record}
use Rattle.rs_scores.specs.declared.fault.KnownFault.{KnownFault}
use Rattle.rs_scores.specs.declared.fault.KnownFault.TheVariants.{NotEnded}
use Rattle.rs_scores.specs.declared.known_score.KnownScore.{KnownScore}
use Rattle.rs_scores.specs.declared.place.Place.{Place}
use Rattle.rs_scores.specs.declared.place.Place.TheVariants.{Closed, Field, Plain, Quoted, Record}
use Rattle.rs_scores.proofs.JoinFacts.{joins, records-none}
use Rattle.rs_scores.proofs.LineFacts.{and-false, behind-line, length-line, or-left, or-right, unmarked-line}
use Rattle.rs_scores.proofs.NumeralFacts.{int_value-signed}
use Rattle.rs_scores.proofs.PlaceFacts.{place_behind-append, strip_bom-unmarked}

-- the fields of a known score's record
abbrev record_fields : KnownScore → List (List ℕ)
record_fields known = known.question ++ signed_decimal known.score ∷ []

-- a question of two fields or more
record Pair (question : List (List ℕ)) : Type 0 where
  first : List ℕ
  second : List ℕ
  rest : List (List ℕ)
  are : question ≡ first ∷ second ∷ rest

pair-of : (question : List (List ℕ)) → 2 ≤ length question → Pair question
pair-of [] some = absurd (omega (arith, some))
pair-of (first ∷ []) some = absurd (omega (arith, some))
pair-of (first ∷ second ∷ rest) some = record { first = first; second = second; rest = rest; are = refl }

-- what holds of all holds of the first, and of those behind it
first-holds : {X : Type 0} (P : X → Type 0) (x : X) (xs : List X) → All P (x ∷ xs) → P x
first-holds P x xs all = all 0 x (omega arith)

rest-hold : {X : Type 0} (P : X → Type 0) (x : X) (xs : List X) → All P (x ∷ xs) → All P xs
rest-hold P x xs all = λ k d below. all (suc k) d (omega (arith, below))

-- the texts of fields that are UTF-8, and of one more
texts_from-push : (number place : ℕ) (fields : List (List ℕ)) (last : List ℕ) → All (λ field. is_utf8 field ≡ true) fields → is_utf8 last ≡ true
    → texts_from number place (fields ++ last ∷ []) ≡ Ok (fields ++ last ∷ [])
texts_from-push number place [] last all is = rw is refl
texts_from-push number place (field ∷ rest) last all is =
    rw (first-holds (λ text. is_utf8 text ≡ true) field rest all, texts_from-push number (place + 1) rest last (rest-hold (λ text. is_utf8 text ≡ true) field rest all) is) refl

ascii-score : (score : ℤ) → nat_abs score ≤ greatest_int → IsAscii (signed_decimal score)
ascii-score (pos n) few = IsAscii-signed (pos n) (omega (arith, few))
ascii-score (negsuc n) few = IsAscii-signed (negsuc n) (omega (arith, few))

utf8-score : (score : ℤ) → nat_abs score ≤ greatest_int → is_utf8 (signed_decimal score) ≡ true
utf8-score score few = is_utf8-from_IsUtf8 (signed_decimal score) (IsUtf8-from_ascii (signed_decimal score) (ascii-score score few))

first-of : (fields : List (List ℕ)) (last : List ℕ) → 2 ≤ length fields → slice_index_or (fields ++ last ∷ []) 0 [] ≡ slice_index_or fields 0 []
first-of [] last some = absurd (omega (arith, some))
first-of (first ∷ rest) last some = refl

last-of : (fields : List (List ℕ)) (last : List ℕ) → slice_index_or (fields ++ last ∷ []) (length fields) [] ≡ last
last-of [] last = refl
last-of (first ∷ rest) last = last-of rest last

front-of : (fields : List (List ℕ)) (last : List ℕ) → take (length fields) (fields ++ last ∷ []) ≡ fields
front-of fields last = grind (arith, common_steps)

length-pushed : (fields : List (List ℕ)) (last : List ℕ) → length (fields ++ last ∷ []) ≡ length fields + 1
length-pushed fields last = length-append fields (last ∷ [])

-- the record of a known score is read as it
known_of-record : (names : List (List ℕ)) (number : ℕ) (entry : KnownScore) → CanBeKept names entry → known_of names number (record_fields entry) ≡ Ok entry
known_of-record names number entry kept =
    let score = signed_decimal entry.score in
    let fields = record_fields entry in
    let size : length fields ≡ length entry.question + 1 = length-pushed entry.question score in
    let enough = le-ltb (length fields) 3 (omega (arith, size, kept.some)) in
    let few = le-ltb 10 (length fields) (omega (arith, size, kept.few)) in
    let texts : texts_from number 1 fields ≡ Ok fields = texts_from-push number 1 entry.question score kept.utf8 (utf8-score entry.score kept.in_range) in
    let front : length fields - 1 ≡ length entry.question = omega (arith, size) in
    let asked : is_asked names (slice_index_or fields 0 []) ≡ true = ap (is_asked names) (first-of entry.question score kept.some) ∙ kept.asked in
    let value : int_value (slice_index_or fields (length fields - 1) []) ≡ Some entry.score =
    ap (λ place. int_value (slice_index_or fields place [])) front ∙ ap int_value (last-of entry.question score) ∙ int_value-signed entry.score kept.in_range in
    let question : take (length fields - 1) fields ≡ entry.question = ap (λ n. take n fields) front ∙ front-of entry.question score in
    let result : known_in names number fields ≡ Ok entry = rw (asked, value) (ap (λ q. Ok (record { question = q; score = entry.score })) question) in
    rw (enough, few) (ap (λ answer. answer >>= known_in names number) texts ∙ result)

-- the records of known scores that are new, behind some scores
scores_from-kept : (names : List (List ℕ)) (number : ℕ) (before entries : List KnownScore) → All (CanBeKept names) entries → AreNew before entries
    → scores_from names number before (map record_fields entries) ≡ Ok (before ++ entries)
scores_from-kept names number before [] kept new = ap Ok (sym (append-nil before))
scores_from-kept names number before (entry ∷ rest) kept new =
    let added : with_entry number before entry ≡ Ok (before ++ entry ∷ []) = rw new.0 refl in
    ap (λ answer. (answer >>= with_entry number before) >>= λ all. scores_from names (number + 1) all (map record_fields rest)) (known_of-record names number entry (first-holds (CanBeKept names) entry rest kept))
    ∙ ap (λ answer. answer >>= λ all. scores_from names (number + 1) all (map record_fields rest)) added
    ∙ scores_from-kept names (number + 1) (before ++ entry ∷ []) rest (rest-hold (CanBeKept names) entry rest kept) new.1
    ∙ ap Ok (append_assoc before (entry ∷ []) rest)

-- records behind records whose scores are these
record Behind (names : List (List ℕ)) (number : ℕ) (before : List KnownScore) (rows : List (List (List ℕ))) (all : List KnownScore) (more : List (List (List ℕ))) : Type 0 where
  next : ℕ
  same : scores_from names number before (rows ++ more) ≡ scores_from names next all more

scores_from-behind : (names : List (List ℕ)) (number : ℕ) (before : List KnownScore) (rows : List (List (List ℕ))) (all : List KnownScore) (more : List (List (List ℕ)))
    → scores_from names number before rows ≡ Ok all → Behind names number before rows all more
scores_from-behind names number before [] all more is = record { next = number; same = ap (λ scores. scores_from names number scores more) (let same : before ≡ all = cc in same) }
scores_from-behind names number before (row ∷ rows) all more is =
    (elim (with_record names number before row) as (λ (answer : Result (List KnownScore) KnownFault). with_record names number before row ≡ answer
    → (answer >>= λ scores. scores_from names (number + 1) scores rows) ≡ Ok all → Behind names number before (row ∷ rows) all more) [
      | Ok scores ↦ λ e rest.
          let behind = scores_from-behind names (number + 1) scores rows all more rest in
          record { next = behind.next; same = ap (λ answer. answer >>= λ scores. scores_from names (number + 1) scores (rows ++ more)) e ∙ behind.same }
      | Err fault ↦ λ e rest. absurd (cc)
    ]) refl is

-- the records of the lines of known scores
read_back-record : (question : List (List ℕ)) (last : List ℕ) → read_back (question ++ last ∷ []) ≡ question ++ last ∷ []
read_back-record [] last = refl
read_back-record (first ∷ rest) last = refl

records-lines : (entries : List KnownScore) (most : ℕ) → length entries ≤ most
    → records_from default_config most st.StartRecord (concat (known_lines entries)) ≡ map record_fields entries
unfolding records_from
records-lines [] most enough = records-none most
records-lines (entry ∷ rest) zero enough = absurd (omega (arith, enough))
records-lines (entry ∷ rest) (suc most) enough =
    ap (records_next (records_from default_config most)) (read-write (record_fields entry) (concat (known_lines rest)))
    ∙ ap (λ row. row ∷ records_from default_config most st.StartRecord (concat (known_lines rest))) (read_back-record entry.question (signed_decimal entry.score))
    ∙ ap (λ rows. record_fields entry ∷ rows) (records-lines rest most (omega (arith, enough)))

length-lines : (entries : List KnownScore) → length entries ≤ length (concat (known_lines entries))
length-lines [] = omega arith
length-lines (entry ∷ rest) =
    omega (arith, length-append (known_line entry) (concat (known_lines rest)), length-line (record_fields entry), length-lines rest)

-- the lines end their records
lines-ended : (names : List (List ℕ)) (entries : List KnownScore) → All (CanBeKept names) entries → place_behind Record (concat (known_lines entries)) ≡ Record
lines-ended names [] kept = refl
lines-ended names (entry ∷ rest) kept =
    let here = first-holds (CanBeKept names) entry rest kept in
    let pair = pair-of entry.question here.some in
    let score = signed_decimal entry.score in
    let line : place_behind Record (known_line entry) ≡ Record =
    subst (λ (question : List (List ℕ)). place_behind Record (known_line (record { question = question; score = entry.score })) ≡ Record) (sym pair.are) (behind-line pair.first pair.second (pair.rest ++ score ∷ [])) in
    place_behind-append Record (known_line entry) (concat (known_lines rest))
    ∙ ap (λ place. place_behind place (concat (known_lines rest))) line ∙ lines-ended names rest (rest-hold (CanBeKept names) entry rest kept)

-- a name that is asked for is marked only where one of the names is
unmarked-name : (names : List (List ℕ)) (name : List ℕ) → has_marked names ≡ false → is_asked names name ≡ true → is_marked name ≡ false
unmarked-name [] name none asked = absurd (cc)
unmarked-name (first ∷ rest) name none asked = elim (cases_Bool (bytes_eq first name)) [
  | inl same ↦ ap is_marked (sym ((bytes_decides first name).0 same)) ∙ or-left _ _ none
  | inr other ↦ unmarked-name rest name (or-right _ _ none) (rw other at asked)
]

-- and where no name is marked they begin with no byte order mark
lines-unmarked : (names : List (List ℕ)) (entries : List KnownScore) → has_marked names ≡ false → All (CanBeKept names) entries → is_marked (concat (known_lines entries)) ≡ false
lines-unmarked names [] none kept = refl
lines-unmarked names (entry ∷ rest) none kept =
    let here = first-holds (CanBeKept names) entry rest kept in
    let pair = pair-of entry.question here.some in
    let name : is_marked pair.first ≡ false = ap (λ (question : List (List ℕ)). is_marked (slice_index_or question 0 [])) (sym pair.are) ∙ unmarked-name names (slice_index_or entry.question 0 []) none here.asked in
    subst (λ (question : List (List ℕ)). is_marked (known_line (record { question = question; score = entry.score }) ++ concat (known_lines rest)) ≡ false) (sym pair.are)
    (unmarked-line pair.first pair.second (pair.rest ++ signed_decimal entry.score ∷ []) (concat (known_lines rest)) name)

-- the place of an ended file
is-record : (place : Place) → is_record place ≡ true → place ≡ Record
is-record Record e = refl
is-record Field e = cc e
is-record Plain e = cc e
is-record Quoted e = cc e
is-record Closed e = cc e

-- no record is ended by the first byte of a byte order mark, nor by its second
not-239 : (place : Place) → is_record (place_after place 239) ≡ false
not-239 Record = refl
not-239 Field = refl
not-239 Plain = refl
not-239 Quoted = refl
not-239 Closed = refl

not-187 : (place : Place) → is_record (place_after place 187) ≡ false
not-187 Record = refl
not-187 Field = refl
not-187 Plain = refl
not-187 Quoted = refl
not-187 Closed = refl

-- a byte order mark at the front of a file stands in what was there before, or in what is written to an empty one
strip_bom-joined : (bytes more : List ℕ) → is_ended bytes ≡ true → is_marked more ≡ false → strip_bom (bytes ++ more) ≡ strip_bom bytes ++ more
unfolding strip_bom
strip_bom-joined [] more ended none = strip_bom-unmarked more none
strip_bom-joined (a ∷ []) more ended none = of more where
  other : (a == 239) ≡ false
  other = elim (cases_Bool (a == 239)) [
    | inl is ↦ absurd (true≢false (sym ended ∙ ap (λ b. is_record (place_after Record b)) (eqb-true a 239 is) ∙ not-239 Record))
    | inr not ↦ not
  ]

  of : (more : List ℕ) → strip_bom (a ∷ more) ≡ a ∷ more
  of [] = refl
  of (b ∷ []) = refl
  of (b ∷ c ∷ rest) = rw other refl
strip_bom-joined (a ∷ b ∷ []) more ended none = of more where
  other : (b == 187) ≡ false
  other = elim (cases_Bool (b == 187)) [
    | inl is ↦ absurd (true≢false (sym ended ∙ ap (λ d. is_record (place_after (place_after Record a) d)) (eqb-true b 187 is) ∙ not-187 (place_after Record a)))
    | inr not ↦ not
  ]

  of : (more : List ℕ) → strip_bom (a ∷ b ∷ more) ≡ a ∷ b ∷ more
  of [] = refl
  of (c ∷ rest) = rw (other, and-false (a == 239)) refl
strip_bom-joined (a ∷ b ∷ c ∷ rest) more ended none = elim (cases_Bool (is_bom a b c)) [
  | inl marked ↦ rw marked refl
  | inr not ↦ rw not refl
]

-- a file of which scores were read is ended
ended-read : (names : List (List ℕ)) (bytes : List ℕ) (before : List KnownScore) → scores_behind names bytes ≡ Ok before → is_ended bytes ≡ true
ended-read names bytes before is = (elim (is_ended bytes) as (λ (b : Bool). is_ended bytes ≡ b → (if b then scores_from names 1 [] (records_of bytes) else Err NotEnded) ≡ Ok before → b ≡ true) [
  | true ↦ λ e read. refl
  | false ↦ λ e read. absurd (cc)
]) refl is

-- known scores are read back behind what was read already, where no mark is taken away but the one that was
read-joined : (names : List (List ℕ)) (bytes all : List ℕ) (before entries : List KnownScore) → strip_bom all ≡ strip_bom bytes ++ concat (known_lines entries)
    → scores_behind names bytes ≡ Ok before → All (CanBeKept names) entries → AreNew before entries → scores_behind names all ≡ Ok (before ++ entries)
read-joined names bytes all before entries stripped is kept new =
    let lines = concat (known_lines entries) in
    let ended : is_ended bytes ≡ true = ended-read names bytes before is in
    let front = strip_bom bytes in
    let place : place_behind Record front ≡ Record = is-record (place_behind Record front) ended in
    let joined = joins front place in
    let read : scores_from names 1 [] joined.rows ≡ Ok before =
    ap (scores_from names 1 []) (sym (joined.alone (length front + 1) (omega (arith, joined.few)))) ∙ (rw ended at is) in
    let still : is_ended all ≡ true =
    ap (λ text. is_record (place_behind Record text)) stripped
    ∙ ap is_record (place_behind-append Record front lines ∙ ap (λ p. place_behind p lines) place ∙ lines-ended names entries kept) in
    let left = length (front ++ lines) + 1 - length joined.rows in
    let sizes : length (front ++ lines) ≡ length front + length lines = length-append front lines in
    let count : length (strip_bom all) + 1 ≡ length joined.rows + left = omega (arith, ap length stripped, sizes, joined.few) in
    let enough : length entries ≤ left = omega (arith, sizes, joined.few, length-lines entries) in
    let rows : records_of all ≡ joined.rows ++ map record_fields entries =
    ap (λ n. records_from default_config n st.StartRecord (strip_bom all)) count
    ∙ ap (records_from default_config (length joined.rows + left) st.StartRecord) stripped
    ∙ joined.joined left lines
    ∙ ap (λ more. joined.rows ++ more) (records-lines entries left enough) in
    let behind = scores_from-behind names 1 [] joined.rows before (map record_fields entries) read in
    rw still (ap (scores_from names 1 []) rows ∙ behind.same ∙ scores_from-kept names behind.next before entries kept new)

-- they are read back behind a file, whether one of the names is marked or none
pub read-behind : (names : List (List ℕ)) (bytes : List ℕ) (before entries : List KnownScore) → scores_in names bytes ≡ Ok before → All (CanBeKept names) entries → AreNew before entries
    → scores_in names (bytes ++ concat (known_lines entries)) ≡ Ok (before ++ entries)
unfolding strip_bom
read-behind names bytes before entries is kept new =
    let lines = concat (known_lines entries) in
    elim (cases_Bool (has_marked names)) [
      | inl some ↦ rw some (read-joined names (239 ∷ 187 ∷ 191 ∷ bytes) (239 ∷ 187 ∷ 191 ∷ (bytes ++ lines)) before entries refl (rw some at is) kept new)
      | inr none ↦
          let read : scores_behind names bytes ≡ Ok before = rw none at is in
          let stripped = strip_bom-joined bytes lines (ended-read names bytes before read) (lines-unmarked names entries none kept) in
          rw none (read-joined names bytes (bytes ++ lines) before entries stripped read kept new)
    ]

-- an empty file has no scores
scores_in-nothing : (names : List (List ℕ)) → scores_in names [] ≡ Ok []
unfolding strip_bom
scores_in-nothing names = elim (cases_Bool (has_marked names)) [
  | inl some ↦ rw some (ap (scores_from names 1 []) (records-none 1))
  | inr none ↦ rw none (ap (scores_from names 1 []) (records-none 1))
]

pub read-alone : (names : List (List ℕ)) (entries : List KnownScore) → All (CanBeKept names) entries → AreNew [] entries → scores_in names (concat (known_lines entries)) ≡ Ok entries
read-alone names entries kept new = read-behind names [] [] entries (scores_in-nothing names) kept new

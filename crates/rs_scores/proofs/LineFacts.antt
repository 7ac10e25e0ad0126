-- The lines of known scores: each one ends its record, and none begins with a byte order mark.
use Rattle.std.proofs.Common.{◌≡◌, ◌==◌, ◌&&◌, ◌≤◌, ℕ, Bool, true, false, List, [], ◌∷◌, ◌++◌, length, refl, sym, ap, ◌∙◌, subst, inl, inr, arith, append_assoc, length-append}
use Rattle.std.specs.Prelude.{◌||◌}
use Rattle.std.specs.List.{list_any}
use Rattle.std.proofs.lemmas.Bool.{cases_Bool, eqb-true}
use Rattle.csv.specs.Writing.{default_writer, escaped, field_text, fields_text, is_blank, needs_byte, row_text}
use Rattle.rs_scores.specs.Names.{is_marked}
use Rattle.rs_scores.specs.Places.{place_after, place_behind}
use Rattle.rs_scores.specs.declared.place.Place.{Place}
use Rattle.rs_scores.specs.declared.place.Place.TheVariants.{Closed, Field, Plain, Quoted, Record}
use Rattle.rs_scores.proofs.PlaceFacts.{place_behind-append}

-- a place that is in no quotes, and one at the front of a field
abbrev IsOutside : Place → Type 0
IsOutside Quoted = ⊥
IsOutside place = Unit {0}

abbrev IsFront : Place → Type 0
IsFront Record = Unit {0}
IsFront Field = Unit {0}
IsFront place = ⊥

-- a byte that calls for no quotes
abbrev IsPlain : ℕ → Type 0
IsPlain byte = ((byte == 44) ≡ false) × ((byte == 34) ≡ false) × ((byte == 13) ≡ false) × ((byte == 10) ≡ false)

not-true : (b : Bool) → (b ≡ true → ⊥) → b ≡ false
not-true true n = absurd (n refl)
not-true false n = refl

pub or-left : (a b : Bool) → (a || b) ≡ false → a ≡ false
or-left false b e = refl
or-left true b e = cc e

pub or-right : (a b : Bool) → (a || b) ≡ false → b ≡ false
or-right false b e = e
or-right true b e = cc e

plain-byte : (byte : ℕ) → needs_byte default_writer byte ≡ false → IsPlain byte
plain-byte byte e =
    let comma = not-true (byte == 44) (λ t. cc (rw t at e)) in
    let quote = not-true (byte == 34) (λ t. cc (rw (comma, t) at e)) in
    let return = not-true (byte == 13) (λ t. cc (rw (comma, quote, t) at e)) in
    let feed = not-true (byte == 10) (λ t. cc (rw (comma, quote, return, t) at e)) in
    (comma, quote, return, feed)

after-plain : (place : Place) (byte : ℕ) → IsOutside place → IsPlain byte → place_after place byte ≡ Plain
after-plain Record byte out plain = rw (plain.0, plain.1, plain.2, plain.3) refl
after-plain Field byte out plain = rw (plain.0, plain.1, plain.2, plain.3) refl
after-plain Plain byte out plain = rw (plain.0, plain.2, plain.3) refl
after-plain Closed byte out plain = rw (plain.0, plain.1, plain.2, plain.3) refl
after-plain Quoted byte out plain = absurd out

-- bytes that call for no quotes lead into none
behind-plain : (place : Place) (bytes : List ℕ) → IsOutside place → list_any (needs_byte default_writer) bytes ≡ false → IsOutside (place_behind place bytes)
behind-plain place [] out none = out
behind-plain place (byte ∷ rest) out none =
    let here = after-plain place byte out (plain-byte byte (or-left _ _ none)) in
    behind-plain (place_after place byte) rest (subst IsOutside (sym here) tt) (or-right _ _ none)

-- a byte between quotes that is no quotation mark stays there
after-quoted : (byte : ℕ) → (byte == 34) ≡ false → place_after Quoted byte ≡ Quoted
after-quoted byte other = rw other refl

-- bytes between quotes stay there
behind-escaped : (bytes : List ℕ) → place_behind Quoted (escaped default_writer bytes) ≡ Quoted
unfolding escaped
behind-escaped [] = refl
behind-escaped (byte ∷ rest) = elim (cases_Bool (byte == 34)) [
  | inl is ↦ rw is (subst (λ b. place_behind (place_after Closed b) (escaped default_writer rest) ≡ Quoted) (sym (eqb-true byte 34 is)) (behind-escaped rest))
  | inr other ↦ rw other (ap (λ place. place_behind place (escaped default_writer rest)) (after-quoted byte other) ∙ behind-escaped rest)
]

front-outside : (place : Place) → IsFront place → IsOutside place
front-outside Record front = tt
front-outside Field front = tt
front-outside place front = absurd front

-- a field leads into no quotes
behind-field : (place : Place) (field : List ℕ) → IsFront place → IsOutside (place_behind place (field_text default_writer field))
behind-field place field front = elim (cases_Bool (list_any (needs_byte default_writer) field)) [
  | inl needs ↦ rw needs (subst IsOutside (sym (quoted place front)) tt)
  | inr plain ↦ rw plain (behind-plain place field (front-outside place front) plain)
]
  where
    from_quote : place_behind Quoted (escaped default_writer field ++ (34 ∷ [])) ≡ Closed
    from_quote = place_behind-append Quoted (escaped default_writer field) (34 ∷ []) ∙ ap (λ p. place_behind p (34 ∷ [])) (behind-escaped field)

    quoted : (place : Place) → IsFront place → place_behind place (34 ∷ (escaped default_writer field ++ (34 ∷ []))) ≡ Closed
    quoted Record front = from_quote
    quoted Field front = from_quote
    quoted place front = absurd front

after-comma : (place : Place) → IsOutside place → place_after place 44 ≡ Field
after-comma Record out = refl
after-comma Field out = refl
after-comma Plain out = refl
after-comma Closed out = refl
after-comma Quoted out = absurd out

after-feed : (place : Place) → IsOutside place → place_after place 10 ≡ Record
after-feed Record out = refl
after-feed Field out = refl
after-feed Plain out = refl
after-feed Closed out = refl
after-feed Quoted out = absurd out

-- the fields behind the first lead into no quotes
behind-fields : (place : Place) (fields : List (List ℕ)) → IsOutside place → IsOutside (place_behind place (fields_text default_writer fields))
unfolding fields_text
behind-fields place [] out = out
behind-fields place (field ∷ rest) out =
    let comma : place_after place 44 ≡ Field = after-comma place out in
    let here : IsOutside (place_behind (place_after place 44) (field_text default_writer field)) =
    subst (λ p. IsOutside (place_behind p (field_text default_writer field))) (sym comma) (behind-field Field field tt) in
    subst IsOutside (sym (place_behind-append (place_after place 44) (field_text default_writer field) (fields_text default_writer rest)))
    (behind-fields (place_behind (place_after place 44) (field_text default_writer field)) rest here)

-- a record of two fields or more, written as a line
pub line-of : (first second : List ℕ) (rest : List (List ℕ))
    → row_text default_writer (first ∷ second ∷ rest) ≡ field_text default_writer first ++ (fields_text default_writer (second ∷ rest) ++ (10 ∷ []))
unfolding is_blank
line-of first second rest = append_assoc (field_text default_writer first) (fields_text default_writer (second ∷ rest)) (10 ∷ [])

-- it ends its record
pub behind-line : (first second : List ℕ) (rest : List (List ℕ)) → place_behind Record (row_text default_writer (first ∷ second ∷ rest)) ≡ Record
behind-line first second rest =
    let one : IsOutside (place_behind Record (field_text default_writer first)) = behind-field Record first tt in
    let all = behind-fields (place_behind Record (field_text default_writer first)) (second ∷ rest) one in
    ap (place_behind Record) (line-of first second rest)
    ∙ place_behind-append Record (field_text default_writer first) (fields_text default_writer (second ∷ rest) ++ (10 ∷ []))
    ∙ place_behind-append (place_behind Record (field_text default_writer first)) (fields_text default_writer (second ∷ rest)) (10 ∷ [])
    ∙ after-feed (place_behind (place_behind Record (field_text default_writer first)) (fields_text default_writer (second ∷ rest))) all

-- a text whose first byte begins no byte order mark
unmarked-first : (byte : ℕ) (rest : List ℕ) → (byte == 239) ≡ false → is_marked (byte ∷ rest) ≡ false
unmarked-first byte [] other = refl
unmarked-first byte (a ∷ []) other = refl
unmarked-first byte (a ∷ b ∷ rest) other = rw other refl

pub and-false : (a : Bool) → (a && false) ≡ false
and-false true = refl
and-false false = refl

-- a comma behind a text makes no byte order mark of it
unmarked-comma : (bytes rest : List ℕ) → is_marked bytes ≡ false → is_marked (bytes ++ (44 ∷ rest)) ≡ false
unmarked-comma [] rest none = unmarked-first 44 rest refl
unmarked-comma (a ∷ []) [] none = refl
unmarked-comma (a ∷ []) (b ∷ rest) none = rw (and-false (a == 239)) refl
unmarked-comma (a ∷ b ∷ []) rest none = and-false ((a == 239) && (b == 187))
unmarked-comma (a ∷ b ∷ c ∷ bytes) rest none = none

-- a line of a name without a byte order mark begins with none
pub unmarked-line : (first second : List ℕ) (rest : List (List ℕ)) (more : List ℕ) → is_marked first ≡ false → is_marked (row_text default_writer (first ∷ second ∷ rest) ++ more) ≡ false
unfolding fields_text
unmarked-line first second rest more none =
    let tail : List ℕ = (field_text default_writer second ++ fields_text default_writer rest) ++ (10 ∷ []) in
    let line : row_text default_writer (first ∷ second ∷ rest) ++ more ≡ field_text default_writer first ++ (44 ∷ (tail ++ more)) =
    ap (λ text. text ++ more) (line-of first second rest) ∙ append_assoc (field_text default_writer first) (44 ∷ tail) more in
    ap is_marked line ∙ elim (cases_Bool (list_any (needs_byte default_writer) first)) [
      | inl needs ↦ rw needs (unmarked-first 34 ((escaped default_writer first ++ (34 ∷ [])) ++ (44 ∷ (tail ++ more))) refl)
      | inr plain ↦ rw plain (unmarked-comma first (tail ++ more) none)
    ]

-- a line isn't empty
pub length-line : (fields : List (List ℕ)) → 1 ≤ length (row_text default_writer fields)
length-line fields = grind (arith, length-append)

-- The records of bytes whose last record is ended, behind which more is written.
use Rattle.std.proofs.Common.{◌≡◌, ◌⊎◌, ◌==◌, ◌+◌, ◌-◌, ◌<◌, ◌≤◌, ℕ, zero, suc, false, List, [], ◌∷◌, ◌++◌, length, Some, refl, sym, ap, ◌∙◌, subst, inl, inr, append-nil, arith, zero-add}
use Rattle.std.proofs.lemmas.Bool.{cases_Bool, eqb-true, true≢false}
use Rattle.csv.specs.Machine.{field_after, fields_after, is_end, next_record, step}
use Rattle.csv.specs.Reading.{Reached, default_config, records_from, records_next}
use Rattle.csv.specs.declared.parser.Action.TheVariants as act
use Rattle.csv.specs.declared.parser.State.{State}
use Rattle.csv.specs.declared.parser.State.TheVariants as st
use Rattle.rs_scores.specs.Places.{place_after, place_behind}
use Rattle.rs_scores.specs.declared.place.Place.{Place}
use Rattle.rs_scores.specs.declared.place.Place.TheVariants.{Closed, Field, Plain, Quoted, Record}

-- a reader in this state stands at this place
abbrev Agrees : State → Place → Type 0
Agrees st.StartRecord Record = Unit {0}
Agrees st.StartRecord Field = Unit {0}
Agrees st.AfterCr Field = Unit {0}
Agrees st.StartField Field = Unit {0}
Agrees st.InField Plain = Unit {0}
Agrees st.InQuoted Quoted = Unit {0}
Agrees st.AfterQuote Closed = Unit {0}
Agrees state place = ⊥

-- the reader has read nothing of the next record
abbrev IsStart : State → Type 0
IsStart st.StartRecord = Unit {0}
IsStart st.AfterCr = Unit {0}
IsStart state = ⊥

-- a step of the reader goes to the place behind the byte; and where it is at the start of a record then, it was there before, unless it ended one
abbrev StepsTo : State → Place → ℕ → Type 0
StepsTo state place byte = Agrees (step default_config state byte).0 (place_after place byte)
    × (is_end (step default_config state byte).1 ≡ false → IsStart (step default_config state byte).0 → IsStart state × ((step default_config state byte).1 ≡ act.Skip))

at-feed : (state : State) (place : Place) → Agrees state place → StepsTo state place 10
at-feed st.StartRecord Record same = (tt, λ goes is. (tt, refl))
at-feed st.StartRecord Field same = (tt, λ goes is. (tt, refl))
at-feed st.AfterCr Field same = (tt, λ goes is. (tt, refl))
at-feed st.StartField Field same = (tt, λ goes is. absurd (true≢false goes))
at-feed st.InField Plain same = (tt, λ goes is. absurd (true≢false goes))
at-feed st.InQuoted Quoted same = (tt, λ goes is. absurd is)
at-feed st.AfterQuote Closed same = (tt, λ goes is. absurd (true≢false goes))
at-feed state place same = absurd same

at-return : (state : State) (place : Place) → Agrees state place → StepsTo state place 13
at-return st.StartRecord Record same = (tt, λ goes is. (tt, refl))
at-return st.StartRecord Field same = (tt, λ goes is. (tt, refl))
at-return st.AfterCr Field same = (tt, λ goes is. (tt, refl))
at-return st.StartField Field same = (tt, λ goes is. absurd (true≢false goes))
at-return st.InField Plain same = (tt, λ goes is. absurd (true≢false goes))
at-return st.InQuoted Quoted same = (tt, λ goes is. absurd is)
at-return st.AfterQuote Closed same = (tt, λ goes is. absurd (true≢false goes))
at-return state place same = absurd same

at-comma : (state : State) (place : Place) → Agrees state place → StepsTo state place 44
at-comma st.StartRecord Record same = (tt, λ goes is. absurd is)
at-comma st.StartRecord Field same = (tt, λ goes is. absurd is)
at-comma st.AfterCr Field same = (tt, λ goes is. absurd is)
at-comma st.StartField Field same = (tt, λ goes is. absurd is)
at-comma st.InField Plain same = (tt, λ goes is. absurd is)
at-comma st.InQuoted Quoted same = (tt, λ goes is. absurd is)
at-comma st.AfterQuote Closed same = (tt, λ goes is. absurd is)
at-comma state place same = absurd same

at-quote : (state : State) (place : Place) → Agrees state place → StepsTo state place 34
at-quote st.StartRecord Record same = (tt, λ goes is. absurd is)
at-quote st.StartRecord Field same = (tt, λ goes is. absurd is)
at-quote st.AfterCr Field same = (tt, λ goes is. absurd is)
at-quote st.StartField Field same = (tt, λ goes is. absurd is)
at-quote st.InField Plain same = (tt, λ goes is. absurd is)
at-quote st.InQuoted Quoted same = (tt, λ goes is. absurd is)
at-quote st.AfterQuote Closed same = (tt, λ goes is. absurd is)
at-quote state place same = absurd same

at-other : (byte : ℕ) → (byte == 10) ≡ false → (byte == 13) ≡ false → (byte == 44) ≡ false → (byte == 34) ≡ false → (state : State) (place : Place) → Agrees state place → StepsTo state place byte
at-other byte feed return comma quote st.StartRecord Record same = rw (feed, return, comma, quote) (tt, λ goes is. absurd is)
at-other byte feed return comma quote st.StartRecord Field same = rw (feed, return, comma, quote) (tt, λ goes is. absurd is)
at-other byte feed return comma quote st.AfterCr Field same = rw (feed, return, comma, quote) (tt, λ goes is. absurd is)
at-other byte feed return comma quote st.StartField Field same = rw (feed, return, comma, quote) (tt, λ goes is. absurd is)
at-other byte feed return comma quote st.InField Plain same = rw (feed, return, comma) (tt, λ goes is. absurd is)
at-other byte feed return comma quote st.InQuoted Quoted same = rw quote (tt, λ goes is. absurd is)
at-other byte feed return comma quote st.AfterQuote Closed same = rw (feed, return, comma, quote) (tt, λ goes is. absurd is)
at-other byte feed return comma quote state place same = absurd same

steps-to : (byte : ℕ) (state : State) (place : Place) → Agrees state place → StepsTo state place byte
steps-to byte state place same = elim (cases_Bool (byte == 10)) [
  | inl is ↦ subst (λ b. StepsTo state place b) (sym (eqb-true byte 10 is)) (at-feed state place same)
  | inr feed ↦ elim (cases_Bool (byte == 13)) [
    | inl is ↦ subst (λ b. StepsTo state place b) (sym (eqb-true byte 13 is)) (at-return state place same)
    | inr return ↦ elim (cases_Bool (byte == 44)) [
      | inl is ↦ subst (λ b. StepsTo state place b) (sym (eqb-true byte 44 is)) (at-comma state place same)
      | inr comma ↦ elim (cases_Bool (byte == 34)) [
        | inl is ↦ subst (λ b. StepsTo state place b) (sym (eqb-true byte 34 is)) (at-quote state place same)
        | inr quote ↦ at-other byte feed return comma quote state place same
      ]
    ]
  ]
]

-- at the front of a record behind a line feed the reader is at its start
at-record : (state : State) (place : Place) → Agrees state place → place ≡ Record → state ≡ st.StartRecord
at-record st.StartRecord place same e = refl
at-record st.AfterCr Field same e = absurd (cc)
at-record st.StartField Field same e = absurd (cc)
at-record st.InField Plain same e = absurd (cc)
at-record st.InQuoted Quoted same e = absurd (cc)
at-record st.AfterQuote Closed same e = absurd (cc)
at-record state place same e = absurd same

-- a record is read of these bytes, whatever stands behind them, and the last record of what is left is ended
record Takes (state : State) (fields : List (List ℕ)) (field bytes : List ℕ) : Type 0 where
  row : List (List ℕ)
  next : State
  place : Place
  left : List ℕ
  agrees : Agrees next place
  ended : place_behind place left ≡ Record
  fewer : length left < length bytes
  reads : (more : List ℕ) → next_record default_config state fields field (bytes ++ more) ≡ Some (row, next, left ++ more)

-- these bytes hold no record, and what stands behind them is read as if it stood in front
record Waits (state : State) (fields : List (List ℕ)) (field bytes : List ℕ) : Type 0 where
  start : IsStart state
  reads : (more : List ℕ) → next_record default_config state fields field (bytes ++ more) ≡ next_record default_config st.StartRecord fields field more

next-of : (state : State) (place : Place) (fields : List (List ℕ)) (field bytes : List ℕ) → Agrees state place → place_behind place bytes ≡ Record
    → Takes state fields field bytes ⊎ Waits state fields field bytes
unfolding next_record
next-of state place fields field [] same ended =
    let is = at-record state place same ended in
    inr (subst (λ s. Waits s fields field []) (sym is) (record { start = tt; reads = λ more. refl }))
next-of state place fields field (byte ∷ rest) same ended =
    let steps = steps-to byte state place same in
    elim (cases_Bool (is_end (step default_config state byte).1)) [
      | inl ends ↦ inl (record {
        row = fields_after (step default_config state byte).1 fields field;
        next = (step default_config state byte).0;
        place = place_after place byte;
        left = rest;
        agrees = steps.0;
        ended = ended;
        fewer = omega arith;
        reads = λ more. rw ends refl;
      })
      | inr goes ↦
          elim (next-of (step default_config state byte).0 (place_after place byte) (fields_after (step default_config state byte).1 fields field) (field_after (step default_config state byte).1 byte field) rest steps.0 ended) [
            | inl takes ↦ inl (record {
              row = takes.row;
              next = takes.next;
              place = takes.place;
              left = takes.left;
              agrees = takes.agrees;
              ended = takes.ended;
              fewer = omega (arith, takes.fewer);
              reads = λ more. rw goes (takes.reads more);
            })
            | inr waits ↦
                let was = steps.1 goes waits.start in
                inr (record {
                  start = was.0;
                  reads = λ more. rw goes (waits.reads more
                      ∙ ap (λ action. next_record default_config st.StartRecord (fields_after action fields field) (field_after action byte field) more) was.1);
                })
          ]
    ]

-- records are read of these bytes, whatever stands behind them, and then that as if it stood in front
pub record Reads (state : State) (bytes : List ℕ) : Type 0 where
  pub rows : List (List (List ℕ))
  pub last : State
  pub left : List ℕ
  pub few : length rows ≤ length bytes
  pub reached : (more : List ℕ) → Reached default_config state (bytes ++ more) rows last (left ++ more)
  pub goes_on : (more : List ℕ) → next_record default_config last [] [] (left ++ more) ≡ next_record default_config st.StartRecord [] [] more

reads-of : (most : ℕ) (state : State) (place : Place) (bytes : List ℕ) → length bytes < most → Agrees state place → place_behind place bytes ≡ Record → Reads state bytes
unfolding Reached
reads-of zero state place bytes few same ended = absurd (omega (arith, few))
reads-of (suc most) state place bytes few same ended = elim (next-of state place [] [] bytes same ended) [
  | inl takes ↦
      let rest = reads-of most takes.next takes.place takes.left (omega (arith, few, takes.fewer)) takes.agrees takes.ended in
      record {
        rows = takes.row ∷ rest.rows;
        last = rest.last;
        left = rest.left;
        few = omega (arith, rest.few, takes.fewer);
        reached = λ more. ((takes.row, takes.next, takes.left ++ more), takes.reads more, refl, rest.reached more);
        goes_on = rest.goes_on;
      }
  | inr waits ↦ record {
    rows = [];
    last = state;
    left = bytes;
    few = omega arith;
    reached = λ more. (refl, refl);
    goes_on = waits.reads;
  }
]

-- the records that were reached come first
records-reached : (rows : List (List (List ℕ))) (most : ℕ) (state last : State) (bytes left : List ℕ) → Reached default_config state bytes rows last left
    → records_from default_config (length rows + most) state bytes ≡ rows ++ records_from default_config most last left
unfolding Reached records_from
records-reached [] most state last bytes left reached =
    ap (λ n. records_from default_config n state bytes) (zero-add most)
    ∙ ap (λ s. records_from default_config most s bytes) reached.0 ∙ ap (records_from default_config most last) reached.1
records-reached (row ∷ rows) most state last bytes left reached =
    let read = reached.0 in
    let count : length (row ∷ rows) + most ≡ suc (length rows + most) = omega arith in
    ap (λ n. records_from default_config n state bytes) count
    ∙ ap (records_next (records_from default_config (length rows + most))) reached.1
    ∙ ap (λ more. read.0 ∷ more) (records-reached rows most read.1 last read.2 left reached.3)
    ∙ ap (λ first. first ∷ (rows ++ records_from default_config most last left)) (sym reached.2)

-- texts whose next records are the same have the same records
records-same : (most : ℕ) (one two : State) (bytes other : List ℕ) → next_record default_config one [] [] bytes ≡ next_record default_config two [] [] other
    → records_from default_config most one bytes ≡ records_from default_config most two other
unfolding records_from
records-same zero one two bytes other e = refl
records-same (suc most) one two bytes other e = ap (records_next (records_from default_config most)) e

-- no record is in no bytes
pub records-none : (most : ℕ) → records_from default_config most st.StartRecord [] ≡ []
unfolding records_from next_record
records-none zero = refl
records-none (suc most) = refl

-- the records of bytes, and those of more behind them
pub record Joins (bytes : List ℕ) : Type 0 where
  pub rows : List (List (List ℕ))
  pub few : length rows ≤ length bytes
  pub joined : (most : ℕ) (more : List ℕ) → records_from default_config (length rows + most) st.StartRecord (bytes ++ more) ≡ rows ++ records_from default_config most st.StartRecord more
  pub alone : (most : ℕ) → length rows ≤ most → records_from default_config most st.StartRecord bytes ≡ rows

pub joins : (bytes : List ℕ) → place_behind Record bytes ≡ Record → Joins bytes
joins bytes ended =
    let reads = reads-of (length bytes + 1) st.StartRecord Record bytes (omega arith) tt ended in
    let joined : (most : ℕ) (more : List ℕ) → records_from default_config (length reads.rows + most) st.StartRecord (bytes ++ more) ≡ reads.rows ++ records_from default_config most st.StartRecord more =
    λ most more. records-reached reads.rows most st.StartRecord reads.last (bytes ++ more) (reads.left ++ more) (reads.reached more)
    ∙ ap (λ rest. reads.rows ++ rest) (records-same most reads.last st.StartRecord (reads.left ++ more) more (reads.goes_on more)) in
    record {
      rows = reads.rows;
      few = reads.few;
      joined = joined;
      alone = λ most enough.
          let count : most ≡ length reads.rows + (most - length reads.rows) = omega (arith, enough) in
          ap (λ n. records_from default_config n st.StartRecord bytes) count
          ∙ ap (records_from default_config (length reads.rows + (most - length reads.rows)) st.StartRecord) (sym (append-nil bytes))
          ∙ joined (most - length reads.rows) []
          ∙ ap (λ rest. reads.rows ++ rest) (records-none (most - length reads.rows))
          ∙ append-nil reads.rows;
    }

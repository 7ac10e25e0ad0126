-- What of runs' puts was passed on, put by put.
use Rattle.std.proofs.Common.{◌≡◌, ◌∙◌, ◌⊎◌, ℕ, Bool, true, false, inl, inr, List, [], None, Option, Some, Ok, Err, Result, ◌∷◌, ◌++◌, ap, append-nil, append_assoc, arith, drop, length, refl, subst, sym}
use Rattle.std.specs.List.{concat}
use Rattle.std.proofs.lemmas.List.Folds.{concat-append}
use Rattle.std.proofs.Math.Seq.{drop-append_seam}
use Rattle.rs_value.specs.Faults.{raised}
use Rattle.rs_value.specs.Outside.{Faulted, Keeps}
use Rattle.rs_value.proofs.OutsideFacts.{Faulted-from, Keeps-refl, Keeps-then}
use Rattle.rs_outside.specs.Sink.{IsPrefix, Puts}
use Rattle.rs_outside.specs.declared.sink.SinkFault.{SinkFault}
use Rattle.rs_outside.specs.declared.sink.SinkFault.TheVariants as sink
use Rattle.rs_ask.specs.PutRows.{AreApart, IsOfRun, IsRefused, Passed, PassedAll, PassedBy, PutRowsState, StoppedIn, after_refusal, no_rows, rows_again, rows_state}
use Rattle.rs_ask.specs.Putting.{PutsBytes, all_put}
use Rattle.rs_ask.specs.Running.{RunsWhole}
use Rattle.rs_ask.specs.declared.pass.Pass.{Pass}
use Rattle.rs_scores.specs.Known.{Known}
use Rattle.rs_ask.specs.Stops.{DoesDiffer, StopsAt, differs_as}
use Rattle.rs_ask.specs.declared.row_fault.RowFault.{RowFault}
use Rattle.rs_ask.specs.declared.row_fault.RowFault.TheVariants.{Differs, Failed, Memory}
use Rattle.rs_ask.proofs.PutFacts.{Pieces, PutsBytes-none, PutsBytes-then}

-- what stands behind the same
cancel : (xs ys zs : List ℕ) → xs ++ ys ≡ xs ++ zs → ys ≡ zs
cancel xs ys zs same = sym (drop-append_seam xs ys) ∙ ap (drop (length xs)) same ∙ drop-append_seam xs zs

cancel-none : (xs ys : List ℕ) → xs ≡ xs ++ ys → ys ≡ []
cancel-none xs ys same = sym (cancel xs [] ys (append-nil xs ∙ same))

-- a piece more
concat-push : (pieces : List (List ℕ)) (piece : List ℕ) → concat (pieces ++ piece ∷ []) ≡ concat pieces ++ piece
concat-push pieces piece = concat-append pieces (piece ∷ []) ∙ ap (λ last. concat pieces ++ last) (append-nil piece)

concat-empty : (pieces refused : List (List ℕ)) → concat (pieces ++ (refused ++ [] ∷ [])) ≡ concat (pieces ++ refused)
concat-empty pieces refused =
    ap concat (sym (append_assoc pieces refused ([] ∷ []))) ∙ concat-push (pieces ++ refused) [] ∙ append-nil (concat (pieces ++ refused))

-- by what fault it is
by_fault : (fault : Option RowFault) (began now : Pieces) (rows : PutRowsState) → rows.fault ≡ fault → Passed began now rows → PassedBy fault began now rows
by_fault fault began now rows is passed = subst (λ (f : Option RowFault). PassedBy f began now rows) is passed.is

-- a put was refused behind one that failed
stopped-more : (pieces refused : List (List ℕ)) (before : List ℕ) (began now : Pieces) → StoppedIn (pieces ++ refused) before began now → StoppedIn (pieces ++ (refused ++ [] ∷ [])) before began now
stopped-more pieces refused before began now stopped = record {
  done = stopped.done;
  last = stopped.last;
  more = stopped.more ++ [] ∷ [];
  split = sym (append_assoc pieces refused ([] ∷ [])) ∙ ap (λ put. put ++ [] ∷ []) stopped.split ∙ append_assoc stopped.done (stopped.last ∷ stopped.more) ([] ∷ []);
  put = stopped.put;
  puts = stopped.puts;
  begins = stopped.begins;
  reaches = stopped.reaches;
  within = stopped.within;
}

refused-by : (fault : RowFault) (began now : Pieces) (rows : PutRowsState) → PassedBy (Some fault) began now rows → PassedBy (Some fault) began now (after_refusal [] fault rows)
refused-by Differs began now rows by =
    (omega arith, subst (λ put. AreApart rows.shown put) (sym (concat-empty rows.pieces rows.refused)) by.1, by.2)
refused-by Failed began now rows by = (omega arith, stopped-more rows.pieces rows.refused rows.shown began now by.1, by.2)
refused-by Memory began now rows by = (omega arith, stopped-more rows.pieces rows.refused rows.shown began now by.1)

pub Passed-refused : (fault : RowFault) (began now : Pieces) (rows new : PutRowsState) → rows.fault ≡ Some fault → new ≡ after_refusal [] fault rows → Passed began now rows → Passed began now new
Passed-refused fault began now rows new is same passed =
    subst (λ (r : PutRowsState). Passed began now r) (sym same) (record { keeps = passed.keeps; is = refused-by fault began now rows (by_fault (Some fault) began now rows is passed) })

-- the same, if there was memory for it
pub Passed-refusal : (fault : RowFault) (result : Result (Unit {0}) SinkFault) (rows new : PutRowsState) → rows.fault ≡ Some fault → IsRefused [] fault result rows new → (began now : Pieces) → Passed began now rows → Passed began now new
Passed-refusal fault (Ok done) rows new is refused began now passed = absurd refused
Passed-refusal fault (Err sink.Failed) rows new is refused began now passed = Passed-refused fault began now rows new is refused passed
Passed-refusal fault (Err sink.Memory) rows new is refused began now passed = subst (λ (r : PutRowsState). Passed began now r) (sym refused) passed

-- what a refused put does to what is told
pub Puts-refused : (piece : List ℕ) (fault : RowFault) (result : Result (Unit {0}) SinkFault) (rows new : PutRowsState) → IsRefused piece fault result rows new → Puts piece result (rows_state rows).told (rows_state new).told
Puts-refused piece fault (Ok done) rows new refused = absurd refused
Puts-refused piece fault (Err sink.Failed) rows new refused = (
  piece,
  record { rest = []; split = sym (append-nil piece) },
  ap (λ (r : PutRowsState). Some (r.pieces ++ r.refused)) refused ∙ ap Some (sym (append_assoc rows.pieces rows.refused (piece ∷ []))),
)
Puts-refused piece fault (Err sink.Memory) rows new refused = ap (λ (r : PutRowsState). Some (r.pieces ++ r.refused)) refused

-- what a put of an added piece does to it
pub told-added : (piece : List ℕ) (rows next : PutRowsState) → rows.refused ≡ [] → next.pieces ≡ rows.pieces ++ piece ∷ [] → next.refused ≡ rows.refused
    → ◌≡◌ {A = Option (List (List ℕ))} (Some (next.pieces ++ next.refused)) (Some ((rows.pieces ++ rows.refused) ++ piece ∷ []))
told-added piece rows next none pieces refused =
    ap Some (ap (λ put. put ++ next.refused) pieces ∙ ap (λ more. (rows.pieces ++ piece ∷ []) ++ more) (refused ∙ none) ∙ append-nil (rows.pieces ++ piece ∷ [])
    ∙ ap (λ put. put ++ piece ∷ []) (sym (append-nil rows.pieces) ∙ ap (λ more. rows.pieces ++ more) (sym none)))

-- a piece that differs from what was put before
differs-by : (began now : Pieces) (rows : PutRowsState) (piece rest : List ℕ) → rows.refused ≡ [] → rows.bytes ≡ concat rows.pieces ++ rest → (¬ IsPrefix piece rest) × (¬ IsPrefix rest piece)
    → PassedAll began now rows → PassedBy (Some Differs) began now (after_refusal piece Differs rows)
differs-by began now rows piece rest none goes apart all = go all.new where
  whole : concat (rows.pieces ++ (rows.refused ++ piece ∷ [])) ≡ concat rows.pieces ++ piece
  whole = ap (λ refused. concat (rows.pieces ++ (refused ++ piece ∷ []))) none ∙ concat-push rows.pieces piece

  go : (all.fresh ≡ []) ⊎ (concat rows.pieces ≡ rows.bytes) → PassedBy (Some Differs) began now (after_refusal piece Differs rows)
  go (inl empty) =
      let shown : rows.bytes ≡ rows.shown = all.is ∙ ap (λ fresh. rows.shown ++ fresh) empty ∙ append-nil rows.shown in
      let is : rows.shown ≡ concat rows.pieces ++ rest = sym shown ∙ goes in (
        omega arith,
        subst (λ put. AreApart rows.shown put) (sym whole) (subst (λ shown. AreApart shown (concat rows.pieces ++ piece)) (sym is) (
          λ (p : IsPrefix (concat rows.pieces ++ rest) (concat rows.pieces ++ piece)). apart.1 (record { rest = p.rest; split = cancel (concat rows.pieces) piece (rest ++ p.rest) (p.split ∙ append_assoc (concat rows.pieces) rest p.rest) }),
          λ (p : IsPrefix (concat rows.pieces ++ piece) (concat rows.pieces ++ rest)). apart.0 (record { rest = p.rest; split = cancel (concat rows.pieces) rest (piece ++ p.rest) (p.split ∙ append_assoc (concat rows.pieces) piece p.rest) }),
        )),
        subst (λ bytes. PutsBytes bytes began now) shown all.puts,
      )
  go (inr all_put) =
      let empty : rest ≡ [] = cancel-none (concat rows.pieces) rest (all_put ∙ goes) in
      absurd (apart.1 (record { rest = piece; split = ap (λ before. before ++ piece) (sym empty) }))

pub Passed-differs : (began now : Pieces) (rows new : PutRowsState) (piece rest : List ℕ) → rows.fault ≡ None → rows.refused ≡ [] → rows.bytes ≡ concat rows.pieces ++ rest → (¬ IsPrefix piece rest) × (¬ IsPrefix rest piece)
    → new ≡ after_refusal piece Differs rows → Passed began now rows → Passed began now new
Passed-differs began now rows new piece rest is none goes apart same passed =
    subst (λ (r : PutRowsState). Passed began now r) (sym same) (record { keeps = passed.keeps; is = differs-by began now rows piece rest none goes apart (by_fault None began now rows is passed) })

pub Passed-differing : (result : Result (Unit {0}) SinkFault) (rows new : PutRowsState) (piece rest : List ℕ) → rows.fault ≡ None → rows.refused ≡ [] → rows.bytes ≡ concat rows.pieces ++ rest → (¬ IsPrefix piece rest) × (¬ IsPrefix rest piece)
    → IsRefused piece Differs result rows new → (began now : Pieces) → Passed began now rows → Passed began now new
Passed-differing (Ok done) rows new piece rest is none goes apart refused began now passed = absurd refused
Passed-differing (Err sink.Failed) rows new piece rest is none goes apart refused began now passed = Passed-differs began now rows new piece rest is none goes apart refused passed
Passed-differing (Err sink.Memory) rows new piece rest is none goes apart refused began now passed = subst (λ (r : PutRowsState). Passed began now r) (sym refused) passed

-- a refused put leaves what was put before
pub shown-refused : (taken : List ℕ) (fault : RowFault) (result : Result (Unit {0}) SinkFault) (rows new : PutRowsState) → IsRefused taken fault result rows new → new.shown ≡ rows.shown
shown-refused taken fault (Ok done) rows new refused = absurd refused
shown-refused taken fault (Err sink.Failed) rows new refused = ap (λ (r : PutRowsState). r.shown) refused
shown-refused taken fault (Err sink.Memory) rows new refused = ap (λ (r : PutRowsState). r.shown) refused

-- a run begins
pub Passed-again : (began now : Pieces) (rows new : PutRowsState) → rows.fault ≡ None → new ≡ rows_again rows.bytes → Passed began now rows → Passed began now new
Passed-again began now rows new is same passed =
    let all : PassedAll began now rows = by_fault None began now rows is passed in
    let by : PassedAll began now (rows_again rows.bytes) = record { none_failed = refl; fresh = []; is = sym (append-nil rows.bytes); new = inl refl; puts = all.puts } in
    subst (λ (r : PutRowsState). Passed began now r) (sym same) (record { keeps = passed.keeps; is = by })

-- no run was made
pub Passed-none : (began : Pieces) → Passed began began no_rows
Passed-none began =
    let by : PassedAll began began no_rows = record { none_failed = refl; fresh = []; is = refl; new = inl refl; puts = PutsBytes-none began } in
    record { keeps = Keeps-refl began; is = by }

-- a run that went well
pub all-passed : (began now : Pieces) (rows : PutRowsState) → rows.fault ≡ None → Passed began now rows → PassedAll began now rows
all-passed began now rows is passed = by_fault None began now rows is passed

-- the state with one piece more, of which this much is new
abbrev pub added : List ℕ → List ℕ → PutRowsState → PutRowsState
added piece new rows = record rows { bytes = rows.bytes ++ new; pieces = rows.pieces ++ piece ∷ [] }

-- what is new of a piece behind this
abbrev pub IsNew : List ℕ → List ℕ → List ℕ → Type 0
IsNew rest piece new = (IsPrefix piece rest × (new ≡ [])) ⊎ (piece ≡ rest ++ new)

-- a piece that goes on ends within the bytes
pub goes-on : (pieces : List (List ℕ)) (bytes rest piece new : List ℕ) → bytes ≡ concat pieces ++ rest → IsNew rest piece new → IsPrefix (concat pieces ++ piece) (bytes ++ new)
goes-on pieces bytes rest piece new goes (inl (p, empty)) = record {
  rest = p.rest;
  split =
      ap (λ more. bytes ++ more) empty ∙ append-nil bytes ∙ goes ∙ ap (λ behind. concat pieces ++ behind) p.split ∙ sym (append_assoc (concat pieces) piece p.rest);
}
goes-on pieces bytes rest piece new goes (inr is) = record {
  rest = [];
  split =
      ap (λ before. before ++ new) goes ∙ append_assoc (concat pieces) rest new ∙ ap (λ behind. concat pieces ++ behind) (sym is) ∙ sym (append-nil (concat pieces ++ piece));
}

-- all of it was put before
pub Passed-within : (began now : Pieces) (rows next : PutRowsState) (piece new rest : List ℕ) → rows.fault ≡ None → rows.bytes ≡ concat rows.pieces ++ rest → IsNew rest piece new → new ≡ []
    → next ≡ added piece new rows → Passed began now rows → Passed began now next
Passed-within began now rows next piece new rest is goes part empty same passed =
    subst (λ (r : PutRowsState). Passed began now r) (sym same) (record { keeps = passed.keeps; is = subst (λ (f : Option RowFault). PassedBy f began now (added piece new rows)) (sym is) all_by }) where
      all : PassedAll began now rows
      all = by_fault None began now rows is passed

      bytes : rows.bytes ++ new ≡ rows.bytes
      bytes = ap (λ more. rows.bytes ++ more) empty ∙ append-nil rows.bytes

      is_empty : IsNew rest piece new → rest ≡ [] → piece ≡ []
      is_empty (inl (p, e)) none = none_of piece p.rest (sym none ∙ p.split) where
        none_of : (xs ys : List ℕ) → [] ≡ xs ++ ys → xs ≡ []
        none_of [] ys e = refl
        none_of (x ∷ xs) ys e = cc
      is_empty (inr e) none = e ∙ ap (λ before. before ++ new) none ∙ empty

      still : (all.fresh ≡ []) ⊎ (concat rows.pieces ≡ rows.bytes) → (all.fresh ≡ []) ⊎ (concat (rows.pieces ++ piece ∷ []) ≡ rows.bytes ++ new)
      still (inl none) = inl none
      still (inr whole) = inr (concat-push rows.pieces piece ∙ ap (λ last. concat rows.pieces ++ last) (is_empty part (cancel-none (concat rows.pieces) rest (whole ∙ goes))) ∙ append-nil (concat rows.pieces) ∙ whole ∙ sym bytes)

      all_by : PassedAll began now (added piece new rows)
      all_by = record {
        none_failed = all.none_failed;
        fresh = all.fresh;
        is = bytes ∙ all.is;
        new = still all.new;
        puts = subst (λ bs. PutsBytes bs began now) (sym bytes) all.puts;
      }

-- the part of a piece that is new isn't empty, so it goes on behind all that was put
only-new : (rest piece new : List ℕ) → IsNew rest piece new → (new ≡ [] → ⊥) → piece ≡ rest ++ new
only-new rest piece new (inl (p, empty)) some = absurd (some empty)
only-new rest piece new (inr is) some = is

whole-new : (rows : PutRowsState) (piece new rest : List ℕ) → rows.bytes ≡ concat rows.pieces ++ rest → piece ≡ rest ++ new → concat rows.pieces ++ piece ≡ rows.bytes ++ new
whole-new rows piece new rest goes is = ap (λ behind. concat rows.pieces ++ behind) is ∙ sym (append_assoc (concat rows.pieces) rest new) ∙ ap (λ before. before ++ new) (sym goes)

-- what is new was put
pub Passed-put : (began now later : Pieces) (rows next : PutRowsState) (piece new rest : List ℕ) → rows.fault ≡ None → rows.bytes ≡ concat rows.pieces ++ rest → IsNew rest piece new → (new ≡ [] → ⊥)
    → next ≡ added piece new rows → PutsBytes new now later → Keeps now later → Passed began now rows → Passed began later next
Passed-put began now later rows next piece new rest is goes part some same puts keeps passed =
    let all : PassedAll began now rows = by_fault None began now rows is passed in
    let by : PassedAll began later (added piece new rows) = record {
      none_failed = all.none_failed;
      fresh = all.fresh ++ new;
      is = ap (λ before. before ++ new) all.is ∙ append_assoc rows.shown all.fresh new;
      new = inr (concat-push rows.pieces piece ∙ whole-new rows piece new rest goes (only-new rest piece new part some));
      puts = PutsBytes-then rows.bytes new began now later all.puts puts;
    } in
    subst (λ (r : PutRowsState). Passed began later r) (sym same) (record { keeps = Keeps-then began now later passed.keeps keeps; is = subst (λ (f : Option RowFault). PassedBy f began later (added piece new rows)) (sym is) by })

-- the state in which the put of what is new failed
abbrev pub failed : RowFault → List ℕ → List ℕ → PutRowsState → PutRowsState
failed fault piece new rows = record (added piece new rows) { fault = Some fault; faults = raised rows.faults }

-- the put of what is new failed, and took a part of it
stopped-new : (began now later : Pieces) (rows : PutRowsState) (piece new rest part : List ℕ) → rows.refused ≡ [] → rows.bytes ≡ concat rows.pieces ++ rest → piece ≡ rest ++ new → IsPrefix part new
    → PutsBytes part now later → PassedAll began now rows → StoppedIn ((rows.pieces ++ piece ∷ []) ++ rows.refused) rows.shown began later
stopped-new began now later rows piece new rest part none goes is begins puts all = record {
  done = rows.pieces;
  last = piece;
  more = [];
  split = ap (λ refused. (rows.pieces ++ piece ∷ []) ++ refused) none ∙ append-nil (rows.pieces ++ piece ∷ []);
  put = rows.bytes ++ part;
  puts = PutsBytes-then rows.bytes part began now later all.puts puts;
  begins = record { rest = all.fresh ++ part; split = ap (λ before. before ++ part) all.is ∙ append_assoc rows.shown all.fresh part };
  reaches = record { rest = rest ++ part; split = ap (λ before. before ++ part) goes ∙ append_assoc (concat rows.pieces) rest part };
  within = record { rest = begins.rest; split = whole-new rows piece new rest goes is ∙ ap (λ more. rows.bytes ++ more) begins.split ∙ sym (append_assoc rows.bytes part begins.rest) };
}

pub Passed-failed : (began now later : Pieces) (rows next : PutRowsState) (piece new rest part : List ℕ) → rows.fault ≡ None → rows.refused ≡ [] → rows.bytes ≡ concat rows.pieces ++ rest → IsNew rest piece new → (new ≡ [] → ⊥)
    → next ≡ failed Failed piece new rows → IsPrefix part new → PutsBytes part now later → Keeps now later → Faulted now later → Passed began now rows → Passed began later next
Passed-failed began now later rows next piece new rest part is none goes how some same begins puts keeps faulted passed =
    subst (λ (r : PutRowsState). Passed began later r) (sym same) (record {
      keeps = Keeps-then began now later passed.keeps keeps;
      is = (omega arith, stopped-new began now later rows piece new rest part none goes (only-new rest piece new how some) begins puts (by_fault None began now rows is passed), Faulted-from began now later passed.keeps faulted);
    })

pub Passed-memory : (began now later : Pieces) (rows next : PutRowsState) (piece new rest part : List ℕ) → rows.fault ≡ None → rows.refused ≡ [] → rows.bytes ≡ concat rows.pieces ++ rest → IsNew rest piece new → (new ≡ [] → ⊥)
    → next ≡ failed Memory piece new rows → IsPrefix part new → PutsBytes part now later → Keeps now later → Passed began now rows → Passed began later next
Passed-memory began now later rows next piece new rest part is none goes how some same begins puts keeps passed =
    subst (λ (r : PutRowsState). Passed began later r) (sym same) (record {
      keeps = Keeps-then began now later passed.keeps keeps;
      is = (omega arith, stopped-new began now later rows piece new rest part none goes (only-new rest piece new how some) begins puts (by_fault None began now rows is passed));
    })

-- a run that differs, though it may have lacked memory
pub StopsAt-differs : (lacked : Bool) (before : List ℕ) (rows began now : Pieces) → DoesDiffer before rows → PutsBytes before began now → StopsAt (differs_as lacked) lacked before rows began now
StopsAt-differs true before rows began now differs puts = inr (refl, puts)
StopsAt-differs false before rows began now differs puts = (refl, differs, puts)

-- a run put less than was put before
pub StopsAt-less : (lacked : Bool) (began now : Pieces) (rows : PutRowsState) (rest : List ℕ) → rows.fault ≡ None → rows.refused ≡ [] → rows.bytes ≡ concat rows.pieces ++ rest → (rest ≡ [] → ⊥)
    → Passed began now rows → StopsAt (differs_as lacked) lacked rows.shown (rows_state rows) began now
StopsAt-less lacked began now rows rest is none goes some passed = go all.new where
  all : PassedAll began now rows
  all = by_fault None began now rows is passed

  go : (all.fresh ≡ []) ⊎ (concat rows.pieces ≡ rows.bytes) → StopsAt (differs_as lacked) lacked rows.shown (rows_state rows) began now
  go (inr whole) = absurd (some (cancel-none (concat rows.pieces) rest (whole ∙ goes)))
  go (inl empty) =
      let shown : rows.bytes ≡ rows.shown = all.is ∙ ap (λ fresh. rows.shown ++ fresh) empty ∙ append-nil rows.shown in
      let put : concat (rows.pieces ++ rows.refused) ≡ concat rows.pieces = ap (λ refused. concat (rows.pieces ++ refused)) none ∙ ap concat (append-nil rows.pieces) in
      StopsAt-differs lacked rows.shown (rows_state rows) began now (
        rows.pieces ++ rows.refused,
        refl,
        (λ (p : IsPrefix rows.shown (concat (rows.pieces ++ rows.refused))).
            some (none_left rest p.rest (cancel-none (concat rows.pieces) (rest ++ p.rest) (sym put ∙ p.split ∙ ap (λ before. before ++ p.rest) (sym shown ∙ goes) ∙ append_assoc (concat rows.pieces) rest p.rest)))),
        inl all.none_failed,
      ) (subst (λ bytes. PutsBytes bytes began now) shown all.puts) where
        none_left : (xs ys : List ℕ) → xs ++ ys ≡ [] → xs ≡ []
        none_left [] ys e = refl
        none_left (x ∷ xs) ys e = cc

-- or something else
pub StopsAt-apart : (lacked : Bool) (began now : Pieces) (rows : PutRowsState) → rows.fault ≡ Some Differs → Passed began now rows → StopsAt (differs_as lacked) lacked rows.shown (rows_state rows) began now
StopsAt-apart lacked began now rows is passed =
    let by : PassedBy (Some Differs) began now rows = by_fault (Some Differs) began now rows is passed in
    StopsAt-differs lacked rows.shown (rows_state rows) began now (rows.pieces ++ rows.refused, refl, by.1.0, inr by.1.1) by.2

-- a run whose rows are all put
pub RunsWhole-put : {R : Type 0} (ran : R → Known → Pass → R → Pieces → Pieces → Type 0) (pass : Pass) (old : R) (known : Known) (new : R) (shown before : List ℕ) (rows : PutRowsState) (began now : Pieces)
    → IsOfRun shown began now rows → shown ≡ before → (rows.fault ≡ None) × (rows.refused ≡ []) × (rows.bytes ≡ concat rows.pieces) → ran old known pass new (all_put []) (rows_state rows)
    → RunsWhole ran pass old known new before rows.bytes began now
RunsWhole-put ran pass old known new shown before rows began now of is whole did =
    let all : PassedAll began now rows = by_fault None began now rows whole.0 of.passed in
    let told : rows_state rows ≡ all_put rows.pieces =
    ap (λ (put : List (List ℕ)). let state : Pieces = record { told = Some put; faults = rows.faults; steady = false } in state) (ap (λ refused. rows.pieces ++ refused) whole.1 ∙ append-nil rows.pieces)
    ∙ ap (λ (n : ℕ). let state : Pieces = record { told = Some rows.pieces; faults = n; steady = false } in state) all.none_failed in
    record {
      pieces = rows.pieces;
      did = subst (λ (state : Pieces). ran old known pass new (all_put []) state) told did;
      are = sym whole.2;
      fresh = all.fresh;
      goes = all.is ∙ ap (λ first. first ++ all.fresh) (of.shown_is ∙ is);
      puts = all.puts;
    }

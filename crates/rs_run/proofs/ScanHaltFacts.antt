-- What the lists of a scan had once the lines that it takes broke off.
use Rattle.std.proofs.Common.{ℕ, suc, ◌≡◌, ◌∙◌, ◌+◌, ◌<◌, ◌≤◌, ◌++◌, Bool, cond, List, [], ◌∷◌, length, map, take, drop, Some, None, refl, sym, ap, subst, arith, append_assoc, add-zero, append-nil, length-append}
use Rattle.std.specs.Prelude.{Option, Ok, Err, OnErr, OnOk, Result, min, option_map, pos, slice_get}
use Rattle.std.proofs.lemmas.List.{length-map, length-take, take-append-le, take_all}
use Rattle.rs_value.specs.Outside.{Outside, untold}
use Rattle.rs_outside.specs.DirFiles.{disk_state}
use Rattle.rs_lines.specs.Row.{line_of}
use Rattle.rs_rank.specs.declared.answer.Answer.{Answer}
use Rattle.rs_rank.specs.declared.row.RankRow.{RankRow}
use Rattle.rs_query.specs.Answers.{cut}
use Rattle.rs_ta.specs.BlockTests.{BlockTestState}
use Rattle.rs_ta.specs.Depths.{ScanInput, answers, depth}
use Rattle.rs_ta.specs.Eligible.{answer_for}
use Rattle.rs_ta.specs.IndexLists.{IndexListsState}
use Rattle.rs_ta.specs.Lists.{AreRanked, ListsState}
use Rattle.rs_ta.specs.Scans.{AreAccessed, AreAccessedWithin, HaveWeights, IsEntry, Scan, asks_of}
use Rattle.rs_ta.proofs.ExtensionFacts.{depth-rise, within-asks}
use Rattle.rs_events.specs.Environment.{Environment}
use Rattle.rs_events.specs.Events.{Event, Put, puts}
use Rattle.rs_events.specs.HaltFaults.{Answers, IsFaultOf}
use Rattle.rs_events.specs.Halts.{CallFailed, Ended, FetchFailed, Halt, HaltsAt, NoMemory, PutFailed, halt_events}
use Rattle.rs_events.specs.Run.{lines_run}
use Rattle.rs_events.specs.Running as running
use Rattle.rs_events.specs.Running.{HasDone}
use Rattle.rs_events.proofs.RanFacts.{told-more}
use Rattle.rs_statement.specs.Lines.{rank_lines}
use Rattle.rs_statement.specs.Planned.{ask_count}
use Rattle.rs_statement.proofs.PrintFacts.{length-rank_lines}
use Rattle.rs_run.specs.declared.fault.RunFault.{RunFault}
use Rattle.rs_run.specs.Faults.{run_faults}
use Rattle.rs_run.specs.Parts.Scanning.{AreAccessedFor, IsBrokenOff, most_asks, part_pieces, scan_input, scanned_rows}
use Rattle.rs_run.specs.Threshold.{scan_asks}
use Rattle.rs_run.proofs.ScanFacts.{IsAt, split}

-- some objects of the outside, where a fact holds beside any
abbrev pub somebody : Environment
somebody = record {
  files = disk_state (record { faults = 0; last = None });
  scorer = record { answer = λ predicate args. pos 0; calls = 0; outside = untold 0 };
  out = untold 0;
  err = untold 0;
  references = (0, 0, 0);
}

puts-lines : (lines : List (List ℕ)) → puts (map Put lines) ≡ lines
puts-lines [] = refl
puts-lines (line ∷ rest) = ap (λ more. line ∷ more) (puts-lines rest)

-- what the lines that were put add to the pieces
pub told-lines : (lines : List (List ℕ)) (old new : Outside (List (List ℕ))) → HasDone (map Put lines) (record somebody { out = old }) (record somebody { out = new })
    → new.told ≡ option_map (λ pieces. pieces ++ lines) old.told
told-lines lines old new has = has.all.put ∙ ap (λ more. option_map (λ pieces. pieces ++ more) old.told) (puts-lines lines)

-- a number of asks is as many as are wanted
pub asks-within : (limit : Option ℕ) (given rows : ℕ) → given < most_asks limit → given ≤ rows → suc given ≤ ask_count limit rows
asks-within None given rows within some = omega arith
asks-within (Some limit) given rows within some = omega arith

min-below : (a b : ℕ) → a ≤ b → min a b ≡ a
min-below a b le = omega arith

-- the line of the accesses takes all asks
pub asks-last : (test : BlockTestState) (limit : Option ℕ) (i : ScanInput) → min (suc (length (rank_lines 1 (scanned_rows test limit i)))) (scan_asks limit i) ≡ scan_asks limit i
asks-last test limit i =
    let all = map (answer_for test.catalogue test.block) (answers i) in
    let same = length-map (answers i) (answer_for test.catalogue test.block) in
    ap (λ n. min (suc n) (scan_asks limit i)) (length-rank_lines 1 (scanned_rows test limit i))
    ∙ go limit all (length (answers i)) same
  where
    go : (limit : Option ℕ) (all : List Answer) (count : ℕ) → length all ≡ count → min (suc (length (cut limit all))) (ask_count limit count) ≡ ask_count limit count
    go None all count same = omega arith
    go (Some limit) all count same = omega (arith, length-take limit all)

module _ (i : ScanInput) (entry : IsEntry i.entry) (ranked : AreRanked i.lists) (have : HaveWeights i) (asks : ℕ) (state : ListsState) where
  rise : (least most : ℕ) → least ≤ most → depth i least ≤ depth i most
  rise = depth-rise i entry ranked have

  -- exactly the accesses of a line more, where that line wasn't put, and where it was
  before-line : (lines : ℕ) → AreAccessed i (min (suc lines) asks) state → AreAccessedFor i asks lines None state
  before-line lines at = within-asks i state (min (suc lines) asks) (depth i (min lines asks)) (depth i (min (suc lines) asks)) at
      (rise (min lines asks) (min (suc lines) asks) (omega arith)) (omega arith)

  behind-line : (lines : ℕ) → AreAccessed i (min (suc lines) asks) state → AreAccessedFor i asks (suc lines) None state
  behind-line lines at = within-asks i state (min (suc lines) asks) (depth i (min (suc lines) asks)) (depth i (min (suc (suc lines)) asks)) at
      (omega arith) (rise (min (suc lines) asks) (min (suc (suc lines)) asks) (omega arith))

  module _ (lines rest : List (List ℕ)) (line : List ℕ) (whole : List (List ℕ)) (split : whole ≡ lines ++ line ∷ rest)
      (old middle new : Outside (List (List ℕ))) (put : middle.told ≡ option_map (λ pieces. pieces ++ lines) old.told)
      (at : AreAccessed i (min (suc (length lines)) asks) state) where
    short : length lines ≤ length whole
    short = let e = ap length split ∙ length-append lines (line ∷ rest) in omega arith

    shorter : suc (length lines) ≤ length whole
    shorter = let e = ap length split ∙ length-append lines (line ∷ rest) in let one : length (line ∷ rest) ≡ suc (length rest) = refl in omega arith

    first-lines : take (length lines) whole ≡ lines
    first-lines = ap (take (length lines)) split ∙ take-append-le (length lines) lines (line ∷ rest) (omega arith) ∙ take_all (length lines) lines (omega arith)

    and-line : take (suc (length lines)) whole ≡ lines ++ line ∷ []
    and-line =
        let count : length (lines ++ line ∷ []) ≡ suc (length lines) = length-append lines (line ∷ []) ∙ (let e : length lines + 1 ≡ suc (length lines) = omega arith in e) in
        ap (take (suc (length lines))) (split ∙ sym (append_assoc lines (line ∷ []) rest))
        ∙ take-append-le (suc (length lines)) (lines ++ line ∷ []) rest (omega arith)
        ∙ take_all (suc (length lines)) (lines ++ line ∷ []) (omega arith)

    -- what was put in all: nothing of the line, all of it, or a part
    told-of : (more : List (List ℕ)) → new.told ≡ option_map (λ pieces. pieces ++ more) middle.told → new.told ≡ option_map (λ pieces. pieces ++ (lines ++ more)) old.told
    told-of more is = is ∙ ap (option_map (λ pieces. pieces ++ more)) put ∙ told-more lines more old.told

    nothing-more : new.told ≡ option_map (λ pieces. pieces ++ []) middle.told → IsBrokenOff i asks whole old new state
    nothing-more is = record {
      count = length lines;
      within = short;
      part = None;
      put = told-of [] is ∙ ap (λ first. option_map (λ pieces. pieces ++ (first ++ [])) old.told) (sym first-lines);
      accessed = before-line (length lines) at;
    }

    one-more : new.told ≡ option_map (λ pieces. pieces ++ line ∷ []) middle.told → IsBrokenOff i asks whole old new state
    one-more is = record {
      count = suc (length lines);
      within = shorter;
      part = None;
      put = told-of (line ∷ []) is ∙ ap (λ first. option_map (λ pieces. pieces ++ first) old.told) (sym (append-nil (lines ++ line ∷ [])) ∙ ap (λ first. first ++ []) (sym and-line));
      accessed = behind-line (length lines) at;
    }

    part-more : (part : List ℕ) → new.told ≡ option_map (λ pieces. pieces ++ part ∷ []) middle.told → IsBrokenOff i asks whole old new state
    part-more part is = record {
      count = length lines;
      within = short;
      part = Some part;
      put = told-of (part ∷ []) is ∙ ap (λ first. option_map (λ pieces. pieces ++ (first ++ part ∷ [])) old.told) (sym first-lines);
      accessed = at;
    }

    -- the events that were done of the put of one line
    by-halt : (halt : Halt) (done rest : List Event) (fault : RunFault) (own : Option RunFault) → Put line ∷ [] ≡ done ++ rest → HaltsAt halt rest (record somebody { out = middle }) (record somebody { out = new })
        → new.told ≡ option_map (λ pieces. pieces ++ puts (done ++ halt_events halt)) middle.told
        → IsFaultOf run_faults None halt own → Answers run_faults.memory own (Err fault) → IsBrokenOff i asks whole old new state
    by-halt Ended done rest fault own events halts is of answers = absurd (let e : Err fault ≡ Ok tt = subst (λ f. Answers run_faults.memory f (Err fault)) of answers in cc)
    by-halt NoMemory [] rest fault own events halts is of answers = nothing-more is
    by-halt NoMemory (event ∷ []) rest fault own events halts is of answers =
        let same : event ≡ Put line = cc in
        one-more (is ∙ ap (λ (e : Event). option_map (λ pieces. pieces ++ puts (e ∷ [])) middle.told) same)
    by-halt NoMemory (event ∷ other ∷ done) rest fault own events halts is of answers = absurd (let e : [] ≡ other ∷ (done ++ rest) = cc in cc)
    by-halt (PutFailed part) [] rest fault own events halts is of answers = part-more part is
    by-halt (PutFailed part) (event ∷ []) rest fault own events halts is of answers = absurd (let e : [] ≡ rest = cc in let h = halts.2 in cc)
    by-halt (PutFailed part) (event ∷ other ∷ done) rest fault own events halts is of answers = absurd (let e : [] ≡ other ∷ (done ++ rest) = cc in cc)
    by-halt (FetchFailed name) [] rest fault own events halts is of answers = absurd (let h = halts.1 in cc)
    by-halt (FetchFailed name) (event ∷ []) rest fault own events halts is of answers = absurd (let e : [] ≡ rest = cc in let h = halts.1 in cc)
    by-halt (FetchFailed name) (event ∷ other ∷ done) rest fault own events halts is of answers = absurd (let e : [] ≡ other ∷ (done ++ rest) = cc in cc)
    by-halt (CallFailed call) [] rest fault own events halts is of answers = absurd (let h = halts.1 in cc)
    by-halt (CallFailed call) (event ∷ []) rest fault own events halts is of answers = absurd (let e : [] ≡ rest = cc in let h = halts.1 in cc)
    by-halt (CallFailed call) (event ∷ other ∷ done) rest fault own events halts is of answers = absurd (let e : [] ≡ other ∷ (done ++ rest) = cc in cc)

    pub line-broken : (fault : RunFault) → running.Ran run_faults (lines_run (line ∷ [])) (Err fault) (record somebody { out = middle }) (record somebody { out = new }) → IsBrokenOff i asks whole old new state
    line-broken fault ran = by-halt ran.halt ran.did.done ran.did.rest fault ran.fault ran.did.split ran.did.halts ran.did.all.put ran.is_fault ran.answers

-- no line more was put
pub lines-ended : (i : ScanInput) (asks : ℕ) (lines whole : List (List ℕ)) (count : ℕ) (old new : Outside (List (List ℕ))) (state : ListsState) → count ≤ length whole → take count whole ≡ lines
    → new.told ≡ option_map (λ pieces. pieces ++ lines) old.told → AreAccessedFor i asks count None state → IsBrokenOff i asks whole old new state
lines-ended i asks lines whole count old new state within first put accessed = record {
  count = count;
  within = within;
  part = None;
  put = put ∙ ap (λ some. option_map (λ pieces. pieces ++ some) old.told) (sym (append-nil lines) ∙ ap (λ some. some ++ []) (sym first));
  accessed = accessed;
}

-- lines behind those that broke off
pub broken-longer : (i : ScanInput) (asks : ℕ) (lines more : List (List ℕ)) (old new : Outside (List (List ℕ))) (state : ListsState) → IsBrokenOff i asks lines old new state → IsBrokenOff i asks (lines ++ more) old new state
broken-longer i asks lines more old new state at =
    let within = at.within in record {
      count = at.count;
      within = let e = length-append lines more in omega arith;
      part = at.part;
      put = at.put ∙ ap (λ first. option_map (λ pieces. pieces ++ (first ++ part_pieces at.part)) old.told) (sym (take-append-le at.count lines more within));
      accessed = at.accessed;
    }

-- what holds in any case holds of what is no error
pub on_ok_from : {A E P : Type 0} (r : Result A E) → P → OnOk r P
on_ok_from (Ok value) p = p
on_ok_from (Err error) p = tt

-- where a fact holds of each error
pub on_err_each : {A E P : Type 0} (r : Result A E) → ((error : E) → r ≡ Err error → P) → OnErr r P
on_err_each (Ok value) each = tt
on_err_each (Err error) each = each error refl

module _ (test : BlockTestState) (first : Scan) (first_lists : IndexListsState) (given : ℕ) (scan : Scan) (lists : IndexListsState) (at : IsAt test first first_lists given scan lists)
    (limit : Option ℕ) (within : given < most_asks limit) where
  abbrev whole_input : ScanInput
  whole_input = scan_input test first first_lists

  abbrev whole_lines : List (List ℕ)
  whole_lines = rank_lines 1 (scanned_rows test limit whole_input)

  given-some : given ≤ length (answers whole_input)
  given-some =
      let some = at.scanning.stands.within in
      subst (λ n. n ≤ length (answers whole_input)) at.given_is (subst (λ (j : ScanInput). scan.given ≤ length (answers j)) at.input_same some)

  given-lines : given ≤ length whole_lines
  given-lines =
      subst (λ n. given ≤ n) (sym (length-rank_lines 1 (scanned_rows test limit whole_input)))
      (go limit (map (answer_for test.catalogue test.block) (answers whole_input)) within
      (let same = length-map (answers whole_input) (answer_for test.catalogue test.block) in let some = given-some in omega arith))
    where
      go : (limit : Option ℕ) (all : List Answer) → given < most_asks limit → given ≤ length all → given ≤ length (cut limit all)
      go None all within some = some
      go (Some limit) all within some = omega (arith, length-take limit all)

  asks-more : suc given ≤ scan_asks limit whole_input
  asks-more = asks-within limit given (length (answers whole_input)) within given-some

  -- the next ask was refused
  pub at-refused : (state : ListsState) →
      AreAccessedWithin (scan_input test scan lists) (depth (scan_input test scan lists) (asks_of scan)) (depth (scan_input test scan lists) (suc scan.given)) state →
      AreAccessedFor whole_input (scan_asks limit whole_input) given None state
  at-refused state was =
      let more = asks-more in
      let asked : asks_of scan ≡ given = ap (λ (b : Bool). scan.given + cond b 1 0) at.open_is ∙ add-zero scan.given ∙ at.given_is in
      let low : given ≡ min given (scan_asks limit whole_input) = omega arith in
      let high : suc given ≡ min (suc given) (scan_asks limit whole_input) = omega arith in
      let over = subst (λ (j : ScanInput). AreAccessedWithin j (depth j (asks_of scan)) (depth j (suc scan.given)) state) at.input_same was in
      let least = subst (λ n. AreAccessedWithin whole_input (depth whole_input n) (depth whole_input (suc scan.given)) state) (asked ∙ low) over in
      subst (λ n. AreAccessedWithin whole_input (depth whole_input (min given (scan_asks limit whole_input))) (depth whole_input n) state) (ap suc at.given_is ∙ high) least

  -- it gave a row
  pub at-taken : (state : ListsState) → AreAccessed (scan_input test scan lists) (suc scan.given) state → AreAccessed whole_input (min (suc given) (scan_asks limit whole_input)) state
  at-taken state taken =
      let more = asks-more in
      let high : suc given ≡ min (suc given) (scan_asks limit whole_input) = omega arith in
      subst (λ n. AreAccessed whole_input n state) (ap suc at.given_is ∙ high) (subst (λ (j : ScanInput). AreAccessed j (suc scan.given) state) at.input_same taken)

  -- the lines up to there
  pub broken-refused : (old new : Outside (List (List ℕ))) (state : ListsState) → HasDone (map Put (take given whole_lines)) (record somebody { out = old }) (record somebody { out = new }) →
      AreAccessedWithin (scan_input test scan lists) (depth (scan_input test scan lists) (asks_of scan)) (depth (scan_input test scan lists) (suc scan.given)) state →
      IsBrokenOff whole_input (scan_asks limit whole_input) whole_lines old new state
  broken-refused old new state has was =
      lines-ended whole_input (scan_asks limit whole_input) (take given whole_lines) whole_lines given old new state given-lines refl (told-lines (take given whole_lines) old new has)
      (at-refused state was)

  pub broken-row : (entry : IsEntry whole_input.entry) (ranked : AreRanked whole_input.lists) (have : HaveWeights whole_input) (row : RankRow) → Some row ≡ slice_get (answers whole_input) given →
      (old middle new : Outside (List (List ℕ))) (state : ListsState) → HasDone (map Put (take given whole_lines)) (record somebody { out = old }) (record somebody { out = middle }) →
      AreAccessed (scan_input test scan lists) (suc scan.given) state → (fault : RunFault) →
      running.Ran run_faults (lines_run (line_of (given + 1) (answer_for test.catalogue test.block row).score (answer_for test.catalogue test.block row).values ∷ [])) (Err fault) (record somebody { out = middle }) (record somebody { out = new }) →
      IsBrokenOff whole_input (scan_asks limit whole_input) whole_lines old new state
  broken-row entry ranked have row e old middle new state has taken fault ran =
      let count : length (take given whole_lines) ≡ given = let some = given-lines in omega (arith, length-take given whole_lines) in
      line-broken whole_input entry ranked have (scan_asks limit whole_input) state (take given whole_lines) (drop (suc given) whole_lines)
      (line_of (given + 1) (answer_for test.catalogue test.block row).score (answer_for test.catalogue test.block row).values) whole_lines
      (split test limit whole_input given row within e) old middle new (told-lines (take given whole_lines) old middle has)
      (subst (λ n. AreAccessed whole_input (min (suc n) (scan_asks limit whole_input)) state) (sym count) (at-taken state taken)) fault ran

-- the line of the accesses was put in part, or not
pub broken-last : (test : BlockTestState) (limit : Option ℕ) (i : ScanInput) → IsEntry i.entry → AreRanked i.lists → HaveWeights i → (line : List ℕ) (old middle new : Outside (List (List ℕ))) (state : ListsState) →
    HasDone (map Put (rank_lines 1 (scanned_rows test limit i))) (record somebody { out = old }) (record somebody { out = middle }) → AreAccessed i (scan_asks limit i) state → (fault : RunFault) →
    running.Ran run_faults (lines_run (line ∷ [])) (Err fault) (record somebody { out = middle }) (record somebody { out = new }) →
    IsBrokenOff i (scan_asks limit i) (rank_lines 1 (scanned_rows test limit i) ++ line ∷ []) old new state
broken-last test limit i entry ranked have line old middle new state has all fault ran =
    let lines = rank_lines 1 (scanned_rows test limit i) in
    line-broken i entry ranked have (scan_asks limit i) state lines [] line (lines ++ line ∷ []) refl old middle new (told-lines lines old middle has)
    (subst (λ n. AreAccessed i n state) (sym (asks-last test limit i)) all) fault ran

-- the only entry of a block
pub only_entry : (entry : ℕ) → entry ≡ 1 → IsEntry entry
only_entry entry is = record { least = omega arith; most = omega arith }

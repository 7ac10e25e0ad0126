-- The rows that a threshold scan of a block gives, one after another, and the line of its accesses.
use Rattle.std.proofs.Common.{ℕ, zero, suc, ◌≡◌, ◌∙◌, ◌+◌, ◌-◌, ◌*◌, ◌^◌, ◌<◌, ◌≤◌, ◌++◌, Bool, true, false, cond, List, [], ◌∷◌, length, map, take, drop, Some, None, refl, sym, ap, subst, inl, inr, arith, add-one, add-zero}
use Rattle.std.specs.Prelude.{Option, Ok, Err, Result, if◌then◌else◌, is_none, is_some, min, option_map, slice_get, ◌⊎◌}
use Rattle.std.specs.List.{filter}
use Rattle.std.proofs.lemmas.List.{length-map, length-take, take-append-drop, take_all}
use Rattle.std.proofs.lemmas.Option.{slice_get-map}
use Rattle.rs_order.specs.Climbing.{In}
use Rattle.rs_order.specs.Schedule.{numbers_from}
use Rattle.rs_order.proofs.ItemFacts.{In-filter-back, In-map-back}
use Rattle.rs_order.proofs.PartFacts.{In-slice_get}
use Rattle.rs_order.proofs.SortingFacts.{In-sorted-back}
use Rattle.rs_lines.specs.Row.{line_of}
use Rattle.rs_rank.specs.declared.answer.Answer.{Answer}
use Rattle.rs_rank.specs.declared.row.RankRow.{RankRow}
use Rattle.rs_rank.specs.declared.scored_row.ScoredRow.{ScoredRow}
use Rattle.rs_rank.specs.Keys.{key_cmp}
use Rattle.rs_catalog.specs.Catalog.{CatalogDef}
use Rattle.rs_catalog.specs.Indexes.{ranking_at}
use Rattle.rs_query.specs.Answers.{cut}
use Rattle.rs_query.specs.Tables.{size_of}
use Rattle.rs_query.specs.declared.block.Block.{Block}
use Rattle.rs_ta.specs.BlockTests.{BlockTestState}
use Rattle.rs_ta.specs.Depths.{ScanInput, answers, depth, ids_at, lookups, row_key, row_of, sights}
use Rattle.rs_ta.specs.Eligible.{answer_for}
use Rattle.rs_ta.specs.IndexLists.{IndexListsState, index_lists_state}
use Rattle.rs_ta.specs.Lists.{AreRanked, IsRow, rows_in, total}
use Rattle.rs_ta.specs.Scans.{AreAccessed, HaveWeights, Scan, Stands, asks_of, scan_after}
use Rattle.rs_ta.proofs.NumberFacts.{In-numbers_from-back}
use Rattle.rs_events.specs.Environment.{Environment}
use Rattle.rs_events.specs.Events.{Event, Put}
use Rattle.rs_events.specs.Run.{lines_run}
use Rattle.rs_events.specs.Running as running
use Rattle.rs_events.specs.Running.{HasDone}
use Rattle.rs_events.proofs.RanFacts.{HasDone-line, Ran-all, Ran-behind, Ran-done, Ran-lines, Ran-longer, Ran-no_memory, map-both}
use Rattle.rs_statement.specs.Lines.{rank_lines}
use Rattle.rs_statement.proofs.PrintFacts.{length-rank_lines}
use Rattle.rs_statement.specs.Planned.{ask_count}
use Rattle.rs_run.specs.declared.fault.RunFault.{RunFault}
use Rattle.rs_run.specs.Faults.{WordsRun, run_faults}
use Rattle.rs_run.specs.Parts.Scanning.{IsAsked, IsBlockRow, IsScanning, accesses_text, most_asks, scan_input, scanned_rows}
use Rattle.rs_run.specs.Threshold.{access_line, scan_asks}

-- a run of words up to its halt
abbrev Ran : WordsRun → Result (Unit {0}) RunFault → Environment → Environment → Type 0
Ran run result old new = running.Ran run_faults run result old new

-- each row of the answer is a row of the only entry
is_row-answer : (i : ScanInput) (row : RankRow) → In row (answers i) → (number : ℕ) × IsRow (rows_in i.lists) number × (row ≡ row_of i number)
is_row-answer i row h =
    let image = In-map-back (row_of i) row (filter i.holds (numbers_from 1 (rows_in i.lists))) (In-sorted-back key_cmp row_key (map (row_of i) (filter i.holds (numbers_from 1 (rows_in i.lists)))) row h) in
    let bounds = In-numbers_from-back 1 (rows_in i.lists) image.source (In-filter-back i.holds image.source (numbers_from 1 (rows_in i.lists)) image.is_in).0 in
    let least = bounds.0 in
    let most = bounds.1 in
    (image.source, record { some = least; within = omega arith }, image.image)

-- the first of some items, as many as LIMIT says at most
slice_get-first : {A : Type 0} (count n : ℕ) (xs : List A) → n < count → slice_get (take count xs) n ≡ slice_get xs n
slice_get-first zero n xs within = absurd (omega arith)
slice_get-first (suc count) n [] within = refl
slice_get-first (suc count) zero (x ∷ xs) within = refl
slice_get-first (suc count) (suc n) (x ∷ xs) within = slice_get-first count n xs (omega arith)

slice_get-cut : {A : Type 0} (limit : Option ℕ) (n : ℕ) (xs : List A) → n < most_asks limit → slice_get (cut limit xs) n ≡ slice_get xs n
slice_get-cut None n xs within = refl
slice_get-cut (Some limit) n xs within = slice_get-first limit n xs within

length-cut : {A : Type 0} (limit : Option ℕ) (n : ℕ) (xs : List A) → (n ≡ most_asks limit) ⊎ (n ≡ length xs) → length xs < 2 ^ 64 - 1 → length (cut limit xs) ≤ n
length-cut None n xs (inl e) few = let most : n ≡ 2 ^ 64 - 1 = e in omega arith
length-cut None n xs (inr e) few = omega arith
length-cut (Some limit) n xs (inl e) few = omega (arith, length-take limit xs)
length-cut (Some limit) n xs (inr e) few = omega (arith, length-take limit xs)

-- the lines of rows: those of the first rows are the first lines
lines-split : (rank n : ℕ) (rows : List Answer) (row : Answer) → slice_get rows n ≡ Some row
    → rank_lines rank rows ≡ take n (rank_lines rank rows) ++ (line_of (rank + n) row.score row.values ∷ drop (suc n) (rank_lines rank rows))
lines-split rank n [] row e = cc
lines-split rank zero (first ∷ rows) row e =
    let same : first ≡ row = cc in
    let at : rank ≡ rank + 0 = omega arith in
    ap (λ (r : Answer). line_of rank r.score r.values ∷ rank_lines (rank + 1) rows) same ∙ ap (λ k. line_of k row.score row.values ∷ rank_lines (rank + 1) rows) at
lines-split rank (suc n) (first ∷ rows) row e =
    let at : rank + 1 + n ≡ rank + suc n = omega arith in
    ap (λ rest. line_of rank first.score first.values ∷ rest)
    (lines-split (rank + 1) n rows row e ∙ ap (λ k. take n (rank_lines (rank + 1) rows) ++ (line_of k row.score row.values ∷ drop (suc n) (rank_lines (rank + 1) rows))) at)

first-lines : (rank n : ℕ) (rows : List Answer) (row : Answer) → slice_get rows n ≡ Some row
    → take (suc n) (rank_lines rank rows) ≡ take n (rank_lines rank rows) ++ line_of (rank + n) row.score row.values ∷ []
first-lines rank n [] row e = cc
first-lines rank zero (first ∷ rows) row e =
    let same : first ≡ row = cc in
    let at : rank ≡ rank + 0 = omega arith in
    ap (λ (r : Answer). line_of rank r.score r.values ∷ []) same ∙ ap (λ k. line_of k row.score row.values ∷ []) at
first-lines rank (suc n) (first ∷ rows) row e =
    let at : rank + 1 + n ≡ rank + suc n = omega arith in
    ap (λ rest. line_of rank first.score first.values ∷ rest)
    (first-lines (rank + 1) n rows row e ∙ ap (λ k. take n (rank_lines (rank + 1) rows) ++ line_of k row.score row.values ∷ []) at)

-- a row that the scan gives, as one of those that are put
module _ (test : BlockTestState) (limit : Option ℕ) (i : ScanInput) where
  abbrev rows : List Answer
  rows = scanned_rows test limit i

  row-at : (given : ℕ) (row : RankRow) → given < most_asks limit → Some row ≡ slice_get (answers i) given → slice_get rows given ≡ Some (answer_for test.catalogue test.block row)
  row-at given row within e =
      slice_get-cut limit given (map (answer_for test.catalogue test.block) (answers i)) within
      ∙ slice_get-map (answer_for test.catalogue test.block) (answers i) given
      ∙ ap (option_map (answer_for test.catalogue test.block)) (sym e)

  module _ (given : ℕ) (row : RankRow) (within : given < most_asks limit) (e : Some row ≡ slice_get (answers i) given) where
    abbrev answer : Answer
    answer = answer_for test.catalogue test.block row

    abbrev line : List ℕ
    line = line_of (given + 1) answer.score answer.values

    rank-is : 1 + given ≡ given + 1
    rank-is = omega arith

    more : take (given + 1) (rank_lines 1 rows) ≡ take given (rank_lines 1 rows) ++ line ∷ []
    more =
        let next : given + 1 ≡ suc given = omega arith in
        ap (λ n. take n (rank_lines 1 rows)) next ∙ first-lines 1 given rows answer (row-at given row within e)
        ∙ ap (λ n. take given (rank_lines 1 rows) ++ line_of n answer.score answer.values ∷ []) rank-is

    pub split : rank_lines 1 rows ≡ take given (rank_lines 1 rows) ++ (line ∷ [] ++ drop (suc given) (rank_lines 1 rows))
    split =
        lines-split 1 given rows answer (row-at given row within e)
        ∙ ap (λ n. take given (rank_lines 1 rows) ++ (line_of n answer.score answer.values ∷ drop (suc given) (rank_lines 1 rows))) rank-is

    -- its line is put behind those before it
    pub lines-more : (old middle new : Environment) → HasDone (map Put (take given (rank_lines 1 rows))) old middle → Ran (lines_run (line ∷ [])) (Ok tt) middle new
        → HasDone (map Put (take (given + 1) (rank_lines 1 rows))) old new
    lines-more old middle new has ran =
        HasDone-line (take (given + 1) (rank_lines 1 rows)) (take given (rank_lines 1 rows)) line old middle new more has ran

    -- or its put ends the run
    pub lines-broken : (fault : RunFault) (old middle new : Environment) → HasDone (map Put (take given (rank_lines 1 rows))) old middle → Ran (lines_run (line ∷ [])) (Err fault) middle new
        → Ran (lines_run (rank_lines 1 rows)) (Err fault) old new
    lines-broken fault old middle new has ran =
        Ran-lines (rank_lines 1 rows) (take given (rank_lines 1 rows)) (drop (suc given) (rank_lines 1 rows)) line fault old middle new split has ran

  -- there was no memory to go on
  pub lines-cut : (given : ℕ) (old new : Environment) → HasDone (map Put (take given (rank_lines 1 rows))) old new → Ran (lines_run (rank_lines 1 rows)) (Err run_faults.memory) old new
  lines-cut given old new has =
      Ran-no_memory (lines_run (rank_lines 1 rows)) (map Put (take given (rank_lines 1 rows))) (map Put (drop given (rank_lines 1 rows))) old new
      (ap (map Put) (sym (take-append-drop given (rank_lines 1 rows))) ∙ map-both Put (take given (rank_lines 1 rows)) (drop given (rank_lines 1 rows))) has

  -- all were put
  pub lines-all : (given : ℕ) (old new : Environment) → (given ≡ most_asks limit) ⊎ (given ≡ length (answers i)) → length (answers i) < 2 ^ 64 - 1
      → HasDone (map Put (take given (rank_lines 1 rows))) old new → Ran (lines_run (rank_lines 1 rows)) (Ok tt) old new
  lines-all given old new ends few has =
      let all = map (answer_for test.catalogue test.block) (answers i) in
      let same : length all ≡ length (answers i) = length-map (answers i) (answer_for test.catalogue test.block) in
      let short : length rows ≤ given = length-cut limit given all (elim ends [ inl e ↦ inl e | inr e ↦ inr (omega arith) ]) (omega arith) in
      let covered : length (rank_lines 1 rows) ≤ given = omega (arith, length-rank_lines 1 rows) in
      Ran-all (lines_run (rank_lines 1 rows)) (Ok tt) old new (subst (λ done. HasDone (map Put done) old new) (take_all given (rank_lines 1 rows) covered) has) refl

-- how often the scan was asked in the end
asks-ended : (limit : Option ℕ) (given rows : ℕ) → given ≡ rows → given < most_asks limit → suc given ≡ ask_count limit rows
asks-ended None given rows e within = ap suc e
asks-ended (Some limit) given rows e within = omega arith

asks-most : (limit : Option ℕ) (given rows : ℕ) → given ≡ most_asks limit → given ≤ rows → rows < 2 ^ 64 - 1 → given ≡ ask_count limit rows
asks-most None given rows e within few = let most : given ≡ 2 ^ 64 - 1 = e in absurd (omega arith)
asks-most (Some limit) given rows e within few = omega arith

-- the scan stands behind its last ask: one that gave none, or the last one that LIMIT allows
module _ (test : BlockTestState) (limit : Option ℕ) (i : ScanInput) (scan : Scan) (lists : IndexListsState) where
  pub asked-ended : (given : ℕ) → given ≡ length (answers i) → given < most_asks limit → scan ≡ scan_after i (suc given) given true → Stands i scan (index_lists_state lists)
      → i.lists ≡ (index_lists_state lists).lists → IsAsked i (scan_asks limit i) scan lists
  asked-ended given ends within after stands same = record {
    stands = stands;
    lists_are = same;
    asks_are = ap asks_of after ∙ add-one given ∙ asks-ended limit given (length (answers i)) ends within;
  }

  pub asked-most : scan.given ≡ most_asks limit → scan.ended ≡ false → length (answers i) < 2 ^ 64 - 1 → Stands i scan (index_lists_state lists)
      → i.lists ≡ (index_lists_state lists).lists → IsAsked i (scan_asks limit i) scan lists
  asked-most most unended few stands same = record {
    stands = stands;
    lists_are = same;
    asks_are = ap (λ (b : Bool). scan.given + cond b 1 0) unended ∙ add-zero scan.given ∙ asks-most limit scan.given (length (answers i)) most stands.within few;
  }

-- no count of rows is near to what can be counted
pub few-answers : (i : ScanInput) → AreRanked i.lists → length (answers i) ≤ rows_in i.lists → length (answers i) < 2 ^ 64 - 1
few-answers i ranked most = let few = ranked.few in omega arith

-- the same lines, written otherwise
pub lines-same : (first others : List (List ℕ)) → first ≡ others → (result : Result (Unit {0}) RunFault) (old new : Environment) → Ran (lines_run first) result old new → Ran (lines_run others) result old new
lines-same first others same result old new ran = subst (λ (lines : List (List ℕ)). Ran (lines_run lines) result old new) same ran

-- lines behind which others are put
module _ (first more : List (List ℕ)) (old middle new : Environment) where
  pub lines-then : (result : Result (Unit {0}) RunFault) → Ran (lines_run first) (Ok tt) old middle → Ran (lines_run more) result middle new → Ran (lines_run (first ++ more)) result old new
  lines-then result done ran =
      subst (λ (events : List Event). Ran (record { events = events; fault = None }) result old new) (sym (map-both Put first more))
      (Ran-behind (map Put first) (lines_run more) result old middle new (Ran-done (lines_run first) old middle done).has ran)

  pub lines-stop : (fault : RunFault) → Ran (lines_run first) (Err fault) old new → Ran (lines_run (first ++ more)) (Err fault) old new
  lines-stop fault ran =
      subst (λ (events : List Event). Ran (record { events = events; fault = None }) (Err fault) old new) (sym (map-both Put first more))
      (Ran-longer (map Put first) (lines_run more) fault old new ran)

-- the sums of accesses that lists count
module _ (i : ScanInput) (asks : ℕ) (scan : Scan) (lists : IndexListsState) (is : IsAsked i asks scan lists) where
  pub unspent : scan.spent ≡ false
  unspent = ap (λ (s : Scan). s.spent) is.stands.scan_is

  places-are : scan.rounds ≡ depth i asks
  places-are = ap (λ (s : Scan). s.rounds) is.stands.scan_is ∙ ap (depth i) is.asks_are

  pub accessed : AreAccessed i asks (index_lists_state lists)
  accessed = subst (λ asks. AreAccessed i asks (index_lists_state lists)) is.asks_are is.stands.accessed

  count-lists : length lists.indexes ≡ length i.lists
  count-lists = sym (length-map lists.indexes (ranking_at lists.catalogue)) ∙ ap (λ (all : List (List ScoredRow)). length all) (sym is.lists_are)

  pub line-is : (sorted random : ℕ) → AreRanked (index_lists_state lists).lists
      → sorted ≡ min (total (length lists.indexes) (index_lists_state lists).sorted_count) (2 ^ 64 - 1)
      → random ≡ min (total (length lists.indexes) (index_lists_state lists).random_count) (2 ^ 64 - 1)
      → (total (length i.lists) (index_lists_state lists).sorted_count ≡ length i.lists * depth i asks)
      → (total (length i.lists) (index_lists_state lists).random_count ≡ total (length i.lists) (lookups (sights i.lists (depth i asks))))
      → length i.lists * depth i asks ≤ 8 * rows_in i.lists
      → total (length i.lists) (lookups (sights i.lists (depth i asks))) ≤ 8 * rows_in i.lists
      → accesses_text scan.rounds sorted random ≡ access_line i asks
  line-is sorted random ranked sorted_is random_is all_sorted all_random few_sorted few_random =
      let few : rows_in i.lists < 2 ^ 32 = subst (λ (all : List (List ScoredRow)). rows_in all < 2 ^ 32) (sym is.lists_are) ranked.few in
      let sorted_same : sorted ≡ length i.lists * depth i asks =
      uncapped sorted _ _ (sorted_is ∙ ap (λ n. min (total n (index_lists_state lists).sorted_count) (2 ^ 64 - 1)) count-lists) all_sorted (omega arith) in
      let random_same : random ≡ total (length i.lists) (lookups (sights i.lists (depth i asks))) =
      uncapped random _ _ (random_is ∙ ap (λ n. min (total n (index_lists_state lists).random_count) (2 ^ 64 - 1)) count-lists) all_random (omega arith) in
      ap (λ n. accesses_text n sorted random) places-are ∙ ap (λ n. accesses_text (depth i asks) n random) sorted_same ∙ ap (λ n. accesses_text (depth i asks) (length i.lists * depth i asks) n) random_same where
        uncapped : (n sum known : ℕ) → n ≡ min sum (2 ^ 64 - 1) → sum ≡ known → known ≤ 2 ^ 64 - 1 → n ≡ known
        uncapped n sum known e same small = omega arith

-- a scan of a block that gave this many rows and goes on, begun as the first one
pub record IsAt (test : BlockTestState) (first : Scan) (first_lists : IndexListsState) (given : ℕ) (scan : Scan) (lists : IndexListsState) : Type 0 where
  pub given_is : scan.given ≡ given
  pub open_is : scan.ended ≡ false
  pub scanning : IsScanning test scan lists
  pub input_same : scan_input test scan lists ≡ scan_input test first first_lists
  pub lists_same : (index_lists_state lists).lists ≡ (index_lists_state first_lists).lists

module _ (test : BlockTestState) (first : Scan) (first_lists : IndexListsState) (given : ℕ) (scan : Scan) (lists : IndexListsState) (at : IsAt test first first_lists given scan lists) where
  -- it is asked once more, and what it gives is the next row of the whole
  module _ (found : Option RankRow) (new : Scan) (new_lists : IndexListsState)
      (row_is : found ≡ slice_get (answers (scan_input test scan lists)) scan.given)
      (after : new ≡ scan_after (scan_input test scan lists) (suc scan.given) (if is_some found then scan.given + 1 else scan.given) (is_none found))
      (stands : Stands (scan_input test scan lists) new (index_lists_state new_lists))
      (input_is : scan_input test new new_lists ≡ scan_input test scan lists)
      (lists_are : (index_lists_state new_lists).lists ≡ (index_lists_state lists).lists) where
    pub next-is : found ≡ slice_get (answers (scan_input test first first_lists)) given
    next-is = row_is ∙ ap (λ (i : ScanInput). slice_get (answers i) scan.given) at.input_same ∙ ap (slice_get (answers (scan_input test first first_lists))) at.given_is

    pub at-more : (row : RankRow) → found ≡ Some row → IsAt test first first_lists (given + 1) new new_lists
    at-more row e =
        let own : new ≡ scan_after (scan_input test scan lists) (suc scan.given) (scan.given + 1) false =
        after ∙ ap (λ (f : Option RankRow). scan_after (scan_input test scan lists) (suc scan.given) (if is_some f then scan.given + 1 else scan.given) (is_none f)) e in record {
          given_is = ap (λ (s : Scan). s.given) own ∙ ap (λ n. n + 1) at.given_is;
          open_is = ap (λ (s : Scan). s.ended) own;
          scanning = record {
            entry_is = ap (λ (s : Scan). s.entry) own ∙ at.scanning.entry_is;
            block_is = ap (λ (s : Scan). s.block) own ∙ at.scanning.block_is;
            stands = subst (λ (i : ScanInput). Stands i new (index_lists_state new_lists)) (sym input_is) stands;
            have = subst (λ (i : ScanInput). HaveWeights i) (sym input_is) at.scanning.have;
            same_rows = at.scanning.same_rows ∙ ap rows_in (sym lists_are);
          };
          input_same = input_is ∙ at.input_same;
          lists_same = lists_are ∙ at.lists_same;
        }

    -- or there was none: all were given
    pub at-ended : (limit : Option ℕ) → found ≡ None → scan.given ≡ length (answers (scan_input test scan lists)) → given < most_asks limit
        → IsAsked (scan_input test first first_lists) (scan_asks limit (scan_input test first first_lists)) new new_lists
    at-ended limit e ends within =
        let i = scan_input test first first_lists in
        let own : new ≡ scan_after i (suc given) given true =
        after ∙ ap (λ (f : Option RankRow). scan_after (scan_input test scan lists) (suc scan.given) (if is_some f then scan.given + 1 else scan.given) (is_none f)) e
        ∙ ap (λ (i : ScanInput). scan_after i (suc scan.given) scan.given true) at.input_same ∙ ap (λ n. scan_after i (suc n) n true) at.given_is in
        let all : given ≡ length (answers i) = sym at.given_is ∙ ends ∙ ap (λ (i : ScanInput). length (answers i)) at.input_same in
        asked-ended test limit i new new_lists given all within own (subst (λ (i : ScanInput). Stands i new (index_lists_state new_lists)) at.input_same stands)
        (sym (lists_are ∙ at.lists_same))

  -- it was asked as often as LIMIT says
  pub at-most : (limit : Option ℕ) → given ≡ most_asks limit → length (answers (scan_input test first first_lists)) < 2 ^ 64 - 1
      → IsAsked (scan_input test first first_lists) (scan_asks limit (scan_input test first first_lists)) scan lists
  at-most limit most few =
      asked-most test limit (scan_input test first first_lists) scan lists (at.given_is ∙ most) at.open_is few
      (subst (λ (i : ScanInput). Stands i scan (index_lists_state lists)) at.input_same at.scanning.stands) (sym at.lists_same)

  -- the row that it gives is one of the block
  pub at-row : (catalogue : CatalogDef) (block : Block) → test ≡ record { catalogue = catalogue; block = block } → (row : RankRow)
      → Some row ≡ slice_get (answers (scan_input test scan lists)) scan.given → IsBlockRow catalogue block row
  at-row catalogue block is_test row e =
      let i = scan_input test scan lists in
      let found = is_row-answer i row (In-slice_get scan.given (answers i) row (sym e)) in
      let size : size_of catalogue block 1 ≡ rows_in i.lists = ap (λ (t : BlockTestState). size_of t.catalogue t.block 1) (sym is_test) ∙ at.scanning.same_rows in record {
        number = found.0;
        is_row = subst (λ (rows : ℕ). IsRow rows found.0) (sym size) found.1;
        ids_are = ap (λ (r : RankRow). r.ids) found.2 ∙ ap (λ (block : ℕ). ids_at block scan.entry found.0) at.scanning.block_is ∙ ap (λ (entry : ℕ). ids_at 1 entry found.0) at.scanning.entry_is;
      }

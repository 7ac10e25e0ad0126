-- Where a scan stands: what it keeps allows the next round, and what it keeps after an answer is where it stands then.
use Rattle.std.proofs.Common.{◌≡◌, ℕ, zero, suc, ◌+◌, ◌^◌, ◌<◌, ◌≤◌, Bool, true, false, cond, List, [], ◌∷◌, length, take, drop, map, Option, Some, None, refl, sym, ◌∙◌, ap, subst, arith}
use Rattle.std.specs.Prelude.{is_none, is_some, slice_get}
use Rattle.std.proofs.lemmas.Bool.{false≢true}
use Rattle.std.proofs.lemmas.List.{drop-drop, drop_all, length-map}
use Rattle.std.proofs.lemmas.List.Sorted.{length_permutation}
use Rattle.std.proofs.lemmas.Option.{slice_get_within, slice_get_past}
use Rattle.std.specs.List.{filter}
use Rattle.std.specs.Ordering.{nat_cmp}
use Rattle.rs_order.specs.Last.{last_of}
use Rattle.rs_order.specs.Schedule.{numbers_from}
use Rattle.rs_order.specs.Sorting.{sorted}
use Rattle.rs_order.proofs.ItemFacts.{filter-less}
use Rattle.rs_order.proofs.PartFacts.{slice_get-drop}
use Rattle.rs_order.proofs.SortingFacts.{IsPermutation-sorted}
use Rattle.rs_rank.specs.declared.key.Key.{Key}
use Rattle.rs_rank.specs.declared.row.RankRow.{RankRow}
use Rattle.rs_rank.specs.declared.scored_row.ScoredRow.{ScoredRow}
use Rattle.rs_rank.specs.Keys.{key_cmp}
use Rattle.rs_rank.specs.Weights.{IsWeights}
use Rattle.rs_ta.specs.declared.terms.ScanTerms.{ScanTerms}
use Rattle.rs_ta.specs.Depths.{ScanInput, answers, answers_among, depth, row_key, row_of, rows_shown, sights, thresholds}
use Rattle.rs_ta.specs.Lists.{AreRanked, ListsState, rows_in}
use Rattle.rs_ta.specs.Rounds.{AreSeen, Advanced, CanAdvance, IsInput, SeenState, input_with}
use Rattle.rs_ta.specs.Scans.{AreAccessed, AreAccessedWithin, AreLookedUp, HaveWeights, IsEntry, Scan, Stands, asks_of, input_of, scan_after, scan_at}
use Rattle.rs_ta.proofs.AdvanceFacts.{advanced-answer, past-sights}
use Rattle.rs_ta.proofs.DepthFacts.{beyond-answers, depth-more, depth-most}
use Rattle.rs_ta.proofs.NumberFacts.{length-numbers_from}

-- what contracts see of a scan
abbrev pub scan_of : ScanTerms → SeenState → Option Key → Bool → Bool → Scan
scan_of terms rows last ended spent = record {
  weights = terms.weights;
  entry = terms.entry;
  block = terms.block;
  seen = rows.seen;
  held = rows.held;
  last = last;
  rounds = rows.rounds;
  given = rows.given;
  ended = ended;
  spent = spent;
}

-- what an answer leaves: the row, the accesses, what is kept, and where the scan stands
pub record Gave (old new : Scan) (state new_state : ListsState) (truth : ℕ → Bool) (row : Option RankRow) : Type 0 where
  pub row_is : row ≡ slice_get (answers (input_of old state truth)) old.given
  pub end : (row ≡ None → old.given ≡ length (answers (input_of old state truth))) × (old.given ≡ length (answers (input_of old state truth)) → row ≡ None)
  pub accessed : AreAccessed (input_of old state truth) (suc old.given) new_state
  pub after : new ≡ scan_after (input_of old state truth) (suc old.given) (cond (is_some row) (old.given + 1) old.given) (is_none row)
  pub stands : Stands (input_of old state truth) new new_state
  pub input : input_of new new_state truth ≡ input_of old state truth

-- there are no more answers than rows
pub answers-few : (i : ScanInput) → length (answers i) ≤ rows_in i.lists
answers-few i =
    let numbers = numbers_from 1 (rows_in i.lists) in
    let kept = filter-less i.holds numbers in
    let count = length-numbers_from 1 (rows_in i.lists) in
    let images = length-map (filter i.holds numbers) (row_of i) in
    let moved = length_permutation (map (row_of i) (filter i.holds numbers)) (answers i) (IsPermutation-sorted key_cmp row_key (map (row_of i) (filter i.holds numbers))) in
    omega arith

module _ (terms : ScanTerms) (state : ListsState) (truth : ℕ → Bool) (test_rows : ℕ) (input : IsInput (input_with terms state truth) test_rows) where
  abbrev i : ScanInput
  i = input_with terms state truth

  abbrev asks : SeenState → Bool → ℕ
  asks rows ended = rows.given + cond ended 1 0

  -- an ask more takes as many places at least
  asks-least : (rows : SeenState) (ended : Bool) → depth i rows.given ≤ depth i (asks rows ended)
  asks-least rows true =
      let e : suc rows.given ≡ rows.given + 1 = omega arith in
      subst (λ n. depth i rows.given ≤ depth i n) e (depth-more i input.entry input.ranked input.have rows.given)
  asks-least rows false =
      let e : rows.given ≡ rows.given + 0 = omega arith in
      subst (λ n. depth i rows.given ≤ depth i n) e (omega arith)

  asks-most : (rows : SeenState) (ended : Bool) → depth i (asks rows ended) ≤ depth i (suc rows.given)
  asks-most rows true =
      let e : suc rows.given ≡ rows.given + 1 = omega arith in
      subst (λ n. depth i n ≤ depth i (suc rows.given)) e (omega arith)
  asks-most rows false =
      let e : rows.given ≡ rows.given + 0 = omega arith in
      subst (λ n. depth i n ≤ depth i (suc rows.given)) e (depth-more i input.entry input.ranked input.have rows.given)

  -- where it stands it can go on
  pub stands-can : (rows : SeenState) (last : Option Key) (ended spent : Bool) → Stands i (scan_of terms rows last ended spent) state → CanAdvance i rows last state
  stands-can rows last ended spent at =
      let is = at.scan_is in
      let rounds : rows.rounds ≡ depth i (asks rows ended) = ap (λ (s : Scan). s.rounds) is in
      let within = depth-most i (asks rows ended) in
      let least = asks-least rows ended in
      let most = asks-most rows ended in
      let inside : rows.rounds ≤ rows_in i.lists = omega arith in
      record {
        between = record {
          seen = subst (λ n. AreSeen i (sights i.lists n) rows) (sym rounds) (record {
            seen = ap (λ (s : Scan). s.seen) is;
            held = ap (λ (s : Scan). s.held) is;
            beyond = λ row is_row none holds.
                beyond-answers i input.entry input.ranked input.have rows.given (depth i (asks rows ended)) (sights i.lists (depth i (asks rows ended)))
                (past-sights i input.ranked (depth i (asks rows ended)) within) within least row is_row none;
          });
          sorted_are = λ number is_list. at.accessed.sorted number is_list ∙ sym rounds;
          looked = subst (λ n. AreLookedUp i state (sights i.lists n)) (sym rounds) at.accessed.random;
          within = inside;
        };
        last_is = ap (λ (s : Scan). s.last) is ∙ ap (λ n. last_of (take n (thresholds i))) (sym rounds);
        least = omega arith;
        most = omega arith;
      }

  -- so many answers are given that one more can be counted
  pub given-few : (rows : SeenState) (last : Option Key) (ended spent : Bool) → Stands i (scan_of terms rows last ended spent) state → (new : SeenState) (new_last : Option Key) (new_state : ListsState) → Advanced i rows new new_last new_state →
      new.given + 1 < 2 ^ 64
  given-few rows last ended spent at new new_last new_state advanced =
      let within = at.within in
      let few = answers-few i in
      let small = input.ranked.few in
      let given = advanced.given_are in
      omega arith

  module _ (rows : SeenState) (last : Option Key) (ended spent : Bool) (at : Stands i (scan_of terms rows last ended spent) state)
      (new : SeenState) (new_last : Option Key) (new_state : ListsState) (advanced : Advanced i rows new new_last new_state)
      (row : Option RankRow) (row_is : row ≡ slice_get new.held 0) where
    -- what is left once the row is given
    abbrev left : SeenState
    left = record new { held = drop 1 new.held; given = cond (is_some row) (new.given + 1) new.given }

    abbrev after : Scan
    after = scan_of terms left new_last (is_none row) spent

    pub gives-row : row ≡ slice_get (answers i) rows.given
    gives-row = row_is ∙ advanced-answer i test_rows input rows new new_last new_state advanced

    exact : new.rounds ≡ depth i (suc rows.given)
    exact = advanced.exact ∙ ap (λ n. depth i (suc n)) advanced.given_are

    pub gives-accessed : AreAccessed i (suc rows.given) new_state
    gives-accessed = record {
      sorted = λ number is. advanced.between.sorted_are number is ∙ exact;
      random = subst (λ n. AreLookedUp i new_state (sights i.lists n)) exact advanced.between.looked;
    }

    -- all answers, and those that are left
    abbrev known : List RankRow
    known = answers_among i (rows_shown (sights i.lists new.rounds))

    held-left : (given : Option RankRow) → given ≡ slice_get known new.given → drop 1 (drop new.given known) ≡ drop (cond (is_some given) (new.given + 1) new.given) known
    held-left (Some first) e = drop-drop 1 new.given known
    held-left None e =
        let past : length known ≤ new.given = none-past known new.given (sym e) in
        let nothing : drop new.given known ≡ [] = drop_all new.given known past in
        ap (drop 1) nothing ∙ sym nothing
      where
        none-past : (xs : List RankRow) (n : ℕ) → slice_get xs n ≡ None → length xs ≤ n
        none-past [] n e = omega arith
        none-past (x ∷ xs) zero e = cc
        none-past (x ∷ xs) (suc n) e = let le = none-past xs n e in omega arith

    row-known : row ≡ slice_get known new.given
    row-known = row_is ∙ ap (λ held. slice_get held 0) advanced.between.seen.held ∙ sym (slice_get-drop new.given known)

    alive : spent ≡ false
    alive = ap (λ (s : Scan). s.spent) at.scan_is

    pub gives-scan : after ≡ scan_after i (suc rows.given) (cond (is_some row) (rows.given + 1) rows.given) (is_none row)
    gives-scan =
        let given : cond (is_some row) (new.given + 1) new.given ≡ cond (is_some row) (rows.given + 1) rows.given = ap (λ n. cond (is_some row) (n + 1) n) advanced.given_are in
        let held : drop 1 new.held ≡ drop (cond (is_some row) (new.given + 1) new.given) known = ap (drop 1) advanced.between.seen.held ∙ held-left row row-known in
        ap (λ (seen : List ℕ). record after { seen = seen }) advanced.between.seen.seen
        ∙ ap (λ (held : List RankRow). record after { seen = sorted nat_cmp (λ row. row) (rows_shown (sights i.lists new.rounds)); held = held }) held
        ∙ ap (λ (l : Option Key). record after { seen = sorted nat_cmp (λ row. row) (rows_shown (sights i.lists new.rounds)); held = drop (cond (is_some row) (new.given + 1) new.given) known; last = l }) advanced.last_is
        ∙ ap (λ (b : Bool). record (scan_at i (sights i.lists new.rounds) new.rounds (cond (is_some row) (new.given + 1) new.given) (is_none row)) { spent = b }) alive
        ∙ ap (λ (n : ℕ). scan_at i (sights i.lists n) n (cond (is_some row) (new.given + 1) new.given) (is_none row)) exact
        ∙ ap (λ (n : ℕ). scan_at i (sights i.lists (depth i (suc rows.given))) (depth i (suc rows.given)) n (is_none row)) given

    -- how often it was asked then
    asks-after : (given : Option RankRow) → cond (is_some given) (new.given + 1) new.given + cond (is_none given) 1 0 ≡ suc rows.given
    asks-after (Some first) = let given = advanced.given_are in omega arith
    asks-after None = let given = advanced.given_are in omega arith

    pub gives-end : (row ≡ None → rows.given ≡ length (answers i)) × (rows.given ≡ length (answers i) → row ≡ None)
    gives-end =
        let within = at.within in (
          λ none. go row gives-row none,
          λ all. gives-row ∙ slice_get_past (answers i) rows.given (omega arith),
        )
      where
        past : (xs : List RankRow) (n : ℕ) → slice_get xs n ≡ None → length xs ≤ n
        past [] n e = omega arith
        past (x ∷ xs) zero e = cc
        past (x ∷ xs) (suc n) e = let le = past xs n e in omega arith

        go : (given : Option RankRow) → given ≡ slice_get (answers i) rows.given → given ≡ None → rows.given ≡ length (answers i)
        go given e none = let within = at.within in let le = past (answers i) rows.given (sym e ∙ none) in omega arith

    within-after : (given : Option RankRow) → given ≡ slice_get (answers i) rows.given → cond (is_some given) (new.given + 1) new.given ≤ length (answers i)
    within-after (Some first) e = let given = advanced.given_are in let inside = slice_get_within (answers i) rows.given first (sym e) in omega arith
    within-after None e = let given = advanced.given_are in let within = at.within in omega arith

    ended-after : (given : Option RankRow) → given ≡ slice_get (answers i) rows.given → (given ≡ None → rows.given ≡ length (answers i)) → is_none given ≡ true → cond (is_some given) (new.given + 1) new.given ≡ length (answers i)
    ended-after (Some first) e all missing = absurd (false≢true missing)
    ended-after None e all missing = advanced.given_are ∙ all refl

    pub gives-stands : Stands i after new_state
    gives-stands =
        let same = asks-after row in record {
          scan_is =
              gives-scan
              ∙ ap (λ (n : ℕ). scan_after i (suc rows.given) (cond (is_some row) (n + 1) n) (is_none row)) (sym advanced.given_are)
              ∙ ap (λ (n : ℕ). scan_after i n (cond (is_some row) (new.given + 1) new.given) (is_none row)) (sym same);
          accessed = subst (λ n. AreAccessed i n new_state) (sym same) gives-accessed;
          within = within-after row gives-row;
          ended = ended-after row gives-row gives-end.0;
        }

    -- all of it at once, for what is kept then
    pub gives-all : new_state.lists ≡ state.lists → (kept : SeenState) → kept ≡ left → (over : Bool) → over ≡ is_none row →
        Gave (scan_of terms rows last ended spent) (scan_of terms kept new_last over spent) state new_state truth row
    gives-all lists kept kept_is over over_is =
        subst (λ (l : SeenState). Gave (scan_of terms rows last ended spent) (scan_of terms l new_last over spent) state new_state truth row) (sym kept_is)
        (subst (λ (b : Bool). Gave (scan_of terms rows last ended spent) (scan_of terms left new_last b spent) state new_state truth row) (sym over_is)
        (record {
          row_is = gives-row;
          end = gives-end;
          accessed = gives-accessed;
          after = gives-scan;
          stands = gives-stands;
          input = ap (λ (lists : List (List ScoredRow)). record i { lists = lists }) lists;
        }))

-- the same for a scan as contracts see it
module _ (terms : ScanTerms) (rows : SeenState) (last : Option Key) (ended spent : Bool) (scan : Scan) (state : ListsState) (truth : ℕ → Bool) (test_rows : ℕ)
    (view : scan_of terms rows last ended spent ≡ scan) (ranked : AreRanked state.lists) (weights : IsWeights terms.weights) (entry : IsEntry terms.entry)
    (same_rows : test_rows ≡ rows_in state.lists) (have : HaveWeights (input_of scan state truth)) (at : Stands (input_of scan state truth) scan state) where
  pub next-input : IsInput (input_with terms state truth) test_rows
  next-input = record {
    ranked = ranked;
    weights = weights;
    entry = entry;
    have = subst (λ (s : Scan). HaveWeights (input_of s state truth)) (sym view) have;
    same_rows = same_rows;
  }

  next-stands : Stands (input_with terms state truth) (scan_of terms rows last ended spent) state
  next-stands = subst (λ (s : Scan). Stands (input_of s state truth) s state) (sym view) at

  pub next-can : CanAdvance (input_with terms state truth) rows last state
  next-can = stands-can terms state truth test_rows next-input rows last ended spent next-stands

  -- a call that was refused
  pub next-refused : (new_state : ListsState) → AreAccessedWithin (input_with terms state truth) rows.rounds (depth (input_with terms state truth) (suc rows.given)) new_state →
      AreAccessedWithin (input_of scan state truth) (depth (input_of scan state truth) (asks_of scan)) (depth (input_of scan state truth) (suc scan.given)) new_state
  next-refused new_state within =
      subst (λ (s : Scan). AreAccessedWithin (input_of s state truth) (depth (input_of s state truth) (asks_of s)) (depth (input_of s state truth) (suc s.given)) new_state) view
      (subst (λ n. AreAccessedWithin (input_with terms state truth) n (depth (input_with terms state truth) (suc rows.given)) new_state)
      (ap (λ (s : Scan). s.rounds) next-stands.scan_is) within)

  module _ (new : SeenState) (new_last : Option Key) (new_state : ListsState) (advanced : Advanced (input_with terms state truth) rows new new_last new_state) where
    pub next-few : new.given + 1 < 2 ^ 64
    next-few = given-few terms state truth test_rows next-input rows last ended spent next-stands new new_last new_state advanced

    pub next-gave : (row : Option RankRow) → row ≡ slice_get new.held 0 → new_state.lists ≡ state.lists → (kept : SeenState) →
        kept ≡ record new { held = drop 1 new.held; given = cond (is_some row) (new.given + 1) new.given } → (over : Bool) → over ≡ is_none row →
        Gave scan (scan_of terms kept new_last over spent) state new_state truth row
    next-gave row row_is lists kept kept_is over over_is =
        subst (λ (s : Scan). Gave s (scan_of terms kept new_last over spent) state new_state truth row) view
        (gives-all terms state truth test_rows next-input rows last ended spent next-stands new new_last new_state advanced row row_is lists kept kept_is over over_is)

-- Rounds one after another, up to the depth of the next answer; and the answer that is given there.
use Rattle.std.proofs.Common.{◌≡◌, ℕ, zero, suc, ◌-◌, ◌<◌, ◌≤◌, Bool, true, false, List, [], ◌∷◌, take, drop, map, Option, Some, None, refl, sym, ◌∙◌, ap, subst, arith}
use Rattle.std.specs.Prelude.{slice_get}
use Rattle.std.proofs.lemmas.Bool.{false≢true, not-true, not-false}
use Rattle.std.proofs.lemmas.List.{drop-map}
use Rattle.std.specs.Ordering.{is_gt}
use Rattle.rs_order.specs.Last.{last_of}
use Rattle.rs_order.proofs.PartFacts.{last_of-take, slice_get-drop}
use Rattle.rs_rank.specs.declared.key.Key.{Key}
use Rattle.rs_rank.specs.declared.row.RankRow.{RankRow}
use Rattle.rs_rank.specs.Keys.{key_cmp}
use Rattle.rs_ta.specs.declared.terms.ScanTerms.{ScanTerms}
use Rattle.rs_ta.specs.Depths.{ScanInput, Sight, answers, answers_among, depth, row_of, rows_shown, sights, threshold, thresholds}
use Rattle.rs_ta.specs.Lists.{AreRanked, ListsState, rows_in}
use Rattle.rs_ta.specs.Rounds.{AreBetween, AreSeen, Advanced, CanAdvance, IsAtEnd, IsInput, SeenState, WasRefused, WentOn, input_with, is_reached}
use Rattle.rs_ta.specs.Scans.{AreAccessedWithin}
use Rattle.rs_ta.proofs.DepthFacts.{IsPast, answers-ranked, depth-most, first-depth, length-thresholds, next-answer, not_reached-depth, number_key, ranked, reached-depth, thresholds-at}
use Rattle.rs_ta.proofs.ExtensionFacts.{accessed-wider}
use Rattle.rs_ta.proofs.RoundFacts.{same-input}
use Rattle.rs_ta.proofs.SightFacts.{In-shown, In-shown-back, rows-sights}

-- whole rounds cover themselves
pub past-sights : (i : ScanInput) → AreRanked i.lists → (places : ℕ) → places ≤ rows_in i.lists → IsPast i places (sights i.lists places)
past-sights i are places within = record {
  covers = λ row h. In-shown row (sights i.lists places) h;
  are_rows = λ row h. rows-sights (rows_in i.lists) places i.lists within are.each row (In-shown-back row (sights i.lists places) h);
}

-- the first row held is reached
pub record IsFirstReached (i : ScanInput) (last : Key) (rows : List ℕ) (asks : ℕ) : Type 0 where
  pub row : ℕ
  pub there : slice_get rows asks ≡ Some row
  pub reached : is_gt (key_cmp (number_key i row) last) ≡ false

reached-first : (i : ScanInput) (last : Key) (asks : ℕ) (rows : List ℕ) → is_reached (Some last) (map (row_of i) (drop asks rows)) ≡ true → IsFirstReached i last rows asks
reached-first i last zero [] e = absurd (false≢true e)
reached-first i last zero (row ∷ rows) e = record { row = row; there = refl; reached = not-true (is_gt (key_cmp (number_key i row) last)) e }
reached-first i last (suc asks) [] e = absurd (false≢true e)
reached-first i last (suc asks) (row ∷ rows) e =
    let first = reached-first i last asks rows e in
    record { row = first.row; there = first.there; reached = first.reached }

reached-none : (i : ScanInput) (last : Key) (asks : ℕ) (rows : List ℕ) → is_reached (Some last) (map (row_of i) (drop asks rows)) ≡ false → (row : ℕ) → slice_get rows asks ≡ Some row → is_gt (key_cmp (number_key i row) last) ≡ true
reached-none i last zero [] e row there = cc
reached-none i last zero (first ∷ rows) e row there =
    let same : first ≡ row = cc in
    subst (λ r. is_gt (key_cmp (number_key i r) last) ≡ true) same (not-false (is_gt (key_cmp (number_key i first) last)) e)
reached-none i last (suc asks) [] e row there = cc
reached-none i last (suc asks) (first ∷ rows) e row there = reached-none i last asks rows e row there

is_reached-none : (held : List RankRow) → is_reached None held ≡ false
is_reached-none [] = refl
is_reached-none (row ∷ rest) = refl

module _ (i : ScanInput) (test_rows : ℕ) (input : IsInput i test_rows) where
  -- the rows held, by their numbers
  held-ranked : (shown : List Sight) (rows : SeenState) → AreSeen i shown rows → rows.held ≡ map (row_of i) (drop rows.given (ranked i (rows_shown shown)))
  held-ranked shown rows are = are.held ∙ ap (drop rows.given) (answers-ranked i (rows_shown shown)) ∙ drop-map (row_of i) rows.given (ranked i (rows_shown shown))

  -- the last threshold after some rounds
  last-is : (p : ℕ) → suc p ≤ rows_in i.lists → last_of (take (suc p) (thresholds i)) ≡ Some (threshold i p)
  last-is p within =
      let count = length-thresholds i input.entry input.ranked input.have in
      last_of-take p (thresholds i) (threshold i p) (omega arith) ∙ ap Some (thresholds-at i input.entry input.ranked input.have p (threshold i p) (omega arith))

  -- where the first row held is reached this is the depth of the next answer
  reached-at : (p : ℕ) (rows : SeenState) → AreSeen i (sights i.lists (suc p)) rows → suc p ≤ rows_in i.lists → is_reached (Some (threshold i p)) rows.held ≡ true → depth i (suc rows.given) ≤ suc p
  reached-at p rows are within e =
      let first = reached-first i (threshold i p) rows.given (ranked i (rows_shown (sights i.lists (suc p)))) (ap (is_reached (Some (threshold i p))) (sym (held-ranked (sights i.lists (suc p)) rows are)) ∙ e) in
      reached-depth i input.entry input.ranked input.have rows.given p first.row (sights i.lists (suc p)) (past-sights i input.ranked (suc p) within) (omega arith) first.there first.reached

  pub advanced-reached : (rows : SeenState) (last : Option Key) (state : ListsState) → CanAdvance i rows last state → is_reached last rows.held ≡ true → rows.rounds ≡ depth i (suc rows.given)
  advanced-reached rows last state can e = go rows.rounds refl
    where
      go : (rounds : ℕ) → rows.rounds ≡ rounds → rows.rounds ≡ depth i (suc rows.given)
      go zero is =
          let none : last ≡ None = can.last_is ∙ ap (λ n. last_of (take n (thresholds i))) is in
          absurd (false≢true (sym (is_reached-none rows.held) ∙ ap (λ l. is_reached l rows.held) (sym none) ∙ e))
      go (suc p) is =
          let within = can.between.within in
          let most = can.most in
          let inside : suc p ≤ rows_in i.lists = omega arith in
          let last_at : last ≡ Some (threshold i p) = can.last_is ∙ ap (λ n. last_of (take n (thresholds i))) is ∙ last-is p inside in
          let deep = reached-at p rows (subst (λ n. AreSeen i (sights i.lists n) rows) is can.between.seen) inside (ap (λ l. is_reached l rows.held) (sym last_at) ∙ e) in
          omega arith

  -- where it isn't, and there is a further place, one more round is due
  more-due : (rows : SeenState) (last : Option Key) (state : ListsState) → CanAdvance i rows last state → is_reached last rows.held ≡ false → rows.rounds < rows_in i.lists → suc rows.rounds ≤ depth i (suc rows.given)
  more-due rows last state can e inside = go rows.rounds refl
    where
      go : (rounds : ℕ) → rows.rounds ≡ rounds → suc rows.rounds ≤ depth i (suc rows.given)
      go zero is =
          let some = first-depth i input.entry input.ranked input.have rows.given (omega arith) in
          omega arith
      go (suc p) is =
          let least = can.least in
          let last_at : last ≡ Some (threshold i p) = can.last_is ∙ ap (λ n. last_of (take n (thresholds i))) is ∙ last-is p (omega arith) in
          let are : AreSeen i (sights i.lists (suc p)) rows = subst (λ n. AreSeen i (sights i.lists n) rows) is can.between.seen in
          let behind = reached-none i (threshold i p) rows.given (ranked i (rows_shown (sights i.lists (suc p))))
          (ap (is_reached (Some (threshold i p))) (sym (held-ranked (sights i.lists (suc p)) rows are)) ∙ ap (λ l. is_reached l rows.held) (sym last_at) ∙ e) in
          let due = not_reached-depth i input.entry input.ranked input.have rows.given p (sights i.lists (suc p)) (past-sights i input.ranked (suc p) (omega arith)) (omega arith) (omega arith) behind in
          omega arith

  -- after a round it can go on
  pub can-go_on : (rows new : SeenState) (last : Option Key) (state new_state : ListsState) (key : Key) → CanAdvance i rows last state → is_reached last rows.held ≡ false → WentOn i rows new new_state key → CanAdvance i new (Some key) new_state
  can-go_on rows new last state new_state key can e went =
      let due = more-due rows last state can e went.inside in
      let rounds = went.rounds_are in
      let least = can.least in
      let inside = went.inside in
      record {
        between = went.between;
        last_is = ap Some went.threshold_is ∙ sym (last-is rows.rounds (omega arith)) ∙ ap (λ n. last_of (take n (thresholds i))) (sym rounds);
        least = subst (λ n. depth i n ≤ new.rounds) (sym went.given_are) (omega arith);
        most = subst (λ n. new.rounds ≤ depth i (suc n)) (sym went.given_are) (omega arith);
      }

  -- it is through where the first row is reached, and where the lists are at their end
  pub advanced-through : (old rows : SeenState) (last : Option Key) (state : ListsState) → rows.given ≡ old.given → CanAdvance i rows last state → is_reached last rows.held ≡ true → Advanced i old rows last state
  advanced-through old rows last state given can e = record {
    between = can.between;
    last_is = can.last_is;
    given_are = given;
    exact = advanced-reached rows last state can e;
  }

  pub advanced-end : (old rows new : SeenState) (last : Option Key) (state new_state : ListsState) → rows.given ≡ old.given → CanAdvance i rows last state → IsAtEnd i rows new new_state → Advanced i old new last new_state
  advanced-end old rows new last state new_state given can end =
      let deep = depth-most i (suc rows.given) in
      let most = can.most in
      let all = end.all in
      let rounds = end.rounds_are in
      record {
        between = end.between;
        last_is = can.last_is ∙ ap (λ n. last_of (take n (thresholds i))) (sym rounds);
        given_are = end.given_are ∙ given;
        exact = subst (λ n. new.rounds ≡ depth i (suc n)) (sym end.given_are) (omega arith);
      }

  -- the first row held is then the next answer
  pub advanced-answer : (old new : SeenState) (last : Option Key) (state : ListsState) → Advanced i old new last state → slice_get new.held 0 ≡ slice_get (answers i) old.given
  advanced-answer old new last state at =
      let exact = at.exact in
      let within = at.between.within in
      ap (λ held. slice_get held 0) at.between.seen.held
      ∙ sym (slice_get-drop new.given (answers_among i (rows_shown (sights i.lists new.rounds))))
      ∙ next-answer i input.entry input.ranked input.have new.given new.rounds (sights i.lists new.rounds) (past-sights i input.ranked new.rounds within) within (omega arith)
      ∙ ap (slice_get (answers i)) at.given_are

-- where the rounds stand, one after another
pub record Rounding (i : ScanInput) (old rows : SeenState) (last : Option Key) (state : ListsState) : Type 0 where
  pub lists_are : state.lists ≡ i.lists
  pub given_are : rows.given ≡ old.given
  pub rise : old.rounds ≤ rows.rounds
  pub can : CanAdvance i rows last state

module _ (terms : ScanTerms) (first : ListsState) (truth : ℕ → Bool) (test_rows : ℕ) (input : IsInput (input_with terms first truth) test_rows) where
  abbrev over : ScanInput
  over = input_with terms first truth

  again : (state : ListsState) → state.lists ≡ first.lists → over ≡ input_with terms state truth
  again state same = same-input terms first state truth same

  pub rounding-input : (state : ListsState) → state.lists ≡ first.lists → IsInput (input_with terms state truth) test_rows
  rounding-input state same = subst (λ j. IsInput j test_rows) (again state same) input

  pub rounding-between : (old rows : SeenState) (last : Option Key) (state : ListsState) → Rounding over old rows last state → AreBetween (input_with terms state truth) rows state
  rounding-between old rows last state at = subst (λ j. AreBetween j rows state) (again state at.lists_are) at.can.between

  -- one round more
  pub rounding-step : (old rows new : SeenState) (last : Option Key) (state new_state : ListsState) (key : Key) → Rounding over old rows last state → is_reached last rows.held ≡ false → new_state.lists ≡ state.lists →
      WentOn (input_with terms state truth) rows new new_state key → Rounding over old new (Some key) new_state
  rounding-step old rows new last state new_state key at e lists went =
      let went_on : WentOn over rows new new_state key = subst (λ j. WentOn j rows new new_state key) (sym (again state at.lists_are)) went in
      let rounds = went_on.rounds_are in
      let rise = at.rise in
      record {
        lists_are = lists ∙ at.lists_are;
        given_are = went_on.given_are ∙ at.given_are;
        rise = omega arith;
        can = can-go_on over test_rows input rows new last state new_state key at.can e went_on;
      }

  -- and fewer places are left
  pub rounding-nearer : (old rows new : SeenState) (last : Option Key) (state new_state : ListsState) (key : Key) → Rounding over old rows last state → new_state.lists ≡ state.lists →
      WentOn (input_with terms state truth) rows new new_state key → rows_in new_state.lists - new.rounds < rows_in state.lists - rows.rounds
  rounding-nearer old rows new last state new_state key at lists went =
      let inside = went.inside in
      let rounds = went.rounds_are in
      let same : rows_in new_state.lists ≡ rows_in state.lists = ap rows_in lists in
      omega arith

  -- the rounds are through
  pub rounding-through : (old rows : SeenState) (last : Option Key) (state : ListsState) → Rounding over old rows last state → is_reached last rows.held ≡ true → Advanced over old rows last state
  rounding-through old rows last state at e = advanced-through over test_rows input old rows last state at.given_are at.can e

  pub rounding-end : (old rows new : SeenState) (last : Option Key) (state new_state : ListsState) → Rounding over old rows last state → IsAtEnd (input_with terms state truth) rows new new_state → Advanced over old new last new_state
  rounding-end old rows new last state new_state at end =
      advanced-end over test_rows input old rows new last state new_state at.given_are at.can (subst (λ j. IsAtEnd j rows new new_state) (sym (again state at.lists_are)) end)

  -- or a round was refused
  pub rounding-refused : (old rows : SeenState) (last : Option Key) (state new_state : ListsState) → Rounding over old rows last state → is_reached last rows.held ≡ false →
      WasRefused (input_with terms state truth) rows.rounds new_state → AreAccessedWithin over old.rounds (depth over (suc old.given)) new_state
  rounding-refused old rows last state new_state at e was =
      let refused : WasRefused over rows.rounds new_state = subst (λ j. WasRefused j rows.rounds new_state) (sym (again state at.lists_are)) was in
      let due = more-due over test_rows input rows last state at.can e refused.inside in
      accessed-wider over new_state old.rounds rows.rounds (suc rows.rounds) (depth over (suc old.given))
      at.rise (subst (λ n. suc rows.rounds ≤ depth over (suc n)) at.given_are due) refused.within

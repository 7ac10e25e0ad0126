-- A round, list by list.
use Rattle.std.proofs.Common.{◌≡◌, ℕ, zero, suc, ◌+◌, ◌-◌, ◌*◌, ◌^◌, ◌<◌, ◌≤◌, Bool, true, false, cond, eqb, leb, max, List, [], ◌∷◌, length, get_or, drop, map, Option, Some, None, refl, sym, ◌∙◌, ap, subst, inl, inr, arith}
use Rattle.std.specs.Prelude.{IfSome, slice_get}
use Rattle.std.proofs.lemmas.Bool.{cases_eq, cases_order, eq-eqb, le-leb, lt-leb, ne_eqb}
use Rattle.std.proofs.lemmas.List.{drop_all, drop_more}
use Rattle.std.proofs.lemmas.Option.{get_or_from_slice_get, slice_get_within}
use Rattle.std.specs.Option.{option_map}
use Rattle.rs_value.specs.Faults.{raised}
use Rattle.rs_order.proofs.EachFacts.{each-get_or}
use Rattle.rs_rank.specs.declared.key.Key.{Key}
use Rattle.rs_rank.specs.declared.scored_row.ScoredRow.{ScoredRow}
use Rattle.rs_ta.specs.declared.terms.ScanTerms.{ScanTerms}
use Rattle.rs_ta.specs.Depths.{ScanInput, Sight, entry_at, greatest, ids_at, looked_up, sights, weighted_sum}
use Rattle.rs_ta.specs.Lists.{AreRanked, AreSame, IsList, IsRaisedAt, IsRanked, ListsState, list_at, next_entry, pair_of, rows_in}
use Rattle.rs_ta.specs.Rounds.{AreBetween, AreSeen, CanSee, IsAtEnd, IsInput, Saw, SeenState, WasRefused, WentOn, input_with, shown_by}
use Rattle.rs_ta.specs.Scans.{AreLookedUp, AreLookedUpWithin}
use Rattle.rs_ta.proofs.ExtensionFacts.{before-extends, round-extends, within-wider}
use Rattle.rs_ta.proofs.LookupFacts.{list_at-place, share-low, weighted_sum-all, weighted_sum-more}
use Rattle.rs_ta.proofs.SightFacts.{shown_by-all, shown_by-none}

-- the score and the row at a place of a list
abbrev pub score_at : ℕ → List ScoredRow → ℕ
score_at place list = (entry_at place list).score

abbrev pub row_at : ℕ → List ScoredRow → ℕ
row_at place list = (entry_at place list).row

-- while the lists stay, a scan is over the same
pub same-input : (terms : ScanTerms) (first state : ListsState) (truth : ℕ → Bool) → state.lists ≡ first.lists → input_with terms first truth ≡ input_with terms state truth
same-input terms first state truth same = ap (λ (lists : List (List ScoredRow)). record (input_with terms first truth) { lists = lists }) (sym same)

-- nothing more was looked up
looked-same : (i : ScanInput) (state asked : ListsState) (shown : List Sight) → state.lists ≡ i.lists → AreSame state.lists state.random_count asked.random_count → asked.told ≡ state.told →
    AreLookedUp i state shown → AreLookedUp i asked shown
looked-same i state asked shown lists same told looked = record {
  counts = λ number is. same number (subst (λ ls. IsList ls number) (sym lists) is) ∙ looked.counts number is;
  told = subst (λ t. IfSome t (λ told. told ≡ looked_up (length i.lists) shown)) (sym told) looked.told;
}

-- where a round stands behind some lists: of the rows, of what the lists were asked, and of the sum and the greatest row so far
pub record Going (i : ScanInput) (old rows : SeenState) (state : ListsState) (place bound row : ℕ) : Type 0 where
  pub lists_are : state.lists ≡ i.lists
  pub inside : 0 < place → old.rounds < rows_in i.lists
  pub seen : AreSeen i (shown_by i.lists old.rounds place) rows
  pub looked : AreLookedUp i state (shown_by i.lists old.rounds place)
  pub rounds_are : rows.rounds ≡ old.rounds
  pub given_are : rows.given ≡ old.given
  pub counted : (number : ℕ) → IsList i.lists number → state.sorted_count number ≡ cond (leb number place) (suc old.rounds) old.rounds
  pub bound_is : bound + weighted_sum (drop place i.weights.weight) (map (score_at old.rounds) (drop place i.lists)) ≡ weighted_sum i.weights.weight (map (score_at old.rounds) i.lists)
  pub limit : bound ≤ place * 4294967295000000
  pub row_is : max row (greatest (map (row_at old.rounds) (drop place i.lists))) ≡ greatest (map (row_at old.rounds) i.lists)

pub going-start : (i : ScanInput) (old : SeenState) (state : ListsState) → state.lists ≡ i.lists → AreBetween i old state → Going i old old state 0 0 0
going-start i old state lists between = record {
  lists_are = lists;
  inside = λ h. absurd (omega arith);
  seen = subst (λ shown. AreSeen i shown old) (sym (shown_by-none i.lists old.rounds)) between.seen;
  looked = subst (AreLookedUp i state) (sym (shown_by-none i.lists old.rounds)) between.looked;
  rounds_are = refl;
  given_are = refl;
  counted = λ number is.
      let some = is.some in
      let low : 0 < number = omega arith in
      between.sorted_are number is ∙ sym (ap (λ b. cond b (suc old.rounds) old.rounds) (lt-leb number 0 low));
  bound_is = omega arith;
  limit = omega arith;
  row_is = omega arith;
}

-- the list of a place
pub is_list-place : (i : ScanInput) (place : ℕ) → place < length i.lists → IsList i.lists (place + 1)
is_list-place i place within = record { some = omega arith; within = omega arith }

-- a list that isn't asked yet in this round
count-before : (i : ScanInput) (old rows : SeenState) (state : ListsState) (place bound row : ℕ) → Going i old rows state place bound row → place < length i.lists → state.sorted_count (place + 1) ≡ old.rounds
count-before i old rows state place bound row at within =
    let low : place < place + 1 = omega arith in
    at.counted (place + 1) (is_list-place i place within) ∙ ap (λ b. cond b (suc old.rounds) old.rounds) (lt-leb (place + 1) place low)

of_place : (i : ScanInput) (place : ℕ) → AreRanked i.lists → place < length i.lists → IsRanked (rows_in i.lists) (list_at i.lists (place + 1))
of_place i place are within = each-get_or (IsRanked (rows_in i.lists)) i.lists (place + 1 - 1) [] are.each (omega arith)

-- what a sorted access gives
abbrev none_or : Option ScoredRow → Option (ℕ × ℕ)
none_or entry = option_map pair_of entry

map-some : (entry : Option ScoredRow) (score row : ℕ) → none_or entry ≡ Some (score, row) → entry ≡ Some (record { score = score; row = row })
map-some None score row e = cc
map-some (Some e) score row same =
    let pair : (e.score, e.row) ≡ (score, row) = cc in
    let s : e.score ≡ score = ap (λ (p : ℕ × ℕ). p.0) pair in
    let r : e.row ≡ row = ap (λ (p : ℕ × ℕ). p.1) pair in
    ap (λ (n : ℕ). Some (record { score = n; row = e.row })) s ∙ ap (λ (n : ℕ). Some (record { score = score; row = n })) r

map-none : (entry : Option ScoredRow) → none_or entry ≡ None → entry ≡ None
map-none None e = refl
map-none (Some entry) e = cc

none-past : {X : Type 0} (xs : List X) (n : ℕ) → slice_get xs n ≡ None → length xs ≤ n
none-past [] n e = omega arith
none-past (x ∷ xs) zero e = cc
none-past (x ∷ xs) (suc n) e = let le = none-past xs n e in omega arith

-- each of the first lists is counted
counted-more : (number place rounds mid new : ℕ) → rounds < 2 ^ 32 → mid ≡ cond (leb number place) (suc rounds) rounds → new ≡ cond (eqb number (place + 1)) (raised mid) mid → new ≡ cond (leb number (place + 1)) (suc rounds) rounds
counted-more number place rounds mid new small m n = elim (cases_order number (place + 1)) [
  | inl same ↦
      let low : place < number = omega arith in
      let high : number ≤ place + 1 = omega arith in
      let mid_is : mid ≡ rounds = m ∙ ap (λ b. cond b (suc rounds) rounds) (lt-leb number place low) in
      let up : raised rounds ≡ suc rounds = omega arith in
      n
      ∙ ap (λ b. cond b (raised mid) mid) (eq-eqb number (place + 1) same)
      ∙ ap raised mid_is
      ∙ up
      ∙ sym (ap (λ b. cond b (suc rounds) rounds) (le-leb number (place + 1) high))
  | inr other ↦
      let differs : number ≡ place + 1 → ⊥ = λ e. elim other [ inl less ↦ omega arith | inr more ↦ omega arith ] in
      n
      ∙ ap (λ b. cond b (raised mid) mid) (ne_eqb number (place + 1) differs)
      ∙ m
      ∙ ap (λ b. cond b (suc rounds) rounds) (elim other [
        | inl less ↦ let low : number ≤ place = omega arith in let high : number ≤ place + 1 = omega arith in le-leb number place low ∙ sym (le-leb number (place + 1) high)
        | inr more ↦ let low : place < number = omega arith in lt-leb number place low ∙ sym (lt-leb number (place + 1) more)
      ])
]

module _ (i : ScanInput) (test_rows : ℕ) (input : IsInput i test_rows) (old rows : SeenState) (state : ListsState) (place bound row : ℕ) (at : Going i old rows state place bound row) (within : place < length i.lists) where
  -- the entry that a sorted access asks for
  asked_entry : slice_get (list_at state.lists (place + 1)) (state.sorted_count (place + 1)) ≡ slice_get (list_at i.lists (place + 1)) old.rounds
  asked_entry =
      ap (λ ls. slice_get (list_at ls (place + 1)) (state.sorted_count (place + 1))) at.lists_are
      ∙ ap (slice_get (list_at i.lists (place + 1))) (count-before i old rows state place bound row at within)

  -- where it gives none the lists are at their end, and nothing was done
  pub going-end : next_entry state (place + 1) ≡ None → rows_in i.lists ≤ old.rounds
  going-end e =
      let none = map-none (slice_get (list_at i.lists (place + 1)) old.rounds) (ap none_or (sym asked_entry) ∙ e) in
      let past = none-past (list_at i.lists (place + 1)) old.rounds none in
      let of_list = of_place i place input.ranked within in
      let count = of_list.all in
      omega arith

  -- where it gives one it is that at the place of the round
  going-entry : (score shown : ℕ) → next_entry state (place + 1) ≡ Some (score, shown) → slice_get (list_at i.lists (place + 1)) old.rounds ≡ Some (record { score = score; row = shown })
  going-entry score shown e = map-some (slice_get (list_at i.lists (place + 1)) old.rounds) score shown (ap none_or (sym asked_entry) ∙ e)

  pub going-inside : (score shown : ℕ) → next_entry state (place + 1) ≡ Some (score, shown) → old.rounds < rows_in i.lists
  going-inside score shown e =
      let less = slice_get_within (list_at i.lists (place + 1)) old.rounds (record { score = score; row = shown }) (going-entry score shown e) in
      let of_list = of_place i place input.ranked within in
      let count = of_list.all in
      omega arith

  going-shows : (score shown : ℕ) → next_entry state (place + 1) ≡ Some (score, shown) → entry_at old.rounds (list_at i.lists (place + 1)) ≡ record { score = score; row = shown }
  going-shows score shown e =
      get_or_from_slice_get (list_at i.lists (place + 1)) old.rounds (record { score = score; row = shown }) (record { score = 0; row = 0 }) (going-entry score shown e)

  -- so its row can be seen
  pub going-can : (score shown : ℕ) (asked : ListsState) → next_entry state (place + 1) ≡ Some (score, shown) → AreSame state.lists state.random_count asked.random_count → asked.told ≡ state.told →
      CanSee i test_rows (place + 1) shown score rows asked
  going-can score shown asked e same told =
      let one : place + 1 - 1 ≡ place = omega arith in
      let by : shown_by i.lists old.rounds place ≡ shown_by i.lists rows.rounds (place + 1 - 1) =
      ap (λ n. shown_by i.lists n place) (sym at.rounds_are) ∙ ap (shown_by i.lists rows.rounds) (sym one) in
      record {
        input = input;
        is_list = is_list-place i place within;
        place = subst (λ n. n < rows_in i.lists) (sym at.rounds_are) (going-inside score shown e);
        shows = ap (λ n. entry_at n (list_at i.lists (place + 1))) at.rounds_are ∙ going-shows score shown e;
        seen = subst (λ shown. AreSeen i shown rows) by at.seen;
        looked = subst (AreLookedUp i asked) by (looked-same i state asked (shown_by i.lists old.rounds place) at.lists_are same told at.looked);
      }

  -- one list more is counted
  going-counted : (score shown : ℕ) (asked new_state : ListsState) → next_entry state (place + 1) ≡ Some (score, shown) →
      asked.lists ≡ state.lists → IsRaisedAt state.lists (place + 1) state.sorted_count asked.sorted_count → AreSame asked.lists asked.sorted_count new_state.sorted_count →
      (number : ℕ) → IsList i.lists number → new_state.sorted_count number ≡ cond (leb number (place + 1)) (suc old.rounds) old.rounds
  going-counted score shown asked new_state e asked_lists raised_are same number is =
      let in_state : IsList state.lists number = subst (λ ls. IsList ls number) (sym at.lists_are) is in
      let in_asked : IsList asked.lists number = subst (λ ls. IsList ls number) (sym asked_lists) in_state in
      same number in_asked
      ∙ counted-more number place old.rounds (state.sorted_count number) (asked.sorted_count number) (let few = input.ranked.few in let inside = going-inside score shown e in omega arith) (at.counted number is) (raised_are number in_state)

  -- a round that was refused at this list
  pub going-refused : (score shown : ℕ) (asked new_state : ListsState) → next_entry state (place + 1) ≡ Some (score, shown) →
      asked.lists ≡ state.lists → IsRaisedAt state.lists (place + 1) state.sorted_count asked.sorted_count → AreSame asked.lists asked.sorted_count new_state.sorted_count →
      AreLookedUpWithin i new_state (shown_by i.lists rows.rounds (place + 1 - 1)) (shown_by i.lists rows.rounds (place + 1)) → WasRefused i old.rounds new_state
  going-refused score shown asked new_state e asked_lists raised_are same looked = record {
    inside = going-inside score shown e;
    within = record {
      sorted = λ number is.
          one-or-none (leb number (place + 1)) (new_state.sorted_count number) old.rounds (going-counted score shown asked new_state e asked_lists raised_are same number is);
      random = within-wider i new_state
          (sights i.lists old.rounds) (shown_by i.lists old.rounds (place + 1 - 1)) (shown_by i.lists old.rounds (place + 1)) (sights i.lists (suc old.rounds))
          (before-extends i.lists old.rounds (place + 1 - 1)) (round-extends i.lists old.rounds (place + 1))
          (subst (λ n. AreLookedUpWithin i new_state (shown_by i.lists n (place + 1 - 1)) (shown_by i.lists n (place + 1))) at.rounds_are looked);
    };
  }
    where
      one-or-none : (b : Bool) (count rounds : ℕ) → count ≡ cond b (suc rounds) rounds → (rounds ≤ count) × (count ≤ suc rounds)
      one-or-none true count rounds e = (omega arith, omega arith)
      one-or-none false count rounds e = (omega arith, omega arith)

  -- and then the round stands behind one list more
  pub going-on : (score shown product : ℕ) (asked new_state : ListsState) (new : SeenState) → next_entry state (place + 1) ≡ Some (score, shown) → score ≤ 4294967295 →
      asked.lists ≡ state.lists → IsRaisedAt state.lists (place + 1) state.sorted_count asked.sorted_count →
      new_state.lists ≡ asked.lists → AreSame asked.lists asked.sorted_count new_state.sorted_count → Saw i (place + 1) rows new new_state →
      product ≡ get_or i.weights.weight place 0 * score →
      Going i old new new_state (place + 1) (bound + product) (max shown row)
  going-on score shown product asked new_state new e low asked_lists raised_are new_lists same saw product_is =
      let shows = going-shows score shown e in
      let shows_at : entry_at old.rounds (get_or i.lists place []) ≡ record { score = score; row = shown } = ap (entry_at old.rounds) (sym (list_at-place i.lists place)) ∙ shows in
      let score_is : score_at old.rounds (get_or i.lists place []) ≡ score = ap (λ (e : ScoredRow). e.score) shows_at in
      let row_is : row_at old.rounds (get_or i.lists place []) ≡ shown = ap (λ (e : ScoredRow). e.row) shows_at in
      let count = input.weights.weight_count in
      let most = input.ranked.most in
      let product_at : product ≡ get_or i.weights.weight place 0 * score_at old.rounds (get_or i.lists place []) = product_is ∙ ap (λ n. get_or i.weights.weight place 0 * n) (sym score_is) in
      let more = weighted_sum-more (score_at old.rounds) i.weights.weight i.lists place (omega arith) within in
      let whole = at.bound_is in
      let limit = at.limit in
      let small = share-low i.weights place score input.weights (omega arith) low in
      let rounds : new.rounds ≡ old.rounds = saw.rounds_are ∙ at.rounds_are in
      record {
        lists_are = new_lists ∙ asked_lists ∙ at.lists_are;
        inside = λ h. going-inside score shown e;
        seen = subst (λ n. AreSeen i (shown_by i.lists n (place + 1)) new) at.rounds_are saw.seen;
        looked = subst (λ n. AreLookedUp i new_state (shown_by i.lists n (place + 1))) at.rounds_are saw.looked;
        rounds_are = rounds;
        given_are = saw.given_are ∙ at.given_are;
        counted = going-counted score shown asked new_state e asked_lists raised_are same;
        bound_is = omega arith;
        limit = omega arith;
        row_is = greatest-more old.rounds i.lists place row shown within row_is ∙ at.row_is;
      }
    where
      greatest-more : (rounds : ℕ) (lists : List (List ScoredRow)) (place row shown : ℕ) → place < length lists → row_at rounds (get_or lists place []) ≡ shown →
          max (max shown row) (greatest (map (row_at rounds) (drop (place + 1) lists))) ≡ max row (greatest (map (row_at rounds) (drop place lists)))
      greatest-more rounds lists place row shown within is =
          let more : greatest (map (row_at rounds) (drop place lists)) ≡ max (row_at rounds (get_or lists place [])) (greatest (map (row_at rounds) (drop (place + 1) lists))) =
          ap (λ ls. greatest (map (row_at rounds) ls)) (drop_more lists place [] within) in
          omega arith

-- the end of the lists
pub going-at_end : (i : ScanInput) (test_rows : ℕ) → IsInput i test_rows → (old rows : SeenState) (state asked : ListsState) (place bound row : ℕ) → Going i old rows state place bound row → place < length i.lists → old.rounds ≤ rows_in i.lists → next_entry state (place + 1) ≡ None →
    AreSame state.lists state.sorted_count asked.sorted_count → AreSame state.lists state.random_count asked.random_count → asked.told ≡ state.told → IsAtEnd i old rows asked
going-at_end i test_rows input old rows state asked place bound row at within most e same_sorted same_random same_told =
    let past = going-end i test_rows input old rows state place bound row at within e in
    let first : place ≡ 0 = elim (cases_eq place 0) [
      | inl none ↦ none
      | inr some ↦ let inside = at.inside (omega arith) in absurd (omega arith)
    ] in
    let by : shown_by i.lists old.rounds place ≡ sights i.lists rows.rounds =
    ap (shown_by i.lists old.rounds) first ∙ shown_by-none i.lists old.rounds ∙ ap (sights i.lists) (sym at.rounds_are) in
    record {
      all = omega arith;
      rounds_are = at.rounds_are;
      given_are = at.given_are;
      between = record {
        seen = subst (λ shown. AreSeen i shown rows) by at.seen;
        sorted_are = λ number is.
            let some = is.some in
            let low : place < number = omega arith in
            same_sorted number (subst (λ ls. IsList ls number) (sym at.lists_are) is)
            ∙ at.counted number is
            ∙ ap (λ b. cond b (suc old.rounds) old.rounds) (lt-leb number place low)
            ∙ sym at.rounds_are;
        looked = subst (AreLookedUp i asked) by (looked-same i state asked (shown_by i.lists old.rounds place) at.lists_are same_random same_told at.looked);
        within = subst (λ n. n ≤ rows_in i.lists) (sym at.rounds_are) most;
      };
    }

-- the end of a round
pub going-over : (i : ScanInput) (test_rows : ℕ) → IsInput i test_rows → (old rows new : SeenState) (state : ListsState) (place bound row : ℕ) (key : Key) → Going i old rows state place bound row → place ≡ length i.lists →
    new ≡ record rows { rounds = rows.rounds + 1 } → key ≡ record { bound = bound; ids = ids_at i.block i.entry row } → WentOn i old new state key
going-over i test_rows input old rows new state place bound row key at all is key_is =
    let least = input.ranked.least in
    let inside = at.inside (omega arith) in
    let rounds : new.rounds ≡ suc old.rounds =
    ap (λ (s : SeenState). s.rounds) is ∙ (let e : rows.rounds + 1 ≡ suc rows.rounds = omega arith in e) ∙ ap suc at.rounds_are in
    let by : shown_by i.lists old.rounds place ≡ sights i.lists new.rounds = shown_by-all i.lists old.rounds place all ∙ ap (sights i.lists) (sym rounds) in
    let none = weighted_sum-all (score_at old.rounds) i.weights.weight i.lists place (omega arith) in
    let whole = at.bound_is in
    let bound_is : bound ≡ weighted_sum i.weights.weight (map (score_at old.rounds) i.lists) = omega arith in
    let nothing : greatest (map (row_at old.rounds) (drop place i.lists)) ≡ 0 = ap (λ ls. greatest (map (row_at old.rounds) ls)) (drop_all place i.lists (omega arith)) in
    let greatest_is = at.row_is in
    let row_is : row ≡ greatest (map (row_at old.rounds) i.lists) = omega arith in
    let given : new.given ≡ old.given = ap (λ (s : SeenState). s.given) is ∙ at.given_are in
    record {
      inside = inside;
      threshold_is =
          key_is
          ∙ ap (λ (n : ℕ). record { bound = n; ids = ids_at i.block i.entry row }) bound_is
          ∙ ap (λ (n : ℕ). record { bound = weighted_sum i.weights.weight (map (score_at old.rounds) i.lists); ids = ids_at i.block i.entry n }) row_is;
      rounds_are = rounds;
      given_are = given;
      between = record {
        seen = subst (λ shown. AreSeen i shown new) by (AreSeen-rounds i (shown_by i.lists old.rounds place) rows new is at.seen);
        sorted_are = λ number is_list.
            let within = is_list.within in
            let low : number ≤ place = omega arith in
            at.counted number is_list ∙ ap (λ b. cond b (suc old.rounds) old.rounds) (le-leb number place low) ∙ sym rounds;
        looked = subst (AreLookedUp i state) by at.looked;
        within = let e = rounds in omega arith;
      };
    }
  where
    AreSeen-rounds : (i : ScanInput) (shown : List Sight) (rows new : SeenState) → new ≡ record rows { rounds = rows.rounds + 1 } → AreSeen i shown rows → AreSeen i shown new
    AreSeen-rounds i shown rows new is are =
        subst (AreSeen i shown) (sym is) (record { seen = are.seen; held = are.held; beyond = are.beyond })

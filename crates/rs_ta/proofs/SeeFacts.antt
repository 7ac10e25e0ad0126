-- What a sight does: a row that was shown already changes nothing; a new one is noted, and put in where the test holds for it.
use Rattle.std.proofs.Common.{◌≡◌, ℕ, zero, suc, ◌-◌, ◌^◌, ◌<◌, ◌≤◌, ◌++◌, Bool, true, false, cond, not, ◌||◌, eqb, List, [], ◌∷◌, length, take, drop, map, Some, refl, sym, ◌∙◌, ap, subst, inl, inr, arith}
use Rattle.std.specs.Prelude.{slice_get}
use Rattle.std.proofs.lemmas.Bool.{false_from_ne_true, false≢true, true≢false}
use Rattle.std.proofs.lemmas.List.{append-nil, length-map, map-append, take-map}
use Rattle.std.proofs.lemmas.List.Elements.{filter-append}
use Rattle.std.proofs.lemmas.Map.Lookups.{exact_unsigned}
use Rattle.std.proofs.lemmas.Option.{slice_get-get_or}
use Rattle.std.proofs.lemmas.Cmp.{nat_cmp_total, tied_itself}
use Rattle.std.specs.BTreeSet.{insert_key}
use Rattle.std.specs.List.{AllByRecursion, filter}
use Rattle.std.specs.Ordering.{is_eq, is_lt, match_ordering, nat_cmp, ordering_reverse}
use Rattle.std.specs.declared.cmp.Ordering.{Ordering}
use Rattle.std.specs.declared.cmp.Ordering.TheVariants.{Less, Equal, Greater}
use Rattle.rs_value.specs.Faults.{raised}
use Rattle.rs_order.specs.Climbing.{In, IsBeyond}
use Rattle.rs_order.specs.Sorting.{put, sorted}
use Rattle.rs_order.proofs.ClimbingFacts.{AllByRecursion-from_In}
use Rattle.rs_order.proofs.EachFacts.{each-get_or}
use Rattle.rs_order.proofs.ItemFacts.{In-append, In-filter-back, In-left, In-map-back, filter-less}
use Rattle.rs_order.proofs.PartFacts.{In-drop, In-take, drop-put, sorted-snoc}
use Rattle.rs_order.proofs.SortingFacts.{In-sorted, In-sorted-back}
use Rattle.rs_rank.specs.declared.ids.Ids.{Ids}
use Rattle.rs_rank.specs.declared.key.Key.{Key}
use Rattle.rs_rank.specs.declared.row.RankRow.{RankRow}
use Rattle.rs_rank.specs.declared.scored_row.ScoredRow.{ScoredRow}
use Rattle.rs_rank.specs.Ids.{AreOtherIds}
use Rattle.rs_rank.specs.Keys.{key_cmp}
use Rattle.rs_rank.proofs.OrderFacts.{key_cmp-total}
use Rattle.rs_ta.specs.Depths.{ScanInput, Sight, answers_among, entry_at, first_sights, ids_at, looked_up, lookups, lookups_of, row_key, row_of, rows_shown, sights, sights_from}
use Rattle.rs_ta.specs.Lists.{AreRanked, AreTold, IsRanked, IsRow, ListsState, list_at, rows_in, score_of}
use Rattle.rs_ta.specs.Lookups.{AreRaisedBut}
use Rattle.rs_ta.specs.Rounds.{AreSeen, CanSee, Saw, SeenState, has_row, row_of_key, shown_by}
use Rattle.rs_ta.specs.Scans.{AreLookedUp, AreLookedUpWithin, Begins}
use Rattle.rs_ta.proofs.DepthFacts.{IsPast}
use Rattle.rs_ta.proofs.ExtensionFacts.{begins-itself, within-exact}
use Rattle.rs_ta.proofs.NumberFacts.{few-apart}
use Rattle.rs_ta.proofs.PressFacts.{ids-row}
use Rattle.rs_ta.proofs.RankedFacts.{ranked-row, score_of-at}
use Rattle.rs_ta.proofs.SightFacts.{In-shown, In-shown-back, apart-shown, lookups-new, lookups-old, row_shown, rows-sights, rows-sights_from, rows_shown-new, rows_shown-old, shown_by-more}
use Rattle.rs_ta.proofs.ToldFacts.{looked_up-new, looked_up-old, told-behind, told-same}

abbrev same_row : ℕ → ℕ
same_row row = row

-- whether a row is one of some
is_eq-same : (o : Ordering) → is_eq o ≡ true → o ≡ Equal
is_eq-same Less e = absurd (false≢true e)
is_eq-same Equal e = refl
is_eq-same Greater e = absurd (false≢true e)

has_row-In : (row : ℕ) (rows : List ℕ) → has_row row rows ≡ true → In row rows
has_row-In row [] e = absurd (false≢true e)
has_row-In row (other ∷ rows) e =
    (elim (is_eq (nat_cmp row other)) as (λ b. is_eq (nat_cmp row other) ≡ b → (b || has_row row rows) ≡ true → In row (other ∷ rows)) [
      | true ↦ λ is _. inl (exact_unsigned row other (is_eq-same (nat_cmp row other) is))
      | false ↦ λ is h. inr (has_row-In row rows h)
    ]) refl e

pub In-has_row : (row : ℕ) (rows : List ℕ) → In row rows → has_row row rows ≡ true
In-has_row row [] h = absurd h
In-has_row row (other ∷ rows) h = elim h [
  | inl same ↦
      ap (λ n. is_eq (nat_cmp row n) || has_row row rows) (sym same) ∙ ap (λ o. is_eq o || has_row row rows) (tied_itself nat_cmp_total row)
  | inr behind ↦ ap (λ b. is_eq (nat_cmp row other) || b) (In-has_row row rows behind) ∙ either (is_eq (nat_cmp row other))
]
  where
    either : (b : Bool) → (b || true) ≡ true
    either true = refl
    either false = refl

-- in an ordered list of rows, as in the list
pub has_row-shown : (row : ℕ) (shown : List Sight) → has_row row (sorted nat_cmp same_row (rows_shown shown)) ≡ true → In row (rows_shown shown)
has_row-shown row shown e = In-sorted-back nat_cmp same_row (rows_shown shown) row (has_row-In row (sorted nat_cmp same_row (rows_shown shown)) e)

pub has_row-new : (row : ℕ) (shown : List Sight) → has_row row (sorted nat_cmp same_row (rows_shown shown)) ≡ false → In row (rows_shown shown) → ⊥
has_row-new row shown e h =
    false≢true (sym e ∙ In-has_row row (sorted nat_cmp same_row (rows_shown shown)) (In-sorted nat_cmp same_row (rows_shown shown) row h))

-- a new row is put into an ordered set at its place
insert_key-put : (row : ℕ) (rows : List ℕ) → has_row row rows ≡ false → insert_key nat_cmp rows row ≡ put nat_cmp same_row row rows
insert_key-put row [] e = refl
insert_key-put row (other ∷ rows) e = go (nat_cmp row other) e (λ h. insert_key-put row rows h)
  where
    go : (o : Ordering) → (is_eq o || has_row row rows) ≡ false → (has_row row rows ≡ false → insert_key nat_cmp rows row ≡ put nat_cmp same_row row rows) →
        match_ordering o (row ∷ other ∷ rows) (other ∷ rows) (other ∷ insert_key nat_cmp rows row) ≡ cond (is_lt o) (row ∷ other ∷ rows) (other ∷ put nat_cmp same_row row rows)
    go Less h rest = refl
    go Equal h rest = absurd (true≢false h)
    go Greater h rest = ap (λ all. other ∷ all) (rest h)

seen-put : (shown more : List Sight) (row : ℕ) (old new : List ℕ) → rows_shown more ≡ rows_shown shown ++ row ∷ [] → (In row (rows_shown shown) → ⊥) → old ≡ sorted nat_cmp same_row (rows_shown shown) → new ≡ insert_key nat_cmp old row →
    new ≡ sorted nat_cmp same_row (rows_shown more)
seen-put shown more row old new rows none is seen =
    seen
    ∙ ap (λ some. insert_key nat_cmp some row) is
    ∙ insert_key-put row (sorted nat_cmp same_row (rows_shown shown)) (false_from_ne_true (has_row row (sorted nat_cmp same_row (rows_shown shown))) (λ e. none (has_row-shown row shown e)))
    ∙ sym (sorted-snoc nat_cmp same_row (rows_shown shown) row)
    ∙ ap (sorted nat_cmp same_row) (sym rows)

-- an item beyond some first ones stays there when another one is put in beyond them
IsBeyond-put : (n : ℕ) (xs : List RankRow) (x z : RankRow) → IsBeyond key_cmp row_key n xs x → IsBeyond key_cmp row_key n xs z → IsBeyond key_cmp row_key n (put key_cmp row_key x xs) z
IsBeyond-put zero xs x z first other = tt
IsBeyond-put (suc n) [] x z first other = absurd first
IsBeyond-put (suc n) (y ∷ ys) x z first other =
    subst (λ b. IsBeyond key_cmp row_key (suc n) (cond b (x ∷ y ∷ ys) (y ∷ put key_cmp row_key x ys)) z)
    (sym (ap is_lt (key_cmp-total.antisymm (row_key x) (row_key y) ∙ ap ordering_reverse first.0)))
    (other.0, IsBeyond-put n ys x z first.1 other.1)

module _ (i : ScanInput) where
  -- one more row among the answers
  answers-more : (rows : List ℕ) (row : ℕ) → i.holds row ≡ true → answers_among i (rows ++ row ∷ []) ≡ put key_cmp row_key (row_of i row) (answers_among i rows)
  answers-more rows row holds =
      ap (λ some. sorted key_cmp row_key (map (row_of i) some)) (filter-append i.holds rows (row ∷ []) ∙ ap (λ b. filter i.holds rows ++ cond b (row ∷ []) []) holds)
      ∙ ap (sorted key_cmp row_key) (map-append (row_of i) (filter i.holds rows) (row ∷ []))
      ∙ sorted-snoc key_cmp row_key (map (row_of i) (filter i.holds rows)) (row_of i row)

  -- or one for which the test doesn't hold
  answers-same : (rows : List ℕ) (row : ℕ) → i.holds row ≡ false → answers_among i (rows ++ row ∷ []) ≡ answers_among i rows
  answers-same rows row fails =
      ap (λ some. sorted key_cmp row_key (map (row_of i) some))
      (filter-append i.holds rows (row ∷ []) ∙ ap (λ b. filter i.holds rows ++ cond b (row ∷ []) []) fails ∙ append-nil (filter i.holds rows))

  -- the same rows are shown
  AreSeen-same : (shown more : List Sight) (rows : SeenState) → rows_shown more ≡ rows_shown shown → AreSeen i shown rows → AreSeen i more rows
  AreSeen-same shown more rows same are = record {
    seen = are.seen ∙ ap (sorted nat_cmp same_row) (sym same);
    held = are.held ∙ ap (λ some. drop rows.given (answers_among i some)) (sym same);
    beyond = λ row is none holds.
        subst (λ some. IsBeyond key_cmp row_key rows.given (answers_among i some) (row_of i row)) (sym same)
        (are.beyond row is (λ h. none (subst (In row) (sym same) h)) holds);
  }

  -- a new row for which the test holds is put in
  AreSeen-held : (shown more : List Sight) (row : ℕ) (old new : SeenState) → rows_shown more ≡ rows_shown shown ++ row ∷ [] → (In row (rows_shown shown) → ⊥) → IsRow (rows_in i.lists) row →
      i.holds row ≡ true → AreSeen i shown old → new.given ≡ old.given → new.seen ≡ insert_key nat_cmp old.seen row → new.held ≡ put key_cmp row_key (row_of i row) old.held → AreSeen i more new
  AreSeen-held shown more row old new rows none is holds are given seen held =
      let past = are.beyond row is none holds in record {
        seen = seen-put shown more row old.seen new.seen rows none are.seen seen;
        held =
            held
            ∙ ap (put key_cmp row_key (row_of i row)) are.held
            ∙ sym (drop-put key_cmp key_cmp-total row_key old.given (answers_among i (rows_shown shown)) (row_of i row) past)
            ∙ ap (drop old.given) (sym (answers-more (rows_shown shown) row holds))
            ∙ ap (λ some. drop old.given (answers_among i some)) (sym rows)
            ∙ ap (λ n. drop n (answers_among i (rows_shown more))) (sym given);
        beyond = λ other is_other apart passes.
            subst (λ n. IsBeyond key_cmp row_key n (answers_among i (rows_shown more)) (row_of i other)) (sym given)
            (subst (λ some. IsBeyond key_cmp row_key old.given some (row_of i other)) (sym (ap (answers_among i) rows ∙ answers-more (rows_shown shown) row holds))
            (IsBeyond-put old.given (answers_among i (rows_shown shown)) (row_of i row) (row_of i other) past
            (are.beyond other is_other (λ h. apart (subst (In other) (sym rows) (In-left other (rows_shown shown) (row ∷ []) h))) passes)));
      }

  -- one for which it doesn't is noted alone
  AreSeen-noted : (shown more : List Sight) (row : ℕ) (old new : SeenState) → rows_shown more ≡ rows_shown shown ++ row ∷ [] → (In row (rows_shown shown) → ⊥) →
      i.holds row ≡ false → AreSeen i shown old → new.given ≡ old.given → new.seen ≡ insert_key nat_cmp old.seen row → new.held ≡ old.held → AreSeen i more new
  AreSeen-noted shown more row old new rows none fails are given seen held =
      let same : answers_among i (rows_shown more) ≡ answers_among i (rows_shown shown) = ap (answers_among i) rows ∙ answers-same (rows_shown shown) row fails in record {
        seen = seen-put shown more row old.seen new.seen rows none are.seen seen;
        held = held ∙ are.held ∙ ap (drop old.given) (sym same) ∙ ap (λ n. drop n (answers_among i (rows_shown more))) (sym given);
        beyond = λ other is_other apart passes.
            subst (λ n. IsBeyond key_cmp row_key n (answers_among i (rows_shown more)) (row_of i other)) (sym given)
            (subst (λ some. IsBeyond key_cmp row_key old.given some (row_of i other)) (sym same)
            (are.beyond other is_other (λ h. apart (subst (In other) (sym rows) (In-left other (rows_shown shown) (row ∷ []) h))) passes));
      }

-- what is shown in a round covers the rounds before it, and has rows alone
pub past-shown : (i : ScanInput) → AreRanked i.lists → (rounds count : ℕ) → rounds < rows_in i.lists → IsPast i rounds (shown_by i.lists rounds count)
past-shown i are rounds count within = record {
  covers = λ row h.
      In-shown row (shown_by i.lists rounds count)
      (subst (In row) (sym (map-append row_shown (sights i.lists rounds) (take count (sights_from rounds 1 i.lists))))
      (In-left row (map row_shown (sights i.lists rounds)) (map row_shown (take count (sights_from rounds 1 i.lists))) h));
  are_rows = λ row h.
      elim (In-append row (map row_shown (sights i.lists rounds)) (map row_shown (take count (sights_from rounds 1 i.lists)))
      (subst (In row) (map-append row_shown (sights i.lists rounds) (take count (sights_from rounds 1 i.lists))) (In-shown-back row (shown_by i.lists rounds count) h))) [
        | inl before ↦ rows-sights (rows_in i.lists) rounds i.lists (omega arith) are.each row before
        | inr last ↦
            rows-sights_from (rows_in i.lists) rounds 1 i.lists within are.each row
            (In-take count (map row_shown (sights_from rounds 1 i.lists)) row (subst (In row) (sym (take-map row_shown count (sights_from rounds 1 i.lists))) last))
      ];
}

-- a list is looked up no more often than there are rows
pub lookups-few : (i : ScanInput) (places : ℕ) (shown : List Sight) → IsPast i places shown → (list : ℕ) → lookups shown list ≤ rows_in i.lists
lookups-few i places shown past list =
    let kept = filter-less (λ (sight : Sight). not (eqb sight.list list)) (first_sights shown) in
    let count = length-map (first_sights shown) row_shown in
    let few = few-apart (rows_in i.lists) (rows_shown shown) (AllByRecursion-from_In (IsRow (rows_in i.lists)) (rows_shown shown) past.are_rows) (apart-shown shown) in
    omega arith

-- a count below its end is raised by one
raised-suc : (count : ℕ) → count < 2 ^ 32 → raised count ≡ suc count
raised-suc count low = omega arith

module _ (i : ScanInput) (test_rows list row score : ℕ) (old : SeenState) (state : ListsState) (can : CanSee i test_rows list row score old state) where
  abbrev before : List Sight
  before = shown_by i.lists old.rounds (list - 1)

  abbrev after : List Sight
  after = shown_by i.lists old.rounds list

  abbrev sight : Sight
  sight = record { row = row; list = list }

  -- one more sight is shown
  after-is : after ≡ before ++ sight ∷ []
  after-is =
      let some = can.is_list.some in
      let within = can.is_list.within in
      let e : slice_get i.lists (list - 1) ≡ Some (list_at i.lists list) = slice_get-get_or i.lists (list - 1) [] (omega arith) in
      let one : suc (list - 1) ≡ list = omega arith in
      ap (shown_by i.lists old.rounds) (sym one)
      ∙ shown_by-more i.lists old.rounds (list - 1) (list_at i.lists list) e
      ∙ ap (λ (n : ℕ). before ++ record { row = (entry_at old.rounds (list_at i.lists list)).row; list = n } ∷ []) one
      ∙ ap (λ (e : ScoredRow). before ++ record { row = e.row; list = list } ∷ []) can.shows

  of_list : IsRanked (rows_in i.lists) (list_at i.lists list)
  of_list =
      let some = can.is_list.some in
      let within = can.is_list.within in
      each-get_or (IsRanked (rows_in i.lists)) i.lists (list - 1) [] can.input.ranked.each (omega arith)

  pub see-row : IsRow (rows_in i.lists) row
  see-row = subst (IsRow (rows_in i.lists)) (ap (λ (e : ScoredRow). e.row) can.shows) (ranked-row (rows_in i.lists) (list_at i.lists list) of_list old.rounds can.place)

  pub see-score : score ≡ score_of row (list_at i.lists list)
  see-score =
      let place = can.place in
      let count = of_list.all in
      sym (ap (λ (e : ScoredRow). e.score) can.shows)
      ∙ sym (score_of-at (list_at i.lists list) old.rounds of_list.differ (omega arith))
      ∙ ap (λ (e : ScoredRow). score_of e.row (list_at i.lists list)) can.shows

  is_past : IsPast i old.rounds before
  is_past = past-shown i can.input.ranked old.rounds (list - 1) can.place

  -- a row that is noted as new wasn't shown, and one that isn't was
  pub see-new : has_row row old.seen ≡ false → In row (rows_shown before) → ⊥
  see-new e = has_row-new row before (ap (has_row row) (sym can.seen.seen) ∙ e)

  see-old : has_row row old.seen ≡ true → In row (rows_shown before)
  see-old e = has_row-shown row before (ap (has_row row) (sym can.seen.seen) ∙ e)

  -- no row held has the ids of a new one
  pub see-apart : has_row row old.seen ≡ false → (key : Key) → key.ids ≡ ids_at i.block i.entry row → AllByRecursion (λ (held : RankRow). AreOtherIds held.ids key.ids) old.held
  see-apart e key ids =
      subst (AllByRecursion (λ (held : RankRow). AreOtherIds held.ids key.ids)) (sym can.seen.held)
      (AllByRecursion-from_In (λ (held : RankRow). AreOtherIds held.ids key.ids) (drop old.given (answers_among i (rows_shown before)))
      (λ held h block rows.
      let image = In-map-back (row_of i) held (filter i.holds (rows_shown before)) (In-sorted-back key_cmp row_key (map (row_of i) (filter i.holds (rows_shown before))) held (In-drop old.given (answers_among i (rows_shown before)) held h)) in
      let both = In-filter-back i.holds image.source (rows_shown before) image.is_in in
      let same : image.source ≡ row = ids-row i.block i.entry can.input.entry image.source row (sym (ap (λ (r : RankRow). r.ids.rows) image.image) ∙ rows ∙ ap (λ (k : Ids). k.rows) ids) in
      see-new e (subst (λ r. In r (rows_shown before)) same both.0)))

  -- the counts of random accesses
  looked-old : In row (rows_shown before) → AreLookedUp i state after
  looked-old h = record {
    counts = λ number is. can.looked.counts number is ∙ sym (ap (λ shown. lookups shown number) after-is ∙ lookups-old before sight number h);
    told = told-same (looked_up (length i.lists) before) (looked_up (length i.lists) after) state.told
        (sym (ap (looked_up (length i.lists)) after-is ∙ looked_up-old (length i.lists) before sight h)) can.looked.told;
  }

  looked-new : (In row (rows_shown before) → ⊥) → (more : ListsState) → AreRaisedBut i.lists list state.random_count more.random_count → AreTold (lookups_of (length i.lists) sight) state.told more.told → AreLookedUp i more after
  looked-new none more raised_are told = record {
    counts = λ number is.
        let few = lookups-few i old.rounds before is_past number in
        let rows = can.input.ranked.few in
        raised_are number is
        ∙ ap (λ n. cond (eqb number list) n (raised n)) (can.looked.counts number is)
        ∙ ap (λ n. cond (eqb number list) (lookups before number) n) (raised-suc (lookups before number) (omega arith))
        ∙ sym (ap (λ shown. lookups shown number) after-is ∙ lookups-new before sight number none);
    told = told-same (looked_up (length i.lists) before ++ lookups_of (length i.lists) sight) (looked_up (length i.lists) after) more.told
        (sym (ap (looked_up (length i.lists)) after-is ∙ looked_up-new (length i.lists) before sight none))
        (told-behind (looked_up (length i.lists) before) (lookups_of (length i.lists) sight) state.told more.told told can.looked.told);
  }

  -- a row that was shown already
  pub saw-old : (new : SeenState) → new ≡ old → has_row row old.seen ≡ true → Saw i list old new state
  saw-old new same has =
      let shown = see-old has in
      let rows : rows_shown after ≡ rows_shown before = ap rows_shown after-is ∙ rows_shown-old before sight shown in record {
        seen = subst (AreSeen i after) (sym same) (AreSeen-same i before after old rows can.seen);
        looked = looked-old shown;
        rounds_are = ap (λ (s : SeenState). s.rounds) same;
        given_are = ap (λ (s : SeenState). s.given) same;
      }

  -- a call that was refused looked the row up in no list, or in all other lists
  one-more : Begins before after
  one-more = record { rest = sight ∷ []; is = after-is }

  pub refused-before : AreLookedUpWithin i state before after
  refused-before = within-exact i state before before after (begins-itself before) one-more can.looked

  pub refused-behind : has_row row old.seen ≡ false → (more : ListsState) → AreRaisedBut i.lists list state.random_count more.random_count →
      AreTold (lookups_of (length i.lists) sight) state.told more.told → AreLookedUpWithin i more before after
  refused-behind has more raised_are told = within-exact i more before after after one-more (begins-itself after) (looked-new (see-new has) more raised_are told)

  rows-new : (In row (rows_shown before) → ⊥) → rows_shown after ≡ rows_shown before ++ row ∷ []
  rows-new none = ap rows_shown after-is ∙ rows_shown-new before sight none

  -- a new row for which the test doesn't hold
  pub saw-noted : (new : SeenState) (more : ListsState) → has_row row old.seen ≡ false → new ≡ record old { seen = insert_key nat_cmp old.seen row } → i.holds row ≡ false →
      AreRaisedBut i.lists list state.random_count more.random_count → AreTold (lookups_of (length i.lists) sight) state.told more.told → Saw i list old new more
  saw-noted new more has is fails raised_are told =
      let none = see-new has in record {
        seen =
            AreSeen-noted i before after row old new (rows-new none) none fails can.seen (ap (λ (s : SeenState). s.given) is) (ap (λ (s : SeenState). s.seen) is) (ap (λ (s : SeenState). s.held) is);
        looked = looked-new none more raised_are told;
        rounds_are = ap (λ (s : SeenState). s.rounds) is;
        given_are = ap (λ (s : SeenState). s.given) is;
      }

  -- and one for which it does
  pub saw-held : (noted new : SeenState) (more : ListsState) (key : Key) → has_row row old.seen ≡ false → noted ≡ record old { seen = insert_key nat_cmp old.seen row } →
      new ≡ record noted { held = put key_cmp row_key (row_of_key key) noted.held } → row_of_key key ≡ row_of i row → i.holds row ≡ true →
      AreRaisedBut i.lists list state.random_count more.random_count → AreTold (lookups_of (length i.lists) sight) state.told more.told → Saw i list old new more
  saw-held noted new more key has is held key_is holds raised_are told =
      let none = see-new has in
      let given : new.given ≡ old.given = ap (λ (s : SeenState). s.given) held ∙ ap (λ (s : SeenState). s.given) is in
      let seen : new.seen ≡ insert_key nat_cmp old.seen row = ap (λ (s : SeenState). s.seen) held ∙ ap (λ (s : SeenState). s.seen) is in
      let put_in : new.held ≡ put key_cmp row_key (row_of i row) old.held =
      ap (λ (s : SeenState). s.held) held ∙ ap (λ (s : SeenState). put key_cmp row_key (row_of_key key) s.held) is ∙ ap (λ r. put key_cmp row_key r old.held) key_is in record {
        seen = AreSeen-held i before after row old new (rows-new none) none see-row holds can.seen given seen put_in;
        looked = looked-new none more raised_are told;
        rounds_are = ap (λ (s : SeenState). s.rounds) held ∙ ap (λ (s : SeenState). s.rounds) is;
        given_are = given;
      }

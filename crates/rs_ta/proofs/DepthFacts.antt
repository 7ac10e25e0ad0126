-- How far a scan goes: which thresholds come before an answer, and how many places tell the first answers.
use Rattle.std.proofs.Common.{◌≡◌, ℕ, zero, suc, ◌+◌, ◌<◌, ◌≤◌, true, false, List, [], ◌∷◌, length, get_or, take, drop, map, Option, Some, None, refl, sym, ◌∙◌, ap, subst, ◌⊎◌, inl, inr, arith}
use Rattle.std.specs.Prelude.{min}
use Rattle.std.proofs.lemmas.Bool.{cases_lt, true≢false}
use Rattle.std.proofs.lemmas.List.{get_or-map, length-map}
use Rattle.std.proofs.lemmas.Option.{slice_get_cases, slice_get-map}
use Rattle.std.specs.List.{AllByRecursion, filter, slice_get}
use Rattle.std.specs.Option.{option_map}
use Rattle.std.specs.Ordering.{is_lt, is_gt, ordering_reverse}
use Rattle.std.specs.declared.cmp.Ordering.{Ordering}
use Rattle.std.specs.declared.cmp.Ordering.TheVariants.{Less, Equal, Greater}
use Rattle.rs_order.specs.Asks.{IsNoFurther, asks_for, bar_after, those_before}
use Rattle.rs_order.specs.Climbing.{Climbs, Differs, HasDistinctKeys, In, IsBeyond, Precedes}
use Rattle.rs_order.specs.Schedule.{numbers_from}
use Rattle.rs_order.specs.Sorting.{sorted}
use Rattle.rs_order.proofs.AsksFacts.{asks_for-more, bar_after-later, get_or-asked, get_or-before}
use Rattle.rs_order.proofs.ClimbingFacts.{AllByRecursion-In, AllByRecursion-from_In, Climbs-map, Climbs-same, Climbs-shared, cmp-not_itself}
use Rattle.rs_order.proofs.EachFacts.{each-weaker}
use Rattle.rs_order.proofs.ItemFacts.{In-filter, In-filter-back}
use Rattle.rs_order.proofs.PartFacts.{Climbs-begin, Climbs-not_behind, In-drop, In-parts, In-slice_get, In-take, IsBeyond-drop, IsBeyond-shared, bar_after-slice_get, cmp-behind-Less, is_lt-Less, slice_get-shared, sorted-map}
use Rattle.rs_order.proofs.ReorderFacts.{asks_for-None}
use Rattle.rs_order.proofs.SortingFacts.{Climbs-sorted, In-sorted, In-sorted-back}
use Rattle.rs_rank.specs.declared.key.Key.{Key}
use Rattle.rs_rank.specs.declared.scored_row.ScoredRow.{ScoredRow}
use Rattle.rs_rank.specs.Keys.{key_cmp}
use Rattle.rs_rank.proofs.OrderFacts.{key_cmp-total}
use Rattle.rs_ta.specs.Depths.{ScanInput, Sight, answers, answers_among, depth, entry_at, row_key, row_of, rows_shown, sights, threshold, thresholds}
use Rattle.rs_catalog.specs.Indexes.{EntryPrecedes}
use Rattle.rs_ta.specs.Lists.{AreRanked, IsRanked, IsRow, rows_in, score_of}
use Rattle.rs_ta.specs.Scans.{HaveWeights, IsEntry}
use Rattle.rs_ta.proofs.NumberFacts.{AreApart, In-numbers_from, In-numbers_from-back, apart-filter, apart-numbers_from, cases-In, length-numbers_from}
use Rattle.rs_ta.proofs.PressFacts.{press-row, press-thresholds, tied-row}
use Rattle.rs_ta.proofs.RankedFacts.{entries-ordered, ranked-stands}
use Rattle.rs_ta.proofs.SightFacts.{apart-shown, row_shown, sights-have}

-- the one comes after the other where the other comes before it
is_gt-turned : (a b : Key) → is_gt (key_cmp a b) ≡ is_lt (key_cmp b a)
is_gt-turned a b = ap is_gt (key_cmp-total.antisymm a b) ∙ turned (key_cmp b a)
  where
    turned : (r : Ordering) → is_gt (ordering_reverse r) ≡ is_lt r
    turned Less = refl
    turned Equal = refl
    turned Greater = refl

-- the key of a row
abbrev pub number_key : ScanInput → ℕ → Key
number_key i row = row_key (row_of i row)

-- those of some rows for which the test holds, in the order of their keys
abbrev pub ranked : ScanInput → List ℕ → List ℕ
ranked i rows = sorted key_cmp (number_key i) (filter i.holds rows)

pub answers-ranked : (i : ScanInput) (rows : List ℕ) → answers_among i rows ≡ map (row_of i) (ranked i rows)
answers-ranked i rows = sorted-map key_cmp row_key (row_of i) (filter i.holds rows)

-- numbers at their places
get_or-numbers_from : (first count place other : ℕ) → place < count → get_or (numbers_from first count) place other ≡ first + place
get_or-numbers_from first zero place other within = absurd (omega arith)
get_or-numbers_from first (suc count) zero other within = omega arith
get_or-numbers_from first (suc count) (suc place) other within = let e = get_or-numbers_from (suc first) count place other (omega arith) in omega arith

-- an option of a function's function
option_map-twice : {A B C : Type 0} (f : A → B) (g : B → C) (o : Option A) → option_map g (option_map f o) ≡ option_map (λ x. g (f x)) o
option_map-twice f g None = refl
option_map-twice f g (Some x) = refl

-- what is among the first n comes before the item at place n
take-before : {X K : Type 0} (cmp : K → K → Ordering) (key : X → K) (n : ℕ) (xs : List X) (x z : X) → Climbs cmp key xs → slice_get xs n ≡ Some x → In z (take n xs) → Precedes cmp key z x
take-before cmp key n [] x z climbs e h = cc
take-before cmp key zero (y ∷ ys) x z climbs e h = absurd h
take-before cmp key (suc n) (y ∷ ys) x z climbs e h = elim h [
  | inl same ↦ subst (λ w. Precedes cmp key w x) (sym same) (AllByRecursion-In (Precedes cmp key y) ys climbs.0 x (In-slice_get n ys x e))
  | inr behind ↦ take-before cmp key n ys x z climbs.1 e behind
]

-- the first of those from a place on comes at or before all of them
drop-first : {X K : Type 0} (cmp : K → K → Ordering) (key : X → K) (n : ℕ) (xs : List X) (z : X) → Climbs cmp key xs → In z (drop n xs) → (x : X) × (slice_get xs n ≡ Some x) × ((z ≡ x) ⊎ Precedes cmp key x z)
drop-first cmp key n [] z climbs h = absurd (In-drop n [] z h)
drop-first cmp key zero (x ∷ xs) z climbs h = (x, refl, elim h [ inl same ↦ inl same | inr behind ↦ inr (AllByRecursion-In (Precedes cmp key x) xs climbs.0 z behind) ])
drop-first cmp key (suc n) (x ∷ xs) z climbs h = drop-first cmp key n xs z climbs.1 h

-- one of some lists
some-list : (lists : List (List ScoredRow)) → 1 ≤ length lists → (list : List ScoredRow) × In list lists
some-list [] some = absurd (omega arith)
some-list (list ∷ lists) some = (list, inl refl)

-- the sights of whole rounds, and maybe some more
pub record IsPast (i : ScanInput) (places : ℕ) (shown : List Sight) : Type 0 where
  pub covers : (row : ℕ) → In row (map row_shown (sights i.lists places)) → In row (rows_shown shown)
  pub are_rows : (row : ℕ) → In row (rows_shown shown) → IsRow (rows_in i.lists) row

-- there are no more places than rows
pub depth-most : (i : ScanInput) (asks : ℕ) → depth i asks ≤ rows_in i.lists
depth-most i zero = omega arith
depth-most i (suc asks) = omega arith

module _ (i : ScanInput) (is_entry : IsEntry i.entry) (are : AreRanked i.lists) (have : HaveWeights i) where
  -- how many rows there are, and all of them in the order of their keys
  abbrev rows : ℕ
  rows = rows_in i.lists

  abbrev whole : List ℕ
  whole = ranked i (numbers_from 1 rows)

  abbrev pub part : List Sight → List ℕ
  part shown = ranked i (rows_shown shown)

  -- the sum of a row
  abbrev sum_at : ℕ → ℕ
  sum_at row = (row_of i row).sum

  -- different rows have different keys
  distinct-keys : (xs : List ℕ) → AreApart xs → HasDistinctKeys key_cmp (number_key i) xs
  distinct-keys [] apart = tt
  distinct-keys (x ∷ xs) apart = (
    AllByRecursion-from_In (Differs key_cmp (number_key i) x) xs
        (λ z h tied. AllByRecursion-In (λ y. x ≡ y → ⊥) xs apart.0 z h (tied-row i.block i.entry is_entry x z (sum_at x) (sum_at z) tied)),
    distinct-keys xs apart.1,
  )

  ranked-climbs : (some : List ℕ) → AreApart some → Climbs key_cmp (number_key i) (ranked i some)
  ranked-climbs some apart = Climbs-sorted key_cmp key_cmp-total (number_key i) (filter i.holds some) (distinct-keys (filter i.holds some) (apart-filter i.holds some apart))

  whole-climbs : Climbs key_cmp (number_key i) whole
  whole-climbs = ranked-climbs (numbers_from 1 rows) (apart-numbers_from 1 rows)

  part-climbs : (shown : List Sight) → Climbs key_cmp (number_key i) (part shown)
  part-climbs shown = ranked-climbs (rows_shown shown) (apart-shown shown)

  pub answers-climb : Climbs key_cmp row_key (answers i)
  answers-climb =
      subst (Climbs key_cmp row_key) (sym (answers-ranked i (numbers_from 1 rows)))
      (Climbs-map key_cmp row_key (row_of i) (ranked i (numbers_from 1 rows)) whole-climbs)

  -- which rows these are
  In-ranked : (some : List ℕ) (row : ℕ) → In row some → i.holds row ≡ true → In row (ranked i some)
  In-ranked some row h holds = In-sorted key_cmp (number_key i) (filter i.holds some) row (In-filter i.holds row some h holds)

  In-ranked-back : (some : List ℕ) (row : ℕ) → In row (ranked i some) → In row some × (i.holds row ≡ true)
  In-ranked-back some row h = In-filter-back i.holds row some (In-sorted-back key_cmp (number_key i) (filter i.holds some) row h)

  In-whole-back : (row : ℕ) → In row whole → IsRow rows row × (i.holds row ≡ true)
  In-whole-back row h =
      let both = In-ranked-back (numbers_from 1 rows) row h in
      let ends = In-numbers_from-back 1 rows row both.0 in
      let low = ends.0 in
      let high = ends.1 in
      (record { some = low; within = omega arith }, both.1)

  part-within : (places : ℕ) (shown : List Sight) → IsPast i places shown → (row : ℕ) → In row (part shown) → In row whole
  part-within places shown past row h =
      let both = In-ranked-back (rows_shown shown) row h in
      let is = past.are_rows row both.0 in
      let low = is.some in
      let high = is.within in
      In-ranked (numbers_from 1 rows) row (In-numbers_from 1 rows row (omega arith) (omega arith)) both.1

  -- the thresholds climb
  all-precede : (p q : ℕ) → p < q → q < rows → (lists : List (List ScoredRow)) → AllByRecursion (IsRanked rows) lists → AllByRecursion (λ list. EntryPrecedes (entry_at p list) (entry_at q list)) lists
  all-precede p q before within lists all =
      each-weaker (IsRanked rows) (λ list. EntryPrecedes (entry_at p list) (entry_at q list)) (λ list is. let count = is.all in entries-ordered list p q is.ordered before (omega arith)) lists all

  threshold-before : (p q : ℕ) → p < q → q < rows → key_cmp (threshold i p) (threshold i q) ≡ Less
  threshold-before p q before within =
      press-thresholds (entry_at p) (entry_at q) i.block i.entry is_entry i.weights.weight i.lists are.least have (all-precede p q before within i.lists are.each)

  thresholds-from : (first count : ℕ) → first + count ≤ rows → Climbs key_cmp (threshold i) (numbers_from first count)
  thresholds-from first zero within = tt
  thresholds-from first (suc count) within = (
    AllByRecursion-from_In (Precedes key_cmp (threshold i) first) (numbers_from (suc first) count)
        (λ z h. let ends = In-numbers_from-back (suc first) count z h in let low = ends.0 in let high = ends.1 in threshold-before first z (omega arith) (omega arith)),
    thresholds-from (suc first) count (omega arith),
  )

  pub thresholds-climb : Climbs key_cmp (λ key. key) (thresholds i)
  thresholds-climb = Climbs-map key_cmp (λ (key : Key). key) (threshold i) (numbers_from 0 rows) (thresholds-from 0 rows (omega arith))

  pub length-thresholds : length (thresholds i) ≡ rows
  length-thresholds = length-map (numbers_from 0 rows) (threshold i) ∙ length-numbers_from 0 rows

  pub thresholds-at : (place : ℕ) (other : Key) → place < rows → get_or (thresholds i) place other ≡ threshold i place
  thresholds-at place other within =
      let count = length-numbers_from 0 rows in
      get_or-map (threshold i) (numbers_from 0 rows) place 0 other (omega arith)
      ∙ ap (threshold i) (get_or-numbers_from 0 rows place 0 within ∙ (let e : 0 + place ≡ place = omega arith in e))

  -- a row that wasn't shown stands behind in each list
  row-behind : (p row : ℕ) → p < rows → IsRow rows row → (In row (map row_shown (sights i.lists (suc p))) → ⊥) → (list : List ScoredRow) → In list i.lists →
      EntryPrecedes (entry_at p list) (record { score = score_of row list; row = row })
  row-behind p row within is unseen list h =
      let there = ranked-stands rows list (AllByRecursion-In (IsRanked rows) i.lists are.each list h) row is in
      let of_list = AllByRecursion-In (IsRanked rows) i.lists are.each list h in
      elim (cases_lt p there.place) [
        | inl behind ↦
            elim (entries-ordered list p there.place of_list.ordered behind there.within) [
              | inl less ↦ inl (subst (λ n. n < (entry_at p list).score) there.score_is less)
              | inr both ↦ inr (both.0 ∙ there.score_is, subst (λ n. (entry_at p list).row < n) there.row_is both.1)
            ]
        | inr before ↦
            absurd (unseen (subst (λ r. In r (map row_shown (sights i.lists (suc p)))) there.row_is (sights-have i.lists (suc p) there.place list h (omega arith))))
      ]

  -- so it comes strictly after the threshold
  pub unseen-threshold : (p row : ℕ) → p < rows → IsRow rows row → (In row (map row_shown (sights i.lists (suc p))) → ⊥) → key_cmp (threshold i p) (number_key i row) ≡ Less
  unseen-threshold p row within is unseen =
      press-row (entry_at p) (λ list. record { score = score_of row list; row = row }) i.block i.entry is_entry i.weights.weight i.lists row is.some have
      (AllByRecursion-from_In (λ list. EntryPrecedes (entry_at p list) (record { score = score_of row list; row = row })) i.lists (λ list h. row-behind p row within is unseen list h))
      (λ list. refl)

  -- all places show all rows
  pub all-shown : (row : ℕ) → IsRow rows row → In row (map row_shown (sights i.lists rows))
  all-shown row is =
      let first = some-list i.lists are.least in
      let of_list = AllByRecursion-In (IsRanked rows) i.lists are.each first.0 first.1 in
      let there = ranked-stands rows first.0 of_list row is in
      let inside = there.within in
      let count = of_list.all in
      subst (λ r. In r (map row_shown (sights i.lists rows))) there.row_is (sights-have i.lists rows there.place first.0 first.1 (omega arith))

  -- the bar behind some answers
  bar-whole : (asks : ℕ) → bar_after row_key (answers i) asks ≡ option_map (number_key i) (slice_get whole asks)
  bar-whole asks =
      bar_after-slice_get row_key (answers i) asks
      ∙ ap (λ xs. option_map row_key (slice_get xs asks)) (answers-ranked i (numbers_from 1 rows))
      ∙ ap (option_map row_key) (slice_get-map (row_of i) whole asks)
      ∙ option_map-twice (row_of i) row_key (slice_get whole asks)

  -- how many thresholds come before a row
  abbrev before_row : ℕ → ℕ
  before_row row = length (those_before key_cmp (λ key. key) (Some (number_key i row)) (thresholds i))

  depth-some : (asks row : ℕ) → slice_get whole asks ≡ Some row → depth i (suc asks) ≡ min rows (suc (before_row row))
  depth-some asks row e = ap (λ bar. min rows (asks_for key_cmp (λ key. key) (thresholds i) bar)) (bar-whole asks ∙ ap (option_map (number_key i)) e)

  depth-none : (asks : ℕ) → slice_get whole asks ≡ None → depth i (suc asks) ≡ rows
  depth-none asks e =
      let count = length-thresholds in
      ap (λ bar. min rows (asks_for key_cmp (λ key. key) (thresholds i) bar)) (bar-whole asks ∙ ap (option_map (number_key i)) e)
      ∙ ap (min rows) (asks_for-None key_cmp (λ key. key) (thresholds i))
      ∙ (let e : min rows (suc (length (thresholds i))) ≡ rows = omega arith in e)

  -- more asks take as many places at least
  pub depth-more : (asks : ℕ) → depth i asks ≤ depth i (suc asks)
  depth-more zero = omega arith
  depth-more (suc asks) =
      let further : IsNoFurther key_cmp (bar_after row_key (answers i) asks) (bar_after row_key (answers i) (suc asks)) =
      bar_after-later key_cmp key_cmp-total row_key (answers i) asks (suc asks) answers-climb (omega arith) in
      let more = asks_for-more key_cmp key_cmp-total (λ key. key) (thresholds i) (bar_after row_key (answers i) asks) (bar_after row_key (answers i) (suc asks)) further in
      omega arith

  -- a threshold comes before a row exactly where its place is below their number
  threshold-asked : (p row : ℕ) → p < rows → p < before_row row → is_lt (key_cmp (threshold i p) (number_key i row)) ≡ true
  threshold-asked p row within asked =
      let at = thresholds-at p (threshold i p) within in
      sym (ap (λ key. is_lt (key_cmp key (number_key i row))) at)
      ∙ get_or-asked key_cmp key_cmp-total (λ key. key) (Some (number_key i row)) (thresholds i) p (threshold i p) thresholds-climb asked

  threshold-counts : (p row : ℕ) → p < rows → is_lt (key_cmp (threshold i p) (number_key i row)) ≡ true → p < before_row row
  threshold-counts p row within before =
      let count = length-thresholds in
      let at = thresholds-at p (threshold i p) within in
      get_or-before key_cmp key_cmp-total (λ key. key) (Some (number_key i row)) (thresholds i) p (threshold i p) thresholds-climb (omega arith)
      (ap (λ key. is_lt (key_cmp key (number_key i row))) at ∙ before)

  -- past the places that an answer takes, what wasn't shown comes behind it
  unseen-behind : (asks places x row : ℕ) → slice_get whole asks ≡ Some x → depth i (suc asks) ≤ places → places ≤ rows → IsRow rows row →
      (In row (map row_shown (sights i.lists places)) → ⊥) → key_cmp (number_key i x) (number_key i row) ≡ Less
  unseen-behind asks zero x row e le within is unseen =
      let deep = depth-some asks x e in
      let some = is.some in
      let most = is.within in
      absurd (omega arith)
  unseen-behind asks (suc p) x row e le within is unseen =
      let deep = depth-some asks x e in
      elim (cases_lt (suc p) rows) [
        | inl inside ↦
            cmp-behind-Less key_cmp key_cmp-total (number_key i x) (threshold i p) (number_key i row)
            (is_gt-turned (number_key i x) (threshold i p)
            ∙ (elim (is_lt (key_cmp (threshold i p) (number_key i x))) as (λ b. is_lt (key_cmp (threshold i p) (number_key i x)) ≡ b → b ≡ false) [
              | true ↦ λ before. let more = threshold-counts p x (omega arith) before in absurd (omega arith)
              | false ↦ λ before. refl
            ]) refl)
            (unseen-threshold p row (omega arith) is unseen)
        | inr all ↦
            let same : rows ≡ suc p = omega arith in
            absurd (unseen (subst (λ n. In row (map row_shown (sights i.lists n))) same (all-shown row is)))
      ]

  -- at the end of the lists nothing is left
  shown-all : (places : ℕ) (shown : List Sight) → IsPast i places shown → rows ≤ places → places ≤ rows → (row : ℕ) → IsRow rows row → In row (rows_shown shown)
  shown-all places shown past all within row is =
      let same : rows ≡ places = omega arith in
      past.covers row (subst (λ n. In row (map row_shown (sights i.lists n))) same (all-shown row is))

  pub part-whole : (places : ℕ) (shown : List Sight) → IsPast i places shown → rows ≤ places → places ≤ rows → part shown ≡ whole
  part-whole places shown past all within =
      Climbs-same key_cmp key_cmp-total (number_key i) (part shown) whole (part-climbs shown) whole-climbs (part-within places shown past)
      (λ row h. let both = In-whole-back row h in In-ranked (rows_shown shown) row (shown-all places shown past all within row both.0) both.1)

  -- the places that some answers take tell them
  pub settled : (asks places : ℕ) (shown : List Sight) → IsPast i places shown → places ≤ rows → depth i asks ≤ places → take asks (part shown) ≡ take asks whole
  settled zero places shown past within le = refl
  settled (suc asks) places shown past within le =
      elim (slice_get_cases whole asks).1 [
        | inl some ↦
            Climbs-begin key_cmp key_cmp-total (number_key i) (suc asks) (part shown) whole (part-climbs shown) whole-climbs (part-within places shown past)
            (λ row h.
            let both = In-whole-back row (In-take (suc asks) whole row h) in
            elim (cases-In row (rows_shown shown)) [
              | inl here ↦ In-ranked (rows_shown shown) row here both.1
              | inr none ↦
                  absurd (Climbs-not_behind key_cmp key_cmp-total (number_key i) asks whole some.0 row whole-climbs some.2 h
                  (unseen-behind asks places some.0 row some.2 le within both.0 (λ k. none (past.covers row k))))
            ])
        | inr none ↦ ap (take (suc asks)) (part-whole places shown past (let all = depth-none asks none.1 in omega arith) within)
      ]

  -- and what isn't shown lies beyond them
  beyond : (asks places : ℕ) (shown : List Sight) → IsPast i places shown → places ≤ rows → depth i asks ≤ places → (row : ℕ) → IsRow rows row → (In row (rows_shown shown) → ⊥) →
      IsBeyond key_cmp (number_key i) asks (part shown) row
  beyond zero places shown past within le row is none = tt
  beyond (suc asks) places shown past within le row is none =
      elim (slice_get_cases whole asks).1 [
        | inl some ↦
            IsBeyond-shared key_cmp (number_key i) (suc asks) whole (part shown) row (sym (settled (suc asks) places shown past within le))
            (IsBeyond-drop key_cmp key_cmp-total (number_key i) asks whole some.0 row whole-climbs some.2
            (unseen-behind asks places some.0 row some.2 le within is (λ k. none (past.covers row k))))
        | inr nothing ↦ absurd (none (shown-all places shown past (let all = depth-none asks nothing.1 in omega arith) within row is))
      ]

  -- a row of the part that comes at or before the last threshold is the next answer, and takes no more places
  reached-shared : (asks p x : ℕ) (shown : List Sight) → IsPast i (suc p) shown → p < rows → slice_get (part shown) asks ≡ Some x → is_gt (key_cmp (number_key i x) (threshold i p)) ≡ false →
      take (suc asks) (part shown) ≡ take (suc asks) whole
  reached-shared asks p x shown past within e reached =
      Climbs-shared key_cmp key_cmp-total (number_key i) (suc asks) (part shown) whole (part-climbs shown) whole-climbs (part-within (suc p) shown past)
      (λ row h.
      let both = In-whole-back row h in
      elim (cases-In row (rows_shown shown)) [
        | inl here ↦ inl (In-ranked (rows_shown shown) row here both.1)
        | inr none ↦ inr (IsBeyond-drop key_cmp key_cmp-total (number_key i) asks (part shown) x row (part-climbs shown) e
            (cmp-behind-Less key_cmp key_cmp-total (number_key i x) (threshold i p) (number_key i row) reached
            (unseen-threshold p row within both.0 (λ k. none (past.covers row k)))))
      ])

  pub reached-depth : (asks p x : ℕ) (shown : List Sight) → IsPast i (suc p) shown → p < rows → slice_get (part shown) asks ≡ Some x → is_gt (key_cmp (number_key i x) (threshold i p)) ≡ false →
      depth i (suc asks) ≤ suc p
  reached-depth asks p x shown past within e reached =
      let there = sym (slice_get-shared asks (part shown) whole (reached-shared asks p x shown past within e reached)) ∙ e in
      let deep = depth-some asks x there in
      elim (cases_lt p (before_row x)) [
        | inl more ↦ absurd (true≢false (sym (threshold-asked p x within more) ∙ sym (is_gt-turned (number_key i x) (threshold i p)) ∙ reached))
        | inr few ↦ omega arith
      ]

  -- a threshold comes before the next answer where no row of the part comes at or before it
  next-behind : (asks p x : ℕ) (shown : List Sight) → IsPast i (suc p) shown → p < rows → depth i asks ≤ suc p → slice_get whole asks ≡ Some x →
      ((q : ℕ) → slice_get (part shown) asks ≡ Some q → is_gt (key_cmp (number_key i q) (threshold i p)) ≡ true) → key_cmp (threshold i p) (number_key i x) ≡ Less
  next-behind asks p x shown past within le e behind =
      let both = In-whole-back x (In-slice_get asks whole x e) in
      elim (cases-In x (rows_shown shown)) [
        | inr none ↦ unseen-threshold p x within both.0 (λ k. none (past.covers x k))
        | inl here ↦
            elim (In-parts asks (part shown) x (In-ranked (rows_shown shown) x here both.1)) [
              | inl early ↦
                  absurd (cmp-not_itself key_cmp key_cmp-total (number_key i x)
                  (take-before key_cmp (number_key i) asks whole x x whole-climbs e (subst (In x) (settled asks (suc p) shown past within le) early)))
              | inr late ↦
                  let first = drop-first key_cmp (number_key i) asks (part shown) x (part-climbs shown) late in
                  let above : key_cmp (threshold i p) (number_key i first.0) ≡ Less =
                  is_lt-Less (key_cmp (threshold i p) (number_key i first.0)) (sym (is_gt-turned (number_key i first.0) (threshold i p)) ∙ behind first.0 first.1) in
                  elim first.2 [
                    | inl same ↦ subst (λ r. key_cmp (threshold i p) (number_key i r) ≡ Less) (sym same) above
                    | inr before ↦ key_cmp-total.trans (threshold i p) (number_key i first.0) (number_key i x) above before
                  ]
            ]
      ]

  pub not_reached-depth : (asks p : ℕ) (shown : List Sight) → IsPast i (suc p) shown → suc p < rows → depth i asks ≤ suc p →
      ((q : ℕ) → slice_get (part shown) asks ≡ Some q → is_gt (key_cmp (number_key i q) (threshold i p)) ≡ true) → suc (suc p) ≤ depth i (suc asks)
  not_reached-depth asks p shown past inside le behind =
      elim (slice_get_cases whole asks).1 [
        | inl some ↦
            let deep = depth-some asks some.0 some.2 in
            let more = threshold-counts p some.0 (omega arith) (ap is_lt (next-behind asks p some.0 shown past (omega arith) le some.2 behind)) in
            omega arith
        | inr none ↦ let all = depth-none asks none.1 in omega arith
      ]

  -- the first place is always taken
  pub first-depth : (asks : ℕ) → 0 < rows → 1 ≤ depth i (suc asks)
  first-depth asks some = omega arith

  -- the next answer is the next one of the part, once its places are shown
  pub next-answer : (asks places : ℕ) (shown : List Sight) → IsPast i places shown → places ≤ rows → depth i (suc asks) ≤ places →
      slice_get (answers_among i (rows_shown shown)) asks ≡ slice_get (answers i) asks
  next-answer asks places shown past within le =
      ap (λ xs. slice_get xs asks) (answers-ranked i (rows_shown shown))
      ∙ slice_get-map (row_of i) (part shown) asks
      ∙ ap (option_map (row_of i)) (slice_get-shared asks (part shown) whole (settled (suc asks) places shown past within le))
      ∙ sym (slice_get-map (row_of i) whole asks)
      ∙ ap (λ xs. slice_get xs asks) (sym (answers-ranked i (numbers_from 1 rows)))

  -- and rows that aren't shown come beyond the answers given
  beyond-rows : (asks : ℕ) (xs : List ℕ) (row : ℕ) → IsBeyond key_cmp (number_key i) asks xs row → IsBeyond key_cmp row_key asks (map (row_of i) xs) (row_of i row)
  beyond-rows zero xs row h = tt
  beyond-rows (suc asks) [] row h = h
  beyond-rows (suc asks) (x ∷ xs) row h = (h.0, beyond-rows asks xs row h.1)

  pub beyond-answers : (asks places : ℕ) (shown : List Sight) → IsPast i places shown → places ≤ rows → depth i asks ≤ places → (row : ℕ) → IsRow rows row → (In row (rows_shown shown) → ⊥) →
      IsBeyond key_cmp row_key asks (answers_among i (rows_shown shown)) (row_of i row)
  beyond-answers asks places shown past within le row is none =
      subst (λ xs. IsBeyond key_cmp row_key asks xs (row_of i row)) (sym (answers-ranked i (rows_shown shown)))
      (beyond-rows asks (part shown) row (beyond asks places shown past within le row is none))

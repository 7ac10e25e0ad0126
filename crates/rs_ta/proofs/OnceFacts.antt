-- Each row that is shown is looked up once in each list but the one that shows it first.
use Rattle.std.proofs.Common.{◌≡◌, ℕ, zero, suc, ◌+◌, ◌<◌, ◌≤◌, ◌++◌, ◌&&◌, Bool, true, false, cond, not, eqb, List, [], ◌∷◌, length, map, refl, sym, ◌∙◌, ap, ap₂, subst, inl, inr, arith, length-append}
use Rattle.std.proofs.lemmas.Bool.{cases_eq, eq-eqb, eqb-true, ne_eqb, false≢true, true≢false}
use Rattle.std.proofs.lemmas.List.Elements.{filter-append}
use Rattle.std.specs.List.{AllByRecursion, filter, flat_map}
use Rattle.rs_order.specs.Climbing.{In}
use Rattle.rs_order.specs.Schedule.{numbers_from}
use Rattle.rs_order.proofs.ClimbingFacts.{AllByRecursion-In}
use Rattle.rs_order.proofs.ItemFacts.{In-append, In-filter-back, In-map, In-map-back}
use Rattle.rs_ta.specs.Depths.{Sight, lookups_of}
use Rattle.rs_ta.specs.declared.lists.Lookup.{Lookup}
use Rattle.rs_ta.proofs.NumberFacts.{AreApart, In-numbers_from-back}
use Rattle.rs_ta.proofs.SightFacts.{is_elsewhere, row_shown}

length-cond : {A : Type 0} (b : Bool) (x : A) (xs : List A) → length (cond b (x ∷ xs) xs) ≡ cond b (suc (length xs)) (length xs)
length-cond true x xs = refl
length-cond false x xs = refl

-- how often a number stands among numbers that count on
none-before : (first count list : ℕ) → list < first → length (filter (λ n. eqb n list) (numbers_from first count)) ≡ 0
none-before first zero list before = refl
none-before first (suc count) list before =
    length-cond (eqb first list) first (filter (λ n. eqb n list) (numbers_from (suc first) count))
    ∙ ap (λ b. cond b (suc (length (filter (λ n. eqb n list) (numbers_from (suc first) count)))) (length (filter (λ n. eqb n list) (numbers_from (suc first) count)))) (ne_eqb first list (λ e. omega arith))
    ∙ none-before (suc first) count list (omega arith)

once-within : (first count list : ℕ) → first ≤ list → list < first + count → length (filter (λ n. eqb n list) (numbers_from first count)) ≡ 1
once-within first zero list least most = absurd (omega arith)
once-within first (suc count) list least most =
    length-cond (eqb first list) first (filter (λ n. eqb n list) (numbers_from (suc first) count))
    ∙ elim (cases_eq first list) [
      | inl same ↦
          ap (λ b. cond b (suc (length (filter (λ n. eqb n list) (numbers_from (suc first) count)))) (length (filter (λ n. eqb n list) (numbers_from (suc first) count)))) (eq-eqb first list same)
          ∙ ap suc (none-before (suc first) count list (omega arith))
      | inr differs ↦
          ap (λ b. cond b (suc (length (filter (λ n. eqb n list) (numbers_from (suc first) count)))) (length (filter (λ n. eqb n list) (numbers_from (suc first) count)))) (ne_eqb first list differs)
          ∙ once-within (suc first) count list (elim_least differs) (omega arith)
    ]
  where
    elim_least : (first ≡ list → ⊥) → suc first ≤ list
    elim_least differs = omega arith

-- the look-ups of one sight in a list: of numbers, those that aren't its own list
module _ (test : ℕ → Bool) (list : ℕ) (sight : Sight) where
  abbrev hit : Lookup → Bool
  hit lookup = test lookup.row && eqb lookup.list list

  abbrev lookup_in : ℕ → Lookup
  lookup_in number = record { row = sight.row; list = number }

  abbrev other : ℕ → Bool
  other number = not (eqb number sight.list)

  one-step : (same own at here : Bool) (rest n : ℕ) → (own ≡ true → here ≡ true → at ≡ true) → (own ≡ false → here ≡ true → at ≡ false) → rest ≡ cond same (cond at 0 n) 0 →
      cond own rest (cond (same && here) (suc rest) rest) ≡ cond same (cond at 0 (cond here (suc n) n)) 0
  one-step false true at here rest n both apart e = e
  one-step false false at here rest n both apart e = e
  one-step true true true here rest n both apart e = e
  one-step true true false true rest n both apart e = absurd (false≢true (both refl refl))
  one-step true true false false rest n both apart e = e
  one-step true false true true rest n both apart e = absurd (true≢false (apart refl refl))
  one-step true false true false rest n both apart e = e
  one-step true false false true rest n both apart e = ap suc e
  one-step true false false false rest n both apart e = e

  shape : (own : Bool) (number : ℕ) (kept : List ℕ) → length (filter hit (map lookup_in (cond (not own) (number ∷ kept) kept))) ≡ cond own (length (filter hit (map lookup_in kept)))
      (cond (hit (lookup_in number)) (suc (length (filter hit (map lookup_in kept)))) (length (filter hit (map lookup_in kept))))
  shape true number kept = refl
  shape false number kept = length-cond (hit (lookup_in number)) (lookup_in number) (filter hit (map lookup_in kept))

  nothing : (a b : Bool) → ◌≡◌ {A = ℕ} 0 (cond a (cond b 0 0) 0)
  nothing true true = refl
  nothing true false = refl
  nothing false b = refl

  one-sight : (numbers : List ℕ) → length (filter hit (map lookup_in (filter other numbers))) ≡ cond (test sight.row) (cond (eqb list sight.list) 0 (length (filter (λ n. eqb n list) numbers))) 0
  one-sight [] = nothing (test sight.row) (eqb list sight.list)
  one-sight (number ∷ numbers) =
      shape (eqb number sight.list) number (filter other numbers)
      ∙ one-step (test sight.row) (eqb number sight.list) (eqb list sight.list) (eqb number list) (length (filter hit (map lookup_in (filter other numbers)))) (length (filter (λ n. eqb n list) numbers))
      (λ own here. eq-eqb list sight.list (sym (eqb-true number list here) ∙ eqb-true number sight.list own))
      (λ own here. ne_eqb list sight.list (λ e. true≢false (sym (eq-eqb number sight.list (eqb-true number list here ∙ e)) ∙ own)))
      (one-sight numbers)
      ∙ ap (λ n. cond (test sight.row) (cond (eqb list sight.list) 0 n) 0) (sym (length-cond (eqb number list) number (filter (λ n. eqb n list) numbers)))

  pub of-sight : (lists : ℕ) → 1 ≤ list → list ≤ lists → length (filter hit (lookups_of lists sight)) ≡ cond (test sight.row) (cond (eqb list sight.list) 0 1) 0
  of-sight lists some within =
      one-sight (numbers_from 1 lists) ∙ ap (λ n. cond (test sight.row) (cond (eqb list sight.list) 0 n) 0) (once-within 1 lists list some (omega arith))

-- those of one sight behind those of another
split : (hit : Lookup → Bool) (first rest : List Lookup) → length (filter hit (first ++ rest)) ≡ length (filter hit first) + length (filter hit rest)
split hit first rest = ap length (filter-append hit first rest) ∙ length-append (filter hit first) (filter hit rest)

module _ (lists : ℕ) (sight : Sight) (list : ℕ) (some : 1 ≤ list) (within : list ≤ lists) where
  abbrev same_row : ℕ → Bool
  same_row row = eqb row sight.row

  abbrev is_hit : Lookup → Bool
  is_hit lookup = same_row lookup.row && eqb lookup.list list

  absent : (shown : List Sight) → AllByRecursion (λ row. sight.row ≡ row → ⊥) (map row_shown shown) → length (filter is_hit (flat_map (lookups_of lists) shown)) ≡ 0
  absent [] none = refl
  absent (first ∷ rest) none =
      let here : length (filter is_hit (lookups_of lists first)) ≡ 0 =
      of-sight same_row list first lists some within ∙ ap (λ b. cond b (cond (eqb list first.list) 0 1) 0) (ne_eqb first.row sight.row (λ e. none.0 (sym e))) in
      let behind = absent rest none.1 in
      split is_hit (lookups_of lists first) (flat_map (lookups_of lists) rest) ∙ ap₂ (λ a b. a + b) here behind

  pub looked_up-once : (shown : List Sight) → AreApart (map row_shown shown) → In sight shown → length (filter is_hit (flat_map (lookups_of lists) shown)) ≡ cond (eqb list sight.list) 0 1
  looked_up-once [] apart h = absurd h
  looked_up-once (first ∷ rest) apart (inl same) =
      let row : sight.row ≡ first.row = ap row_shown same in
      let here : length (filter is_hit (lookups_of lists first)) ≡ cond (eqb list sight.list) 0 1 =
      of-sight same_row list first lists some within
      ∙ ap (λ b. cond b (cond (eqb list first.list) 0 1) 0) (eq-eqb first.row sight.row (sym row))
      ∙ ap (λ (s : Sight). cond (eqb list s.list) 0 1) (sym same) in
      let behind = absent rest (subst (λ r. AllByRecursion (λ y. r ≡ y → ⊥) (map row_shown rest)) (sym row) apart.0) in
      split is_hit (lookups_of lists first) (flat_map (lookups_of lists) rest)
      ∙ ap₂ (λ a b. a + b) here behind
      ∙ (let e : cond (eqb list sight.list) 0 1 + 0 ≡ cond (eqb list sight.list) 0 1 = omega arith in e)
  looked_up-once (first ∷ rest) apart (inr behind) =
      let differs : first.row ≡ sight.row → ⊥ = AllByRecursion-In (λ y. first.row ≡ y → ⊥) (map row_shown rest) apart.0 sight.row (In-map row_shown sight rest behind) in
      let here : length (filter is_hit (lookups_of lists first)) ≡ 0 =
      of-sight same_row list first lists some within ∙ ap (λ b. cond b (cond (eqb list first.list) 0 1) 0) (ne_eqb first.row sight.row differs) in
      split is_hit (lookups_of lists first) (flat_map (lookups_of lists) rest)
      ∙ ap₂ (λ a b. a + b) here (looked_up-once rest apart.1 behind)
      ∙ (let e : 0 + cond (eqb list sight.list) 0 1 ≡ cond (eqb list sight.list) 0 1 = omega arith in e)

-- each look-up is of a row that is shown, in one of the lists
pub looked_up-rows : (lists : ℕ) (lookup : Lookup) (shown : List Sight) → In lookup (flat_map (lookups_of lists) shown) → In lookup.row (map row_shown shown) × (1 ≤ lookup.list) × (lookup.list ≤ lists)
looked_up-rows lists lookup [] h = absurd h
looked_up-rows lists lookup (first ∷ rest) h = elim (In-append lookup (lookups_of lists first) (flat_map (lookups_of lists) rest) h) [
  | inl here ↦
      let image = In-map-back (λ list. record { row = first.row; list = list }) lookup (filter (λ list. not (eqb list first.list)) (numbers_from 1 lists)) here in
      let kept = In-filter-back (λ list. not (eqb list first.list)) image.source (numbers_from 1 lists) image.is_in in
      let bounds = In-numbers_from-back 1 lists image.source kept.0 in
      let low = bounds.0 in
      let high = bounds.1 in
      let at : lookup.list ≡ image.source = ap (λ (l : Lookup). l.list) image.image in
      (inl (ap (λ (l : Lookup). l.row) image.image), omega arith, omega arith)
  | inr behind ↦ let is = looked_up-rows lists lookup rest behind in (inr is.0, is.1, is.2)
]

-- as many are of a list as rows that another list shows first
pub looked_up-counts : (lists list : ℕ) → 1 ≤ list → list ≤ lists → (shown : List Sight) → length (filter (λ (lookup : Lookup). eqb lookup.list list) (flat_map (lookups_of lists) shown)) ≡ length (filter (is_elsewhere list) shown)
looked_up-counts lists list some within [] = refl
looked_up-counts lists list some within (first ∷ rest) =
    split (λ lookup. eqb lookup.list list) (lookups_of lists first) (flat_map (lookups_of lists) rest)
    ∙ ap₂ (λ a b. a + b) (of-sight (λ row. true) list first lists some within) (looked_up-counts lists list some within rest)
    ∙ elim (cases_eq first.list list) [
      | inl same ↦
          ap (λ b. cond b 0 1 + length (filter (is_elsewhere list) rest)) (eq-eqb list first.list (sym same))
          ∙ (let e : 0 + length (filter (is_elsewhere list) rest) ≡ length (filter (is_elsewhere list) rest) = omega arith in e)
          ∙ sym (ap (λ b. length (cond (not b) (first ∷ filter (is_elsewhere list) rest) (filter (is_elsewhere list) rest))) (eq-eqb first.list list same))
      | inr differs ↦
          ap (λ b. cond b 0 1 + length (filter (is_elsewhere list) rest)) (ne_eqb list first.list (λ e. differs (sym e)))
          ∙ (let e : 1 + length (filter (is_elsewhere list) rest) ≡ suc (length (filter (is_elsewhere list) rest)) = omega arith in e)
          ∙ sym (ap (λ b. length (cond (not b) (first ∷ filter (is_elsewhere list) rest) (filter (is_elsewhere list) rest))) (ne_eqb first.list list differs))
    ]

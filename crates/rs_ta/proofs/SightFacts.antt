-- What lists show, one sight after another: the first sight of each row, and how often each list is looked up.
use Rattle.std.proofs.Common.{◌≡◌, ℕ, zero, suc, ◌+◌, ◌<◌, ◌≤◌, ◌++◌, Bool, true, false, cond, not, eqb, List, [], ◌∷◌, length, take, map, refl, sym, ◌∙◌, ap, subst, inl, inr, arith, length-append}
use Rattle.std.proofs.lemmas.Bool.{cases_eq, cases_lt, eq-eqb, ne_eqb, true≢false}
use Rattle.std.proofs.lemmas.List.{append-nil, append_assoc, map-append, take_all}
use Rattle.std.proofs.lemmas.List.Elements.{filter-append}
use Rattle.std.specs.List.{AllByRecursion, filter, slice_get}
use Rattle.std.specs.Prelude.{Some}
use Rattle.rs_order.specs.Climbing.{In}
use Rattle.rs_order.proofs.ClimbingFacts.{AllByRecursion-In, AllByRecursion-from_In}
use Rattle.rs_order.proofs.ItemFacts.{In-append, In-filter, In-filter-back, In-left, In-map, In-map-back, In-right}
use Rattle.rs_order.proofs.PartFacts.{take-snoc}
use Rattle.rs_rank.specs.declared.scored_row.ScoredRow.{ScoredRow}
use Rattle.rs_ta.specs.Depths.{Sight, entry_at, first_sights, lookups, rows_shown, sights, sights_from}
use Rattle.rs_ta.specs.Lists.{IsRanked, IsRow}
use Rattle.rs_ta.specs.Rounds.{shown_by}
use Rattle.rs_ta.proofs.NumberFacts.{AreApart, cases-In}
use Rattle.rs_ta.proofs.RankedFacts.{ranked-row}

abbrev pub row_shown : Sight → ℕ
row_shown sight = sight.row

-- whether a sight is of another row
abbrev pub is_other : ℕ → Sight → Bool
is_other row sight = not (eqb sight.row row)

-- a row that was shown has a first sight
pub In-shown : (row : ℕ) (shown : List Sight) → In row (map row_shown shown) → In row (rows_shown shown)
In-shown row [] h = absurd h
In-shown row (sight ∷ rest) h = elim (cases_eq row sight.row) [
  | inl same ↦ inl same
  | inr differs ↦ elim h [
    | inl same ↦ absurd (differs same)
    | inr behind ↦
        let image = In-map-back row_shown row (first_sights rest) (In-shown row rest behind) in
        let kept : In image.source (filter (is_other sight.row) (first_sights rest)) =
        In-filter (is_other sight.row) image.source (first_sights rest) image.is_in (ap not (ne_eqb image.source.row sight.row (λ e. differs (image.image ∙ e)))) in
        inr (subst (λ r. In r (map row_shown (filter (is_other sight.row) (first_sights rest)))) (sym image.image) (In-map row_shown image.source (filter (is_other sight.row) (first_sights rest)) kept))
  ]
]

pub In-shown-back : (row : ℕ) (shown : List Sight) → In row (rows_shown shown) → In row (map row_shown shown)
In-shown-back row [] h = absurd h
In-shown-back row (sight ∷ rest) h = elim h [
  | inl same ↦ inl same
  | inr behind ↦
      let image = In-map-back row_shown row (filter (is_other sight.row) (first_sights rest)) behind in
      let both = In-filter-back (is_other sight.row) image.source (first_sights rest) image.is_in in
      inr (In-shown-back row rest (subst (λ r. In r (rows_shown rest)) (sym image.image) (In-map row_shown image.source (first_sights rest) both.0)))
]

-- one more sight, of a new row
pub first_sights-new : (shown : List Sight) (sight : Sight) → (In sight.row (map row_shown shown) → ⊥) → first_sights (shown ++ sight ∷ []) ≡ first_sights shown ++ sight ∷ []
first_sights-new [] sight none = refl
first_sights-new (first ∷ rest) sight none =
    ap (λ all. first ∷ filter (is_other first.row) all) (first_sights-new rest sight (λ h. none (inr h)))
    ∙ ap (λ all. first ∷ all) (filter-append (is_other first.row) (first_sights rest) (sight ∷ [])
    ∙ ap (λ b. filter (is_other first.row) (first_sights rest) ++ cond b (sight ∷ []) []) (ap not (ne_eqb sight.row first.row (λ same. none (inl same)))))

-- and of a row that was shown already
pub first_sights-old : (shown : List Sight) (sight : Sight) → In sight.row (map row_shown shown) → first_sights (shown ++ sight ∷ []) ≡ first_sights shown
first_sights-old [] sight h = absurd h
first_sights-old (first ∷ rest) sight h = elim (cases-In sight.row (map row_shown rest)) [
  | inl behind ↦ ap (λ all. first ∷ filter (is_other first.row) all) (first_sights-old rest sight behind)
  | inr none ↦ elim h [
    | inl same ↦
        ap (λ all. first ∷ filter (is_other first.row) all) (first_sights-new rest sight none)
        ∙ ap (λ all. first ∷ all) (filter-append (is_other first.row) (first_sights rest) (sight ∷ [])
        ∙ ap (λ b. filter (is_other first.row) (first_sights rest) ++ cond b (sight ∷ []) []) (ap not (eq-eqb sight.row first.row same))
        ∙ append-nil (filter (is_other first.row) (first_sights rest)))
    | inr behind ↦ absurd (none behind)
  ]
]

-- whether another list shows a row
abbrev pub is_elsewhere : ℕ → Sight → Bool
is_elsewhere list s = not (eqb s.list list)

-- so it is looked up in each list but the one that shows it
pub lookups-old : (shown : List Sight) (sight : Sight) (list : ℕ) → In sight.row (rows_shown shown) → lookups (shown ++ sight ∷ []) list ≡ lookups shown list
lookups-old shown sight list h = ap (λ all. length (filter (is_elsewhere list) all)) (first_sights-old shown sight (In-shown-back sight.row shown h))

pub lookups-new : (shown : List Sight) (sight : Sight) (list : ℕ) → (In sight.row (rows_shown shown) → ⊥) →
    lookups (shown ++ sight ∷ []) list ≡ cond (eqb list sight.list) (lookups shown list) (suc (lookups shown list))
lookups-new shown sight list none =
    ap (λ all. length (filter (is_elsewhere list) all)) (first_sights-new shown sight (λ h. none (In-shown sight.row shown h)))
    ∙ ap length (filter-append (is_elsewhere list) (first_sights shown) (sight ∷ []))
    ∙ length-append (filter (is_elsewhere list) (first_sights shown)) (filter (is_elsewhere list) (sight ∷ []))
    ∙ elim (cases_eq sight.list list) [
      | inl same ↦
          ap (λ b. lookups shown list + length (cond (not b) (sight ∷ []) [])) (eq-eqb sight.list list same)
          ∙ (let e : lookups shown list + 0 ≡ lookups shown list = omega arith in e)
          ∙ sym (ap (λ b. cond b (lookups shown list) (suc (lookups shown list))) (eq-eqb list sight.list (sym same)))
      | inr differs ↦
          ap (λ b. lookups shown list + length (cond (not b) (sight ∷ []) [])) (ne_eqb sight.list list differs)
          ∙ (let e : lookups shown list + 1 ≡ suc (lookups shown list) = omega arith in e)
          ∙ sym (ap (λ b. cond b (lookups shown list) (suc (lookups shown list))) (ne_eqb list sight.list (λ e. differs (sym e))))
    ]

-- the rows that are shown
pub rows_shown-old : (shown : List Sight) (sight : Sight) → In sight.row (rows_shown shown) → rows_shown (shown ++ sight ∷ []) ≡ rows_shown shown
rows_shown-old shown sight h = ap (map row_shown) (first_sights-old shown sight (In-shown-back sight.row shown h))

pub rows_shown-new : (shown : List Sight) (sight : Sight) → (In sight.row (rows_shown shown) → ⊥) → rows_shown (shown ++ sight ∷ []) ≡ rows_shown shown ++ sight.row ∷ []
rows_shown-new shown sight none =
    ap (map row_shown) (first_sights-new shown sight (λ h. none (In-shown sight.row shown h))) ∙ map-append row_shown (first_sights shown) (sight ∷ [])

-- each of them once
pub apart-shown : (shown : List Sight) → AreApart (rows_shown shown)
apart-shown [] = tt
apart-shown (sight ∷ rest) = (
  AllByRecursion-from_In (λ y. sight.row ≡ y → ⊥) (map row_shown (filter (is_other sight.row) (first_sights rest)))
      (λ y h same.
      let image = In-map-back row_shown y (filter (is_other sight.row) (first_sights rest)) h in
      let both = In-filter-back (is_other sight.row) image.source (first_sights rest) image.is_in in
      true≢false (sym both.1 ∙ ap not (eq-eqb image.source.row sight.row (sym image.image ∙ sym same)))),
  apart-kept (first_sights rest) (apart-shown rest),
)
  where
    apart-kept : (some : List Sight) → AreApart (map row_shown some) → AreApart (map row_shown (filter (is_other sight.row) some))
    apart-kept [] apart = tt
    apart-kept (first ∷ others) apart =
        (elim (is_other sight.row first) as (λ b. AreApart (map row_shown (cond b (first ∷ filter (is_other sight.row) others) (filter (is_other sight.row) others)))) [
          | true ↦ (
            AllByRecursion-from_In (λ y. first.row ≡ y → ⊥) (map row_shown (filter (is_other sight.row) others))
                (λ y h. let image = In-map-back row_shown y (filter (is_other sight.row) others) h in
                let both = In-filter-back (is_other sight.row) image.source others image.is_in in
                AllByRecursion-In (λ y. first.row ≡ y → ⊥) (map row_shown others) apart.0 y
                (subst (λ r. In r (map row_shown others)) (sym image.image) (In-map row_shown image.source others both.0))),
            apart-kept others apart.1,
          )
          | false ↦ apart-kept others apart.1
        ])

-- what each list shows at a place
pub length-sights_from : (place number : ℕ) (lists : List (List ScoredRow)) → length (sights_from place number lists) ≡ length lists
length-sights_from place number [] = refl
length-sights_from place number (list ∷ rest) = let e = length-sights_from place (suc number) rest in omega arith

pub sights_from-at : (place number : ℕ) (lists : List (List ScoredRow)) (i : ℕ) (list : List ScoredRow) → slice_get lists i ≡ Some list →
    slice_get (sights_from place number lists) i ≡ Some (record { row = (entry_at place list).row; list = number + i })
sights_from-at place number [] i list e = cc
sights_from-at place number (first ∷ rest) zero list e =
    let same : first ≡ list = cc in
    let n : number ≡ number + 0 = omega arith in
    ap (λ (l : List ScoredRow). Some (record { row = (entry_at place l).row; list = number })) same ∙ ap (λ (k : ℕ). Some (record { row = (entry_at place list).row; list = k })) n
sights_from-at place number (first ∷ rest) (suc i) list e =
    let n : suc number + i ≡ number + suc i = omega arith in
    sights_from-at place (suc number) rest i list e ∙ ap (λ (k : ℕ). Some (record { row = (entry_at place list).row; list = k })) n

sights_from-has : (place number : ℕ) (lists : List (List ScoredRow)) (list : List ScoredRow) → In list lists → In (entry_at place list).row (map row_shown (sights_from place number lists))
sights_from-has place number [] list h = absurd h
sights_from-has place number (first ∷ rest) list h = elim h [
  | inl same ↦ inl (ap (λ (l : List ScoredRow). (entry_at place l).row) same)
  | inr behind ↦ inr (sights_from-has place (suc number) rest list behind)
]

-- whatever stands at one of the first places of a list was shown
pub sights-have : (lists : List (List ScoredRow)) (places place : ℕ) (list : List ScoredRow) → In list lists → place < places → In (entry_at place list).row (map row_shown (sights lists places))
sights-have lists zero place list h within = absurd (omega arith)
sights-have lists (suc places) place list h within =
    subst (In (entry_at place list).row) (sym (map-append row_shown (sights lists places) (sights_from places 1 lists)))
    (elim (cases_lt place places) [
      | inl less ↦ In-left (entry_at place list).row (map row_shown (sights lists places)) (map row_shown (sights_from places 1 lists)) (sights-have lists places place list h less)
      | inr last ↦
          let same : places ≡ place = omega arith in
          In-right (entry_at place list).row (map row_shown (sights lists places)) (map row_shown (sights_from places 1 lists))
          (subst (λ p. In (entry_at place list).row (map row_shown (sights_from p 1 lists))) (sym same) (sights_from-has place 1 lists list h))
    ])

-- what is shown are rows
pub rows-sights_from : (rows place number : ℕ) (lists : List (List ScoredRow)) → place < rows → AllByRecursion (IsRanked rows) lists → (row : ℕ) → In row (map row_shown (sights_from place number lists)) → IsRow rows row
rows-sights_from rows place number [] within ranked row h = absurd h
rows-sights_from rows place number (list ∷ rest) within ranked row h = elim h [
  | inl same ↦ subst (IsRow rows) (sym same) (ranked-row rows list ranked.0 place within)
  | inr behind ↦ rows-sights_from rows place (suc number) rest within ranked.1 row behind
]

pub rows-sights : (rows places : ℕ) (lists : List (List ScoredRow)) → places ≤ rows → AllByRecursion (IsRanked rows) lists → (row : ℕ) → In row (map row_shown (sights lists places)) → IsRow rows row
rows-sights rows zero lists within ranked row h = absurd h
rows-sights rows (suc places) lists within ranked row h =
    elim (In-append row (map row_shown (sights lists places)) (map row_shown (sights_from places 1 lists))
    (subst (In row) (map-append row_shown (sights lists places) (sights_from places 1 lists)) h)) [
      | inl before ↦ rows-sights rows places lists (omega arith) ranked row before
      | inr last ↦ rows-sights_from rows places 1 lists (omega arith) ranked row last
    ]

-- what a whole round shows, and the part of it that some lists show
pub shown_by-none : (lists : List (List ScoredRow)) (rounds : ℕ) → shown_by lists rounds 0 ≡ sights lists rounds
shown_by-none lists rounds = append-nil (sights lists rounds)

pub shown_by-all : (lists : List (List ScoredRow)) (rounds count : ℕ) → count ≡ length lists → shown_by lists rounds count ≡ sights lists (suc rounds)
shown_by-all lists rounds count all =
    ap (λ part. sights lists rounds ++ part) (take_all count (sights_from rounds 1 lists) (let e = length-sights_from rounds 1 lists in omega arith))

pub shown_by-more : (lists : List (List ScoredRow)) (rounds i : ℕ) (list : List ScoredRow) → slice_get lists i ≡ Some list →
    shown_by lists rounds (suc i) ≡ shown_by lists rounds i ++ record { row = (entry_at rounds list).row; list = suc i } ∷ []
shown_by-more lists rounds i list e =
    let at = sights_from-at rounds 1 lists i list e in
    let n : 1 + i ≡ suc i = omega arith in
    ap (λ part. sights lists rounds ++ part)
    (take-snoc i (sights_from rounds 1 lists) (record { row = (entry_at rounds list).row; list = suc i }) (at ∙ ap (λ (k : ℕ). Some (record { row = (entry_at rounds list).row; list = k })) n))
    ∙ sym (append_assoc (sights lists rounds) (take i (sights_from rounds 1 lists)) (record { row = (entry_at rounds list).row; list = suc i } ∷ []))

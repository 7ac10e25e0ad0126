-- The parts of a search, sorted, are the fresh combinations.
use Rattle.std.proofs.Common.{ℕ, zero, suc, ◌≡◌, ◌∙◌, ◌+◌, ◌-◌, ◌<◌, ◌≤◌, ◌⊎◌, ◌||◌, ◌++◌, Bool, true, false, cond, nat_lt, List, [], ◌∷◌, length, get_or, replicate, refl, sym, ap, subst, inl, inr, arith}
use Rattle.std.specs.Int.Bits.{or_zero_r}
use Rattle.std.specs.List.{AllByRecursion, IsDistinct, filter, list_any}
use Rattle.std.specs.List.Sorted.{IsPermutation, IsSorted, IsStrictlySortedBy}
use Rattle.std.specs.Cmp.Lexicographic.{nat_list_cmp_total, slice_cmp}
use Rattle.std.specs.Ordering.{is_eq, is_lt, nat_cmp, ordering_reverse}
use Rattle.std.specs.declared.cmp.Ordering.{Ordering}
use Rattle.std.specs.declared.cmp.Ordering.TheVariants.{Less, Equal, Greater}
use Rattle.std.proofs.lemmas.Bool.{cases_lt, false≢true, lt-ltb, ltb-false, ltb-true, true≢false}
use Rattle.std.proofs.lemmas.Cmp.{tied_itself}
use Rattle.std.proofs.lemmas.List.Sorted.{list_any-IsPermutation, IsPermutation-sym}
use Rattle.std.proofs.lemmas.Map.Keys.{IsDistinct-IsPermutation, apart_from_distinct, sorted_from_all_adjacent}
use Rattle.std.proofs.lemmas.Map.Lookups.{exact_bytes}
use Rattle.std.proofs.lemmas.Nat.{or_comm}
use Rattle.std.proofs.lemmas.Nat.Bits.{bit_at_ones_above}
use Rattle.std.proofs.lemmas.Option.{unwrap_or-slice_get}
use Rattle.rs_order.specs.Climbing.{Climbs, In}
use Rattle.rs_order.proofs.ClimbingFacts.{Climbs-same}
use Rattle.rs_order.proofs.EachFacts.{each-filter}
use Rattle.rs_order.proofs.ItemFacts.{Climbs-filter, In-filter, In-filter-back}
use Rattle.rs_catalog.specs.Catalog.{CatalogDef}
use Rattle.rs_query.specs.declared.block.Block.{Block}
use Rattle.rs_query.specs.Combinations.{all_combinations, combinations, satisfies}
use Rattle.rs_query.specs.Fresh.{fresh_combinations, has_new_row}
use Rattle.rs_query.specs.Meaning.{is_inside}
use Rattle.rs_query.specs.Searching.{Adds, IsNewAt, IsNewBefore, same_rows}
use Rattle.rs_query.specs.Tables.{HasRows, all_entries, row_number, sizes_of}
use Rattle.rs_query.specs.WellFormed.{IsBlock}
use Rattle.rs_query.proofs.AddsFacts.{Adds-both, Adds-none, Adds-same}
use Rattle.rs_query.proofs.ChoiceFacts.{Climbs-combinations, In-combinations, In-combinations-back}
use Rattle.rs_query.proofs.ExtendFacts.{HasRows-combinations, IsChoice-length, satisfies-fails}
use Rattle.rs_query.proofs.GoFacts.{combination-row}
use Rattle.rs_query.proofs.MaskStepFacts.{IsChoice-outside, has-none, is_inside-more}

abbrev pub rows_cmp : List ℕ → List ℕ → Ordering
rows_cmp = slice_cmp nat_cmp

-- a list is among others where one of them is the same
same-In : (rows : List ℕ) (lists : List (List ℕ)) → list_any (same_rows rows) lists ≡ true → In rows lists
same-In rows [] any = absurd (false≢true any)
same-In rows (first ∷ lists) any = go (rows_cmp rows first) refl any (λ more. same-In rows lists more) where
  go : (o : Ordering) → rows_cmp rows first ≡ o → (is_eq o || list_any (same_rows rows) lists) ≡ true → (list_any (same_rows rows) lists ≡ true → In rows lists) → In rows (first ∷ lists)
  go Less e any others = inr (others any)
  go Equal e any others = inl (exact_bytes rows first e)
  go Greater e any others = inr (others any)

or-right : (b : Bool) → (b || true) ≡ true
or-right true = refl
or-right false = refl

In-same : (rows : List ℕ) (lists : List (List ℕ)) → In rows lists → list_any (same_rows rows) lists ≡ true
In-same rows [] h = absurd h
In-same rows (first ∷ lists) h = elim h [
  | inl e ↦
      ap (λ o. is_eq o || list_any (same_rows rows) lists) (ap (rows_cmp rows) (sym e) ∙ tied_itself nat_list_cmp_total rows)
  | inr k ↦ ap (λ b. same_rows rows first || b) (In-same rows lists k) ∙ or-right (same_rows rows first)
]

-- an exchange leaves each list among the others
In-moved : (xs ys : List (List ℕ)) (rows : List ℕ) → IsPermutation xs ys → In rows xs → In rows ys
In-moved xs ys rows moved h = same-In rows ys (sym (list_any-IsPermutation (same_rows rows) xs ys moved) ∙ In-same rows xs h)

-- lists that differ and don't fall rise
below : (x y : List ℕ) → is_lt (rows_cmp y x) ≡ false → same_rows x y ≡ false → rows_cmp x y ≡ Less
below x y up apart = go (rows_cmp x y) refl where
  go : (o : Ordering) → rows_cmp x y ≡ o → rows_cmp x y ≡ Less
  go Less e = e
  go Equal e = absurd (true≢false (sym (ap is_eq e) ∙ apart))
  go Greater e = absurd (true≢false (sym (ap is_lt (nat_list_cmp_total.antisymm y x ∙ ap ordering_reverse e)) ∙ up))

Climbs-strict : (lists : List (List ℕ)) → IsStrictlySortedBy rows_cmp lists → Climbs rows_cmp (λ rows. rows) lists
unfolding IsStrictlySortedBy
Climbs-strict [] s = tt
Climbs-strict (rows ∷ lists) s = (s.0, Climbs-strict lists s.1)

-- a sorted list in which none is twice climbs
Climbs-once : (lists : List (List ℕ)) → IsSorted rows_cmp lists → IsDistinct same_rows lists → Climbs rows_cmp (λ rows. rows) lists
Climbs-once lists sorted once =
    Climbs-strict lists
    (sorted_from_all_adjacent nat_list_cmp_total lists []
    (λ k within. below (get_or lists k []) (get_or lists (k + 1) []) (sorted k [] (omega arith) within)
    (apart_from_distinct same_rows lists k (k + 1) [] once (omega arith) within)))

same_rows-flips : (x y : List ℕ) → same_rows x y ≡ same_rows y x
same_rows-flips x y = ap is_eq (nat_list_cmp_total.antisymm x y) ∙ turned (rows_cmp y x) where
  turned : (o : Ordering) → is_eq (ordering_reverse o) ≡ is_eq o
  turned Less = refl
  turned Equal = refl
  turned Greater = refl

-- what was found of the combinations that pass a test, sorted, are these
pub found-sorted : (catalogue : CatalogDef) (block : Block) (test : List ℕ → Bool) (is : List ℕ → Type 0) (start found ordered : List (List ℕ)) → start ≡ [] → Adds is start found
    → IsPermutation found ordered → IsSorted rows_cmp ordered → ((rows : List ℕ) → is rows → In rows (filter test (all_combinations catalogue block)))
    → ((rows : List ℕ) → In rows (filter test (all_combinations catalogue block)) → is rows) → ordered ≡ filter test (all_combinations catalogue block)
found-sorted catalogue block test is start found ordered empty a moved sorted forth back =
    let all : found ≡ a.more = a.behind ∙ ap (λ list. list ++ a.more) empty in
    let once : IsDistinct same_rows found = subst (IsDistinct same_rows) (sym all) a.once in
    Climbs-same rows_cmp nat_list_cmp_total (λ rows. rows) ordered (filter test (all_combinations catalogue block))
    (Climbs-once ordered sorted (IsDistinct-IsPermutation same_rows same_rows-flips found ordered moved once))
    (Climbs-filter rows_cmp (λ rows. rows) test (all_combinations catalogue block) (Climbs-combinations catalogue block (sizes_of catalogue block) (all_entries block)))
    (λ rows h. forth rows ((a.each rows).0 (subst (In rows) all (In-moved ordered found rows (IsPermutation-sym found ordered moved) h))))
    (λ rows h. In-moved found ordered rows moved (subst (In rows) (sym all) ((a.each rows).1 (back rows h))))

-- the first entry with a new row, counted from 0
record FirstNew (old rows : List ℕ) : Type 0 where
  place : ℕ
  within : place < length old
  above : get_or old place 0 < get_or rows place 0
  before : (i : ℕ) → i < place → get_or rows i 0 ≤ get_or old i 0

before-later : (size row place : ℕ) (old rows : List ℕ) → row ≤ size → ((i : ℕ) → i < place → get_or rows i 0 ≤ get_or old i 0) → (i : ℕ) → i < suc place → get_or (row ∷ rows) i 0 ≤ get_or (size ∷ old) i 0
before-later size row place old rows none before zero less = none
before-later size row place old rows none before (suc i) less = before i (omega arith)

later : (size row : ℕ) (old rows : List ℕ) → row ≤ size → FirstNew old rows → FirstNew (size ∷ old) (row ∷ rows)
later size row old rows none first = record {
  place = suc first.place;
  within = omega (arith, first.within);
  above = first.above;
  before = before-later size row first.place old rows none first.before;
}

first-new : (old rows : List ℕ) → has_new_row old rows ≡ true → FirstNew old rows
first-new [] rows new = absurd (false≢true new)
first-new (size ∷ old) [] new = absurd (false≢true new)
first-new (size ∷ old) (row ∷ rows) new =
    (elim (nat_lt size row) as (λ b. nat_lt size row ≡ b → (b || has_new_row old rows) ≡ true → FirstNew (size ∷ old) (row ∷ rows)) [
      | true ↦ λ e any. record { place = 0; within = (let some : 0 < suc (length old) = omega arith in some); above = ltb-true size row e; before = λ i less. absurd (omega arith) }
      | false ↦ λ e any. later size row old rows (ltb-false size row e) (first-new old rows any)
    ]) refl new

new-at : (old rows : List ℕ) (i : ℕ) → i < length old → i < length rows → get_or old i 0 < get_or rows i 0 → has_new_row old rows ≡ true
new-at [] rows i within within_rows above = absurd (omega arith)
new-at (size ∷ old) [] i within within_rows above = absurd (omega arith)
new-at (size ∷ old) (row ∷ rows) zero within within_rows above = ap (λ b. b || has_new_row old rows) (lt-ltb size row above)
new-at (size ∷ old) (row ∷ rows) (suc i) within within_rows above =
    ap (λ b. nat_lt size row || b) (new-at old rows i (omega arith) (omega arith) above) ∙ or-right (nat_lt size row)

module _ (catalogue : CatalogDef) (block : Block) (old : List ℕ) where
  pub before-none : (found : List (List ℕ)) → Adds (IsNewBefore catalogue block old 0) found found
  before-none found = Adds-none (IsNewBefore catalogue block old 0) found (λ rows new. (let some = new.least in let none = new.most in omega arith))

  -- those of one entry more join the others
  pub before-more : (bound : ℕ) (start middle new : List (List ℕ)) → bound < length block.from → Adds (IsNewBefore catalogue block old bound) start middle
      → Adds (IsNewAt catalogue block old (bound + 1)) middle new → Adds (IsNewBefore catalogue block old (bound + 1)) start new
  before-more bound start middle new within a b =
      Adds-both (IsNewBefore catalogue block old bound) (IsNewAt catalogue block old (bound + 1)) (IsNewBefore catalogue block old (bound + 1)) start middle new a b
      (λ rows. (forth rows, back rows))
      (λ rows others first second same.
      let some = first.least in
      let most = first.most in
      let fresh = (first.new_at.part first.pivot some (let le : first.pivot ≤ length block.from = omega arith in le)).new refl in
      let stale = (second.part first.pivot some (let le : first.pivot ≤ length block.from = omega arith in le)).old_ones (omega arith) in
      let row = ap (λ z. row_number z first.pivot) same in
      omega arith)
    where
      forth : (rows : List ℕ) → IsNewBefore catalogue block old (bound + 1) rows → IsNewBefore catalogue block old bound rows ⊎ IsNewAt catalogue block old (bound + 1) rows
      forth rows before = elim (cases_lt bound before.pivot) [
        | inl beyond ↦ inr (subst (λ pivot. IsNewAt catalogue block old pivot rows) (let most = before.most in let e : before.pivot ≡ bound + 1 = omega arith in e) before.new_at)
        | inr inside ↦ inl (record { pivot = before.pivot; least = before.least; most = inside; new_at = before.new_at })
      ]

      back : (rows : List ℕ) → (IsNewBefore catalogue block old bound rows ⊎ IsNewAt catalogue block old (bound + 1) rows) → IsNewBefore catalogue block old (bound + 1) rows
      back rows h = elim h [
        | inl before ↦ record { pivot = before.pivot; least = before.least; most = (let most = before.most in omega arith); new_at = before.new_at }
        | inr at ↦ record { pivot = bound + 1; least = omega arith; most = omega arith; new_at = at }
      ]

  -- each fresh combination has a new row
  pub fresh-back : (rows : List ℕ) → In rows (fresh_combinations catalogue block old (sizes_of catalogue block)) → IsNewBefore catalogue block old (length block.from) rows
  fresh-back rows h =
      let both = In-filter-back (has_new_row old) rows (combinations catalogue block (sizes_of catalogue block) (all_entries block)) h in
      let parts = In-combinations-back catalogue block (sizes_of catalogue block) (all_entries block) rows both.0 in
      let first = first-new old rows both.1 in
      record {
        pivot = first.place + 1;
        least = omega arith;
        most = elim (cases_lt first.place (length block.from)) [
          | inl within ↦ omega arith
          | inr beyond ↦
              let none = IsChoice-outside first.place (all_entries block) (sizes_of catalogue block) rows parts.0 (bit_at_ones_above (length block.from) first.place beyond) in
              let above = first.above in
              absurd (omega arith)
        ];
        new_at = record {
          combination = record { choice = parts.0; satisfied = parts.1 };
          part = λ entry some within. record {
            new = λ e.
                let place : entry - 1 ≡ first.place = omega arith in
                let above = first.above in
                let old_at : row_number old entry ≡ get_or old first.place 0 = unwrap_or-slice_get old (entry - 1) 0 ∙ ap (λ i. get_or old i 0) place in
                let row_at : row_number rows entry ≡ get_or rows first.place 0 = unwrap_or-slice_get rows (entry - 1) 0 ∙ ap (λ i. get_or rows i 0) place in
                omega arith;
            old_ones = λ less.
                let before = first.before (entry - 1) (omega arith) in
                let old_at : row_number old entry ≡ get_or old (entry - 1) 0 = unwrap_or-slice_get old (entry - 1) 0 in
                let row_at : row_number rows entry ≡ get_or rows (entry - 1) 0 = unwrap_or-slice_get rows (entry - 1) 0 in
                omega arith;
          };
        };
      }

module _ (catalogue : CatalogDef) (block : Block) (is : IsBlock catalogue block) where
  -- no rows satisfy the conditions where one without columns fails
  none-satisfied : (rows : List ℕ) → satisfies catalogue block 0 (replicate 6 0) ≡ false → satisfies catalogue block (all_entries block) rows ≡ false
  none-satisfied rows fails =
      satisfies-fails catalogue block 0 (all_entries block) (replicate 6 0) rows (λ entry some has. absurd (has-none entry has)) (λ e inside. inside-any e inside) is.conjuncts fails
    where
      inside-any : (e : ℕ) → is_inside e 0 ≡ true → is_inside e (all_entries block) ≡ true
      inside-any e inside = subst (λ m. is_inside e m ≡ true) (or_comm 0 (all_entries block) ∙ or_zero_r (all_entries block)) (is_inside-more 0 (all_entries block) e inside)

  pub fails-none : satisfies catalogue block 0 (replicate 6 0) ≡ false → all_combinations catalogue block ≡ []
  fails-none fails = none (all_combinations catalogue block) (λ rows h. (In-combinations-back catalogue block (sizes_of catalogue block) (all_entries block) rows h).1) where
    none : (lists : List (List ℕ)) → ((rows : List ℕ) → In rows lists → satisfies catalogue block (all_entries block) rows ≡ true) → lists ≡ []
    none [] each = refl
    none (rows ∷ lists) each = absurd (true≢false (sym (each rows (inl refl)) ∙ none-satisfied rows fails))

module _ (catalogue : CatalogDef) (block : Block) (is : IsBlock catalogue block) (old : List ℕ) where
  -- there is none where a condition without columns fails
  pub before-fails : (bound : ℕ) (found : List (List ℕ)) → satisfies catalogue block 0 (replicate 6 0) ≡ false → Adds (IsNewBefore catalogue block old bound) found found
  before-fails bound found fails =
      Adds-none (IsNewBefore catalogue block old bound) found
      (λ rows new. true≢false (sym new.new_at.combination.satisfied ∙ none-satisfied catalogue block is rows fails))

  -- behind an entry of which an old view has no row there is none more
  pub before-all : (bound : ℕ) (start new : List (List ℕ)) → 1 ≤ bound → bound ≤ length block.from → row_number old bound ≡ 0
      → Adds (IsNewBefore catalogue block old bound) start new → Adds (IsNewBefore catalogue block old (length block.from)) start new
  before-all bound start new some most empty a =
      Adds-same (IsNewBefore catalogue block old bound) (IsNewBefore catalogue block old (length block.from)) start new
      (λ rows. (
        (λ before. record { pivot = before.pivot; least = before.least; most = (let le = before.most in omega arith); new_at = before.new_at }),
        back rows,
      )) a
    where
      back : (rows : List ℕ) → IsNewBefore catalogue block old (length block.from) rows → IsNewBefore catalogue block old bound rows
      back rows before = record {
        pivot = before.pivot;
        least = before.least;
        most = elim (cases_lt bound before.pivot) [
          | inl beyond ↦
              let stale = (before.new_at.part bound some most).old_ones beyond in
              let row = combination-row catalogue block is rows before.new_at.combination bound some most in
              let there = row.0 in
              absurd (omega arith)
          | inr within ↦ within
        ];
        new_at = before.new_at;
      }

  -- and a combination with a new row is fresh
  fresh-forth : (rows : List ℕ) → length old ≡ 6 → IsNewBefore catalogue block old (length block.from) rows → In rows (fresh_combinations catalogue block old (sizes_of catalogue block))
  fresh-forth rows six new =
      let combination = new.new_at.combination in
      let sized : length rows ≡ 6 = IsChoice-length (all_entries block) (sizes_of catalogue block) rows combination.choice in
      let few = is.most_entries in
      let most = new.most in
      let above : row_number old new.pivot < row_number rows new.pivot = (new.new_at.part new.pivot new.least most).new refl in
      let old_at : row_number old new.pivot ≡ get_or old (new.pivot - 1) 0 = unwrap_or-slice_get old (new.pivot - 1) 0 in
      let row_at : row_number rows new.pivot ≡ get_or rows (new.pivot - 1) 0 = unwrap_or-slice_get rows (new.pivot - 1) 0 in
      In-filter (has_new_row old) rows (combinations catalogue block (sizes_of catalogue block) (all_entries block))
      (In-combinations catalogue block (sizes_of catalogue block) (all_entries block) rows combination.choice combination.satisfied)
      (new-at old rows (new.pivot - 1) (let some = new.least in omega arith) (let some = new.least in omega arith) (omega arith))

  -- what was found, sorted, are the fresh combinations
  pub fresh-found : (start found ordered : List (List ℕ)) → length old ≡ 6 → start ≡ [] → Adds (IsNewBefore catalogue block old (length block.from)) start found
      → IsPermutation found ordered → IsSorted rows_cmp ordered → ordered ≡ fresh_combinations catalogue block old (sizes_of catalogue block)
  fresh-found start found ordered six empty a moved sorted =
      found-sorted catalogue block (has_new_row old) (IsNewBefore catalogue block old (length block.from)) start found ordered empty a moved sorted
      (λ rows. fresh-forth rows six) (fresh-back catalogue block old)

-- a test that each item passes leaves all
pub filter-each : {X : Type 0} (p : X → Bool) (xs : List X) → ((x : X) → In x xs → p x ≡ true) → filter p xs ≡ xs
filter-each p [] each = refl
filter-each p (x ∷ xs) each =
    ap (λ b. cond b (x ∷ filter p xs) (filter p xs)) (each x (inl refl)) ∙ ap (λ rest. x ∷ rest) (filter-each p xs (λ y h. each y (inr h)))

-- from an empty view all combinations are fresh
pub fresh-all : (catalogue : CatalogDef) (block : Block) → IsBlock catalogue block → fresh_combinations catalogue block (replicate 6 0) (sizes_of catalogue block) ≡ all_combinations catalogue block
fresh-all catalogue block is =
    filter-each (has_new_row (replicate 6 0)) (all_combinations catalogue block)
    (λ rows h.
    let parts = In-combinations-back catalogue block (sizes_of catalogue block) (all_entries block) rows h in
    let sized : length rows ≡ 6 = IsChoice-length (all_entries block) (sizes_of catalogue block) rows parts.0 in
    let row = combination-row catalogue block is rows (record { choice = parts.0; satisfied = parts.1 }) 1 (omega arith) is.some_entries in
    let at : row_number rows 1 ≡ get_or rows 0 0 = unwrap_or-slice_get rows 0 0 in
    let some = row.0 in
    new-at (replicate 6 0) rows 0 (omega arith) (omega arith) (omega arith))

-- each fresh combination has a row of each entry
pub HasRows-fresh : (catalogue : CatalogDef) (block : Block) (old : List ℕ) → length block.from ≤ 6
    → AllByRecursion (HasRows catalogue block (all_entries block)) (fresh_combinations catalogue block old (sizes_of catalogue block))
HasRows-fresh catalogue block old most =
    each-filter (HasRows catalogue block (all_entries block)) (has_new_row old) (all_combinations catalogue block) (HasRows-combinations catalogue block most)

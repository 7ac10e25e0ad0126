-- Drawing rows until one passes.
use Rattle.std.proofs.Common.{◌≡◌, ◌∙◌, ℕ, zero, suc, ◌+◌, ◌≤◌, Bool, true, false, not, cond, eqb, eq-eqb, List, [], ◌∷◌, length, map, drop, refl, sym, ap, arith}
use Rattle.std.specs.Prelude.{Some, option_map, slice_get, unwrap_or}
use Rattle.std.proofs.lemmas.Bool.{eqb-true}
use Rattle.std.specs.List.{AllByRecursion, filter, position_or_len}
use Rattle.rs_rank.specs.declared.row.RankRow.{RankRow}
use Rattle.rs_query.specs.Questions.{first_of, through_first}
use Rattle.rs_rank.specs.declared.scored_row.ScoredRow.{ScoredRow}
use Rattle.rs_catalog.specs.Indexes.{RowsDiffer}
use Rattle.rs_scan.specs.Scans.{entry_row, rows_from, scored}
use Rattle.rs_plan.specs.Counts.{place_in_index, place_in_table}

module _ {A : Type 0} (is : A → Bool) where
  -- how many are drawn until this many pass, or all
  abbrev pub drawn_for : List A → ℕ → ℕ
  drawn_for [] n = 0
  drawn_for (x ∷ xs) zero = 0
  drawn_for (x ∷ xs) (suc n) = suc (cond (is x) (drawn_for xs n) (drawn_for xs (suc n)))

  -- no more are drawn than there are
  pub drawn_for-most : (xs : List A) (n : ℕ) → drawn_for xs n ≤ length xs
  drawn_for-most [] n = omega arith
  drawn_for-most (x ∷ xs) zero = omega arith
  drawn_for-most (x ∷ xs) (suc n) =
      let less = drawn_for-most xs n in
      let more = drawn_for-most xs (suc n) in
      elim (is x) as (λ b. suc (cond b (drawn_for xs n) (drawn_for xs (suc n))) ≤ suc (length xs)) [ true ↦ omega arith | false ↦ omega arith ]

  -- for no row nothing is drawn
  drawn_for-none : (xs : List A) → drawn_for xs 0 ≡ 0
  drawn_for-none [] = refl
  drawn_for-none (x ∷ xs) = refl

  -- the first that passes behind them is the next of those that pass
  pub first_of-drawn : (xs : List A) (n : ℕ) → first_of is (drop (drawn_for xs n) xs) ≡ slice_get (filter is xs) n
  first_of-drawn [] n = refl
  first_of-drawn (x ∷ xs) zero =
      elim (is x) as (λ b. cond b (Some x) (first_of is xs) ≡ slice_get (cond b (x ∷ filter is xs) (filter is xs)) 0) [
        | true ↦ refl
        | false ↦ ap (λ k. first_of is (drop k xs)) (sym (drawn_for-none xs)) ∙ first_of-drawn xs 0
      ]
  first_of-drawn (x ∷ xs) (suc n) =
      elim (is x) as (λ b. first_of is (drop (cond b (drawn_for xs n) (drawn_for xs (suc n))) xs) ≡ slice_get (cond b (x ∷ filter is xs) (filter is xs)) (suc n)) [
        | true ↦ first_of-drawn xs n
        | false ↦ first_of-drawn xs (suc n)
      ]

  -- and up to it this many are drawn
  pub through_first-drawn : (xs : List A) (n : ℕ) → drawn_for xs n + length (through_first is (drop (drawn_for xs n) xs)) ≡ drawn_for xs (suc n)
  through_first-drawn [] n = refl
  through_first-drawn (x ∷ xs) zero =
      elim (is x) as (λ b. 0 + length (x ∷ cond b [] (through_first is xs)) ≡ suc (cond b (drawn_for xs 0) (drawn_for xs 1))) [
        | true ↦ let none = drawn_for-none xs in omega arith
        | false ↦
            let none = drawn_for-none xs in
            let same : length (through_first is (drop (drawn_for xs 0) xs)) ≡ length (through_first is xs) = ap (λ k. length (through_first is (drop k xs))) none in
            let rest = through_first-drawn xs 0 in
            omega arith
      ]
  through_first-drawn (x ∷ xs) (suc n) =
      elim (is x) as (λ b. suc (cond b (drawn_for xs n) (drawn_for xs (suc n))) + length (through_first is (drop (cond b (drawn_for xs n) (drawn_for xs (suc n))) xs))
      ≡ suc (cond b (drawn_for xs (suc n)) (drawn_for xs (suc (suc n))))) [
        | true ↦ let rest = through_first-drawn xs n in omega arith
        | false ↦ let rest = through_first-drawn xs (suc n) in omega arith
      ]

module _ (is : RankRow → Bool) (block entry : ℕ) (at : (number : ℕ) → place_in_table entry (entry_row block entry number 0) ≡ number) where
  -- of the rows of a table, from one on, it is the number of the row that is given, or all
  pub drawn_for-table : (before count n : ℕ)
      → before + drawn_for is (rows_from block entry (suc before) count) (suc n)
      ≡ unwrap_or (option_map (place_in_table entry) (slice_get (filter is (rows_from block entry (suc before) count)) n)) (before + count)
  drawn_for-table before zero n = refl
  drawn_for-table before (suc count) n = go (drawn_for-table (suc before) count) (is (entry_row block entry (suc before) 0)) n where
    all : before + suc count ≡ suc before + count
    all = omega arith

    go : ((k : ℕ) → suc before + drawn_for is (rows_from block entry (suc (suc before)) count) (suc k)
        ≡ unwrap_or (option_map (place_in_table entry) (slice_get (filter is (rows_from block entry (suc (suc before)) count)) k)) (suc before + count))
        → (b : Bool) (n : ℕ)
        → before + suc (cond b (drawn_for is (rows_from block entry (suc (suc before)) count) n) (drawn_for is (rows_from block entry (suc (suc before)) count) (suc n)))
        ≡ unwrap_or (option_map (place_in_table entry)
        (slice_get (cond b (entry_row block entry (suc before) 0 ∷ filter is (rows_from block entry (suc (suc before)) count)) (filter is (rows_from block entry (suc (suc before)) count))) n))
        (before + suc count)
    go rest_of true zero =
        let none = drawn_for-none is (rows_from block entry (suc (suc before)) count) in
        let place = at (suc before) in
        omega arith
    go rest_of true (suc n) =
        let rest = rest_of n in
        let shift : before + suc (drawn_for is (rows_from block entry (suc (suc before)) count) (suc n)) ≡ suc before + drawn_for is (rows_from block entry (suc (suc before)) count) (suc n) = omega arith in
        shift ∙ rest
        ∙ ap (unwrap_or (option_map (place_in_table entry) (slice_get (filter is (rows_from block entry (suc (suc before)) count)) n))) (sym all)
    go rest_of false n =
        let rest = rest_of n in
        let shift : before + suc (drawn_for is (rows_from block entry (suc (suc before)) count) (suc n)) ≡ suc before + drawn_for is (rows_from block entry (suc (suc before)) count) (suc n) = omega arith in
        shift ∙ rest
        ∙ ap (unwrap_or (option_map (place_in_table entry) (slice_get (filter is (rows_from block entry (suc (suc before)) count)) n))) (sym all)

-- a row of an index stands at one place of it
module _ (is : RankRow → Bool) (block entry weight : ℕ) (at : (e : ScoredRow) → place_in_table entry (scored block entry weight e) ≡ e.row) where
  -- behind an entry of another row it stands one place further on
  place-behind : (first e : ScoredRow) (es : List ScoredRow) → (first.row ≡ e.row → ⊥)
      → place_in_index (first ∷ es) entry (scored block entry weight e) ≡ suc (place_in_index es entry (scored block entry weight e))
  place-behind first e es other = go (eqb first.row (place_in_table entry (scored block entry weight e))) refl where
    go : (b : Bool) → eqb first.row (place_in_table entry (scored block entry weight e)) ≡ b
        → suc (cond (not b) (1 + position_or_len (λ (x : ScoredRow). eqb x.row (place_in_table entry (scored block entry weight e))) es) 0)
        ≡ suc (suc (position_or_len (λ (x : ScoredRow). eqb x.row (place_in_table entry (scored block entry weight e))) es))
    go true same = absurd (other (eqb-true first.row (place_in_table entry (scored block entry weight e)) same ∙ at e))
    go false differs = omega arith

  place-first : (e : ScoredRow) (es : List ScoredRow) → place_in_index (e ∷ es) entry (scored block entry weight e) ≡ 1
  place-first e es = ap (λ b. suc (cond (not b) (1 + position_or_len (λ (x : ScoredRow). eqb x.row (place_in_table entry (scored block entry weight e))) es) 0))
      (eq-eqb e.row (place_in_table entry (scored block entry weight e)) (sym (at e)))

  -- so it is for each row that passes
  place-rest : (first : ScoredRow) (es all : List ScoredRow) (n : ℕ) → AllByRecursion (λ (e : ScoredRow). first.row ≡ e.row → ⊥) es
      → unwrap_or (option_map (place_in_index (first ∷ all) entry) (slice_get (filter is (map (scored block entry weight) es)) n)) (suc (length all))
      ≡ suc (unwrap_or (option_map (place_in_index all entry) (slice_get (filter is (map (scored block entry weight) es)) n)) (length all))
  place-rest first [] all n differ = refl
  place-rest first (e ∷ es) all n differ = go (λ k. place-rest first es all k differ.1) (is (scored block entry weight e)) n where
    go : ((k : ℕ) → unwrap_or (option_map (place_in_index (first ∷ all) entry) (slice_get (filter is (map (scored block entry weight) es)) k)) (suc (length all))
        ≡ suc (unwrap_or (option_map (place_in_index all entry) (slice_get (filter is (map (scored block entry weight) es)) k)) (length all)))
        → (b : Bool) (n : ℕ)
        → unwrap_or (option_map (place_in_index (first ∷ all) entry)
        (slice_get (cond b (scored block entry weight e ∷ filter is (map (scored block entry weight) es)) (filter is (map (scored block entry weight) es))) n)) (suc (length all))
        ≡ suc (unwrap_or (option_map (place_in_index all entry)
        (slice_get (cond b (scored block entry weight e ∷ filter is (map (scored block entry weight) es)) (filter is (map (scored block entry weight) es))) n)) (length all))
    go rest true zero = place-behind first e all differ.0
    go rest true (suc n) = rest n
    go rest false n = rest n

  -- of the rows of an index it is the place of the row that is given, or all
  pub drawn_for-index : (es : List ScoredRow) (n : ℕ) → RowsDiffer es
      → drawn_for is (map (scored block entry weight) es) (suc n)
      ≡ unwrap_or (option_map (place_in_index es entry) (slice_get (filter is (map (scored block entry weight) es)) n)) (length es)
  drawn_for-index [] n differ = refl
  drawn_for-index (e ∷ es) n differ = go (λ k. drawn_for-index es k differ.1) (is (scored block entry weight e)) n where
    go : ((k : ℕ) → drawn_for is (map (scored block entry weight) es) (suc k)
        ≡ unwrap_or (option_map (place_in_index es entry) (slice_get (filter is (map (scored block entry weight) es)) k)) (length es))
        → (b : Bool) (n : ℕ)
        → suc (cond b (drawn_for is (map (scored block entry weight) es) n) (drawn_for is (map (scored block entry weight) es) (suc n)))
        ≡ unwrap_or (option_map (place_in_index (e ∷ es) entry)
        (slice_get (cond b (scored block entry weight e ∷ filter is (map (scored block entry weight) es)) (filter is (map (scored block entry weight) es))) n)) (suc (length es))
    go rest true zero = ap suc (drawn_for-none is (map (scored block entry weight) es)) ∙ sym (place-first e es)
    go rest true (suc n) = ap suc (rest n) ∙ sym (place-rest e es es n differ.0)
    go rest false n = ap suc (rest n) ∙ sym (place-rest e es es n differ.0)

-- a row of the table of an entry has its number at the entry
pub place-row_of : (block entry number : ℕ) → 1 ≤ entry → entry ≤ 6 → place_in_table entry (entry_row block entry number 0) ≡ number
place-row_of block zero number some few = absurd (omega arith)
place-row_of block (suc zero) number some few = refl
place-row_of block (suc (suc zero)) number some few = refl
place-row_of block (suc (suc (suc zero))) number some few = refl
place-row_of block (suc (suc (suc (suc zero)))) number some few = refl
place-row_of block (suc (suc (suc (suc (suc zero))))) number some few = refl
place-row_of block (suc (suc (suc (suc (suc (suc zero)))))) number some few = refl
place-row_of block (suc (suc (suc (suc (suc (suc (suc entry))))))) number some few = absurd (omega arith)

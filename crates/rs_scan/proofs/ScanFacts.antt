-- What holds of the rows of scans.
use Rattle.std.proofs.Common.{◌≡◌, ℕ, zero, suc, ◌+◌, ◌-◌, ◌<◌, ◌≤◌, List, length, get_or, set, Some, refl, sym, ◌∙◌, ap, arith}
use Rattle.std.specs.Prelude.{slice_get}
use Rattle.std.specs.List.{AllByRecursion}
use Rattle.std.specs.Cmp.{nat_cmp_is}
use Rattle.std.specs.Cmp.Lexicographic.{slice_cmp}
use Rattle.std.specs.Ordering.{nat_cmp, ordering_then}
use Rattle.std.specs.declared.cmp.Ordering.TheVariants.{Less}
use Rattle.std.proofs.lemmas.List.{get_or-set_same}
use Rattle.rs_order.specs.Climbing.{Climbs, Precedes as ComesBefore}
use Rattle.rs_rank.specs.declared.key.Key.{Key}
use Rattle.rs_rank.specs.declared.weights.Weights.{Weights}
use Rattle.rs_rank.specs.Ids.{AreOtherIds, IsIds}
use Rattle.rs_rank.specs.Keys.{ids_cmp, key_cmp}
use Rattle.rs_rank.specs.Rows.{HasSum, HaveOtherIds, key_of}
use Rattle.rs_rank.proofs.PlaceFacts.{number-itself, set-ordered, zeros}
use Rattle.rs_scan.specs.Scans.{IsEntryNumber, entry_row, rows_from}

-- the rows at the places of a table
pub slice_get-rows_from : (block entry first count i : ℕ) → i < count → slice_get (rows_from block entry first count) i ≡ Some (entry_row block entry (first + i) 0)
slice_get-rows_from block entry first zero i within = absurd (omega arith)
slice_get-rows_from block entry first (suc count) zero within = let e : first + 0 ≡ first = omega arith in rw e refl
slice_get-rows_from block entry first (suc count) (suc i) within =
    let e : first + suc i ≡ suc first + i = omega arith in
    rw e (slice_get-rows_from block entry (suc first) count i (omega arith))

pub length-rows_from : (block entry first count : ℕ) → length (rows_from block entry first count) ≡ count
length-rows_from block entry first zero = refl
length-rows_from block entry first (suc count) = let e = length-rows_from block entry (suc first) count in omega arith

-- lists that differ at one place are equal only where the same stands there
set-same : (xs : List ℕ) (i a b : ℕ) → i < length xs → set xs i a ≡ set xs i b → a ≡ b
set-same xs i a b within e = sym (get_or-set_same xs i a 0 within) ∙ ap (λ ys. get_or ys i 0) e ∙ get_or-set_same xs i b 0 within

module _ (block entry : ℕ) (is_entry : IsEntryNumber entry) where
  place-within : entry - 1 < length zeros
  place-within = let least = is_entry.least in let most = is_entry.most in omega arith

  -- rows of one entry with other numbers have other ids
  pub other-ids : (a b sum other_sum : ℕ) → (a ≡ b → ⊥) → AreOtherIds (entry_row block entry a sum).ids (entry_row block entry b other_sum).ids
  other-ids a b sum other_sum apart = λ same rows. apart (set-same zeros (entry - 1) a b place-within rows)

  -- the ids are those of the one entry
  pub ids-of_one : (number sum : ℕ) → IsIds (entry_row block entry number sum).ids
  ids-of_one number sum = go entry is_entry.least is_entry.most where
    go : (e : ℕ) → 1 ≤ e → e ≤ 6 → IsIds (entry_row block e number sum).ids
    go zero least most = absurd (omega arith)
    go (suc zero) least most = record { sized = refl; entries = omega arith; within = (λ even. cc, (λ even. refl, (λ even. refl, (λ even. refl, (λ even. refl, (λ even. refl, tt)))))) }
    go (suc (suc zero)) least most = record { sized = refl; entries = omega arith; within = (λ even. refl, (λ even. cc, (λ even. refl, (λ even. refl, (λ even. refl, (λ even. refl, tt)))))) }
    go (suc (suc (suc zero))) least most = record { sized = refl; entries = omega arith; within = (λ even. refl, (λ even. refl, (λ even. cc, (λ even. refl, (λ even. refl, (λ even. refl, tt)))))) }
    go (suc (suc (suc (suc zero)))) least most = record { sized = refl; entries = omega arith; within = (λ even. refl, (λ even. refl, (λ even. refl, (λ even. cc, (λ even. refl, (λ even. refl, tt)))))) }
    go (suc (suc (suc (suc (suc zero))))) least most = record { sized = refl; entries = omega arith; within = (λ even. refl, (λ even. refl, (λ even. refl, (λ even. refl, (λ even. cc, (λ even. refl, tt)))))) }
    go (suc (suc (suc (suc (suc (suc zero)))))) least most = record { sized = refl; entries = omega arith; within = (λ even. refl, (λ even. refl, (λ even. refl, (λ even. refl, (λ even. refl, (λ even. cc, tt)))))) }
    go (suc (suc (suc (suc (suc (suc (suc e))))))) least most = absurd (omega arith)

  -- rows of equal sums are ordered by their numbers
  pub same-sum : (weights : Weights) (terms a b sum : ℕ) → a < b → key_cmp (key_of weights terms (entry_row block entry a sum)) (key_of weights terms (entry_row block entry b sum)) ≡ Less
  same-sum weights terms a b sum less =
      let key : ℕ → Key = λ n. key_of weights terms (entry_row block entry n sum) in
      ap (λ o. ordering_then o (ids_cmp (key a).ids (key b).ids)) (number-itself (key a).bound)
      ∙ ap (λ o. ordering_then o (slice_cmp nat_cmp (key a).ids.rows (key b).ids.rows)) (number-itself block)
      ∙ set-ordered zeros (entry - 1) a b place-within
      ∙ sym (nat_cmp_is a b Less less)

  -- and the greater sum comes first
  pub greater-sum : (weights : Weights) (terms a b sum other : ℕ) → other < sum → key_cmp (key_of weights terms (entry_row block entry a sum)) (key_of weights terms (entry_row block entry b other)) ≡ Less
  greater-sum weights terms a b sum other less =
      let left : Key = key_of weights terms (entry_row block entry a sum) in
      let right : Key = key_of weights terms (entry_row block entry b other) in
      ap (λ o. ordering_then o (ids_cmp left.ids right.ids)) (sym (nat_cmp_is right.bound left.bound Less (omega arith)))

  -- the rows of a table
  table-behind : (weights : Weights) (number first count : ℕ) → number < first
      → AllByRecursion (ComesBefore key_cmp (key_of weights 0) (entry_row block entry number 0)) (rows_from block entry first count)
  table-behind weights number first zero less = tt
  table-behind weights number first (suc count) less = (same-sum weights 0 number first 0 less, table-behind weights number (suc first) count (omega arith))

  pub table-climbs : (weights : Weights) (first count : ℕ) → Climbs key_cmp (key_of weights 0) (rows_from block entry first count)
  table-climbs weights first zero = tt
  table-climbs weights first (suc count) = (table-behind weights first (suc first) count (omega arith), table-climbs weights (suc first) count)

  pub table-ids : (first count : ℕ) → AllByRecursion (λ row. IsIds row.ids) (rows_from block entry first count)
  table-ids first zero = tt
  table-ids first (suc count) = (ids-of_one first 0, table-ids (suc first) count)

  table-apart : (number first count : ℕ) → number < first → AllByRecursion (λ other. AreOtherIds (entry_row block entry number 0).ids other.ids) (rows_from block entry first count)
  table-apart number first zero less = tt
  table-apart number first (suc count) less =
      (other-ids number first 0 0 (λ e. omega arith), table-apart number (suc first) count (omega arith))

  pub table-others : (first count : ℕ) → HaveOtherIds (rows_from block entry first count)
  table-others first zero = tt
  table-others first (suc count) = (table-apart first (suc first) count (omega arith), table-others (suc first) count)

-- each has the sum 0
pub table-sums : (weights : Weights) (block entry first count : ℕ) → AllByRecursion (HasSum weights 0) (rows_from block entry first count)
table-sums weights block entry first zero = tt
table-sums weights block entry first (suc count) = (omega arith, table-sums weights block entry (suc first) count)

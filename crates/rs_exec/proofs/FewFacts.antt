-- A list has no more rows than the tables of its entries can make.
use Rattle.std.proofs.Common.{◌≡◌, ℕ, zero, suc, ◌*◌, ◌/◌, ◌%◌, ◌^◌, ◌≤◌, Bool, true, false, cond, eqb, List, [], ◌∷◌, length, map, bit_or, refl, sym, ap, subst, arith}
use Rattle.std.specs.Prelude.{not}
use Rattle.std.specs.List.{AllByRecursion, flat_map}
use Rattle.std.proofs.lemmas.List.{length-append, length-map}
use Rattle.std.proofs.lemmas.Nat.{mul-le}
pub use Rattle.rs_order.proofs.ItemFacts.{filter-less}
use Rattle.rs_rank.specs.Masks.{mask_of}
use Rattle.rs_rank.specs.declared.answer.Answer.{Answer}
use Rattle.rs_rank.specs.declared.ids.Ids.{Ids}
use Rattle.rs_query.specs.Answers.{base_of, distinct_if, firsts, answer_row}
use Rattle.rs_outputs.specs.Seen.{same_values}
use Rattle.rs_query.specs.Combinations.{choices, combinations, numbers_to, satisfies}
use Rattle.rs_query.specs.Tables.{all_entries, sizes_of}
use Rattle.rs_plan.specs.Lists.{World, numbered_block, sizes_in, sources}
use Rattle.rs_plan.specs.Plans.{IsPart}
use Rattle.rs_plan.specs.Trees.{Distinct, JoinOperator, Rank, RankScan, SeqScan, SetOperator, PlanTree, entries}

pub length-firsts : (rows : List Answer) → length (firsts rows) ≤ length rows
length-firsts [] = omega arith
length-firsts (row ∷ rows) =
    let rest = length-firsts rows in
    let kept = filter-less (λ (other : Answer). not (same_values row.values other.values)) (firsts rows) in
    omega arith

length-numbers_to : (n : ℕ) → length (numbers_to n) ≡ n
length-numbers_to zero = refl
length-numbers_to (suc n) = let rest = length-numbers_to n in let more = length-append (numbers_to n) (suc n ∷ []) in omega arith

-- a list for each item, each of one length
length-flat_map : {A B : Type 0} (f : A → List B) (m : ℕ) (xs : List A) → ((x : A) → length (f x) ≡ m) → length (flat_map f xs) ≡ length xs * m
length-flat_map f m [] same = omega arith
length-flat_map f m (x ∷ xs) same =
    let rest = length-flat_map f m xs same in
    let one = same x in
    let all = length-append (f x) (flat_map f xs) in
    omega arith

-- the product of this many tables
abbrev most : List ℕ → ℕ
most [] = 1
most (size ∷ sizes) = 131072 * most sizes

choices-few : (mask : ℕ) (sizes : List ℕ) → AllByRecursion (λ size. size ≤ 131072) sizes → length (choices mask sizes) ≤ most sizes
choices-few mask [] few = omega arith
choices-few mask (size ∷ sizes) few =
    let rest = choices-few (mask / 2) sizes few.1 in
    let numbers = cond (eqb (mask % 2) 0) (0 ∷ []) (numbers_to size) in
    let count : length (cond (eqb (mask % 2) 0) (0 ∷ []) (numbers_to size)) ≤ 131072 =
    (let all = length-numbers_to size in
    let small = few.0 in
    elim (eqb (mask % 2) 0) as (λ b. length (cond b (0 ∷ []) (numbers_to size)) ≤ 131072) [ true ↦ omega arith | false ↦ omega arith ]) in
    let product = length-flat_map (λ (row : ℕ). map (λ (rows : List ℕ). row ∷ rows) (choices (mask / 2) sizes)) (length (choices (mask / 2) sizes)) numbers
    (λ row. length-map (choices (mask / 2) sizes) (λ (rows : List ℕ). row ∷ rows)) in
    let bound = mul-le (length numbers) (length (choices (mask / 2) sizes)) 131072 (most sizes) count rest in
    omega arith

module _ (w : World) (number : ℕ) (sizes : sizes_in w number ≡ sizes_of w.catalogue (numbered_block w number))
    (few : AllByRecursion (λ size. size ≤ 131072) (sizes_of w.catalogue (numbered_block w number))) where
  combinations-few : (mask : ℕ) → length (combinations w.catalogue (numbered_block w number) (sizes_in w number) mask) ≤ 2 ^ 102
  combinations-few mask =
      let kept = filter-less (satisfies w.catalogue (numbered_block w number) mask) (choices mask (sizes_in w number)) in
      let all = choices-few mask (sizes_in w number) (subst (AllByRecursion (λ size. size ≤ 131072)) (sym sizes) few) in
      let product : most (sizes_in w number) ≡ 2 ^ 102 = ap most sizes in
      omega arith

  abbrev ids_at : ℕ → List ℕ → Ids
  ids_at mask rows = record { block = number; mask = mask; rows = rows }

  ids-few : (mask : ℕ) → length (map (ids_at mask) (combinations w.catalogue (numbered_block w number) (sizes_in w number) mask)) ≤ 2 ^ 102
  ids-few mask =
      let count = length-map (combinations w.catalogue (numbered_block w number) (sizes_in w number) mask) (ids_at mask) in
      let all = combinations-few mask in
      omega arith

  pub base-few : length (base_of w.answer w.catalogue number (numbered_block w number) (sizes_in w number)) ≤ 2 ^ 102
  base-few = go (numbered_block w number).distinct where
    go : (distinct : Bool) → length (distinct_if distinct (map (answer_row w.answer w.catalogue (numbered_block w number) number)
        (combinations w.catalogue (numbered_block w number) (sizes_in w number) (all_entries (numbered_block w number))))) ≤ 2 ^ 102
    go true =
        let first = length-firsts (map (answer_row w.answer w.catalogue (numbered_block w number) number) (combinations w.catalogue (numbered_block w number) (sizes_in w number) (all_entries (numbered_block w number)))) in
        let count = length-map (combinations w.catalogue (numbered_block w number) (sizes_in w number) (all_entries (numbered_block w number))) (answer_row w.answer w.catalogue (numbered_block w number) number) in
        let all = combinations-few (all_entries (numbered_block w number)) in
        omega arith
    go false =
        let count = length-map (combinations w.catalogue (numbered_block w number) (sizes_in w number) (all_entries (numbered_block w number))) (answer_row w.answer w.catalogue (numbered_block w number) number) in
        let all = combinations-few (all_entries (numbered_block w number)) in
        omega arith

  pub sources-few : (tree : PlanTree) → IsPart w.catalogue (numbered_block w number) tree → length (sources w number tree) ≤ 2 ^ 102
  sources-few (SeqScan entry) part = ids-few (mask_of entry)
  sources-few (RankScan entry term index) part = ids-few (mask_of entry)
  sources-few (Rank term child) part = sources-few child part.0
  sources-few (JoinOperator kind left right) part = ids-few (bit_or (entries left) (entries right))
  sources-few (Distinct child) part =
      let count = length-map (base_of w.answer w.catalogue number (numbered_block w number) (sizes_in w number)) (λ (row : Answer). row.ids) in
      let all = base-few in
      omega arith
  sources-few (SetOperator left right) part = absurd part

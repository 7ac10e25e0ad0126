-- What holds of the rows of an index.
use Rattle.std.proofs.Common.{◌≡◌, ℕ, ◌+◌, ◌-◌, ◌*◌, ◌/◌, ◌%◌, ◌^◌, eqb, ◌≤◌, Bool, true, false, cond, List, [], ◌∷◌, length, get_or, map, nat_le, refl, sym, ◌∙◌, ap, subst, inl, inr, arith}
use Rattle.std.specs.List.{AllByRecursion}
use Rattle.std.proofs.lemmas.Bool.{le-leb}
use Rattle.std.proofs.lemmas.List.{length-map}
use Rattle.std.proofs.lemmas.Nat.{mul-le}
use Rattle.std.proofs.Math.Nat.{mul-lt-mul_of_pos_left, zero-add, zero-div}
use Rattle.std.specs.Int.Bits.{or_zero_l}
use Rattle.std.specs.declared.cmp.Ordering.TheVariants.{Less}
use Rattle.rs_order.specs.Climbing.{Climbs}
use Rattle.rs_order.proofs.EachFacts.{each-filter, each-map, each-weaker}
use Rattle.rs_rank.specs.declared.row.RankRow.{RankRow}
use Rattle.rs_rank.specs.declared.scored_row.ScoredRow.{ScoredRow}
use Rattle.rs_rank.specs.declared.weights.Weights.{Weights}
use Rattle.rs_rank.specs.Ids.{AreOtherIds, IsIds}
use Rattle.rs_rank.specs.Keys.{key_cmp}
use Rattle.rs_rank.specs.Masks.{mask_of}
use Rattle.rs_rank.specs.Rows.{HasSum, HaveOtherIds, key_of}
use Rattle.rs_rank.specs.Weights.{IsWeights, most_evaluated, sum_inside}
use Rattle.rs_rank.proofs.WeightFacts.{sum_inside-one}
use Rattle.rs_catalog.specs.Indexes.{EntriesInOrder, IsIndexEntry, IsRanking, EntryPrecedes, RowsDiffer}
use Rattle.rs_scan.specs.Scans.{IsEntryNumber, entries_in, index_rows, entry_row, scored}
use Rattle.rs_scan.proofs.ScanFacts.{greater-sum, ids-of_one, other-ids, same-sum}

-- whether an entry is in a view
abbrev is_in : ℕ → ScoredRow → Bool
is_in rows e = nat_le e.row rows

-- in a view of all rows are all entries
pub entries_in-all : (rows : ℕ) (ranking : List ScoredRow) → AllByRecursion (λ (e : ScoredRow). e.row ≤ rows) ranking → entries_in rows ranking ≡ ranking
entries_in-all rows [] all = refl
entries_in-all rows (e ∷ ranking) all =
    ap (λ b. cond b (e ∷ entries_in rows ranking) (entries_in rows ranking)) (le-leb e.row rows all.0)
    ∙ ap (λ rest. e ∷ rest) (entries_in-all rows ranking all.1)

pub entries_in-ranking : (size max : ℕ) (ranking : List ScoredRow) → IsRanking size max ranking → entries_in size ranking ≡ ranking
entries_in-ranking size max ranking is =
    entries_in-all size ranking (each-weaker (IsIndexEntry size max) (λ (e : ScoredRow). e.row ≤ size) (λ e entry. entry.within) ranking is.each)

-- entries of a view stand as those of the index
EntriesInOrder-view : (rows : ℕ) (ranking : List ScoredRow) → EntriesInOrder ranking → EntriesInOrder (entries_in rows ranking)
EntriesInOrder-view rows [] ordered = tt
EntriesInOrder-view rows (e ∷ ranking) ordered = go (is_in rows e) (EntriesInOrder-view rows ranking ordered.1) where
  go : (b : Bool) → EntriesInOrder (entries_in rows ranking) → EntriesInOrder (cond b (e ∷ entries_in rows ranking) (entries_in rows ranking))
  go true rest = (each-filter (EntryPrecedes e) (is_in rows) ranking ordered.0, rest)
  go false rest = rest

RowsDiffer-view : (rows : ℕ) (ranking : List ScoredRow) → RowsDiffer ranking → RowsDiffer (entries_in rows ranking)
RowsDiffer-view rows [] differ = tt
RowsDiffer-view rows (e ∷ ranking) differ = go (is_in rows e) (RowsDiffer-view rows ranking differ.1) where
  go : (b : Bool) → RowsDiffer (entries_in rows ranking) → RowsDiffer (cond b (e ∷ entries_in rows ranking) (entries_in rows ranking))
  go true rest = (each-filter (λ (other : ScoredRow). e.row ≡ other.row → ⊥) (is_in rows) ranking differ.0, rest)
  go false rest = rest

module _ (block entry weight : ℕ) (is_entry : IsEntryNumber entry) where
  -- an entry that comes before another one gives a row that comes before its row
  precedes-scored : (weights : Weights) (terms : ℕ) → 1 ≤ weight → (a b : ScoredRow) → EntryPrecedes a b
      → key_cmp (key_of weights terms (scored block entry weight a)) (key_of weights terms (scored block entry weight b)) ≡ Less
  precedes-scored weights terms some a b before =
      elim before [
        | inl less ↦ greater-sum block entry is_entry weights terms a.row b.row (weight * a.score) (weight * b.score) (mul-lt-mul_of_pos_left less some)
        | inr both ↦ subst (λ score. key_cmp (key_of weights terms (entry_row block entry a.row (weight * a.score))) (key_of weights terms (entry_row block entry b.row (weight * score))) ≡ Less) both.0
            (same-sum block entry is_entry weights terms a.row b.row (weight * a.score) both.1)
      ]

  climbs-scored : (weights : Weights) (terms : ℕ) → 1 ≤ weight → (entries : List ScoredRow) → EntriesInOrder entries
      → Climbs key_cmp (key_of weights terms) (map (scored block entry weight) entries)
  climbs-scored weights terms some [] ordered = tt
  climbs-scored weights terms some (a ∷ entries) ordered = (
    each-map (λ row. key_cmp (key_of weights terms (scored block entry weight a)) (key_of weights terms row) ≡ Less) (scored block entry weight) entries
        (each-weaker (EntryPrecedes a) (λ b. key_cmp (key_of weights terms (scored block entry weight a)) (key_of weights terms (scored block entry weight b)) ≡ Less)
        (precedes-scored weights terms some a) entries ordered.0),
    climbs-scored weights terms some entries ordered.1,
  )

  pub index-climbs : (weights : Weights) (terms rows size max : ℕ) (ranking : List ScoredRow) → IsRanking size max ranking → 1 ≤ weight
      → Climbs key_cmp (key_of weights terms) (index_rows block entry weight rows ranking)
  index-climbs weights terms rows size max ranking is some = climbs-scored weights terms some (entries_in rows ranking) (EntriesInOrder-view rows ranking is.ordered)

  -- ids of the entry
  pub index-ids : (rows : ℕ) (ranking : List ScoredRow) → AllByRecursion (λ row. IsIds row.ids) (index_rows block entry weight rows ranking)
  index-ids rows ranking = all (entries_in rows ranking) where
    all : (entries : List ScoredRow) → AllByRecursion (λ (row : RankRow). IsIds row.ids) (map (scored block entry weight) entries)
    all [] = tt
    all (a ∷ entries) = (ids-of_one block entry is_entry a.row (weight * a.score), all entries)

  -- no two with the same ids
  others-scored : (entries : List ScoredRow) → RowsDiffer entries → HaveOtherIds (map (scored block entry weight) entries)
  others-scored [] differ = tt
  others-scored (a ∷ entries) differ = (
    each-map (λ (row : RankRow). AreOtherIds (scored block entry weight a).ids row.ids) (scored block entry weight) entries
        (each-weaker (λ (b : ScoredRow). a.row ≡ b.row → ⊥) (λ b. AreOtherIds (scored block entry weight a).ids (scored block entry weight b).ids)
        (λ b apart. other-ids block entry is_entry a.row b.row (weight * a.score) (weight * b.score) apart) entries differ.0),
    others-scored entries differ.1,
  )

  pub index-others : (rows size max : ℕ) (ranking : List ScoredRow) → IsRanking size max ranking → HaveOtherIds (index_rows block entry weight rows ranking)
  index-others rows size max ranking is = others-scored (entries_in rows ranking) (RowsDiffer-view rows ranking is.differ)

-- as many as rows
pub index-count : (block entry weight size max : ℕ) (ranking : List ScoredRow) → IsRanking size max ranking → length (index_rows block entry weight size ranking) ≡ size
index-count block entry weight size max ranking is =
    length-map (entries_in size ranking) (scored block entry weight) ∙ ap length (entries_in-ranking size max ranking is) ∙ is.all

-- what one term can give
sum_inside-none : (weights values : List ℕ) → sum_inside 0 weights values ≡ 0
sum_inside-none [] values = refl
sum_inside-none (weight ∷ weights) [] = refl
sum_inside-none (weight ∷ weights) (value ∷ values) = ap (λ n. 0 + n) (sum_inside-none weights values)

-- no term is in the empty mask
no_term : (i : ℕ) → eqb (0 / 2 ^ i % 2) 1 ≡ false
no_term i = ap (λ n. eqb (n % 2) 1) (zero-div (2 ^ i))

most-of_one : (weights : Weights) (term : ℕ) → IsWeights weights → 1 ≤ term → term ≤ 8
    → most_evaluated weights (mask_of term) ≡ get_or weights.weight (term - 1) 0 * get_or weights.max (term - 1) 0
most-of_one weights term limits least most =
    let product = get_or weights.weight (term - 1) 0 * get_or weights.max (term - 1) 0 in
    let counted = limits.weight_count in
    let counted_max = limits.max_count in
    let none = sum_inside-none weights.weight weights.max in
    let one = sum_inside-one (term - 1) 0 weights.weight weights.max (omega arith) (omega arith) (no_term (term - 1)) in
    ap (λ mask. sum_inside mask weights.weight weights.max) (sym (or_zero_l (mask_of term))) ∙ one ∙ ap (λ n. n + product) none ∙ zero-add product

pub index-sums : (weights : Weights) (block entry weight rows term size max : ℕ) (ranking : List ScoredRow) → IsWeights weights → 1 ≤ term → term ≤ 8 → IsRanking size max ranking
    → get_or weights.weight (term - 1) 0 ≡ weight → max ≤ get_or weights.max (term - 1) 0
    → AllByRecursion (HasSum weights (mask_of term)) (index_rows block entry weight rows ranking)
index-sums weights block entry weight rows term size max ranking limits least most is same low =
    each-map (HasSum weights (mask_of term)) (scored block entry weight) (entries_in rows ranking)
    (each-filter (λ e. HasSum weights (mask_of term) (scored block entry weight e)) (is_in rows) ranking
    (each-weaker (IsIndexEntry size max) (λ e. HasSum weights (mask_of term) (scored block entry weight e))
    (λ e is_entry.
    let whole = most-of_one weights term limits least most in
    let scored_low = is_entry.scored in
    let part : weight * e.score ≤ get_or weights.weight (term - 1) 0 * get_or weights.max (term - 1) 0 = mul-le weight e.score (get_or weights.weight (term - 1) 0) (get_or weights.max (term - 1) 0) (omega arith) (omega arith) in
    omega arith)
    ranking is.each))

-- What comes behind in each list comes behind as a whole: its sum is no greater, and where the sums are equal its row is greater.
use Rattle.std.proofs.Common.{◌≡◌, ℕ, suc, ◌-◌, ◌*◌, ◌<◌, ◌≤◌, List, [], ◌∷◌, length, get_or, map, sym, ◌∙◌, ap, subst, inl, inr, arith}
use Rattle.std.proofs.lemmas.Bool.{cases_lt}
use Rattle.std.proofs.lemmas.List.{get_or-set_same}
use Rattle.std.proofs.lemmas.Nat.{mul-le}
use Rattle.std.specs.Cmp.{nat_cmp_is}
use Rattle.std.specs.Cmp.Lexicographic.{slice_cmp}
use Rattle.std.specs.List.{AllByRecursion}
use Rattle.std.specs.Ordering.{nat_cmp, ordering_then}
use Rattle.std.specs.declared.cmp.Ordering.TheVariants.{Less, Equal}
use Rattle.rs_rank.specs.declared.key.Key.{Key}
use Rattle.rs_rank.specs.declared.scored_row.ScoredRow.{ScoredRow}
use Rattle.rs_rank.specs.Keys.{ids_cmp, key_cmp}
use Rattle.rs_rank.proofs.OrderFacts.{IsTied-parts}
use Rattle.rs_rank.proofs.PlaceFacts.{number-itself, set-ordered, zeros}
use Rattle.rs_ta.specs.Depths.{greatest, ids_at, weighted_sum}
use Rattle.rs_catalog.specs.Indexes.{EntryPrecedes}
use Rattle.rs_ta.specs.Scans.{IsEntry}

-- the key of a sum and a row
abbrev pub key_at : ℕ → ℕ → ℕ → ℕ → Key
key_at block entry bound row = record { bound = bound; ids = ids_at block entry row }

module _ (block entry : ℕ) (is_entry : IsEntry entry) where
  place-within : entry - 1 < length zeros
  place-within = let least = is_entry.least in let most = is_entry.most in omega arith

  -- the greater sum comes first, and of equal sums the lesser row
  pub greater-sum : (a b sum other : ℕ) → other < sum → key_cmp (key_at block entry sum a) (key_at block entry other b) ≡ Less
  greater-sum a b sum other less =
      let left : Key = key_at block entry sum a in
      let right : Key = key_at block entry other b in
      ap (λ o. ordering_then o (ids_cmp left.ids right.ids)) (sym (nat_cmp_is right.bound left.bound Less (omega arith)))

  pub same-sum : (a b sum : ℕ) → a < b → key_cmp (key_at block entry sum a) (key_at block entry sum b) ≡ Less
  same-sum a b sum less =
      let key : ℕ → Key = λ n. key_at block entry sum n in
      ap (λ o. ordering_then o (ids_cmp (key a).ids (key b).ids)) (number-itself (key a).bound)
      ∙ ap (λ o. ordering_then o (slice_cmp nat_cmp (key a).ids.rows (key b).ids.rows)) (number-itself block)
      ∙ set-ordered zeros (entry - 1) a b place-within
      ∙ sym (nat_cmp_is a b Less less)

  -- both at once
  pub no_greater-sum : (a b sum other : ℕ) → other ≤ sum → (other ≡ sum → a < b) → key_cmp (key_at block entry sum a) (key_at block entry other b) ≡ Less
  no_greater-sum a b sum other le less =
      elim (cases_lt other sum) [
        | inl below ↦ greater-sum a b sum other below
        | inr above ↦
            let same : other ≡ sum = omega arith in
            subst (λ n. key_cmp (key_at block entry sum a) (key_at block entry n b) ≡ Less) (sym same) (same-sum a b sum (less same))
      ]

  -- equal ids have equal rows
  pub ids-row : (a b : ℕ) → (ids_at block entry a).rows ≡ (ids_at block entry b).rows → a ≡ b
  ids-row a b e =
      sym (get_or-set_same zeros (entry - 1) a 0 place-within) ∙ ap (λ (rows : List ℕ). get_or rows (entry - 1) 0) e ∙ get_or-set_same zeros (entry - 1) b 0 place-within

  -- and so have equal keys
  pub tied-row : (a b sum other : ℕ) → key_cmp (key_at block entry sum a) (key_at block entry other b) ≡ Equal → a ≡ b
  tied-row a b sum other tied = ids-row a b (IsTied-parts (key_at block entry sum a) (key_at block entry other b) tied).2

-- a weight of each of some lists
abbrev pub HasWeights : List ℕ → ℕ → Type 0
HasWeights weights count = (place : ℕ) → place < count → 1 ≤ get_or weights place 0

-- an entry of each list, and one that comes behind it
module _ (front behind : List ScoredRow → ScoredRow) where
  abbrev pub AllPrecede : List (List ScoredRow) → Type 0
  AllPrecede lists = AllByRecursion (λ list. EntryPrecedes (front list) (behind list)) lists

  abbrev front_sum : List ℕ → List (List ScoredRow) → ℕ
  front_sum weights lists = weighted_sum weights (map (λ list. (front list).score) lists)

  abbrev behind_sum : List ℕ → List (List ScoredRow) → ℕ
  behind_sum weights lists = weighted_sum weights (map (λ list. (behind list).score) lists)

  score-behind : (list : List ScoredRow) → EntryPrecedes (front list) (behind list) → (behind list).score ≤ (front list).score
  score-behind list before = elim before [ inl less ↦ omega arith | inr both ↦ let same = both.0 in omega arith ]

  -- the sum is no greater
  pub press-sum : (weights : List ℕ) (lists : List (List ScoredRow)) → AllPrecede lists → behind_sum weights lists ≤ front_sum weights lists
  press-sum [] lists all = omega arith
  press-sum (weight ∷ weights) [] all = omega arith
  press-sum (weight ∷ weights) (list ∷ lists) all =
      let first = mul-le weight (behind list).score weight (front list).score (omega arith) (score-behind list all.0) in
      let others = press-sum weights lists all.1 in
      omega arith

  -- a lesser score with a weight makes a lesser product
  lesser-product : (weight a b : ℕ) → 1 ≤ weight → b < a → weight * b < weight * a
  lesser-product weight a b some less =
      let one : weight * suc b ≤ weight * a = mul-le weight (suc b) weight a (omega arith) (omega arith) in
      omega arith

  -- where the sums are equal the rows rise
  pub press-rows : (weights : List ℕ) (lists : List (List ScoredRow)) → HasWeights weights (length lists) → AllPrecede lists → behind_sum weights lists ≡ front_sum weights lists →
      AllByRecursion (λ list. (front list).row < (behind list).row) lists
  press-rows weights [] have all same = tt
  press-rows [] (list ∷ lists) have all same = let none : 1 ≤ 0 = have 0 (omega arith) in absurd (omega arith)
  press-rows (weight ∷ weights) (list ∷ lists) have all same =
      let some : 1 ≤ weight = have 0 (omega arith) in
      let first = mul-le weight (behind list).score weight (front list).score (omega arith) (score-behind list all.0) in
      let others = press-sum weights lists all.1 in
      elim all.0 [
        | inl less ↦ let lesser = lesser-product weight (front list).score (behind list).score some less in absurd (omega arith)
        | inr both ↦
            let equal : behind_sum weights lists ≡ front_sum weights lists = omega arith in
            (both.1, press-rows weights lists (λ place h. have (suc place) (omega arith)) all.1 equal)
      ]

  -- and so does the greatest one
  greatest-rises : (list : List ScoredRow) (lists : List (List ScoredRow)) → AllByRecursion (λ list. (front list).row < (behind list).row) (list ∷ lists) →
      greatest (map (λ list. (front list).row) (list ∷ lists)) < greatest (map (λ list. (behind list).row) (list ∷ lists))
  greatest-rises list [] all = let first = all.0 in omega arith
  greatest-rises list (next ∷ lists) all =
      let first = all.0 in
      let others = greatest-rises next lists all.1 in
      omega arith

  greatest-behind : (lists : List (List ScoredRow)) → 1 ≤ length lists → AllByRecursion (λ list. (front list).row < (behind list).row) lists →
      greatest (map (λ list. (front list).row) lists) < greatest (map (λ list. (behind list).row) lists)
  greatest-behind [] some all = absurd (omega arith)
  greatest-behind (list ∷ lists) some all = greatest-rises list lists all

  greatest-below : (row : ℕ) → 0 < row → (lists : List (List ScoredRow)) → AllByRecursion (λ list. (front list).row < row) lists → greatest (map (λ list. (front list).row) lists) < row
  greatest-below row some [] all = omega arith
  greatest-below row some (list ∷ lists) all = let first = all.0 in let others = greatest-below row some lists all.1 in omega arith

  module _ (block entry : ℕ) (is_entry : IsEntry entry) where
    -- the threshold of the entries in front comes before that of those behind
    pub press-thresholds : (weights : List ℕ) (lists : List (List ScoredRow)) → 1 ≤ length lists → HasWeights weights (length lists) → AllPrecede lists →
        key_cmp (key_at block entry (front_sum weights lists) (greatest (map (λ list. (front list).row) lists)))
        (key_at block entry (behind_sum weights lists) (greatest (map (λ list. (behind list).row) lists))) ≡ Less
    press-thresholds weights lists some have all =
        no_greater-sum block entry is_entry (greatest (map (λ list. (front list).row) lists)) (greatest (map (λ list. (behind list).row) lists))
        (front_sum weights lists) (behind_sum weights lists) (press-sum weights lists all)
        (λ same. greatest-behind lists some (press-rows weights lists have all same))

    -- and before the key of a row that is behind in each list
    pub press-row : (weights : List ℕ) (lists : List (List ScoredRow)) (row : ℕ) → 0 < row → HasWeights weights (length lists) → AllPrecede lists →
        ((list : List ScoredRow) → (behind list).row ≡ row) →
        key_cmp (key_at block entry (front_sum weights lists) (greatest (map (λ list. (front list).row) lists))) (key_at block entry (behind_sum weights lists) row) ≡ Less
    press-row weights lists row some have all is =
        no_greater-sum block entry is_entry (greatest (map (λ list. (front list).row) lists)) row (front_sum weights lists) (behind_sum weights lists) (press-sum weights lists all)
        (λ same. greatest-below row some lists (rows-below lists (press-rows weights lists have all same)))
      where
        rows-below : (lists : List (List ScoredRow)) → AllByRecursion (λ list. (front list).row < (behind list).row) lists → AllByRecursion (λ list. (front list).row < row) lists
        rows-below [] all = tt
        rows-below (list ∷ lists) all = (subst (λ n. (front list).row < n) (is list) all.0, rows-below lists all.1)

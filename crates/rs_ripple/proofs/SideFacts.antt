-- The rows of two sides: the keys of their merges rise along each side, and merges of different left rows have different
-- keys.
use Rattle.std.proofs.Common.{cond, ◌≡◌, ℕ, zero, suc, ◌≤◌, ◌+◌, ◌-◌, ◌/◌, ◌%◌, List, [], ◌∷◌, length, bit_and, bit_or, refl, sym, ◌∙◌, ap, ap₂, subst, inl, inr, arith}
use Rattle.std.proofs.lemmas.Bool.{cases_lt}
use Rattle.std.proofs.Math.Dec.{eqb-suc-zero}
use Rattle.std.specs.Cmp.{tied_itself}
use Rattle.std.specs.Ordering.{is_gt}
use Rattle.std.specs.declared.cmp.Ordering.{Ordering}
use Rattle.rs_order.specs.Climbing.{Climbs, In, Precedes}
use Rattle.rs_order.proofs.ClimbingFacts.{AllByRecursion-In, AllByRecursion-from_In}
use Rattle.rs_rank.specs.declared.row.RankRow.{RankRow}
use Rattle.rs_rank.specs.declared.weights.Weights.{Weights}
use Rattle.rs_rank.specs.Ids.{AreOtherIds, IsZeroOutside, merge_ids, merge_rows}
use Rattle.rs_rank.specs.Keys.{key_cmp}
use Rattle.rs_rank.specs.Merging.{CanMerge}
use Rattle.rs_rank.specs.Rows.{CanMergeRows, HasSum, HaveOtherIds, merge_row}
use Rattle.rs_rank.specs.Weights.{IsWeights, rest, score_limit}
use Rattle.rs_rank.proofs.IdsFacts.{merge_number}
use Rattle.rs_rank.proofs.MaskFacts.{bit_and-first, bit_and-others}
use Rattle.rs_rank.proofs.OrderFacts.{IsBefore-merge_key, IsTied-parts, key_cmp-total}
use Rattle.rs_rank.proofs.WeightFacts.{IsBound-sum, bound-limit, most_evaluated-limit, sum_inside-union}
use Rattle.rs_ripple.specs.Stands.{AreSidesOf, IsRowOf, Join, answer_key, merged_key, side_key}
use Rattle.rs_ripple.proofs.PairFacts.{Grid, IsPair}

-- the key of the merge of two rows is the merge of their keys
pub merged_key-rows : (j : Join) (left right : RankRow) → merged_key j (side_key j j.left left) (side_key j j.right right) ≡ answer_key j (merge_row left right)
merged_key-rows j left right =
    let bound : (left.sum + rest j.weights j.left.terms - rest j.weights j.left.terms) + (right.sum + rest j.weights j.right.terms - rest j.weights j.right.terms) + rest j.weights (bit_or j.left.terms j.right.terms)
    ≡ left.sum + right.sum + rest j.weights (bit_or j.left.terms j.right.terms) = omega arith in
    ap (λ b. record { bound = b; ids = merge_ids left.ids right.ids }) bound

-- a sum that some terms can give, with what the others can add
pub sum-limit : (weights : Weights) (terms above : ℕ) (row : RankRow) → IsWeights weights → HasSum weights terms row → above ≡ rest weights terms → row.sum + above ≤ score_limit
sum-limit weights terms above row limits sum e =
    let limit = bound-limit weights terms _ limits (IsBound-sum weights terms row.sum sum) in
    omega arith

-- row numbers of a side, back from those merged
merge_number-none : (left right : ℕ) → right ≡ 0 → merge_number left right ≡ left
merge_number-none zero right e = e
merge_number-none (suc left) right e = ap (λ b. cond b right (suc left)) (eqb-suc-zero left)

merge_rows-left : (m n : ℕ) (a b c d : List ℕ) → bit_and m n ≡ 0 → IsZeroOutside m a → IsZeroOutside m c → IsZeroOutside n b → IsZeroOutside n d → length a ≡ length b → length a ≡ length c → length a ≡ length d → merge_rows a b ≡ merge_rows c d → a ≡ c
merge_rows-left m n [] b [] d apart p q r s e f g same = refl
merge_rows-left m n [] b (z ∷ c) d apart p q r s e f g same = absurd (omega arith)
merge_rows-left m n (x ∷ a) b [] d apart p q r s e f g same = absurd (omega arith)
merge_rows-left m n (x ∷ a) [] (z ∷ c) d apart p q r s e f g same = absurd (omega arith)
merge_rows-left m n (x ∷ a) (y ∷ b) (z ∷ c) [] apart p q r s e f g same = absurd (omega arith)
merge_rows-left m n (x ∷ a) (y ∷ b) (z ∷ c) (w ∷ d) apart p q r s e f g same =
    let here : merge_number x y ≡ merge_number z w = cc in
    let others : merge_rows a b ≡ merge_rows c d = cc in
    let first : x ≡ z =
    elim (cases_lt 0 (m % 2)) [
      | inl inside ↦
          let bit = bit_and-first m n in
          let right : y ≡ 0 = r.0 (omega arith) in
          let later : w ≡ 0 = s.0 (omega arith) in
          sym (merge_number-none x y right) ∙ here ∙ merge_number-none z w later
      | inr outside ↦ p.0 (omega arith) ∙ sym (q.0 (omega arith))
    ] in
    let rest : a ≡ c =
    merge_rows-left (m / 2) (n / 2) a b c d (let halves = bit_and-others m n in omega arith) p.1 q.1 r.1 s.1 (omega arith) (omega arith) (omega arith) others in
    cc

-- rows of the same ids are one
HaveOtherIds-same : (rows : List RankRow) (row other : RankRow) → HaveOtherIds rows → In row rows → In other rows → row.ids.block ≡ other.ids.block → row.ids.rows ≡ other.ids.rows → row ≡ other
HaveOtherIds-same [] row other others h k block numbers = absurd h
HaveOtherIds-same (first ∷ rows) row other others h k block numbers =
    elim h [
      | inl e ↦ elim k [
        | inl f ↦ e ∙ sym f
        | inr behind ↦ absurd (subst (λ r. AreOtherIds r.ids other.ids) (sym e) (AllByRecursion-In (λ z. AreOtherIds first.ids z.ids) rows others.0 other behind) block numbers)
      ]
      | inr before ↦ elim k [
        | inl f ↦ absurd (subst (λ r. AreOtherIds r.ids row.ids) (sym f) (AllByRecursion-In (λ z. AreOtherIds first.ids z.ids) rows others.0 row before) (sym block) (sym numbers))
        | inr behind ↦ HaveOtherIds-same rows row other others.1 before behind block numbers
      ]
    ]

-- other keys rise too where each two of them do
Climbs-other : {X K L : Type 0} (cmp : K → K → Ordering) (key : X → K) (by : L → L → Ordering) (other : X → L) (xs : List X) → Climbs cmp key xs → ((x y : X) → In x xs → In y xs → Precedes cmp key x y → Precedes by other x y) → Climbs by other xs
Climbs-other cmp key by other [] climbs follows = tt
Climbs-other cmp key by other (x ∷ xs) climbs follows = (
  AllByRecursion-from_In (Precedes by other x) xs (λ y h. follows x y (inl refl) (inr h) (AllByRecursion-In (Precedes cmp key x) xs climbs.0 y h)),
  Climbs-other cmp key by other xs climbs.1 (λ y z h k. follows y z (inr h) (inr k)),
)

module _ (j : Join) (lefts rights : List RankRow) (input : AreSidesOf j lefts rights) where
  pub left_row : (x : RankRow) → In x lefts → IsRowOf j j.left x
  left_row x h = AllByRecursion-In (IsRowOf j j.left) lefts input.left_rows.each x h

  pub right_row : (y : RankRow) → In y rights → IsRowOf j j.right y
  right_row y h = AllByRecursion-In (IsRowOf j j.right) rights input.right_rows.each y h

  pub can_merge : (x y : RankRow) → In x lefts → In y rights → CanMerge j.weights j.left.terms j.right.terms (side_key j j.left x) (side_key j j.right y)
  can_merge x y h k =
      let left = left_row x h in
      let right = right_row y k in
      record {
        limits = input.sides.limits;
        sides = record {
          left_ids = left.ids;
          right_ids = right.ids;
          block = left.block ∙ sym right.block;
          entries = ap (λ m. bit_and m y.ids.mask) left.entries ∙ ap (bit_and j.left.mask) right.entries ∙ input.sides.entries;
        };
        terms = input.sides.terms;
        left_bound = IsBound-sum j.weights j.left.terms x.sum left.sum;
        right_bound = IsBound-sum j.weights j.right.terms y.sum right.sum;
      }

  pub can_merge-rows : (x y : RankRow) → In x lefts → In y rights → CanMergeRows x y
  can_merge-rows x y h k =
      let left = (left_row x h).sum in
      let right = (right_row y k).sum in
      let left_limit = most_evaluated-limit j.weights j.left.terms input.sides.limits in
      let right_limit = most_evaluated-limit j.weights j.right.terms input.sides.limits in
      record { sides = (can_merge x y h k).sides; left_sum = omega arith; right_sum = omega arith }

  -- a pair of their rows has the entries of both sides, and a sum that the terms of both can give
  pub pair-entries : (z : RankRow) → IsPair j.matches merge_row lefts rights z → z.ids.mask ≡ bit_or j.left.mask j.right.mask
  pair-entries z p = ap (λ (w : RankRow). w.ids.mask) p.made ∙ ap₂ bit_or (left_row p.left p.in_left).entries (right_row p.right p.in_right).entries

  pub pair-sum : (z : RankRow) → IsPair j.matches merge_row lefts rights z → HasSum j.weights (bit_or j.left.terms j.right.terms) z
  pair-sum z p =
      let left = left_row p.left p.in_left in
      let right = right_row p.right p.in_right in
      let left_sum = left.sum in
      let right_sum = right.sum in
      let union = sum_inside-union j.left.terms j.right.terms j.weights.weight j.weights.max input.sides.terms in
      subst (HasSum j.weights (bit_or j.left.terms j.right.terms)) (sym p.made) (within left_sum right_sum union)
    where
      within : {a b m n u : ℕ} → a ≤ m → b ≤ n → u ≡ m + n → a + b ≤ u
      within le less e = omega arith

  pub sides-grid : Grid key_cmp merge_row (answer_key j) lefts rights
  sides-grid = record {
    total = key_cmp-total;
    left_climbs = λ y k.
        Climbs-other key_cmp (side_key j j.left) key_cmp (λ x. answer_key j (merge_row x y)) lefts input.left_rows.rising
        (λ x w a b before.
        sym (ap₂ key_cmp (merged_key-rows j x y) (merged_key-rows j w y))
        ∙ IsBefore-merge_key j.weights j.left.terms j.right.terms (side_key j j.left x) (side_key j j.right y) (side_key j j.left w) (side_key j j.right y)
        (can_merge x y a k) (can_merge w y b k) (ap is_gt before) (ap is_gt (tied_itself key_cmp-total (side_key j j.right y))) (inl before));
    right_climbs = λ x k.
        Climbs-other key_cmp (side_key j j.right) key_cmp (λ y. answer_key j (merge_row x y)) rights input.right_rows.rising
        (λ y v a b before.
        sym (ap₂ key_cmp (merged_key-rows j x y) (merged_key-rows j x v))
        ∙ IsBefore-merge_key j.weights j.left.terms j.right.terms (side_key j j.left x) (side_key j j.right y) (side_key j j.left x) (side_key j j.right v)
        (can_merge x y k a) (can_merge x v k b) (ap is_gt (tied_itself key_cmp-total (side_key j j.left x))) (ap is_gt before) (inr before));
    apart = λ x w y v a b c d tied.
        let parts = IsTied-parts (answer_key j (merge_row x y)) (answer_key j (merge_row w v)) tied in
        let lx = left_row x a in
        let lw = left_row w b in
        let ry = right_row y c in
        let rv = right_row v d in
        HaveOtherIds-same lefts x w input.left_rows.others a b (lx.block ∙ sym lw.block)
        (merge_rows-left j.left.mask j.right.mask x.ids.rows y.ids.rows w.ids.rows v.ids.rows input.sides.entries
        (subst (λ m. IsZeroOutside m x.ids.rows) lx.entries lx.ids.within)
        (subst (λ m. IsZeroOutside m w.ids.rows) lw.entries lw.ids.within)
        (subst (λ m. IsZeroOutside m y.ids.rows) ry.entries ry.ids.within)
        (subst (λ m. IsZeroOutside m v.ids.rows) rv.entries rv.ids.within)
        (lx.ids.sized ∙ sym ry.ids.sized) (lx.ids.sized ∙ sym lw.ids.sized) (lx.ids.sized ∙ sym rv.ids.sized) parts.2);
  }

-- The pairs of two lists of rows, by the places of their rows, and the order of their numbers.
use Rattle.std.proofs.Common.{◌≡◌, ℕ, zero, suc, ◌+◌, ◌<◌, true, false, cond, List, [], ◌∷◌, ◌++◌, Some, slice_get, refl, sym, ◌∙◌, ap, subst, inl, inr, arith, rules}
use Rattle.std.specs.Cmp.{IsTotalOrder, nat_cmp_is}
use Rattle.std.specs.Cmp.Rules.{comparing}
use Rattle.std.specs.Ordering.{nat_cmp, ordering_then}
use Rattle.std.specs.Str.{bytes_eq}
use Rattle.std.specs.declared.cmp.Ordering.{Ordering}
use Rattle.std.specs.declared.cmp.Ordering.TheVariants.{Less, Equal}
use Rattle.rs_feed.specs.declared.feed_row.FeedRow.{FeedRow}
use Rattle.rs_order.specs.Climbing.{Climbs, In, Precedes}
use Rattle.rs_order.proofs.ClimbingFacts.{AllByRecursion-from_In}
use Rattle.rs_order.proofs.EachFacts.{each-append}
use Rattle.rs_order.proofs.ItemFacts.{In-append, In-left, In-right}
use Rattle.rs_cert.specs.declared.pair.Pair.{Pair}
use Rattle.rs_cert.specs.Pairs.{numbers_cmp, pairs_from, pairs_of_row}
use Rattle.rs_cert.proofs.RowFacts.{none_at, same_at}

-- a pair of these numbers and rows
abbrev pub pair_of : ℕ → FeedRow → ℕ → FeedRow → Pair
pair_of i left j right = record { left = i; right = j; sum = left.score + right.score }

-- the right row of a pair of a left row, which is numbered from j
pub record IsOfRow (i : ℕ) (left : FeedRow) (j : ℕ) (rights : List FeedRow) (pair : Pair) : Type 0 where
  pub place : ℕ
  pub right : FeedRow
  pub at : slice_get rights place ≡ Some right
  pub same : bytes_eq left.join right.join ≡ true
  pub is : pair ≡ pair_of i left (j + place) right

further : (i : ℕ) (left : FeedRow) (j : ℕ) (first : FeedRow) (rights : List FeedRow) (pair : Pair) → IsOfRow i left (suc j) rights pair → IsOfRow i left j (first ∷ rights) pair
further i left j first rights pair made = record {
  place = suc made.place;
  right = made.right;
  at = made.at;
  same = made.same;
  is = made.is ∙ ap (λ n. pair_of i left n made.right) (omega arith);
}

pub In-of_row-back : (i : ℕ) (left : FeedRow) (j : ℕ) (rights : List FeedRow) (pair : Pair) → In pair (pairs_of_row i left j rights) → IsOfRow i left j rights pair
In-of_row-back i left j [] pair h = absurd h
In-of_row-back i left j (right ∷ rights) pair h =
    (elim (bytes_eq left.join right.join) as (λ b. bytes_eq left.join right.join ≡ b
    → In pair (cond b (pair_of i left j right ∷ pairs_of_row i left (suc j) rights) (pairs_of_row i left (suc j) rights)) → IsOfRow i left j (right ∷ rights) pair) [
      | true ↦ λ same k. elim k [
        | inl e ↦ record { place = 0; right = right; at = refl; same = same; is = e ∙ ap (λ n. pair_of i left n right) (omega arith) }
        | inr behind ↦ further i left j right rights pair (In-of_row-back i left (suc j) rights pair behind)
      ]
      | false ↦ λ other k. further i left j right rights pair (In-of_row-back i left (suc j) rights pair k)
    ]) refl h

pub In-of_row : (i : ℕ) (left : FeedRow) (j : ℕ) (rights : List FeedRow) (place : ℕ) (right : FeedRow) → slice_get rights place ≡ Some right → bytes_eq left.join right.join ≡ true → In (pair_of i left (j + place) right) (pairs_of_row i left j rights)
In-of_row i left j [] place right at same = absurd (none_at at)
In-of_row i left j (first ∷ rights) zero right at same =
    let is : first ≡ right = same_at at in
    let test : bytes_eq left.join first.join ≡ true = subst (λ (r : FeedRow). bytes_eq left.join r.join ≡ true) (sym is) same in
    subst (λ b. In (pair_of i left (j + 0) right) (cond b (pair_of i left j first ∷ pairs_of_row i left (suc j) rights) (pairs_of_row i left (suc j) rights))) (sym test)
    (inl (ap (λ n. pair_of i left n right) (omega arith) ∙ ap (λ r. pair_of i left j r) (sym is)))
In-of_row i left j (first ∷ rights) (suc place) right at same =
    let behind : In (pair_of i left (j + suc place) right) (pairs_of_row i left (suc j) rights) =
    subst (λ n. In (pair_of i left n right) (pairs_of_row i left (suc j) rights)) (omega arith) (In-of_row i left (suc j) rights place right at same) in
    (elim (bytes_eq left.join first.join) as (λ b. In (pair_of i left (j + suc place) right) (cond b (pair_of i left j first ∷ pairs_of_row i left (suc j) rights) (pairs_of_row i left (suc j) rights))) [
      | true ↦ inr behind
      | false ↦ behind
    ])

-- both rows of a pair, of which the left ones are numbered from i
pub record IsPair (i : ℕ) (lefts rights : List FeedRow) (pair : Pair) : Type 0 where
  pub left_place : ℕ
  pub left : FeedRow
  pub left_at : slice_get lefts left_place ≡ Some left
  pub right_place : ℕ
  pub right : FeedRow
  pub right_at : slice_get rights right_place ≡ Some right
  pub same : bytes_eq left.join right.join ≡ true
  pub is : pair ≡ pair_of (i + left_place) left (suc right_place) right

pub In-pairs-back : (i : ℕ) (lefts rights : List FeedRow) (pair : Pair) → In pair (pairs_from i lefts rights) → IsPair i lefts rights pair
In-pairs-back i [] rights pair h = absurd h
In-pairs-back i (left ∷ lefts) rights pair h = elim (In-append pair (pairs_of_row i left 1 rights) (pairs_from (suc i) lefts rights) h) [
  | inl here ↦
      let made = In-of_row-back i left 1 rights pair here in
      record {
        left_place = 0;
        left = left;
        left_at = refl;
        right_place = made.place;
        right = made.right;
        right_at = made.at;
        same = made.same;
        is = made.is ∙ ap (λ n. pair_of n left (1 + made.place) made.right) (omega arith) ∙ ap (λ n. pair_of (i + 0) left n made.right) (omega arith);
      }
  | inr behind ↦
      let made = In-pairs-back (suc i) lefts rights pair behind in
      record {
        left_place = suc made.left_place;
        left = made.left;
        left_at = made.left_at;
        right_place = made.right_place;
        right = made.right;
        right_at = made.right_at;
        same = made.same;
        is = made.is ∙ ap (λ n. pair_of n made.left (suc made.right_place) made.right) (omega arith);
      }
]

pub In-pairs : (i : ℕ) (lefts rights : List FeedRow) (m n : ℕ) (left right : FeedRow) → slice_get lefts m ≡ Some left → slice_get rights n ≡ Some right → bytes_eq left.join right.join ≡ true → In (pair_of (i + m) left (suc n) right) (pairs_from i lefts rights)
In-pairs i [] rights m n left right at other same = absurd (none_at at)
In-pairs i (first ∷ lefts) rights zero n left right at other same =
    let is : first ≡ left = same_at at in
    let test : bytes_eq first.join right.join ≡ true = subst (λ (r : FeedRow). bytes_eq r.join right.join ≡ true) (sym is) same in
    In-left (pair_of (i + 0) left (suc n) right) (pairs_of_row i first 1 rights) (pairs_from (suc i) lefts rights)
    (subst (λ pair. In pair (pairs_of_row i first 1 rights))
    (ap (λ k. pair_of i first k right) (omega arith) ∙ ap (λ k. pair_of k first (suc n) right) (omega arith) ∙ ap (λ r. pair_of (i + 0) r (suc n) right) is)
    (In-of_row i first 1 rights n right other test))
In-pairs i (first ∷ lefts) rights (suc m) n left right at other same =
    In-right (pair_of (i + suc m) left (suc n) right) (pairs_of_row i first 1 rights) (pairs_from (suc i) lefts rights)
    (subst (λ k. In (pair_of k left (suc n) right) (pairs_from (suc i) lefts rights)) (omega arith) (In-pairs (suc i) lefts rights m n left right at other same))

-- the order of numbers is total
pub numbers_cmp-total : IsTotalOrder numbers_cmp
numbers_cmp-total = search (comparing, rules) depth 9

-- a lesser left number comes first, and of equal left numbers the lesser right one
pub left-first : (a b : Pair) → a.left < b.left → numbers_cmp a b ≡ Less
left-first a b h = ap (λ o. ordering_then o (nat_cmp a.right b.right)) (sym (nat_cmp_is a.left b.left Less h))

pub right-first : (a b : Pair) → a.left ≡ b.left → a.right < b.right → numbers_cmp a b ≡ Less
right-first a b e h =
    ap (λ o. ordering_then o (nat_cmp a.right b.right)) (sym (nat_cmp_is a.left b.left Equal e)) ∙ sym (nat_cmp_is a.right b.right Less h)

-- lists of which the first one comes before the second one climb together
pub Climbs-append : (cmp : Pair → Pair → Ordering) (xs ys : List Pair) → Climbs cmp (λ pair. pair) xs → Climbs cmp (λ pair. pair) ys → ((x y : Pair) → In x xs → In y ys → cmp x y ≡ Less) → Climbs cmp (λ pair. pair) (xs ++ ys)
Climbs-append cmp [] ys c d before = d
Climbs-append cmp (x ∷ xs) ys c d before = (
  each-append (Precedes cmp (λ pair. pair) x) xs ys c.0 (AllByRecursion-from_In (Precedes cmp (λ pair. pair) x) ys (λ y h. before x y (inl refl) h)),
  Climbs-append cmp xs ys c.1 d (λ a y h k. before a y (inr h) k),
)

-- the numbers of the pairs of a row rise
Climbs-of_row : (i : ℕ) (left : FeedRow) (j : ℕ) (rights : List FeedRow) → Climbs numbers_cmp (λ pair. pair) (pairs_of_row i left j rights)
Climbs-of_row i left j [] = tt
Climbs-of_row i left j (right ∷ rights) =
    (elim (bytes_eq left.join right.join) as (λ b. Climbs numbers_cmp (λ pair. pair) (cond b (pair_of i left j right ∷ pairs_of_row i left (suc j) rights) (pairs_of_row i left (suc j) rights))) [
      | true ↦ (AllByRecursion-from_In (Precedes numbers_cmp (λ pair. pair) (pair_of i left j right)) (pairs_of_row i left (suc j) rights) later, Climbs-of_row i left (suc j) rights)
      | false ↦ Climbs-of_row i left (suc j) rights
    ])
  where
    later : (pair : Pair) → In pair (pairs_of_row i left (suc j) rights) → Precedes numbers_cmp (λ pair. pair) (pair_of i left j right) pair
    later pair h =
        let made = In-of_row-back i left (suc j) rights pair h in
        subst (λ p. Precedes numbers_cmp (λ pair. pair) (pair_of i left j right) p) (sym made.is)
        (right-first (pair_of i left j right) (pair_of i left (suc j + made.place) made.right) refl (omega arith))

-- and so do those of all rows
pub Climbs-pairs : (i : ℕ) (lefts rights : List FeedRow) → Climbs numbers_cmp (λ pair. pair) (pairs_from i lefts rights)
Climbs-pairs i [] rights = tt
Climbs-pairs i (left ∷ lefts) rights =
    Climbs-append numbers_cmp (pairs_of_row i left 1 rights) (pairs_from (suc i) lefts rights) (Climbs-of_row i left 1 rights) (Climbs-pairs (suc i) lefts rights) before
  where
    before : (x y : Pair) → In x (pairs_of_row i left 1 rights) → In y (pairs_from (suc i) lefts rights) → numbers_cmp x y ≡ Less
    before x y h k =
        let one = In-of_row-back i left 1 rights x h in
        let other = In-pairs-back (suc i) lefts rights y k in
        left-first x y (let e : x.left ≡ i = ap (λ (p : Pair). p.left) one.is in let f : y.left ≡ suc i + other.left_place = ap (λ (p : Pair). p.left) other.is in omega arith)

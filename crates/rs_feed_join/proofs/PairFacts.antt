-- The pairs of rows, as the join of ranked rows has them.
use Rattle.std.proofs.Common.{◌≡◌, ℕ, zero, suc, ◌+◌, ◌<◌, ◌≤◌, ◌==◌, Bool, true, false, cond, List, [], ◌∷◌, ◌++◌, map, length, take, Some, slice_get, refl, sym, ◌∙◌, ap, ap₂, subst, arith}
use Rattle.std.proofs.lemmas.Bool.Decides.{nat_tests}
use Rattle.std.proofs.lemmas.List.{map-append}
use Rattle.std.specs.Cmp.{nat_cmp_is}
use Rattle.std.specs.List.{AllByRecursion, filter}
use Rattle.std.specs.Ordering.{nat_cmp, ordering_then}
use Rattle.std.specs.Str.{bytes_eq}
use Rattle.std.specs.declared.cmp.Ordering.TheVariants.{Less, Equal}
use Rattle.rs_feed.specs.declared.feed_row.FeedRow.{FeedRow}
use Rattle.rs_order.specs.Climbing.{Climbs, Precedes}
use Rattle.rs_order.proofs.EachFacts.{each-append, each-map}
use Rattle.rs_rank.specs.declared.row.RankRow.{RankRow}
use Rattle.rs_order.specs.Sorting.{sorted}
use Rattle.rs_rank.specs.Keys.{ids_cmp, key_cmp}
use Rattle.rs_rank.specs.Rows.{key_of, merge_row}
use Rattle.rs_rank.proofs.SortedFacts.{stable-by_key}
use Rattle.rs_rank.proofs.StableFacts.{AllByRecursion-stable, stable-map}
use Rattle.rs_ripple.specs.Pairs.{pairs, pairs_with}
use Rattle.rs_ripple.specs.Stands.{BeginsWith, answers}
use Rattle.rs_feed_join.specs.declared.feed_pair.FeedPair.{FeedPair}
use Rattle.rs_feed_join.specs.Pairs.{joined_pairs, pair_of, pairs_from, pairs_of_row, sum_of}
use Rattle.rs_feed_join.specs.Ranked.{feed_weights, join_of_rows, left_row, left_rows, numbered, right_row, right_rows, row_of, same_text, same_texts}
use Rattle.rs_feed_join.proofs.RowFacts.{none_at}

-- a pair as a row of the join
abbrev pub rank_of : FeedPair → RankRow
rank_of pair = record { ids = record { block = 1; mask = 3; rows = pair.left ∷ pair.right ∷ 0 ∷ 0 ∷ 0 ∷ 0 ∷ [] }; sum = pair.left_score + pair.right_score }

pub merged-is : (i j : ℕ) (left right : FeedRow) → 0 < i → merge_row (left_row i left) (right_row j right) ≡ rank_of (pair_of i left j right)
merged-is i j left right h =
    ap (λ b. record { ids = record { block = 1; mask = 3; rows = cond b 0 i ∷ j ∷ 0 ∷ 0 ∷ 0 ∷ 0 ∷ [] }; sum = left.score + right.score }) (not-zero i h)
  where
    not-zero : (n : ℕ) → 0 < n → (n == 0) ≡ false
    not-zero n k = grind (arith, nat_tests)

-- a list has these rows from a number on
abbrev pub Has : List FeedRow → ℕ → List FeedRow → Type 0
Has whole n rows = (k : ℕ) (row : FeedRow) → slice_get rows k ≡ Some row → row_of whole (n + k) ≡ Some row

pub has-first : (whole : List FeedRow) (n : ℕ) (row : FeedRow) (rows : List FeedRow) → Has whole n (row ∷ rows) → row_of whole n ≡ Some row
has-first whole n row rows has = subst (λ m. row_of whole m ≡ Some row) (omega arith) (has 0 row refl)

pub has-rest : (whole : List FeedRow) (n : ℕ) (row : FeedRow) (rows : List FeedRow) → Has whole n (row ∷ rows) → Has whole (suc n) rows
has-rest whole n row rows has = λ k other e. subst (λ m. row_of whole m ≡ Some other) (omega arith) (has (suc k) other e)

pub get-take : (n k : ℕ) (xs : List FeedRow) (x : FeedRow) → slice_get (take n xs) k ≡ Some x → slice_get xs k ≡ Some x
get-take zero k xs x e = absurd (none_at e)
get-take (suc n) k [] x e = absurd (none_at e)
get-take (suc n) zero (y ∷ ys) x e = e
get-take (suc n) (suc k) (y ∷ ys) x e = get-take n k ys x e

pub has-begins : (whole rows : List FeedRow) → BeginsWith whole rows → Has whole 1 rows
has-begins whole rows begins = λ k row e.
    subst (λ m. row_of whole m ≡ Some row) (one k)
    (get-take (length rows) k whole row (sym (ap (λ (xs : List FeedRow). slice_get xs k) begins) ∙ e))
  where
    one : (k : ℕ) → suc k ≡ 1 + k
    one k = omega arith

-- a number of a row lies within the list
pub row_of-within : (whole : List FeedRow) (n : ℕ) (row : FeedRow) → row_of whole n ≡ Some row → (0 < n) × (n ≤ length whole)
row_of-within whole zero row e = absurd (none_at e)
row_of-within whole (suc n) row e = (omega arith, go whole n e) where
  go : (xs : List FeedRow) (k : ℕ) → slice_get xs k ≡ Some row → suc k ≤ length xs
  go [] k f = absurd (none_at f)
  go (x ∷ xs) zero f = omega arith
  go (x ∷ xs) (suc k) f = let rest = go xs k f in omega (arith, rest)

-- the texts of rows whose numbers are known
pub matching : (lefts rights : List FeedRow) (i j : ℕ) (left right : FeedRow) → row_of lefts i ≡ Some left → row_of rights j ≡ Some right → same_texts lefts rights (left_row i left) (right_row j right) ≡ bytes_eq left.join right.join
matching lefts rights i j left right e f = ap₂ same_text e f

map-cond : {A B : Type 0} (f : A → B) (b : Bool) (x : A) (xs : List A) → map f (cond b (x ∷ xs) xs) ≡ cond b (f x ∷ map f xs) (map f xs)
map-cond f true x xs = refl
map-cond f false x xs = refl

module _ (lefts rights : List FeedRow) where
  -- the pairs of a row
  row-pairs : (i : ℕ) (left : FeedRow) → 0 < i → row_of lefts i ≡ Some left → (n : ℕ) (rows : List FeedRow) → Has rights n rows →
      pairs_with (same_texts lefts rights) merge_row (numbered right_row n rows) (left_row i left) ≡ map rank_of (pairs_of_row i left n rows)
  row-pairs i left h at n [] has = refl
  row-pairs i left h at n (row ∷ rows) has =
      ap (λ b. map (merge_row (left_row i left)) (cond b (right_row n row ∷ filter (same_texts lefts rights (left_row i left)) (numbered right_row (suc n) rows)) (filter (same_texts lefts rights (left_row i left)) (numbered right_row (suc n) rows))))
      (matching lefts rights i n left row at (has-first rights n row rows has))
      ∙ map-cond (merge_row (left_row i left)) (bytes_eq left.join row.join) (right_row n row) (filter (same_texts lefts rights (left_row i left)) (numbered right_row (suc n) rows))
      ∙ ap₂ (λ (first : RankRow) (rest : List RankRow). cond (bytes_eq left.join row.join) (first ∷ rest) rest) (merged-is i n left row h) (row-pairs i left h at (suc n) rows (has-rest rights n row rows has))
      ∙ sym (map-cond rank_of (bytes_eq left.join row.join) (pair_of i left n row) (pairs_of_row i left (suc n) rows))

  -- the pairs of all rows
  all-pairs : (i : ℕ) (rows others : List FeedRow) → 0 < i → Has lefts i rows → Has rights 1 others → pairs (same_texts lefts rights) merge_row (numbered left_row i rows) (right_rows others) ≡ map rank_of (pairs_from i rows others)
  all-pairs i [] others h has having = refl
  all-pairs i (row ∷ rows) others h has having =
      ap₂ (λ (xs ys : List RankRow). xs ++ ys) (row-pairs i row h (has-first lefts i row rows has) 1 others having) (all-pairs (suc i) rows others (omega arith) (has-rest lefts i row rows has) having)
      ∙ sym (map-append rank_of (pairs_of_row i row 1 others) (pairs_from (suc i) rows others))

pub pairs-are : (lefts rights xs ys : List FeedRow) → BeginsWith lefts xs → BeginsWith rights ys → pairs (same_texts lefts rights) merge_row (left_rows xs) (right_rows ys) ≡ map rank_of (pairs_from 1 xs ys)
pairs-are lefts rights xs ys begins beginning = all-pairs lefts rights 1 xs ys (omega arith) (has-begins lefts xs begins) (has-begins rights ys beginning)

-- the ids of the pairs rise
right-first : (a b : FeedPair) → a.left ≡ b.left → a.right < b.right → ids_cmp (rank_of a).ids (rank_of b).ids ≡ Less
right-first a b e h =
    ap (λ o. ordering_then o (ordering_then (nat_cmp a.right b.right) Equal)) (sym (nat_cmp_is a.left b.left Equal e)) ∙ ap (λ o. ordering_then o Equal) (sym (nat_cmp_is a.right b.right Less h))

left-first : (a b : FeedPair) → a.left < b.left → ids_cmp (rank_of a).ids (rank_of b).ids ≡ Less
left-first a b h = ap (λ o. ordering_then o (ordering_then (nat_cmp a.right b.right) Equal)) (sym (nat_cmp_is a.left b.left Less h))

-- what holds of the numbers of pairs
each-of_row : (P : FeedPair → Type 0) (i : ℕ) (left : FeedRow) (least : ℕ) → ((n : ℕ) (right : FeedRow) → least ≤ n → P (pair_of i left n right)) → (n : ℕ) → least ≤ n → (rows : List FeedRow) → AllByRecursion P (pairs_of_row i left n rows)
each-of_row P i left least holds n h [] = tt
each-of_row P i left least holds n h (row ∷ rows) = go (bytes_eq left.join row.join) (each-of_row P i left least holds (suc n) (omega arith) rows) where
  go : (b : Bool) → AllByRecursion P (pairs_of_row i left (suc n) rows) → AllByRecursion P (cond b (pair_of i left n row ∷ pairs_of_row i left (suc n) rows) (pairs_of_row i left (suc n) rows))
  go true rest = (holds n row h, rest)
  go false rest = rest

each-from : (P : FeedPair → Type 0) (others : List FeedRow) (least : ℕ) → ((i : ℕ) (left : FeedRow) (n : ℕ) (right : FeedRow) → least ≤ i → P (pair_of i left n right)) → (i : ℕ) → least ≤ i → (rows : List FeedRow) → AllByRecursion P (pairs_from i rows others)
each-from P others least holds i h [] = tt
each-from P others least holds i h (row ∷ rows) =
    each-append P (pairs_of_row i row 1 others) (pairs_from (suc i) rows others) (each-of_row P i row 0 (λ n right k. holds i row n right h) 1 (omega arith) others) (each-from P others least holds (suc i) (omega arith) rows)

abbrev ByIds : FeedPair → FeedPair → Type 0
ByIds a b = ids_cmp (rank_of a).ids (rank_of b).ids ≡ Less

abbrev Rising : List FeedPair → Type 0
Rising pairs = Climbs ids_cmp (λ (row : RankRow). row.ids) (map rank_of pairs)

rising-cons : (pair : FeedPair) (pairs : List FeedPair) → AllByRecursion (ByIds pair) pairs → Rising pairs → Rising (pair ∷ pairs)
rising-cons pair pairs each rising = (each-map (Precedes ids_cmp (λ (row : RankRow). row.ids) (rank_of pair)) rank_of pairs each, rising)

rising-row : (i : ℕ) (left : FeedRow) (n : ℕ) (rows : List FeedRow) → Rising (pairs_of_row i left n rows)
rising-row i left n [] = tt
rising-row i left n (row ∷ rows) =
    go (bytes_eq left.join row.join) (each-of_row (ByIds (pair_of i left n row)) i left (suc n) (λ m right h. right-first (pair_of i left n row) (pair_of i left m right) refl (omega (arith, h))) (suc n) (omega arith) rows) (rising-row i left (suc n) rows)
  where
    go : (b : Bool) → AllByRecursion (ByIds (pair_of i left n row)) (pairs_of_row i left (suc n) rows) → Rising (pairs_of_row i left (suc n) rows) → Rising (cond b (pair_of i left n row ∷ pairs_of_row i left (suc n) rows) (pairs_of_row i left (suc n) rows))
    go true each rest = rising-cons (pair_of i left n row) (pairs_of_row i left (suc n) rows) each rest
    go false each rest = rest

rising-append : (xs ys : List FeedPair) → Rising xs → Rising ys → AllByRecursion (λ x. AllByRecursion (ByIds x) ys) xs → Rising (xs ++ ys)
rising-append [] ys rising rise each = rise
rising-append (x ∷ xs) ys rising rise each =
    rising-cons x (xs ++ ys) (each-append (ByIds x) xs ys (back xs rising.0) each.0) (rising-append xs ys rising.1 rise each.1)
  where
    back : (zs : List FeedPair) → AllByRecursion (Precedes ids_cmp (λ (row : RankRow). row.ids) (rank_of x)) (map rank_of zs) → AllByRecursion (ByIds x) zs
    back [] all = tt
    back (z ∷ zs) all = (all.0, back zs all.1)

pub rising-pairs : (i : ℕ) (rows others : List FeedRow) → Climbs ids_cmp (λ (row : RankRow). row.ids) (map rank_of (pairs_from i rows others))
rising-pairs i [] others = tt
rising-pairs i (row ∷ rows) others =
    rising-append (pairs_of_row i row 1 others) (pairs_from (suc i) rows others) (rising-row i row 1 others) (rising-pairs (suc i) rows others)
    (each-of_row (λ x. AllByRecursion (ByIds x) (pairs_from (suc i) rows others)) i row 0
    (λ n right h. each-from (ByIds (pair_of i row n right)) others (suc i) (λ m left k other l. left-first (pair_of i row n right) (pair_of m left k other) (omega (arith, l))) (suc i) (omega arith) rows) 1 (omega arith) others)

-- the answers of the join are the pairs in order
each-sum : (pairs : List FeedPair) → AllByRecursion (λ pair. (rank_of pair).sum ≡ sum_of pair) pairs
each-sum [] = tt
each-sum (pair ∷ pairs) = (refl, each-sum pairs)

pub answers-are : (lefts rights xs ys : List FeedRow) → BeginsWith lefts xs → BeginsWith rights ys → answers (join_of_rows lefts rights) (left_rows xs) (right_rows ys) ≡ map rank_of (joined_pairs xs ys)
answers-are lefts rights xs ys begins beginning =
    ap (λ rows. sorted key_cmp (key_of feed_weights 3) rows) (pairs-are lefts rights xs ys begins beginning)
    ∙ sym (stable-by_key feed_weights 3 (map rank_of (pairs_from 1 xs ys)) (rising-pairs 1 xs ys))
    ∙ sym (stable-map rank_of sum_of (λ (row : RankRow). row.sum) (pairs_from 1 xs ys) (each-sum (pairs_from 1 xs ys)))

-- both rows of a pair
pub record IsPairIn (lefts rights : List FeedRow) (pair : FeedPair) : Type 0 where
  pub left : FeedRow
  pub right : FeedRow
  pub left_at : row_of lefts pair.left ≡ Some left
  pub right_at : row_of rights pair.right ≡ Some right
  pub is : pair ≡ pair_of pair.left left pair.right right

in-row : (lefts rights : List FeedRow) (i : ℕ) (left : FeedRow) → row_of lefts i ≡ Some left → (n : ℕ) (rows : List FeedRow) → Has rights n rows → AllByRecursion (IsPairIn lefts rights) (pairs_of_row i left n rows)
in-row lefts rights i left at n [] has = tt
in-row lefts rights i left at n (row ∷ rows) has = go (bytes_eq left.join row.join) (in-row lefts rights i left at (suc n) rows (has-rest rights n row rows has)) where
  go : (b : Bool) → AllByRecursion (IsPairIn lefts rights) (pairs_of_row i left (suc n) rows) → AllByRecursion (IsPairIn lefts rights) (cond b (pair_of i left n row ∷ pairs_of_row i left (suc n) rows) (pairs_of_row i left (suc n) rows))
  go true rest = (record { left = left; right = row; left_at = at; right_at = has-first rights n row rows has; is = refl }, rest)
  go false rest = rest

in-from : (lefts rights : List FeedRow) (i : ℕ) (rows others : List FeedRow) → Has lefts i rows → Has rights 1 others → AllByRecursion (IsPairIn lefts rights) (pairs_from i rows others)
in-from lefts rights i [] others has having = tt
in-from lefts rights i (row ∷ rows) others has having =
    each-append (IsPairIn lefts rights) (pairs_of_row i row 1 others) (pairs_from (suc i) rows others) (in-row lefts rights i row (has-first lefts i row rows has) 1 others having) (in-from lefts rights (suc i) rows others (has-rest lefts i row rows has) having)

pub in-pairs : (lefts rights : List FeedRow) → AllByRecursion (IsPairIn lefts rights) (joined_pairs lefts rights)
in-pairs lefts rights =
    AllByRecursion-stable sum_of (IsPairIn lefts rights) (pairs_from 1 lefts rights) (in-from lefts rights 1 lefts rights (itself lefts) (itself rights))
  where
    itself : (rows : List FeedRow) → Has rows 1 rows
    itself rows = λ k row e. subst (λ m. row_of rows m ≡ Some row) (one k) e where
      one : (k : ℕ) → suc k ≡ 1 + k
      one k = omega arith

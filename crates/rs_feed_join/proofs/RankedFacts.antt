-- Rows by their numbers, and as rows of the sides of a join.
use Rattle.std.proofs.Common.{◌≡◌, ℕ, zero, suc, ◌+◌, ◌<◌, ◌≤◌, ◌⊎◌, inl, inr, ◌^◌, List, [], ◌∷◌, ◌++◌, option_map, length, take, Some, slice_get, refl, sym, ◌∙◌, ap, arith}
use Rattle.std.specs.Cmp.{nat_cmp_is}
use Rattle.std.specs.List.{AllByRecursion}
use Rattle.std.specs.Ordering.{nat_cmp, ordering_then}
use Rattle.std.specs.declared.cmp.Ordering.{Ordering}
use Rattle.std.specs.declared.cmp.Ordering.TheVariants.{Less, Equal}
use Rattle.rs_feed.specs.declared.feed_row.FeedRow.{FeedRow}
use Rattle.rs_order.specs.Climbing.{Climbs, Precedes}
use Rattle.rs_rank.specs.declared.row.RankRow.{RankRow}
use Rattle.rs_rank.specs.Ids.{AreOtherIds}
use Rattle.rs_rank.specs.Keys.{key_cmp}
use Rattle.rs_rank.specs.Rows.{HaveOtherIds}
use Rattle.rs_ripple.specs.declared.side.Side.{Side}
use Rattle.rs_ripple.specs.Ripple.{CanJoin}
use Rattle.rs_ripple.specs.Stands.{AreSidesOf, IsRowOf, Join, side_key}
use Rattle.rs_feed_join.specs.Cuts.{Falls, HaveScores}
use Rattle.rs_feed_join.specs.Ranked.{feed_weights, join_of_rows, left_row, left_rows, left_side, numbered, right_row, right_rows, right_side}
use Rattle.rs_feed_join.proofs.RowFacts.{falls-below}

module _ {X : Type 0} (make : ℕ → FeedRow → X) where
  pub length-numbered : (n : ℕ) (rows : List FeedRow) → length (numbered make n rows) ≡ length rows
  length-numbered n [] = refl
  length-numbered n (row ∷ rows) = ap suc (length-numbered (suc n) rows)

  pub take-numbered : (k n : ℕ) (rows : List FeedRow) → take k (numbered make n rows) ≡ numbered make n (take k rows)
  take-numbered zero n rows = refl
  take-numbered (suc k) n [] = refl
  take-numbered (suc k) n (row ∷ rows) = ap (λ xs. make n row ∷ xs) (take-numbered k (suc n) rows)

  pub get-numbered : (k n : ℕ) (rows : List FeedRow) → slice_get (numbered make n rows) k ≡ option_map (make (n + k)) (slice_get rows k)
  get-numbered k n [] = refl
  get-numbered zero n (row ∷ rows) = ap (λ m. Some (make m row)) (omega arith)
  get-numbered (suc k) n (row ∷ rows) = get-numbered k (suc n) rows ∙ ap (λ m. option_map (make m) (slice_get rows k)) (omega arith)

  pub numbered-push : (n : ℕ) (rows : List FeedRow) (row : FeedRow) → numbered make n (rows ++ row ∷ []) ≡ numbered make n rows ++ make (n + length rows) row ∷ []
  numbered-push n [] row = ap (λ m. make m row ∷ []) (omega arith)
  numbered-push n (x ∷ xs) row = ap (λ rest. make n x ∷ rest) (numbered-push (suc n) xs row ∙ ap (λ m. numbered make (suc n) xs ++ make m row ∷ []) (omega arith))

  -- what holds of each row and every number behind one
  pub numbered-each : (P : X → Type 0) (Q : FeedRow → Type 0) (least : ℕ) → ((m : ℕ) (row : FeedRow) → least ≤ m → Q row → P (make m row)) → (n : ℕ) → least ≤ n → (rows : List FeedRow) → AllByRecursion Q rows → AllByRecursion P (numbered make n rows)
  numbered-each P Q least holds n h [] each = tt
  numbered-each P Q least holds n h (row ∷ rows) each = (holds n row h each.0, numbered-each P Q least holds (suc n) (omega arith) rows each.1)

-- a greater bound comes first, and at equal bounds the rest decides
bounds-first : (a b : ℕ) (r : Ordering) → b ≤ a → r ≡ Less → ordering_then (nat_cmp b a) r ≡ Less
bounds-first a b r h e = go (le-cases b a h) where
  le-cases : (x y : ℕ) → x ≤ y → (x < y) ⊎ (x ≡ y)
  le-cases x y k = cases (nat_order x y) where
    nat_order : (x y : ℕ) → (x < y) ⊎ (y ≤ x)
    nat_order zero zero = inr (omega arith)
    nat_order zero (suc y) = inl (omega arith)
    nat_order (suc x) zero = inr (omega arith)
    nat_order (suc x) (suc y) = elim (nat_order x y) [ inl l ↦ inl (omega (arith, l)) | inr l ↦ inr (omega (arith, l)) ]

    cases : (x < y) ⊎ (y ≤ x) → (x < y) ⊎ (x ≡ y)
    cases (inl l) = inl l
    cases (inr l) = inr (omega (arith, k, l))

  go : (b < a) ⊎ (b ≡ a) → ordering_then (nat_cmp b a) r ≡ Less
  go (inl l) = ap (λ o. ordering_then o r) (sym (nat_cmp_is b a Less l))
  go (inr l) = ap (λ o. ordering_then o r) (sym (nat_cmp_is b a Equal l)) ∙ e

numbers-first : (m n : ℕ) (r : Ordering) → m < n → ordering_then (nat_cmp m n) r ≡ Less
numbers-first m n r h = ap (λ o. ordering_then o r) (sym (nat_cmp_is m n Less h))

-- an earlier row that scores no less comes first
left-before : (lefts rights : List FeedRow) (m n : ℕ) (a b : FeedRow) → b.score ≤ a.score → m < n → Precedes key_cmp (side_key (join_of_rows lefts rights) left_side) (left_row m a) (left_row n b)
left-before lefts rights m n a b h k = bounds-first (a.score + 4294967295) (b.score + 4294967295) _ (omega arith) (numbers-first m n _ k)

right-before : (lefts rights : List FeedRow) (m n : ℕ) (a b : FeedRow) → b.score ≤ a.score → m < n → Precedes key_cmp (side_key (join_of_rows lefts rights) right_side) (right_row m a) (right_row n b)
right-before lefts rights m n a b h k = bounds-first (a.score + 4294967295) (b.score + 4294967295) _ (omega arith) (numbers-first m n _ k)

-- the keys of a side rise
numbered-climbs : (j : Join) (side : Side) (make : ℕ → FeedRow → RankRow) → ((m n : ℕ) (a b : FeedRow) → b.score ≤ a.score → m < n → Precedes key_cmp (side_key j side) (make m a) (make n b)) → (n : ℕ) (rows : List FeedRow) → Falls rows → Climbs key_cmp (side_key j side) (numbered make n rows)
numbered-climbs j side make before n [] falls = tt
numbered-climbs j side make before n (row ∷ rows) falls = (
  numbered-each make (Precedes key_cmp (side_key j side) (make n row)) (λ (r : FeedRow). r.score ≤ row.score) (suc n) (λ m other h k. before n m row other k (omega arith)) (suc n) (omega arith) rows (falls-below row rows falls),
  numbered-climbs j side make before (suc n) rows falls.1,
)

-- the numbers of rows tell them apart
numbered-others : (make : ℕ → FeedRow → RankRow) → ((m n : ℕ) (a b : FeedRow) → m < n → AreOtherIds (make m a).ids (make n b).ids) → (n : ℕ) (rows : List FeedRow) → HaveOtherIds (numbered make n rows)
numbered-others make other n [] = tt
numbered-others make other n (row ∷ rows) = (
  numbered-each make (λ (z : RankRow). AreOtherIds (make n row).ids z.ids) (λ r. Unit {0}) (suc n) (λ m r h k. other n m row r (omega arith)) (suc n) (omega arith) rows (each-unit rows),
  numbered-others make other (suc n) rows,
) where
  each-unit : (rows : List FeedRow) → AllByRecursion (λ r. Unit {0}) rows
  each-unit [] = tt
  each-unit (r ∷ rs) = (tt, each-unit rs)

one_zero : {G : Type 0} (n : ℕ) → suc n ≡ zero → G
one_zero n e = absurd (omega (arith, e))

first-same : (m n : ℕ) (xs ys : List ℕ) → m < n → m ∷ xs ≡ n ∷ ys → ⊥
first-same m n xs ys h e = let same : m ≡ n = cc in omega (arith, h, same)

left-is : (lefts rights : List FeedRow) (m : ℕ) (row : FeedRow) → row.score < 2 ^ 32 → IsRowOf (join_of_rows lefts rights) left_side (left_row m row)
left-is lefts rights m row h = record {
  ids = record { sized = refl; entries = omega arith; within = (λ e. one_zero 0 e, (λ e. refl, (λ e. refl, (λ e. refl, (λ e. refl, (λ e. refl, tt)))))) };
  entries = refl;
  block = refl;
  sum = omega (arith, h);
}

right-is : (lefts rights : List FeedRow) (m : ℕ) (row : FeedRow) → row.score < 2 ^ 32 → IsRowOf (join_of_rows lefts rights) right_side (right_row m row)
right-is lefts rights m row h = record {
  ids = record { sized = refl; entries = omega arith; within = (λ e. refl, (λ e. one_zero 0 e, (λ e. refl, (λ e. refl, (λ e. refl, (λ e. refl, tt)))))) };
  entries = refl;
  block = refl;
  sum = omega (arith, h);
}

pub can-join : CanJoin feed_weights left_side right_side
can-join = record {
  limits = record {
    weight_count = refl;
    max_count = refl;
    weight_limit = (omega arith, (omega arith, (omega arith, (omega arith, (omega arith, (omega arith, (omega arith, (omega arith, tt))))))));
    max_limit = (omega arith, (omega arith, (omega arith, (omega arith, (omega arith, (omega arith, (omega arith, (omega arith, tt))))))));
  };
  left_entries = omega arith;
  right_entries = omega arith;
  entries = refl;
  terms = refl;
}

-- rows that fall are sides of a join
pub sides-are : (lefts rights xs ys : List FeedRow) → Falls xs → HaveScores xs → Falls ys → HaveScores ys → AreSidesOf (join_of_rows lefts rights) (left_rows xs) (right_rows ys)
sides-are lefts rights xs ys falls scores falling scoring = record {
  sides = can-join;
  left_rows = record {
    each = numbered-each left_row (IsRowOf (join_of_rows lefts rights) left_side) (λ (r : FeedRow). r.score < 2 ^ 32) 1 (λ m r h k. left-is lefts rights m r k) 1 (omega arith) xs scores;
    rising = numbered-climbs (join_of_rows lefts rights) left_side left_row (left-before lefts rights) 1 xs falls;
    others = numbered-others left_row (λ m n a b h blocks rows. first-same m n (0 ∷ 0 ∷ 0 ∷ 0 ∷ 0 ∷ []) (0 ∷ 0 ∷ 0 ∷ 0 ∷ 0 ∷ []) h rows) 1 xs;
  };
  right_rows = record {
    each = numbered-each right_row (IsRowOf (join_of_rows lefts rights) right_side) (λ (r : FeedRow). r.score < 2 ^ 32) 1 (λ m r h k. right-is lefts rights m r k) 1 (omega arith) ys scoring;
    rising = numbered-climbs (join_of_rows lefts rights) right_side right_row (right-before lefts rights) 1 ys falling;
    others = numbered-others right_row (λ m n a b h blocks rows. first-same m n (0 ∷ 0 ∷ 0 ∷ 0 ∷ []) (0 ∷ 0 ∷ 0 ∷ 0 ∷ []) h (let same : m ∷ 0 ∷ 0 ∷ 0 ∷ 0 ∷ [] ≡ n ∷ 0 ∷ 0 ∷ 0 ∷ 0 ∷ [] = cc in same)) 1 ys;
  };
}

-- What a join of two feeds keeps: the pairs that it gave are certain, and the last of them comes before all that can still come.
use Rattle.std.proofs.Common.{◌≡◌, ℕ, zero, suc, ◌+◌, ◌<◌, ◌≤◌, ◌==◌, ◌&&◌, ◌||◌, Bool, true, false, cond, not, nat_lt, List, [], ◌∷◌, length, map, option_map, take, Option, Some, None, slice_get, refl, sym, ◌∙◌, ap, ap₂, subst, arith}
use Rattle.std.proofs.lemmas.Bool.{true≢false}
use Rattle.std.proofs.lemmas.Bool.Decides.{nat_tests}
use Rattle.std.proofs.lemmas.List.{length-map, take_all}
use Rattle.std.specs.Ordering.{is_gt, nat_cmp, ordering_then}
use Rattle.std.specs.declared.cmp.Ordering.{Ordering}
use Rattle.std.specs.declared.cmp.Ordering.TheVariants.{Less, Equal, Greater}
use Rattle.rs_feed.specs.declared.feed_row.FeedRow.{FeedRow}
use Rattle.rs_order.specs.Asks.{bar_after}
use Rattle.rs_order.specs.Climbing.{IsNoLater}
use Rattle.rs_order.specs.Last.{last_from, last_of}
use Rattle.rs_order.specs.Schedule.{Left, Right, SideAsk, asked}
use Rattle.rs_order.proofs.PartFacts.{bar_after-slice_get}
use Rattle.rs_rank.specs.declared.ask.JoinAsk.TheVariants.{NeedLeft, NeedRight, Ready, End}
use Rattle.rs_rank.specs.declared.ask.JoinAsk.{JoinAsk}
use Rattle.rs_rank.specs.declared.key.Key.{Key}
use Rattle.rs_rank.specs.declared.row.RankRow.{RankRow}
use Rattle.rs_rank.specs.Keys.{key_cmp}
use Rattle.rs_rank.specs.Merging.{merge_key}
use Rattle.rs_rank.specs.Rows.{first_key, key_of}
use Rattle.rs_ripple.specs.declared.side.Drawn.{Drawn}
use Rattle.rs_ripple.specs.Ripple.{HasReached, IsTakenReached, Ripple, ask_drawn, ask_first, ask_of, is_reached, pair_key}
use Rattle.rs_ripple.specs.Stands.{answer_key, answers, drawn_of, side_keys, state_after, taken_after}
use Rattle.rs_ripple.proofs.ScheduleFacts.{BeginsWith-itself}
use Rattle.rs_ripple.proofs.SideFacts.{merged_key-rows}
use Rattle.rs_feed_join.specs.declared.feed_pair.FeedPair.{FeedPair}
use Rattle.rs_feed_join.specs.Joins.{IsAtOrBefore, IsKept, ended_empty, no_pair_can_come}
use Rattle.rs_feed_join.specs.Pairs.{joined_pairs, pair_cmp, pair_of, sum_of}
use Rattle.rs_feed_join.specs.Parts.{PartsState, StandsAt, join_state}
use Rattle.rs_feed_join.specs.Ranked.{feed_weights, join_of_rows, left_row, left_rows, left_side, numbered, right_row, right_rows, right_side}
use Rattle.rs_feed_join.specs.Sides.{FeedSide, answered}
use Rattle.rs_feed_join.proofs.AnswerFacts.{all-given, given-certain, pairs-length}
use Rattle.rs_feed_join.proofs.PairFacts.{answers-are, merged-is, rank_of}
use Rattle.rs_feed_join.proofs.RankedFacts.{length-numbered}
use Rattle.rs_feed_join.proofs.RowFacts.{none_at}
use Rattle.rs_feed_join.proofs.StandFacts.{here, itself}

-- keys of pairs are ordered as the pairs are
then-equal : (o : Ordering) → ordering_then o Equal ≡ o
then-equal Less = refl
then-equal Equal = refl
then-equal Greater = refl

plus-none : (n : ℕ) → n + 0 ≡ n
plus-none n = omega arith

pair-keys : (p q : FeedPair) → key_cmp (key_of feed_weights 3 (rank_of p)) (key_of feed_weights 3 (rank_of q)) ≡ pair_cmp p q
pair-keys p q =
    ap₂ (λ (a b : Ordering). ordering_then a b)
    (ap₂ nat_cmp (plus-none (sum_of q)) (plus-none (sum_of p)))
    (ap (ordering_then (nat_cmp p.left q.left)) (then-equal (nat_cmp p.right q.right)))

-- the key of two rows
merged-key : (lefts rights : List FeedRow) (i j : ℕ) (left right : FeedRow) → 0 < i → merge_key feed_weights 1 2 (key_of feed_weights 1 (left_row i left)) (key_of feed_weights 2 (right_row j right)) ≡ key_of feed_weights 3 (rank_of (pair_of i left j right))
merged-key lefts rights i j left right h = merged_key-rows (join_of_rows lefts rights) (left_row i left) (right_row j right) ∙ ap (key_of feed_weights 3) (merged-is i j left right h)

not-greater : (b : Bool) → not b ≡ true → b ≡ false
not-greater true e = cc
not-greater false e = refl

reached-pair : (p : FeedPair) (i j : ℕ) (left right : FeedRow) → 0 < i → is_reached (Some (merge_key feed_weights 1 2 (key_of feed_weights 1 (left_row i left)) (key_of feed_weights 2 (right_row j right)))) (key_of feed_weights 3 (rank_of p)) ≡ true
    → IsNoLater pair_cmp (λ (key : FeedPair). key) p (pair_of i left j right)
reached-pair p i j left right h e =
    ap is_gt (sym (pair-keys p (pair_of i left j right)) ∙ ap (key_cmp (key_of feed_weights 3 (rank_of p))) (sym (merged-key [] [] i j left right h))) ∙ not-greater _ e

-- the key of the last of numbered rows
last-numbered : (make : ℕ → FeedRow → Key) (n : ℕ) (row : FeedRow) (rows : List FeedRow) → last_from (make n row) (numbered make (suc n) rows) ≡ make (n + length rows) (last_from row rows)
last-numbered make n row [] = ap (λ m. make m row) (sym (plus-none n))
last-numbered make n row (x ∷ xs) = last-numbered make (suc n) x xs ∙ ap (λ m. make m (last_from x xs)) (shift n (length xs)) where
  shift : (a b : ℕ) → suc a + b ≡ a + suc b
  shift a b = omega arith

map-numbered : {X Y : Type 0} (f : X → Y) (make : ℕ → FeedRow → X) (n : ℕ) (rows : List FeedRow) → map f (numbered make n rows) ≡ numbered (λ m row. f (make m row)) n rows
map-numbered f make n [] = refl
map-numbered f make n (row ∷ rows) = ap (λ rest. f (make n row) ∷ rest) (map-numbered f make (suc n) rows)

last-take : {X : Type 0} (n : ℕ) (xs : List X) → n < length xs → last_of (take (suc n) xs) ≡ slice_get xs n
last-take n [] h = absurd (omega (arith, h))
last-take zero (x ∷ xs) h = refl
last-take (suc n) (x ∷ []) h = absurd (omega (arith, h))
last-take (suc n) (x ∷ y ∷ ys) h = last-take n (y ∷ ys) (omega (arith, h))

pub get-map : {X Y : Type 0} (f : X → Y) (xs : List X) (n : ℕ) → slice_get (map f xs) n ≡ option_map f (slice_get xs n)
get-map f [] n = refl
get-map f (x ∷ xs) zero = refl
get-map f (x ∷ xs) (suc n) = get-map f xs n

map-map : {X Y Z : Type 0} (g : Y → Z) (f : X → Y) (o : Option X) → option_map g (option_map f o) ≡ option_map (λ x. g (f x)) o
map-map g f None = refl
map-map g f (Some x) = refl

-- the key of the pair at a place
abbrev pair_key_of : FeedPair → Key
pair_key_of pair = key_of feed_weights 3 (rank_of pair)

taken-is : (xs ys : List FeedRow) (n : ℕ) → bar_after (answer_key (join_of_rows xs ys)) (answers (join_of_rows xs ys) (left_rows xs) (right_rows ys)) n ≡ option_map pair_key_of (slice_get (joined_pairs xs ys) n)
taken-is xs ys n =
    bar_after-slice_get (answer_key (join_of_rows xs ys)) (answers (join_of_rows xs ys) (left_rows xs) (right_rows ys)) n
    ∙ ap (λ (rows : List RankRow). option_map (answer_key (join_of_rows xs ys)) (slice_get rows n)) (answers-are xs ys xs ys (BeginsWith-itself xs) (BeginsWith-itself ys))
    ∙ ap (option_map (answer_key (join_of_rows xs ys))) (get-map rank_of (joined_pairs xs ys) n)
    ∙ map-map (answer_key (join_of_rows xs ys)) rank_of (slice_get (joined_pairs xs ys) n)

no-left-row : (p : Option FeedPair) (i j : ℕ) (right : Option FeedRow) → IsAtOrBefore p i None j right
no-left-row None i j right = tt
no-left-row (Some p) i j right = tt

no-right-row : (p : Option FeedPair) (i j : ℕ) (left : Option FeedRow) → IsAtOrBefore p i left j None
no-right-row None i j left = tt
no-right-row (Some p) i j None = tt
no-right-row (Some p) i j (Some l) = tt

unended : (over : Bool) (k taken : Key) → over ≡ false → is_reached (cond over None (Some k)) taken ≡ true → is_reached (Some k) taken ≡ true
unended over k taken e reached = subst (λ b. is_reached (cond b None (Some k)) taken ≡ true) e reached

module _ (i k : ℕ) where
  left-reached-of : (xs ys : List FeedRow) (n : ℕ) → n ≤ length (joined_pairs xs ys) → nat_lt (length (side_keys (join_of_rows xs ys) left_side (left_rows xs))) i ≡ false
      → IsTakenReached (taken_after (join_of_rows xs ys) (left_rows xs) (right_rows ys) n) (drawn_of (side_keys (join_of_rows xs ys) left_side (left_rows xs))) (drawn_of (side_keys (join_of_rows xs ys) right_side (right_rows ys))) (state_after (join_of_rows xs ys) (left_rows xs) (right_rows ys) i k n)
      → IsAtOrBefore (last_of (take n (joined_pairs xs ys))) (length xs) (last_of xs) 1 (slice_get ys 0)
  left-reached-of [] ys n within over reached = no-left-row (last_of (take n (joined_pairs [] ys))) 0 1 (slice_get ys 0)
  left-reached-of (x ∷ xs) [] n within over reached = no-right-row (last_of (take n (joined_pairs (x ∷ xs) []))) (suc (length xs)) 1 (Some (last_from x xs))
  left-reached-of (x ∷ xs) (y ∷ ys) zero within over reached = tt
  left-reached-of (x ∷ xs) (y ∷ ys) (suc m) within over reached =
      subst (λ o. IsAtOrBefore o (suc (length xs)) (Some (last_from x xs)) 1 (Some y)) (sym (last-take m (joined_pairs (x ∷ xs) (y ∷ ys)) (omega (arith, within))))
      (go (slice_get (joined_pairs (x ∷ xs) (y ∷ ys)) m) (taken-is (x ∷ xs) (y ∷ ys) m))
    where
      last : last_from (key_of feed_weights 1 (left_row 1 x)) (map (key_of feed_weights 1) (numbered left_row 2 xs)) ≡ key_of feed_weights 1 (left_row (1 + length xs) (last_from x xs))
      last = ap (last_from (key_of feed_weights 1 (left_row 1 x))) (map-numbered (key_of feed_weights 1) left_row 2 xs) ∙ last-numbered (λ n row. key_of feed_weights 1 (left_row n row)) 1 x xs

      one : (n : ℕ) → 1 + n ≡ suc n
      one n = omega arith

      go : (o : Option FeedPair) → bar_after (answer_key (join_of_rows (x ∷ xs) (y ∷ ys))) (answers (join_of_rows (x ∷ xs) (y ∷ ys)) (left_rows (x ∷ xs)) (right_rows (y ∷ ys))) m ≡ option_map pair_key_of o → IsAtOrBefore o (suc (length xs)) (Some (last_from x xs)) 1 (Some y)
      go None e = tt
      go (Some p) e =
          let both = subst (λ taken. IsTakenReached taken (Some (record { first = key_of feed_weights 1 (left_row 1 x); last = last_from (key_of feed_weights 1 (left_row 1 x)) (map (key_of feed_weights 1) (numbered left_row 2 xs)) })) (drawn_of (side_keys (join_of_rows (x ∷ xs) (y ∷ ys)) right_side (right_rows (y ∷ ys)))) (state_after (join_of_rows (x ∷ xs) (y ∷ ys)) (left_rows (x ∷ xs)) (right_rows (y ∷ ys)) i k (suc m))) e reached in
          subst (λ n. IsNoLater pair_cmp (λ (key : FeedPair). key) p (pair_of n (last_from x xs) 1 y)) (one (length xs))
          (reached-pair p (1 + length xs) 1 (last_from x xs) y (omega arith)
          (subst (λ key. is_reached (Some (merge_key feed_weights 1 2 key (key_of feed_weights 2 (right_row 1 y)))) (pair_key_of p) ≡ true) last
          (unended (nat_lt (length (side_keys (join_of_rows (x ∷ xs) (y ∷ ys)) left_side (left_rows (x ∷ xs)))) i) _ (pair_key_of p) over both.0)))

  right-reached-of : (xs ys : List FeedRow) (n : ℕ) → n ≤ length (joined_pairs xs ys) → nat_lt (length (side_keys (join_of_rows xs ys) right_side (right_rows ys))) k ≡ false
      → IsTakenReached (taken_after (join_of_rows xs ys) (left_rows xs) (right_rows ys) n) (drawn_of (side_keys (join_of_rows xs ys) left_side (left_rows xs))) (drawn_of (side_keys (join_of_rows xs ys) right_side (right_rows ys))) (state_after (join_of_rows xs ys) (left_rows xs) (right_rows ys) i k n)
      → IsAtOrBefore (last_of (take n (joined_pairs xs ys))) 1 (slice_get xs 0) (length ys) (last_of ys)
  right-reached-of [] ys n within over reached = no-left-row (last_of (take n (joined_pairs [] ys))) 1 (length ys) (last_of ys)
  right-reached-of (x ∷ xs) [] n within over reached = no-right-row (last_of (take n (joined_pairs (x ∷ xs) []))) 1 0 (Some x)
  right-reached-of (x ∷ xs) (y ∷ ys) zero within over reached = tt
  right-reached-of (x ∷ xs) (y ∷ ys) (suc m) within over reached =
      subst (λ o. IsAtOrBefore o 1 (Some x) (suc (length ys)) (Some (last_from y ys))) (sym (last-take m (joined_pairs (x ∷ xs) (y ∷ ys)) (omega (arith, within))))
      (go (slice_get (joined_pairs (x ∷ xs) (y ∷ ys)) m) (taken-is (x ∷ xs) (y ∷ ys) m))
    where
      last : last_from (key_of feed_weights 2 (right_row 1 y)) (map (key_of feed_weights 2) (numbered right_row 2 ys)) ≡ key_of feed_weights 2 (right_row (1 + length ys) (last_from y ys))
      last = ap (last_from (key_of feed_weights 2 (right_row 1 y))) (map-numbered (key_of feed_weights 2) right_row 2 ys) ∙ last-numbered (λ n row. key_of feed_weights 2 (right_row n row)) 1 y ys

      one : (n : ℕ) → 1 + n ≡ suc n
      one n = omega arith

      go : (o : Option FeedPair) → bar_after (answer_key (join_of_rows (x ∷ xs) (y ∷ ys))) (answers (join_of_rows (x ∷ xs) (y ∷ ys)) (left_rows (x ∷ xs)) (right_rows (y ∷ ys))) m ≡ option_map pair_key_of o → IsAtOrBefore o 1 (Some x) (suc (length ys)) (Some (last_from y ys))
      go None e = tt
      go (Some p) e =
          let both = subst (λ taken. IsTakenReached taken (drawn_of (side_keys (join_of_rows (x ∷ xs) (y ∷ ys)) left_side (left_rows (x ∷ xs)))) (Some (record { first = key_of feed_weights 2 (right_row 1 y); last = last_from (key_of feed_weights 2 (right_row 1 y)) (map (key_of feed_weights 2) (numbered right_row 2 ys)) })) (state_after (join_of_rows (x ∷ xs) (y ∷ ys)) (left_rows (x ∷ xs)) (right_rows (y ∷ ys)) i k (suc m))) e reached in
          subst (λ n. IsNoLater pair_cmp (λ (key : FeedPair). key) p (pair_of 1 x n (last_from y ys))) (one (length ys))
          (reached-pair p 1 (1 + length ys) x (last_from y ys) (omega arith)
          (subst (λ key. is_reached (Some (merge_key feed_weights 1 2 (key_of feed_weights 1 (left_row 1 x)) key)) (pair_key_of p) ≡ true) last
          (unended (nat_lt (length (side_keys (join_of_rows (x ∷ xs) (y ∷ ys)) right_side (right_rows (y ∷ ys)))) k) _ (pair_key_of p) over both.1)))

-- a join ends where both sides have, or one has without a row
ends-by : (a b : Bool) (left right : Key) (held : Option Key) → ask_first (cond a None (Some left)) (cond b None (Some right)) held ≡ End → (a ≡ true) × (b ≡ true)
ends-by true true left right held e = (refl, refl)
ends-by true false left right None e = cc
ends-by true false left right (Some key) e = absurd (neither (is_reached None key && is_reached (Some right) key) NeedRight (λ f. cc) e) where
  neither : (c : Bool) (ask : JoinAsk) → (ask ≡ End → ⊥) → cond c Ready ask ≡ End → ⊥
  neither true ask not f = cc
  neither false ask not f = not f
ends-by false true left right None e = cc
ends-by false true left right (Some key) e = absurd (neither (is_reached (Some left) key && is_reached None key) NeedLeft (λ f. cc) e) where
  neither : (c : Bool) (ask : JoinAsk) → (ask ≡ End → ⊥) → cond c Ready ask ≡ End → ⊥
  neither true ask not f = cc
  neither false ask not f = not f
ends-by false false left right held e = absurd (go held (is_gt (key_cmp left right)) e) where
  neither : (c : Bool) (ask : JoinAsk) → (ask ≡ End → ⊥) → cond c Ready ask ≡ End → ⊥
  neither true ask not f = cc
  neither false ask not f = not f

  turns : (c : Bool) → cond c NeedRight NeedLeft ≡ End → ⊥
  turns true f = cc
  turns false f = cc

  go : (held : Option Key) (c : Bool) → ask_first (Some left) (Some right) held ≡ End → ⊥
  go None c f = turns (is_gt (key_cmp left right)) f
  go (Some key) c f = neither (is_reached (Some left) key && is_reached (Some right) key) (cond (is_gt (key_cmp left right)) NeedRight NeedLeft) (turns (is_gt (key_cmp left right))) f

one-ends : (b : Bool) (ask : JoinAsk) → (ask ≡ End → ⊥) → cond b End ask ≡ End → b ≡ true
one-ends true ask not e = refl
one-ends false ask not e = absurd (not e)

data EndsBy (ripple : Ripple) (left right : Option Drawn) : Type 0 where
  left_empty : left ≡ None → ripple.left.ended ≡ true → EndsBy ripple left right
  right_empty : right ≡ None → ripple.right.ended ≡ true → EndsBy ripple left right
  both_over : ripple.left.ended ≡ true → ripple.right.ended ≡ true → EndsBy ripple left right

ends-how : (ripple : Ripple) (left right : Option Drawn) → ask_drawn left right ripple ≡ End → EndsBy ripple left right
ends-how ripple None right e = left_empty refl (one-ends ripple.left.ended NeedLeft (λ f. cc) e)
ends-how ripple (Some left) None e = right_empty refl (one-ends ripple.right.ended NeedRight (λ f. cc) e)
ends-how ripple (Some left) (Some right) e =
    let both = ends-by ripple.left.ended ripple.right.ended (pair_key ripple left.last right.first) (pair_key ripple left.first right.last) (first_key ripple.held) e in
    both_over both.0 both.1

-- a side of which nothing is drawn has no row
none-drawn : (make : ℕ → FeedRow → Key) (rows : List FeedRow) → drawn_of (numbered make 1 rows) ≡ None → length rows ≡ 0
none-drawn make [] e = refl
none-drawn make (row ∷ rows) e = absurd (none_at (sym e))

module _ (made : List SideAsk) (parts : PartsState) (s : StandsAt made parts) where
  side-over : (side : FeedSide) (keys asks : ℕ) → keys ≡ length side.rows → asks ≡ answered side → nat_lt keys asks ≡ side.ended
  side-over side keys asks e f = go side.ended f where
    go : (b : Bool) → asks ≡ length side.rows + cond b 1 0 → nat_lt keys asks ≡ b
    go true g = grind (arith, nat_tests)
    go false g = grind (arith, nat_tests)

  left-length : length (side_keys (join_of_rows parts.left.rows parts.right.rows) left_side (left_rows parts.left.rows)) ≡ length parts.left.rows
  left-length = length-map (left_rows parts.left.rows) (key_of feed_weights 1) ∙ length-numbered left_row 1 parts.left.rows

  right-length : length (side_keys (join_of_rows parts.left.rows parts.right.rows) right_side (right_rows parts.right.rows)) ≡ length parts.right.rows
  right-length = length-map (right_rows parts.right.rows) (key_of feed_weights 2) ∙ length-numbered right_row 1 parts.right.rows

  more-asks : (side : FeedSide) (asks : ℕ) → asks ≡ answered side → length side.rows ≤ asks
  more-asks side asks e = go side.ended e where
    go : (b : Bool) → asks ≡ length side.rows + cond b 1 0 → length side.rows ≤ asks
    go true f = omega (arith, f)
    go false f = omega (arith, f)

  left-all : take (asked Left made) (side_keys (join_of_rows parts.left.rows parts.right.rows) left_side (left_rows parts.left.rows)) ≡ side_keys (join_of_rows parts.left.rows parts.right.rows) left_side (left_rows parts.left.rows)
  left-all = take_all (asked Left made) (side_keys (join_of_rows parts.left.rows parts.right.rows) left_side (left_rows parts.left.rows)) (let e = left-length in let f = more-asks parts.left (asked Left made) s.left_asked in omega (arith, e, f))

  right-all : take (asked Right made) (side_keys (join_of_rows parts.left.rows parts.right.rows) right_side (right_rows parts.right.rows)) ≡ side_keys (join_of_rows parts.left.rows parts.right.rows) right_side (right_rows parts.right.rows)
  right-all = take_all (asked Right made) (side_keys (join_of_rows parts.left.rows parts.right.rows) right_side (right_rows parts.right.rows)) (let e = right-length in let f = more-asks parts.right (asked Right made) s.right_asked in omega (arith, e, f))

  reached-now : IsTakenReached (taken_after (join_of_rows parts.left.rows parts.right.rows) (left_rows parts.left.rows) (right_rows parts.right.rows) parts.given)
      (drawn_of (side_keys (join_of_rows parts.left.rows parts.right.rows) left_side (left_rows parts.left.rows))) (drawn_of (side_keys (join_of_rows parts.left.rows parts.right.rows) right_side (right_rows parts.right.rows)))
      (state_after (join_of_rows parts.left.rows parts.right.rows) (left_rows parts.left.rows) (right_rows parts.right.rows) (asked Left made) (asked Right made) parts.given)
  reached-now =
      subst (λ keys. IsTakenReached (taken_after (join_of_rows parts.left.rows parts.right.rows) (left_rows parts.left.rows) (right_rows parts.right.rows) parts.given) (drawn_of (side_keys (join_of_rows parts.left.rows parts.right.rows) left_side (left_rows parts.left.rows))) (drawn_of keys) (state_after (join_of_rows parts.left.rows parts.right.rows) (left_rows parts.left.rows) (right_rows parts.right.rows) (asked Left made) (asked Right made) parts.given)) right-all
      (subst (λ keys. IsTakenReached (taken_after (join_of_rows parts.left.rows parts.right.rows) (left_rows parts.left.rows) (right_rows parts.right.rows) parts.given) (drawn_of keys) (drawn_of (take (asked Right made) (side_keys (join_of_rows parts.left.rows parts.right.rows) right_side (right_rows parts.right.rows)))) (state_after (join_of_rows parts.left.rows parts.right.rows) (left_rows parts.left.rows) (right_rows parts.right.rows) (asked Left made) (asked Right made) parts.given)) left-all
      (subst HasReached (here made parts s).core.state s.joined.reached))

  given-within : parts.given ≤ length (joined_pairs parts.left.rows parts.right.rows)
  given-within = let e = pairs-length made parts s parts.left.rows parts.right.rows (itself parts.left s.left_taken) (itself parts.right s.right_taken) in let f = (here made parts s).core.within in omega (arith, e, f)

  -- what holds of each join
  pub is-kept : IsKept (join_state parts false false)
  is-kept = record {
    left_rows = s.left_taken;
    right_rows = s.right_taken;
    within = given-within;
    certain = λ lefts rights c d. given-certain made parts s lefts rights c d;
    left_reached = λ e. left-reached-of (asked Left made) (asked Right made) parts.left.rows parts.right.rows parts.given given-within (side-over parts.left _ (asked Left made) left-length s.left_asked ∙ e) reached-now;
    right_reached = λ e. right-reached-of (asked Left made) (asked Right made) parts.left.rows parts.right.rows parts.given given-within (side-over parts.right _ (asked Right made) right-length s.right_asked ∙ e) reached-now;
    all = λ e. absurd (true≢false (sym e));
    over = λ e. absurd (true≢false (sym e));
  }

  -- and of one that has given all its pairs
  module _ (end : ask_of parts.core.ripple ≡ End) where
    left-ended : parts.core.ripple.left.ended ≡ parts.left.ended
    left-ended = ap (λ (ripple : Ripple). ripple.left.ended) (here made parts s).core.state ∙ side-over parts.left _ (asked Left made) left-length s.left_asked

    right-ended : parts.core.ripple.right.ended ≡ parts.right.ended
    right-ended = ap (λ (ripple : Ripple). ripple.right.ended) (here made parts s).core.state ∙ side-over parts.right _ (asked Right made) right-length s.right_asked

    left-drawn : parts.core.ripple.left.drawn ≡ drawn_of (numbered (λ n row. key_of feed_weights 1 (left_row n row)) 1 parts.left.rows)
    left-drawn = ap (λ (ripple : Ripple). ripple.left.drawn) (here made parts s).core.state ∙ ap drawn_of (left-all ∙ map-numbered (key_of feed_weights 1) left_row 1 parts.left.rows)

    right-drawn : parts.core.ripple.right.drawn ≡ drawn_of (numbered (λ n row. key_of feed_weights 2 (right_row n row)) 1 parts.right.rows)
    right-drawn = ap (λ (ripple : Ripple). ripple.right.drawn) (here made parts s).core.state ∙ ap drawn_of (right-all ∙ map-numbered (key_of feed_weights 2) right_row 1 parts.right.rows)

    no-more : EndsBy parts.core.ripple parts.core.ripple.left.drawn parts.core.ripple.right.drawn → no_pair_can_come parts.left parts.right ≡ true
    no-more (left_empty e f) =
        first (parts.left.ended && parts.right.ended) parts.left.ended (length parts.left.rows) (ended_empty parts.right) (sym left-ended ∙ f) (none-drawn _ parts.left.rows (sym left-drawn ∙ e))
      where
        first : (a b : Bool) (n : ℕ) (c : Bool) → b ≡ true → n ≡ 0 → a || ((b && (n == 0)) || c) ≡ true
        first a b n c e f = grind (arith, nat_tests)
    no-more (right_empty e f) =
        second (parts.left.ended && parts.right.ended) (ended_empty parts.left) parts.right.ended (length parts.right.rows) (sym right-ended ∙ f) (none-drawn _ parts.right.rows (sym right-drawn ∙ e))
      where
        second : (a c b : Bool) (n : ℕ) → b ≡ true → n ≡ 0 → a || (c || (b && (n == 0))) ≡ true
        second a c b n e f = grind (arith, nat_tests)
    no-more (both_over e f) =
        third parts.left.ended parts.right.ended (ended_empty parts.left || ended_empty parts.right) (sym left-ended ∙ e) (sym right-ended ∙ f)
      where
        third : (a b c : Bool) → a ≡ true → b ≡ true → (a && b) || c ≡ true
        third a b c e f = grind (arith, nat_tests)

    pub is-whole : IsKept (join_state parts true false)
    is-whole = record {
      left_rows = s.left_taken;
      right_rows = s.right_taken;
      within = given-within;
      certain = is-kept.certain;
      left_reached = is-kept.left_reached;
      right_reached = is-kept.right_reached;
      all = λ e. sym (all-given made parts s parts.left.rows parts.right.rows (itself parts.left s.left_taken) (itself parts.right s.right_taken) end);
      over = λ e. no-more (ends-how parts.core.ripple parts.core.ripple.left.drawn parts.core.ripple.right.drawn end);
    }

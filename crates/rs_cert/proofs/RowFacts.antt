-- Rows whose scores fall, by their places.
use Rattle.std.proofs.Common.{◌≡◌, ℕ, zero, suc, ◌<◌, ◌≤◌, false, nat_lt, List, [], ◌∷◌, ◌++◌, option_map, length, take, Option, Some, None, slice_get, refl, sym, subst, arith}
use Rattle.std.proofs.lemmas.Bool.Decides.{nat_tests}
use Rattle.std.specs.Ordering.{flip_args, is_gt, nat_cmp}
use Rattle.rs_feed.specs.declared.feed_row.FeedRow.{FeedRow}
use Rattle.rs_order.specs.Climbing.{IsNoLater}
use Rattle.rs_order.specs.Last.{last_from, last_of}
use Rattle.rs_order.proofs.EachFacts.{each-push, each-slice_get}
use Rattle.rs_cert.specs.Rows.{Falls, rises}

-- nothing stands at a place of an empty list
pub none_at : {X : Type 0} {x : X} → None ≡ Some x → ⊥
none_at e = cc

pub same_at : {X : Type 0} {x y : X} → Some x ≡ Some y → x ≡ y
same_at e = cc

-- a score that comes no later is at least the other one
no_later-at_most : (a b : ℕ) → is_gt (nat_cmp b a) ≡ false → b ≤ a
no_later-at_most a b e = grind (arith, nat_tests)

-- a later score is at most an earlier one
pub Falls-at : (rows : List FeedRow) (m n : ℕ) (x y : FeedRow) → Falls rows → m ≤ n → slice_get rows m ≡ Some x → slice_get rows n ≡ Some y → y.score ≤ x.score
Falls-at [] m n x y falls h at other = absurd (none_at at)
Falls-at (row ∷ rows) zero zero x y falls h at other = let same : x ≡ y = cc in subst (λ z. y.score ≤ z.score) (sym same) (omega arith)
Falls-at (row ∷ rows) zero (suc n) x y falls h at other =
    let first : row ≡ x = same_at at in
    subst (λ z. y.score ≤ z.score) first
    (no_later-at_most row.score y.score (each-slice_get (IsNoLater (flip_args nat_cmp) (λ (r : FeedRow). r.score) row) rows n y falls.0 other))
Falls-at (row ∷ rows) (suc m) zero x y falls h at other = absurd (omega arith)
Falls-at (row ∷ rows) (suc m) (suc n) x y falls h at other = Falls-at rows m n x y falls.1 (omega arith) at other

-- a row among the first ones of a list
pub slice_get-begin : {X : Type 0} (n m : ℕ) (xs : List X) → m < n → slice_get (take n xs) m ≡ slice_get xs m
slice_get-begin zero m xs h = absurd (omega arith)
slice_get-begin (suc n) m [] h = refl
slice_get-begin (suc n) zero (x ∷ xs) h = refl
slice_get-begin (suc n) (suc m) (x ∷ xs) h = slice_get-begin n m xs (omega arith)

-- the last row stands at the last place
last_from-at : {X : Type 0} (x : X) (xs : List X) (n : ℕ) → n ≡ length xs → slice_get (x ∷ xs) n ≡ Some (last_from x xs)
last_from-at x [] zero e = refl
last_from-at x [] (suc n) e = absurd (omega arith)
last_from-at x (y ∷ ys) zero e = absurd (omega arith)
last_from-at x (y ∷ ys) (suc n) e = last_from-at y ys n (omega arith)

pub last_of-at : {X : Type 0} (xs : List X) (n : ℕ) → length xs ≡ suc n → slice_get xs n ≡ last_of xs
last_of-at [] n e = absurd (omega arith)
last_of-at (x ∷ xs) n e = last_from-at x xs n (omega arith)

-- what isn't greater comes no later
not_greater : (a b : ℕ) → nat_lt a b ≡ false → is_gt (nat_cmp b a) ≡ false
not_greater a b e = grind (arith, nat_tests)

not_below : (a b : ℕ) → is_gt (nat_cmp b a) ≡ false → nat_lt a b ≡ false
not_below a b e = grind (arith, nat_tests)

no_later : (a b : ℕ) → b ≤ a → is_gt (nat_cmp b a) ≡ false
no_later a b h = grind (arith, nat_tests)

-- the score in front
abbrev pub score_before : List FeedRow → Option ℕ
score_before rows = option_map (λ (row : FeedRow). row.score) (last_of rows)

pub at-push : (rows : List FeedRow) (row : FeedRow) → slice_get (rows ++ row ∷ []) (length rows) ≡ Some row
at-push [] row = refl
at-push (x ∷ xs) row = at-push xs row

-- scores fall on where the next one isn't greater than the last one
pub Falls-push : (rows : List FeedRow) (row : FeedRow) → Falls rows → rises (score_before rows) row.score ≡ false → Falls (rows ++ row ∷ [])
Falls-push [] row falls e = (tt, tt)
Falls-push (x ∷ []) row falls e = ((not_greater x.score row.score e, tt), (tt, tt))
Falls-push (x ∷ y ∷ ys) row falls e =
    let behind : Falls ((y ∷ ys) ++ row ∷ []) = Falls-push (y ∷ ys) row falls.1 e in
    let one : row.score ≤ y.score = Falls-at ((y ∷ ys) ++ row ∷ []) 0 (length (y ∷ ys)) y row behind (omega arith) refl (at-push (y ∷ ys) row) in
    let other : y.score ≤ x.score = no_later-at_most x.score y.score falls.0.0 in
    (each-push (IsNoLater (flip_args nat_cmp) (λ (r : FeedRow). r.score) x) (y ∷ ys) row falls.0 (no_later x.score row.score (omega arith)), behind)

-- and only there
pub falls-next : (rows : List FeedRow) (row : FeedRow) → Falls (rows ++ row ∷ []) → rises (score_before rows) row.score ≡ false
falls-next [] row falls = refl
falls-next (x ∷ []) row falls = not_below x.score row.score falls.0.0
falls-next (x ∷ y ∷ ys) row falls = falls-next (y ∷ ys) row falls.1

pub last-push : (rows : List FeedRow) (row : FeedRow) → score_before (rows ++ row ∷ []) ≡ Some row.score
last-push [] row = refl
last-push (x ∷ []) row = refl
last-push (x ∷ y ∷ ys) row = last-push (y ∷ ys) row

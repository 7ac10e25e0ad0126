-- Rows whose scores fall, and the longest fronts in which they do.
use Rattle.std.proofs.Common.{◌≡◌, ℕ, zero, suc, ◌<◌, ◌≤◌, ◌^◌, Bool, true, false, cond, nat_lt, List, [], ◌∷◌, ◌++◌, length, take, drop, Option, Some, None, refl, sym, ◌∙◌, ap, arith}
use Rattle.std.proofs.lemmas.Bool.Decides.{nat_tests}
use Rattle.std.proofs.lemmas.List.{append-nil, take-append-drop, take-take, take_all, take_at}
use Rattle.std.specs.List.{AllByRecursion}
use Rattle.std.specs.Ordering.{flip_args, is_gt, nat_cmp}
use Rattle.rs_feed.specs.declared.feed_row.FeedRow.{FeedRow}
use Rattle.rs_order.specs.Climbing.{IsNoLater}
use Rattle.rs_order.specs.Last.{last_from}
use Rattle.rs_order.proofs.EachFacts.{each-take, each-weaker}
use Rattle.rs_ripple.specs.Stands.{BeginsWith}
use Rattle.rs_feed_join.specs.Cuts.{Falls, HaveScores, cut, falling_behind, last_score, most_rows, rises}

pub none_at : {X : Type 0} {x : X} → None ≡ Some x → ⊥
none_at e = cc

pub same_at : {X : Type 0} {x y : X} → Some x ≡ Some y → x ≡ y
same_at e = cc

pub length-snoc : {X : Type 0} (xs : List X) (x : X) → length (xs ++ x ∷ []) ≡ suc (length xs)
length-snoc [] x = refl
length-snoc (y ∷ ys) x = ap suc (length-snoc ys x)

-- a score that comes no later is at least the other one
no_later-at_most : (a b : ℕ) → is_gt (nat_cmp b a) ≡ false → b ≤ a
no_later-at_most a b e = grind (arith, nat_tests)

no_later : (a b : ℕ) → b ≤ a → is_gt (nat_cmp b a) ≡ false
no_later a b h = grind (arith, nat_tests)

not_greater : (a b : ℕ) → nat_lt a b ≡ false → is_gt (nat_cmp b a) ≡ false
not_greater a b e = grind (arith, nat_tests)

not_below : (a b : ℕ) → is_gt (nat_cmp b a) ≡ false → nat_lt a b ≡ false
not_below a b e = grind (arith, nat_tests)

-- no score is greater than the one in front of it
abbrev pub Stays : Option ℕ → List FeedRow → Type 0
Stays before [] = Unit {0}
Stays before (row ∷ rows) = (rises before row.score ≡ false) × Stays (Some row.score) rows

Stays-behind : (x : FeedRow) (rows : List FeedRow) → Falls (x ∷ rows) → Stays (Some x.score) rows
Stays-behind x [] falls = tt
Stays-behind x (y ∷ ys) falls = (not_below x.score y.score falls.0.0, Stays-behind y ys falls.1)

pub Stays-Falls : (rows : List FeedRow) → Falls rows → Stays None rows
Stays-Falls [] falls = tt
Stays-Falls (x ∷ xs) falls = (refl, Stays-behind x xs falls)

each-below : (a : ℕ) (rows : List FeedRow) → Stays (Some a) rows → AllByRecursion (λ (r : FeedRow). r.score ≤ a) rows
each-below a [] stays = tt
each-below a (y ∷ ys) stays =
    let first : y.score ≤ a = no_later-at_most a y.score (not_greater a y.score stays.0) in
    (first, each-weaker (λ (r : FeedRow). r.score ≤ y.score) (λ (r : FeedRow). r.score ≤ a) (λ r h. omega arith) ys (each-below y.score ys stays.1))

Falls-behind : (a : ℕ) (rows : List FeedRow) → Stays (Some a) rows → Falls rows
Falls-behind a [] stays = tt
Falls-behind a (y ∷ ys) stays =
    (each-weaker (λ (r : FeedRow). r.score ≤ y.score) (IsNoLater (flip_args nat_cmp) (λ (r : FeedRow). r.score) y) (λ r h. no_later y.score r.score h) ys (each-below y.score ys stays.1), Falls-behind y.score ys stays.1)

pub Falls-Stays : (rows : List FeedRow) → Stays None rows → Falls rows
Falls-Stays [] stays = tt
Falls-Stays (y ∷ ys) stays =
    (each-weaker (λ (r : FeedRow). r.score ≤ y.score) (IsNoLater (flip_args nat_cmp) (λ (r : FeedRow). r.score) y) (λ r h. no_later y.score r.score h) ys (each-below y.score ys stays.1), Falls-behind y.score ys stays.1)

-- the score of the last row, or the one in front where there is none
abbrev pub end_score : Option ℕ → List FeedRow → Option ℕ
end_score before [] = before
end_score before (row ∷ rows) = end_score (Some row.score) rows

end-last : (x : FeedRow) (xs : List FeedRow) → end_score (Some x.score) xs ≡ Some (last_from x xs).score
end-last x [] = refl
end-last x (y ∷ ys) = end-last y ys

pub end-last_score : (rows : List FeedRow) → end_score None rows ≡ last_score rows
end-last_score [] = refl
end-last_score (x ∷ xs) = end-last x xs

-- one row more
Stays-push : (before : Option ℕ) (rows : List FeedRow) (row : FeedRow) → Stays before rows → rises (end_score before rows) row.score ≡ false → Stays before (rows ++ row ∷ [])
Stays-push before [] row stays e = (e, tt)
Stays-push before (x ∷ xs) row stays e = (stays.0, Stays-push (Some x.score) xs row stays.1 e)

pub Falls-push : (rows : List FeedRow) (row : FeedRow) → Falls rows → rises (last_score rows) row.score ≡ false → Falls (rows ++ row ∷ [])
Falls-push rows row falls e =
    Falls-Stays (rows ++ row ∷ []) (Stays-push None rows row (Stays-Falls rows falls) (ap (λ before. rises before row.score) (end-last_score rows) ∙ e))

Stays-take : (n : ℕ) (before : Option ℕ) (rows : List FeedRow) → Stays before rows → Stays before (take n rows)
Stays-take zero before rows stays = tt
Stays-take (suc n) before [] stays = tt
Stays-take (suc n) before (x ∷ xs) stays = (stays.0, Stays-take n (Some x.score) xs stays.1)

-- what is taken of rows, and of those behind rows that stay
Stays-falling : (before : Option ℕ) (rows : List FeedRow) → Stays before (falling_behind before rows)
Stays-falling before [] = tt
Stays-falling before (x ∷ xs) = go (rises before x.score) refl (Stays-falling (Some x.score) xs) where
  go : (b : Bool) → rises before x.score ≡ b → Stays (Some x.score) (falling_behind (Some x.score) xs) → Stays before (cond b [] (x ∷ falling_behind (Some x.score) xs))
  go true e rest = tt
  go false e rest = (e, rest)

falling-stays : (before : Option ℕ) (rows more : List FeedRow) → Stays before rows → falling_behind before (rows ++ more) ≡ rows ++ falling_behind (end_score before rows) more
falling-stays before [] more stays = refl
falling-stays before (x ∷ xs) more stays =
    ap (λ b. cond b [] (x ∷ falling_behind (Some x.score) (xs ++ more))) stays.0 ∙ ap (λ rows. x ∷ rows) (falling-stays (Some x.score) xs more stays.1)

falling-each : (P : FeedRow → Type 0) (before : Option ℕ) (rows : List FeedRow) → AllByRecursion P rows → AllByRecursion P (falling_behind before rows)
falling-each P before [] each = tt
falling-each P before (x ∷ xs) each = go (rises before x.score) (falling-each P (Some x.score) xs each.1) where
  go : (b : Bool) → AllByRecursion P (falling_behind (Some x.score) xs) → AllByRecursion P (cond b [] (x ∷ falling_behind (Some x.score) xs))
  go true rest = tt
  go false rest = (each.0, rest)

pub cut-falls : (rows : List FeedRow) → Falls (cut rows)
cut-falls rows = Falls-Stays (cut rows) (Stays-take most_rows None (falling_behind None rows) (Stays-falling None rows))

pub cut-scores : (rows : List FeedRow) → HaveScores rows → HaveScores (cut rows)
cut-scores rows scores =
    each-take (λ (row : FeedRow). row.score < 2 ^ 32) most_rows (falling_behind None rows) (falling-each (λ (row : FeedRow). row.score < 2 ^ 32) None rows scores)

-- a list that begins with rows, as these and those behind them
pub split : {X : Type 0} (xs front : List X) → BeginsWith xs front → xs ≡ front ++ drop (length front) xs
split xs front begins = sym (take-append-drop (length front) xs) ∙ ap (λ zs. zs ++ drop (length front) xs) (sym begins)

pub begins-append : {X : Type 0} (front more : List X) → BeginsWith (front ++ more) front
begins-append front more = sym (take_at front more (length front) refl)

cut-append : (rows more : List FeedRow) → Falls rows → cut (rows ++ more) ≡ take most_rows (rows ++ falling_behind (last_score rows) more)
cut-append rows more falls =
    ap (take most_rows) (falling-stays None rows more (Stays-Falls rows falls) ∙ ap (λ before. rows ++ falling_behind before more) (end-last_score rows))

-- the cut begins with rows that fall and aren't too many
pub cut-begins : (rows whole : List FeedRow) → Falls rows → length rows ≤ most_rows → BeginsWith whole rows → BeginsWith (cut whole) rows
cut-begins rows whole falls few begins =
    sym (ap (λ xs. take (length rows) (cut xs)) (split whole rows begins)
    ∙ ap (take (length rows)) (cut-append rows (drop (length rows) whole) falls)
    ∙ take-take (length rows) most_rows (rows ++ falling_behind (last_score rows) (drop (length rows) whole)) few
    ∙ take_at rows (falling_behind (last_score rows) (drop (length rows) whole)) (length rows) refl)

-- and is all of them
pub cut-whole : (rows : List FeedRow) → Falls rows → length rows ≤ most_rows → cut rows ≡ rows
cut-whole rows falls few =
    ap cut (sym (append-nil rows)) ∙ cut-append rows [] falls ∙ ap (take most_rows) (append-nil rows) ∙ take_all most_rows rows few

-- it ends where a score rises
pub cut-rises : (rows : List FeedRow) (row : FeedRow) (more : List FeedRow) → Falls rows → length rows ≤ most_rows → rises (last_score rows) row.score ≡ true → cut (rows ++ row ∷ more) ≡ rows
cut-rises rows row more falls few e =
    cut-append rows (row ∷ more) falls
    ∙ ap (λ b. take most_rows (rows ++ cond b [] (row ∷ falling_behind (Some row.score) more))) e
    ∙ ap (take most_rows) (append-nil rows) ∙ take_all most_rows rows few

-- or where it has become too long
pub cut-long : (rows more : List FeedRow) → Falls rows → length rows ≡ most_rows → cut (rows ++ more) ≡ rows
cut-long rows more falls e = cut-append rows more falls ∙ take_at rows (falling_behind (last_score rows) more) most_rows e

-- what comes behind a row scores no more
pub falls-below : (row : FeedRow) (rows : List FeedRow) → Falls (row ∷ rows) → AllByRecursion (λ (r : FeedRow). r.score ≤ row.score) rows
falls-below row rows falls =
    each-weaker (IsNoLater (flip_args nat_cmp) (λ (r : FeedRow). r.score) row) (λ (r : FeedRow). r.score ≤ row.score) (λ r h. no_later-at_most row.score r.score h) rows falls.0

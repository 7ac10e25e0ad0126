-- What the calls on one side do: a refusal, a draw, and the last row.
use Rattle.std.proofs.Common.{◌≡◌, ℕ, zero, suc, ◌-◌, ◌<◌, ◌≤◌, ◌^◌, ◌==◌, Bool, true, false, cond, nat_lt, List, [], ◌∷◌, ◌++◌, get_or, length, option_map, unwrap_or, Option, Some, None, Result, Ok, Err, is_err, slice_get, refl, sym, ◌∙◌, ap, subst, inl, inr, arith}
use Rattle.std.proofs.lemmas.Bool.{true≢false}
use Rattle.std.proofs.lemmas.Bool.Decides.{nat_tests}
use Rattle.std.proofs.lemmas.List.{take_all}
use Rattle.std.specs.Option.{IfSome}
use Rattle.std.specs.Prelude.{IsSome}
use Rattle.rs_feed.specs.declared.feed_row.FeedRow.{FeedRow}
use Rattle.rs_feed.specs.Feeds.{FeedState, GivesNext}
use Rattle.rs_order.specs.Last.{last_from, last_of}
use Rattle.rs_ripple.specs.Stands.{BeginsWith}
use Rattle.rs_ripple.proofs.LawFacts.{slice_get_none}
use Rattle.rs_ripple.proofs.ScheduleFacts.{BeginsWith-more}
use Rattle.rs_value.specs.Faults.{raised}
use Rattle.rs_value.specs.Outside.{Counts, Outside}
use Rattle.rs_feed_join.specs.declared.fault.JoinFault.{JoinFault}
use Rattle.rs_feed_join.specs.declared.fault.JoinFault.TheVariants.{OutOfOrder, TooLong, Failed, Memory, Broken}
use Rattle.rs_feed_join.specs.Cuts.{last_score, most_rows, order_refusal, refusal, rises}
use Rattle.rs_feed_join.specs.Sides.{AreTaken, Drew, FeedSide, HasCause, HasNext, IsCause, IsDrawnOf}
use Rattle.rs_feed_join.proofs.RowFacts.{length-snoc, none_at, same_at}

-- a call that failed, and one that didn't
pub ok_err : {A B G : Type 0} {a : A} {e : B} → Ok a ≡ Err e → G
ok_err f = absurd (cc)

abbrev pub failed_with : (A : Type 0) → JoinFault → Result A JoinFault
failed_with A fault = Err fault

pub err-same : {A : Type 0} (fault other : JoinFault) → failed_with A fault ≡ failed_with A other → fault ≡ other
err-same fault other e = cc

-- the last row stands at the last place
last_from-at : (x : FeedRow) (xs : List FeedRow) → slice_get (x ∷ xs) (length xs) ≡ Some (last_from x xs)
last_from-at x [] = refl
last_from-at x (y ∷ ys) = last_from-at y ys

pub last-at : (rows : List FeedRow) → slice_get rows (length rows - 1) ≡ last_of rows
last-at [] = refl
last-at (x ∷ xs) = ap (slice_get (x ∷ xs)) (one (length xs)) ∙ last_from-at x xs where
  one : (n : ℕ) → suc n - 1 ≡ n
  one n = omega arith

get_or-slice_get : (rows : List FeedRow) (n : ℕ) (d : FeedRow) → n < length rows → slice_get rows n ≡ Some (get_or rows n d)
get_or-slice_get [] n d h = absurd (omega (arith, h))
get_or-slice_get (x ∷ xs) zero d h = refl
get_or-slice_get (x ∷ xs) (suc n) d h = get_or-slice_get xs n d (omega (arith, h))

pub some-length : (rows : List FeedRow) → IsSome (last_of rows) → 0 < length rows
some-length [] h = cc
some-length (x ∷ xs) h = omega arith

pub last-read : (rows : List FeedRow) (n : ℕ) (row : FeedRow) → n ≡ length rows - 1 → 0 < length rows → row ≡ get_or rows n row → last_of rows ≡ Some row
last-read rows n row e h is =
    sym (last-at rows) ∙ ap (slice_get rows) (sym e) ∙ get_or-slice_get rows n row (omega (arith, e, h)) ∙ ap Some (sym is)

pub read-is : (rows : List FeedRow) (n : ℕ) (row drawn : FeedRow) → n < length rows → row ≡ get_or rows n row → slice_get rows n ≡ Some drawn → row ≡ drawn
read-is rows n row drawn h is e = is ∙ same_at (sym (get_or-slice_get rows n row h) ∙ e)

some-last : (rows : List FeedRow) (row : FeedRow) → last_of (rows ++ row ∷ []) ≡ Some row
some-last [] row = refl
some-last (x ∷ xs) row = go x xs where
  go : (y : FeedRow) (ys : List FeedRow) → Some (last_from y (ys ++ row ∷ [])) ≡ Some row
  go y [] = refl
  go y (z ∷ zs) = go z zs

pub last-pushed : (rows : List FeedRow) (row : FeedRow) → last_of (rows ++ row ∷ []) ≡ Some row
last-pushed rows row = some-last rows row

-- a refusal by the last row
refusal-short : (side : ℕ) (rows : List FeedRow) (score : ℕ) → (length rows == most_rows) ≡ false → refusal side rows score ≡ order_refusal side rows score
refusal-short side rows score e = ap (λ b. cond b (Some (TooLong side)) (order_refusal side rows score)) e

pub refusal-none : (side : ℕ) (rows : List FeedRow) (score : ℕ) (last : FeedRow) → (length rows == most_rows) ≡ false → last_of rows ≡ Some last → score ≤ last.score → None ≡ refusal side rows score
refusal-none side rows score last short at h =
    sym (refusal-short side rows score short
    ∙ ap (λ (o : Option FeedRow). cond (rises (option_map (λ (r : FeedRow). r.score) o) score) (Some (OutOfOrder side (suc (length rows)) (unwrap_or (option_map (λ (r : FeedRow). r.score) o) 0) score)) None) at
    ∙ ap (λ b. cond b (Some (OutOfOrder side (suc (length rows)) last.score score)) None) (less last.score score h))
  where
    less : (a b : ℕ) → b ≤ a → nat_lt a b ≡ false
    less a b k = grind (arith, nat_tests)

pub refusal-order : (side : ℕ) (rows : List FeedRow) (score number : ℕ) (last : FeedRow) → (length rows == most_rows) ≡ false → last_of rows ≡ Some last → last.score < score → number ≡ suc (length rows) → Some (OutOfOrder side number last.score score) ≡ refusal side rows score
refusal-order side rows score number last short at h e =
    ap (λ n. Some (OutOfOrder side n last.score score)) e
    ∙ sym (refusal-short side rows score short
    ∙ ap (λ (o : Option FeedRow). cond (rises (option_map (λ (r : FeedRow). r.score) o) score) (Some (OutOfOrder side (suc (length rows)) (unwrap_or (option_map (λ (r : FeedRow). r.score) o) 0) score)) None) at
    ∙ ap (λ b. cond b (Some (OutOfOrder side (suc (length rows)) last.score score)) None) (more last.score score h))
  where
    more : (a b : ℕ) → a < b → nat_lt a b ≡ true
    more a b k = grind (arith, nat_tests)

-- the causes of a row that wasn't taken
refusal-kind : (side : ℕ) (rows : List FeedRow) (score : ℕ) (fault : JoinFault) → refusal side rows score ≡ Some fault → ((s r b g : ℕ) → OutOfOrder s r b g ≡ fault → ⊥) → ((s : ℕ) → TooLong s ≡ fault → ⊥) → ⊥
refusal-kind side rows score fault e not_order not_long = go (length rows == most_rows) (rises (last_score rows) score) e where
  go : (a b : Bool) → cond a (Some (TooLong side)) (cond b (Some (OutOfOrder side (suc (length rows)) (unwrap_or (last_score rows) 0) score)) None) ≡ Some fault → ⊥
  go true b f = not_long side (same_at f)
  go false true f = not_order side (suc (length rows)) (unwrap_or (last_score rows) 0) score (same_at f)
  go false false f = none_at f

pub cause-of : (number : ℕ) (told : Option (List FeedRow)) (side : FeedSide) (row : FeedRow) (fault : JoinFault) → HasNext told (length side.rows) (Some row) → row.score < 2 ^ 32 → IsCause number side.rows row.score fault → HasCause number told side fault
cause-of number told side row (OutOfOrder s r b g) next score (inl e) = record { row = row; next = next; score = score; refused = e }
cause-of number told side row (OutOfOrder s r b g) next score (inr e) = cc
cause-of number told side row (TooLong s) next score (inl e) = record { row = row; next = next; score = score; refused = e }
cause-of number told side row (TooLong s) next score (inr e) = cc
cause-of number told side row (Failed s) next score (inl e) = absurd (refusal-kind number side.rows row.score (Failed s) e (λ a b c d f. cc) (λ a f. cc))
cause-of number told side row (Failed s) next score (inr e) = cc
cause-of number told side row Memory next score cause = tt
cause-of number told side row Broken next score (inl e) = absurd (refusal-kind number side.rows row.score Broken e (λ a b c d f. cc) (λ a f. cc))
cause-of number told side row Broken next score (inr e) = cc

-- the next row of a feed that was drawn so far
pub next-is : (feed : FeedState) (side : FeedSide) (row : Option FeedRow) → IsDrawnOf false feed side → GivesNext feed.outside.told feed.given (Ok row) → HasNext feed.outside.told (length side.rows) row
next-is feed side row drawn gives = go feed.outside.told gives where
  go : (told : Option (List FeedRow)) → GivesNext told feed.given (Ok row) → HasNext told (length side.rows) row
  go None g = g
  go (Some rows) g = ap (slice_get rows) (sym (drawn.given refl)) ∙ sym g

-- a side that took a row was drawn of its feed, and so was one that ended
pub drawn-took : (feed after : FeedState) (side : FeedSide) (row : FeedRow) → IsDrawnOf false feed side → side.ended ≡ false → length side.rows ≤ most_rows → HasNext feed.outside.told (length side.rows) (Some row)
    → after.outside.told ≡ feed.outside.told → after.draws ≡ raised feed.draws → after.given ≡ raised feed.given → IsDrawnOf false after (record { rows = side.rows ++ row ∷ []; ended = side.ended; draws = raised side.draws })
drawn-took feed after side row drawn going few next told draws given = record {
  draws = draws ∙ ap raised drawn.draws;
  given = λ e. given ∙ ap raised (drawn.given refl) ∙ one (length side.rows) few ∙ sym (length-snoc side.rows row);
  rows = subst (λ t. IfSome t (λ rows. BeginsWith rows (side.rows ++ row ∷ []))) (sym told) (go feed.outside.told drawn.rows next);
  ended = λ e. absurd (true≢false (sym e ∙ going));
} where
  one : (n : ℕ) → n ≤ 131072 → raised n ≡ suc n
  one n h = omega (arith, h)

  go : (t : Option (List FeedRow)) → IfSome t (λ rows. BeginsWith rows side.rows) → HasNext t (length side.rows) (Some row) → IfSome t (λ rows. BeginsWith rows (side.rows ++ row ∷ []))
  go None a b = a
  go (Some rows) a b = BeginsWith-more rows side.rows row a b

pub drawn-ended : (feed after : FeedState) (side : FeedSide) → IsDrawnOf false feed side → HasNext feed.outside.told (length side.rows) None
    → after.outside.told ≡ feed.outside.told → after.draws ≡ raised feed.draws → after.given ≡ feed.given → IsDrawnOf false after (record { rows = side.rows; ended = true; draws = raised side.draws })
drawn-ended feed after side drawn next told draws given = record {
  draws = draws ∙ ap raised drawn.draws;
  given = λ e. given ∙ drawn.given refl;
  rows = subst (λ t. IfSome t (λ rows. BeginsWith rows side.rows)) (sym told) drawn.rows;
  ended = λ e. subst (λ t. IfSome t (λ rows. rows ≡ side.rows)) (sym told) (go feed.outside.told drawn.rows next);
} where
  go : (t : Option (List FeedRow)) → IfSome t (λ rows. BeginsWith rows side.rows) → HasNext t (length side.rows) None → IfSome t (λ rows. rows ≡ side.rows)
  go None a b = a
  go (Some rows) a b = sym (take_all (length side.rows) rows (slice_get_none rows (length side.rows) b)) ∙ sym a

-- a draw that took none leaves the side drawn of its feed
pub drawn-failed : (feed after : FeedState) (side : FeedSide) → IsDrawnOf false feed side → side.ended ≡ false → after.outside.told ≡ feed.outside.told → after.draws ≡ raised feed.draws → IsDrawnOf true after (record { rows = side.rows; ended = side.ended; draws = raised side.draws })
drawn-failed feed after side drawn going told draws = record {
  draws = draws ∙ ap raised drawn.draws;
  given = λ e. absurd (true≢false e);
  rows = subst (λ t. IfSome t (λ rows. BeginsWith rows side.rows)) (sym told) drawn.rows;
  ended = λ e. absurd (true≢false (sym e ∙ going));
}

-- a row that wasn't taken is no failed draw
pub cause-failed : (number : ℕ) (rows : List FeedRow) (score side : ℕ) (fault : JoinFault) → IsCause number rows score fault → fault ≡ Failed side → ⊥
cause-failed number rows score side fault (inl e) f = refusal-kind number rows score fault e (λ a b c d g. cc) (λ a g. cc)
cause-failed number rows score side fault (inr e) f = cc

-- a call counts what the one counted that it made
pub counts-from : {F G : Type 0} (old new : Outside (List FeedRow)) → Counts F old new → (G → F) → Counts G old new
counts-from old new counts to = record {
  keeps = counts.keeps;
  failed = λ g. counts.failed (to g);
  sure = λ e. ((counts.sure e).0, λ g. (counts.sure e).1 (to g));
}

-- a draw of a side by what its feed did
module _ (number : ℕ) (feed after : FeedState) (side : FeedSide) (drawn : IsDrawnOf false feed side) (told : after.outside.told ≡ feed.outside.told) (draws : after.draws ≡ raised feed.draws) (new : FeedSide) (n : ℕ) (counted : n ≡ raised side.draws) where
  pub took-drew : (row : FeedRow) → GivesNext feed.outside.told feed.given (Ok (Some row)) → row.score < 2 ^ 32 → refusal number side.rows row.score ≡ None
      → new ≡ record { rows = side.rows ++ row ∷ []; ended = side.ended; draws = n } → Drew number feed.outside.told side (Ok true) new
  took-drew row gives score free is = record { row = row; next = next-is feed side (Some row) drawn gives; score = score; free = free; after = is ∙ ap (λ m. record { rows = side.rows ++ row ∷ []; ended = side.ended; draws = m }) counted }

  pub took-drawn : side.ended ≡ false → AreTaken side.rows → (row : FeedRow) → GivesNext feed.outside.told feed.given (Ok (Some row)) → after.given ≡ raised feed.given
      → new ≡ record { rows = side.rows ++ row ∷ []; ended = side.ended; draws = n } → IsDrawnOf false after new
  took-drawn going taken row gives given is = subst (IsDrawnOf false after) (sym (is ∙ ap (λ m. record { rows = side.rows ++ row ∷ []; ended = side.ended; draws = m }) counted)) (drawn-took feed after side row drawn going taken.few (next-is feed side (Some row) drawn gives) told draws given)

  pub ended-drew : GivesNext feed.outside.told feed.given (Ok None) → new ≡ record { rows = side.rows; ended = true; draws = n } → Drew number feed.outside.told side (Ok false) new
  ended-drew gives is = record { next = next-is feed side None drawn gives; after = is ∙ ap (λ m. record { rows = side.rows; ended = true; draws = m }) counted }

  pub ended-drawn : GivesNext feed.outside.told feed.given (Ok None) → after.given ≡ feed.given → new ≡ record { rows = side.rows; ended = true; draws = n } → IsDrawnOf false after new
  ended-drawn gives given is = subst (IsDrawnOf false after) (sym (is ∙ ap (λ m. record { rows = side.rows; ended = true; draws = m }) counted)) (drawn-ended feed after side drawn (next-is feed side None drawn gives) told draws given)

  pub stopped-drew : (fault : JoinFault) (result : Result Bool JoinFault) → result ≡ Err fault → HasCause number feed.outside.told side fault
      → new ≡ record { rows = side.rows; ended = side.ended; draws = n } → Drew number feed.outside.told side result new
  stopped-drew fault result given cause is = subst (λ (r : Result Bool JoinFault). Drew number feed.outside.told side r new) (sym given) (cause, is ∙ ap (λ m. record { rows = side.rows; ended = side.ended; draws = m }) counted)

  pub stopped-drawn : side.ended ≡ false → (fault : JoinFault) (result : Result Bool JoinFault) → result ≡ Err fault
      → new ≡ record { rows = side.rows; ended = side.ended; draws = n } → IsDrawnOf (is_err result) after new
  stopped-drawn going fault result given is =
      subst (λ (r : Result Bool JoinFault). IsDrawnOf (is_err r) after new) (sym given) (subst (IsDrawnOf true after) (sym (is ∙ ap (λ m. record { rows = side.rows; ended = side.ended; draws = m }) counted)) (drawn-failed feed after side drawn going told draws))

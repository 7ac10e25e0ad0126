-- What a join answers where it stands, and which of the asks it has made.
use Rattle.std.proofs.Common.{◌≡◌, ℕ, zero, suc, ◌<◌, ◌≤◌, ◌==◌, ◌&&◌, Bool, true, false, cond, nat_lt, List, [], ◌∷◌, ◌++◌, find, length, map, option_map, take, drop, unwrap_or, Option, Some, None, Ok, Err, slice_get, slice_index, refl, sym, ◌∙◌, ap, ap₂, subst, ◌⊎◌, inl, inr, arith}
use Rattle.std.proofs.lemmas.Bool.Decides.{nat_tests}
use Rattle.std.proofs.lemmas.List.{append-nil, append_assoc, length-append, length-map, take-map}
use Rattle.std.specs.List.{AllByRecursion}
use Rattle.rs_feed.specs.declared.feed_row.FeedRow.{FeedRow}
use Rattle.rs_hrjn.specs.Drawn.{rows_of}
use Rattle.rs_hrjn.specs.Hashed.{joined_of}
use Rattle.rs_order.specs.Schedule.{JoinSide, Left, Right, SideAsk, asked}
use Rattle.rs_order.proofs.EachFacts.{each-weaker}
use Rattle.rs_order.proofs.PartFacts.{slice_get-shared}
use Rattle.rs_rank.specs.declared.ask.JoinAsk.TheVariants.{NeedLeft, NeedRight, Ready, End}
use Rattle.rs_rank.specs.declared.row.RankRow.{RankRow}
use Rattle.rs_rank.proofs.TurnFacts.{Tells}
use Rattle.rs_ripple.specs.Joined.{JoinStands}
use Rattle.rs_ripple.specs.Ripple.{ask_of}
use Rattle.rs_ripple.specs.Stands.{BeginsWith, answers}
use Rattle.rs_ripple.proofs.LawFacts.{ready-settled, settled-now, slice_get_none}
use Rattle.rs_ripple.proofs.ScheduleFacts.{BeginsWith-itself, BeginsWith-more}
use Rattle.rs_ripple.proofs.StandFacts.{stands-tells}
use Rattle.rs_feed_join.specs.declared.fault.JoinFault.TheVariants.{OutOfOrder, TooLong}
use Rattle.rs_feed_join.specs.declared.feed_pair.FeedPair.{FeedPair}
use Rattle.rs_feed_join.specs.Answers.{Answers, BreaksOff, HasDrawn, answer_by, asks_of_cuts, draws_for, fault_behind, is_refused, lies_past, up_to}
use Rattle.rs_feed_join.specs.Cuts.{HaveScores, cut, last_score, most_rows, rises}
use Rattle.rs_feed_join.specs.Joins.{Continues}
use Rattle.rs_feed_join.specs.Pairs.{joined_pairs, pair_of}
use Rattle.rs_feed_join.specs.Parts.{IsAnswered, IsAnsweredBy, PartsState, StandsAt, asked_once_more}
use Rattle.rs_feed_join.specs.Ranked.{asks_of_rows, join_of_rows, left_rows, right_rows, row_of}
use Rattle.rs_feed_join.specs.Sides.{AreTaken, FeedSide}
use Rattle.rs_feed_join.proofs.HashFacts.{rows-left, rows-right}
use Rattle.rs_feed_join.proofs.PairFacts.{IsPairIn, answers-are, get-take, in-pairs, rank_of}
use Rattle.rs_feed_join.proofs.RowFacts.{begins-append, cut-begins, cut-falls, cut-long, cut-rises, cut-scores, cut-whole, none_at, same_at, split}
use Rattle.rs_feed_join.proofs.StandFacts.{itself, left-still, past-end, right-still}

-- the cut of a feed goes on with the rows that were drawn of it
pub cut-continues : (side : FeedSide) (rows : List FeedRow) → AreTaken side.rows → HaveScores rows → BeginsWith rows side.rows → (side.ended ≡ true → rows ≡ side.rows) → Continues side (cut rows)
cut-continues side rows taken scores begins ends = record {
  falls = cut-falls rows;
  scores = cut-scores rows scores;
  begins = cut-begins side.rows rows taken.falls taken.few begins;
  ends = λ e. ap cut (ends e) ∙ cut-whole side.rows taken.falls taken.few;
}

length-begins : {X : Type 0} (xs front : List X) → BeginsWith xs front → length front ≤ length xs
length-begins xs front begins =
    let e = ap (λ (zs : List _). length zs) (split xs front begins) in
    let f = length-append front (drop (length front) xs) in
    omega (arith, e, f)

-- an ask that was answered wasn't refused
and-none : (a b : Bool) → (a ≡ false) ⊎ (b ≡ false) → (a && b) ≡ false
and-none false b h = refl
and-none true false h = refl
and-none true true (inl e) = e
and-none true true (inr e) = e

not-less : (a b : ℕ) → b ≤ a → nat_lt a b ≡ false
not-less a b h = grind (arith, nat_tests)

is-less : (a b : ℕ) → a < b → nat_lt a b ≡ true
is-less a b h = grind (arith, nat_tests)

lies-within : (rows : List FeedRow) (side : FeedSide) → AreTaken side.rows → BeginsWith rows side.rows → (side.ended ≡ true → rows ≡ side.rows) → (number : ℕ) → IsAnsweredBy side number → lies_past rows number ≡ false
lies-within rows side taken begins ends number (inl h) =
    let more = length-begins (cut rows) side.rows (cut-begins side.rows rows taken.falls taken.few begins) in
    and-none (nat_lt (length (cut rows)) number) (nat_lt (length (cut rows)) (length rows)) (inl (not-less (length (cut rows)) number (omega (arith, more, h))))
lies-within rows side taken begins ends number (inr e) =
    let whole : cut rows ≡ rows = ap cut (ends e) ∙ cut-whole side.rows taken.falls taken.few ∙ sym (ends e) in
    let same = ap (λ (xs : List FeedRow). length xs) whole in
    and-none (nat_lt (length (cut rows)) number) (nat_lt (length (cut rows)) (length rows)) (inr (not-less (length (cut rows)) (length rows) (omega (arith, same))))

-- items up to the first that passes
module _ {X : Type 0} (passes : X → Bool) where
  pub up_to-behind : (xs ys : List X) → AllByRecursion (λ x. passes x ≡ false) xs → up_to passes (xs ++ ys) ≡ xs ++ up_to passes ys
  up_to-behind [] ys none = refl
  up_to-behind (x ∷ xs) ys none = ap (λ b. cond b (x ∷ []) (x ∷ up_to passes (xs ++ ys))) none.0 ∙ ap (λ zs. x ∷ zs) (up_to-behind xs ys none.1)

  pub find-behind : (xs ys : List X) → AllByRecursion (λ x. passes x ≡ false) xs → find passes (xs ++ ys) ≡ find passes ys
  find-behind [] ys none = refl
  find-behind (x ∷ xs) ys none = ap (λ b. cond b (Some x) (find passes (xs ++ ys))) none.0 ∙ find-behind xs ys none.1

  pub up_to-none : (xs : List X) → AllByRecursion (λ x. passes x ≡ false) xs → up_to passes xs ≡ xs
  up_to-none xs none = ap (up_to passes) (sym (append-nil xs)) ∙ up_to-behind xs [] none ∙ append-nil xs

  pub find-none : (xs : List X) → AllByRecursion (λ x. passes x ≡ false) xs → find passes xs ≡ None
  find-none xs none = ap (find passes) (sym (append-nil xs)) ∙ find-behind xs [] none

  -- one item behind them is among those up to it
  pub up_to-next : (asks xs : List X) (x : X) → AllByRecursion (λ y. passes y ≡ false) xs → BeginsWith asks (xs ++ x ∷ []) → BeginsWith (up_to passes asks) (xs ++ x ∷ [])
  up_to-next asks xs x none begins =
      subst (λ zs. BeginsWith zs (xs ++ x ∷ [])) (sym (ap (up_to passes) (split asks (xs ++ x ∷ []) begins ∙ append_assoc xs (x ∷ []) rest) ∙ up_to-behind xs (x ∷ rest) none))
      (go (passes x))
    where
      rest : List X
      rest = drop (length (xs ++ x ∷ [])) asks

      go : (b : Bool) → BeginsWith (xs ++ cond b (x ∷ []) (x ∷ up_to passes (drop (length (xs ++ x ∷ [])) asks))) (xs ++ x ∷ [])
      go true = BeginsWith-itself (xs ++ x ∷ [])
      go false = subst (λ zs. BeginsWith zs (xs ++ x ∷ [])) (append_assoc xs (x ∷ []) (up_to passes (drop (length (xs ++ x ∷ [])) asks))) (begins-append (xs ++ x ∷ []) (up_to passes (drop (length (xs ++ x ∷ [])) asks)))

  pub up_to-last : (asks xs : List X) (x : X) → AllByRecursion (λ y. passes y ≡ false) xs → passes x ≡ true → BeginsWith asks (xs ++ x ∷ []) → (up_to passes asks ≡ xs ++ x ∷ []) × (find passes asks ≡ Some x)
  up_to-last asks xs x none e begins = (
    ap (up_to passes) (split asks (xs ++ x ∷ []) begins ∙ append_assoc xs (x ∷ []) (drop (length (xs ++ x ∷ [])) asks)) ∙ up_to-behind xs (x ∷ drop (length (xs ++ x ∷ [])) asks) none
        ∙ ap (λ b. xs ++ cond b (x ∷ []) (x ∷ up_to passes (drop (length (xs ++ x ∷ [])) asks))) e,
    ap (find passes) (split asks (xs ++ x ∷ []) begins ∙ append_assoc xs (x ∷ []) (drop (length (xs ++ x ∷ [])) asks)) ∙ find-behind xs (x ∷ drop (length (xs ++ x ∷ [])) asks) none
        ∙ ap (λ b. cond b (Some x) (find passes (drop (length (xs ++ x ∷ [])) asks))) e,
  )

-- pairs that are the same as rows of the join are the same
row_of-begins : (whole rows : List FeedRow) → BeginsWith whole rows → (n : ℕ) (row : FeedRow) → row_of rows n ≡ Some row → row_of whole n ≡ Some row
row_of-begins whole rows begins zero row e = e
row_of-begins whole rows begins (suc k) row e = get-take (length rows) k whole row (sym (ap (λ (xs : List FeedRow). slice_get xs k) begins) ∙ e)

pub pair-begins : (lefts rights xs ys : List FeedRow) → BeginsWith lefts xs → BeginsWith rights ys → (pair : FeedPair) → IsPairIn xs ys pair → IsPairIn lefts rights pair
pair-begins lefts rights xs ys begins beginning pair is = record {
  left = is.left;
  right = is.right;
  left_at = row_of-begins lefts xs begins pair.left is.left is.left_at;
  right_at = row_of-begins rights ys beginning pair.right is.right is.right_at;
  is = is.is;
}

pub rank-same : (lefts rights : List FeedRow) (a b : FeedPair) → IsPairIn lefts rights a → IsPairIn lefts rights b → rank_of a ≡ rank_of b → a ≡ b
rank-same lefts rights a b p q e =
    let left_same : a.left ≡ b.left = ap (λ (row : RankRow). slice_index row.ids.rows 0) e in
    let right_same : a.right ≡ b.right = ap (λ (row : RankRow). slice_index row.ids.rows 1) e in
    let left_row_same : p.left ≡ q.left = same_at (sym p.left_at ∙ ap (row_of lefts) left_same ∙ q.left_at) in
    let right_row_same : p.right ≡ q.right = same_at (sym p.right_at ∙ ap (row_of rights) right_same ∙ q.right_at) in
    p.is ∙ ap₂ (λ i j. pair_of i p.left j p.right) left_same right_same ∙ ap₂ (λ l r. pair_of b.left l b.right r) left_row_same right_row_same ∙ sym q.is

ranks-same : (lefts rights : List FeedRow) (xs ys : List FeedPair) → AllByRecursion (IsPairIn lefts rights) xs → AllByRecursion (IsPairIn lefts rights) ys → map rank_of xs ≡ map rank_of ys → xs ≡ ys
ranks-same lefts rights [] [] p q e = refl
ranks-same lefts rights [] (y ∷ ys) p q e = cc
ranks-same lefts rights (x ∷ xs) [] p q e = cc
ranks-same lefts rights (x ∷ xs) (y ∷ ys) p q e =
    let first : rank_of x ≡ rank_of y = cc in
    let rest : map rank_of xs ≡ map rank_of ys = cc in
    ap₂ (λ z zs. z ∷ zs) (rank-same lefts rights x y p.0 q.0 first) (ranks-same lefts rights xs ys p.1 q.1 rest)

each-first : {X : Type 0} (P : X → Type 0) (n : ℕ) (xs : List X) → AllByRecursion P xs → AllByRecursion P (take n xs)
each-first P zero xs each = tt
each-first P (suc n) [] each = tt
each-first P (suc n) (x ∷ xs) each = (each.0, each-first P n xs each.1)

module _ (made : List SideAsk) (parts : PartsState) (s : StandsAt made parts) where
  -- of what goes on with the rows that were drawn
  module _ (lefts rights : List FeedRow) (c : Continues parts.left lefts) (d : Continues parts.right rights) where
    at : JoinStands (join_of_rows lefts rights) (left_rows lefts) (right_rows rights) made parts.given (joined_of parts.core)
    at = s.stands lefts rights c d

    left-part : take (asked Left made) (left_rows lefts) ≡ left_rows parts.left.rows
    left-part = sym at.left_rows ∙ ap rows_of s.lefts ∙ rows-left 1 parts.left.rows

    right-part : take (asked Right made) (right_rows rights) ≡ right_rows parts.right.rows
    right-part = sym at.right_rows ∙ ap rows_of s.rights ∙ rows-right 1 parts.right.rows

    first-pairs : (n : ℕ) → take n (answers (join_of_rows lefts rights) (take (asked Left made) (left_rows lefts)) (take (asked Right made) (right_rows rights))) ≡ take n (answers (join_of_rows lefts rights) (left_rows lefts) (right_rows rights)) → take n (joined_pairs parts.left.rows parts.right.rows) ≡ take n (joined_pairs lefts rights)
    first-pairs n e =
        ranks-same lefts rights (take n (joined_pairs parts.left.rows parts.right.rows)) (take n (joined_pairs lefts rights))
        (each-first (IsPairIn lefts rights) n (joined_pairs parts.left.rows parts.right.rows) (each-weaker (IsPairIn parts.left.rows parts.right.rows) (IsPairIn lefts rights) (pair-begins lefts rights parts.left.rows parts.right.rows c.begins d.begins) (joined_pairs parts.left.rows parts.right.rows) (in-pairs parts.left.rows parts.right.rows)))
        (each-first (IsPairIn lefts rights) n (joined_pairs lefts rights) (in-pairs lefts rights))
        (sym (take-map rank_of n (joined_pairs parts.left.rows parts.right.rows))
        ∙ ap (take n) (sym (ap₂ (answers (join_of_rows lefts rights)) left-part right-part ∙ answers-are lefts rights parts.left.rows parts.right.rows c.begins d.begins))
        ∙ e
        ∙ ap (take n) (answers-are lefts rights lefts rights (BeginsWith-itself lefts) (BeginsWith-itself rights))
        ∙ take-map rank_of n (joined_pairs lefts rights))

    -- the pairs that were given are certain, and so is the next one of a join that is ready
    pub given-certain : take parts.given (joined_pairs lefts rights) ≡ take parts.given (joined_pairs parts.left.rows parts.right.rows)
    given-certain = sym (first-pairs parts.given (settled-now (join_of_rows lefts rights) (left_rows lefts) (right_rows rights) made parts.given parts.core.ripple at.core))

    pub next-certain : ask_of parts.core.ripple ≡ Ready → slice_get (joined_pairs parts.left.rows parts.right.rows) parts.given ≡ slice_get (joined_pairs lefts rights) parts.given
    next-certain ready =
        slice_get-shared parts.given (joined_pairs parts.left.rows parts.right.rows) (joined_pairs lefts rights)
        (first-pairs (suc parts.given) (ready-settled (join_of_rows lefts rights) (left_rows lefts) (right_rows rights) made parts.given parts.core.ripple at.core ready))

    pub pairs-length : length (answers (join_of_rows lefts rights) (left_rows lefts) (right_rows rights)) ≡ length (joined_pairs lefts rights)
    pairs-length = ap (λ (xs : List RankRow). length xs) (answers-are lefts rights lefts rights (BeginsWith-itself lefts) (BeginsWith-itself rights)) ∙ length-map (joined_pairs lefts rights) rank_of

    pub all-given : ask_of parts.core.ripple ≡ End → parts.given ≡ length (joined_pairs lefts rights)
    all-given end =
        (subst (Tells (asks_of_rows lefts rights (suc parts.given)) made parts.given (length (answers (join_of_rows lefts rights) (left_rows lefts) (right_rows rights)))) end
        (stands-tells (join_of_rows lefts rights) (left_rows lefts) (right_rows rights) made parts.given parts.core.ripple at.core)).1 ∙ pairs-length

  -- a join that is ready has a pair
  pub next-there : ask_of parts.core.ripple ≡ Ready → slice_get (joined_pairs parts.left.rows parts.right.rows) parts.given ≡ None → ⊥
  next-there ready none =
      let c = itself parts.left s.left_taken in
      let d = itself parts.right s.right_taken in
      let both = subst (Tells (asks_of_rows parts.left.rows parts.right.rows (suc parts.given)) made parts.given (length (answers (join_of_rows parts.left.rows parts.right.rows) (left_rows parts.left.rows) (right_rows parts.right.rows)))) ready
      (stands-tells (join_of_rows parts.left.rows parts.right.rows) (left_rows parts.left.rows) (right_rows parts.right.rows) made parts.given parts.core.ripple (at parts.left.rows parts.right.rows c d).core) in
      let all = pairs-length parts.left.rows parts.right.rows c d in
      let more = slice_get_none (joined_pairs parts.left.rows parts.right.rows) parts.given none in
      let less = both.1 in
      omega (arith, all, more, less)

  -- of feeds that may have these rows
  module _ (lefts rights : List FeedRow) (scores : HaveScores lefts) (scoring : HaveScores rights) (begins : BeginsWith lefts parts.left.rows) (beginning : BeginsWith rights parts.right.rows)
      (ends : parts.left.ended ≡ true → lefts ≡ parts.left.rows) (ending : parts.right.ended ≡ true → rights ≡ parts.right.rows) where
    left-on : Continues parts.left (cut lefts)
    left-on = cut-continues parts.left lefts s.left_taken scores begins ends

    right-on : Continues parts.right (cut rights)
    right-on = cut-continues parts.right rights s.right_taken scoring beginning ending

    cut-at : JoinStands (join_of_rows (cut lefts) (cut rights)) (left_rows (cut lefts)) (right_rows (cut rights)) made parts.given (joined_of parts.core)
    cut-at = s.stands (cut lefts) (cut rights) left-on right-on

    tells : Tells (asks_of_cuts lefts rights parts.given) made parts.given (length (answers (join_of_rows (cut lefts) (cut rights)) (left_rows (cut lefts)) (right_rows (cut rights)))) (ask_of parts.core.ripple)
    tells = stands-tells (join_of_rows (cut lefts) (cut rights)) (left_rows (cut lefts)) (right_rows (cut rights)) made parts.given parts.core.ripple cut-at.core

    -- no ask that was made was refused
    free : AllByRecursion (λ ask. is_refused lefts rights ask ≡ false) made
    free = each-weaker (IsAnswered parts.left parts.right) (λ ask. is_refused lefts rights ask ≡ false) within made s.answered where
      within : (ask : SideAsk) → IsAnswered parts.left parts.right ask → is_refused lefts rights ask ≡ false
      within ask was = go ask.side was where
        go : (side : JoinSide) → elim side as (λ _. Type 0) [ Left ↦ IsAnsweredBy parts.left ask.number | Right ↦ IsAnsweredBy parts.right ask.number ] → elim side as (λ _. Bool) [ Left ↦ lies_past lefts ask.number | Right ↦ lies_past rights ask.number ] ≡ false
        go Left a = lies-within lefts parts.left s.left_taken begins ends ask.number a
        go Right a = lies-within rights parts.right s.right_taken beginning ending ask.number a

    -- at the end no pair is left, and all asks are made
    pub end-answers : ask_of parts.core.ripple ≡ End → Answers lefts rights parts.given parts.left parts.right (Ok None)
    end-answers end =
        let both = subst (Tells (asks_of_cuts lefts rights parts.given) made parts.given (length (answers (join_of_rows (cut lefts) (cut rights)) (left_rows (cut lefts)) (right_rows (cut rights))))) end tells in
        let all = all-given (cut lefts) (cut rights) left-on right-on end in
        record {
          answer = sym (ap (answer_by lefts rights parts.given) (ap (find (is_refused lefts rights)) (sym both.0) ∙ find-none (is_refused lefts rights) made free)
              ∙ ap Ok (past-end (joined_pairs (cut lefts) (cut rights)) parts.given (omega (arith, all))));
          drawn = record {
            left_draws = s.left_draws ∙ ap (asked Left) (sym (ap (up_to (is_refused lefts rights)) (sym both.0) ∙ up_to-none (is_refused lefts rights) made free));
            right_draws = s.right_draws ∙ ap (asked Right) (sym (ap (up_to (is_refused lefts rights)) (sym both.0) ∙ up_to-none (is_refused lefts rights) made free));
          };
        }

    -- where it is ready the next pair is that of the rows that were drawn, and all asks are made
    all-asked : ask_of parts.core.ripple ≡ Ready → made ≡ asks_of_cuts lefts rights parts.given
    all-asked ready = (subst (Tells (asks_of_cuts lefts rights parts.given) made parts.given (length (answers (join_of_rows (cut lefts) (cut rights)) (left_rows (cut lefts)) (right_rows (cut rights))))) ready tells).0

    all-drawn : ask_of parts.core.ripple ≡ Ready → draws_for lefts rights parts.given ≡ made
    all-drawn ready = ap (up_to (is_refused lefts rights)) (sym (all-asked ready)) ∙ up_to-none (is_refused lefts rights) made free

    pub ready-answers : ask_of parts.core.ripple ≡ Ready → (pair : Option FeedPair) → pair ≡ slice_get (joined_pairs parts.left.rows parts.right.rows) parts.given → Answers lefts rights parts.given parts.left parts.right (Ok pair)
    ready-answers ready pair is = record {
      answer = ap Ok (is ∙ next-certain (cut lefts) (cut rights) left-on right-on ready)
          ∙ sym (ap (answer_by lefts rights parts.given) (ap (find (is_refused lefts rights)) (sym (all-asked ready)) ∙ find-none (is_refused lefts rights) made free));
      drawn = record { left_draws = s.left_draws ∙ ap (asked Left) (sym (all-drawn ready)); right_draws = s.right_draws ∙ ap (asked Right) (sym (all-drawn ready)) };
    }

    pub ready-breaks : ask_of parts.core.ripple ≡ Ready → BreaksOff lefts rights parts.given parts.left parts.right
    ready-breaks ready = record {
      made = made;
      begins = subst (λ zs. BeginsWith zs made) (sym (all-drawn ready)) (BeginsWith-itself made);
      drawn = record { left_draws = s.left_draws; right_draws = s.right_draws };
    }

    -- the next ask is one of the schedule
    left-next : ask_of parts.core.ripple ≡ NeedLeft → BeginsWith (asks_of_cuts lefts rights parts.given) (asked_once_more Left made)
    left-next need =
        BeginsWith-more (asks_of_cuts lefts rights parts.given) made (record { side = Left; number = suc (asked Left made) }) cut-at.core.most
        (subst (Tells (asks_of_cuts lefts rights parts.given) made parts.given (length (answers (join_of_rows (cut lefts) (cut rights)) (left_rows (cut lefts)) (right_rows (cut rights))))) need tells)

    right-next : ask_of parts.core.ripple ≡ NeedRight → BeginsWith (asks_of_cuts lefts rights parts.given) (asked_once_more Right made)
    right-next need =
        BeginsWith-more (asks_of_cuts lefts rights parts.given) made (record { side = Right; number = suc (asked Right made) }) cut-at.core.most
        (subst (Tells (asks_of_cuts lefts rights parts.given) made parts.given (length (answers (join_of_rows (cut lefts) (cut rights)) (left_rows (cut lefts)) (right_rows (cut rights))))) need tells)

    -- a call that breaks off has made a front of the asks
    pub left-breaks : ask_of parts.core.ripple ≡ NeedLeft → (left : FeedSide) → left.draws ≡ asked Left (asked_once_more Left made) → BeginsWith (draws_for lefts rights parts.given) (asked_once_more Left made) × HasDrawn (asked_once_more Left made) left parts.right
    left-breaks need left e =
        (up_to-next (is_refused lefts rights) (asks_of_cuts lefts rights parts.given) made (record { side = Left; number = suc (asked Left made) }) free (left-next need), record { left_draws = e; right_draws = right-still made parts s })

    pub right-breaks : ask_of parts.core.ripple ≡ NeedRight → (right : FeedSide) → right.draws ≡ asked Right (asked_once_more Right made) → BeginsWith (draws_for lefts rights parts.given) (asked_once_more Right made) × HasDrawn (asked_once_more Right made) parts.left right
    right-breaks need right e =
        (up_to-next (is_refused lefts rights) (asks_of_cuts lefts rights parts.given) made (record { side = Right; number = suc (asked Right made) }) free (right-next need), record { left_draws = left-still made parts s; right_draws = e })

    -- a row that is refused ends the draws
    pub left-refused : ask_of parts.core.ripple ≡ NeedLeft → (left : FeedSide) → left.draws ≡ asked Left (asked_once_more Left made) → lies_past lefts (suc (asked Left made)) ≡ true → Answers lefts rights parts.given left parts.right (Err (fault_behind 1 lefts))
    left-refused need left e past =
        let both = up_to-last (is_refused lefts rights) (asks_of_cuts lefts rights parts.given) made (record { side = Left; number = suc (asked Left made) }) free past (left-next need) in
        record {
          answer = sym (ap (answer_by lefts rights parts.given) both.1);
          drawn = record { left_draws = e ∙ ap (asked Left) (sym both.0); right_draws = right-still made parts s ∙ ap (asked Right) (sym both.0) };
        }

    pub right-refused : ask_of parts.core.ripple ≡ NeedRight → (right : FeedSide) → right.draws ≡ asked Right (asked_once_more Right made) → lies_past rights (suc (asked Right made)) ≡ true → Answers lefts rights parts.given parts.left right (Err (fault_behind 2 rights))
    right-refused need right e past =
        let both = up_to-last (is_refused lefts rights) (asks_of_cuts lefts rights parts.given) made (record { side = Right; number = suc (asked Right made) }) free past (right-next need) in
        record {
          answer = sym (ap (answer_by lefts rights parts.given) both.1);
          drawn = record { left_draws = left-still made parts s ∙ ap (asked Left) (sym both.0); right_draws = e ∙ ap (asked Right) (sym both.0) };
        }

-- why a row is refused is what the row behind the cut says
some-same : {X : Type 0} {x y : X} → Some x ≡ Some y → x ≡ y
some-same e = cc

past-is : (rows : List FeedRow) (whole : List FeedRow) → cut whole ≡ rows → length rows < length whole → lies_past whole (suc (length rows)) ≡ true
past-is rows whole e h =
    let same = ap (λ (xs : List FeedRow). length xs) e in
    ap₂ (λ a b. a && b) (is-less (length (cut whole)) (suc (length rows)) (omega (arith, same))) (is-less (length (cut whole)) (length whole) (omega (arith, same, h)))

pub get-length : {X : Type 0} (xs : List X) (n : ℕ) (x : X) → slice_get xs n ≡ Some x → n < length xs
get-length [] n x e = absurd (none_at e)
get-length (y ∷ ys) zero x e = omega arith
get-length (y ∷ ys) (suc n) x e = let h = get-length ys n x e in omega (arith, h)

drop-at : {X : Type 0} (xs : List X) (n : ℕ) (x : X) → slice_get xs n ≡ Some x → drop n xs ≡ x ∷ drop (suc n) xs
drop-at [] n x e = absurd (none_at e)
drop-at (y ∷ ys) zero x e = ap (λ z. z ∷ ys) (some-same e)
drop-at (y ∷ ys) (suc n) x e = drop-at ys n x e

-- a refusal for the order
pub order-refused : (number : ℕ) (rows whole : List FeedRow) (row : FeedRow) → AreTaken rows → BeginsWith whole rows → slice_get whole (length rows) ≡ Some row → (length rows == most_rows) ≡ false → rises (last_score rows) row.score ≡ true
    → (lies_past whole (suc (length rows)) ≡ true) × (fault_behind number whole ≡ OutOfOrder number (suc (length rows)) (unwrap_or (last_score rows) 0) row.score)
order-refused number rows whole row taken begins next short rise =
    let is : cut whole ≡ rows = ap cut (split whole rows begins ∙ ap (λ zs. rows ++ zs) (drop-at whole (length rows) row next)) ∙ cut-rises rows row (drop (suc (length rows)) whole) taken.falls taken.few rise in (
      past-is rows whole is (get-length whole (length rows) row next),
      ap (λ (xs : List FeedRow). cond (length xs == most_rows) (TooLong number) (OutOfOrder number (suc (length xs)) (unwrap_or (last_score xs) 0) (unwrap_or (option_map (λ (r : FeedRow). r.score) (slice_get whole (length xs))) 0))) is
          ∙ ap (λ b. cond b (TooLong number) (OutOfOrder number (suc (length rows)) (unwrap_or (last_score rows) 0) (unwrap_or (option_map (λ (r : FeedRow). r.score) (slice_get whole (length rows))) 0))) short
          ∙ ap (λ o. OutOfOrder number (suc (length rows)) (unwrap_or (last_score rows) 0) (unwrap_or (option_map (λ (r : FeedRow). r.score) o) 0)) next,
    )

-- and one for the number of rows
pub length-refused : (number : ℕ) (rows whole : List FeedRow) → AreTaken rows → BeginsWith whole rows → length rows < length whole → (length rows == most_rows) ≡ true
    → (lies_past whole (suc (length rows)) ≡ true) × (fault_behind number whole ≡ TooLong number)
length-refused number rows whole taken begins more long =
    let full : length rows ≡ most_rows = equal (length rows) long in
    let is : cut whole ≡ rows = ap cut (split whole rows begins) ∙ cut-long rows (drop (length rows) whole) taken.falls full in (
      past-is rows whole is more,
      ap (λ (xs : List FeedRow). cond (length xs == most_rows) (TooLong number) (OutOfOrder number (suc (length xs)) (unwrap_or (last_score xs) 0) (unwrap_or (option_map (λ (r : FeedRow). r.score) (slice_get whole (length xs))) 0))) is
          ∙ ap (λ b. cond b (TooLong number) (OutOfOrder number (suc (length rows)) (unwrap_or (last_score rows) 0) (unwrap_or (option_map (λ (r : FeedRow). r.score) (slice_get whole (length rows))) 0))) long,
    )
  where
    equal : (n : ℕ) → (n == 131072) ≡ true → n ≡ 131072
    equal n e = grind (arith, nat_tests)

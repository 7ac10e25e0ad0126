-- The join of two lists of rows that are told, made again ask by ask: it stands at all asks of its schedule.
use Rattle.std.proofs.Common.{ℕ, zero, suc, ◌≡◌, ◌∙◌, ◌+◌, ◌<◌, ◌≤◌, ◌^◌, ◌==◌, Bool, true, false, cond, List, [], ◌∷◌, ◌++◌, find, length, slice_get, Option, Some, None, refl, sym, ap, ap₂, subst, arith}
use Rattle.std.specs.Prelude.{unwrap_or}
use Rattle.std.proofs.lemmas.Bool.{true≢false}
use Rattle.std.proofs.lemmas.List.{take_all}
use Rattle.std.proofs.lemmas.Option.{slice_get_within}
use Rattle.rs_feed.specs.declared.feed_row.FeedRow.{FeedRow}
use Rattle.rs_feed_join.specs.declared.fault.JoinFault.TheVariants.{OutOfOrder, TooLong}
use Rattle.rs_feed_join.specs.declared.feed_pair.FeedPair.{FeedPair}
use Rattle.rs_feed_join.specs.Answers.{asks_of_cuts, is_refused, lies_past}
use Rattle.rs_feed_join.specs.Cuts.{HaveScores, cut, last_score, most_rows, refusal, rises}
use Rattle.rs_feed_join.specs.Joins.{Continues, IsKept}
use Rattle.rs_feed_join.specs.Pairs.{joined_pairs}
use Rattle.rs_feed_join.specs.Parts.{PartsState, StandsAt, asked_once_more, join_state, new_parts}
use Rattle.rs_feed_join.specs.Ranked.{join_of_rows, left_row, left_rows, right_row, right_rows, same_texts}
use Rattle.rs_feed_join.specs.Sides.{AreTaken, FeedSide}
use Rattle.rs_feed_join.proofs.AnswerFacts.{cut-continues, get-length, length-refused, order-refused, pairs-length}
use Rattle.rs_feed_join.proofs.KeptFacts.{is-kept, is-whole}
use Rattle.rs_feed_join.proofs.RowFacts.{length-snoc, none_at, same_at}
use Rattle.rs_feed_join.proofs.StandFacts.{ends-left, ends-right, left-rows, left-unended, new-stands-at, over_left, over_right, right-rows, right-unended, stands-left, stands-right, stands-taken, taken-push, taking, with_left, with_right}
use Rattle.rs_hrjn.specs.Hashed.{hash_left, hash_right}
use Rattle.rs_order.specs.Schedule.{Left, Right, SideAsk, asked}
use Rattle.rs_order.proofs.EachFacts.{each-slice_get}
use Rattle.rs_rank.specs.declared.ask.JoinAsk.{JoinAsk}
use Rattle.rs_rank.specs.declared.ask.JoinAsk.TheVariants.{NeedLeft, NeedRight, Ready, End}
use Rattle.rs_rank.proofs.TurnFacts.{Tells}
use Rattle.rs_ripple.specs.Ripple.{ask_of, left_ended, left_for, right_ended}
use Rattle.rs_ripple.specs.Stands.{BeginsWith}
use Rattle.rs_ripple.proofs.LawFacts.{slice_get_none}
use Rattle.rs_ripple.proofs.ScheduleFacts.{BeginsWith-more}
use Rattle.rs_ripple.proofs.StandFacts.{stands-tells}
use Rattle.rs_value.specs.declared.value.Value.TheVariants.{Text}

-- a side has the first rows of a feed, and all where it ended
pub record IsOf (rows : List FeedRow) (side : FeedSide) : Type 0 where
  pub begins : BeginsWith rows side.rows
  pub ends : side.ended ≡ true → rows ≡ side.rows

-- a join of these rows that made these asks, and gave so many pairs
pub record Replayed (lefts rights : List FeedRow) (made : List SideAsk) (given : ℕ) : Type 0 where
  pub parts : PartsState
  pub at : StandsAt made parts
  pub gave : parts.given ≡ given
  pub left : IsOf lefts parts.left
  pub right : IsOf rights parts.right

-- nothing is asked
pub replayed-first : (lefts rights : List FeedRow) → Replayed lefts rights [] 0
replayed-first lefts rights = record {
  parts = new_parts;
  at = new-stands-at;
  gave = refl;
  left = record { begins = refl; ends = λ e. absurd cc };
  right = record { begins = refl; ends = λ e. absurd cc };
}

-- a list that begins with all of its items is that front
whole-of : {X : Type 0} (xs front : List X) → BeginsWith xs front → length xs ≤ length front → xs ≡ front
whole-of xs front begins all = sym (begins ∙ take_all (length front) xs all)

-- none of the items passes
find-free : {X : Type 0} (passes : X → Bool) (xs : List X) (i : ℕ) (x : X) → find passes xs ≡ None → slice_get xs i ≡ Some x → passes x ≡ false
find-free passes [] i x none at = absurd (none_at at)
find-free passes (y ∷ ys) i x none at = go (passes y) refl none i at (λ j rest there. find-free passes ys j x rest there) where
  go : (b : Bool) → passes y ≡ b → cond b (Some y) (find passes ys) ≡ None → (i : ℕ) → slice_get (y ∷ ys) i ≡ Some x
      → ((j : ℕ) → find passes ys ≡ None → slice_get ys j ≡ Some x → passes x ≡ false) → passes x ≡ false
  go true e none i at further = absurd (none_at (sym none))
  go false e none zero at further = subst (λ z. passes z ≡ false) (same_at at) e
  go false e none (suc j) at further = further j none at

-- a side takes the next row of its feed where the ask for it isn't refused
taken-next : (whole rows : List FeedRow) (row : FeedRow) → HaveScores whole → AreTaken rows → BeginsWith whole rows → slice_get whole (length rows) ≡ Some row
    → lies_past whole (suc (length rows)) ≡ false → AreTaken (rows ++ row ∷ [])
taken-next whole rows row scores taken begins next free =
    taken-push 1 rows row taken (each-slice_get (λ (r : FeedRow). r.score < 2 ^ 32) whole (length rows) row scores next)
    (unrefused (length rows == most_rows) refl (rises (last_score rows) row.score) refl)
  where
    unrefused : (long : Bool) → (length rows == most_rows) ≡ long → (rise : Bool) → rises (last_score rows) row.score ≡ rise → refusal 1 rows row.score ≡ None
    unrefused true e rise f = absurd (true≢false (sym (length-refused 1 rows whole taken begins (get-length whole (length rows) row next) e).0 ∙ free))
    unrefused false e true f = absurd (true≢false (sym (order-refused 1 rows whole row taken begins next e f).0 ∙ free))
    unrefused false e false f =
        ap₂ (λ long rise. cond long (Some (TooLong 1)) (cond rise (Some (OutOfOrder 1 (suc (length rows)) (unwrap_or (last_score rows) 0) row.score)) None)) e f

module _ (lefts rights : List FeedRow) (scores : HaveScores lefts) (scoring : HaveScores rights) where
  -- the pairs of the rows that can be drawn
  abbrev all-pairs : List FeedPair
  all-pairs = joined_pairs (cut lefts) (cut rights)

  module _ (made : List SideAsk) (n : ℕ) (r : Replayed lefts rights made n) where
    pub left-on : Continues r.parts.left (cut lefts)
    left-on = cut-continues r.parts.left lefts r.at.left_taken scores r.left.begins r.left.ends

    pub right-on : Continues r.parts.right (cut rights)
    right-on = cut-continues r.parts.right rights r.at.right_taken scoring r.right.begins r.right.ends

    -- no more pairs were given than there are
    pub given-within : n ≤ length all-pairs
    given-within =
        let size = pairs-length made r.parts r.at (cut lefts) (cut rights) left-on right-on in
        let within = (r.at.stands (cut lefts) (cut rights) left-on right-on).core.within in
        let gave = r.gave in
        omega (arith, size, within, gave)

    -- what the next ask tells of the schedule for the next pair
    tells : Tells (asks_of_cuts lefts rights n) made n (length all-pairs) (ask_of r.parts.core.ripple)
    tells =
        subst (λ count. Tells (asks_of_cuts lefts rights n) made n count (ask_of r.parts.core.ripple)) (pairs-length made r.parts r.at (cut lefts) (cut rights) left-on right-on)
        (subst (λ m. Tells (asks_of_cuts lefts rights m) made m _ (ask_of r.parts.core.ripple)) r.gave
        (stands-tells (join_of_rows (cut lefts) (cut rights)) (left_rows (cut lefts)) (right_rows (cut rights)) made r.parts.given r.parts.core.ripple
        (r.at.stands (cut lefts) (cut rights) left-on right-on).core))

    -- what is kept
    pub kept-now : IsKept (join_state r.parts false false)
    kept-now = is-kept made r.parts r.at

    -- one ask more of the left side
    step-left : ask_of r.parts.core.ripple ≡ NeedLeft → lies_past lefts (suc (asked Left made)) ≡ false → Replayed lefts rights (asked_once_more Left made) n
    step-left need free = go (slice_get lefts (length r.parts.left.rows)) refl where
      going : r.parts.left.ended ≡ false
      going = left-unended made r.parts r.at need

      go : (next : Option FeedRow) → slice_get lefts (length r.parts.left.rows) ≡ next → Replayed lefts rights (asked_once_more Left made) n
      go (Some row) e =
          let here = subst (λ m. lies_past lefts (suc m) ≡ false) (left-rows made r.parts r.at going) free in
          let taken = taken-next lefts r.parts.left.rows row scores r.at.left_taken r.left.begins e here in
          let core = hash_left (same_texts (r.parts.left.rows ++ row ∷ []) r.parts.right.rows) (left_row (1 + length r.parts.left.rows) row) (Text row.join ∷ []) r.parts.core in record {
            parts = with_left made r.parts r.at row core;
            at = stands-left made r.parts r.at need row taken core refl;
            gave = r.gave;
            left = record { begins = BeginsWith-more lefts r.parts.left.rows row r.left.begins e; ends = λ over. absurd (true≢false (sym over ∙ going)) };
            right = r.right;
          }
      go None e =
          let all = whole-of lefts r.parts.left.rows r.left.begins (slice_get_none lefts (length r.parts.left.rows) e) in
          let core = record r.parts.core { ripple = left_ended r.parts.core.ripple } in record {
            parts = over_left made r.parts r.at core;
            at = ends-left made r.parts r.at need core refl;
            gave = r.gave;
            left = record { begins = r.left.begins; ends = λ over. all };
            right = r.right;
          }

    -- and of the right one
    step-right : ask_of r.parts.core.ripple ≡ NeedRight → lies_past rights (suc (asked Right made)) ≡ false → Replayed lefts rights (asked_once_more Right made) n
    step-right need free = go (slice_get rights (length r.parts.right.rows)) refl where
      going : r.parts.right.ended ≡ false
      going = right-unended made r.parts r.at need

      go : (next : Option FeedRow) → slice_get rights (length r.parts.right.rows) ≡ next → Replayed lefts rights (asked_once_more Right made) n
      go (Some row) e =
          let here = subst (λ m. lies_past rights (suc m) ≡ false) (right-rows made r.parts r.at going) free in
          let taken = taken-next rights r.parts.right.rows row scoring r.at.right_taken r.right.begins e here in
          let core = hash_right (same_texts r.parts.left.rows (r.parts.right.rows ++ row ∷ [])) (right_row (1 + length r.parts.right.rows) row) (Text row.join ∷ []) r.parts.core in record {
            parts = with_right made r.parts r.at row core;
            at = stands-right made r.parts r.at need row taken core refl;
            gave = r.gave;
            left = r.left;
            right = record { begins = BeginsWith-more rights r.parts.right.rows row r.right.begins e; ends = λ over. absurd (true≢false (sym over ∙ going)) };
          }
      go None e =
          let all = whole-of rights r.parts.right.rows r.right.begins (slice_get_none rights (length r.parts.right.rows) e) in
          let core = record r.parts.core { ripple = right_ended r.parts.core.ripple } in record {
            parts = over_right made r.parts r.at core;
            at = ends-right made r.parts r.at need core refl;
            gave = r.gave;
            left = r.left;
            right = record { begins = r.right.begins; ends = λ over. all };
          }

  -- where no ask for the next pair is refused
  module _ (n : ℕ) (free : find (is_refused lefts rights) (asks_of_cuts lefts rights n) ≡ None) where
    abbrev asks : List SideAsk
    asks = asks_of_cuts lefts rights n

    -- one ask more is made, or all are
    turn : (made : List SideAsk) → Replayed lefts rights made n
        → ((longer : List SideAsk) → length longer ≡ suc (length made) → length made < length asks → Replayed lefts rights longer n → Replayed lefts rights asks n) → Replayed lefts rights asks n
    turn made r further = go (ask_of r.parts.core.ripple) refl (tells made n r) where
      go : (ask : JoinAsk) → ask_of r.parts.core.ripple ≡ ask → Tells asks made n (length all-pairs) ask → Replayed lefts rights asks n
      go NeedLeft need told =
          further (asked_once_more Left made) (length-snoc made _) (slice_get_within asks (length made) _ told)
          (step-left made n r need (find-free (is_refused lefts rights) asks (length made) (record { side = Left; number = suc (asked Left made) }) free told))
      go NeedRight need told =
          further (asked_once_more Right made) (length-snoc made _) (slice_get_within asks (length made) _ told)
          (step-right made n r need (find-free (is_refused lefts rights) asks (length made) (record { side = Right; number = suc (asked Right made) }) free told))
      go Ready e told = subst (λ m. Replayed lefts rights m n) told.0 r
      go End e told = subst (λ m. Replayed lefts rights m n) told.0 r

    -- so all can be made
    all-made : (more : ℕ) (made : List SideAsk) → length asks ≤ length made + more → Replayed lefts rights made n → Replayed lefts rights asks n
    all-made zero made enough r = turn made r (λ longer size less next. absurd (omega (arith, enough, less)))
    all-made (suc more) made enough r = turn made r (λ longer size less next. all-made more longer (omega (arith, enough, size)) next)

    pub replayed-on : (made : List SideAsk) → Replayed lefts rights made n → Replayed lefts rights asks n
    replayed-on made r = all-made (length asks) made (omega arith) r

    -- behind them no ask is made
    none-left : (ask : SideAsk) → slice_get asks (length asks) ≡ Some ask → ⊥
    none-left ask e = let less = slice_get_within asks (length asks) ask e in omega (arith, less)

    -- the next pair is given
    pub replayed-next : Replayed lefts rights asks n → n < length all-pairs → Replayed lefts rights asks (suc n)
    replayed-next r less = go (ask_of r.parts.core.ripple) refl (tells asks n r) where
      go : (ask : JoinAsk) → ask_of r.parts.core.ripple ≡ ask → Tells asks asks n (length all-pairs) ask → Replayed lefts rights asks (suc n)
      go NeedLeft e told = absurd (none-left _ told)
      go NeedRight e told = absurd (none-left _ told)
      go Ready ready told =
          let core = record r.parts.core { ripple = left_for (ask_of r.parts.core.ripple) r.parts.core.ripple } in record {
            parts = taking asks r.parts r.at core;
            at = stands-taken asks r.parts r.at ready core refl;
            gave = ap suc r.gave;
            left = r.left;
            right = r.right;
          }
      go End e told = let all = told.1 in absurd (omega (arith, less, all))

    -- or there is none
    pub kept-whole : (r : Replayed lefts rights asks n) → length all-pairs ≤ n → IsKept (join_state r.parts true false)
    kept-whole r past = go (ask_of r.parts.core.ripple) refl (tells asks n r) where
      go : (ask : JoinAsk) → ask_of r.parts.core.ripple ≡ ask → Tells asks asks n (length all-pairs) ask → IsKept (join_state r.parts true false)
      go NeedLeft e told = absurd (none-left _ told)
      go NeedRight e told = absurd (none-left _ told)
      go Ready e told = let less = told.1 in absurd (omega (arith, less, past))
      go End end told = is-whole asks r.parts r.at end

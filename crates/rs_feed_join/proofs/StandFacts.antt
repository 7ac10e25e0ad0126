-- Where a join of two feeds stands, row after row.
use Rattle.std.proofs.Common.{◌≡◌, ℕ, zero, suc, ◌+◌, ◌<◌, ◌≤◌, ◌^◌, ◌==◌, Bool, true, false, cond, nat_lt, List, [], ◌∷◌, ◌++◌, length, option_map, take, Option, Some, None, slice_get, refl, sym, ◌∙◌, ap, subst, inl, inr, arith}
use Rattle.std.proofs.lemmas.Bool.{true≢false}
use Rattle.std.proofs.lemmas.Bool.Decides.{nat_tests}
use Rattle.std.proofs.lemmas.List.{append_assoc, length-map, take-append-le, take_all}
use Rattle.std.specs.List.{AllByRecursion}
use Rattle.rs_feed.specs.declared.feed_row.FeedRow.{FeedRow}
use Rattle.rs_hrjn.specs.Hashed.{Hashed, hash_left, hash_right, joined_of}
use Rattle.rs_order.specs.Schedule.{JoinSide, Left, Right, SideAsk, asked}
use Rattle.rs_order.proofs.EachFacts.{each-push, each-weaker}
use Rattle.rs_order.proofs.ScheduleFacts.{asked-left, asked-right}
use Rattle.rs_rank.specs.declared.ask.JoinAsk.TheVariants.{NeedLeft, NeedRight, Ready}
use Rattle.rs_ripple.specs.Joined.{CanFeedLeft, CanFeedRight, Fits, IsJoined, JoinStands}
use Rattle.rs_ripple.specs.Ripple.{CanEnd, Ripple, ask_of, left_ended, left_for, right_ended}
use Rattle.rs_ripple.specs.Stands.{BeginsWith}
use Rattle.rs_ripple.proofs.AfterFacts.{left-going, right-going}
use Rattle.rs_ripple.proofs.FeedFacts.{row-joined}
use Rattle.rs_ripple.proofs.RestFacts.{left_end-joined, rest-joined, right_end-joined}
use Rattle.rs_ripple.proofs.JoinLawFacts.{left-can-feed, left-end-stands, left-fed-stands, right-can-feed, right-end-stands, right-fed-stands, stands-fits, taken-join-stands}
use Rattle.rs_ripple.proofs.ScheduleFacts.{BeginsWith-itself}
use Rattle.rs_value.specs.Faults.{raised}
use Rattle.rs_value.specs.declared.value.Value.TheVariants.{Text}
use Rattle.rs_feed_join.specs.declared.fault.JoinFault.{JoinFault}
use Rattle.rs_feed_join.specs.Cuts.{last_score, most_rows, order_refusal, refusal, rises}
use Rattle.rs_feed_join.specs.Joins.{Continues}
use Rattle.rs_feed_join.specs.Parts.{IsAnswered, IsAnsweredBy, PartsState, StandsAt, asked_once_more, new_parts}
use Rattle.rs_feed_join.specs.Ranked.{hashed_left, hashed_right, join_of_rows, left_row, left_rows, right_row, right_rows, same_texts}
use Rattle.rs_feed_join.specs.Sides.{AreTaken, FeedSide, answered}
use Rattle.rs_feed_join.proofs.HashFacts.{left-fed, right-fed}
use Rattle.rs_feed_join.proofs.RankedFacts.{can-join, get-numbered, length-numbered, numbered-push, sides-are}
use Rattle.rs_ripple.proofs.LawFacts.{new-stands}
use Rattle.rs_feed_join.proofs.RowFacts.{Falls-push, begins-append, length-snoc, split}

-- lists that begin with others
pub begins-front : {X : Type 0} (xs front more : List X) → BeginsWith xs (front ++ more) → BeginsWith xs front
begins-front xs front more begins = sym (ap (take (length front)) (split xs (front ++ more) begins ∙ append_assoc front more _) ∙ take-append-le (length front) front _ (omega arith) ∙ take_all (length front) front (omega arith))

pub at-end : {X : Type 0} (front : List X) (x : X) (more : List X) → slice_get (front ++ x ∷ more) (length front) ≡ Some x
at-end [] x more = refl
at-end (y ∷ ys) x more = at-end ys x more

pub begins-next : {X : Type 0} (xs front : List X) (x : X) → BeginsWith xs (front ++ x ∷ []) → slice_get xs (length front) ≡ Some x
begins-next xs front x begins =
    ap (λ zs. slice_get zs (length front)) (split xs (front ++ x ∷ []) begins ∙ append_assoc front (x ∷ []) _) ∙ at-end front x _

pub past-end : {X : Type 0} (xs : List X) (n : ℕ) → length xs ≤ n → slice_get xs n ≡ None
past-end [] n h = refl
past-end (x ∷ xs) zero h = absurd (omega (arith, h))
past-end (x ∷ xs) (suc n) h = past-end xs n (omega (arith, h))

-- a side whose rows fall continues itself
pub itself : (side : FeedSide) → AreTaken side.rows → Continues side side.rows
itself side taken = record { falls = taken.falls; scores = taken.scores; begins = BeginsWith-itself side.rows; ends = λ e. refl }

-- and what continues it with one more row, or at its end, continues it
pub one-less : (side after : FeedSide) (rows more : List FeedRow) → side.ended ≡ false → after.rows ≡ side.rows ++ more → Continues after rows → Continues side rows
one-less side after rows more going is continues = record {
  falls = continues.falls;
  scores = continues.scores;
  begins = begins-front rows side.rows more (subst (BeginsWith rows) is continues.begins);
  ends = λ e. absurd (true≢false (sym e ∙ going));
}

-- a side that isn't refused goes on falling, and isn't too long
no-refusal-fault : (b : Bool) (x y : Option JoinFault) → cond b x y ≡ None → (x ≡ None → ⊥) → (b ≡ false) × (y ≡ None)
no-refusal-fault true x y e not = absurd (not e)
no-refusal-fault false x y e not = (refl, e)

some-none : {X : Type 0} {x : X} → Some x ≡ None → ⊥
some-none e = cc

pub taken-push : (number : ℕ) (rows : List FeedRow) (row : FeedRow) → AreTaken rows → row.score < 2 ^ 32 → refusal number rows row.score ≡ None → AreTaken (rows ++ row ∷ [])
taken-push number rows row taken score free =
    let first = no-refusal-fault (length rows == most_rows) _ (order_refusal number rows row.score) free (λ e. some-none e) in
    let second = no-refusal-fault (rises (last_score rows) row.score) _ None first.1 (λ e. some-none e) in
    record {
      falls = Falls-push rows row taken.falls second.0;
      scores = each-push (λ (r : FeedRow). r.score < 2 ^ 32) rows row taken.scores score;
      few = fits (length rows) (length (rows ++ row ∷ [])) (length-snoc rows row) taken.few first.0;
    }
  where
    fits : (n m : ℕ) → m ≡ suc n → n ≤ 131072 → (n == 131072) ≡ false → m ≤ 131072
    fits n m e h f = grind (arith, nat_tests)

pub raised-is : (draws asks most : ℕ) → draws ≡ asks → asks ≤ 131073 → raised draws ≡ suc asks
raised-is draws asks most e h = omega (arith, e, h)

-- what a side answered
unended-answers : (side : FeedSide) → side.ended ≡ false → answered side ≡ length side.rows
unended-answers side going = ap (λ b. length side.rows + cond b 1 0) going ∙ plus (length side.rows) where
  plus : (n : ℕ) → n + 0 ≡ n
  plus n = omega arith

over-answers : (side : FeedSide) → side.ended ≡ true → answered side ≡ suc (length side.rows)
over-answers side over = ap (λ b. length side.rows + cond b 1 0) over ∙ plus (length side.rows) where
  plus : (n : ℕ) → n + 1 ≡ suc n
  plus n = omega arith

module _ (made : List SideAsk) (parts : PartsState) (s : StandsAt made parts) where
  -- whatever comes, the core stands as it does where nothing comes
  pub here : JoinStands (join_of_rows parts.left.rows parts.right.rows) (left_rows parts.left.rows) (right_rows parts.right.rows) made parts.given (joined_of parts.core)
  here = s.stands parts.left.rows parts.right.rows (itself parts.left s.left_taken) (itself parts.right s.right_taken)

  pub alive : parts.core.ripple.spent ≡ false
  alive = ap (λ (ripple : Ripple). ripple.spent) here.core.state

  over-of : (rows : ℕ) (asks : ℕ) → asks ≡ suc rows → nat_lt rows asks ≡ true
  over-of rows asks e = grind (arith, nat_tests)

  -- a side that is needed hasn't ended
  pub left-unended : ask_of parts.core.ripple ≡ NeedLeft → parts.left.ended ≡ false
  left-unended need = go parts.left.ended refl where
    go : (b : Bool) → parts.left.ended ≡ b → b ≡ false
    go false e = refl
    go true e =
        absurd (true≢false (sym (ap (λ (ripple : Ripple). ripple.left.ended) here.core.state
        ∙ over-of (length (_)) (asked Left made) (s.left_asked ∙ over-answers parts.left e ∙ ap suc (sym (length-map (left_rows parts.left.rows) _ ∙ length-numbered left_row 1 parts.left.rows))))
        ∙ left-going parts.core.ripple need))

  pub right-unended : ask_of parts.core.ripple ≡ NeedRight → parts.right.ended ≡ false
  right-unended need = go parts.right.ended refl where
    go : (b : Bool) → parts.right.ended ≡ b → b ≡ false
    go false e = refl
    go true e =
        absurd (true≢false (sym (ap (λ (ripple : Ripple). ripple.right.ended) here.core.state
        ∙ over-of (length (_)) (asked Right made) (s.right_asked ∙ over-answers parts.right e ∙ ap suc (sym (length-map (right_rows parts.right.rows) _ ∙ length-numbered right_row 1 parts.right.rows))))
        ∙ right-going parts.core.ripple need))

  -- the number of rows of a side that is going
  pub left-rows : parts.left.ended ≡ false → asked Left made ≡ length parts.left.rows
  left-rows going = s.left_asked ∙ unended-answers parts.left going

  pub right-rows : parts.right.ended ≡ false → asked Right made ≡ length parts.right.rows
  right-rows going = s.right_asked ∙ unended-answers parts.right going

  next-left : (rows : List FeedRow) (row : FeedRow) → parts.left.ended ≡ false → BeginsWith rows (parts.left.rows ++ row ∷ []) → slice_get (left_rows rows) (asked Left made) ≡ Some (left_row (1 + length parts.left.rows) row)
  next-left rows row going begins =
      ap (slice_get (left_rows rows)) (left-rows going) ∙ get-numbered left_row (length parts.left.rows) 1 rows ∙ ap (option_map (left_row (1 + length parts.left.rows))) (begins-next rows parts.left.rows row begins)

  next-right : (rows : List FeedRow) (row : FeedRow) → parts.right.ended ≡ false → BeginsWith rows (parts.right.rows ++ row ∷ []) → slice_get (right_rows rows) (asked Right made) ≡ Some (right_row (1 + length parts.right.rows) row)
  next-right rows row going begins =
      ap (slice_get (right_rows rows)) (right-rows going) ∙ get-numbered right_row (length parts.right.rows) 1 rows ∙ ap (option_map (right_row (1 + length parts.right.rows))) (begins-next rows parts.right.rows row begins)

  no-left : parts.left.ended ≡ false → slice_get (left_rows parts.left.rows) (asked Left made) ≡ None
  no-left going = past-end (left_rows parts.left.rows) (asked Left made) (let e = left-rows going in let f = length-numbered left_row 1 parts.left.rows in omega (arith, e, f))

  no-right : parts.right.ended ≡ false → slice_get (right_rows parts.right.rows) (asked Right made) ≡ None
  no-right going = past-end (right_rows parts.right.rows) (asked Right made) (let e = right-rows going in let f = length-numbered right_row 1 parts.right.rows in omega (arith, e, f))

  -- rows that go on with one more
  on-left : (row : FeedRow) → parts.left.ended ≡ false → AreTaken (parts.left.rows ++ row ∷ []) → Continues parts.left (parts.left.rows ++ row ∷ [])
  on-left row going taken = record { falls = taken.falls; scores = taken.scores; begins = begins-append parts.left.rows (row ∷ []); ends = λ e. absurd (true≢false (sym e ∙ going)) }

  on-right : (row : FeedRow) → parts.right.ended ≡ false → AreTaken (parts.right.rows ++ row ∷ []) → Continues parts.right (parts.right.rows ++ row ∷ [])
  on-right row going taken = record { falls = taken.falls; scores = taken.scores; begins = begins-append parts.right.rows (row ∷ []); ends = λ e. absurd (true≢false (sym e ∙ going)) }

  -- the core can be fed the next row of the side that it needs
  pub can-left : ask_of parts.core.ripple ≡ NeedLeft → (row : FeedRow) → AreTaken (parts.left.rows ++ row ∷ []) → CanFeedLeft (left_row (1 + length parts.left.rows) row) (joined_of parts.core)
  can-left need row taken =
      left-can-feed (join_of_rows (parts.left.rows ++ row ∷ []) parts.right.rows) (left_rows (parts.left.rows ++ row ∷ [])) (right_rows parts.right.rows) made parts.given (joined_of parts.core)
      (s.stands (parts.left.rows ++ row ∷ []) parts.right.rows (on-left row (left-unended need) taken) (itself parts.right s.right_taken)) need (left_row (1 + length parts.left.rows) row)
      (next-left (parts.left.rows ++ row ∷ []) row (left-unended need) (BeginsWith-itself (parts.left.rows ++ row ∷ [])))

  pub can-right : ask_of parts.core.ripple ≡ NeedRight → (row : FeedRow) → AreTaken (parts.right.rows ++ row ∷ []) → CanFeedRight (right_row (1 + length parts.right.rows) row) (joined_of parts.core)
  can-right need row taken =
      right-can-feed (join_of_rows parts.left.rows (parts.right.rows ++ row ∷ [])) (left_rows parts.left.rows) (right_rows (parts.right.rows ++ row ∷ [])) made parts.given (joined_of parts.core)
      (s.stands parts.left.rows (parts.right.rows ++ row ∷ []) (itself parts.left s.left_taken) (on-right row (right-unended need) taken)) need (right_row (1 + length parts.right.rows) row)
      (next-right (parts.right.rows ++ row ∷ []) row (right-unended need) (BeginsWith-itself (parts.right.rows ++ row ∷ [])))

  pub fits-left : ask_of parts.core.ripple ≡ NeedLeft → (row : FeedRow) → AreTaken (parts.left.rows ++ row ∷ []) → Fits (same_texts (parts.left.rows ++ row ∷ []) parts.right.rows) (joined_of parts.core)
  fits-left need row taken =
      stands-fits (join_of_rows (parts.left.rows ++ row ∷ []) parts.right.rows) (left_rows (parts.left.rows ++ row ∷ [])) (right_rows parts.right.rows) made parts.given (joined_of parts.core)
      (s.stands (parts.left.rows ++ row ∷ []) parts.right.rows (on-left row (left-unended need) taken) (itself parts.right s.right_taken))

  pub fits-right : ask_of parts.core.ripple ≡ NeedRight → (row : FeedRow) → AreTaken (parts.right.rows ++ row ∷ []) → Fits (same_texts parts.left.rows (parts.right.rows ++ row ∷ [])) (joined_of parts.core)
  fits-right need row taken =
      stands-fits (join_of_rows parts.left.rows (parts.right.rows ++ row ∷ [])) (left_rows parts.left.rows) (right_rows (parts.right.rows ++ row ∷ [])) made parts.given (joined_of parts.core)
      (s.stands parts.left.rows (parts.right.rows ++ row ∷ []) (itself parts.left s.left_taken) (on-right row (right-unended need) taken))

  -- and told that the side has no more
  pub can-end-left : ask_of parts.core.ripple ≡ NeedLeft → CanEnd NeedLeft parts.core.ripple
  can-end-left need =
      (left-end-stands (join_of_rows parts.left.rows parts.right.rows) (left_rows parts.left.rows) (right_rows parts.right.rows) made parts.given (joined_of parts.core) here need (no-left (left-unended need))).0

  pub can-end-right : ask_of parts.core.ripple ≡ NeedRight → CanEnd NeedRight parts.core.ripple
  can-end-right need =
      (right-end-stands (join_of_rows parts.left.rows parts.right.rows) (left_rows parts.left.rows) (right_rows parts.right.rows) made parts.given (joined_of parts.core) here need (no-right (right-unended need))).0

  -- what was answered before stays so
  answered-grow : (left right : FeedSide) → length parts.left.rows ≤ length left.rows → length parts.right.rows ≤ length right.rows
      → (parts.left.ended ≡ true → left.ended ≡ true) → (parts.right.ended ≡ true → right.ended ≡ true) → AllByRecursion (IsAnswered left right) made
  answered-grow left right more other still over =
      each-weaker (IsAnswered parts.left parts.right) (IsAnswered left right) grow made s.answered
    where
      by : (old new : FeedSide) → length old.rows ≤ length new.rows → (old.ended ≡ true → new.ended ≡ true) → (number : ℕ) → IsAnsweredBy old number → IsAnsweredBy new number
      by old new h k number (inl l) = inl (omega (arith, h, l))
      by old new h k number (inr e) = inr (k e)

      grow : (ask : SideAsk) → IsAnswered parts.left parts.right ask → IsAnswered left right ask
      grow ask was = go ask.side was where
        go : (side : JoinSide) → elim side as (λ _. Type 0) [ Left ↦ IsAnsweredBy parts.left ask.number | Right ↦ IsAnsweredBy parts.right ask.number ] → elim side as (λ _. Type 0) [ Left ↦ IsAnsweredBy left ask.number | Right ↦ IsAnsweredBy right ask.number ]
        go Left a = by parts.left left more still ask.number a
        go Right a = by parts.right right other over ask.number a

  pub few-left : asked Left made ≤ 131073
  few-left = (let e = s.left_asked in let f = s.left_taken.few in most parts.left.ended (length parts.left.rows) (asked Left made) e f) where
    most : (b : Bool) (n m : ℕ) → m ≡ n + cond b 1 0 → n ≤ 131072 → m ≤ 131073
    most true n m e f = omega (arith, e, f)
    most false n m e f = omega (arith, e, f)

  pub few-right : asked Right made ≤ 131073
  few-right = (let e = s.right_asked in let f = s.right_taken.few in most parts.right.ended (length parts.right.rows) (asked Right made) e f) where
    most : (b : Bool) (n m : ℕ) → m ≡ n + cond b 1 0 → n ≤ 131072 → m ≤ 131073
    most true n m e f = omega (arith, e, f)
    most false n m e f = omega (arith, e, f)

  -- a row was fed
  abbrev pub with_left : FeedRow → Hashed → PartsState
  with_left row core = record { core = core; left = record { rows = parts.left.rows ++ row ∷ []; ended = parts.left.ended; draws = raised parts.left.draws }; right = parts.right; given = parts.given }

  pub stands-left : ask_of parts.core.ripple ≡ NeedLeft → (row : FeedRow) → AreTaken (parts.left.rows ++ row ∷ []) → (core : Hashed)
      → core ≡ hash_left (same_texts (parts.left.rows ++ row ∷ []) parts.right.rows) (left_row (1 + length parts.left.rows) row) (Text row.join ∷ []) parts.core
      → StandsAt (asked_once_more Left made) (with_left row core)
  stands-left need row taken core is = record {
    stands = λ lefts rights c d.
        let going = left-unended need in
        let begun = one-less parts.left (record { rows = parts.left.rows ++ row ∷ []; ended = parts.left.ended; draws = raised parts.left.draws }) lefts (row ∷ []) going refl c in
        subst (λ joined. JoinStands (join_of_rows lefts rights) (left_rows lefts) (right_rows rights) (asked_once_more Left made) parts.given joined)
        (sym (ap joined_of is ∙ left-fed parts.core parts.left.rows parts.right.rows row lefts rights s.lefts s.rights c.begins d.begins))
        (left-fed-stands (join_of_rows lefts rights) (left_rows lefts) (right_rows rights) made parts.given (joined_of parts.core) (s.stands lefts rights begun d) need (left_row (1 + length parts.left.rows) row)
        (next-left lefts row going c.begins));
    joined = subst IsJoined (sym (ap joined_of is ∙ left-fed parts.core parts.left.rows parts.right.rows row (parts.left.rows ++ row ∷ []) (parts.right.rows) s.lefts s.rights (BeginsWith-itself (parts.left.rows ++ row ∷ [])) (BeginsWith-itself (parts.right.rows))))
        (row-joined Left refl (λ live. s.joined) (left_row (1 + length parts.left.rows) row) (can-left need row taken) (same_texts (parts.left.rows ++ row ∷ []) parts.right.rows));
    lefts = ap (λ (h : Hashed). h.lefts) is ∙ ap (λ rows. rows ++ hashed_left (1 + length parts.left.rows) row ∷ []) s.lefts ∙ sym (numbered-push hashed_left 1 parts.left.rows row);
    rights = ap (λ (h : Hashed). h.rights) is ∙ s.rights;
    left_taken = taken;
    right_taken = s.right_taken;
    left_asked = (asked-left made (suc (asked Left made))).0 ∙ ap suc (left-rows (left-unended need)) ∙ sym (length-snoc parts.left.rows row) ∙ sym (unended-answers (record { rows = parts.left.rows ++ row ∷ []; ended = parts.left.ended; draws = raised parts.left.draws }) (left-unended need));
    right_asked = (asked-left made (suc (asked Left made))).1 ∙ s.right_asked;
    left_draws = raised-is parts.left.draws (asked Left made) 131073 s.left_draws few-left ∙ sym (asked-left made (suc (asked Left made))).0;
    right_draws = s.right_draws ∙ sym (asked-left made (suc (asked Left made))).1;
    answered = each-push (IsAnswered (record { rows = parts.left.rows ++ row ∷ []; ended = parts.left.ended; draws = raised parts.left.draws }) parts.right) made (record { side = Left; number = suc (asked Left made) })
        (answered-grow (record { rows = parts.left.rows ++ row ∷ []; ended = parts.left.ended; draws = raised parts.left.draws }) parts.right (let e = length-snoc parts.left.rows row in omega (arith, e)) (omega arith) (λ e. e) (λ e. e))
        (inl (let e = length-snoc parts.left.rows row in let f = left-rows (left-unended need) in omega (arith, e, f)));
  }

  abbrev pub with_right : FeedRow → Hashed → PartsState
  with_right row core = record { core = core; left = parts.left; right = record { rows = parts.right.rows ++ row ∷ []; ended = parts.right.ended; draws = raised parts.right.draws }; given = parts.given }

  pub stands-right : ask_of parts.core.ripple ≡ NeedRight → (row : FeedRow) → AreTaken (parts.right.rows ++ row ∷ []) → (core : Hashed)
      → core ≡ hash_right (same_texts parts.left.rows (parts.right.rows ++ row ∷ [])) (right_row (1 + length parts.right.rows) row) (Text row.join ∷ []) parts.core
      → StandsAt (asked_once_more Right made) (with_right row core)
  stands-right need row taken core is = record {
    stands = λ lefts rights c d.
        let going = right-unended need in
        let begun = one-less parts.right (record { rows = parts.right.rows ++ row ∷ []; ended = parts.right.ended; draws = raised parts.right.draws }) rights (row ∷ []) going refl d in
        subst (λ joined. JoinStands (join_of_rows lefts rights) (left_rows lefts) (right_rows rights) (asked_once_more Right made) parts.given joined)
        (sym (ap joined_of is ∙ right-fed parts.core parts.left.rows parts.right.rows row lefts rights s.lefts s.rights c.begins d.begins))
        (right-fed-stands (join_of_rows lefts rights) (left_rows lefts) (right_rows rights) made parts.given (joined_of parts.core) (s.stands lefts rights c begun) need (right_row (1 + length parts.right.rows) row)
        (next-right rights row going d.begins));
    joined = subst IsJoined (sym (ap joined_of is ∙ right-fed parts.core parts.left.rows parts.right.rows row (parts.left.rows) (parts.right.rows ++ row ∷ []) s.lefts s.rights (BeginsWith-itself (parts.left.rows)) (BeginsWith-itself (parts.right.rows ++ row ∷ []))))
        (row-joined Right refl (λ live. s.joined) (right_row (1 + length parts.right.rows) row) (can-right need row taken) (same_texts parts.left.rows (parts.right.rows ++ row ∷ [])));
    lefts = ap (λ (h : Hashed). h.lefts) is ∙ s.lefts;
    rights = ap (λ (h : Hashed). h.rights) is ∙ ap (λ rows. rows ++ hashed_right (1 + length parts.right.rows) row ∷ []) s.rights ∙ sym (numbered-push hashed_right 1 parts.right.rows row);
    left_taken = s.left_taken;
    right_taken = taken;
    left_asked = (asked-right made (suc (asked Right made))).0 ∙ s.left_asked;
    right_asked = (asked-right made (suc (asked Right made))).1 ∙ ap suc (right-rows (right-unended need)) ∙ sym (length-snoc parts.right.rows row) ∙ sym (unended-answers (record { rows = parts.right.rows ++ row ∷ []; ended = parts.right.ended; draws = raised parts.right.draws }) (right-unended need));
    left_draws = s.left_draws ∙ sym (asked-right made (suc (asked Right made))).0;
    right_draws = raised-is parts.right.draws (asked Right made) 131073 s.right_draws few-right ∙ sym (asked-right made (suc (asked Right made))).1;
    answered = each-push (IsAnswered parts.left (record { rows = parts.right.rows ++ row ∷ []; ended = parts.right.ended; draws = raised parts.right.draws })) made (record { side = Right; number = suc (asked Right made) })
        (answered-grow parts.left (record { rows = parts.right.rows ++ row ∷ []; ended = parts.right.ended; draws = raised parts.right.draws }) (omega arith) (let e = length-snoc parts.right.rows row in omega (arith, e)) (λ e. e) (λ e. e))
        (inl (let e = length-snoc parts.right.rows row in let f = right-rows (right-unended need) in omega (arith, e, f)));
  }

  -- a side was told to have ended
  abbrev pub over_left : Hashed → PartsState
  over_left core = record { core = core; left = record { rows = parts.left.rows; ended = true; draws = raised parts.left.draws }; right = parts.right; given = parts.given }

  pub ends-left : ask_of parts.core.ripple ≡ NeedLeft → (core : Hashed) → core ≡ record parts.core { ripple = left_ended parts.core.ripple } → StandsAt (asked_once_more Left made) (over_left core)
  ends-left need core is = record {
    stands = λ lefts rights c d.
        let all : lefts ≡ parts.left.rows = c.ends refl in
        let going = left-unended need in
        let whole : Continues parts.left lefts = record { falls = c.falls; scores = c.scores; begins = c.begins; ends = λ e. all } in
        subst (λ joined. JoinStands (join_of_rows lefts rights) (left_rows lefts) (right_rows rights) (asked_once_more Left made) parts.given joined) (sym (ap joined_of is))
        (left-end-stands (join_of_rows lefts rights) (left_rows lefts) (right_rows rights) made parts.given (joined_of parts.core) (s.stands lefts rights whole d) need
        (ap (λ (rows : List FeedRow). slice_get (left_rows rows) (asked Left made)) all ∙ no-left going)).1;
    joined = subst IsJoined (sym (ap joined_of is)) (left_end-joined (joined_of parts.core) s.joined);
    lefts = ap (λ (h : Hashed). h.lefts) is ∙ s.lefts;
    rights = ap (λ (h : Hashed). h.rights) is ∙ s.rights;
    left_taken = s.left_taken;
    right_taken = s.right_taken;
    left_asked = (asked-left made (suc (asked Left made))).0 ∙ ap suc (left-rows (left-unended need)) ∙ sym (over-answers (record { rows = parts.left.rows; ended = true; draws = raised parts.left.draws }) refl);
    right_asked = (asked-left made (suc (asked Left made))).1 ∙ s.right_asked;
    left_draws = raised-is parts.left.draws (asked Left made) 131073 s.left_draws few-left ∙ sym (asked-left made (suc (asked Left made))).0;
    right_draws = s.right_draws ∙ sym (asked-left made (suc (asked Left made))).1;
    answered = each-push (IsAnswered (record { rows = parts.left.rows; ended = true; draws = raised parts.left.draws }) parts.right) made (record { side = Left; number = suc (asked Left made) })
        (answered-grow (record { rows = parts.left.rows; ended = true; draws = raised parts.left.draws }) parts.right (omega arith) (omega arith) (λ e. refl) (λ e. e)) (inr refl);
  }

  abbrev pub over_right : Hashed → PartsState
  over_right core = record { core = core; left = parts.left; right = record { rows = parts.right.rows; ended = true; draws = raised parts.right.draws }; given = parts.given }

  pub ends-right : ask_of parts.core.ripple ≡ NeedRight → (core : Hashed) → core ≡ record parts.core { ripple = right_ended parts.core.ripple } → StandsAt (asked_once_more Right made) (over_right core)
  ends-right need core is = record {
    stands = λ lefts rights c d.
        let all : rights ≡ parts.right.rows = d.ends refl in
        let going = right-unended need in
        let whole : Continues parts.right rights = record { falls = d.falls; scores = d.scores; begins = d.begins; ends = λ e. all } in
        subst (λ joined. JoinStands (join_of_rows lefts rights) (left_rows lefts) (right_rows rights) (asked_once_more Right made) parts.given joined) (sym (ap joined_of is))
        (right-end-stands (join_of_rows lefts rights) (left_rows lefts) (right_rows rights) made parts.given (joined_of parts.core) (s.stands lefts rights c whole) need
        (ap (λ (rows : List FeedRow). slice_get (right_rows rows) (asked Right made)) all ∙ no-right going)).1;
    joined = subst IsJoined (sym (ap joined_of is)) (right_end-joined (joined_of parts.core) s.joined);
    lefts = ap (λ (h : Hashed). h.lefts) is ∙ s.lefts;
    rights = ap (λ (h : Hashed). h.rights) is ∙ s.rights;
    left_taken = s.left_taken;
    right_taken = s.right_taken;
    left_asked = (asked-right made (suc (asked Right made))).0 ∙ s.left_asked;
    right_asked = (asked-right made (suc (asked Right made))).1 ∙ ap suc (right-rows (right-unended need)) ∙ sym (over-answers (record { rows = parts.right.rows; ended = true; draws = raised parts.right.draws }) refl);
    left_draws = s.left_draws ∙ sym (asked-right made (suc (asked Right made))).0;
    right_draws = raised-is parts.right.draws (asked Right made) 131073 s.right_draws few-right ∙ sym (asked-right made (suc (asked Right made))).1;
    answered = each-push (IsAnswered parts.left (record { rows = parts.right.rows; ended = true; draws = raised parts.right.draws })) made (record { side = Right; number = suc (asked Right made) })
        (answered-grow parts.left (record { rows = parts.right.rows; ended = true; draws = raised parts.right.draws }) (omega arith) (omega arith) (λ e. e) (λ e. refl)) (inr refl);
  }

  -- a pair was taken
  abbrev pub taking : Hashed → PartsState
  taking core = record { core = core; left = parts.left; right = parts.right; given = suc parts.given }

  pub stands-taken : ask_of parts.core.ripple ≡ Ready → (core : Hashed) → core ≡ record parts.core { ripple = left_for (ask_of parts.core.ripple) parts.core.ripple } → StandsAt made (taking core)
  stands-taken ready core is = record {
    stands = λ lefts rights c d.
        subst (λ joined. JoinStands (join_of_rows lefts rights) (left_rows lefts) (right_rows rights) made (suc parts.given) joined) (sym (ap joined_of is))
        (taken-join-stands (join_of_rows lefts rights) (left_rows lefts) (right_rows rights) made parts.given (joined_of parts.core) (s.stands lefts rights c d) ready).1;
    joined = subst IsJoined (sym (ap joined_of is)) (rest-joined (joined_of parts.core) s.joined);
    lefts = ap (λ (h : Hashed). h.lefts) is ∙ s.lefts;
    rights = ap (λ (h : Hashed). h.rights) is ∙ s.rights;
    left_taken = s.left_taken;
    right_taken = s.right_taken;
    left_asked = s.left_asked;
    right_asked = s.right_asked;
    left_draws = s.left_draws;
    right_draws = s.right_draws;
    answered = s.answered;
  }

  -- one draw more
  pub left-raised : raised parts.left.draws ≡ asked Left (asked_once_more Left made)
  left-raised = raised-is parts.left.draws (asked Left made) 131073 s.left_draws few-left ∙ sym (asked-left made (suc (asked Left made))).0

  pub right-raised : raised parts.right.draws ≡ asked Right (asked_once_more Right made)
  right-raised = raised-is parts.right.draws (asked Right made) 131073 s.right_draws few-right ∙ sym (asked-right made (suc (asked Right made))).1

  pub right-still : parts.right.draws ≡ asked Right (asked_once_more Left made)
  right-still = s.right_draws ∙ sym (asked-left made (suc (asked Left made))).1

  pub left-still : parts.left.draws ≡ asked Left (asked_once_more Right made)
  left-still = s.left_draws ∙ sym (asked-right made (suc (asked Right made))).0

-- nothing is drawn
pub new-stands-at : StandsAt [] new_parts
new-stands-at = record {
  stands = λ lefts rights c d.
      record { core = new-stands (join_of_rows lefts rights) (left_rows lefts) (right_rows rights) (sides-are lefts rights lefts rights c.falls c.scores d.falls d.scores); left_rows = refl; right_rows = refl };
  joined = record { rows = λ matches. record { sides = can-join; left_rows = record { each = tt; rising = tt; others = tt }; right_rows = record { each = tt; rising = tt; others = tt } }; left_keys = refl; right_keys = refl; reached = tt };
  lefts = refl;
  rights = refl;
  left_taken = record { falls = tt; scores = tt; few = omega arith };
  right_taken = record { falls = tt; scores = tt; few = omega arith };
  left_asked = refl;
  right_asked = refl;
  left_draws = refl;
  right_draws = refl;
  answered = tt;
}

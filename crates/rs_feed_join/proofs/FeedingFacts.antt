-- A core is fed the last row of a side: what the call asks for, and where the join stands behind it.
use Rattle.std.proofs.Common.{◌≡◌, ℕ, ◌+◌, ◌<◌, ◌≤◌, ◌^◌, Bool, true, false, Ok, List, [], ◌∷◌, ◌++◌, length, Option, Some, sym, ◌∙◌, ap, subst, arith}
use Rattle.rs_feed.specs.declared.feed_row.FeedRow.{FeedRow}
use Rattle.rs_hrjn.specs.Hashed.{Hashed, HaveTheirValues, MatchTheirValues, hash_left, hash_right, joined_of}
use Rattle.rs_order.specs.Last.{last_of}
use Rattle.rs_order.specs.Schedule.{Left, Right, SideAsk}
use Rattle.rs_rank.specs.declared.ask.JoinAsk.TheVariants.{NeedLeft, NeedRight}
use Rattle.rs_ripple.specs.Joined.{CanFeedLeft, CanFeedRight, Fits}
use Rattle.rs_ripple.specs.Ripple.{ask_of, left_ended, right_ended}
use Rattle.rs_ripple.proofs.ScheduleFacts.{BeginsWith-itself}
use Rattle.rs_value.specs.Faults.{raised}
use Rattle.rs_value.specs.declared.value.Value.TheVariants.{Text}
use Rattle.rs_feed_join.specs.Parts.{PartsState, StandsAt, asked_once_more}
use Rattle.rs_feed_join.specs.Ranked.{left_row, right_row, row_of, same_texts}
use Rattle.rs_feed_join.specs.Sides.{AreTaken, Drew, Ended, FeedSide, Took}
use Rattle.rs_feed_join.proofs.CallFacts.{last-pushed}
use Rattle.rs_feed_join.proofs.HashFacts.{left-matches, left-values, right-matches, right-values}
use Rattle.rs_feed_join.proofs.PairFacts.{has-begins}
use Rattle.rs_feed_join.proofs.RowFacts.{length-snoc, same_at}
use Rattle.rs_feed_join.proofs.StandFacts.{at-end, can-left, can-right, ends-left, ends-right, fits-left, fits-right, stands-left, stands-right, taken-push, with_left, with_right}

last-number : (rows : List FeedRow) (row : FeedRow) → length (rows ++ row ∷ []) ≡ 1 + length rows
last-number rows row = let e = length-snoc rows row in omega (arith, e)

last-row : (rows : List FeedRow) (row : FeedRow) → row_of (rows ++ row ∷ []) (length (rows ++ row ∷ [])) ≡ Some row
last-row rows row = ap (row_of (rows ++ row ∷ [])) (length-snoc rows row) ∙ at-end rows row []

few-rows : (n : ℕ) → n ≤ 131072 → n < 2 ^ 32
few-rows n h = omega (arith, h)

module _ (made : List SideAsk) (parts : PartsState) (s : StandsAt made parts) (row : FeedRow) where
  module _ (need : ask_of parts.core.ripple ≡ NeedLeft) (taken : AreTaken (parts.left.rows ++ row ∷ [])) where
    -- the row that is fed
    left-last : (r : FeedRow) → last_of (parts.left.rows ++ row ∷ []) ≡ Some r → row ≡ r
    left-last r e = same_at (sym (last-pushed parts.left.rows row) ∙ e)

    pub left-call-can : (r : FeedRow) → last_of (parts.left.rows ++ row ∷ []) ≡ Some r → CanFeedLeft (left_row (length (parts.left.rows ++ row ∷ [])) r) (joined_of parts.core)
    left-call-can r e =
        subst (λ (z : FeedRow). CanFeedLeft (left_row (length (parts.left.rows ++ row ∷ [])) z) (joined_of parts.core)) (left-last r e)
        (subst (λ n. CanFeedLeft (left_row n row) (joined_of parts.core)) (sym (last-number parts.left.rows row)) (can-left made parts s need row taken))

    pub left-call-fits : Fits (same_texts (parts.left.rows ++ row ∷ []) parts.right.rows) (joined_of parts.core)
    left-call-fits = fits-left made parts s need row taken

    pub left-call-values : (r : FeedRow) → last_of (parts.left.rows ++ row ∷ []) ≡ Some r → HaveTheirValues (same_texts (parts.left.rows ++ row ∷ []) parts.right.rows (left_row (length (parts.left.rows ++ row ∷ [])) r)) (Text r.join ∷ []) parts.core.rights
    left-call-values r e =
        subst (λ (z : FeedRow). HaveTheirValues (same_texts (parts.left.rows ++ row ∷ []) parts.right.rows (left_row (length (parts.left.rows ++ row ∷ [])) z)) (Text z.join ∷ []) parts.core.rights) (left-last r e)
        (subst (HaveTheirValues (same_texts (parts.left.rows ++ row ∷ []) parts.right.rows (left_row (length (parts.left.rows ++ row ∷ [])) row)) (Text row.join ∷ [])) (sym s.rights)
        (left-values (parts.left.rows ++ row ∷ []) parts.right.rows (length (parts.left.rows ++ row ∷ [])) row (last-row parts.left.rows row) 1 parts.right.rows (has-begins parts.right.rows parts.right.rows (BeginsWith-itself parts.right.rows))))

    pub left-call-exact : (r : FeedRow) → last_of (parts.left.rows ++ row ∷ []) ≡ Some r → MatchTheirValues (same_texts (parts.left.rows ++ row ∷ []) parts.right.rows (left_row (length (parts.left.rows ++ row ∷ [])) r)) (Text r.join ∷ []) parts.core.rights
    left-call-exact r e =
        subst (λ (z : FeedRow). MatchTheirValues (same_texts (parts.left.rows ++ row ∷ []) parts.right.rows (left_row (length (parts.left.rows ++ row ∷ [])) z)) (Text z.join ∷ []) parts.core.rights) (left-last r e)
        (subst (MatchTheirValues (same_texts (parts.left.rows ++ row ∷ []) parts.right.rows (left_row (length (parts.left.rows ++ row ∷ [])) row)) (Text row.join ∷ [])) (sym s.rights)
        (left-matches (parts.left.rows ++ row ∷ []) parts.right.rows (length (parts.left.rows ++ row ∷ [])) row (last-row parts.left.rows row) 1 parts.right.rows (has-begins parts.right.rows parts.right.rows (BeginsWith-itself parts.right.rows))))

    pub left-call-few : length (parts.left.rows ++ row ∷ []) < 2 ^ 32
    left-call-few = few-rows (length (parts.left.rows ++ row ∷ [])) taken.few

    pub left-call-stands : (core : Hashed) → ((r : FeedRow) → last_of (parts.left.rows ++ row ∷ []) ≡ Some r → core ≡ hash_left (same_texts (parts.left.rows ++ row ∷ []) parts.right.rows) (left_row (length (parts.left.rows ++ row ∷ [])) r) (Text r.join ∷ []) parts.core)
        → StandsAt (asked_once_more Left made) (with_left made parts s row core)
    left-call-stands core is =
        stands-left made parts s need row taken core
        (is row (last-pushed parts.left.rows row) ∙ ap (λ n. hash_left (same_texts (parts.left.rows ++ row ∷ []) parts.right.rows) (left_row n row) (Text row.join ∷ []) parts.core) (last-number parts.left.rows row))

  module _ (need : ask_of parts.core.ripple ≡ NeedRight) (taken : AreTaken (parts.right.rows ++ row ∷ [])) where
    right-last : (r : FeedRow) → last_of (parts.right.rows ++ row ∷ []) ≡ Some r → row ≡ r
    right-last r e = same_at (sym (last-pushed parts.right.rows row) ∙ e)

    pub right-call-can : (r : FeedRow) → last_of (parts.right.rows ++ row ∷ []) ≡ Some r → CanFeedRight (right_row (length (parts.right.rows ++ row ∷ [])) r) (joined_of parts.core)
    right-call-can r e =
        subst (λ (z : FeedRow). CanFeedRight (right_row (length (parts.right.rows ++ row ∷ [])) z) (joined_of parts.core)) (right-last r e)
        (subst (λ n. CanFeedRight (right_row n row) (joined_of parts.core)) (sym (last-number parts.right.rows row)) (can-right made parts s need row taken))

    pub right-call-fits : Fits (same_texts parts.left.rows (parts.right.rows ++ row ∷ [])) (joined_of parts.core)
    right-call-fits = fits-right made parts s need row taken

    pub right-call-values : (r : FeedRow) → last_of (parts.right.rows ++ row ∷ []) ≡ Some r → HaveTheirValues (λ left. same_texts parts.left.rows (parts.right.rows ++ row ∷ []) left (right_row (length (parts.right.rows ++ row ∷ [])) r)) (Text r.join ∷ []) parts.core.lefts
    right-call-values r e =
        subst (λ (z : FeedRow). HaveTheirValues (λ left. same_texts parts.left.rows (parts.right.rows ++ row ∷ []) left (right_row (length (parts.right.rows ++ row ∷ [])) z)) (Text z.join ∷ []) parts.core.lefts) (right-last r e)
        (subst (HaveTheirValues (λ left. same_texts parts.left.rows (parts.right.rows ++ row ∷ []) left (right_row (length (parts.right.rows ++ row ∷ [])) row)) (Text row.join ∷ [])) (sym s.lefts)
        (right-values parts.left.rows (parts.right.rows ++ row ∷ []) (length (parts.right.rows ++ row ∷ [])) row (last-row parts.right.rows row) 1 parts.left.rows (has-begins parts.left.rows parts.left.rows (BeginsWith-itself parts.left.rows))))

    pub right-call-exact : (r : FeedRow) → last_of (parts.right.rows ++ row ∷ []) ≡ Some r → MatchTheirValues (λ left. same_texts parts.left.rows (parts.right.rows ++ row ∷ []) left (right_row (length (parts.right.rows ++ row ∷ [])) r)) (Text r.join ∷ []) parts.core.lefts
    right-call-exact r e =
        subst (λ (z : FeedRow). MatchTheirValues (λ left. same_texts parts.left.rows (parts.right.rows ++ row ∷ []) left (right_row (length (parts.right.rows ++ row ∷ [])) z)) (Text z.join ∷ []) parts.core.lefts) (right-last r e)
        (subst (MatchTheirValues (λ left. same_texts parts.left.rows (parts.right.rows ++ row ∷ []) left (right_row (length (parts.right.rows ++ row ∷ [])) row)) (Text row.join ∷ [])) (sym s.lefts)
        (right-matches parts.left.rows (parts.right.rows ++ row ∷ []) (length (parts.right.rows ++ row ∷ [])) row (last-row parts.right.rows row) 1 parts.left.rows (has-begins parts.left.rows parts.left.rows (BeginsWith-itself parts.left.rows))))

    pub right-call-few : length (parts.right.rows ++ row ∷ []) < 2 ^ 32
    right-call-few = few-rows (length (parts.right.rows ++ row ∷ [])) taken.few

    pub right-call-stands : (core : Hashed) → ((r : FeedRow) → last_of (parts.right.rows ++ row ∷ []) ≡ Some r → core ≡ hash_right (same_texts parts.left.rows (parts.right.rows ++ row ∷ [])) (right_row (length (parts.right.rows ++ row ∷ [])) r) (Text r.join ∷ []) parts.core)
        → StandsAt (asked_once_more Right made) (with_right made parts s row core)
    right-call-stands core is =
        stands-right made parts s need row taken core
        (is row (last-pushed parts.right.rows row) ∙ ap (λ n. hash_right (same_texts parts.left.rows (parts.right.rows ++ row ∷ [])) (right_row n row) (Text row.join ∷ []) parts.core) (last-number parts.right.rows row))

-- behind a draw the join stands at one ask more
module _ (made : List SideAsk) (parts : PartsState) (s : StandsAt made parts) (told : Option (List FeedRow)) where
  pub left-over-stands : ask_of parts.core.ripple ≡ NeedLeft → (core : Hashed) (left right : FeedSide) (given : ℕ) → Ended told parts.left left → core ≡ record parts.core { ripple = left_ended parts.core.ripple } → right ≡ parts.right → given ≡ parts.given
      → StandsAt (asked_once_more Left made) (record { core = core; left = left; right = right; given = given })
  left-over-stands need core left right given ended is other same =
      subst (λ side. StandsAt (asked_once_more Left made) (record { core = core; left = side; right = right; given = given })) (sym ended.after)
      (subst (λ side. StandsAt (asked_once_more Left made) (record { core = core; left = record { rows = parts.left.rows; ended = true; draws = raised parts.left.draws }; right = side; given = given })) (sym other)
      (subst (λ n. StandsAt (asked_once_more Left made) (record { core = core; left = record { rows = parts.left.rows; ended = true; draws = raised parts.left.draws }; right = parts.right; given = n })) (sym same)
      (ends-left made parts s need core is)))

  pub right-over-stands : ask_of parts.core.ripple ≡ NeedRight → (core : Hashed) (left right : FeedSide) (given : ℕ) → Ended told parts.right right → core ≡ record parts.core { ripple = right_ended parts.core.ripple } → left ≡ parts.left → given ≡ parts.given
      → StandsAt (asked_once_more Right made) (record { core = core; left = left; right = right; given = given })
  right-over-stands need core left right given ended is other same =
      subst (λ side. StandsAt (asked_once_more Right made) (record { core = core; left = left; right = side; given = given })) (sym ended.after)
      (subst (λ side. StandsAt (asked_once_more Right made) (record { core = core; left = side; right = record { rows = parts.right.rows; ended = true; draws = raised parts.right.draws }; given = given })) (sym other)
      (subst (λ n. StandsAt (asked_once_more Right made) (record { core = core; left = parts.left; right = record { rows = parts.right.rows; ended = true; draws = raised parts.right.draws }; given = n })) (sym same)
      (ends-right made parts s need core is)))

  -- the rows of a side that took one
  pub left-now-taken : (left : FeedSide) (took : Took 1 told parts.left left) → AreTaken (parts.left.rows ++ took.row ∷ [])
  left-now-taken left took = taken-push 1 parts.left.rows took.row s.left_taken took.score took.free

  pub right-now-taken : (right : FeedSide) (took : Took 2 told parts.right right) → AreTaken (parts.right.rows ++ took.row ∷ [])
  right-now-taken right took = taken-push 2 parts.right.rows took.row s.right_taken took.score took.free

  pub left-took-stands : ask_of parts.core.ripple ≡ NeedLeft → (core : Hashed) (left right : FeedSide) (given : ℕ) (took : Took 1 told parts.left left)
      → ((r : FeedRow) → last_of (parts.left.rows ++ took.row ∷ []) ≡ Some r → core ≡ hash_left (same_texts (parts.left.rows ++ took.row ∷ []) parts.right.rows) (left_row (length (parts.left.rows ++ took.row ∷ [])) r) (Text r.join ∷ []) parts.core)
      → right ≡ parts.right → given ≡ parts.given → StandsAt (asked_once_more Left made) (record { core = core; left = left; right = right; given = given })
  left-took-stands need core left right given took is other same =
      subst (λ side. StandsAt (asked_once_more Left made) (record { core = core; left = side; right = right; given = given })) (sym took.after)
      (subst (λ side. StandsAt (asked_once_more Left made) (record { core = core; left = record { rows = parts.left.rows ++ took.row ∷ []; ended = parts.left.ended; draws = raised parts.left.draws }; right = side; given = given })) (sym other)
      (subst (λ n. StandsAt (asked_once_more Left made) (record { core = core; left = record { rows = parts.left.rows ++ took.row ∷ []; ended = parts.left.ended; draws = raised parts.left.draws }; right = parts.right; given = n })) (sym same)
      (left-call-stands made parts s took.row need (left-now-taken left took) core is)))

  pub right-took-stands : ask_of parts.core.ripple ≡ NeedRight → (core : Hashed) (left right : FeedSide) (given : ℕ) (took : Took 2 told parts.right right)
      → ((r : FeedRow) → last_of (parts.right.rows ++ took.row ∷ []) ≡ Some r → core ≡ hash_right (same_texts parts.left.rows (parts.right.rows ++ took.row ∷ [])) (right_row (length (parts.right.rows ++ took.row ∷ [])) r) (Text r.join ∷ []) parts.core)
      → left ≡ parts.left → given ≡ parts.given → StandsAt (asked_once_more Right made) (record { core = core; left = left; right = right; given = given })
  right-took-stands need core left right given took is other same =
      subst (λ side. StandsAt (asked_once_more Right made) (record { core = core; left = left; right = side; given = given })) (sym took.after)
      (subst (λ side. StandsAt (asked_once_more Right made) (record { core = core; left = side; right = record { rows = parts.right.rows ++ took.row ∷ []; ended = parts.right.ended; draws = raised parts.right.draws }; given = given })) (sym other)
      (subst (λ n. StandsAt (asked_once_more Right made) (record { core = core; left = parts.left; right = record { rows = parts.right.rows ++ took.row ∷ []; ended = parts.right.ended; draws = raised parts.right.draws }; given = n })) (sym same)
      (right-call-stands made parts s took.row need (right-now-taken right took) core is)))

-- a draw by its answer
pub drew-took : (number : ℕ) (told : Option (List FeedRow)) (old new : FeedSide) (there : Bool) → there ≡ true → Drew number told old (Ok there) new → Took number told old new
drew-took number told old new true e drew = drew
drew-took number told old new false e drew = cc

pub drew-ended : (number : ℕ) (told : Option (List FeedRow)) (old new : FeedSide) (there : Bool) → there ≡ false → Drew number told old (Ok there) new → Ended told old new
drew-ended number told old new false e drew = drew
drew-ended number told old new true e drew = cc

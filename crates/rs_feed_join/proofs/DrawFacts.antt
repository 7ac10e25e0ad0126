-- A core is fed the last row of a side that was drawn: what the call asks for, where the join stands behind it, and what is left where there was no memory.
use Rattle.std.proofs.Common.{◌≡◌, ℕ, suc, ◌-◌, ◌<◌, ◌^◌, Bool, List, [], ◌∷◌, ◌++◌, length, take, Option, Some, refl, sym, ◌∙◌, ap, subst, arith}
use Rattle.std.specs.Prelude.{IsSome}
use Rattle.rs_feed.specs.declared.feed_row.FeedRow.{FeedRow}
use Rattle.rs_hrjn.specs.Hashed.{Hashed, HaveTheirValues, MatchTheirValues, hash_left, hash_right, joined_of}
use Rattle.rs_order.specs.Last.{last_of}
use Rattle.rs_order.specs.Schedule.{Left, Right, SideAsk}
use Rattle.rs_rank.specs.declared.ask.JoinAsk.TheVariants.{NeedLeft, NeedRight}
use Rattle.rs_ripple.specs.Joined.{CanFeedLeft, CanFeedRight, Fits}
use Rattle.rs_ripple.specs.Ripple.{ask_of}
use Rattle.rs_value.specs.Faults.{raised}
use Rattle.rs_value.specs.declared.value.Value.TheVariants.{Text}
use Rattle.rs_feed_join.specs.Parts.{PartsState, StandsAt, asked_once_more}
use Rattle.rs_feed_join.specs.Ranked.{left_row, right_row, same_texts}
use Rattle.rs_feed_join.specs.Sides.{FeedSide, Took}
use Rattle.rs_feed_join.proofs.CallFacts.{last-pushed}
use Rattle.rs_feed_join.proofs.FeedingFacts.{left-call-can, left-call-exact, left-call-few, left-call-fits, left-call-values, left-now-taken, left-took-stands, right-call-can, right-call-exact, right-call-few, right-call-fits, right-call-values, right-now-taken, right-took-stands}
use Rattle.rs_feed_join.proofs.RowFacts.{begins-append, length-snoc}

-- a row is taken back
popped : (rows : List FeedRow) (row : FeedRow) → take (length (rows ++ row ∷ []) - 1) (rows ++ row ∷ []) ≡ rows
popped rows row = ap (λ n. take n (rows ++ row ∷ [])) (less (length (rows ++ row ∷ [])) (length rows) (length-snoc rows row)) ∙ sym (begins-append rows (row ∷ [])) where
  less : (n m : ℕ) → n ≡ suc m → n - 1 ≡ m
  less n m e = omega (arith, e)

abbrev pub side_with : List FeedRow → Bool → ℕ → FeedSide
side_with rows ended draws = record { rows = rows; ended = ended; draws = draws }

abbrev without_last : FeedSide → FeedSide
without_last side = side_with (take (length side.rows - 1) side.rows) side.ended side.draws

pub taken-back : (number : ℕ) (told : Option (List FeedRow)) (old new : FeedSide) (took : Took number told old new) (rows : List FeedRow) (n : ℕ) → n ≡ length new.rows → rows ≡ take (n - 1) new.rows
    → side_with rows new.ended new.draws ≡ side_with old.rows old.ended (raised old.draws)
taken-back number told old new took rows n count is =
    ap (λ (r : List FeedRow). side_with r new.ended new.draws) (is ∙ ap (λ m. take (m - 1) new.rows) count)
    ∙ ap without_last took.after
    ∙ ap (λ (r : List FeedRow). side_with r old.ended (raised old.draws)) (popped old.rows took.row)

some-last : (rows : List FeedRow) (row : FeedRow) → IsSome (last_of (rows ++ row ∷ []))
some-last rows row = subst (λ (o : Option FeedRow). IsSome o) (sym (last-pushed rows row)) refl

-- the left side took a row
module _ (made : List SideAsk) (parts : PartsState) (s : StandsAt made parts) (told : Option (List FeedRow)) (need : ask_of parts.core.ripple ≡ NeedLeft) (left : FeedSide) (took : Took 1 told parts.left left) where
  module _ (lefts rights : List FeedRow) (is : lefts ≡ left.rows) (other : rights ≡ parts.right.rows) where
    lefts-are : lefts ≡ parts.left.rows ++ took.row ∷ []
    lefts-are = is ∙ ap (λ (side : FeedSide). side.rows) took.after

    pub left-fed-last : IsSome (last_of lefts)
    left-fed-last = subst (λ (rows : List FeedRow). IsSome (last_of rows)) (sym lefts-are) (some-last parts.left.rows took.row)

    pub left-fed-few : length lefts < 2 ^ 32
    left-fed-few = subst (λ (rows : List FeedRow). length rows < 2 ^ 32) (sym lefts-are) (left-call-few made parts s took.row need (left-now-taken made parts s told left took))

    pub left-fed-can : (r : FeedRow) → last_of lefts ≡ Some r → CanFeedLeft (left_row (length lefts) r) (joined_of parts.core)
    left-fed-can =
        subst (λ (rows : List FeedRow). (r : FeedRow) → last_of rows ≡ Some r → CanFeedLeft (left_row (length rows) r) (joined_of parts.core)) (sym lefts-are)
        (left-call-can made parts s took.row need (left-now-taken made parts s told left took))

    pub left-fed-fits : Fits (same_texts lefts rights) (joined_of parts.core)
    left-fed-fits =
        subst (λ (rows : List FeedRow). Fits (same_texts rows rights) (joined_of parts.core)) (sym lefts-are)
        (subst (λ (rows : List FeedRow). Fits (same_texts (parts.left.rows ++ took.row ∷ []) rows) (joined_of parts.core)) (sym other)
        (left-call-fits made parts s took.row need (left-now-taken made parts s told left took)))

    pub left-fed-values : (r : FeedRow) → last_of lefts ≡ Some r → HaveTheirValues (same_texts lefts rights (left_row (length lefts) r)) (Text r.join ∷ []) parts.core.rights
    left-fed-values =
        subst (λ (rows : List FeedRow). (r : FeedRow) → last_of rows ≡ Some r → HaveTheirValues (same_texts rows rights (left_row (length rows) r)) (Text r.join ∷ []) parts.core.rights) (sym lefts-are)
        (subst (λ (rows : List FeedRow). (r : FeedRow) → last_of (parts.left.rows ++ took.row ∷ []) ≡ Some r → HaveTheirValues (same_texts (parts.left.rows ++ took.row ∷ []) rows (left_row (length (parts.left.rows ++ took.row ∷ [])) r)) (Text r.join ∷ []) parts.core.rights) (sym other)
        (left-call-values made parts s took.row need (left-now-taken made parts s told left took)))

    pub left-fed-exact : (r : FeedRow) → last_of lefts ≡ Some r → MatchTheirValues (same_texts lefts rights (left_row (length lefts) r)) (Text r.join ∷ []) parts.core.rights
    left-fed-exact =
        subst (λ (rows : List FeedRow). (r : FeedRow) → last_of rows ≡ Some r → MatchTheirValues (same_texts rows rights (left_row (length rows) r)) (Text r.join ∷ []) parts.core.rights) (sym lefts-are)
        (subst (λ (rows : List FeedRow). (r : FeedRow) → last_of (parts.left.rows ++ took.row ∷ []) ≡ Some r → MatchTheirValues (same_texts (parts.left.rows ++ took.row ∷ []) rows (left_row (length (parts.left.rows ++ took.row ∷ [])) r)) (Text r.join ∷ []) parts.core.rights) (sym other)
        (left-call-exact made parts s took.row need (left-now-taken made parts s told left took)))

    pub left-fed-stands : (core : Hashed) (right : FeedSide) (given : ℕ) → ((r : FeedRow) → last_of lefts ≡ Some r → core ≡ hash_left (same_texts lefts rights) (left_row (length lefts) r) (Text r.join ∷ []) parts.core)
        → right ≡ parts.right → given ≡ parts.given → StandsAt (asked_once_more Left made) (record { core = core; left = left; right = right; given = given })
    left-fed-stands core right given fed =
        left-took-stands made parts s told need core left right given took
        (subst (λ (rows : List FeedRow). (r : FeedRow) → last_of (parts.left.rows ++ took.row ∷ []) ≡ Some r → core ≡ hash_left (same_texts (parts.left.rows ++ took.row ∷ []) rows) (left_row (length (parts.left.rows ++ took.row ∷ [])) r) (Text r.join ∷ []) parts.core) other
        (subst (λ (rows : List FeedRow). (r : FeedRow) → last_of rows ≡ Some r → core ≡ hash_left (same_texts rows rights) (left_row (length rows) r) (Text r.join ∷ []) parts.core) lefts-are fed))

-- the right side took a row
module _ (made : List SideAsk) (parts : PartsState) (s : StandsAt made parts) (told : Option (List FeedRow)) (need : ask_of parts.core.ripple ≡ NeedRight) (right : FeedSide) (took : Took 2 told parts.right right) where
  module _ (lefts rights : List FeedRow) (other : lefts ≡ parts.left.rows) (is : rights ≡ right.rows) where
    rights-are : rights ≡ parts.right.rows ++ took.row ∷ []
    rights-are = is ∙ ap (λ (side : FeedSide). side.rows) took.after

    pub right-fed-last : IsSome (last_of rights)
    right-fed-last = subst (λ (rows : List FeedRow). IsSome (last_of rows)) (sym rights-are) (some-last parts.right.rows took.row)

    pub right-fed-few : length rights < 2 ^ 32
    right-fed-few = subst (λ (rows : List FeedRow). length rows < 2 ^ 32) (sym rights-are) (right-call-few made parts s took.row need (right-now-taken made parts s told right took))

    pub right-fed-can : (r : FeedRow) → last_of rights ≡ Some r → CanFeedRight (right_row (length rights) r) (joined_of parts.core)
    right-fed-can =
        subst (λ (rows : List FeedRow). (r : FeedRow) → last_of rows ≡ Some r → CanFeedRight (right_row (length rows) r) (joined_of parts.core)) (sym rights-are)
        (right-call-can made parts s took.row need (right-now-taken made parts s told right took))

    pub right-fed-fits : Fits (same_texts lefts rights) (joined_of parts.core)
    right-fed-fits =
        subst (λ (rows : List FeedRow). Fits (same_texts lefts rows) (joined_of parts.core)) (sym rights-are)
        (subst (λ (rows : List FeedRow). Fits (same_texts rows (parts.right.rows ++ took.row ∷ [])) (joined_of parts.core)) (sym other)
        (right-call-fits made parts s took.row need (right-now-taken made parts s told right took)))

    pub right-fed-values : (r : FeedRow) → last_of rights ≡ Some r → HaveTheirValues (λ left. same_texts lefts rights left (right_row (length rights) r)) (Text r.join ∷ []) parts.core.lefts
    right-fed-values =
        subst (λ (rows : List FeedRow). (r : FeedRow) → last_of rows ≡ Some r → HaveTheirValues (λ left. same_texts lefts rows left (right_row (length rows) r)) (Text r.join ∷ []) parts.core.lefts) (sym rights-are)
        (subst (λ (rows : List FeedRow). (r : FeedRow) → last_of (parts.right.rows ++ took.row ∷ []) ≡ Some r → HaveTheirValues (λ left. same_texts rows (parts.right.rows ++ took.row ∷ []) left (right_row (length (parts.right.rows ++ took.row ∷ [])) r)) (Text r.join ∷ []) parts.core.lefts) (sym other)
        (right-call-values made parts s took.row need (right-now-taken made parts s told right took)))

    pub right-fed-exact : (r : FeedRow) → last_of rights ≡ Some r → MatchTheirValues (λ left. same_texts lefts rights left (right_row (length rights) r)) (Text r.join ∷ []) parts.core.lefts
    right-fed-exact =
        subst (λ (rows : List FeedRow). (r : FeedRow) → last_of rows ≡ Some r → MatchTheirValues (λ left. same_texts lefts rows left (right_row (length rows) r)) (Text r.join ∷ []) parts.core.lefts) (sym rights-are)
        (subst (λ (rows : List FeedRow). (r : FeedRow) → last_of (parts.right.rows ++ took.row ∷ []) ≡ Some r → MatchTheirValues (λ left. same_texts rows (parts.right.rows ++ took.row ∷ []) left (right_row (length (parts.right.rows ++ took.row ∷ [])) r)) (Text r.join ∷ []) parts.core.lefts) (sym other)
        (right-call-exact made parts s took.row need (right-now-taken made parts s told right took)))

    pub right-fed-stands : (core : Hashed) (left : FeedSide) (given : ℕ) → ((r : FeedRow) → last_of rights ≡ Some r → core ≡ hash_right (same_texts lefts rights) (right_row (length rights) r) (Text r.join ∷ []) parts.core)
        → left ≡ parts.left → given ≡ parts.given → StandsAt (asked_once_more Right made) (record { core = core; left = left; right = right; given = given })
    right-fed-stands core left given fed =
        right-took-stands made parts s told need core left right given took
        (subst (λ (rows : List FeedRow). (r : FeedRow) → last_of (parts.right.rows ++ took.row ∷ []) ≡ Some r → core ≡ hash_right (same_texts rows (parts.right.rows ++ took.row ∷ [])) (right_row (length (parts.right.rows ++ took.row ∷ [])) r) (Text r.join ∷ []) parts.core) other
        (subst (λ (rows : List FeedRow). (r : FeedRow) → last_of rows ≡ Some r → core ≡ hash_right (same_texts lefts rows) (right_row (length rows) r) (Text r.join ∷ []) parts.core) rights-are fed))

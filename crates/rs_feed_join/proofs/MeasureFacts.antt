-- Each draw that goes well leaves fewer draws of its side.
use Rattle.std.proofs.Common.{◌≡◌, ℕ, suc, ◌+◌, ◌-◌, ◌<◌, ◌≤◌, Bool, true, false, cond, List, [], ◌∷◌, ◌++◌, length, Option, sym, ap, subst, ◌⊎◌, inl, inr, arith}
use Rattle.rs_feed.specs.declared.feed_row.FeedRow.{FeedRow}
use Rattle.rs_feed_join.specs.Parts.{draws_left}
use Rattle.rs_feed_join.specs.Sides.{AreTaken, Ended, FeedSide, Took}
use Rattle.rs_feed_join.proofs.RowFacts.{length-snoc}
use Rattle.rs_feed_join.proofs.StandFacts.{taken-push}

fewer-rows : (ended : Bool) (n m : ℕ) → m ≡ suc n → m ≤ 131072 → (131072 - m) + cond ended 0 1 < (131072 - n) + cond ended 0 1
fewer-rows true n m e h = omega (arith, e, h)
fewer-rows false n m e h = omega (arith, e, h)

fewer-ends : (ended : Bool) (n : ℕ) → ended ≡ false → (131072 - n) + 0 < (131072 - n) + cond ended 0 1
fewer-ends true n e = cc
fewer-ends false n e = omega arith

pub draws-fewer : (number : ℕ) (told : Option (List FeedRow)) (old new : FeedSide) → old.ended ≡ false → AreTaken old.rows → Took number told old new ⊎ Ended told old new → draws_left new < draws_left old
draws-fewer number told old new going taken (inl took) =
    subst (λ (side : FeedSide). draws_left side < draws_left old) (sym took.after)
    (fewer-rows old.ended (length old.rows) (length (old.rows ++ took.row ∷ [])) (length-snoc old.rows took.row) (taken-push number old.rows took.row taken took.score took.free).few)
draws-fewer number told old new going taken (inr ended) =
    subst (λ (side : FeedSide). draws_left side < draws_left old) (sym ended.after) (fewer-ends old.ended (length old.rows) going)

fewer-first : (a b c d : ℕ) → a < b → c ≡ d → a + c < b + d
fewer-first a b c d h e = omega (arith, h, e)

fewer-second : (a b c d : ℕ) → a < b → c ≡ d → c + a < d + b
fewer-second a b c d h e = omega (arith, h, e)

-- and of both sides, if the other one stays
pub left-fewer : (number : ℕ) (told : Option (List FeedRow)) (old new before after : FeedSide) → old.ended ≡ false → AreTaken old.rows → Took number told old new ⊎ Ended told old new → after ≡ before
    → draws_left new + draws_left after < draws_left old + draws_left before
left-fewer number told old new before after going taken step same =
    fewer-first (draws_left new) (draws_left old) (draws_left after) (draws_left before) (draws-fewer number told old new going taken step) (ap (λ (side : FeedSide). draws_left side) same)

pub right-fewer : (number : ℕ) (told : Option (List FeedRow)) (old new before after : FeedSide) → old.ended ≡ false → AreTaken old.rows → Took number told old new ⊎ Ended told old new → after ≡ before
    → draws_left after + draws_left new < draws_left before + draws_left old
right-fewer number told old new before after going taken step same =
    fewer-second (draws_left new) (draws_left old) (draws_left after) (draws_left before) (draws-fewer number told old new going taken step) (ap (λ (side : FeedSide). draws_left side) same)

-- The row that is fed is the last one, by its number and its text.
use Rattle.std.proofs.Common.{◌≡◌, ℕ, ◌∷◌, ◌-◌, [], List, get_or, length, Some, refl, sym, ◌∙◌, ap, ap₂, subst, arith}
use Rattle.std.specs.Prelude.{IsSome}
use Rattle.std.proofs.lemmas.Result.{on_ok_weaker}
use Rattle.rs_feed.specs.declared.feed_row.FeedRow.{FeedRow}
use Rattle.rs_hrjn.specs.Hashed.{HaveTheirValues, MatchTheirValues, hash_left, joined_of}
use Rattle.rs_order.specs.Last.{last_of}
use Rattle.rs_rank.specs.declared.row.RankRow.{RankRow}
use Rattle.rs_ripple.specs.Joined.{CanFeedLeft}
use Rattle.rs_value.specs.declared.value.Value.{Value}
use Rattle.rs_value.specs.declared.value.Value.TheVariants.{Text}
use Rattle.rs_feed_join.specs.Ranked.{left_row, same_texts}
use Rattle.rs_feed_join.proofs.CallFacts.{last-read, some-length}
use Rattle.rs_feed_join.proofs.RowFacts.{same_at}
use Rattle.rs_feed_join.proofs.parts.feed_left.Goals as goal

pub overflow_sub-last : goal.overflow_sub-last
overflow_sub-last c = let h = some-length c.args.lefts.now c.requires.last in omega (arith, h)

pub bounds-lefts-lefts : goal.bounds-lefts-lefts
bounds-lefts-lefts c = let h = some-length c.args.lefts.now c.requires.last in omega (arith, h)

last-is : (rows : List FeedRow) (place : ℕ) (row : FeedRow) → IsSome (last_of rows) → place ≡ length rows - 1 → row ≡ get_or rows place row → last_of rows ≡ Some row
last-is rows place row some at is = last-read rows place row at (some-length rows some) is

pub feed_left-requires-clause-row : goal.feed_left-requires-clause-row
feed_left-requires-clause-row c =
    subst (λ (row : RankRow). CanFeedLeft row (joined_of c.args.core.now)) (sym (c.left_row-row.ensures c.index-lefts-lefts.result refl)) (c.requires.can c.index-lefts-lefts.result (last-is c.args.lefts.now _ c.index-lefts-lefts.result c.requires.last refl c.index-lefts-lefts.is))

pub feed_left-requires-clause-values : goal.feed_left-requires-clause-values
feed_left-requires-clause-values c =
    subst (λ (row : RankRow). HaveTheirValues (same_texts c.args.lefts.now c.args.rights.now row) c.in_ok-values.values.items c.args.core.now.rights) (sym (c.left_row-row.ensures c.index-lefts-lefts.result refl))
    (subst (λ (values : List Value). HaveTheirValues (same_texts c.args.lefts.now c.args.rights.now (left_row (length c.args.lefts.now) c.index-lefts-lefts.result)) values c.args.core.now.rights) (sym c.in_ok-values.ensures) (c.requires.values c.index-lefts-lefts.result (last-is c.args.lefts.now _ c.index-lefts-lefts.result c.requires.last refl c.index-lefts-lefts.is)))

pub feed_left-requires-clause-exact : goal.feed_left-requires-clause-exact
feed_left-requires-clause-exact c = λ exact.
    subst (λ (row : RankRow). MatchTheirValues (same_texts c.args.lefts.now c.args.rights.now row) c.in_ok-values.values.items c.args.core.now.rights) (sym (c.left_row-row.ensures c.index-lefts-lefts.result refl))
    (subst (λ (values : List Value). MatchTheirValues (same_texts c.args.lefts.now c.args.rights.now (left_row (length c.args.lefts.now) c.index-lefts-lefts.result)) values c.args.core.now.rights) (sym c.in_ok-values.ensures) (c.requires.exact c.index-lefts-lefts.result (last-is c.args.lefts.now _ c.index-lefts-lefts.result c.requires.last refl c.index-lefts-lefts.is)))

pub returns : goal.returns
returns c =
    on_ok_weaker c.feed_left.result
    (λ is row at.
    let same = same_at (sym (last-is c.args.lefts.now _ c.index-lefts-lefts.result c.requires.last refl c.index-lefts-lefts.is) ∙ at) in
    is ∙ ap₂ (λ (r : RankRow) (values : List Value). hash_left (same_texts c.args.lefts.now c.args.rights.now) r values c.args.core.now)
    (c.left_row-row.ensures c.index-lefts-lefts.result refl ∙ ap (left_row (length c.args.lefts.now)) same)
    (c.in_ok-values.ensures ∙ ap (λ (r : FeedRow). Text r.join ∷ []) same))
    c.feed_left.ensures.ok

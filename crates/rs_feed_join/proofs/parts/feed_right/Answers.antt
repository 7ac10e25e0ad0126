-- The row that is fed is the last one, by its number and its text.
use Rattle.std.proofs.Common.{◌≡◌, ℕ, ◌∷◌, ◌-◌, [], List, get_or, length, Some, refl, sym, ◌∙◌, ap, ap₂, subst, arith}
use Rattle.std.specs.Prelude.{IsSome}
use Rattle.std.proofs.lemmas.Result.{on_ok_weaker}
use Rattle.rs_feed.specs.declared.feed_row.FeedRow.{FeedRow}
use Rattle.rs_hrjn.specs.Hashed.{HaveTheirValues, MatchTheirValues, hash_right, joined_of}
use Rattle.rs_order.specs.Last.{last_of}
use Rattle.rs_rank.specs.declared.row.RankRow.{RankRow}
use Rattle.rs_ripple.specs.Joined.{CanFeedRight}
use Rattle.rs_value.specs.declared.value.Value.{Value}
use Rattle.rs_value.specs.declared.value.Value.TheVariants.{Text}
use Rattle.rs_feed_join.specs.Ranked.{right_row, same_texts}
use Rattle.rs_feed_join.proofs.CallFacts.{last-read, some-length}
use Rattle.rs_feed_join.proofs.RowFacts.{same_at}
use Rattle.rs_feed_join.proofs.parts.feed_right.Goals as goal

pub overflow_sub-last : goal.overflow_sub-last
overflow_sub-last c = let h = some-length c.args.rights.now c.requires.last in omega (arith, h)

pub bounds-rights-rights : goal.bounds-rights-rights
bounds-rights-rights c = let h = some-length c.args.rights.now c.requires.last in omega (arith, h)

last-is : (rows : List FeedRow) (place : ℕ) (row : FeedRow) → IsSome (last_of rows) → place ≡ length rows - 1 → row ≡ get_or rows place row → last_of rows ≡ Some row
last-is rows place row some at is = last-read rows place row at (some-length rows some) is

pub feed_right-requires-clause-row : goal.feed_right-requires-clause-row
feed_right-requires-clause-row c =
    subst (λ (row : RankRow). CanFeedRight row (joined_of c.args.core.now)) (sym (c.right_row-row.ensures c.index-rights-rights.result refl)) (c.requires.can c.index-rights-rights.result (last-is c.args.rights.now _ c.index-rights-rights.result c.requires.last refl c.index-rights-rights.is))

pub feed_right-requires-clause-values : goal.feed_right-requires-clause-values
feed_right-requires-clause-values c =
    subst (λ (row : RankRow). HaveTheirValues (λ left. same_texts c.args.lefts.now c.args.rights.now left row) c.in_ok-values.values.items c.args.core.now.lefts) (sym (c.right_row-row.ensures c.index-rights-rights.result refl))
    (subst (λ (values : List Value). HaveTheirValues (λ left. same_texts c.args.lefts.now c.args.rights.now left (right_row (length c.args.rights.now) c.index-rights-rights.result)) values c.args.core.now.lefts) (sym c.in_ok-values.ensures) (c.requires.values c.index-rights-rights.result (last-is c.args.rights.now _ c.index-rights-rights.result c.requires.last refl c.index-rights-rights.is)))

pub feed_right-requires-clause-exact : goal.feed_right-requires-clause-exact
feed_right-requires-clause-exact c = λ exact.
    subst (λ (row : RankRow). MatchTheirValues (λ left. same_texts c.args.lefts.now c.args.rights.now left row) c.in_ok-values.values.items c.args.core.now.lefts) (sym (c.right_row-row.ensures c.index-rights-rights.result refl))
    (subst (λ (values : List Value). MatchTheirValues (λ left. same_texts c.args.lefts.now c.args.rights.now left (right_row (length c.args.rights.now) c.index-rights-rights.result)) values c.args.core.now.lefts) (sym c.in_ok-values.ensures) (c.requires.exact c.index-rights-rights.result (last-is c.args.rights.now _ c.index-rights-rights.result c.requires.last refl c.index-rights-rights.is)))

pub returns : goal.returns
returns c =
    on_ok_weaker c.feed_right.result
    (λ is row at.
    let same = same_at (sym (last-is c.args.rights.now _ c.index-rights-rights.result c.requires.last refl c.index-rights-rights.is) ∙ at) in
    is ∙ ap₂ (λ (r : RankRow) (values : List Value). hash_right (same_texts c.args.lefts.now c.args.rights.now) r values c.args.core.now)
    (c.right_row-row.ensures c.index-rights-rights.result refl ∙ ap (right_row (length c.args.rights.now)) same)
    (c.in_ok-values.ensures ∙ ap (λ (r : FeedRow). Text r.join ∷ []) same))
    c.feed_right.ensures.ok

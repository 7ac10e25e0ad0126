-- The left rows that the new row can match have its join values, so the pairs with those at the places of these values are
-- the pairs with all.
use Rattle.std.proofs.Common.{◌≡◌, ◌<◌, ◌++◌, ◌∷◌, [], List, length, map, true, Result, Ok, Err, refl, sym, ◌∙◌, ap, ap₂, subst}
use Rattle.std.proofs.lemmas.List.{map-append}
use Rattle.std.specs.List.{AllByRecursion}
use Rattle.std.specs.Result.{OnOk, is_ok}
use Rattle.rs_order.specs.Schedule.{Right}
use Rattle.rs_rank.specs.declared.row.RankRow.{RankRow}
use Rattle.rs_rank.specs.Rows.{CanMergeRows, merge_row}
use Rattle.rs_ripple.specs.Joined.{Fits, IsJoined, fed_right}
use Rattle.rs_ripple.specs.Pairs.{pairs_against}
use Rattle.rs_ripple.specs.Ripple.{Ripple, right_drawn}
use Rattle.rs_ripple.specs.Stands.{CanFindEach, found_each}
use Rattle.rs_ripple.proofs.FeedFacts.{row-found, row-joined, row-merges, row-now, row-pairs}
use Rattle.rs_hrjn.specs.Drawn.{DrawnRow, rows_of}
use Rattle.rs_hrjn.specs.Hashed.{HaveTheirValues, MatchTheirValues, hash_right, joined_of, rows_at}
use Rattle.rs_hrjn.proofs.AlikeFacts.{filter-at, matching-at}
use Rattle.rs_hrjn.proofs.hashed.Hrjn.feed_right.Goals as goal

on_ok : {A E P : Type 0} (r : Result A E) → is_ok r ≡ true → OnOk r P → P
on_ok (Ok a) e p = p
on_ok (Err f) e p = absurd (cc)

pub find_left-requires-clause-rows : goal.find_left-requires-clause-rows
find_left-requires-clause-rows g c = subst (AllByRecursion (λ left. CanMergeRows left c.args.row)) (sym c.rows.ensures) (row-merges Right (ap joined_of c.self.view_is) c.self.invariant c.args.row c.requires.row)

pub find_left-requires-clause-within : goal.find_left-requires-clause-within
find_left-requires-clause-within g c =
    subst (λ (rows : List RankRow). AllByRecursion (λ place. place < length rows) c.places-places.result.now) (sym c.rows.ensures) c.places-places.ensures.within

pub find_left-requires-clause-exact : goal.find_left-requires-clause-exact
find_left-requires-clause-exact g c = λ exact.
    let truth = g.M.Matcher.truth c.args.matcher.now in
    let same = subst (λ h. MatchTheirValues (λ left. truth left c.args.row) c.args.join.items h.lefts) (sym c.self.view_is) (c.requires.exact exact) in
    subst (AllByRecursion (λ row. truth row c.args.row ≡ true)) (sym (ap₂ (rows_at c.args.row) c.places-places.ensures.places c.rows.ensures))
    (matching-at (λ left. truth left c.args.row) c.args.row c.args.join.items c.self.inside.lefts same)

pub find_left-requires-clause-pairs : goal.find_left-requires-clause-pairs
find_left-requires-clause-pairs g c =
    let truth = g.M.Matcher.truth c.args.matcher.now in
    let values = subst (λ h. HaveTheirValues (λ left. truth left c.args.row) c.args.join.items h.lefts) (sym c.self.view_is) c.requires.values in
    subst (λ pairs. CanFindEach pairs c.right_drawn.new.self)
    (sym (ap (map (λ left. merge_row left c.args.row)) (filter-at (λ left. truth left c.args.row) c.args.row c.args.join.items c.self.inside.lefts values c.places-places.ensures.places c.rows.ensures)))
    (row-pairs Right (ap joined_of c.self.view_is) c.self.invariant c.args.row c.requires.row truth c.requires.fits c.right_drawn.new.self (c.right_drawn.ensures ∙ ap (λ k. right_drawn k c.self.inside.core) c.right_key-key.ensures))

-- what is left where both calls answered `Ok`: the core has been told the pairs with all left rows, and the right rows have the new one
told : (g : _) (c : goal.Else-is_err g) → c.find_left.new.core ≡ found_each (pairs_against (g.M.Matcher.truth c.args.matcher.now) merge_row (rows_of c.self.inside.lefts) c.args.row) c.right_drawn.new.self
told g c =
    let truth = g.M.Matcher.truth c.args.matcher.now in
    let values = subst (λ h. HaveTheirValues (λ left. truth left c.args.row) c.args.join.items h.lefts) (sym c.self.view_is) c.requires.values in
    ◌∙◌ {A = Ripple} c.in_ok-find_left.ensures.ok
    (ap (λ pairs. found_each pairs c.right_drawn.new.self) (ap (map (λ left. merge_row left c.args.row)) (filter-at (λ left. truth left c.args.row) c.args.row c.args.join.items c.self.inside.lefts values c.places-places.ensures.places c.rows.ensures)))

pushed : (g : _) (c : goal.Else-is_err g) → c.push.new.self ≡ c.self.inside.rights ++ record { row = c.args.row; values = c.args.join.items } ∷ []
pushed g c = on_ok c.push.result c.if-is_err.ensures.negation c.push.ensures.ok

fed : (g : _) (c : goal.Else-is_err g) → joined_of (record { ripple = c.find_left.new.core; lefts = c.self.inside.lefts; rights = c.push.new.self })
    ≡ fed_right (g.M.Matcher.truth c.args.matcher.now) c.args.row (joined_of (record { ripple = c.self.inside.core; lefts = c.self.inside.lefts; rights = c.self.inside.rights }))
fed g c =
    row-now Right (ap joined_of c.self.view_is) c.self.invariant c.args.row c.requires.row (g.M.Matcher.truth c.args.matcher.now) c.requires.fits c.right_drawn.new.self (c.right_drawn.ensures ∙ ap (λ k. right_drawn k c.self.inside.core) c.right_key-key.ensures)
    (joined_of (record { ripple = c.find_left.new.core; lefts = c.self.inside.lefts; rights = c.push.new.self })) (told g c) refl (ap rows_of (pushed g c) ∙ map-append (λ (drawn : DrawnRow). drawn.row) c.self.inside.rights (record { row = c.args.row; values = c.args.join.items } ∷ []))

pub invariant_of-self-else-is_err : goal.invariant_of-self-else-is_err
invariant_of-self-else-is_err g c = λ alive. subst IsJoined (sym (fed g c)) (row-joined Right (ap joined_of c.self.view_is) c.self.invariant c.args.row c.requires.row (g.M.Matcher.truth c.args.matcher.now))

pub returns-clause-ok : goal.returns-clause-ok
returns-clause-ok g c =
    let truth = g.M.Matcher.truth c.args.matcher.now in
    ap₂ (λ (ripple : Ripple) (rows : List DrawnRow). record { ripple = ripple; lefts = c.self.inside.lefts; rights = rows })
    (row-found Right (ap joined_of c.self.view_is) c.self.invariant c.args.row c.requires.row truth c.requires.fits c.right_drawn.new.self (c.right_drawn.ensures ∙ ap (λ k. right_drawn k c.self.inside.core) c.right_key-key.ensures) c.find_left.new.core (told g c)) (pushed g c)
    ∙ ap (hash_right truth c.args.row c.args.join.items) c.self.view_is

pub returns-clause-fits : goal.returns-clause-fits
returns-clause-fits g c = subst (Fits (g.M.Matcher.truth c.args.matcher.now)) (sym (fed g c)) refl

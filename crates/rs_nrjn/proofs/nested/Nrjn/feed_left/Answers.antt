-- The rows at the call's begin are those of two sides, and the new row can be told. The pairs with it are found behind those
-- that were taken.
use Rattle.std.proofs.Common.{◌≡◌, ◌++◌, ◌∷◌, [], cond, refl, sym, ◌∙◌, ap, subst}
use Rattle.std.specs.List.{AllByRecursion}
use Rattle.rs_order.specs.Schedule.{Left}
use Rattle.rs_rank.specs.Rows.{CanMergeRows, merge_row}
use Rattle.rs_ripple.specs.Joined.{Fits, IsJoined, fed_left}
use Rattle.rs_ripple.specs.Pairs.{pairs_with}
use Rattle.rs_ripple.specs.Ripple.{Ripple, left_drawn}
use Rattle.rs_ripple.specs.Stands.{CanFindEach, found_each}
use Rattle.rs_ripple.proofs.FeedFacts.{row-joined, row-merges, row-now, row-pairs}
use Rattle.rs_nrjn.proofs.nested.Nrjn.feed_left.Goals as goal

pub find_right-requires-clause-rows : goal.find_right-requires-clause-rows
find_right-requires-clause-rows g c = subst (AllByRecursion (CanMergeRows c.args.row)) (sym c.deref.ensures.value) (row-merges Left c.self.view_is c.self.invariant c.args.row c.requires.row)

pub find_right-requires-clause-pairs : goal.find_right-requires-clause-pairs
find_right-requires-clause-pairs g c =
    let truth = g.M.Matcher.truth c.args.matcher.now in
    subst (λ rows. CanFindEach (pairs_with truth merge_row rows c.args.row) c.left_drawn.new.self) (sym c.deref.ensures.value)
    (row-pairs Left c.self.view_is c.self.invariant c.args.row c.requires.row truth c.requires.fits c.left_drawn.new.self (c.left_drawn.ensures ∙ ap (λ k. left_drawn k c.self.inside.core) c.left_key-key.ensures))

-- what is left where both calls answered `Ok`
fed : (g : _) (c : goal.Else-is_err g) → record { ripple = c.find_right.new.core; lefts = c.push.new.self.items; rights = c.self.inside.rights.items }
    ≡ fed_left (g.M.Matcher.truth c.args.matcher.now) c.args.row (record { ripple = c.self.inside.core; lefts = c.self.inside.lefts.items; rights = c.self.inside.rights.items })
fed g c =
    let truth = g.M.Matcher.truth c.args.matcher.now in
    row-now Left c.self.view_is c.self.invariant c.args.row c.requires.row truth c.requires.fits c.left_drawn.new.self (c.left_drawn.ensures ∙ ap (λ k. left_drawn k c.self.inside.core) c.left_key-key.ensures)
    (record { ripple = c.find_right.new.core; lefts = c.push.new.self.items; rights = c.self.inside.rights.items })
    (◌∙◌ {A = Ripple} c.in_ok-find_right.ensures.ok (ap (λ rows. found_each (pairs_with truth merge_row rows c.args.row) c.left_drawn.new.self) c.deref.ensures.value))
    (c.push.ensures.items ∙ ap (λ ok. cond ok (c.self.inside.lefts.items ++ c.args.row ∷ []) c.self.inside.lefts.items) c.if-is_err.ensures.negation) refl

pub invariant_of-self-else-is_err : goal.invariant_of-self-else-is_err
invariant_of-self-else-is_err g c = λ alive. subst IsJoined (sym (fed g c)) (row-joined Left c.self.view_is c.self.invariant c.args.row c.requires.row (g.M.Matcher.truth c.args.matcher.now))

pub returns-clause-ok : goal.returns-clause-ok
returns-clause-ok g c = fed g c ∙ ap (fed_left (g.M.Matcher.truth c.args.matcher.now) c.args.row) c.self.view_is

pub returns-clause-fits : goal.returns-clause-fits
returns-clause-fits g c = subst (Fits (g.M.Matcher.truth c.args.matcher.now)) (sym (fed g c)) refl

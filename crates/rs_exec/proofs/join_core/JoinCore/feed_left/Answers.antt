-- The rows of a hash join that match the new one have its join values. Where these are all that is compared, those that have them match it.
use Rattle.std.proofs.Common.{sym, subst}
use Rattle.rs_filter.specs.Matching.{Matching, joins}
use Rattle.rs_hrjn.specs.Hashed.{HaveTheirValues, MatchTheirValues}
use Rattle.rs_exec.proofs.CoreFacts.{take-exact, take-values}
use Rattle.rs_exec.proofs.join_core.JoinCore.feed_left.Goals as goal

pub feed_left-requires-in-Hash-clause-values : goal.feed_left-requires-in-Hash-clause-values
feed_left-requires-in-Hash-clause-values c =
    subst (λ (m : Matching). HaveTheirValues (joins m.catalogue m.block m.left m.right c.args.row) c.in_ok-values-in-Hash.values.items c.in-Hash.core.rights) (sym c.new-matcher.ensures)
    (take-values c.requires c.in-Hash.core c.in-Hash.is c.in_ok-values-in-Hash.values.items c.in_ok-values-in-Hash.ensures)

pub feed_left-requires-in-Hash-clause-exact : goal.feed_left-requires-in-Hash-clause-exact
feed_left-requires-in-Hash-clause-exact c = λ exact.
    subst (λ (m : Matching). MatchTheirValues (joins m.catalogue m.block m.left m.right c.args.row) c.in_ok-values-in-Hash.values.items c.in-Hash.core.rights) (sym c.new-matcher.ensures)
    (take-exact c.requires c.in-Hash.core c.in-Hash.is c.in_ok-values-in-Hash.values.items c.in_ok-values-in-Hash.ensures exact)

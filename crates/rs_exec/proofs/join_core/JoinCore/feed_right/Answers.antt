-- The rows of a hash join that match the new one have its join values. Where these are all that is compared, those that have them match it.
use Rattle.std.proofs.Common.{sym, subst}
use Rattle.rs_filter.specs.Matching.{Matching, joins}
use Rattle.rs_hrjn.specs.Hashed.{HaveTheirValues, MatchTheirValues}
use Rattle.rs_rank.specs.declared.row.RankRow.{RankRow}
use Rattle.rs_exec.proofs.CoreFacts.{take-exact, take-values}
use Rattle.rs_exec.proofs.join_core.JoinCore.feed_right.Goals as goal

pub feed_right-requires-in-Hash-clause-values : goal.feed_right-requires-in-Hash-clause-values
feed_right-requires-in-Hash-clause-values c =
    subst (λ (m : Matching). HaveTheirValues (λ (l : RankRow). joins m.catalogue m.block m.left m.right l c.args.row) c.in_ok-values-in-Hash.values.items c.in-Hash.core.lefts) (sym c.new-matcher.ensures)
    (take-values c.requires c.in-Hash.core c.in-Hash.is c.in_ok-values-in-Hash.values.items c.in_ok-values-in-Hash.ensures)

pub feed_right-requires-in-Hash-clause-exact : goal.feed_right-requires-in-Hash-clause-exact
feed_right-requires-in-Hash-clause-exact c = λ exact.
    subst (λ (m : Matching). MatchTheirValues (λ (l : RankRow). joins m.catalogue m.block m.left m.right l c.args.row) c.in_ok-values-in-Hash.values.items c.in-Hash.core.lefts) (sym c.new-matcher.ensures)
    (take-exact c.requires c.in-Hash.core c.in-Hash.is c.in_ok-values-in-Hash.values.items c.in_ok-values-in-Hash.ensures exact)

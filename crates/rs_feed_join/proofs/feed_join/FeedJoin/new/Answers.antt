-- A join of which nothing is drawn stands, and has given no pair.
use Rattle.std.proofs.Common.{[], false, sym, ap, subst}
use Rattle.rs_feed_join.specs.Joins.{IsKept}
use Rattle.rs_feed_join.specs.Parts.{IsStanding, PartsState, join_state, new_parts}
use Rattle.rs_feed_join.proofs.KeptFacts.{is-kept}
use Rattle.rs_feed_join.proofs.StandFacts.{new-stands-at}
use Rattle.rs_feed_join.proofs.feed_join.FeedJoin.new.Goals as goal

pub invariant_of-result : goal.invariant_of-result
invariant_of-result c = (
  λ e. subst IsStanding (sym c.new.ensures) (record { made = []; at = new-stands-at }),
  λ e f. absurd (cc),
  subst (λ (parts : PartsState). IsKept (join_state parts false false)) (sym c.new.ensures) (is-kept [] new_parts new-stands-at),
)

pub returns : goal.returns
returns c = ap (λ (parts : PartsState). join_state parts false false) c.new.ensures

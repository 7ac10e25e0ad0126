-- A row is given where its values are new.
use Rattle.std.proofs.lemmas.Option.{slice_get_within}
use Rattle.rs_rank.specs.Keys.{key_cmp}
use Rattle.rs_rank.proofs.OrderFacts.{key_cmp-total}
use Rattle.rs_outputs.proofs.DistinctFacts.{dropped-asks, first-next, firsts-more, firsts-same, given-asks}
use Rattle.rs_filter.proofs.DistinctLists.{fed-stands, new-values, old-values}
use Rattle.rs_filter.proofs.distinct_laws.distinct_takes_rows.Goals as goal

pub returns-clause-stands : goal.returns-clause-stands
returns-clause-stands c = λ rows fed d row st e. fed-stands rows fed d row st e

pub returns-clause-gives : goal.returns-clause-gives
returns-clause-gives c = λ rows fed d row st e given.
    (first-next rows fed row e (new-values rows fed d row st given), firsts-more rows fed row e (new-values rows fed d row st given))

pub returns-clause-asks : goal.returns-clause-asks
returns-clause-asks c = λ key rows fed d row climbs st e given. given-asks key_cmp key_cmp-total key rows climbs fed row e (new-values rows fed d row st given)

pub returns-clause-drops : goal.returns-clause-drops
returns-clause-drops c = λ key rows fed d row climbs st e dropped. (
  dropped-asks key_cmp key_cmp-total key rows climbs fed row e (slice_get_within rows fed row e) (old-values rows fed d row st dropped),
  firsts-same rows fed row e (old-values rows fed d row st dropped),
)

-- Outside both masks both sides are 0.
use Rattle.rs_rank.proofs.IdsFacts.{IsIds-merge_ids}
use Rattle.rs_rank.proofs.ids.Ids.merge.Goals as goal

pub returns-clause-ids : goal.returns-clause-ids
returns-clause-ids c = λ sides. rw (c.union.ensures, c.merge_rows.ensures) (IsIds-merge_ids c.args.self.now c.args.other.now sides)

use Rattle.std.proofs.Common.{length}
use Rattle.cases_data.proofs.views.+grow_along.Given as goal

abbrev pub decreases-grow_along : goal.decreases-grow_along
decreases-grow_along g l = length l.inserts.now

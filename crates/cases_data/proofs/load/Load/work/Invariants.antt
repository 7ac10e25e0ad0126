use Rattle.std.proofs.Common.{◌≡◌}
use Rattle.cases_data.specs.Work.{filled, worked}
use Rattle.cases_data.proofs.load.Load.work.Given as goal

-- this many pairs are put in
abbrev pub invariant-loop-pair : goal.invariant-loop-pair
invariant-loop-pair l = l.load ≡ filled l.sizes.held l._pair

-- and this many operations are done
abbrev pub invariant-loop-operation : goal.invariant-loop-operation
invariant-loop-operation l = l.load ≡ worked l.sizes.held l._operation

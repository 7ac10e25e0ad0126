use Rattle.std.proofs.Common.{◌-◌}
use Rattle.rs_sample.proofs.BoundFacts.{AddedFrom}
use Rattle.rs_sample.proofs.bound.add_term.Given as goal

-- the last masks have the term in front
abbrev pub invariant-loop-behind : goal.invariant-loop-behind
invariant-loop-behind l = AddedFrom l.fn.bounds l.bounds l.masks (l.masks - l.behind) l.worth l.most

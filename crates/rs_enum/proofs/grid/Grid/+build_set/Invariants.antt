use Rattle.rs_enum.proofs.grid.Grid.+build_set.Given as goal

-- an operator for a term stands above a plan of fewer terms
abbrev pub decreases-build_set : goal.decreases-build_set
decreases-build_set l = l.evaluated

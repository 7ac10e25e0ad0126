use Rattle.std.proofs.Common.{◌+◌, ◌*◌}
use Rattle.rs_enum.proofs.build.+build.Given as goal

-- what a plan is built of stands at lesser signatures
abbrev pub decreases-build : goal.decreases-build
decreases-build l = 2 * (l.of.entries * 256 + l.of.terms) + 1

abbrev pub decreases-build_sides : goal.decreases-build_sides
decreases-build_sides l = 2 * (l.of.entries * 256 + l.of.terms)

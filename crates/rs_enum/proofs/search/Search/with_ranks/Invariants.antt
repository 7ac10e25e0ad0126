use Rattle.std.proofs.Common.{◌+◌, ◌*◌}
use Rattle.rs_enum.specs.Places.{IsTheFirst}
use Rattle.rs_enum.specs.Given.{cards_in, kept_in, query_in}
use Rattle.rs_enum.proofs.search.Search.with_ranks.Given as goal

-- what is first of all that were tried
abbrev pub invariant-loop-place : goal.invariant-loop-place
invariant-loop-place l = IsTheFirst l.self.planning.catalog.now (query_in l.self) (cards_in l.self) (kept_in l.self) l.of.entries l.of.terms (3 * 256 + (l.place + 1)) l.best

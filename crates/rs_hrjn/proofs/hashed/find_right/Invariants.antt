-- The pairs of the rows at the places that are left give what the pairs at all places give.
use Rattle.std.proofs.Common.{◌≡◌, ◌+◌, ◌≤◌, IsTrue, false, true, drop}
use Rattle.std.specs.List.{AllByRecursion}
use Rattle.rs_hrjn.specs.Hashed.{rows_at}
use Rattle.rs_rank.specs.Rows.{merge_row}
use Rattle.rs_ripple.specs.Pairs.{pairs_with}
use Rattle.rs_ripple.specs.Stands.{CanFindEach, found_each}
use Rattle.rs_hrjn.proofs.hashed.find_right.Given as goal

abbrev pub invariant-loop-place : goal.invariant-loop-place
invariant-loop-place g l = record {
  alive : l.core.spent ≡ false;
  pairs : CanFindEach (pairs_with (g.M.Matcher.truth l.fn.matcher) merge_row (rows_at l.row (drop l.place-index l.places) l.rights) l.row) l.core;
  rest : found_each (pairs_with (g.M.Matcher.truth l.fn.matcher) merge_row (rows_at l.row (drop l.place-index l.places) l.rights) l.row) l.core
      ≡ found_each (pairs_with (g.M.Matcher.truth l.fn.matcher) merge_row (rows_at l.row l.places l.rights) l.row) l.fn.core;
  exact : IsTrue l.exact → AllByRecursion (λ right. g.M.Matcher.truth l.fn.matcher l.row right ≡ true) (rows_at l.row (drop l.place-index l.places) l.rights);
  truth : g.M.Matcher.truth l.matcher ≡ g.M.Matcher.truth l.fn.matcher;
  calls : g.M.Matcher.calls l.matcher ≤ g.M.Matcher.calls l.fn.matcher + l.place-index;
  unasked : IsTrue l.exact → g.M.Matcher.calls l.matcher ≡ g.M.Matcher.calls l.fn.matcher;
}

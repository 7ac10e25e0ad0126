-- The pairs of the rows that are left give what the pairs of all give.
use Rattle.std.proofs.Common.{◌≡◌, ◌+◌, ◌≤◌, false, drop}
use Rattle.rs_rank.specs.Rows.{merge_row}
use Rattle.rs_ripple.specs.Pairs.{pairs_with}
use Rattle.rs_ripple.specs.Stands.{CanFindEach, found_each}
use Rattle.rs_nrjn.proofs.nested.find_right.Given as goal

abbrev pub invariant-loop-right : goal.invariant-loop-right
invariant-loop-right g l = record {
  alive : l.core.spent ≡ false;
  pairs : CanFindEach (pairs_with (g.M.Matcher.truth l.fn.matcher) merge_row (drop l.right-index l.rights) l.row) l.core;
  rest : found_each (pairs_with (g.M.Matcher.truth l.fn.matcher) merge_row (drop l.right-index l.rights) l.row) l.core
      ≡ found_each (pairs_with (g.M.Matcher.truth l.fn.matcher) merge_row l.rights l.row) l.fn.core;
  truth : g.M.Matcher.truth l.matcher ≡ g.M.Matcher.truth l.fn.matcher;
  calls : g.M.Matcher.calls l.matcher ≤ g.M.Matcher.calls l.fn.matcher + l.right-index;
}

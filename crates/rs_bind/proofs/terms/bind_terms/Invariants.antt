use Rattle.std.proofs.Common.{◌≡◌, ◌≤◌, drop, length}
use Rattle.std.specs.Option.{option_copied}
use Rattle.rs_bind.specs.Queries.{terms_of}
use Rattle.rs_bind.proofs.TermSteps.{terms_left}
use Rattle.rs_bind.proofs.terms.bind_terms.Given as goal

abbrev pub invariant-loop-term : goal.invariant-loop-term
invariant-loop-term g l = record {
  few : length l.made.items ≤ 8;
  so_far : terms_left l.catalog (g.C.Columns.finds l.columns) (option_copied l.needed) l.made.items (drop l.term-index l.terms)
      ≡ terms_of l.catalog (g.C.Columns.finds l.columns) (option_copied l.needed) l.terms;
}

-- The columns so far are tied.
use Rattle.std.proofs.Common.{ℕ}
use Rattle.std.specs.List.{AllByRecursion}
use Rattle.rs_rank.specs.Masks.{mask_of}
use Rattle.rs_query.specs.Searching.{AreTied}
use Rattle.rs_query.proofs.block.Block.others.Given as goal

abbrev pub invariant-loop-conjunct : goal.invariant-loop-conjunct
invariant-loop-conjunct l = AllByRecursion (λ (pair : (ℕ × ℕ) × (ℕ × ℕ)). AreTied l.catalog l.self (mask_of l.left.0) l.right.0 pair.0 pair.1) l.others.items

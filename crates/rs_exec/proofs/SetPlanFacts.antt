-- The numbers that stand in the plans of a set query.
use Rattle.std.proofs.Common.{◌-◌, arith}
use Rattle.std.proofs.lemmas.Option.{slice_get_within}
use Rattle.rs_catalog.specs.Catalog.{CatalogDef}
use Rattle.rs_query.specs.WellFormed.{AreSetSides}
use Rattle.rs_query.specs.declared.block.Block.{Block}
use Rattle.rs_plan.specs.Numbers.{HasNumbers}
use Rattle.rs_plan.specs.Plans.{IsSetPlan}
use Rattle.rs_plan.specs.Trees.{Rank, SetOperator, PlanTree}
use Rattle.rs_plan.proofs.DecidingFacts.{part-numbers}

pub set-numbers : (catalogue : CatalogDef) (left right : Block) (tree : PlanTree) → AreSetSides catalogue left right → IsSetPlan catalogue left right tree → HasNumbers tree
set-numbers catalogue left right (Rank term child) sides is =
    let inside = slice_get_within left.terms (term - 1) is.1.term is.1.is_term.there in
    let most = sides.left_block.most_terms in
    (record { some = is.1.is_term.some; within = omega arith }, set-numbers catalogue left right child sides is.0)
set-numbers catalogue left right (SetOperator l r) sides is = (
  part-numbers catalogue left l sides.left_block.most_entries sides.left_block.most_terms is.0.part,
  part-numbers catalogue right r sides.right_block.most_entries sides.right_block.most_terms is.1.part,
)
set-numbers catalogue left right tree sides is = absurd is

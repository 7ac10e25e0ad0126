-- Each pair of columns joins those in which the rows are equal.
use Rattle.std.proofs.Common.{ℕ, suc, ◌≡◌, ◌∙◌, ◌+◌, ◌++◌, List, [], ◌∷◌, get_or, take, sym, ap, subst, arith}
use Rattle.std.specs.List.{AllByRecursion}
use Rattle.std.specs.Prelude.{IfOk}
use Rattle.std.proofs.lemmas.List.{take_all}
use Rattle.std.proofs.lemmas.Option.{slice_get-get_or}
use Rattle.rs_order.proofs.EachFacts.{each-get_or}
use Rattle.rs_order.proofs.PartFacts.{take-snoc}
use Rattle.rs_rank.specs.Masks.{mask_of}
use Rattle.rs_query.specs.Searching.{AreEqualRows, AreTied}
use Rattle.rs_query.proofs.TieFacts.{equated-kinds, rows-of}
use Rattle.rs_query.proofs.block.Block.listed.Goals as goal

pub loop-columns-init : goal.loop-columns-init
loop-columns-init c = c.in_ok-rows.ensures

pub refined-requires-clause-left : goal.refined-requires-clause-left
refined-requires-clause-left c =
    let P = λ (pair : (ℕ × ℕ) × (ℕ × ℕ)). AreTied c.args.catalog.now c.args.self.now (mask_of c.args.left.0) c.args.right.0 pair.0 pair.1 in
    (each-get_or P c.deref-columns-items.result.now c.loop-columns.columns-index ((0, 0), (0, 0)) (subst (AllByRecursion P) (sym c.deref-columns-items.ensures.value) c.in_ok-others.ensures)
    c.loop-columns-test.true).left_column

pub refined-requires-clause-right : goal.refined-requires-clause-right
refined-requires-clause-right c =
    let P = λ (pair : (ℕ × ℕ) × (ℕ × ℕ)). AreTied c.args.catalog.now c.args.self.now (mask_of c.args.left.0) c.args.right.0 pair.0 pair.1 in
    (each-get_or P c.deref-columns-items.result.now c.loop-columns.columns-index ((0, 0), (0, 0)) (subst (AllByRecursion P) (sym c.deref-columns-items.ensures.value) c.in_ok-others.ensures)
    c.loop-columns-test.true).right_column

pub refined-requires-clause-kinds : goal.refined-requires-clause-kinds
refined-requires-clause-kinds c =
    let P = λ (pair : (ℕ × ℕ) × (ℕ × ℕ)). AreTied c.args.catalog.now c.args.self.now (mask_of c.args.left.0) c.args.right.0 pair.0 pair.1 in
    let pair = get_or c.deref-columns-items.result.now c.loop-columns.columns-index ((0, 0), (0, 0)) in
    let tied = each-get_or P c.deref-columns-items.result.now c.loop-columns.columns-index ((0, 0), (0, 0))
    (subst (AllByRecursion P) (sym c.deref-columns-items.ensures.value) c.in_ok-others.ensures) c.loop-columns-test.true in
    (equated-kinds c.args.catalog.now c.args.self.now (mask_of c.args.left.0) c.args.right.0 pair.0 pair.1 c.requires.block tied.equated).2

pub refined-requires-clause-rows : goal.refined-requires-clause-rows
refined-requires-clause-rows c =
    let P = λ (pair : (ℕ × ℕ) × (ℕ × ℕ)). AreTied c.args.catalog.now c.args.self.now (mask_of c.args.left.0) c.args.right.0 pair.0 pair.1 in
    let items = c.deref-columns-items.result.now in
    let pair = get_or items c.loop-columns.columns-index ((0, 0), (0, 0)) in
    let columns = (c.args.left, c.args.right) ∷ take c.loop-columns.columns-index items in
    let tied = each-get_or P items c.loop-columns.columns-index ((0, 0), (0, 0))
    (subst (AllByRecursion P) (sym c.deref-columns-items.ensures.value) c.in_ok-others.ensures) c.loop-columns-test.true in
    (columns, (rows-of c.args.catalog.now c.args.self.now c.args.left c.args.right pair.0 pair.1 columns c.loop-columns.rows c.requires.left.0 tied).0 c.loop-columns.invariant)

pub loop-columns-preserved : goal.loop-columns-preserved
loop-columns-preserved c =
    let P = λ (pair : (ℕ × ℕ) × (ℕ × ℕ)). AreTied c.args.catalog.now c.args.self.now (mask_of c.args.left.0) c.args.right.0 pair.0 pair.1 in
    let items = c.deref-columns-items.result.now in
    let i = c.loop-columns.columns-index in
    let pair : (ℕ × ℕ) × (ℕ × ℕ) = get_or items i ((0, 0), (0, 0)) in
    let columns : List ((ℕ × ℕ) × (ℕ × ℕ)) = (c.args.left, c.args.right) ∷ take i items in
    let next : i + 1 ≡ suc i = omega arith in
    let tied = each-get_or P items i ((0, 0), (0, 0)) (subst (AllByRecursion P) (sym c.deref-columns-items.ensures.value) c.in_ok-others.ensures) c.loop-columns-test.true in
    let old = (rows-of c.args.catalog.now c.args.self.now c.args.left c.args.right pair.0 pair.1 columns c.loop-columns.rows c.requires.left.0 tied).0 c.loop-columns.invariant in
    let new : AreEqualRows c.args.catalog.now c.args.self.now pair.0.0 pair.1.0 (columns ++ pair ∷ []) c.in_ok-rows-2.rows =
    subst (λ r. IfOk r (AreEqualRows c.args.catalog.now c.args.self.now pair.0.0 pair.1.0 (columns ++ pair ∷ []))) c.in_ok-rows-2.was (c.refined.ensures columns old) in
    subst (λ list. AreEqualRows c.args.catalog.now c.args.self.now c.args.left.0 c.args.right.0 ((c.args.left, c.args.right) ∷ list) c.in_ok-rows-2.rows)
    (sym (ap (λ n. take n items) next ∙ take-snoc i items pair (slice_get-get_or items i ((0, 0), (0, 0)) c.loop-columns-test.true)))
    ((rows-of c.args.catalog.now c.args.self.now c.args.left c.args.right pair.0 pair.1 (columns ++ pair ∷ []) c.in_ok-rows-2.rows c.requires.left.0 tied).1 new)

pub returns : goal.returns
returns c = record {
  others = c.in_ok-others.ensures;
  rows = subst (λ list. AreEqualRows c.args.catalog.now c.args.self.now c.args.left.0 c.args.right.0 ((c.args.left, c.args.right) ∷ list) c.loop-columns.rows)
      (take_all c.loop-columns.columns-index c.deref-columns-items.result.now c.loop-columns-test.false ∙ c.deref-columns-items.ensures.value) c.loop-columns.invariant;
}

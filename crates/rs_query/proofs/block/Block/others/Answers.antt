-- The columns that a conjunct equates are two of the block, and join the others.
use Rattle.std.proofs.Common.{ℕ, ◌≡◌, ◌<◌, Vec, Global, length, get_or, sym, subst}
use Rattle.std.specs.List.{AllByRecursion}
use Rattle.rs_order.proofs.EachFacts.{each-push}
use Rattle.rs_rank.specs.Masks.{mask_of}
use Rattle.rs_query.specs.Conjuncts.{ConjunctDef}
use Rattle.rs_query.specs.Searching.{AreTied}
use Rattle.rs_query.proofs.TieFacts.{equated-kinds, equates-at}
use Rattle.rs_query.proofs.block.Block.others.Goals as goal
use Rattle.rs_query.proofs.block.Block.others.Goals.{in-Some+in_ok-push, in_default-other_by}

pub kind-requires-clause-column : goal.kind-requires-clause-column
kind-requires-clause-column c =
    let place = c.loop-conjunct.conjunct-index in
    let conjunct : ConjunctDef = c.conjunct-item.result in
    let is : conjunct ≡ get_or c.args.self.now.conjuncts place conjunct = rw (c.deref-conjunct-items.ensures.value, c.items.ensures) at c.conjunct-item.is in
    let within : place < length c.args.self.now.conjuncts = rw (c.deref-conjunct-items.ensures.value, c.items.ensures) at c.loop-conjunct-test.true in
    let equated = equates-at c.args.self.now (mask_of c.args.left.0) c.args.right.0 place conjunct c.in-Some.columns.0 c.in-Some.columns.1 within is c.in-Some.ensures in
    (equated-kinds c.args.catalog.now c.args.self.now (mask_of c.args.left.0) c.args.right.0 c.in-Some.columns.0 c.in-Some.columns.1 c.requires.block equated).0

pub kind-requires-in-Some-clause-column : goal.kind-requires-in-Some-clause-column
kind-requires-in-Some-clause-column c =
    let place = c.loop-conjunct.conjunct-index in
    let conjunct : ConjunctDef = c.conjunct-item.result in
    let is : conjunct ≡ get_or c.args.self.now.conjuncts place conjunct = rw (c.deref-conjunct-items.ensures.value, c.items.ensures) at c.conjunct-item.is in
    let within : place < length c.args.self.now.conjuncts = rw (c.deref-conjunct-items.ensures.value, c.items.ensures) at c.loop-conjunct-test.true in
    let equated = equates-at c.args.self.now (mask_of c.args.left.0) c.args.right.0 place conjunct c.in-Some.columns.0 c.in-Some.columns.1 within is c.in-Some.ensures in
    (equated-kinds c.args.catalog.now c.args.self.now (mask_of c.args.left.0) c.args.right.0 c.in-Some.columns.0 c.in-Some.columns.1 c.requires.block equated).1

pub loop-conjunct-preserved : goal.loop-conjunct-preserved
loop-conjunct-preserved c =
    let place = c.loop-conjunct.conjunct-index in
    let conjunct : ConjunctDef = c.conjunct-item.result in
    let is : conjunct ≡ get_or c.args.self.now.conjuncts place conjunct = rw (c.deref-conjunct-items.ensures.value, c.items.ensures) at c.conjunct-item.is in
    let within : place < length c.args.self.now.conjuncts = rw (c.deref-conjunct-items.ensures.value, c.items.ensures) at c.loop-conjunct-test.true in
    elim c.match-other_by.branch [
      | in-Some+in_ok-push w ↦
          let equated = equates-at c.args.self.now (mask_of c.args.left.0) c.args.right.0 place conjunct w.in-Some.columns.0 w.in-Some.columns.1 within is w.in-Some.ensures in
          let kinds = equated-kinds c.args.catalog.now c.args.self.now (mask_of c.args.left.0) c.args.right.0 w.in-Some.columns.0 w.in-Some.columns.1 c.requires.block equated in
          subst
          (λ (v : Vec ((ℕ × ℕ) × (ℕ × ℕ)) Global).
          AllByRecursion (λ (pair : (ℕ × ℕ) × (ℕ × ℕ)). AreTied c.args.catalog.now c.args.self.now (mask_of c.args.left.0) c.args.right.0 pair.0 pair.1) v.items)
          (sym w.others-is)
          (subst (AllByRecursion (λ (pair : (ℕ × ℕ) × (ℕ × ℕ)). AreTied c.args.catalog.now c.args.self.now (mask_of c.args.left.0) c.args.right.0 pair.0 pair.1)) (sym w.in_ok-push.ensures.items)
          (each-push (λ (pair : (ℕ × ℕ) × (ℕ × ℕ)). AreTied c.args.catalog.now c.args.self.now (mask_of c.args.left.0) c.args.right.0 pair.0 pair.1) c.loop-conjunct.others.items w.in-Some.columns
          c.loop-conjunct.invariant
          (record { left_column = kinds.0; right_column = kinds.1; left_kind = w.kind.ensures.cells; right_kind = w.kind-in-Some.ensures.cells; equated = equated })))
      | in_default-other_by w ↦
          subst
          (λ (v : Vec ((ℕ × ℕ) × (ℕ × ℕ)) Global).
          AllByRecursion (λ (pair : (ℕ × ℕ) × (ℕ × ℕ)). AreTied c.args.catalog.now c.args.self.now (mask_of c.args.left.0) c.args.right.0 pair.0 pair.1) v.items)
          (sym w.others-is) c.loop-conjunct.invariant
    ]

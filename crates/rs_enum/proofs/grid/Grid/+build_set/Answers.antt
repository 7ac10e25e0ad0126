-- A plan is built as its choice says.
use Rattle.std.proofs.Common.{◌≡◌, ◌∙◌, ◌^◌, ◌<◌, length, refl, sym, ap, subst, arith, bit_xor}
use Rattle.std.specs.Prelude.{Some}
use Rattle.std.proofs.lemmas.Option.{same_Some}
use Rattle.rs_query.specs.declared.block.Block.{Block}
use Rattle.rs_plan.specs.Shapes.{tree_of}
use Rattle.rs_plan.specs.Trees.{PlanTree, Rank, SetOperator}
use Rattle.rs_enum.specs.declared.candidate.Choice.TheVariants as choice
use Rattle.rs_enum.specs.Given.{block_at, complete_of}
use Rattle.rs_enum.specs.Grids.{GridPlans, IsSetSearched}
use Rattle.rs_enum.specs.Tops.{plan_of}
use Rattle.rs_plan.specs.declared.plan.Plan.{Plan}
use Rattle.rs_enum.proofs.GridFacts.{if_ok-map}
use Rattle.rs_enum.proofs.SetFacts.{base-parts, plan-there, set-at, set-there}
use Rattle.rs_enum.proofs.grid.Grid.+build_set.Goals as goal

pub mask_of-requires-clause-least : goal.mask_of-requires-clause-least
mask_of-requires-clause-least t c =
    let b = set-at c.args.planning.now c.args.self.now.left.places c.args.self.now.right.places c.args.self.now.both
    (2 ^ length (block_at c.args.planning.now 1).terms) c.requires.searched.both c.args.evaluated c.requires.evaluated c.len-count.result c.deref.result.now
    c.candidate_at.result c.unwrap-found.result (choice.Rank c.in-Rank.term) (c.len-count.ensures ∙ ap (λ (b : Block). length b.terms) c.block_in.ensures) (c.deref.ensures.value ∙ ap (λ (g : GridPlans). g.both) c.self.view_is)
    c.candidate_at.ensures c.unwrap-found.ensures c.in-Rank.is in
    b.built.2.some

pub mask_of-requires-clause-most : goal.mask_of-requires-clause-most
mask_of-requires-clause-most t c =
    let b = set-at c.args.planning.now c.args.self.now.left.places c.args.self.now.right.places c.args.self.now.both
    (2 ^ length (block_at c.args.planning.now 1).terms) c.requires.searched.both c.args.evaluated c.requires.evaluated c.len-count.result c.deref.result.now
    c.candidate_at.result c.unwrap-found.result (choice.Rank c.in-Rank.term) (c.len-count.ensures ∙ ap (λ (b : Block). length b.terms) c.block_in.ensures) (c.deref.ensures.value ∙ ap (λ (g : GridPlans). g.both) c.self.view_is)
    c.candidate_at.ensures c.unwrap-found.ensures c.in-Rank.is in
    b.built.2.most

pub build_set-requires : goal.build_set-requires
build_set-requires t c =
    let b = set-at c.args.planning.now c.args.self.now.left.places c.args.self.now.right.places c.args.self.now.both
    (2 ^ length (block_at c.args.planning.now 1).terms) c.requires.searched.both c.args.evaluated c.requires.evaluated c.len-count.result c.deref.result.now
    c.candidate_at.result c.unwrap-found.result (choice.Rank c.in-Rank.term) (c.len-count.ensures ∙ ap (λ (b : Block). length b.terms) c.block_in.ensures) (c.deref.ensures.value ∙ ap (λ (g : GridPlans). g.both) c.self.view_is)
    c.candidate_at.ensures c.unwrap-found.ensures c.in-Rank.is in
    let less : bit_xor c.args.evaluated c.mask_of.result < c.args.evaluated =
    subst (λ m. bit_xor c.args.evaluated m < c.args.evaluated) (sym c.mask_of.ensures) b.built.2.less in
    let small = c.requires.evaluated in
    let below : bit_xor c.args.evaluated c.mask_of.result < 2 ^ length (block_at c.args.planning.now 1).terms = omega arith in
    let there = set-there c.args.planning.now c.args.self.now.left.places c.args.self.now.right.places c.args.self.now.both
    (2 ^ length (block_at c.args.planning.now 1).terms) c.requires.searched.both (bit_xor c.args.evaluated c.mask_of.result) below b.built.0
    ((λ i. plan_of (c.requires.searched.both.view (bit_xor c.args.evaluated (c.mask_of.ensures i)))) ∙ b.built.2.there) in
    (omega (arith, c.decreases), (c.requires.planning, (c.requires.searched, (below, (there, c.requires.both)))))

pub build_both-requires : goal.build_both-requires
build_both-requires t c =
    let b = set-at c.args.planning.now c.args.self.now.left.places c.args.self.now.right.places c.args.self.now.both
    (2 ^ length (block_at c.args.planning.now 1).terms) c.requires.searched.both c.args.evaluated c.requires.evaluated c.len-count.result c.deref.result.now
    c.candidate_at.result c.unwrap-found.result c.unwrap-found.result.choice (c.len-count.ensures ∙ ap (λ (b : Block). length b.terms) c.block_in.ensures) (c.deref.ensures.value ∙ ap (λ (g : GridPlans). g.both) c.self.view_is)
    c.candidate_at.ensures c.unwrap-found.ensures refl in
    let parts = base-parts (complete_of c.args.planning.now 1 c.args.self.now.left.places) (complete_of c.args.planning.now 2 c.args.self.now.right.places)
    c.requires.searched.both.view c.args.evaluated c.unwrap-found.result.choice b.plan c.in_default.not-Rank b.built in
    record {
      planning = c.requires.planning;
      searched = c.requires.searched;
      evaluated = c.requires.evaluated;
      left = plan-there (complete_of c.args.planning.now 1 c.args.self.now.left.places c.args.evaluated) parts.0 parts.3;
      right = plan-there (complete_of c.args.planning.now 2 c.args.self.now.right.places c.args.evaluated) parts.1 parts.4;
      both = c.requires.both;
    }

pub returns-in_ok-child-in-Rank : goal.returns-in_ok-child-in-Rank
returns-in_ok-child-in-Rank t c =
    if_ok-map (λ (plan : Plan). tree_of plan ≡ Rank c.in-Rank.term (tree_of c.in_ok-child-in-Rank.child))
    (λ (plan : Plan). (is : IsSetSearched c.args.planning.now c.args.self.now) → plan_of (is.both.view c.args.evaluated) ≡ Some (tree_of plan))
    (λ plan same is.
    let b = set-at c.args.planning.now c.args.self.now.left.places c.args.self.now.right.places c.args.self.now.both
    (2 ^ length (block_at c.args.planning.now 1).terms) is.both c.args.evaluated c.requires.evaluated c.len-count.result c.deref.result.now
    c.candidate_at.result c.unwrap-found.result (choice.Rank c.in-Rank.term) (c.len-count.ensures ∙ ap (λ (b : Block). length b.terms) c.block_in.ensures) (c.deref.ensures.value ∙ ap (λ (g : GridPlans). g.both) c.self.view_is)
    c.candidate_at.ensures c.unwrap-found.ensures c.in-Rank.is in
    let child : b.built.0 ≡ tree_of c.in_ok-child-in-Rank.child =
    same_Some b.built.0 (tree_of c.in_ok-child-in-Rank.child) (sym b.built.2.there
    ∙ (λ i. plan_of (is.both.view (bit_xor c.args.evaluated (sym c.mask_of.ensures i)))) ∙ c.in_ok-child-in-Rank.ensures is) in
    b.is ∙ ap Some (b.built.1 ∙ ap (Rank c.in-Rank.term) child ∙ sym same))
    c.rank.result c.rank.ensures

pub returns-in_default : goal.returns-in_default
returns-in_default t c =
    if_ok-map (λ (plan : Plan). (l r : PlanTree) → plan_of (complete_of c.args.planning.now 1 c.args.self.now.left.places c.args.evaluated) ≡ Some l
    → plan_of (complete_of c.args.planning.now 2 c.args.self.now.right.places c.args.evaluated) ≡ Some r → tree_of plan ≡ SetOperator l r)
    (λ (plan : Plan). (is : IsSetSearched c.args.planning.now c.args.self.now) → plan_of (is.both.view c.args.evaluated) ≡ Some (tree_of plan))
    (λ plan made is.
    let b = set-at c.args.planning.now c.args.self.now.left.places c.args.self.now.right.places c.args.self.now.both
    (2 ^ length (block_at c.args.planning.now 1).terms) is.both c.args.evaluated c.requires.evaluated c.len-count.result c.deref.result.now
    c.candidate_at.result c.unwrap-found.result c.unwrap-found.result.choice (c.len-count.ensures ∙ ap (λ (b : Block). length b.terms) c.block_in.ensures) (c.deref.ensures.value ∙ ap (λ (g : GridPlans). g.both) c.self.view_is)
    c.candidate_at.ensures c.unwrap-found.ensures refl in
    let parts = base-parts (complete_of c.args.planning.now 1 c.args.self.now.left.places) (complete_of c.args.planning.now 2 c.args.self.now.right.places)
    is.both.view c.args.evaluated c.unwrap-found.result.choice b.plan c.in_default.not-Rank b.built in
    b.is ∙ ap Some (parts.2 ∙ sym (made parts.0 parts.1 parts.3 parts.4)))
    c.build_both.result c.build_both.ensures

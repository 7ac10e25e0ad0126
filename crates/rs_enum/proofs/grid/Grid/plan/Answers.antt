-- What is built of all terms is the least plan.
use Rattle.std.proofs.Common.{◌≡◌, ◌∙◌, ◌^◌, length, sym, ap, subst, arith}
use Rattle.std.specs.Prelude.{IsSome, Some}
use Rattle.std.proofs.lemmas.Nat.{pow_pos}
use Rattle.std.proofs.lemmas.Option.{same_Some}
use Rattle.rs_query.specs.Answers.{all_terms}
use Rattle.rs_query.specs.declared.block.Block.{Block}
use Rattle.rs_query.specs.declared.query.Query.{Query}
use Rattle.rs_sample.specs.Kept.{cards_of}
use Rattle.rs_plan.specs.Shapes.{tree_of}
use Rattle.rs_plan.specs.declared.plan.Plan.{Plan}
use Rattle.rs_enum.specs.Given.{block_at, complete_of, top_row}
use Rattle.rs_enum.specs.Grids.{GridPlans, IsSearchedFor, IsSetSearched}
use Rattle.rs_enum.specs.Least.{IsLeast}
use Rattle.rs_enum.specs.Made.{kept_plans}
use Rattle.rs_enum.specs.Places.{candidate_at, kept_at}
use Rattle.rs_enum.specs.Tops.{extent_of, plan_of}
use Rattle.rs_enum.proofs.GridFacts.{if_ok-map, one-least, set-least}
use Rattle.rs_enum.proofs.SetFacts.{plan-there, set-there}
use Rattle.rs_enum.proofs.grid.Grid.plan.Goals as goal

pub build_complete-requires-clause-found : goal.build_complete-requires-clause-found
build_complete-requires-clause-found c =
    let is = subst (λ (q : Query). IsSearchedFor q c.args.planning.now c.args.self.now) c.in-One.is c.requires.searched in
    let least = one-least c.args.planning.now c.requires.planning c.args.self.now.left.places is.left.found (ap extent_of c.in-One.is) in
    let some = plan-there (complete_of c.args.planning.now 1 c.args.self.now.left.places (all_terms (block_at c.args.planning.now 1))) least.kept.plan (ap plan_of least.is) in
    subst (λ (b : Block). IsSome (kept_at (length b.terms) (kept_plans b.terms c.deref.result.now) (top_row b) c.all_terms-all.result)) (sym c.block_in-block.ensures)
    (subst (λ n. IsSome (kept_at (length (block_at c.args.planning.now 1).terms) (kept_plans (block_at c.args.planning.now 1).terms c.deref.result.now) (top_row (block_at c.args.planning.now 1)) n))
    (sym (c.all_terms-all.ensures ∙ ap all_terms c.block_in-block.ensures))
    (subst (λ xs. IsSome (kept_at (length (block_at c.args.planning.now 1).terms) (kept_plans (block_at c.args.planning.now 1).terms xs) (top_row (block_at c.args.planning.now 1))
    (all_terms (block_at c.args.planning.now 1)))) (sym (c.deref.ensures.value ∙ ap (λ (g : GridPlans). g.left.places) c.self.view_is)) some))

pub build_set-requires-clause-found : goal.build_set-requires-clause-found
build_set-requires-clause-found c =
    let is = subst (λ (q : Query). IsSearchedFor q c.args.planning.now c.args.self.now) c.in-Set.is c.requires.searched in
    let least = set-least c.args.planning.now c.requires.planning c.args.self.now.left.places c.args.self.now.right.places c.args.self.now.both is.both
    (ap extent_of c.in-Set.is) in
    let some = pow_pos (length (block_at c.args.planning.now 1).terms) in
    subst (λ n. IsSome (candidate_at (length (block_at c.args.planning.now 1).terms) c.args.self.now.both 0 n))
    (sym (c.all_terms-all.ensures ∙ ap all_terms c.block_in-block.ensures))
    (set-there c.args.planning.now c.args.self.now.left.places c.args.self.now.right.places c.args.self.now.both
    (2 ^ length (block_at c.args.planning.now 1).terms) is.both (all_terms (block_at c.args.planning.now 1)) (omega arith) least.kept.plan (ap plan_of least.is))

pub returns-in-One : goal.returns-in-One
returns-in-One c =
    let is = subst (λ (q : Query). IsSearchedFor q c.args.planning.now c.args.self.now) c.in-One.is c.requires.searched in
    let least = one-least c.args.planning.now c.requires.planning c.args.self.now.left.places is.left.found (ap extent_of c.in-One.is) in
    if_ok-map (λ (plan : Plan). plan_of (kept_at (length c.block_in-block.result.now.terms) (kept_plans c.block_in-block.result.now.terms c.deref.result.now)
    (top_row c.block_in-block.result.now) c.all_terms-all.result) ≡ Some (tree_of plan))
    (λ (plan : Plan). IsLeast c.args.planning.now.catalog.now c.args.planning.now.query.now (cards_of c.args.planning.now.cards.now) (tree_of plan))
    (λ plan at.
    let there : Some (tree_of plan) ≡ Some least.kept.plan =
    sym at
    ∙ (λ i. plan_of (kept_at (length (c.block_in-block.ensures i).terms) (kept_plans (c.block_in-block.ensures i).terms ((c.deref.ensures.value ∙ ap (λ (g : GridPlans). g.left.places) c.self.view_is) i))
    (top_row (c.block_in-block.ensures i)) ((c.all_terms-all.ensures ∙ ap all_terms c.block_in-block.ensures) i)))
    ∙ ap plan_of least.is in
    subst (IsLeast c.args.planning.now.catalog.now c.args.planning.now.query.now (cards_of c.args.planning.now.cards.now))
    (sym (same_Some (tree_of plan) least.kept.plan there)) least.least)
    c.build_complete.result c.build_complete.ensures

pub returns-in-Set : goal.returns-in-Set
returns-in-Set c =
    let is = subst (λ (q : Query). IsSearchedFor q c.args.planning.now c.args.self.now) c.in-Set.is c.requires.searched in
    let least = set-least c.args.planning.now c.requires.planning c.args.self.now.left.places c.args.self.now.right.places c.args.self.now.both is.both
    (ap extent_of c.in-Set.is) in
    if_ok-map (λ (plan : Plan). (is : IsSetSearched c.args.planning.now c.args.self.now) → plan_of (is.both.view c.all_terms-all.result) ≡ Some (tree_of plan))
    (λ (plan : Plan). IsLeast c.args.planning.now.catalog.now c.args.planning.now.query.now (cards_of c.args.planning.now.cards.now) (tree_of plan))
    (λ plan at.
    let there : Some (tree_of plan) ≡ Some least.kept.plan =
    sym (at is) ∙ ap (λ n. plan_of (is.both.view n)) (c.all_terms-all.ensures ∙ ap all_terms c.block_in-block.ensures) ∙ ap plan_of least.is in
    subst (IsLeast c.args.planning.now.catalog.now c.args.planning.now.query.now (cards_of c.args.planning.now.cards.now))
    (sym (same_Some (tree_of plan) least.kept.plan there)) least.least)
    c.build_set.result c.build_set.ensures

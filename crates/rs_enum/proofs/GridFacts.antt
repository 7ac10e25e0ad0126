-- What a grid says of each signature, and that the plan of all terms is the least one.
use Rattle.std.proofs.Common.{◌≡◌, inl, inr, ℕ, ◌^◌, ◌<◌, ◌≤◌, ◌==◌, Bool, false, true, nat_lt, List, [], length, refl, sym, ap, subst, arith}
use Rattle.std.specs.Prelude.{IfOk, Option, None, Result, Ok, Err, if◌then◌else◌}
use Rattle.std.proofs.lemmas.Bool.{eqb-false, eqb-true, ltb-false, ltb-true}
use Rattle.rs_query.specs.declared.query.Query.{Query}
use Rattle.rs_query.specs.declared.query.Query.TheVariants.{One, Set}
use Rattle.rs_sample.specs.Kept.{cards_of}
use Rattle.rs_enum.specs.declared.candidate.Candidate.{Candidate}
use Rattle.rs_enum.specs.declared.extent.Extent.{Extent}
use Rattle.rs_enum.specs.declared.extent.Extent.TheVariants as whole
use Rattle.rs_enum.specs.declared.planning.Planning.{Planning}
use Rattle.rs_enum.specs.Given.{AreFound, AreSetFound, AreTopsOf, CanPlan, block_at, complete_of}
use Rattle.rs_enum.specs.Grids.{BlockPlans, GridPlans, IsGridOf, IsSearched, IsSearchedFor, cost_at, cost_within}
use Rattle.rs_enum.specs.LeastCosts.{HasBlock, HasCost}
use Rattle.rs_enum.specs.Places.{candidate_at}
use Rattle.rs_enum.specs.Tops.{extent_of}
use Rattle.rs_enum.proofs.MadeFacts.{found_cost}
use Rattle.rs_enum.proofs.SidesFacts.{KeepsLeast, keeps-least}
use Rattle.rs_enum.proofs.WithinFacts.{entries-below, terms-below}

-- where nothing was found
pub cost-empty : (grid : BlockPlans) → grid.places ≡ [] → (first second : ℕ) → cost_within grid first second ≡ None
cost-empty grid empty first second = go (nat_lt first (2 ^ grid.entries)) (nat_lt second (2 ^ grid.terms)) where
  go : (x y : Bool) → (if x then (if y then found_cost (candidate_at grid.terms grid.places first second) else None) else None) ≡ None
  go true true = ap (λ xs. found_cost (candidate_at grid.terms xs first second)) empty
  go true false = refl
  go false y = refl

module _ (planning : Planning) where
  abbrev CostsAre : ℕ → ℕ → ℕ → Option ℕ → Type 0
  CostsAre number first second cost = HasCost planning.catalog.now planning.query.now (cards_of planning.cards.now) number first second cost

  -- the costs of a block, also of masks that aren't there
  within-costs : (number : ℕ) (grid : BlockPlans) → IsGridOf planning number grid → (first second : ℕ)
      → CostsAre number first second (cost_within grid first second)
  within-costs number grid is first second = go (nat_lt first (2 ^ grid.entries)) (nat_lt second (2 ^ grid.terms)) refl refl where
    go : (x y : Bool) → nat_lt first (2 ^ grid.entries) ≡ x → nat_lt second (2 ^ grid.terms) ≡ y
        → CostsAre number first second (if x then (if y then found_cost (candidate_at grid.terms grid.places first second) else None) else None)
    go true true row column =
        subst (λ n. CostsAre number first second (found_cost (candidate_at n grid.places first second))) (sym is.terms)
        (is.found.costs first second (subst (λ n. first < 2 ^ n) is.entries (ltb-true first (2 ^ grid.entries) row))
        (subst (λ n. second < 2 ^ n) is.terms (ltb-true second (2 ^ grid.terms) column)))
    go true false row column = λ other of.
        let no = subst (λ n. 2 ^ n ≤ second) is.terms (ltb-false second (2 ^ grid.terms) column) in
        let below = terms-below planning.catalog.now (block_at planning number) other of.part in
        let same = of.its_terms in
        omega arith
    go false y row column = λ other of.
        let no = subst (λ n. 2 ^ n ≤ first) is.entries (ltb-false first (2 ^ grid.entries) row) in
        let below = entries-below planning.catalog.now (block_at planning number) other of.part in
        let same = of.its_entries in
        omega arith

  module _ (grid : GridPlans) (first second : ℕ) where
    first-grid : (query : Query) → IsSearchedFor query planning grid → IsGridOf planning 1 grid.left
    first-grid (One block limit) is = is.left
    first-grid (Set op l r limit) is = is.left

    second-costs : (query : Query) → planning.query.now ≡ query → IsSearchedFor query planning grid → CostsAre 2 first second (cost_within grid.right first second)
    second-costs (One block limit) e is =
        subst (CostsAre 2 first second) (sym (cost-empty grid.right is.empty first second))
        (λ other of. let one : 2 ≡ 1 = subst (λ q. HasBlock q 2) e of.block in omega arith)
    second-costs (Set op l r limit) e is = within-costs 2 grid.right is.right first second

    neither : (query : Query) (number : ℕ) → (number ≡ 1 → ⊥) → (number ≡ 2 → ⊥) → HasBlock query number → ⊥
    neither (One block limit) number no_one no_two is = no_one is
    neither (Set op l r limit) number no_one no_two is = elim is [
      | inl one ↦ no_one one
      | inr two ↦ no_two two
    ]

    pub grid-costs : IsSearched planning grid → (number : ℕ) → CostsAre number first second (cost_at grid number first second)
    grid-costs is number = go (number == 1) (number == 2) refl refl where
      go : (x y : Bool) → (number == 1) ≡ x → (number == 2) ≡ y
          → CostsAre number first second (if x then cost_within grid.left first second else (if y then cost_within grid.right first second else None))
      go true y one two =
          subst (λ n. CostsAre n first second (cost_within grid.left first second)) (sym (eqb-true number 1 one))
          (within-costs 1 grid.left (first-grid planning.query.now is) first second)
      go false true one two =
          subst (λ n. CostsAre n first second (cost_within grid.right first second)) (sym (eqb-true number 2 two))
          (second-costs planning.query.now refl is)
      go false false one two = λ other of. neither planning.query.now number (eqb-false number 1 one) (eqb-false number 2 two) of.block

  -- the plan of all terms is the least one
  pub one-least : CanPlan planning → (places : List (Option Candidate)) → AreFound planning 1 places → extent_of planning.query.now ≡ whole.Block 1
      → KeepsLeast planning.catalog.now planning.query.now (cards_of planning.cards.now) (complete_of planning 1 places)
  one-least can places found is =
      keeps-least planning.catalog.now planning.query.now (cards_of planning.cards.now) (complete_of planning 1 places) can.query
      (subst (λ (e : Extent). AreTopsOf planning e (2 ^ length (block_at planning 1).terms) (complete_of planning 1 places)) (sym is) found.tops)

  pub set-least : CanPlan planning → (left right both : List (Option Candidate))
      → (found : AreSetFound planning left right both (2 ^ length (block_at planning 1).terms)) → extent_of planning.query.now ≡ whole.Both
      → KeepsLeast planning.catalog.now planning.query.now (cards_of planning.cards.now) found.view
  set-least can left right both found is =
      keeps-least planning.catalog.now planning.query.now (cards_of planning.cards.now) found.view can.query
      (subst (λ (e : Extent). AreTopsOf planning e (2 ^ length (block_at planning 1).terms) found.view) (sym is) found.tops)

-- what holds of an answer holds of another word for it
pub if_ok-map : {A E : Type 0} (P Q : A → Type 0) → ((a : A) → P a → Q a) → (r : Result A E) → IfOk r P → IfOk r Q
if_ok-map P Q f (Ok a) is = f a is
if_ok-map P Q f (Err e) is = tt

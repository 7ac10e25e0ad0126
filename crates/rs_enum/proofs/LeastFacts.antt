-- The first of all plans is the least plan.
use Rattle.std.proofs.Common.{◌≡◌, Bool, true, false, cond, List, [], ◌∷◌, refl, sym, ap, subst, inl, inr}
use Rattle.std.specs.Prelude.{Some, unwrap_or}
use Rattle.std.specs.Cmp.{IsTotalOrder}
use Rattle.std.specs.Ordering.{is_gt, ordering_reverse}
use Rattle.std.specs.declared.cmp.Ordering.{Ordering}
use Rattle.std.specs.declared.cmp.Ordering.TheVariants.{Less, Equal, Greater}
use Rattle.std.proofs.lemmas.Cmp.{tied_itself, upto}
use Rattle.rs_order.specs.Climbing.{In}
use Rattle.rs_catalog.specs.Catalog.{CatalogDef}
use Rattle.rs_query.specs.WellFormed.{IsQuery}
use Rattle.rs_query.specs.declared.query.Query.{Query}
use Rattle.rs_sample.specs.Cards.{BlockCards}
use Rattle.rs_plan.specs.Plans.{IsPlan}
use Rattle.rs_plan.specs.Trees.{PlanTree, SeqScan}
use Rattle.rs_enum.specs.AllPlans.{all_plans}
use Rattle.rs_enum.specs.Least.{IsLeast, first_from, first_of, least_plan, plan_cmp}
use Rattle.rs_enum.proofs.AllPlansFacts.{In-plans, In-plans-back, In-plans-shared}
use Rattle.rs_enum.proofs.ExistenceFacts.{some-plan}
use Rattle.rs_enum.proofs.OrderOfPlans.{plans-total}

not-both : (o p : Ordering) → p ≡ ordering_reverse o → is_gt o ≡ true → is_gt p ≡ false
not-both Less p e gt = absurd (cc)
not-both Equal p e gt = absurd (cc)
not-both Greater p e gt = ap is_gt e

-- the item that comes no later than any other one
record IsFirstOf {X : Type 0} (cmp : X → X → Ordering) (xs : List X) : Type 0 where
  first : X
  is : first_of cmp xs ≡ Some first
  is_in : In first xs
  no_later : (z : X) → In z xs → is_gt (cmp first z) ≡ false

module _ {X : Type 0} (cmp : X → X → Ordering) (total : IsTotalOrder cmp) where
  abbrev earlier : X → X → X
  earlier a b = cond (is_gt (cmp a b)) b a

  earlier-left : (a b : X) → is_gt (cmp (earlier a b) a) ≡ false
  earlier-left a b = go (is_gt (cmp a b)) refl where
    go : (t : Bool) → is_gt (cmp a b) ≡ t → is_gt (cmp (cond t b a) a) ≡ false
    go true e = not-both (cmp a b) (cmp b a) (total.antisymm b a) e
    go false e = ap is_gt (tied_itself total a)

  earlier-right : (a b : X) → is_gt (cmp (earlier a b) b) ≡ false
  earlier-right a b = go (is_gt (cmp a b)) refl where
    go : (t : Bool) → is_gt (cmp a b) ≡ t → is_gt (cmp (cond t b a) b) ≡ false
    go true e = ap is_gt (tied_itself total b)
    go false e = e

  first_from-best : (best : X) (xs : List X) → is_gt (cmp (first_from cmp best xs) best) ≡ false
  first_from-best best [] = ap is_gt (tied_itself total best)
  first_from-best best (x ∷ xs) =
      upto total (first_from cmp (earlier best x) xs) (earlier best x) best (first_from-best (earlier best x) xs) (earlier-left best x)

  first_from-all : (best : X) (xs : List X) (z : X) → In z xs → is_gt (cmp (first_from cmp best xs) z) ≡ false
  first_from-all best [] z h = absurd h
  first_from-all best (x ∷ xs) z h = elim h [
    | inl e ↦
        subst (λ y. is_gt (cmp (first_from cmp (earlier best x) xs) y) ≡ false) (sym e)
        (upto total (first_from cmp (earlier best x) xs) (earlier best x) x (first_from-best (earlier best x) xs) (earlier-right best x))
    | inr behind ↦ first_from-all (earlier best x) xs z behind
  ]

  first_from-in : (best : X) (xs : List X) → In (first_from cmp best xs) (best ∷ xs)
  first_from-in best [] = inl refl
  first_from-in best (x ∷ xs) = elim (first_from-in (earlier best x) xs) [
    | inl e ↦ go (is_gt (cmp best x)) e
    | inr behind ↦ inr (inr behind)
  ] where
    go : (t : Bool) → first_from cmp (earlier best x) xs ≡ cond t x best → In (first_from cmp (earlier best x) xs) (best ∷ x ∷ xs)
    go true e = inr (inl e)
    go false e = inl e

  first_of-first : (xs : List X) (z : X) → In z xs → IsFirstOf cmp xs
  first_of-first [] z h = absurd h
  first_of-first (x ∷ xs) z h = record {
    first = first_from cmp x xs;
    is = refl;
    is_in = first_from-in x xs;
    no_later = λ y is. elim is [
      | inl e ↦ subst (λ w. is_gt (cmp (first_from cmp x xs) w) ≡ false) (sym e) (first_from-best x xs)
      | inr behind ↦ first_from-all x xs y behind
    ];
  }

pub least-found : (catalogue : CatalogDef) (query : Query) (cards : List BlockCards) → IsQuery catalogue query → IsLeast catalogue query cards (least_plan catalogue query cards)
unfolding least_plan
least-found catalogue query cards q =
    let some = some-plan catalogue query q in
    let first = first_of-first (plan_cmp catalogue query cards) (plans-total catalogue query cards) (all_plans catalogue query) some.0
    (In-plans catalogue query some.0 q some.1) in
    subst (IsLeast catalogue query cards) (sym (ap (λ o. unwrap_or o (SeqScan 1)) first.is))
    (record {
      plan = In-plans-back catalogue query first.first first.is_in;
      first = λ other is. first.no_later other (In-plans catalogue query other q is);
    })

-- it is a plan of a query that may be not well formed, where each plan of some well formed query is a plan of that query too
pub plan-found : (catalogue : CatalogDef) (query formed : Query) (cards : List BlockCards) → IsQuery catalogue formed
    → ((tree : PlanTree) → IsPlan catalogue formed tree → IsPlan catalogue query tree) → IsPlan catalogue query (least_plan catalogue query cards)
unfolding least_plan
plan-found catalogue query formed cards q shared =
    let some = some-plan catalogue formed q in
    let first = first_of-first (plan_cmp catalogue query cards) (plans-total catalogue query cards) (all_plans catalogue query) some.0
    (In-plans-shared catalogue query formed some.0 q some.1 (shared some.0 some.1)) in
    subst (IsPlan catalogue query) (sym (ap (λ o. unwrap_or o (SeqScan 1)) first.is)) (In-plans-back catalogue query first.first first.is_in)

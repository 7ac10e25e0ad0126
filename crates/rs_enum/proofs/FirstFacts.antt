-- The first of all trees of a kind is found by trying one start after another, where an earlier start is an earlier code.
use Rattle.std.proofs.Common.{◌≡◌, ◌⊎◌, inl, inr, ℕ, ◌+◌, ◌<◌, ◌≤◌, Bool, false, true, nat_lt, cond, refl, arith}
use Rattle.std.specs.Prelude.{Option, Some, None}
use Rattle.std.specs.Ordering.{is_gt}
use Rattle.std.proofs.lemmas.Bool.{ltb-false, ltb-true}
use Rattle.rs_plan.specs.Trees.{PlanTree, code, code_cmp}
use Rattle.rs_enum.specs.declared.candidate.Candidate.{Candidate}
use Rattle.rs_enum.specs.Firsts.{IsTheFirstBelow, IsTheOneAt, NoLaterBy}
use Rattle.rs_enum.specs.Places.{cheaper}
use Rattle.rs_enum.proofs.OrderOfPlans.{by_value-first, by_value-less, by_value-on}

pub less-or-equal : (x y : ℕ) → x < y + 1 → (x < y) ⊎ (x ≡ y)
less-or-equal x y h = go (nat_lt x y) refl where
  go : (b : Bool) → nat_lt x y ≡ b → (x < y) ⊎ (x ≡ y)
  go true e = inl (ltb-true x y e)
  go false e = inr (let no = ltb-false x y e in omega arith)

module _ (Of : PlanTree → Type 0) (Stands : Candidate → PlanTree → Type 0) (value start : PlanTree → ℕ) where
  -- no tree starts in between
  pub first-wider : (bound wider : ℕ) (found : Option Candidate) → bound ≤ wider
      → ((other : PlanTree) → Of other → bound ≤ start other → start other < wider → ⊥)
      → IsTheFirstBelow Of Stands value start bound found → IsTheFirstBelow Of Stands value start wider found
  first-wider bound wider None more lacks none = λ other is below. go other is below (nat_lt (start other) bound) refl where
    go : (other : PlanTree) → Of other → start other < wider → (b : Bool) → nat_lt (start other) bound ≡ b → ⊥
    go other is below true e = none other is (ltb-true (start other) bound e)
    go other is below false e = lacks other is (ltb-false (start other) bound e) below
  first-wider bound wider (Some found) more lacks first = record {
    tree = first.tree;
    stands = first.stands;
    below = (let less = first.below in omega arith);
    no_later = λ other is below. go other is below (nat_lt (start other) bound) refl;
  } where
    go : (other : PlanTree) → Of other → start other < wider → (b : Bool) → nat_lt (start other) bound ≡ b → NoLaterBy value first.tree other
    go other is below true e = first.no_later other is (ltb-true (start other) bound e)
    go other is below false e = absurd (lacks other is (ltb-false (start other) bound e) below)

  module _ (of : (found : Candidate) (tree : PlanTree) → Stands found tree → Of tree)
      (costs : (found : Candidate) (tree : PlanTree) → Stands found tree → found.cost ≡ value tree)
      (codes : (a b : PlanTree) → Of a → Of b → start a < start b → is_gt (code_cmp (code a) (code b)) ≡ false) where
    -- what was found so far, and what starts next
    pub first-cheaper : (bound : ℕ) (best next : Option Candidate) → IsTheFirstBelow Of Stands value start bound best
        → IsTheOneAt Of Stands value start bound next → IsTheFirstBelow Of Stands value start (bound + 1) (cheaper best next)
    first-cheaper bound None None none lacks = λ other is below. elim (less-or-equal (start other) bound below) [
      | inl less ↦ none other is less
      | inr at ↦ lacks other is at
    ]
    first-cheaper bound None (Some next) none one = record {
      tree = one.tree;
      stands = one.stands;
      below = (let at = one.starts in omega arith);
      no_later = λ other is below. elim (less-or-equal (start other) bound below) [
        | inl less ↦ absurd (none other is less)
        | inr at ↦ one.no_later other is at
      ];
    }
    first-cheaper bound (Some best) None first lacks = record {
      tree = first.tree;
      stands = first.stands;
      below = (let less = first.below in omega arith);
      no_later = λ other is below. elim (less-or-equal (start other) bound below) [
        | inl less ↦ first.no_later other is less
        | inr at ↦ absurd (lacks other is at)
      ];
    }
    first-cheaper bound (Some best) (Some next) first one = go (nat_lt next.cost best.cost) refl where
      go : (b : Bool) → nat_lt next.cost best.cost ≡ b → IsTheFirstBelow Of Stands value start (bound + 1) (cond b (Some next) (Some best))
      go true less_is =
          let less = ltb-true next.cost best.cost less_is in
          let own = costs next one.tree one.stands in
          let other_cost = costs best first.tree first.stands in
          let before : NoLaterBy value one.tree first.tree = by_value-less value one.tree first.tree (omega arith) in
          record {
            tree = one.tree;
            stands = one.stands;
            below = (let at = one.starts in omega arith);
            no_later = λ other is below. elim (less-or-equal (start other) bound below) [
              | inl earlier ↦ by_value-on value one.tree first.tree other before (first.no_later other is earlier)
              | inr at ↦ one.no_later other is at
            ];
          }
      go false less_is =
          let no_less = ltb-false next.cost best.cost less_is in
          let own = costs next one.tree one.stands in
          let other_cost = costs best first.tree first.stands in
          let starts = one.starts in
          let below = first.below in
          let order = codes first.tree one.tree (of best first.tree first.stands) (of next one.tree one.stands) (omega arith) in
          let before : NoLaterBy value first.tree one.tree = by_value-first value first.tree one.tree (omega arith) order in
          record {
            tree = first.tree;
            stands = first.stands;
            below = omega arith;
            no_later = λ other is less. elim (less-or-equal (start other) bound less) [
              | inl earlier ↦ first.no_later other is earlier
              | inr at ↦ by_value-on value first.tree one.tree other before (one.no_later other is at)
            ];
          }

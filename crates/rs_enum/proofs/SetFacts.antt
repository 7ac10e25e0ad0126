-- What is found of the set operator of both blocks, one mask of terms after another.
use Rattle.std.proofs.Common.{◌≡◌, ◌∙◌, inl, inr, ℕ, ◌+◌, ◌*◌, ◌^◌, ◌<◌, ◌≤◌, ◌==◌, Bool, false, true, List, [], ◌∷◌, ◌++◌, length, refl, sym, ap, subst, arith, bit_xor}
use Rattle.std.specs.Prelude.{IsSome, Option, Some, None, option_and_then, slice_get, if◌then◌else◌}
use Rattle.std.proofs.lemmas.Bool.{eq-eqb, eqb-true}
use Rattle.std.proofs.lemmas.Option.{none-some, same_Some}
use Rattle.rs_rank.specs.Masks.{mask_of}
use Rattle.rs_query.specs.Blocks.{block_in}
use Rattle.rs_query.specs.declared.query.Query.{Query}
use Rattle.rs_sample.specs.Cards.{BlockCards}
use Rattle.rs_sample.specs.Kept.{cards_of}
use Rattle.rs_plan.specs.Trees.{SetOperator, PlanTree}
use Rattle.rs_enum.specs.declared.candidate.Candidate.{Candidate}
use Rattle.rs_enum.specs.declared.candidate.Choice.{Choice}
use Rattle.rs_enum.specs.declared.candidate.Choice.TheVariants as choice
use Rattle.rs_enum.specs.declared.extent.Extent.{Extent}
use Rattle.rs_enum.specs.declared.extent.Extent.TheVariants as whole
use Rattle.rs_enum.specs.declared.row.Row.{Row}
use Rattle.rs_enum.specs.declared.planning.Planning.{Planning}
use Rattle.rs_enum.specs.Given.{AreSetFound, AreTopsIn, AreTopsOf, CanPlan, IsSetBuilt, IsSetBuiltOf, block_at, complete_of}
use Rattle.rs_enum.specs.Places.{Placed, candidate_at}
use Rattle.rs_enum.specs.Tops.{FitsWhole, IsMadeTop, IsTheFirstTop, IsTheTop, IsWhole, number_of, plan_of, set_base, whole_cost}
use Rattle.rs_enum.proofs.FoundFacts.{candidate-front}
use Rattle.rs_enum.proofs.MadeFacts.{found_cost, kept_cost, unmapped}
use Rattle.rs_enum.proofs.PlaceFacts.{last-item}
use Rattle.rs_enum.proofs.FirstFacts.{less-or-equal}
use Rattle.rs_enum.proofs.TopFacts.{first-more, first-none, kept-found, kept-none}

-- what is kept of one mask more
abbrev pub with_new : (ℕ → Option Placed) → ℕ → Option Placed → ℕ → Option Placed
with_new view count new other = (if other == count then new else view other)

new-here : (view : ℕ → Option Placed) (count : ℕ) (new : Option Placed) → with_new view count new count ≡ new
new-here view count new = ap (λ b. (if b then new else view count)) (eq-eqb count count refl)

new-before : (view : ℕ → Option Placed) (count : ℕ) (new : Option Placed) (other : ℕ) → other < count → with_new view count new other ≡ view other
new-before view count new other less = go (other == count) refl where
  go : (b : Bool) → (other == count) ≡ b → with_new view count new other ≡ view other
  go true e = absurd (let same = eqb-true other count e in omega arith)
  go false e = ap (λ b. (if b then new else view other)) e

-- a plan stays built where one mask more is kept
set-stays : (left right view : ℕ → Option Placed) (count : ℕ) (new : Option Placed) (other : ℕ) → other ≤ count → (chosen : Choice) (plan : PlanTree)
    → IsSetBuiltOf left right view other chosen plan → IsSetBuiltOf left right (with_new view count new) other chosen plan
set-stays left right view count new other most (choice.Rank t) plan is = (
  is.0,
  is.1,
  record {
    there = ap plan_of (new-before view count new (bit_xor other (mask_of t)) (let less = is.2.less in omega arith)) ∙ is.2.there;
    less = is.2.less;
    some = is.2.some;
    most = is.2.most;
  },
)
set-stays left right view count new other most choice.Base plan is = is
set-stays left right view count new other most (choice.SeqScan e) plan is = is
set-stays left right view count new other most (choice.RankScan e t i) plan is = is
set-stays left right view count new other most (choice.HashJoin n) plan is = is
set-stays left right view count new other most (choice.NestedJoin n) plan is = is

-- what is found above the set operator is built of what is kept of fewer terms, or of both blocks
set-built : (query : Query) (cards : List BlockCards) (left right view : ℕ → Option Placed) (evaluated : ℕ) (chosen : Choice) (tree : PlanTree)
    → IsMadeTop (set_base query cards evaluated (left evaluated) (right evaluated)) view evaluated chosen tree
    → IsSetBuiltOf left right view evaluated chosen tree
set-built query cards left right view evaluated (choice.Rank t) tree made = made
set-built query cards left right view evaluated choice.Base tree made = go (left evaluated) (right evaluated) refl refl made where
  go : (x y : Option Placed) → left evaluated ≡ x → right evaluated ≡ y → plan_of (set_base query cards evaluated x y) ≡ Some tree
      → IsSetBuiltOf left right view evaluated choice.Base tree
  go None y at_left at_right is = absurd (none-some tree is)
  go (Some k) None at_left at_right is = absurd (none-some tree is)
  go (Some k) (Some m) at_left at_right is =
      (k.plan, m.plan, sym (same_Some (SetOperator k.plan m.plan) tree is), ap plan_of at_left, ap plan_of at_right)
set-built query cards left right view evaluated (choice.SeqScan e) tree made = absurd made
set-built query cards left right view evaluated (choice.RankScan e t i) tree made = absurd made
set-built query cards left right view evaluated (choice.HashJoin n) tree made = absurd made
set-built query cards left right view evaluated (choice.NestedJoin n) tree made = absurd made

module _ (planning : Planning) (can : CanPlan planning) (left right : List (Option Candidate)) where
  pub set-none : (both : List (Option Candidate)) → AreSetFound planning left right both 0
  set-none both = record {
    view = λ other. None;
    tops = first-none (IsWhole planning.catalog.now planning.query.now whole.Both)
        (whole_cost planning.catalog.now planning.query.now (cards_of planning.cards.now) whole.Both) (FitsWhole planning.query.now whole.Both) (λ other. None);
    costs = λ e less. absurd (omega arith);
    built = λ e found less is. absurd (omega arith);
  }

  module _ (both : List (Option Candidate)) (count : ℕ) (is : AreSetFound planning left right both count) (counted : length both ≡ count)
      (found : Option Candidate)
      (first : IsTheFirstTop planning.catalog.now planning.query.now (cards_of planning.cards.now) whole.Both
      (set_base planning.query.now (cards_of planning.cards.now) count (complete_of planning 1 left count) (complete_of planning 2 right count))
      is.view count 10 found) where
    -- what is kept of the mask
    record IsNew (new : Option Placed) : Type 0 where
      top : IsTheTop planning.catalog.now planning.query.now (cards_of planning.cards.now) whole.Both count new
      cost : kept_cost new ≡ found_cost found
      built : (f : Candidate) → found ≡ Some f
          → (plan : PlanTree) × (plan_of new ≡ Some plan) × IsSetBuiltOf (complete_of planning 1 left) (complete_of planning 2 right) is.view count f.choice plan

    new : (new : Option Placed) × IsNew new
    new = go found refl first where
      go : (o : Option Candidate) → found ≡ o
          → IsTheFirstTop planning.catalog.now planning.query.now (cards_of planning.cards.now) whole.Both
          (set_base planning.query.now (cards_of planning.cards.now) count (complete_of planning 1 left count) (complete_of planning 2 right count))
          is.view count 10 o → (new : Option Placed) × IsNew new
      go None none one = (
        None,
        record {
          top = kept-none planning.catalog.now planning.query.now can.query (cards_of planning.cards.now) whole.Both tt
              (set_base planning.query.now (cards_of planning.cards.now) count (complete_of planning 1 left count) (complete_of planning 2 right count))
              is.view count one;
          cost = sym (ap found_cost none);
          built = λ f there. absurd (none-some f (sym none ∙ there));
        },
      )
      go (Some g) there one =
          let k : Placed = record { cost = g.cost; plan = one.tree } in (
            Some k,
            record {
              top = kept-found planning.catalog.now planning.query.now can.query (cards_of planning.cards.now) whole.Both tt
                  (set_base planning.query.now (cards_of planning.cards.now) count (complete_of planning 1 left count) (complete_of planning 2 right count))
                  is.view count k g one refl one.stands.made;
              cost = sym (ap found_cost there);
              built = λ f same. (
                one.tree,
                refl,
                subst (λ (c : Candidate). IsSetBuiltOf (complete_of planning 1 left) (complete_of planning 2 right) is.view count c.choice one.tree)
                    (same_Some g f (sym there ∙ same))
                    (set-built planning.query.now (cards_of planning.cards.now) (complete_of planning 1 left) (complete_of planning 2 right) is.view count g.choice one.tree one.stands.made),
              );
            },
          )

    front : (e : ℕ) → e < count → candidate_at (length (block_at planning 1).terms) (both ++ found ∷ []) 0 e ≡ candidate_at (length (block_at planning 1).terms) both 0 e
    front e less = candidate-front (length (block_at planning 1).terms) both found 0 e (omega arith)

    back : candidate_at (length (block_at planning 1).terms) (both ++ found ∷ []) 0 count ≡ found
    back =
        let place : 0 * 2 ^ length (block_at planning 1).terms + count ≡ length both = omega arith in
        ap (λ n. option_and_then (λ (c : Option Candidate). c) (slice_get (both ++ found ∷ []) n)) place
        ∙ ap (λ o. option_and_then (λ (c : Option Candidate). c) o) (last-item both found)

    pub set-next : AreSetFound planning left right (both ++ found ∷ []) (count + 1)
    set-next = record {
      view = with_new is.view count new.0;
      tops = first-more (IsWhole planning.catalog.now planning.query.now whole.Both)
          (whole_cost planning.catalog.now planning.query.now (cards_of planning.cards.now) whole.Both) (FitsWhole planning.query.now whole.Both) count
          is.view (with_new is.view count new.0) (new-before is.view count new.0) is.tops
          (subst (IsTheTop planning.catalog.now planning.query.now (cards_of planning.cards.now) whole.Both count) (sym (new-here is.view count new.0)) new.1.top);
      costs = λ e within. elim (less-or-equal e count within) [
        | inl less ↦ ap kept_cost (new-before is.view count new.0 e less) ∙ is.costs e less ∙ ap found_cost (sym (front e less))
        | inr last ↦ subst (λ n. kept_cost (with_new is.view count new.0 n) ≡ found_cost (candidate_at (length (block_at planning 1).terms) (both ++ found ∷ []) 0 n))
            (sym last) (ap kept_cost (new-here is.view count new.0) ∙ new.1.cost ∙ ap found_cost (sym back))
      ];
      built = λ e f within there. elim (less-or-equal e count within) [
        | inl less ↦ (let own = is.built e f less (sym (front e less) ∙ there) in
            record {
              plan = own.plan;
              is = ap plan_of (new-before is.view count new.0 e less) ∙ own.is;
              built = set-stays (complete_of planning 1 left) (complete_of planning 2 right) is.view count new.0 e (omega arith) f.choice own.plan own.built;
            })
        | inr last ↦ (let here : found ≡ Some f =
            sym back ∙ ap (candidate_at (length (block_at planning 1).terms) (both ++ found ∷ []) 0) (sym last) ∙ there in
            let own = new.1.built f here in
            subst (λ n. IsSetBuilt (complete_of planning 1 left) (complete_of planning 2 right) (with_new is.view count new.0) n f.choice) (sym last) (record {
              plan = own.0;
              is = ap plan_of (new-here is.view count new.0) ∙ own.1;
              built = set-stays (complete_of planning 1 left) (complete_of planning 2 right) is.view count new.0 count (omega arith) f.choice own.0 own.2;
            }))
      ];
    }

-- plans that have the set operator, as a search above them needs them
pub tops-of-set : (row : Row) (left right both : List (Option Candidate)) (count : ℕ) → row.extent ≡ whole.Both → row.entries ≡ 0 → row.places.now ≡ both
    → (found : AreSetFound row.planning left right both count) → AreTopsIn row count found.view
tops-of-set row left right both count extent entries places found = record {
  tops = subst (λ (e : Extent). AreTopsOf row.planning e count found.view) (sym extent) found.tops;
  costs = λ other less.
      found.costs other less
      ∙ (λ i. found_cost (candidate_at (length (block_in row.planning.query.now (number_of (sym extent i))).terms) (sym places i) (sym entries i) other));
}

module _ (planning : Planning) (left right both : List (Option Candidate)) (count : ℕ) (are : AreSetFound planning left right both count) (evaluated : ℕ)
    (within : evaluated < count) where
  -- what is built where this choice was found
  pub set-at : (size : ℕ) (items : List (Option Candidate)) (o : Option Candidate) (found : Candidate) (chosen : Choice)
      → size ≡ length (block_at planning 1).terms → items ≡ both → o ≡ candidate_at size items 0 evaluated → o ≡ Some found → found.choice ≡ chosen
      → IsSetBuilt (complete_of planning 1 left) (complete_of planning 2 right) are.view evaluated chosen
  set-at size items o found chosen sized same is there chosen_is =
      subst (IsSetBuilt (complete_of planning 1 left) (complete_of planning 2 right) are.view evaluated) chosen_is
      (are.built evaluated found within (sym (is ∙ (λ i. candidate_at (sized i) (same i) 0 evaluated)) ∙ there))

  -- where a plan is kept, there is a choice
  pub set-there : (tree : PlanTree) → plan_of (are.view evaluated) ≡ Some tree → IsSome (candidate_at (length (block_at planning 1).terms) both 0 evaluated)
  set-there tree is = go (candidate_at (length (block_at planning 1).terms) both 0 evaluated) refl where
    go : (o : Option Candidate) → candidate_at (length (block_at planning 1).terms) both 0 evaluated ≡ o → IsSome o
    go (Some f) there = refl
    go None there =
        let none = unmapped (λ (k : Placed). k.cost) (are.view evaluated) (are.costs evaluated within ∙ ap found_cost there) in
        absurd (none-some tree (sym (ap plan_of none) ∙ is))

-- a plan without an operator for a term at the root is made of those of both blocks
pub base-parts : (left right tops : ℕ → Option Placed) (evaluated : ℕ) (chosen : Choice) (plan : PlanTree) → ((t : ℕ) → chosen ≡ choice.Rank t → ⊥)
    → IsSetBuiltOf left right tops evaluated chosen plan → IsSetBuiltOf left right tops evaluated choice.Base plan
base-parts left right tops evaluated (choice.Rank t) plan not_rank is = absurd (not_rank t refl)
base-parts left right tops evaluated choice.Base plan not_rank is = is
base-parts left right tops evaluated (choice.SeqScan e) plan not_rank is = is
base-parts left right tops evaluated (choice.RankScan e t i) plan not_rank is = is
base-parts left right tops evaluated (choice.HashJoin n) plan not_rank is = is
base-parts left right tops evaluated (choice.NestedJoin n) plan not_rank is = is

-- a plan is kept there
pub plan-there : (kept : Option Placed) (tree : PlanTree) → plan_of kept ≡ Some tree → IsSome kept
plan-there (Some k) tree is = refl
plan-there None tree is = absurd (none-some tree is)

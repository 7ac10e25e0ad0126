-- What is kept of the set operator of both blocks, and that the last of all that is kept is the least plan.
use Rattle.std.proofs.Common.{◌≡◌, ◌∙◌, ℕ, ◌+◌, ◌^◌, ◌<◌, ◌≤◌, List, ◌++◌, length, refl, sym, ap, subst, arith}
use Rattle.std.specs.Prelude.{Option, Some, None}
use Rattle.std.proofs.lemmas.Nat.{pow_pos}
use Rattle.std.proofs.lemmas.Option.{none-some, same_Some}
use Rattle.rs_value.specs.declared.set_op.SetOp.{SetOp}
use Rattle.rs_catalog.specs.Catalog.{CatalogDef}
use Rattle.rs_query.specs.Answers.{all_terms}
use Rattle.rs_query.specs.Tables.{all_entries}
use Rattle.rs_query.specs.WellFormed.{IsQuery}
use Rattle.rs_query.specs.declared.block.Block.{Block}
use Rattle.rs_query.specs.declared.query.Query.{Query}
use Rattle.rs_query.specs.declared.query.Query.TheVariants.{One, Set}
use Rattle.rs_sample.specs.Cards.{BlockCards}
use Rattle.rs_query.specs.Blocks.{block_in}
use Rattle.rs_plan.specs.Plans.{IsComplete, IsPlan}
use Rattle.rs_plan.specs.Trees.{Distinct, JoinOperator, PlanTree, Rank, RankScan, SeqScan, SetOperator, code, terms}
use Rattle.rs_enum.specs.declared.extent.Extent.TheVariants as extent
use Rattle.rs_enum.specs.Costs.{cost_in, estimate_of}
use Rattle.rs_enum.specs.Least.{IsLeast}
use Rattle.rs_enum.specs.Places.{Placed}
use Rattle.rs_enum.specs.QueryCards.{cards_at}
use Rattle.rs_enum.specs.Firsts.{NoLaterBy}
use Rattle.rs_enum.specs.Tops.{AreTops, IsBase, IsExtent, IsTheBase, IsWhole, KeepsTop, extent_of, number_of, set_base, whole_cost, whole_rows}
use Rattle.rs_enum.proofs.BoundFacts.{most-sides}
use Rattle.rs_enum.proofs.CostFacts.{all-small, numbered}
use Rattle.rs_enum.proofs.ExistenceFacts.{some-plan}
use Rattle.rs_enum.proofs.OrderOfPlans.{by_value-more, by_value-on, estimate-part, left-codes, right-codes, same-front}

module _ (catalogue : CatalogDef) (op : SetOp) (l r : Block) (limit : Option ℕ) (q : IsQuery catalogue (Set op l r limit)) (cards : List BlockCards)
    (count : ℕ) (lefts rights : ℕ → Option Placed)
    (are_left : AreTops catalogue (Set op l r limit) cards (extent.Block 1) count lefts) (are_right : AreTops catalogue (Set op l r limit) cards (extent.Block 2) count rights) (e : ℕ)
    (within : e < count) where
  record AreBoth (other : PlanTree) : Type 0 where
    a : PlanTree
    b : PlanTree
    is : other ≡ SetOperator a b
    left : IsComplete catalogue l a
    right : IsComplete catalogue r b
    agree : terms a ≡ terms b

  both-of : (other : PlanTree) → IsBase catalogue (Set op l r limit) extent.Both other → AreBoth other
  both-of (Rank t child) is = absurd (let nine : t ≡ 9 = is.1 in
      let most = (numbered l t is.0.1.term is.0.1.is_term).most in
      let few : length l.terms ≤ 8 = q.0.left_block.most_terms in
      omega arith)
  both-of (SetOperator a b) is = record { a = a; b = b; is = refl; left = is.0.0; right = is.0.1; agree = is.0.2 }
  both-of (SeqScan n) is = absurd is.0
  both-of (RankScan n t i) is = absurd is.0
  both-of (JoinOperator kind a b) is = absurd is.0
  both-of (Distinct child) is = absurd is.0

  keeps-left : (other : PlanTree) → (x : AreBoth other) → terms other ≡ e → KeepsTop (cost_in catalogue (Set op l r limit) cards 1) lefts x.a
  keeps-left other x same = are_left.first x.a x.left (subst (λ n. n < count) (sym (sym (ap terms x.is) ∙ same)) within)

  keeps-right : (other : PlanTree) → (x : AreBoth other) → terms other ≡ e → KeepsTop (cost_in catalogue (Set op l r limit) cards 2) rights x.b
  keeps-right other x same =
      are_right.first x.b x.right (subst (λ n. n < count) (sym (sym x.agree ∙ sym (ap terms x.is) ∙ same)) within)

  left-rows : (tree : PlanTree) → IsComplete catalogue l tree → terms tree ≡ e → estimate_of cards 1 tree ≡ (cards_at cards 1).estimate (all_entries l) e
  left-rows tree is same =
      estimate-part catalogue (Set op l r limit) cards l 1 tree (terms tree) is.part ∙ (λ i. (cards_at cards 1).estimate (is.all i) (same i))

  right-rows : (tree : PlanTree) → IsComplete catalogue r tree → terms tree ≡ e → estimate_of cards 2 tree ≡ (cards_at cards 2).estimate (all_entries r) e
  right-rows tree is same =
      estimate-part catalogue (Set op l r limit) cards r 2 tree (terms tree) is.part ∙ (λ i. (cards_at cards 2).estimate (is.all i) (same i))

  pub both-base : ((k m : Placed) → lefts e ≡ Some k → rights e ≡ Some m
      → (whole_rows (Set op l r limit) cards (extent.Block 1) e ≤ 2 ^ 102) × (whole_rows (Set op l r limit) cards (extent.Block 2) e ≤ 2 ^ 102))
      → IsTheBase catalogue (Set op l r limit) cards extent.Both e (set_base (Set op l r limit) cards e (lefts e) (rights e))
  both-base few = go (lefts e) (rights e) refl refl where
    go : (x y : Option Placed) → lefts e ≡ x → rights e ≡ y → IsTheBase catalogue (Set op l r limit) cards extent.Both e (set_base (Set op l r limit) cards e x y)
    go None y none at = λ other is same.
        let x = both-of other is in
        let keeps = keeps-left other x same in
        none-some keeps.kept (sym none ∙ ap lefts (sym (sym (ap terms x.is) ∙ same)) ∙ keeps.is)
    go (Some k) None at none = λ other is same.
        let x = both-of other is in
        let keeps = keeps-right other x same in
        none-some keeps.kept (sym none ∙ ap rights (sym (sym x.agree ∙ sym (ap terms x.is) ∙ same)) ∙ keeps.is)
    go (Some k) (Some m) at_left at_right =
        let first = are_left.kept e k within at_left in
        let second = are_right.kept e m within at_right in
        let first_fits = first.fits in
        let second_fits = second.fits in
        let rows = few k m at_left at_right in
        let left_few = rows.0 in
        let right_few = rows.1 in
        let most = most-sides (all_entries l) (all_entries r) e (all-small l q.0.left_block.most_entries) (all-small r q.0.right_block.most_entries) in
        record {
          top = record {
            is = ((first.is, second.is, first.its_terms ∙ sym second.its_terms), refl);
            its_terms = first.its_terms;
            its_cost = λ i. first.its_cost i + second.its_cost i + sym (left-rows k.plan first.is first.its_terms) i
                + sym (right-rows m.plan second.is second.its_terms) i;
            fits = omega arith;
          };
          no_later = λ other is same.
              let x = both-of other is in
              let left_terms : terms x.a ≡ e = sym (ap terms x.is) ∙ same in
              let right_terms : terms x.b ≡ e = sym x.agree ∙ left_terms in
              let a_keeps = keeps-left other x same in
              let b_keeps = keeps-right other x same in
              let a_there : a_keeps.kept ≡ k = same_Some a_keeps.kept k (sym (ap lefts (sym left_terms) ∙ a_keeps.is) ∙ at_left) in
              let b_there : b_keeps.kept ≡ m = same_Some b_keeps.kept m (sym (ap rights (sym right_terms) ∙ b_keeps.is) ∙ at_right) in
              let value = cost_in catalogue (Set op l r limit) cards 1 in
              let value_right = cost_in catalogue (Set op l r limit) cards 2 in
              let earlier_left : NoLaterBy value k.plan x.a = subst (λ (n : Placed). NoLaterBy value n.plan x.a) a_there a_keeps.no_later in
              let earlier_right : NoLaterBy value_right m.plan x.b = subst (λ (n : Placed). NoLaterBy value_right n.plan x.b) b_there b_keeps.no_later in
              let left_own = left-rows k.plan first.is first.its_terms in
              let left_other = left-rows x.a x.left left_terms in
              let right_own = right-rows m.plan second.is second.its_terms in
              let right_other = right-rows x.b x.right right_terms in
              subst (NoLaterBy value (SetOperator k.plan m.plan)) (sym x.is)
              (by_value-on value (SetOperator k.plan m.plan) (SetOperator x.a m.plan) (SetOperator x.a x.b)
              (by_value-more value value k.plan x.a (SetOperator k.plan m.plan) (SetOperator x.a m.plan)
              (value_right m.plan + (cards_at cards 1).estimate (all_entries l) e + estimate_of cards 2 m.plan)
              (omega arith) (omega arith)
              (same-front 7 (code k.plan ++ code m.plan) (code x.a ++ code m.plan) ∙ left-codes k.plan x.a m.plan) earlier_left)
              (by_value-more value_right value m.plan x.b (SetOperator x.a m.plan) (SetOperator x.a x.b)
              (value x.a + estimate_of cards 1 x.a + (cards_at cards 2).estimate (all_entries r) e)
              (omega arith) (omega arith)
              (same-front 7 (code x.a ++ code m.plan) (code x.a ++ code x.b) ∙ right-codes x.a m.plan x.b) earlier_right));
        }

-- what is kept of all terms is the least plan
pub record KeepsLeast (catalogue : CatalogDef) (query : Query) (cards : List BlockCards) (tops : ℕ → Option Placed) : Type 0 where
  pub kept : Placed
  pub is : tops (all_terms (block_in query 1)) ≡ Some kept
  pub least : IsLeast catalogue query cards kept.plan

plan-whole : (catalogue : CatalogDef) (query : Query) (tree : PlanTree) → IsPlan catalogue query tree
    → IsWhole catalogue query (extent_of query) tree × (terms tree ≡ all_terms (block_in query 1))
plan-whole catalogue (One block limit) tree is = is
plan-whole catalogue (Set op l r limit) tree is = is

whole-plan : (catalogue : CatalogDef) (query : Query) (tree : PlanTree) → IsWhole catalogue query (extent_of query) tree → terms tree ≡ all_terms (block_in query 1)
    → IsPlan catalogue query tree
whole-plan catalogue (One block limit) tree is same = (is, same)
whole-plan catalogue (Set op l r limit) tree is same = (is, same)

first-number : (query : Query) → number_of (extent_of query) ≡ 1
first-number (One block limit) = refl
first-number (Set op l r limit) = refl

pub keeps-least : (catalogue : CatalogDef) (query : Query) (cards : List BlockCards) (tops : ℕ → Option Placed) → IsQuery catalogue query
    → AreTops catalogue query cards (extent_of query) (2 ^ length (block_in query 1).terms) tops → KeepsLeast catalogue query cards tops
keeps-least catalogue query cards tops q are =
    let power : 0 < 2 ^ length (block_in query 1).terms = pow_pos (length (block_in query 1).terms) in
    let p = some-plan catalogue query q in
    let own = plan-whole catalogue query p.0 p.1 in
    let within : terms p.0 < 2 ^ length (block_in query 1).terms = (let same = own.1 in omega arith) in
    let keeps = are.first p.0 own.0 within in
    let top = are.kept (terms p.0) keeps.kept within keeps.is in
    record {
      kept = keeps.kept;
      is = ap tops (sym own.1) ∙ keeps.is;
      least = record {
        plan = whole-plan catalogue query keeps.kept.plan top.is (top.its_terms ∙ own.1);
        first = λ other is.
            let w = plan-whole catalogue query other is in
            let less : terms other < 2 ^ length (block_in query 1).terms = (let same = w.1 in omega arith) in
            let k = are.first other w.0 less in
            let there : k.kept ≡ keeps.kept = same_Some k.kept keeps.kept (sym k.is ∙ ap tops (w.1 ∙ sym own.1) ∙ keeps.is) in
            subst (λ n. NoLaterBy (cost_in catalogue query cards n) keeps.kept.plan other) (first-number query)
            (subst (λ (x : Placed). NoLaterBy (whole_cost catalogue query cards (extent_of query)) x.plan other) there k.no_later);
      };
    }

-- the same of any query that has two blocks
pub sides-base : (catalogue : CatalogDef) (query : Query) → IsQuery catalogue query → (cards : List BlockCards) → IsExtent query cards extent.Both
    → (count : ℕ) (lefts rights : ℕ → Option Placed) → AreTops catalogue query cards (extent.Block 1) count lefts
    → AreTops catalogue query cards (extent.Block 2) count rights → (e : ℕ) → e < count
    → ((k m : Placed) → lefts e ≡ Some k → rights e ≡ Some m
    → (whole_rows query cards (extent.Block 1) e ≤ 2 ^ 102) × (whole_rows query cards (extent.Block 2) e ≤ 2 ^ 102))
    → IsTheBase catalogue query cards extent.Both e (set_base query cards e (lefts e) (rights e))
sides-base catalogue (One block limit) q cards both count lefts rights are_left are_right e within few = absurd both
sides-base catalogue (Set op l r limit) q cards both count lefts rights are_left are_right e within few =
    both-base catalogue op l r limit q cards count lefts rights are_left are_right e within few

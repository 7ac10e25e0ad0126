-- Plans of all entries: what stands below an operator for a term, how many rows are expected, and the order of codes.
use Rattle.std.proofs.Common.{◌≡◌, ◌∙◌, ◌⊎◌, inl, inr, ℕ, ◌+◌, ◌*◌, ◌^◌, ◌<◌, ◌≤◌, false, List, length, refl, sym, ap, subst, arith, bit_or}
use Rattle.std.specs.Cmp.{nat_cmp_is}
use Rattle.std.specs.Ordering.{is_gt, ordering_then}
use Rattle.std.specs.declared.cmp.Ordering.TheVariants.{Less}
use Rattle.std.proofs.Math.Nat.{pow-le-pow_right}
use Rattle.rs_rank.specs.Masks.{mask_of}
use Rattle.rs_catalog.specs.Catalog.{CatalogDef}
use Rattle.rs_query.specs.Tables.{all_entries}
use Rattle.rs_query.specs.WellFormed.{IsQuery}
use Rattle.rs_query.specs.declared.query.Query.{Query}
use Rattle.rs_query.specs.declared.query.Query.TheVariants.{One, Set}
use Rattle.rs_sample.specs.Cards.{BlockCards}
use Rattle.rs_query.specs.Blocks.{block_in}
use Rattle.rs_plan.specs.Plans.{IsRank}
use Rattle.rs_plan.specs.Trees.{Distinct, JoinOperator, PlanTree, Rank, RankScan, SeqScan, SetOperator, code, code_cmp, entries, terms}
use Rattle.rs_enum.specs.declared.extent.Extent.{Extent}
use Rattle.rs_enum.specs.declared.extent.Extent.TheVariants as extent
use Rattle.rs_enum.specs.Costs.{estimate_of}
use Rattle.rs_enum.specs.QueryCards.{AreCards, IsBlockNumber, cards_at}
use Rattle.rs_enum.specs.Tops.{IsExtent, IsTopped, IsWhole, most_whole, number_of, root_term, rows_most, whole_rows}
use Rattle.rs_enum.proofs.BoundFacts.{calls-most, most-fits, most-set-fits, ones-rank}
use Rattle.rs_enum.proofs.CostFacts.{all-small, block-formed, numbered, part-has-numbers, same-terms, set-rank-most, set-rows, terms-small}
use Rattle.rs_enum.proofs.OrderOfPlans.{estimate-part}

module _ (catalogue : CatalogDef) where
  -- below an operator for a term
  pub whole-below : (query : Query) (e : Extent) (t : ℕ) (child : PlanTree) → IsWhole catalogue query e (Rank t child)
      → IsWhole catalogue query e child × IsRank (block_in query (number_of e)) t child
  whole-below query (extent.Block number) t child is = (record { part = is.part.0; all = is.all; drops = is.drops }, is.part.1)
  whole-below (One block limit) extent.Both t child is = absurd is
  whole-below (Set op left right limit) extent.Both t child is = (is.0, is.1)

  pub whole-above : (query : Query) (e : Extent) (t : ℕ) (child : PlanTree) → IsWhole catalogue query e child
      → IsRank (block_in query (number_of e)) t child → IsWhole catalogue query e (Rank t child)
  whole-above query (extent.Block number) t child is rank = record { part = (is.part, rank); all = is.all; drops = is.drops }
  whole-above (One block limit) extent.Both t child is rank = absurd is
  whole-above (Set op left right limit) extent.Both t child is rank = (is, rank)

  -- where duplicates are dropped, or a set operator stands, a tree is one of three kinds
  pub whole-case : {Q : Type 0} (query : Query) (e : Extent) → IsTopped query e → (tree : PlanTree) → IsWhole catalogue query e tree
      → ((t : ℕ) (child : PlanTree) → tree ≡ Rank t child → Q) → ((child : PlanTree) → tree ≡ Distinct child → Q)
      → ((l r : PlanTree) → tree ≡ SetOperator l r → Q) → Q
  whole-case query (extent.Block number) topped (SeqScan n) is rank distinct set = absurd (is.drops topped tt)
  whole-case query (extent.Block number) topped (RankScan n t i) is rank distinct set = absurd (is.drops topped tt)
  whole-case query (extent.Block number) topped (Rank t child) is rank distinct set = rank t child refl
  whole-case query (extent.Block number) topped (JoinOperator kind l r) is rank distinct set = absurd (is.drops topped (is.part.2.left_whole, is.part.2.right_whole))
  whole-case query (extent.Block number) topped (Distinct child) is rank distinct set = distinct child refl
  whole-case query (extent.Block number) topped (SetOperator l r) is rank distinct set = absurd is.part
  whole-case (One block limit) extent.Both topped tree is rank distinct set = absurd is
  whole-case (Set op left right limit) extent.Both topped (Rank t child) is rank distinct set = rank t child refl
  whole-case (Set op left right limit) extent.Both topped (SetOperator l r) is rank distinct set = set l r refl
  whole-case (Set op left right limit) extent.Both topped (SeqScan n) is rank distinct set = absurd is
  whole-case (Set op left right limit) extent.Both topped (RankScan n t i) is rank distinct set = absurd is
  whole-case (Set op left right limit) extent.Both topped (JoinOperator kind l r) is rank distinct set = absurd is
  whole-case (Set op left right limit) extent.Both topped (Distinct child) is rank distinct set = absurd is

  pub whole-entries : (query : Query) (e : Extent) (tree : PlanTree) → IsWhole catalogue query e tree → entries tree ≡ all_entries (block_in query (number_of e))
  whole-entries query (extent.Block number) tree is = is.all
  whole-entries (One block limit) extent.Both tree is = absurd is
  whole-entries (Set op left right limit) extent.Both (Rank t child) is = whole-entries (Set op left right limit) extent.Both child is.0
  whole-entries (Set op left right limit) extent.Both (SetOperator l r) is = is.0.all
  whole-entries (Set op left right limit) extent.Both (SeqScan n) is = absurd is
  whole-entries (Set op left right limit) extent.Both (RankScan n t i) is = absurd is
  whole-entries (Set op left right limit) extent.Both (JoinOperator kind l r) is = absurd is
  whole-entries (Set op left right limit) extent.Both (Distinct child) is = absurd is

  -- how many rows are expected of it
  pub whole-estimate : (query : Query) (cards : List BlockCards) (e : Extent) (tree : PlanTree) → IsWhole catalogue query e tree
      → estimate_of cards (number_of e) tree ≡ whole_rows query cards e (terms tree)
  whole-estimate query cards (extent.Block number) tree is =
      estimate-part catalogue query cards (block_in query number) number tree (terms tree) is.part
      ∙ ap (λ m. (cards_at cards number).estimate m (terms tree)) is.all
  whole-estimate query cards extent.Both tree is = set-rows catalogue query cards tree is

  -- a query of a set operator, whose first block is well-formed
  pub few-terms : (query : Query) → IsQuery catalogue query → (e : Extent) → length (block_in query (number_of e)).terms ≤ 8
  few-terms query q e = (block-formed catalogue query (number_of e) q).most_terms

  pub whole-small : (query : Query) → IsQuery catalogue query → (e : Extent) (evaluated : ℕ) → evaluated < 2 ^ length (block_in query (number_of e)).terms → evaluated < 2 ^ 8
  whole-small query q e evaluated below =
      let most = few-terms query q e in
      let power : 2 ^ length (block_in query (number_of e)).terms ≤ 2 ^ 8 = pow-le-pow_right {n = 2} (omega arith) most in
      omega arith

  -- what an operator for a term costs at most
  pub whole-fits : (query : Query) → IsQuery catalogue query → (e : Extent) (t : ℕ) (child : PlanTree) (below rows call : ℕ)
      → IsWhole catalogue query e (Rank t child) → rows ≤ rows_most e → call < 2 ^ 16 → below ≤ most_whole query e (terms child)
      → below + rows * call ≤ most_whole query e (bit_or (terms child) (mask_of t))
  whole-fits query q (extent.Block number) t child below rows call is few small most =
      let formed = block-formed catalogue query number q in
      let calls = calls-most rows call few small in
      let numbers = part-has-numbers catalogue (block_in query number) formed (Rank t child) is.part in
      let ones = ones-rank (terms child) t (terms-small catalogue (block_in query number) formed child is.part.0) numbers.0 is.part.1.absent in
      omega arith
  whole-fits query q extent.Both t child below rows call is few small most =
      set-rank-most catalogue query t child below rows call q is few small most

  pub whole-most : (query : Query) → IsQuery catalogue query → (e : Extent) (evaluated : ℕ) → evaluated < 2 ^ 8 → most_whole query e evaluated < 2 ^ 123
  whole-most query q (extent.Block number) evaluated small =
      let few = (block-formed catalogue query number q).most_entries in
      let fits = most-fits (all_entries (block_in query number)) evaluated (all-small (block_in query number) few) small in
      omega arith
  whole-most query q extent.Both evaluated small = most-set-fits evaluated small

  -- the operators that can stand at the root
  pub root-some : (query : Query) (e : Extent) → IsTopped query e → (tree : PlanTree) → IsWhole catalogue query e tree → 1 ≤ root_term tree
  root-some query e topped tree is =
      whole-case query e topped tree is
      (λ t child same. subst (λ (x : PlanTree). 1 ≤ root_term x) (sym same)
      (whole-below query e t child (subst (IsWhole catalogue query e) same is)).1.is_term.some)
      (λ child same. subst (λ (x : PlanTree). 1 ≤ root_term x) (sym same) (omega arith))
      (λ l r same. subst (λ (x : PlanTree). 1 ≤ root_term x) (sym same) (omega arith))

  pub root-most : (query : Query) (e : Extent) → IsTopped query e → (tree : PlanTree) → IsWhole catalogue query e tree
      → (root_term tree ≤ length (block_in query (number_of e)).terms) ⊎ (root_term tree ≡ 9)
  root-most query e topped tree is =
      whole-case query e topped tree is
      (λ t child same.
      let rank = (whole-below query e t child (subst (IsWhole catalogue query e) same is)).1 in
      inl (subst (λ (x : PlanTree). root_term x ≤ length (block_in query (number_of e)).terms) (sym same)
      (numbered (block_in query (number_of e)) t rank.term rank.is_term).most))
      (λ child same. inr (ap root_term same))
      (λ l r same. inr (ap root_term same))

  -- a lesser number at the root is an earlier code
  rank-codes : (t u : ℕ) (a b : PlanTree) → t < u → is_gt (code_cmp (code (Rank t a)) (code (Rank u b))) ≡ false
  rank-codes t u a b less = ap (λ o. is_gt (ordering_then o (code_cmp (code a) (code b)))) (sym (nat_cmp_is t u Less less))

  pub root-codes : (query : Query) → IsQuery catalogue query → (e : Extent) → IsTopped query e → (a b : PlanTree) → IsWhole catalogue query e a → IsWhole catalogue query e b
      → root_term a < root_term b → is_gt (code_cmp (code a) (code b)) ≡ false
  root-codes query q e topped a b is_a is_b less =
      whole-case query e topped a is_a
      (λ t x same_a.
      whole-case query e topped b is_b
      (λ u y same_b. both (rank-codes t u x y (both_numbers t u x y same_a same_b)) same_a same_b)
      (λ y same_b. both refl same_a same_b)
      (λ l r same_b. both refl same_a same_b))
      (λ x same_a. absurd (too-great (ap root_term same_a)))
      (λ l r same_a. absurd (too-great (ap root_term same_a)))
    where
      both : {c d : PlanTree} → is_gt (code_cmp (code c) (code d)) ≡ false → a ≡ c → b ≡ d → is_gt (code_cmp (code a) (code b)) ≡ false
      both codes same_a same_b = (λ at. is_gt (code_cmp (code (same_a at)) (code (same_b at)))) ∙ codes

      both_numbers : (t u : ℕ) (x y : PlanTree) → a ≡ Rank t x → b ≡ Rank u y → t < u
      both_numbers t u x y same_a same_b = let first = ap root_term same_a in let second = ap root_term same_b in omega arith

      too-great : root_term a ≡ 9 → ⊥
      too-great nine = elim (root-most query e topped b is_b) [
        | inl most ↦ (let few = few-terms query q e in omega arith)
        | inr same ↦ omega arith
      ]

-- there are two blocks
pub extent-numbered : (query : Query) (cards : List BlockCards) → AreCards query cards → IsExtent query cards extent.Both
    → IsBlockNumber cards 1 × IsBlockNumber cards 2
extent-numbered (One block limit) cards are is = absurd is
extent-numbered (Set op left right limit) cards are is =
    let two : length cards ≡ 2 = ap length are.2 in
    (record { some = omega arith; most = omega arith }, record { some = omega arith; most = omega arith })

pub right-terms-below : (catalogue : CatalogDef) (query : Query) (cards : List BlockCards) → IsQuery catalogue query → IsExtent query cards extent.Both
    → length (block_in query 1).terms ≡ length (block_in query 2).terms
right-terms-below catalogue (One block limit) cards q is = absurd is
right-terms-below catalogue (Set op left right limit) cards q is = same-terms left right left.terms right.terms q.0.terms

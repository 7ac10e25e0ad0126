-- The order of plans: it is total, it can be read off costs and codes, and it stays where a part is exchanged for one of the same
-- entries and terms.
use Rattle.std.proofs.Common.{◌≡◌, ◌⊎◌, inl, inr, ℕ, ◌+◌, ◌*◌, ◌<◌, ◌≤◌, false, true≢false, List, ◌∷◌, ◌++◌, refl, sym, ◌∙◌, ap, arith, rules, bit_or}
use Rattle.std.specs.Cmp.{IsTotalOrder, nat_cmp_is}
use Rattle.std.specs.Cmp.Rules.{comparing}
use Rattle.std.specs.Ordering.{is_gt, nat_cmp, on, ordering_reverse, ordering_then, then_cmp}
use Rattle.std.specs.declared.cmp.Ordering.{Ordering}
use Rattle.std.specs.declared.cmp.Ordering.TheVariants.{Less, Equal, Greater}
use Rattle.std.proofs.lemmas.Cmp.{nat_cmp_total, on_total, ranked, then_total, tied_itself, upto}
use Rattle.rs_catalog.specs.Catalog.{CatalogDef}
use Rattle.rs_query.specs.declared.block.Block.{Block}
use Rattle.rs_query.specs.declared.query.Query.{Query}
use Rattle.rs_sample.specs.Cards.{BlockCards}
use Rattle.rs_query.specs.Blocks.{block_in}
use Rattle.rs_plan.specs.Plans.{IsPart}
use Rattle.rs_plan.specs.Trees.{Distinct, Hash, JoinKind, JoinOperator, Nested, PlanTree, Rank, RankScan, SeqScan, SetOperator, code, code_cmp, entries, terms}
use Rattle.rs_plan.proofs.CodeFacts.{code-split}
use Rattle.rs_plan.proofs.LawFacts.{plan-tied}
use Rattle.rs_enum.specs.QueryCards.{cards_at}
use Rattle.rs_enum.specs.Costs.{call_cost, cost_of, estimate_of, estimate_under}
use Rattle.rs_enum.specs.Firsts.{NoLaterBy}
use Rattle.rs_enum.specs.Least.{ComesNoLater, IsLeast, plan_cmp}

pub code-total : IsTotalOrder code_cmp
code-total = search (comparing, rules) depth 9

-- numbers that are equal decide nothing
pub same-front : (n : ℕ) (xs ys : List ℕ) → code_cmp (n ∷ xs) (n ∷ ys) ≡ code_cmp xs ys
same-front n xs ys = ap (λ o. ordering_then o (code_cmp xs ys)) (sym (nat_cmp_is n n Equal refl))

then-nothing : (o : Ordering) → ordering_then o Equal ≡ o
then-nothing Less = refl
then-nothing Equal = refl
then-nothing Greater = refl

then-tied : (a b : Ordering) → ordering_then a b ≡ Equal → b ≡ Equal
then-tied Less b e = absurd (cc)
then-tied Equal b e = e
then-tied Greater b e = absurd (cc)

-- neither of two comes later
neither-later : (o p : Ordering) → o ≡ ordering_reverse p → is_gt o ≡ false → is_gt p ≡ false → o ≡ Equal
neither-later o Less e first second = absurd (true≢false (sym (ap is_gt e) ∙ first))
neither-later o Equal e first second = e
neither-later o Greater e first second = absurd (true≢false second)

-- the codes of plans with an exchanged part are in the order of the parts
pub rank-codes : (t : ℕ) (a b : PlanTree) → code_cmp (code (Rank t a)) (code (Rank t b)) ≡ code_cmp (code a) (code b)
rank-codes t a b = same-front t (code a) (code b)

pub left-codes : (l m r : PlanTree) → code_cmp (code l ++ code r) (code m ++ code r) ≡ code_cmp (code l) (code m)
left-codes l m r =
    code-split l m (code r) (code r) ∙ ap (ordering_then (code_cmp (code l) (code m))) (tied_itself code-total (code r))
    ∙ then-nothing (code_cmp (code l) (code m))

pub right-codes : (l r s : PlanTree) → code_cmp (code l ++ code r) (code l ++ code s) ≡ code_cmp (code r) (code s)
right-codes l r s = code-split l l (code r) (code s) ∙ ap (λ o. ordering_then o (code_cmp (code r) (code s))) (tied_itself code-total (code l))

masks-front : (l m : PlanTree) (xs ys : List ℕ) → entries l ≡ entries m → terms l ≡ terms m
    → code_cmp (entries l ∷ terms l ∷ xs) (entries m ∷ terms m ∷ ys) ≡ code_cmp xs ys
masks-front l m xs ys same_entries same_terms =
    let equal : code_cmp (entries l ∷ terms l ∷ xs) (entries m ∷ terms m ∷ ys) ≡ code_cmp (entries m ∷ terms m ∷ xs) (entries m ∷ terms m ∷ ys) =
    λ at. code_cmp (same_entries at ∷ same_terms at ∷ xs) (entries m ∷ terms m ∷ ys) in
    equal ∙ same-front (entries m) (terms m ∷ xs) (terms m ∷ ys) ∙ same-front (terms m) xs ys

-- the order of trees by any cost, and then by their codes
module _ (value : PlanTree → ℕ) where
  value-total : IsTotalOrder (then_cmp (on value nat_cmp) (on code code_cmp))
  value-total = then_total (on_total value nat_cmp_total) (on_total code code-total)

  pub by_value-itself : (a : PlanTree) → NoLaterBy value a a
  by_value-itself a = ap is_gt (tied_itself value-total a)

  -- what comes no later than a tree comes no later than all that it comes no later than
  pub by_value-on : (a b c : PlanTree) → NoLaterBy value a b → NoLaterBy value b c → NoLaterBy value a c
  by_value-on a b c = upto value-total a b c

  pub by_value-less : (a b : PlanTree) → value a < value b → NoLaterBy value a b
  by_value-less a b less = ap (λ o. is_gt (ordering_then o (code_cmp (code a) (code b)))) (sym (nat_cmp_is (value a) (value b) Less less))

  pub by_value-code : (a b : PlanTree) → value a ≡ value b → is_gt (code_cmp (code a) (code b)) ≡ false → NoLaterBy value a b
  by_value-code a b same codes =
      ap (λ o. is_gt (ordering_then o (code_cmp (code a) (code b)))) (sym (nat_cmp_is (value a) (value b) Equal same)) ∙ codes

  pub by_value-first : (a b : PlanTree) → value a ≤ value b → is_gt (code_cmp (code a) (code b)) ≡ false → NoLaterBy value a b
  by_value-first a b most codes = go (nat_cmp (value a) (value b)) refl where
    go : (p : Ordering) → nat_cmp (value a) (value b) ≡ p → NoLaterBy value a b
    go Less e = by_value-less a b (ranked (value a) (value b) Less (sym e))
    go Equal e = by_value-code a b (ranked (value a) (value b) Equal (sym e)) codes
    go Greater e = absurd (let more = ranked (value a) (value b) Greater (sym e) in omega arith)

by-numbers : (x y : ℕ) (o : Ordering) → is_gt (ordering_then (nat_cmp x y) o) ≡ false → (x < y) ⊎ ((x ≡ y) × (is_gt o ≡ false))
by-numbers x y o is = go (nat_cmp x y) refl where
  go : (p : Ordering) → nat_cmp x y ≡ p → (x < y) ⊎ ((x ≡ y) × (is_gt o ≡ false))
  go Less e = inl (ranked x y Less (sym e))
  go Equal e = inr (ranked x y Equal (sym e), sym (ap (λ q. is_gt (ordering_then q o)) e) ∙ is)
  go Greater e = absurd (true≢false (sym (ap (λ q. is_gt (ordering_then q o)) e) ∙ is))

-- what comes no later costs no more
pub by_value-most : (value : PlanTree → ℕ) (a b : PlanTree) → NoLaterBy value a b → value a ≤ value b
by_value-most value a b is = elim (by-numbers (value a) (value b) (code_cmp (code a) (code b)) is) [
  | inl less ↦ omega arith
  | inr same ↦ (let cost = same.0 in omega arith)
]

-- trees that cost as much more by another cost as two others do, with codes in the order of theirs, are in their order
pub by_value-more : (value other : PlanTree → ℕ) (a b c d : PlanTree) (more : ℕ) → other c ≡ value a + more → other d ≡ value b + more
    → code_cmp (code c) (code d) ≡ code_cmp (code a) (code b) → NoLaterBy value a b → NoLaterBy other c d
by_value-more value other a b c d more first second codes is =
    elim (by-numbers (value a) (value b) (code_cmp (code a) (code b)) is) [
      | inl less ↦ by_value-less other c d (omega arith)
      | inr same ↦ (let cost = same.0 in by_value-code other c d (omega arith) (ap is_gt codes ∙ same.1))
    ]

-- by costs that are the same of both
pub by_value-same : (value other : PlanTree → ℕ) (a b : PlanTree) → other a ≡ value a → other b ≡ value b → NoLaterBy value a b → NoLaterBy other a b
by_value-same value other a b first second is = by_value-more value other a b a b 0 (omega arith) (omega arith) refl is

module _ (catalogue : CatalogDef) (query : Query) (cards : List BlockCards) where
  pub plans-total : IsTotalOrder (plan_cmp catalogue query cards)
  plans-total = value-total (cost_of catalogue query cards)

  -- there are no two least plans
  pub least-one : (a b : PlanTree) → IsLeast catalogue query cards a → IsLeast catalogue query cards b → a ≡ b
  least-one a b first second =
      let tie = neither-later (plan_cmp catalogue query cards a b) (plan_cmp catalogue query cards b a) (plans-total.antisymm a b)
      (first.first b second.plan) (second.first a first.plan) in
      plan-tied catalogue query a b first.plan second.plan
      (then-tied (nat_cmp (cost_of catalogue query cards a) (cost_of catalogue query cards b)) (code_cmp (code a) (code b)) tie)

  -- plans that cost as much more than two others, with codes in the order of theirs, are in their order
  pub exchanged : (a b c d : PlanTree) (more : ℕ) → cost_of catalogue query cards c ≡ cost_of catalogue query cards a + more
      → cost_of catalogue query cards d ≡ cost_of catalogue query cards b + more → code_cmp (code c) (code d) ≡ code_cmp (code a) (code b)
      → ComesNoLater catalogue query cards a b → ComesNoLater catalogue query cards c d
  exchanged a b c d more first second codes is = by_value-more (cost_of catalogue query cards) (cost_of catalogue query cards) a b c d more first second codes is

  -- what a part of a block's plan is expected to give depends on its entries and on the evaluated terms alone
  pub estimate-part : (block : Block) (number : ℕ) (tree : PlanTree) (mask : ℕ) → IsPart catalogue block tree
      → estimate_under cards number tree mask ≡ (cards_at cards number).estimate (entries tree) mask
  estimate-part block number (SeqScan e) mask is = refl
  estimate-part block number (RankScan e t i) mask is = refl
  estimate-part block number (Rank t child) mask is = estimate-part block number child mask is.0
  estimate-part block number (JoinOperator kind l r) mask is = refl
  estimate-part block number (Distinct child) mask is = refl
  estimate-part block number (SetOperator l r) mask is = absurd is

  pub same-estimate : (block : Block) (number : ℕ) (a b : PlanTree) → IsPart catalogue block a → IsPart catalogue block b → entries a ≡ entries b → terms a ≡ terms b
      → estimate_of cards number a ≡ estimate_of cards number b
  same-estimate block number a b is_a is_b same_entries same_terms =
      estimate-part block number a (terms a) is_a ∙ (λ at. (cards_at cards number).estimate (same_entries at) (same_terms at))
      ∙ sym (estimate-part block number b (terms b) is_b)

  module _ (block : Block) where
    -- below an operator for a term, and on each side of a join
    pub exchanged-below : (t : ℕ) (a b : PlanTree) → IsPart catalogue block a → IsPart catalogue block b → entries a ≡ entries b → terms a ≡ terms b
        → ComesNoLater catalogue query cards a b → ComesNoLater catalogue query cards (Rank t a) (Rank t b)
    exchanged-below t a b is_a is_b same_entries same_terms is =
        let same = ap (λ n. n * call_cost catalogue (block_in query 1) t) (same-estimate block 1 a b is_a is_b same_entries same_terms) in
        exchanged a b (Rank t a) (Rank t b) (estimate_of cards 1 b * call_cost catalogue (block_in query 1) t)
        (ap (λ n. cost_of catalogue query cards a + n) same) refl (rank-codes t a b) is

    exchanged-left-hash : (l m r : PlanTree) → IsPart catalogue block l → IsPart catalogue block m → entries l ≡ entries m → terms l ≡ terms m
        → ComesNoLater catalogue query cards l m → ComesNoLater catalogue query cards (JoinOperator Hash l r) (JoinOperator Hash m r)
    exchanged-left-hash l m r is_l is_m same_entries same_terms is =
        let rows = same-estimate block 1 l m is_l is_m same_entries same_terms in
        let whole : estimate_of cards 1 (JoinOperator Hash l r) ≡ estimate_of cards 1 (JoinOperator Hash m r) =
        λ at. (cards_at cards 1).estimate (bit_or (same_entries at) (entries r)) (bit_or (same_terms at) (terms r)) in
        exchanged l m (JoinOperator Hash l r) (JoinOperator Hash m r)
        (cost_of catalogue query cards r + 2 * (estimate_of cards 1 m + estimate_of cards 1 r) + estimate_of cards 1 (JoinOperator Hash m r))
        (omega arith) (omega arith) (masks-front l m (code l ++ code r) (code m ++ code r) same_entries same_terms ∙ left-codes l m r) is

    exchanged-right-hash : (l r s : PlanTree) → IsPart catalogue block r → IsPart catalogue block s → entries r ≡ entries s → terms r ≡ terms s
        → ComesNoLater catalogue query cards r s → ComesNoLater catalogue query cards (JoinOperator Hash l r) (JoinOperator Hash l s)
    exchanged-right-hash l r s is_r is_s same_entries same_terms is =
        let rows = same-estimate block 1 r s is_r is_s same_entries same_terms in
        let whole : estimate_of cards 1 (JoinOperator Hash l r) ≡ estimate_of cards 1 (JoinOperator Hash l s) =
        λ at. (cards_at cards 1).estimate (bit_or (entries l) (same_entries at)) (bit_or (terms l) (same_terms at)) in
        exchanged r s (JoinOperator Hash l r) (JoinOperator Hash l s)
        (cost_of catalogue query cards l + 2 * (estimate_of cards 1 l + estimate_of cards 1 s) + estimate_of cards 1 (JoinOperator Hash l s))
        (omega arith) (omega arith) (masks-front l l (code l ++ code r) (code l ++ code s) refl refl ∙ right-codes l r s) is

    exchanged-left-nested : (l m r : PlanTree) → IsPart catalogue block l → IsPart catalogue block m → entries l ≡ entries m → terms l ≡ terms m
        → ComesNoLater catalogue query cards l m → ComesNoLater catalogue query cards (JoinOperator Nested l r) (JoinOperator Nested m r)
    exchanged-left-nested l m r is_l is_m same_entries same_terms is =
        let pairs = ap (λ n. n * estimate_of cards 1 r) (same-estimate block 1 l m is_l is_m same_entries same_terms) in
        let whole : estimate_of cards 1 (JoinOperator Nested l r) ≡ estimate_of cards 1 (JoinOperator Nested m r) =
        λ at. (cards_at cards 1).estimate (bit_or (same_entries at) (entries r)) (bit_or (same_terms at) (terms r)) in
        exchanged l m (JoinOperator Nested l r) (JoinOperator Nested m r)
        (cost_of catalogue query cards r + estimate_of cards 1 m * estimate_of cards 1 r + estimate_of cards 1 (JoinOperator Nested m r))
        (omega arith) (omega arith) (masks-front l m (code l ++ code r) (code m ++ code r) same_entries same_terms ∙ left-codes l m r) is

    exchanged-right-nested : (l r s : PlanTree) → IsPart catalogue block r → IsPart catalogue block s → entries r ≡ entries s → terms r ≡ terms s
        → ComesNoLater catalogue query cards r s → ComesNoLater catalogue query cards (JoinOperator Nested l r) (JoinOperator Nested l s)
    exchanged-right-nested l r s is_r is_s same_entries same_terms is =
        let pairs = ap (λ n. estimate_of cards 1 l * n) (same-estimate block 1 r s is_r is_s same_entries same_terms) in
        let whole : estimate_of cards 1 (JoinOperator Nested l r) ≡ estimate_of cards 1 (JoinOperator Nested l s) =
        λ at. (cards_at cards 1).estimate (bit_or (entries l) (same_entries at)) (bit_or (terms l) (same_terms at)) in
        exchanged r s (JoinOperator Nested l r) (JoinOperator Nested l s)
        (cost_of catalogue query cards l + estimate_of cards 1 l * estimate_of cards 1 s + estimate_of cards 1 (JoinOperator Nested l s))
        (omega arith) (omega arith) (masks-front l l (code l ++ code r) (code l ++ code s) refl refl ∙ right-codes l r s) is

    -- on each side of a join of either kind
    pub exchanged-left : (kind : JoinKind) (l m r : PlanTree) → IsPart catalogue block l → IsPart catalogue block m → entries l ≡ entries m → terms l ≡ terms m
        → ComesNoLater catalogue query cards l m → ComesNoLater catalogue query cards (JoinOperator kind l r) (JoinOperator kind m r)
    exchanged-left Hash l m r is_l is_m same_entries same_terms is = exchanged-left-hash l m r is_l is_m same_entries same_terms is
    exchanged-left Nested l m r is_l is_m same_entries same_terms is = exchanged-left-nested l m r is_l is_m same_entries same_terms is

    pub exchanged-right : (kind : JoinKind) (l r s : PlanTree) → IsPart catalogue block r → IsPart catalogue block s → entries r ≡ entries s → terms r ≡ terms s
        → ComesNoLater catalogue query cards r s → ComesNoLater catalogue query cards (JoinOperator kind l r) (JoinOperator kind l s)
    exchanged-right Hash l r s is_r is_s same_entries same_terms is = exchanged-right-hash l r s is_r is_s same_entries same_terms is
    exchanged-right Nested l r s is_r is_s same_entries same_terms is = exchanged-right-nested l r s is_r is_s same_entries same_terms is

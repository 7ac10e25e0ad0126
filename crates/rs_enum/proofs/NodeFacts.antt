-- How much a tree costs at most that is a node of this kind.
use Rattle.std.proofs.Common.{◌≡◌, ℕ, ◌+◌, ◌*◌, ◌^◌, ◌<◌, ◌≤◌, sym, subst, arith, count_ones}
use Rattle.rs_catalog.specs.Catalog.{CatalogDef}
use Rattle.rs_query.specs.WellFormed.{IsBlock, IsQuery}
use Rattle.rs_query.specs.declared.block.Block.{Block}
use Rattle.rs_query.specs.declared.query.Query.{Query}
use Rattle.rs_query.specs.declared.query.Query.TheVariants.{One, Set}
use Rattle.rs_plan.specs.Plans.{IsPart}
use Rattle.rs_plan.specs.Trees.{Distinct, Hash, JoinOperator, Nested, PlanTree, Rank, RankScan, SeqScan, SetOperator, entries, terms}
use Rattle.rs_enum.specs.Bounds.{IsSetPart, most_cost, most_set_cost}
use Rattle.rs_enum.proofs.BoundFacts.{most-rank_scan, most-scan, most-sides}
use Rattle.rs_enum.proofs.CostFacts.{entries-small, hash-most, nested-most, part-rows, rank-most, set-rank-most}

module _ (catalogue : CatalogDef) (block : Block) (formed : IsBlock catalogue block) where
  pub scan-whole : (whole : PlanTree) (e rows : ℕ) → whole ≡ SeqScan e → rows ≤ 2 ^ 18 → rows + 2 ^ 105 ≤ most_cost (entries whole) (terms whole)
  scan-whole whole e rows is few = subst (λ w. rows + 2 ^ 105 ≤ most_cost (entries w) (terms w)) (sym is) (most-scan e rows few)

  pub rank_scan-whole : (whole : PlanTree) (e t i rows : ℕ) → whole ≡ RankScan e t i → rows ≤ 2 ^ 18 → rows + 2 ^ 105 ≤ most_cost (entries whole) (terms whole)
  rank_scan-whole whole e t i rows is few = subst (λ w. rows + 2 ^ 105 ≤ most_cost (entries w) (terms w)) (sym is) (most-rank_scan e t rows few)

  pub rank-whole : (whole child : PlanTree) (t below rows call extra : ℕ) → whole ≡ Rank t child → IsPart catalogue block whole
      → rows ≤ 131072 ^ count_ones (entries child) → call < 2 ^ 16 → below + extra ≤ most_cost (entries child) (terms child)
      → below + rows * call + extra ≤ most_cost (entries whole) (terms whole)
  rank-whole whole child t below rows call extra is part few small most =
      subst (λ w. below + rows * call + extra ≤ most_cost (entries w) (terms w)) (sym is)
      (rank-most catalogue block formed t child below rows call extra (subst (IsPart catalogue block) is part) few small most)

  pub hash-whole : (whole l r : PlanTree) (left right left_rows right_rows rows : ℕ) → whole ≡ JoinOperator Hash l r → (part : IsPart catalogue block (JoinOperator Hash l r))
      → left + 2 ^ 105 ≤ most_cost (entries l) (terms l) → right + 2 ^ 105 ≤ most_cost (entries r) (terms r)
      → left_rows ≤ 131072 ^ count_ones (entries l) → right_rows ≤ 131072 ^ count_ones (entries r) → rows ≤ 131072 ^ count_ones (entries whole)
      → left + right + 2 * (left_rows + right_rows) + rows + 2 ^ 105 ≤ most_cost (entries whole) (terms whole)
  hash-whole whole l r left right left_rows right_rows rows is part left_most right_most left_few right_few few =
      subst (λ w. left + right + 2 * (left_rows + right_rows) + rows + 2 ^ 105 ≤ most_cost (entries w) (terms w)) (sym is)
      (hash-most catalogue block formed l r left right left_rows right_rows rows part.0 part.1 part.2.apart left_most right_most left_few right_few
      (subst (λ w. rows ≤ 131072 ^ count_ones (entries w)) is few))

  pub nested-whole : (whole l r : PlanTree) (left right left_rows right_rows rows : ℕ) → whole ≡ JoinOperator Nested l r → (part : IsPart catalogue block (JoinOperator Nested l r))
      → left + 2 ^ 105 ≤ most_cost (entries l) (terms l) → right + 2 ^ 105 ≤ most_cost (entries r) (terms r)
      → left_rows ≤ 131072 ^ count_ones (entries l) → right_rows ≤ 131072 ^ count_ones (entries r) → rows ≤ 131072 ^ count_ones (entries whole)
      → left + right + left_rows * right_rows + rows + 2 ^ 105 ≤ most_cost (entries whole) (terms whole)
  nested-whole whole l r left right left_rows right_rows rows is part left_most right_most left_few right_few few =
      subst (λ w. left + right + left_rows * right_rows + rows + 2 ^ 105 ≤ most_cost (entries w) (terms w)) (sym is)
      (nested-most catalogue block formed l r left right left_rows right_rows rows part.0 part.1 part.2.apart left_most right_most left_few right_few
      (subst (λ w. rows ≤ 131072 ^ count_ones (entries w)) is few))

  pub distinct-whole : (whole child : PlanTree) (below rows : ℕ) → whole ≡ Distinct child → IsPart catalogue block child
      → rows ≤ 131072 ^ count_ones (entries child) → below + 2 ^ 105 ≤ most_cost (entries child) (terms child)
      → below + rows ≤ most_cost (entries whole) (terms whole)
  distinct-whole whole child below rows is part few most =
      let all = part-rows catalogue block formed child rows part few in
      subst (λ w. below + rows ≤ most_cost (entries w) (terms w)) (sym is) (omega arith)

module _ (catalogue : CatalogDef) (query : Query) (q : IsQuery catalogue query) where
  pub set_rank-whole : (whole child : PlanTree) (t below rows call : ℕ) → whole ≡ Rank t child → IsSetPart catalogue query whole
      → rows ≤ 2 ^ 103 → call < 2 ^ 16 → below ≤ most_set_cost (terms child) → below + rows * call ≤ most_set_cost (terms whole)
  set_rank-whole whole child t below rows call is part few small most =
      subst (λ w. below + rows * call ≤ most_set_cost (terms w)) (sym is)
      (set-rank-most catalogue query t child below rows call q (subst (IsSetPart catalogue query) is part) few small most)

sides-most : (catalogue : CatalogDef) (query : Query) → IsQuery catalogue query → (a b : PlanTree) (left right left_rows right_rows : ℕ)
    → IsSetPart catalogue query (SetOperator a b)
    → left ≤ most_cost (entries a) (terms a) → right ≤ most_cost (entries b) (terms b)
    → left_rows ≤ 131072 ^ count_ones (entries a) → right_rows ≤ 131072 ^ count_ones (entries b)
    → left + right + left_rows + right_rows ≤ most_set_cost (terms a)
sides-most catalogue (One block limit) q a b left right left_rows right_rows is left_most right_most left_few right_few = absurd is
sides-most catalogue (Set op l r limit) q a b left right left_rows right_rows is left_most right_most left_few right_few =
    let rows_a = part-rows catalogue l q.0.left_block a left_rows is.0.part left_few in
    let rows_b = part-rows catalogue r q.0.right_block b right_rows is.1.part right_few in
    let both = most-sides (entries a) (entries b) (terms a) (entries-small catalogue l q.0.left_block a is.0.part) (entries-small catalogue r q.0.right_block b is.1.part) in
    let same : right ≤ most_cost (entries b) (terms a) = subst (λ n. right ≤ most_cost (entries b) n) (sym is.2) right_most in
    omega arith

pub sides-whole : (catalogue : CatalogDef) (query : Query) → IsQuery catalogue query → (whole a b : PlanTree) (left right left_rows right_rows : ℕ)
    → whole ≡ SetOperator a b → IsSetPart catalogue query whole
    → left ≤ most_cost (entries a) (terms a) → right ≤ most_cost (entries b) (terms b)
    → left_rows ≤ 131072 ^ count_ones (entries a) → right_rows ≤ 131072 ^ count_ones (entries b)
    → left + right + left_rows + right_rows ≤ most_set_cost (terms whole)
sides-whole catalogue query q whole a b left right left_rows right_rows is part left_most right_most left_few right_few =
    subst (λ w. left + right + left_rows + right_rows ≤ most_set_cost (terms w)) (sym is)
    (sides-most catalogue query q a b left right left_rows right_rows (subst (IsSetPart catalogue query) is part) left_most right_most left_few right_few)

-- Parts of the text of a plan.
use Rattle.std.proofs.Common.{◌≡◌, ℕ, ◌+◌, ◌-◌, ◌*◌, ◌^◌, ◌≤◌, List, [], ◌∷◌, ◌++◌, length, replicate, ◌∙◌, ap, arith, append_assoc, count_ones}
use Rattle.std.specs.Prelude.{Option, Some, option_and_then, option_map, slice_get, unwrap_or}
use Rattle.std.proofs.lemmas.List.{replicate-append-replicate}
use Rattle.std.proofs.lemmas.Nat.{ones-le}
use Rattle.std.proofs.Math.Nat.{pow-le-pow_right}
use Rattle.rs_catalog.specs.Catalog.{CatalogDef, NamedTable}
use Rattle.rs_query.specs.WellFormed.{IsBlock, IsQuery}
use Rattle.rs_query.specs.declared.block.Block.{Block}
use Rattle.rs_query.specs.declared.query.Query.{Query}
use Rattle.rs_query.specs.declared.query.Query.TheVariants.{One, Set}
use Rattle.rs_plan.specs.Plans.{HasNoDistinct, IsPart, IsPlan, IsSetPlan}
use Rattle.rs_plan.specs.Trees.{Distinct, JoinOperator, PlanTree, Rank, RankScan, SeqScan, SetOperator, entries, terms}
use Rattle.rs_enum.specs.Bounds.{IsSetPart}
use Rattle.rs_enum.specs.Texts.{alias_of, nodes_of, table_of}
use Rattle.rs_enum.proofs.BitFacts.{ones-mask, ones-or}
use Rattle.rs_enum.proofs.BoundFacts.{ones-rank}
use Rattle.rs_enum.proofs.CostFacts.{entries-small, part-has-numbers, set-has-numbers, set-terms-below, terms-small}
use Rattle.rs_enum.proofs.WithinFacts.{sides-apart}

-- one level more
pub indent-more : (n : ℕ) (xs : List ℕ) → (xs ++ replicate (2 * n) 32) ++ (32 ∷ 32 ∷ []) ≡ xs ++ replicate (2 * (n + 1)) 32
indent-more n xs =
    let sum : 2 * n + 2 ≡ 2 * (n + 1) = omega arith in
    append_assoc xs (replicate (2 * n) 32) (32 ∷ 32 ∷ [])
    ∙ ap (λ ys. xs ++ ys) (replicate-append-replicate (2 * n) 2 32 ∙ ap (λ k. replicate k 32) sum)

-- the names of an entry
pub table-is : (catalogue : CatalogDef) (block : Block) (entry : ℕ) (from : ℕ × List ℕ) (name : List ℕ) → slice_get block.from (entry - 1) ≡ Some from
    → option_map (λ (t : NamedTable). t.name) (slice_get catalogue.tables from.0) ≡ Some name → table_of catalogue block entry ≡ name
table-is catalogue block entry from name at is =
    ap (λ (o : Option (ℕ × List ℕ)). unwrap_or (option_map (λ (t : NamedTable). t.name) (option_and_then (λ (f : ℕ × List ℕ). slice_get catalogue.tables f.0) o)) []) at
    ∙ ap (λ (o : Option (List ℕ)). unwrap_or o []) is

pub alias-is : (block : Block) (entry : ℕ) (from : ℕ × List ℕ) → slice_get block.from (entry - 1) ≡ Some from → alias_of block entry ≡ from.1
alias-is block entry from at = ap (λ (o : Option (ℕ × List ℕ)). unwrap_or (option_map (λ (f : ℕ × List ℕ). f.1) o) []) at

-- what is put one after another
pub two-parts : (t0 t1 t2 a b : List ℕ) → t1 ≡ t0 ++ a → t2 ≡ t1 ++ b → t2 ≡ t0 ++ (a ++ b)
two-parts t0 t1 t2 a b first second = second ∙ ap (λ t. t ++ b) first ∙ append_assoc t0 a b

pub three-parts : (t0 t1 t2 t3 a b c : List ℕ) → t1 ≡ t0 ++ a → t2 ≡ t1 ++ b → t3 ≡ t2 ++ c → t3 ≡ t0 ++ ((a ++ b) ++ c)
three-parts t0 t1 t2 t3 a b c first second third =
    two-parts t0 t2 t3 (a ++ b) c (two-parts t0 t1 t2 a b first second) third

pub entry-text : (old one two three name alias : List ℕ) (table_name entry_alias : List ℕ) → one ≡ old ++ name → two ≡ one ++ (32 ∷ []) → three ≡ two ++ alias
    → name ≡ table_name → alias ≡ entry_alias → three ≡ old ++ ((table_name ++ (32 ∷ [])) ++ entry_alias)
entry-text old one two three name alias table_name entry_alias first second third same other =
    three-parts old one two three name (32 ∷ []) alias first second third
    ∙ (λ at. old ++ ((same at ++ (32 ∷ [])) ++ other at))

-- the nodes of parts are fewer than this many
pub nodes-most : (catalogue : CatalogDef) (block : Block) → IsBlock catalogue block → (tree : PlanTree) → IsPart catalogue block tree → HasNoDistinct tree
    → nodes_of tree + 1 ≤ 2 * count_ones (entries tree) + count_ones (terms tree)
nodes-most catalogue block formed (SeqScan e) is whole = let one = ones-mask (e - 1) in omega arith
nodes-most catalogue block formed (RankScan e t i) is whole = let one = ones-mask (e - 1) in let other = ones-mask (t - 1) in omega arith
nodes-most catalogue block formed (Rank t child) is whole =
    let below = nodes-most catalogue block formed child is.0 whole in
    let numbers = part-has-numbers catalogue block formed (Rank t child) is in
    let ones = ones-rank (terms child) t (terms-small catalogue block formed child is.0) numbers.0 is.1.absent in
    omega arith
nodes-most catalogue block formed (JoinOperator kind l r) is whole =
    let left = nodes-most catalogue block formed l is.0 whole.0 in
    let right = nodes-most catalogue block formed r is.1 whole.1 in
    let sum = ones-or 6 (entries l) (entries r) (entries-small catalogue block formed l is.0) (entries-small catalogue block formed r is.1) is.2.apart in
    let other = ones-or 8 (terms l) (terms r) (terms-small catalogue block formed l is.0) (terms-small catalogue block formed r is.1)
    (sides-apart catalogue block formed l r is.0 is.1 is.2.apart) in
    omega arith
nodes-most catalogue block formed (Distinct child) is whole = absurd whole
nodes-most catalogue block formed (SetOperator l r) is whole = absurd is

-- with duplicates dropped there is one more
nodes-part : (catalogue : CatalogDef) (block : Block) → IsBlock catalogue block → (tree : PlanTree) → IsPart catalogue block tree
    → nodes_of tree ≤ 2 * count_ones (entries tree) + count_ones (terms tree)
nodes-part catalogue block formed (SeqScan e) is = let one = ones-mask (e - 1) in omega arith
nodes-part catalogue block formed (RankScan e t i) is = let one = ones-mask (e - 1) in let other = ones-mask (t - 1) in omega arith
nodes-part catalogue block formed (Rank t child) is =
    let below = nodes-part catalogue block formed child is.0 in
    let numbers = part-has-numbers catalogue block formed (Rank t child) is in
    let ones = ones-rank (terms child) t (terms-small catalogue block formed child is.0) numbers.0 is.1.absent in
    omega arith
nodes-part catalogue block formed (JoinOperator kind l r) is =
    let most = nodes-most catalogue block formed (JoinOperator kind l r) is (is.2.left_whole, is.2.right_whole) in omega arith
nodes-part catalogue block formed (Distinct child) is = let most = nodes-most catalogue block formed child is.0 is.1.first in omega arith
nodes-part catalogue block formed (SetOperator l r) is = absurd is

pub few-nodes : (catalogue : CatalogDef) (block : Block) → IsBlock catalogue block → (tree : PlanTree) → IsPart catalogue block tree → nodes_of tree ≤ 20
few-nodes catalogue block formed tree is =
    let most = nodes-part catalogue block formed tree is in
    let some : count_ones (entries tree) ≤ 6 = ones-le 6 (entries tree) (entries-small catalogue block formed tree is) in
    let others : count_ones (terms tree) ≤ 8 = ones-le 8 (terms tree) (terms-small catalogue block formed tree is) in
    omega arith

set-nodes : (catalogue : CatalogDef) (left right : Block) → IsBlock catalogue left → IsBlock catalogue right → (tree : PlanTree) → IsSetPlan catalogue left right tree
    → nodes_of tree ≤ 41 + count_ones (terms tree)
set-nodes catalogue left right l r (Rank t child) is =
    let below = set-nodes catalogue left right l r child is.0 in
    let numbers = set-has-numbers catalogue left right l r (Rank t child) is in
    let few : length left.terms ≤ 8 = l.most_terms in
    let power : 2 ^ length left.terms ≤ 2 ^ 8 = pow-le-pow_right {n = 2} (omega arith) few in
    let small = set-terms-below catalogue left right child is.0 in
    let ones = ones-rank (terms child) t (omega arith) numbers.0 is.1.absent in
    omega arith
set-nodes catalogue left right l r (SetOperator a b) is =
    let first = few-nodes catalogue left l a is.0.part in
    let second = few-nodes catalogue right r b is.1.part in
    omega arith
set-nodes catalogue left right l r (SeqScan e) is = absurd is
set-nodes catalogue left right l r (RankScan e t i) is = absurd is
set-nodes catalogue left right l r (JoinOperator kind a b) is = absurd is
set-nodes catalogue left right l r (Distinct child) is = absurd is

pub few-set-nodes : (catalogue : CatalogDef) (query : Query) → IsQuery catalogue query → (tree : PlanTree) → IsSetPart catalogue query tree → nodes_of tree ≤ 49
few-set-nodes catalogue (One block limit) q tree is = absurd is
few-set-nodes catalogue (Set op left right limit) q tree is =
    let most = set-nodes catalogue left right q.0.left_block q.0.right_block tree is in
    let few : length left.terms ≤ 8 = q.0.left_block.most_terms in
    let power : 2 ^ length left.terms ≤ 2 ^ 8 = pow-le-pow_right {n = 2} (omega arith) few in
    let small = set-terms-below catalogue left right tree is in
    let ones : count_ones (terms tree) ≤ 8 = ones-le 8 (terms tree) (omega arith) in
    omega arith

pub plan-nodes : (catalogue : CatalogDef) (query : Query) → IsQuery catalogue query → (tree : PlanTree) → IsPlan catalogue query tree → nodes_of tree ≤ 255
plan-nodes catalogue (One block limit) q tree is = let few = few-nodes catalogue block q.0 tree is.0.part in omega arith
plan-nodes catalogue (Set op left right limit) q tree is = let few = few-set-nodes catalogue (Set op left right limit) q tree is.0 in omega arith

-- the parts of a line
pub line-text : (t0 t1 t2 t3 t4 t5 t6 indent name est rows label cost done end : List ℕ) → t1 ≡ t0 ++ indent → t2 ≡ t1 ++ name → t3 ≡ t2 ++ (est ++ rows)
    → t4 ≡ t3 ++ (label ++ cost) → t5 ≡ t4 ++ done → t6 ≡ t5 ++ end
    → t6 ≡ t0 ++ (((((((indent ++ name) ++ est) ++ rows) ++ label) ++ cost) ++ done) ++ end)
line-text t0 t1 t2 t3 t4 t5 t6 indent name est rows label cost done end first second third fourth fifth sixth =
    let whole : t6 ≡ (((((t0 ++ indent) ++ name) ++ (est ++ rows)) ++ (label ++ cost)) ++ done) ++ end =
    sixth ∙ ap (λ t. t ++ end) (fifth ∙ ap (λ t. t ++ done) (fourth ∙ ap (λ t. t ++ (label ++ cost))
    (third ∙ ap (λ t. t ++ (est ++ rows)) (second ∙ ap (λ t. t ++ name) first)))) in
    whole ∙ simp append_assoc

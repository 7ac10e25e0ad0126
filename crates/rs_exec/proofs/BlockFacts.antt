-- The blocks of a query: each is well formed, and has as many terms as each other one.
use Rattle.std.proofs.Common.{◌≡◌, ◌∙◌, ℕ, zero, suc, ◌≤◌, Bool, true, false, cond, eqb, List, [], ◌∷◌, length, refl, sym, subst, inl, inr, arith}
use Rattle.std.specs.List.{AllByRecursion}
use Rattle.std.specs.Prelude.{None, Some, slice_get}
use Rattle.rs_order.proofs.EachFacts.{each-weaker}
use Rattle.rs_expr.specs.Scoring.{Answering}
use Rattle.rs_catalog.specs.Catalog.{CatalogDef}
use Rattle.rs_query.specs.Tables.{sizes_of}
use Rattle.rs_query.specs.WellFormed.{IsBlock, IsQuery, IsTerm}
use Rattle.rs_query.specs.declared.block.Block.{Block}
use Rattle.rs_query.specs.declared.query.Query.{Query}
use Rattle.rs_query.specs.declared.query.Query.TheVariants.{One, Set}
use Rattle.rs_query.specs.declared.term.Term.{Term}
pub use Rattle.rs_query.proofs.BlockFacts.{block-formed}
use Rattle.rs_plan.specs.Lists.{sizes_in}
use Rattle.rs_query.specs.Blocks.{block_in}
use Rattle.rs_exec.specs.Asked.{HasBlock}
use Rattle.rs_exec.specs.Asking.{world_of}
use Rattle.rs_exec.proofs.AnswerFacts.{same-count}

-- a list without an item at a place is no longer than that
pub slice_get-none : {A : Type 0} (xs : List A) (i : ℕ) → slice_get xs i ≡ None → length xs ≤ i
slice_get-none [] i e = omega arith
slice_get-none (x ∷ xs) zero e = absurd (let f : Some x ≡ None = e in cc)
slice_get-none (x ∷ xs) (suc i) e = let rest = slice_get-none xs i e in omega arith

-- its weights are small enough
pub light-terms : (catalogue : CatalogDef) (block : Block) → IsBlock catalogue block → AllByRecursion (λ (term : Term). term.weight ≤ 1000000) block.terms
light-terms catalogue block is = each-weaker (IsTerm catalogue block) (λ (term : Term). term.weight ≤ 1000000) (λ term is. is.most_weight) block.terms is.terms

pub few-entries : (catalogue : CatalogDef) (query : Query) (number : ℕ) → IsQuery catalogue query → length (block_in query number).from ≤ 6
few-entries catalogue query number formed = let is = block-formed catalogue query number formed in is.most_entries

-- each query has a first block
pub first-block : (query : Query) → HasBlock query 1
first-block (One block limit) = refl
first-block (Set op left right limit) = inl refl

-- a query sees all rows of its tables
pub sizes-are : (catalogue : CatalogDef) (answer : Answering) (query : Query) (number : ℕ) → HasBlock query number
    → sizes_in (world_of catalogue answer query) number ≡ sizes_of catalogue (block_in query number)
sizes-are catalogue answer (One block limit) number is =
    subst (λ n. sizes_in (world_of catalogue answer (One block limit)) n ≡ sizes_of catalogue (block_in (One block limit) n)) (sym is) refl
sizes-are catalogue answer (Set op left right limit) number is =
    let w = world_of catalogue answer (Set op left right limit) in
    elim is [
      | inl one ↦ subst (λ n. sizes_in w n ≡ sizes_of catalogue (block_in (Set op left right limit) n)) (sym one) refl
      | inr two ↦ subst (λ n. sizes_in w n ≡ sizes_of catalogue (block_in (Set op left right limit) n)) (sym two) refl
    ]

-- each block of a query has as many terms
pub same-counts : (catalogue : CatalogDef) (query : Query) (number other : ℕ) → IsQuery catalogue query
    → length (block_in query number).terms ≡ length (block_in query other).terms
same-counts catalogue (One block limit) number other formed = refl
same-counts catalogue (Set op left right limit) number other formed =
    let same = same-count left right formed.0.terms in
    let left_as : (b : Bool) → length (cond b left right).terms ≡ length left.terms =
    λ b. elim b as (λ b. length (cond b left right).terms ≡ length left.terms) [ true ↦ refl | false ↦ sym same ] in
    left_as (eqb number 1) ∙ sym (left_as (eqb other 1))

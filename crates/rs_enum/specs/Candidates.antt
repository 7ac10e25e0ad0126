-- Plans that are made of the plans that are kept, one of each signature.
use Rattle.std.specs.Prelude.{ℕ, ◌≡◌, Option, Some}
use Rattle.rs_catalog.specs.Catalog.{CatalogDef}
use Rattle.rs_query.specs.declared.block.Block.{Block}
use Rattle.rs_plan.specs.Plans.{HasNoDistinct, IsPart}
use Rattle.rs_plan.specs.Trees.{Distinct, JoinOperator, PlanTree, Rank, RankScan, SeqScan, SetOperator, entries, terms}

-- the children of a plan are those that are kept of their entries and terms
abbrev pub HasKeptChildren : (ℕ → ℕ → Option PlanTree) → PlanTree → Type 0
HasKeptChildren kept (SeqScan entry) = Unit {0}
HasKeptChildren kept (RankScan entry term index) = Unit {0}
HasKeptChildren kept (Rank term child) = kept (entries child) (terms child) ≡ Some child
HasKeptChildren kept (JoinOperator kind left right) = (kept (entries left) (terms left) ≡ Some left) × (kept (entries right) (terms right) ≡ Some right)
HasKeptChildren kept (Distinct child) = ⊥
HasKeptChildren kept (SetOperator left right) = ⊥

-- a part of a plan of a block, of these entries and terms and without duplicates dropped, that is made of kept plans
pub record IsCandidate (catalogue : CatalogDef) (block : Block) (kept : ℕ → ℕ → Option PlanTree) (first second : ℕ) (tree : PlanTree) : Type 0 where
  pub part : IsPart catalogue block tree
  pub whole : HasNoDistinct tree
  pub its_entries : entries tree ≡ first
  pub its_terms : terms tree ≡ second
  pub made : HasKeptChildren kept tree

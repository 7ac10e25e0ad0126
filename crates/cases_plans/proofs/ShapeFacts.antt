-- The cards that are taken of a query are those of its blocks.
use Rattle.std.proofs.Common.{ℕ, ◌≡◌, List, [], ◌∷◌, subst, arith}
use Rattle.rs_expr.specs.Scoring.{Answering}
use Rattle.rs_catalog.specs.Catalog.{CatalogDef}
use Rattle.rs_query.specs.Views.{View}
use Rattle.rs_query.specs.WellFormed.{IsQuery}
use Rattle.rs_query.specs.declared.query.Query.{Query}
use Rattle.rs_query.specs.declared.query.Query.TheVariants.{One, Set}
use Rattle.rs_sample.specs.Cards.{AllSayTheSame, BlockCards}
use Rattle.rs_sample.specs.Sampling.{query_cards}
use Rattle.cases_plans.specs.Shapes.{HasShape, IsFor}

module _ (answer : Answering) (catalogue : CatalogDef) where
  pub HasShape-taken : (query : Query) (view : View) (seed : ℕ) (all : List BlockCards) → IsQuery catalogue query
      → AllSayTheSame all (query_cards answer catalogue query view seed) → HasShape query all
  HasShape-taken (One block limit) view seed [] formed same = absurd same
  HasShape-taken (One block limit) view seed (first ∷ []) formed same = record {
    least = omega arith;
    most = omega arith;
    few_entries = formed.0.most_entries;
    few_terms = formed.0.most_terms;
    shape = λ cards at. let is : first ≡ cards = cc in subst (IsFor block) is (record { entries = same.0.entries; reads = same.0.reads });
  }
  HasShape-taken (One block limit) view seed (first ∷ second ∷ more) formed same = absurd same.1
  HasShape-taken (Set op left right limit) view seed [] formed same = absurd same
  HasShape-taken (Set op left right limit) view seed (first ∷ []) formed same = absurd same.1
  HasShape-taken (Set op left right limit) view seed (first ∷ second ∷ []) formed same = (
    record {
      least = omega arith;
      most = omega arith;
      few_entries = formed.0.left_block.most_entries;
      few_terms = formed.0.left_block.most_terms;
      shape = λ cards at. let is : first ≡ cards = cc in subst (IsFor left) is (record { entries = same.0.entries; reads = same.0.reads });
    },
    record {
      least = omega arith;
      most = omega arith;
      few_entries = formed.0.right_block.most_entries;
      few_terms = formed.0.right_block.most_terms;
      shape = λ cards at. let is : second ≡ cards = cc in subst (IsFor right) is (record { entries = same.1.0.entries; reads = same.1.0.reads });
    },
  )
  HasShape-taken (Set op left right limit) view seed (first ∷ second ∷ third ∷ more) formed same = absurd same.1.1

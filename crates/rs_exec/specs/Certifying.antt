-- Two scorers that answer the calls of a plan alike, or the one greater than the other.
use Rattle.std.specs.Prelude.{ℕ, ◌≡◌, ◌≤◌, ◌-◌, List, Some, slice_get}
use Rattle.std.specs.List.{AllByRecursion}
use Rattle.rs_rank.specs.Weights.{IsWeights}
use Rattle.rs_expr.specs.Scoring.{Answering}
use Rattle.rs_catalog.specs.Catalog.{CatalogDef}
use Rattle.rs_query.specs.Answers.{weights_of, worth_of}
use Rattle.rs_query.specs.Blocks.{block_in}
use Rattle.rs_query.specs.Questions.{Question, got_for}
use Rattle.rs_query.specs.Tops.{IsBounded}
use Rattle.rs_query.specs.WellFormed.{IsQuery}
use Rattle.rs_query.specs.declared.block.Block.{Block}
use Rattle.rs_query.specs.declared.query.Query.{Query}
use Rattle.rs_query.specs.declared.term.Term.{Term}
use Rattle.rs_plan.specs.Plans.{IsPlan}
use Rattle.rs_plan.specs.Trees.{Distinct, JoinOperator, Rank, RankScan, SeqScan, SetOperator, PlanTree}
use Rattle.rs_exec.specs.Indexes.{PlanIndexesHold}

-- a plan is one of a query, and these answers fit it: its indexes hold them, and no term is worth more than its maximum
pub record AnswersFit (catalogue : CatalogDef) (query : Query) (tree : PlanTree) (answer : Answering) : Type 0 where
  pub formed : IsQuery catalogue query
  pub plan : IsPlan catalogue query tree
  pub weights : IsWeights (weights_of (block_in query 1))
  pub indexes : PlanIndexesHold answer catalogue tree
  pub bounded : IsBounded answer catalogue query

-- two scorers answer these questions alike
abbrev pub AnswerAlike : CatalogDef → Answering → Answering → List Question → Type 0
AnswerAlike catalogue answer other asked = AllByRecursion (λ (q : Question). got_for answer catalogue q ≡ got_for other catalogue q) asked

-- one scorer's answers are those of another, but for those of a predicate, by which no term is worth less
pub record IsGreaterBy (catalogue : CatalogDef) (predicate : ℕ) (lesser greater : Answering) : Type 0 where
  pub alike : (q : Question) → (q.term.predicate ≡ predicate → ⊥) → got_for lesser catalogue q ≡ got_for greater catalogue q
  pub least : (block : Block) (rows : List ℕ) (term : Term) → worth_of lesser catalogue block rows term ≤ worth_of greater catalogue block rows term

-- no rank operator of a tree evaluates a term of this predicate
abbrev pub AsksNo : Query → ℕ → PlanTree → Type 0
AsksNo query predicate (SeqScan entry) = Unit {0}
AsksNo query predicate (RankScan entry term index) = Unit {0}
AsksNo query predicate (Rank term child) =
    ((number : ℕ) (t : Term) → slice_get (block_in query number).terms (term - 1) ≡ Some t → t.predicate ≡ predicate → ⊥) × AsksNo query predicate child
AsksNo query predicate (JoinOperator kind left right) = AsksNo query predicate left × AsksNo query predicate right
AsksNo query predicate (Distinct child) = AsksNo query predicate child
AsksNo query predicate (SetOperator left right) = AsksNo query predicate left × AsksNo query predicate right

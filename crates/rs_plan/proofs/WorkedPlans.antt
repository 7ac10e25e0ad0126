-- Which trees are plans, on literals and worked by hand. The tests say what the relations say, of trees with such numbers
-- (`plan-decided`).
use Rattle.std.proofs.Common.{◌≡◌, ℕ, Bool, true, false, List, [], ◌∷◌, refl}
use Rattle.std.specs.Prelude.{Some, None, codes}
use Rattle.rs_value.specs.declared.kind.Kind.TheVariants as kind
use Rattle.rs_value.specs.declared.rel.Rel.TheVariants.{Eq}
use Rattle.rs_expr.specs.Formulas.{Argument, Numbers}
use Rattle.rs_expr.specs.Predicates.{PredicateDef}
use Rattle.rs_catalog.specs.Catalog.{CatalogDef, RankIndex}
use Rattle.rs_catalog.specs.declared.index.BoundArg.TheVariants as arg
use Rattle.rs_value.specs.declared.set_op.SetOp.TheVariants.{Union}
use Rattle.rs_query.specs.declared.block.Block.{Block}
use Rattle.rs_query.specs.declared.query.Query.{Query}
use Rattle.rs_query.specs.declared.query.Query.TheVariants.{One, Set}
use Rattle.rs_query.specs.declared.term.Term.{Term}
use Rattle.rs_plan.specs.Deciding.{is_plan}
use Rattle.rs_plan.specs.Trees.{Distinct, Hash, JoinOperator, Nested, Rank, RankScan, SeqScan, SetOperator, PlanTree}

abbrev predicate : List ℕ → PredicateDef
predicate name = record { name = name; params = kind.Int ∷ []; max = 10; cost = 1; formula = Argument 0 }

-- an index of a predicate of a column of t
abbrev index : ℕ → ℕ → RankIndex
index number column = record {
  def = record { name = codes "i"; table = 0; predicate = number; args = arg.Column 1 column ∷ [] };
  ranking = [];
}

-- a table t of two columns, the predicates p and q, and indexes of q(y), of p(x) and of p(x) once more
abbrev catalogue : CatalogDef
catalogue = record {
  tables = record { name = codes "t"; table = record { schema = (codes "x", kind.Int) ∷ (codes "y", kind.Int) ∷ []; rows = [] } } ∷ [];
  predicates = predicate (codes "p") ∷ predicate (codes "q") ∷ [];
  indexes = index 1 1 ∷ index 0 0 ∷ index 0 0 ∷ [];
}

-- p(a.x) and q(b.y)
abbrev p_term : Term
p_term = record { weight = 1; predicate = 0; args = arg.Column 1 0 ∷ []; max = 10; entries = 1 }

abbrev q_term : Term
q_term = record { weight = 1; predicate = 1; args = arg.Column 2 1 ∷ []; max = 10; entries = 2 }

-- SELECT a.x, b.y FROM t a, t b WHERE a.x = b.x ORDER BY p(a.x) + q(b.y), with DISTINCT or without
abbrev joined : Bool → Query
joined distinct = One (record {
  from = (0, codes "a") ∷ (0, codes "b") ∷ [];
  conjuncts = record { condition = Numbers Eq (Argument 0) (Argument 1); columns = (1, 0) ∷ (2, 0) ∷ []; entries = 3; equality = Some ((1, 0), (2, 0)) } ∷ [];
  items = (1, 0) ∷ (2, 1) ∷ [];
  terms = p_term ∷ q_term ∷ [];
  distinct = distinct;
}) None

-- the tests of some trees, one by one
abbrev are_plans : Query → List PlanTree → List Bool
are_plans query [] = []
are_plans query (tree ∷ trees) = is_plan catalogue query tree ∷ are_plans query trees

abbrev scans : PlanTree
scans = JoinOperator Hash (SeqScan 1) (SeqScan 2)

-- terms are evaluated above the join, below it, or by scans of indexes
plans_of_a_join : are_plans (joined false) (
    Rank 1 (Rank 2 scans)
    ∷ Rank 2 (Rank 1 scans)
    ∷ Rank 2 (JoinOperator Nested (SeqScan 2) (Rank 1 (SeqScan 1)))
    ∷ JoinOperator Hash (RankScan 1 1 1) (RankScan 2 2 0)
    ∷ []) ≡ true ∷ true ∷ true ∷ true ∷ []
plans_of_a_join = refl

-- no rows of the other entry; a term left out, evaluated twice, or before its entry is there; sides that share an entry;
-- duplicates dropped where the block doesn't say so
other_trees_of_a_join : are_plans (joined false) (
    Rank 1 (SeqScan 1)
    ∷ Rank 1 scans
    ∷ Rank 1 (Rank 1 (Rank 2 scans))
    ∷ JoinOperator Hash (Rank 2 (Rank 1 (SeqScan 1))) (SeqScan 2)
    ∷ Rank 2 (Rank 1 (JoinOperator Nested (SeqScan 1) scans))
    ∷ Rank 2 (Rank 1 (Distinct scans))
    ∷ Rank 2 (Rank 3 scans)
    ∷ []) ≡ false ∷ false ∷ false ∷ false ∷ false ∷ false ∷ false ∷ []
other_trees_of_a_join = refl

-- an index of other arguments, one that isn't the first of these, one that isn't there, and one for a term of the other entry
other_indexes : are_plans (joined false) (
    JoinOperator Hash (RankScan 1 1 0) (RankScan 2 2 0)
    ∷ JoinOperator Hash (RankScan 1 1 2) (RankScan 2 2 0)
    ∷ JoinOperator Hash (RankScan 1 1 3) (RankScan 2 2 0)
    ∷ JoinOperator Hash (RankScan 2 1 1) (RankScan 1 2 0)
    ∷ []) ≡ false ∷ false ∷ false ∷ false ∷ []
other_indexes = refl

-- with DISTINCT duplicates are dropped once, of rows of both entries, below terms or above them
plans_with_distinct : are_plans (joined true) (
    Rank 1 (Rank 2 (Distinct scans))
    ∷ Distinct (Rank 1 (Rank 2 scans))
    ∷ Rank 1 (Rank 2 scans)
    ∷ Rank 1 (Distinct (Rank 2 (Distinct scans)))
    ∷ Rank 1 (Rank 2 (JoinOperator Hash (Distinct (SeqScan 1)) (SeqScan 2)))
    ∷ []) ≡ true ∷ true ∷ false ∷ false ∷ false ∷ []
plans_with_distinct = refl

-- SELECT x FROM t UNION SELECT x FROM t ORDER BY p(x)
abbrev side : Block
side = record { from = (0, codes "a") ∷ []; conjuncts = []; items = (1, 0) ∷ []; terms = p_term ∷ []; distinct = false }

-- the term is evaluated on both sides, or above them
plans_of_a_set_query : are_plans (Set Union side side None) (
    Rank 1 (SetOperator (SeqScan 1) (SeqScan 1))
    ∷ SetOperator (Rank 1 (SeqScan 1)) (RankScan 1 1 1)
    ∷ []) ≡ true ∷ true ∷ []
plans_of_a_set_query = refl

-- on one side alone, nowhere, or twice; no set operator, and one of a query of one block
other_trees_of_a_set_query : are_plans (Set Union side side None) (
    SetOperator (Rank 1 (SeqScan 1)) (SeqScan 1)
    ∷ Rank 1 (SetOperator (Rank 1 (SeqScan 1)) (SeqScan 1))
    ∷ SetOperator (SeqScan 1) (SeqScan 1)
    ∷ Rank 1 (SetOperator (Rank 1 (SeqScan 1)) (Rank 1 (SeqScan 1)))
    ∷ Rank 1 (SeqScan 1)
    ∷ []) ≡ false ∷ false ∷ false ∷ false ∷ false ∷ []
other_trees_of_a_set_query = refl

no_set_operator_in_one_block : are_plans (One side None) (Rank 1 (SetOperator (SeqScan 1) (SeqScan 1)) ∷ Rank 1 (SeqScan 1) ∷ []) ≡ false ∷ true ∷ []
no_set_operator_in_one_block = refl

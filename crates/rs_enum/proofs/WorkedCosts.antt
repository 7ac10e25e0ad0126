-- Costs and the order of plans, computed on literals and worked by hand.
use Rattle.std.proofs.Common.{◌≡◌, ℕ, false, true, List, [], ◌∷◌, map, refl}
use Rattle.std.specs.Prelude.{pos, cond, eqb, None, codes}
use Rattle.std.specs.declared.cmp.Ordering.TheVariants.{Less, Greater}
use Rattle.rs_value.specs.declared.kind.Kind.TheVariants as kind
use Rattle.rs_value.specs.declared.set_op.SetOp.TheVariants.{Union}
use Rattle.rs_value.specs.declared.value.Value.{Value}
use Rattle.rs_value.specs.declared.value.Value.TheVariants as value
use Rattle.rs_expr.specs.Formulas.{Argument}
use Rattle.rs_expr.specs.Predicates.{PredicateDef}
use Rattle.rs_catalog.specs.Catalog.{CatalogDef, NamedTable}
use Rattle.rs_catalog.specs.declared.index.BoundArg.TheVariants as arg
use Rattle.rs_query.specs.declared.block.Block.{Block}
use Rattle.rs_query.specs.declared.query.Query.{Query}
use Rattle.rs_query.specs.declared.query.Query.TheVariants.{One, Set}
use Rattle.rs_query.specs.declared.term.Term.{Term}
use Rattle.rs_sample.specs.Cards.{BlockCards}
use Rattle.rs_plan.specs.Trees.{Distinct, Hash, JoinOperator, Nested, PlanTree, Rank, RankScan, SeqScan, SetOperator}
use Rattle.rs_enum.specs.Costs.{cost_of, estimate_of}
use Rattle.rs_enum.specs.Least.{plan_cmp}

-- predicates p and q of one number, of which a call of q costs 100
abbrev pub predicate : List ℕ → ℕ → PredicateDef
predicate name cost = record { name = name; params = kind.Int ∷ []; max = 10; cost = cost; formula = Argument 0 }

abbrev row : ℕ → List Value
row n = value.Int (pos n) ∷ value.Int (pos n) ∷ []

-- a table of two columns of numbers
abbrev pub named : List ℕ → List ℕ → NamedTable
named name rows = record { name = name; table = record { schema = (codes "x", kind.Int) ∷ (codes "y", kind.Int) ∷ []; rows = map row rows } }

-- a table t of four rows, an index of p(x), and h of three rows; the plan alone says which index it scans
abbrev pub catalogue : CatalogDef
catalogue = record {
  tables = named (codes "t") (10 ∷ 8 ∷ 5 ∷ 2 ∷ []) ∷ named (codes "h") (1 ∷ 2 ∷ 3 ∷ []) ∷ [];
  predicates = predicate (codes "p") 1 ∷ predicate (codes "q") 100 ∷ [];
  indexes = [];
}

-- p or q of a column of an entry
abbrev pub term : ℕ → ℕ → ℕ → Term
term number entry entries = record { weight = 1; predicate = number; args = arg.Column entry 0 ∷ []; max = 10; entries = entries }

-- SELECT x, x FROM t ORDER BY p(x) + q(x)
abbrev pub one_table : Query
one_table = One (record { from = (0, codes "t") ∷ []; conjuncts = []; items = (1, 0) ∷ []; terms = term 0 1 1 ∷ term 1 1 1 ∷ []; distinct = false }) None

-- numbers for four rows of which two reach the cutoff by p, two by q and one by both
abbrev few : ℕ → ℕ
few terms = cond (eqb terms 0) 4 (cond (eqb terms 3) 1 2)

abbrev pub few_cards : List BlockCards
few_cards = record { entries = 1; reads = 1 ∷ 1 ∷ []; estimate = λ entries terms. few terms; index_estimate = λ entry term. 2 } ∷ []

-- numbers for four rows that all reach it
abbrev pub all_cards : List BlockCards
all_cards = record { entries = 1; reads = 1 ∷ 1 ∷ []; estimate = λ entries terms. 4; index_estimate = λ entry term. 4 } ∷ []

abbrev pub by_index : PlanTree
by_index = Rank 2 (RankScan 1 1 0)

abbrev pub p_first : PlanTree
p_first = Rank 2 (Rank 1 (SeqScan 1))

abbrev pub q_first : PlanTree
q_first = Rank 1 (Rank 2 (SeqScan 1))

abbrev costs : Query → List BlockCards → List PlanTree → List ℕ
costs query cards plans = map (cost_of catalogue query cards) plans

-- 2 * 2 + 2 * 100, 4 + 4 * 1 + 2 * 100, 4 + 4 * 100 + 2 * 1
costs_of_few : costs one_table few_cards (by_index ∷ p_first ∷ q_first ∷ []) ≡ 204 ∷ 208 ∷ 406 ∷ []
costs_of_few = refl

-- 2 * 4 + 4 * 100, 4 + 4 * 1 + 4 * 100, 4 + 4 * 100 + 4 * 1
costs_of_all : costs one_table all_cards (by_index ∷ p_first ∷ q_first ∷ []) ≡ 408 ∷ 408 ∷ 408 ∷ []
costs_of_all = refl

-- the lesser cost comes first
least_of_few : plan_cmp catalogue one_table few_cards by_index p_first ≡ Less
least_of_few = refl

-- at one cost the lesser code does: 3 1 3 2 1 1, then 3 2 2 1 1, then 3 2 3 1 1 1
orders_of_all : plan_cmp catalogue one_table all_cards q_first by_index ∷ plan_cmp catalogue one_table all_cards by_index p_first
    ∷ plan_cmp catalogue one_table all_cards p_first q_first ∷ [] ≡ Less ∷ Less ∷ Greater ∷ []
orders_of_all = refl

-- SELECT h.x, t.x FROM h, t ORDER BY p(t.x), of which one row of t and three pairs reach the cutoff
abbrev pub two_tables : Query
two_tables = One (record {
  from = (1, codes "h") ∷ (0, codes "t") ∷ [];
  conjuncts = [];
  items = (1, 0) ∷ (2, 0) ∷ [];
  terms = term 0 2 2 ∷ [];
  distinct = false;
}) None

abbrev pub pair_cards : List BlockCards
pair_cards = record {
  entries = 2;
  reads = 2 ∷ [];
  estimate = λ entries terms. cond (eqb entries 2) (cond (eqb terms 1) 1 4) (cond (eqb entries 1) 3 (cond (eqb terms 1) 3 12));
  index_estimate = λ entry term. 1;
} ∷ []

abbrev pub nested : PlanTree
nested = JoinOperator Nested (SeqScan 1) (RankScan 2 1 0)

-- 3 + 2 * 1 + 3 * 1 + 3 for each pair of the sides' rows, and 3 + 2 * 1 + 2 * (3 + 1) + 3 by equal values
costs_of_joins : costs two_tables pair_cards (nested ∷ JoinOperator Hash (SeqScan 1) (RankScan 2 1 0) ∷ []) ≡ 11 ∷ 16 ∷ []
costs_of_joins = refl

-- the sides may be exchanged: the left one's entries decide
order_of_sides : plan_cmp catalogue two_tables pair_cards nested (JoinOperator Nested (RankScan 2 1 0) (SeqScan 1)) ≡ Less
order_of_sides = refl

-- SELECT DISTINCT x FROM h o ORDER BY p(x): 3 + 3, and 3 * 1 above
abbrev pub distinct_query : Query
distinct_query = One (record { from = (1, codes "o") ∷ []; conjuncts = []; items = (1, 0) ∷ []; terms = term 0 1 1 ∷ []; distinct = true }) None

abbrev pub three_cards : List BlockCards
three_cards = record { entries = 1; reads = 1 ∷ []; estimate = λ entries terms. 3; index_estimate = λ entry term. 3 } ∷ []

abbrev pub distinct_plan : PlanTree
distinct_plan = Rank 1 (Distinct (SeqScan 1))

costs_of_distinct : costs distinct_query three_cards (Distinct (SeqScan 1) ∷ distinct_plan ∷ []) ≡ 6 ∷ 9 ∷ []
costs_of_distinct = refl

-- SELECT x FROM t UNION SELECT x FROM t ORDER BY p(x): 4 + 4 + 4 + 4, and (4 + 4) * 1 above; below the operator it costs as much
abbrev side : Block
side = record { from = (0, codes "t") ∷ []; conjuncts = []; items = (1, 0) ∷ []; terms = term 0 1 1 ∷ []; distinct = false }

abbrev pub union_query : Query
union_query = Set Union side side None

abbrev own : BlockCards
own = record { entries = 1; reads = 1 ∷ []; estimate = λ entries terms. 4; index_estimate = λ entry term. 4 }

abbrev pub both_cards : List BlockCards
both_cards = own ∷ own ∷ []

abbrev pub union_plan : PlanTree
union_plan = Rank 1 (SetOperator (SeqScan 1) (SeqScan 1))

abbrev scored_sides : PlanTree
scored_sides = SetOperator (Rank 1 (SeqScan 1)) (Rank 1 (SeqScan 1))

costs_of_union : costs union_query both_cards (SetOperator (SeqScan 1) (SeqScan 1) ∷ union_plan ∷ scored_sides ∷ []) ≡ 16 ∷ 24 ∷ 24 ∷ []
costs_of_union = refl

-- as many rows are expected as of both sides, below the terms that are above and with them
rows_of_union : map (estimate_of both_cards 1) (SetOperator (SeqScan 1) (SeqScan 1) ∷ union_plan ∷ []) ≡ 8 ∷ 8 ∷ []
rows_of_union = refl

order_of_union : plan_cmp catalogue union_query both_cards union_plan scored_sides ≡ Less
order_of_union = refl

-- two entries of one table, each scanned in the order of its own term: by equal values 10 + 10 + 2 * (5 + 5) + 7
abbrev pub two_terms : Query
two_terms = One (record {
  from = (0, codes "a") ∷ (0, codes "b") ∷ [];
  conjuncts = [];
  items = (1, 0) ∷ [];
  terms = term 0 1 1 ∷ term 0 2 2 ∷ [];
  distinct = false;
}) None

abbrev pub five_cards : List BlockCards
five_cards = record { entries = 2; reads = 1 ∷ 2 ∷ []; estimate = λ entries terms. cond (eqb entries 3) 7 5; index_estimate = λ entry term. 5 } ∷ []

abbrev pub hash_plan : PlanTree
hash_plan = JoinOperator Hash (RankScan 1 1 0) (RankScan 2 2 0)

costs_of_scans : costs two_terms five_cards (RankScan 1 1 0 ∷ hash_plan ∷ []) ≡ 10 ∷ 47 ∷ []
costs_of_scans = refl

-- the fullest tables, all of whose rows reach the cutoff: 262,144 + 262,144 and twice all pairs
abbrev pub full_cards : List BlockCards
full_cards = record {
  entries = 2;
  reads = 1 ∷ 2 ∷ [];
  estimate = λ entries terms. cond (eqb entries 3) 17179869184 131072;
  index_estimate = λ entry term. 131072;
} ∷ []

abbrev pub nested_scans : PlanTree
nested_scans = JoinOperator Nested (RankScan 1 1 0) (RankScan 2 2 0)

costs_of_pairs : costs two_terms full_cards (nested_scans ∷ []) ≡ 34360262656 ∷ []
costs_of_pairs = refl

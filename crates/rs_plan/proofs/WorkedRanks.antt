-- Rank operators over one table: lists, asks and calls of plans, computed on literals and worked by hand.
use Rattle.std.proofs.Common.{◌≡◌, ℕ, false, List, [], ◌∷◌, map, refl}
use Rattle.std.specs.Prelude.{pos, None, codes}
use Rattle.rs_value.specs.declared.kind.Kind.TheVariants as kind
use Rattle.rs_value.specs.declared.value.Value.{Value}
use Rattle.rs_value.specs.declared.value.Value.TheVariants as value
use Rattle.rs_rank.specs.declared.row.RankRow.{RankRow}
use Rattle.rs_expr.specs.Formulas.{Argument}
use Rattle.rs_expr.specs.Meaning.{value_of}
use Rattle.rs_expr.specs.Predicates.{PredicateDef}
use Rattle.rs_expr.specs.declared.scorer.Call.{Call}
use Rattle.rs_catalog.specs.Catalog.{CatalogDef}
use Rattle.rs_catalog.specs.declared.index.BoundArg.TheVariants as arg
use Rattle.rs_query.specs.declared.query.Query.TheVariants.{One}
use Rattle.rs_query.specs.declared.term.Term.{Term}
use Rattle.rs_plan.specs.Calls.{calls_of_plan, part_of_plan}
use Rattle.rs_plan.specs.Lists.{World, list_of_plan}
use Rattle.rs_plan.specs.Trees.{Rank, RankScan, SeqScan, PlanTree}

abbrev int : ℕ → Value
int n = value.Int (pos n)

abbrev predicate : List ℕ → PredicateDef
predicate name = record { name = name; params = kind.Int ∷ []; max = 10; cost = 1; formula = Argument 0 }

-- a table t of two columns with these rows; the predicates p and q are their argument, and at most 10
abbrev catalogue : List (List Value) → CatalogDef
catalogue rows = record {
  tables = record { name = codes "t"; table = record { schema = (codes "x", kind.Int) ∷ (codes "y", kind.Int) ∷ []; rows = rows } } ∷ [];
  predicates = predicate (codes "p") ∷ predicate (codes "q") ∷ [];
  indexes = [];
}

-- a predicate of a column of t
abbrev term : ℕ → Term
term number = record { weight = 1; predicate = number; args = arg.Column 1 number ∷ []; max = 10; entries = 1 }

-- SELECT x, y FROM t ORDER BY p(x) + q(y)
abbrev world : List (List Value) → List ℕ → World
world rows sizes = record {
  catalogue = catalogue rows;
  answer = λ p args. value_of p.formula args;
  query = One (record { from = (0, codes "t") ∷ []; conjuncts = []; items = (1, 0) ∷ (1, 1) ∷ []; terms = term 0 ∷ term 1 ∷ []; distinct = false }) None;
  view = record { first = sizes; second = [] };
}

abbrev four : World
four =
    world ((int 10 ∷ int 3 ∷ []) ∷ (int 8 ∷ int 9 ∷ []) ∷ (int 5 ∷ int 1 ∷ []) ∷ (int 2 ∷ int 10 ∷ []) ∷ [])
    (4 ∷ 0 ∷ 0 ∷ 0 ∷ 0 ∷ 0 ∷ [])

abbrev row : ℕ → ℕ → RankRow
row number sum = record { ids = record { block = 1; mask = 1; rows = number ∷ 0 ∷ 0 ∷ 0 ∷ 0 ∷ 0 ∷ [] }; sum = sum }

abbrev p_of : ℕ → Call
p_of n = record { predicate = codes "p"; args = int n ∷ [] }

abbrev q_of : ℕ → Call
q_of n = record { predicate = codes "q"; args = int n ∷ [] }

-- q over a scan in the order of p
abbrev indexed : PlanTree
indexed = Rank 2 (RankScan 1 1 0)

-- p over q over a scan in the order of the file
abbrev twice : PlanTree
twice = Rank 1 (Rank 2 (SeqScan 1))

-- both give the rows by their scores
list_indexed : list_of_plan four indexed ≡ row 2 17 ∷ row 1 13 ∷ row 4 12 ∷ row 3 6 ∷ []
list_indexed = refl

list_twice : list_of_plan four twice ≡ row 2 17 ∷ row 1 13 ∷ row 4 12 ∷ row 3 6 ∷ []
list_twice = refl

-- the first answer takes q of rows 1, 2 and 3, whose bounds are 20, 18 and 15, and no call of p
first_answer : calls_of_plan four indexed 1 ≡ q_of 3 ∷ q_of 9 ∷ q_of 1 ∷ []
first_answer = refl

-- all answers and the end take q of each row in the order of the file, and p of rows 4, 2, 1 and 3 in between
all_answers : calls_of_plan four twice 5 ≡ q_of 3 ∷ q_of 9 ∷ q_of 1 ∷ q_of 10 ∷ p_of 2 ∷ p_of 8 ∷ p_of 10 ∷ p_of 5 ∷ []
all_answers = refl

-- ask by ask
asks_one_by_one : map (part_of_plan four twice) (1 ∷ 2 ∷ 3 ∷ 4 ∷ 5 ∷ []) ≡
    (q_of 3 ∷ q_of 9 ∷ q_of 1 ∷ q_of 10 ∷ p_of 2 ∷ p_of 8 ∷ p_of 10 ∷ []) ∷ [] ∷ (p_of 5 ∷ []) ∷ [] ∷ [] ∷ []
asks_one_by_one = refl

-- where the key of the first row doesn't fall by its worth, one call is enough
abbrev two : World
two = world ((int 10 ∷ int 10 ∷ []) ∷ (int 8 ∷ int 9 ∷ []) ∷ []) (2 ∷ 0 ∷ 0 ∷ 0 ∷ 0 ∷ 0 ∷ [])

equal_keys : calls_of_plan two indexed 1 ≡ q_of 10 ∷ []
equal_keys = refl

-- a view of two rows of four has the rows of these alone, whatever stands behind them
abbrev earlier : World
earlier = record four { view = record { first = 2 ∷ 0 ∷ 0 ∷ 0 ∷ 0 ∷ 0 ∷ []; second = [] } }

list_earlier : list_of_plan earlier twice ≡ row 2 17 ∷ row 1 13 ∷ []
list_earlier = refl

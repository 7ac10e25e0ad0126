-- Joins: lists and asks of their two sides, computed on literals and worked by hand.
use Rattle.std.proofs.Common.{◌≡◌, ℕ, false, List, [], ◌∷◌, map, refl}
use Rattle.std.specs.Prelude.{pos, None, Some, codes}
use Rattle.rs_value.specs.declared.kind.Kind.TheVariants as kind
use Rattle.rs_value.specs.declared.rel.Rel.TheVariants.{Eq}
use Rattle.rs_value.specs.declared.value.Value.{Value}
use Rattle.rs_value.specs.declared.value.Value.TheVariants as value
use Rattle.rs_order.specs.Schedule.{Left, Right, SideAsk}
use Rattle.rs_rank.specs.declared.row.RankRow.{RankRow}
use Rattle.rs_expr.specs.Formulas.{Argument, Numbers}
use Rattle.rs_expr.specs.Meaning.{value_of}
use Rattle.rs_expr.specs.declared.scorer.Call.{Call}
use Rattle.rs_catalog.specs.Catalog.{CatalogDef, NamedTable}
use Rattle.rs_catalog.specs.declared.index.BoundArg.TheVariants as arg
use Rattle.rs_query.specs.declared.query.Query.TheVariants.{One}
use Rattle.rs_query.specs.declared.term.Term.{Term}
use Rattle.rs_plan.specs.Asks.{child_asks}
use Rattle.rs_plan.specs.Calls.{calls_of_plan}
use Rattle.rs_plan.specs.Counts.{counts_of_plan}
use Rattle.rs_plan.specs.Lists.{World, list_of_plan}
use Rattle.rs_plan.specs.Trees.{Hash, JoinOperator, Nested, Rank, SeqScan, PlanTree}
use Rattle.rs_plan.specs.declared.counts.Counts.{Counts}

abbrev int : ℕ → Value
int n = value.Int (pos n)

abbrev table : List ℕ → List (List Value) → NamedTable
table name rows = record { name = name; table = record { schema = (codes "g", kind.Int) ∷ []; rows = rows } }

abbrev catalogue : List (List Value) → List (List Value) → CatalogDef
catalogue lefts rights = record {
  tables = table (codes "a") lefts ∷ table (codes "b") rights ∷ [];
  predicates = record { name = codes "p"; params = kind.Int ∷ []; max = 10; cost = 1; formula = Argument 0 } ∷ [];
  indexes = [];
}

abbrev term : ℕ → ℕ → Term
term entry mask = record { weight = 1; predicate = 0; args = arg.Column entry 0 ∷ []; max = 10; entries = mask }

-- SELECT a.g, b.g FROM a, b WHERE a.g = b.g ORDER BY p(a.g) + p(b.g)
abbrev world : List (List Value) → List (List Value) → List ℕ → World
world lefts rights sizes = record {
  catalogue = catalogue lefts rights;
  answer = λ p args. value_of p.formula args;
  query = One (record {
    from = (0, codes "a") ∷ (1, codes "b") ∷ [];
    conjuncts = record { condition = Numbers Eq (Argument 0) (Argument 1); columns = (1, 0) ∷ (2, 0) ∷ []; entries = 3; equality = Some ((1, 0), (2, 0)) } ∷ [];
    items = (1, 0) ∷ (2, 0) ∷ [];
    terms = term 1 1 ∷ term 2 2 ∷ [];
    distinct = false;
  }) None;
  view = record { first = sizes; second = [] };
}

-- the rows 1 and 1 in each table
abbrev ones : World
ones = world ((int 1 ∷ []) ∷ (int 1 ∷ []) ∷ []) ((int 1 ∷ []) ∷ (int 1 ∷ []) ∷ []) (2 ∷ 2 ∷ 0 ∷ 0 ∷ 0 ∷ 0 ∷ [])

abbrev row : ℕ → ℕ → ℕ → RankRow
row first second sum = record { ids = record { block = 1; mask = 3; rows = first ∷ second ∷ 0 ∷ 0 ∷ 0 ∷ 0 ∷ [] }; sum = sum }

abbrev left : ℕ → SideAsk
left n = record { side = Left; number = n }

abbrev right : ℕ → SideAsk
right n = record { side = Right; number = n }

-- the second table stands on the left
abbrev turned : PlanTree
turned = JoinOperator Hash (Rank 2 (SeqScan 2)) (Rank 1 (SeqScan 1))

-- equal scores: the row numbers in FROM order decide
list_turned : list_of_plan ones turned ≡ row 1 1 2 ∷ row 1 2 2 ∷ row 2 1 2 ∷ row 2 2 2 ∷ []
list_turned = refl

-- one answer takes one ask of each side, and two answers take two
asks_turned : map (child_asks ones 1 turned) (0 ∷ 1 ∷ 2 ∷ []) ≡
    [] ∷ (left 1 ∷ right 1 ∷ []) ∷ (left 1 ∷ right 1 ∷ left 2 ∷ right 2 ∷ []) ∷ []
asks_turned = refl

-- each rank operator meets the end of its scan at its first row, whose bound is 20 before the call and 11 behind it: so all calls
-- of a side come with its first ask
abbrev p_of_one : Call
p_of_one = record { predicate = codes "p"; args = int 1 ∷ [] }

calls_turned : calls_of_plan ones turned 1 ≡ p_of_one ∷ p_of_one ∷ p_of_one ∷ p_of_one ∷ []
calls_turned = refl

abbrev node : ℕ → ℕ → ℕ → ℕ → Counts
node asked gave calls drawn = record { asked = asked; gave = gave; calls = calls; drawn = drawn }

-- the join, the left side with its scan, and the right side with its own
counts_turned : map (counts_of_plan ones turned) (1 ∷ 2 ∷ [])
    ≡ (node 1 1 0 0 ∷ node 1 1 2 0 ∷ node 3 2 0 2 ∷ node 1 1 2 0 ∷ node 3 2 0 2 ∷ [])
    ∷ (node 2 2 0 0 ∷ node 2 2 2 0 ∷ node 3 2 0 2 ∷ node 2 2 2 0 ∷ node 3 2 0 2 ∷ []) ∷ []
counts_turned = refl

-- a join by trying each pair has the same list and asks the same
abbrev nested : PlanTree
nested = JoinOperator Nested (Rank 2 (SeqScan 2)) (Rank 1 (SeqScan 1))

list_nested : list_of_plan ones nested ≡ list_of_plan ones turned
list_nested = refl

asks_nested : child_asks ones 1 nested 2 ≡ child_asks ones 1 turned 2
asks_nested = refl

-- where the left side is empty the right one is never asked; where the right one alone is, each is asked once
abbrev left_empty : World
left_empty = world [] ((int 1 ∷ []) ∷ []) (0 ∷ 1 ∷ 0 ∷ 0 ∷ 0 ∷ 0 ∷ [])

abbrev right_empty : World
right_empty = world ((int 1 ∷ []) ∷ []) [] (1 ∷ 0 ∷ 0 ∷ 0 ∷ 0 ∷ 0 ∷ [])

asks_left_empty : child_asks left_empty 1 (JoinOperator Nested (SeqScan 1) (SeqScan 2)) 1 ≡ left 1 ∷ []
asks_left_empty = refl

asks_right_empty : child_asks right_empty 1 (JoinOperator Nested (SeqScan 1) (SeqScan 2)) 1 ≡ left 1 ∷ right 1 ∷ []
asks_right_empty = refl

-- a side that is never asked counts nothing
counts_left_empty : counts_of_plan left_empty (JoinOperator Nested (SeqScan 1) (SeqScan 2)) 1 ≡ node 1 0 0 0 ∷ node 1 0 0 0 ∷ node 0 0 0 0 ∷ []
counts_left_empty = refl

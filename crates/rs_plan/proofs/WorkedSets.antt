-- Set operators: lists and asks of their two sides, computed on literals and worked by hand.
use Rattle.std.proofs.Common.{◌≡◌, ℕ, false, List, [], ◌∷◌, ◌++◌, map, refl}
use Rattle.std.specs.Prelude.{pos, None, codes}
use Rattle.rs_value.specs.declared.kind.Kind.TheVariants as kind
use Rattle.rs_value.specs.declared.value.Value.{Value}
use Rattle.rs_value.specs.declared.value.Value.TheVariants as value
use Rattle.rs_order.specs.Schedule.{Left, Right, SideAsk}
use Rattle.rs_rank.specs.declared.row.RankRow.{RankRow}
use Rattle.rs_expr.specs.Formulas.{Argument, Quotient}
use Rattle.rs_expr.specs.Meaning.{value_of}
use Rattle.rs_catalog.specs.Catalog.{NamedTable}
use Rattle.rs_catalog.specs.declared.index.BoundArg.TheVariants as arg
use Rattle.rs_value.specs.declared.set_op.SetOp.{SetOp}
use Rattle.rs_value.specs.declared.set_op.SetOp.TheVariants.{Except, Intersect, Union}
use Rattle.rs_query.specs.declared.block.Block.{Block}
use Rattle.rs_query.specs.declared.query.Query.TheVariants.{Set}
use Rattle.rs_plan.specs.Asks.{child_asks}
use Rattle.rs_plan.specs.Counts.{counts_of_plan}
use Rattle.rs_plan.specs.Lists.{World, list_of_plan}
use Rattle.rs_plan.specs.Trees.{Rank, SeqScan, SetOperator, PlanTree}
use Rattle.rs_plan.specs.declared.counts.Counts.{Counts}

abbrev rows_of : List ℕ → List (List Value)
rows_of numbers = map (λ n. value.Int (pos n) ∷ []) numbers

abbrev table : List ℕ → List ℕ → NamedTable
table name numbers = record { name = name; table = record { schema = (codes "v", kind.Int) ∷ []; rows = rows_of numbers } }

abbrev block : ℕ → Block
block number = record {
  from = (number, codes "t") ∷ [];
  conjuncts = [];
  items = (1, 0) ∷ [];
  terms = record { weight = 1; predicate = 0; args = arg.Column 1 0 ∷ []; max = 10; entries = 1 } ∷ [];
  distinct = false;
}

-- SELECT v FROM u OP SELECT v FROM w ORDER BY half(v)
abbrev world : SetOp → List ℕ → List ℕ → List ℕ → List ℕ → World
world op lefts rights left_sizes right_sizes = record {
  catalogue = record {
    tables = table (codes "u") lefts ∷ table (codes "w") rights ∷ [];
    predicates = record { name = codes "half"; params = kind.Int ∷ []; max = 10; cost = 1; formula = Quotient (Argument 0) (pos 2) } ∷ [];
    indexes = [];
  };
  answer = λ p args. value_of p.formula args;
  query = Set op (block 0) (block 1) None;
  view = record { first = left_sizes; second = right_sizes };
}

-- 3, 1, 3, 4 on the left, and 4, 2, 5, 5 on the right
abbrev both : SetOp → World
both op = world op (3 ∷ 1 ∷ 3 ∷ 4 ∷ []) (4 ∷ 2 ∷ 5 ∷ 5 ∷ []) (4 ∷ 0 ∷ 0 ∷ 0 ∷ 0 ∷ 0 ∷ []) (4 ∷ 0 ∷ 0 ∷ 0 ∷ 0 ∷ 0 ∷ [])

-- each side is scored below the operator
abbrev plan : PlanTree
plan = SetOperator (Rank 1 (SeqScan 1)) (Rank 1 (SeqScan 1))

abbrev row : ℕ → ℕ → ℕ → RankRow
row number first sum = record { ids = record { block = number; mask = 1; rows = first ∷ 0 ∷ 0 ∷ 0 ∷ 0 ∷ 0 ∷ [] }; sum = sum }

abbrev left : ℕ → SideAsk
left n = record { side = Left; number = n }

abbrev right : ℕ → SideAsk
right n = record { side = Right; number = n }

abbrev rights : List ℕ → List SideAsk
rights numbers = map right numbers

list_union : list_of_plan (both Union) plan ≡ row 1 4 2 ∷ row 2 3 2 ∷ row 1 1 1 ∷ row 2 2 1 ∷ row 1 2 0 ∷ []
list_union = refl

list_intersect : list_of_plan (both Intersect) plan ≡ row 1 4 2 ∷ []
list_intersect = refl

list_except : list_of_plan (both Except) plan ≡ row 1 1 1 ∷ row 1 2 0 ∷ []
list_except = refl

-- the first row that the right side lacks: two left rows are asked for, and all right ones have a bound of at least the second's
asks_except : child_asks (both Except) 1 plan 1 ≡ left 1 ∷ rights (1 ∷ 2 ∷ 3 ∷ 4 ∷ []) ++ left 2 ∷ right 5 ∷ []
asks_except = refl

-- the first row that both have, and then the end
asks_intersect : child_asks (both Intersect) 1 plan 1 ≡ left 1 ∷ rights (1 ∷ 2 ∷ 3 ∷ 4 ∷ [])
asks_intersect = refl

asks_intersect_end : child_asks (both Intersect) 1 plan 2 ≡
    left 1 ∷ rights (1 ∷ 2 ∷ 3 ∷ 4 ∷ []) ++ left 2 ∷ right 5 ∷ left 3 ∷ left 4 ∷ left 5 ∷ []
asks_intersect_end = refl

-- each side makes a call for each of its four rows with its first ask: its answers are at most 2, and its bounds 10 before the calls
abbrev node : ℕ → ℕ → ℕ → ℕ → Counts
node asked gave calls drawn = record { asked = asked; gave = gave; calls = calls; drawn = drawn }

counts_except : counts_of_plan (both Except) plan 1 ≡ node 1 1 0 0 ∷ node 2 2 4 0 ∷ node 5 4 0 4 ∷ node 5 4 4 0 ∷ node 5 4 0 4 ∷ []
counts_except = refl

-- 2 and 3 on the left, and 2 on the right: a duplicate is dropped only once its key comes first
abbrev small : World
small = world Union (2 ∷ 3 ∷ []) (2 ∷ []) (2 ∷ 0 ∷ 0 ∷ 0 ∷ 0 ∷ 0 ∷ []) (1 ∷ 0 ∷ 0 ∷ 0 ∷ 0 ∷ 0 ∷ [])

asks_union : child_asks small 1 plan 2 ≡ left 1 ∷ right 1 ∷ left 2 ∷ []
asks_union = refl

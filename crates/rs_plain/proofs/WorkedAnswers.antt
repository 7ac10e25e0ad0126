-- Answers of queries and the calls behind them, computed on literals and worked by hand.
use Rattle.std.proofs.Common.{◌≡◌, ℕ, Bool, true, false, List, [], ◌∷◌, map, refl}
use Rattle.std.specs.Prelude.{pos, Option, Some, None, Result, Ok, Err, codes}
use Rattle.rs_value.specs.declared.kind.Kind.{Kind}
use Rattle.rs_value.specs.declared.kind.Kind.TheVariants as kind
use Rattle.rs_value.specs.declared.rel.Rel.TheVariants.{Eq}
use Rattle.rs_value.specs.declared.value.Value.{Value}
use Rattle.rs_value.specs.declared.value.Value.TheVariants as value
use Rattle.rs_table.specs.Column.{Column}
use Rattle.rs_rank.specs.declared.answer.Answer.{Answer}
use Rattle.rs_expr.specs.Formulas.{Argument, Constant, Difference, Formula, Magnitude, Numbers, Quotient}
use Rattle.rs_expr.specs.InOrder.{calls_of}
use Rattle.rs_expr.specs.Meaning.{value_of}
use Rattle.rs_expr.specs.Predicates.{PredicateDef}
use Rattle.rs_expr.specs.Scoring.{Answering}
use Rattle.rs_expr.specs.declared.scorer.Call.{Call}
use Rattle.rs_catalog.specs.Catalog.{CatalogDef, NamedTable}
use Rattle.rs_catalog.specs.declared.index.BoundArg.TheVariants as arg
use Rattle.rs_value.specs.declared.set_op.SetOp.{SetOp}
use Rattle.rs_value.specs.declared.set_op.SetOp.TheVariants.{UnionAll, Union, Intersect, Except}
use Rattle.rs_query.specs.Views.{View, all_rows}
use Rattle.rs_query.specs.declared.block.Block.{Block}
use Rattle.rs_query.specs.declared.query.Query.{Query}
use Rattle.rs_query.specs.declared.query.Query.TheVariants.{One, Set}
use Rattle.rs_query.specs.declared.term.Term.{Term}
use Rattle.rs_plain.specs.Plain.{evaluation_of}
use Rattle.rs_plain.specs.declared.fault.PlainFault.{PlainFault}
use Rattle.rs_plain.specs.declared.fault.PlainFault.TheVariants.{BadScore}

abbrev int : ℕ → Value
int n = value.Int (pos n)

abbrev words : List ℕ → Value
words text = value.Text text

abbrev number : List ℕ → Column
number name = (name, kind.Int)

abbrev table : List ℕ → List Column → List (List Value) → NamedTable
table name schema rows = record { name = name; table = record { schema = schema; rows = rows } }

abbrev predicate : List ℕ → List Kind → ℕ → Formula → PredicateDef
predicate name params max formula = record { name = name; params = params; max = max; cost = 1; formula = formula }

-- what the scorer answers is the value of the formula
abbrev answer : Answering
answer p args = value_of p.formula args

-- the tables h (name TEXT, price INT, city INT), t (x INT, y INT), u (v INT) and w (v INT), and the predicates near, p and half
abbrev catalogue : CatalogDef
catalogue = record {
  tables = table (codes "h") ((codes "name", kind.Text) ∷ number (codes "price") ∷ number (codes "city") ∷ [])
      ((words (codes "a") ∷ int 40 ∷ int 1 ∷ []) ∷ (words (codes "b") ∷ int 90 ∷ int 1 ∷ []) ∷ (words (codes "c") ∷ int 40 ∷ int 2 ∷ []) ∷ [])
      ∷ table (codes "t") (number (codes "x") ∷ number (codes "y") ∷ [])
      ((int 10 ∷ int 3 ∷ []) ∷ (int 8 ∷ int 9 ∷ []) ∷ (int 5 ∷ int 1 ∷ []) ∷ (int 2 ∷ int 10 ∷ []) ∷ [])
      ∷ table (codes "u") (number (codes "v") ∷ []) ((int 3 ∷ []) ∷ (int 1 ∷ []) ∷ (int 3 ∷ []) ∷ (int 4 ∷ []) ∷ [])
      ∷ table (codes "w") (number (codes "v") ∷ []) ((int 4 ∷ []) ∷ (int 2 ∷ []) ∷ (int 5 ∷ []) ∷ (int 5 ∷ []) ∷ []) ∷ [];
  predicates = predicate (codes "near") (kind.Int ∷ kind.Int ∷ []) 100 (Difference (Constant (pos 100)) (Magnitude (Difference (Argument 0) (Argument 1))))
      ∷ predicate (codes "p") (kind.Int ∷ []) 10 (Argument 0)
      ∷ predicate (codes "half") (kind.Int ∷ []) 10 (Quotient (Argument 0) (pos 2)) ∷ [];
  indexes = [];
}

-- an entry of this table, and a term of weight 1 over one column of entry 1
abbrev of_table : ℕ → ℕ × List ℕ
of_table n = (n, codes "e")

abbrev term_over : ℕ → ℕ → ℕ → Term
term_over p max column = record { weight = 1; predicate = p; args = arg.Column 1 column ∷ []; max = max; entries = 1 }

abbrev call : List ℕ → List Value → Call
call name args = record { predicate = name; args = args }

-- what a query gives, and the calls behind it
abbrev outcome : Query → Result (List Answer) PlainFault
outcome query = (evaluation_of answer catalogue query (all_rows catalogue query)).outcome

abbrev calls : Query → List Call
calls query = calls_of (evaluation_of answer catalogue query (all_rows catalogue query)).requests

-- the scores and output values of an answer
abbrev shown : Result (List Answer) PlainFault → Result (List (ℕ × List Value)) PlainFault
shown (Ok rows) = Ok (map (λ (row : Answer). (row.score, row.values)) rows)
shown (Err fault) = Err fault

-- SELECT x.name, y.name FROM h x, h y WHERE x.city = y.city ORDER BY near(x.price, y.price) LIMIT 3
abbrev pairs : Query
pairs = One (record {
  from = of_table 0 ∷ of_table 0 ∷ [];
  conjuncts = record { condition = Numbers Eq (Argument 0) (Argument 1); columns = (1, 2) ∷ (2, 2) ∷ []; entries = 3; equality = Some ((1, 2), (2, 2)) } ∷ [];
  items = (1, 0) ∷ (2, 0) ∷ [];
  terms = record { weight = 1; predicate = 0; args = arg.Column 1 1 ∷ arg.Column 2 1 ∷ []; max = 100; entries = 3 } ∷ [];
  distinct = false;
}) (Some 3)

abbrev row : ℕ → ℕ → ℕ → List ℕ → List ℕ → Answer
row left right score first second = record {
  ids = record { block = 1; mask = 3; rows = left ∷ right ∷ 0 ∷ 0 ∷ 0 ∷ 0 ∷ [] };
  score = score;
  values = words first ∷ words second ∷ [];
}

pairs-answer : outcome pairs
    ≡ Ok (row 1 1 100 (codes "a") (codes "a") ∷ row 2 2 100 (codes "b") (codes "b") ∷ row 3 3 100 (codes "c") (codes "c") ∷ [])
pairs-answer = refl

-- five combinations satisfy the condition, and each is asked for once, in lexicographic order
pairs-calls : calls pairs
    ≡ call (codes "near") (int 40 ∷ int 40 ∷ []) ∷ call (codes "near") (int 40 ∷ int 90 ∷ []) ∷ call (codes "near") (int 90 ∷ int 40 ∷ [])
    ∷ call (codes "near") (int 90 ∷ int 90 ∷ []) ∷ call (codes "near") (int 40 ∷ int 40 ∷ []) ∷ []
pairs-calls = refl

-- SELECT x, y FROM t ORDER BY p(x) + p(y), with a weight of 2 for y
abbrev sums : ℕ → Option ℕ → Query
sums weight limit = One (record {
  from = of_table 1 ∷ [];
  conjuncts = [];
  items = (1, 0) ∷ (1, 1) ∷ [];
  terms = term_over 1 10 0 ∷ record { weight = weight; predicate = 1; args = arg.Column 1 1 ∷ []; max = 10; entries = 1 } ∷ [];
  distinct = false;
}) limit

sums-answer : shown (outcome (sums 1 None))
    ≡ Ok ((17, int 8 ∷ int 9 ∷ []) ∷ (13, int 10 ∷ int 3 ∷ []) ∷ (12, int 2 ∷ int 10 ∷ []) ∷ (6, int 5 ∷ int 1 ∷ []) ∷ [])
sums-answer = refl

-- the weight counts, and LIMIT cuts the sorted rows
sums-weighted : shown (outcome (sums 2 (Some 2))) ≡ Ok ((26, int 8 ∷ int 9 ∷ []) ∷ (22, int 2 ∷ int 10 ∷ []) ∷ [])
sums-weighted = refl

-- all calls are made, also with LIMIT 0
sums-calls : calls (sums 1 (Some 0))
    ≡ call (codes "p") (int 10 ∷ []) ∷ call (codes "p") (int 3 ∷ []) ∷ call (codes "p") (int 8 ∷ []) ∷ call (codes "p") (int 9 ∷ [])
    ∷ call (codes "p") (int 5 ∷ []) ∷ call (codes "p") (int 1 ∷ []) ∷ call (codes "p") (int 2 ∷ []) ∷ call (codes "p") (int 10 ∷ []) ∷ []
sums-calls = refl

-- a query that sees the first two rows alone
abbrev two_rows : View
two_rows = record { first = 2 ∷ 0 ∷ 0 ∷ 0 ∷ 0 ∷ 0 ∷ []; second = [] }

sums-seen : shown (evaluation_of answer catalogue (sums 1 None) two_rows).outcome ≡ Ok ((17, int 8 ∷ int 9 ∷ []) ∷ (13, int 10 ∷ int 3 ∷ []) ∷ [])
sums-seen = refl

sums-seen-calls : calls_of (evaluation_of answer catalogue (sums 1 None) two_rows).requests
    ≡ call (codes "p") (int 10 ∷ []) ∷ call (codes "p") (int 3 ∷ []) ∷ call (codes "p") (int 8 ∷ []) ∷ call (codes "p") (int 9 ∷ []) ∷ []
sums-seen-calls = refl

-- SELECT DISTINCT city FROM h ORDER BY p(city)
abbrev cities : Bool → Query
cities distinct = One (record { from = of_table 0 ∷ []; conjuncts = []; items = (1, 2) ∷ []; terms = term_over 1 10 2 ∷ []; distinct = distinct }) None

cities-distinct : shown (outcome (cities true)) ≡ Ok ((2, int 2 ∷ []) ∷ (1, int 1 ∷ []) ∷ [])
cities-distinct = refl

cities-all : shown (outcome (cities false)) ≡ Ok ((2, int 2 ∷ []) ∷ (1, int 1 ∷ []) ∷ (1, int 1 ∷ []) ∷ [])
cities-all = refl

-- SELECT name FROM h ORDER BY p(price): the first number above MAX is told with its row, and is the last call
abbrev dear : Query
dear = One (record { from = of_table 0 ∷ []; conjuncts = []; items = (1, 0) ∷ []; terms = term_over 1 10 1 ∷ []; distinct = false }) None

dear-refused : outcome dear ≡ Err (BadScore 1 (record { block = 1; mask = 1; rows = 1 ∷ 0 ∷ 0 ∷ 0 ∷ 0 ∷ 0 ∷ [] }) (pos 40) 10)
dear-refused = refl

dear-calls : calls dear ≡ call (codes "p") (int 40 ∷ []) ∷ []
dear-calls = refl

-- SELECT v FROM u .. SELECT v FROM w ORDER BY half(v)
abbrev side : ℕ → Block
side n = record { from = of_table n ∷ []; conjuncts = []; items = (1, 0) ∷ []; terms = term_over 2 10 0 ∷ []; distinct = false }

abbrev both : SetOp → Query
both op = Set op (side 2) (side 3) None

union-all : shown (outcome (both UnionAll))
    ≡ Ok ((2, int 4 ∷ []) ∷ (2, int 4 ∷ []) ∷ (2, int 5 ∷ []) ∷ (2, int 5 ∷ []) ∷ (1, int 3 ∷ []) ∷ (1, int 3 ∷ []) ∷ (1, int 2 ∷ []) ∷ (0, int 1 ∷ []) ∷ [])
union-all = refl

union : shown (outcome (both Union))
    ≡ Ok ((2, int 4 ∷ []) ∷ (2, int 5 ∷ []) ∷ (1, int 3 ∷ []) ∷ (1, int 2 ∷ []) ∷ (0, int 1 ∷ []) ∷ [])
union = refl

intersect : shown (outcome (both Intersect)) ≡ Ok ((2, int 4 ∷ []) ∷ [])
intersect = refl

except : shown (outcome (both Except)) ≡ Ok ((1, int 3 ∷ []) ∷ (0, int 1 ∷ []) ∷ [])
except = refl

-- What the nodes of plans of one table count, computed on literals and worked by hand.
use Rattle.std.proofs.Common.{◌≡◌, ℕ, Bool, true, false, List, [], ◌∷◌, map, refl}
use Rattle.std.specs.Prelude.{pos, None, codes}
use Rattle.rs_value.specs.declared.kind.Kind.TheVariants as kind
use Rattle.rs_value.specs.declared.rel.Rel.TheVariants.{Le}
use Rattle.rs_value.specs.declared.value.Value.{Value}
use Rattle.rs_value.specs.declared.value.Value.TheVariants as value
use Rattle.rs_rank.specs.declared.scored_row.ScoredRow.{ScoredRow}
use Rattle.rs_expr.specs.Formulas.{Argument, Constant, Numbers}
use Rattle.rs_expr.specs.Meaning.{value_of}
use Rattle.rs_expr.specs.Predicates.{PredicateDef}
use Rattle.rs_catalog.specs.declared.index.BoundArg.TheVariants as arg
use Rattle.rs_query.specs.declared.query.Query.TheVariants.{One}
use Rattle.rs_query.specs.declared.term.Term.{Term}
use Rattle.rs_plan.specs.Counts.{counts_of_plan}
use Rattle.rs_plan.specs.Lists.{World}
use Rattle.rs_plan.specs.Trees.{Distinct, Rank, RankScan, SeqScan}
use Rattle.rs_plan.specs.declared.counts.Counts.{Counts}

abbrev row : ℕ → ℕ → List Value
row x y = value.Int (pos x) ∷ value.Int (pos y) ∷ []

abbrev entry : ℕ → ℕ → ScoredRow
entry score number = record { score = score; row = number }

abbrev predicate : List ℕ → PredicateDef
predicate name = record { name = name; params = kind.Int ∷ []; max = 10; cost = 1; formula = Argument 0 }

-- a predicate of a column of t
abbrev term : ℕ → Term
term number = record { weight = 1; predicate = number; args = arg.Column 1 number ∷ []; max = 10; entries = 1 }

-- SELECT x FROM t WHERE x <= 8 ORDER BY p(x) + q(y), with DISTINCT or without, over a table t of two columns that has these rows;
-- p and q are their argument; there is an index of q(y), and the query sees this many rows
abbrev world : Bool → List (List Value) → List ScoredRow → ℕ → World
world distinct rows ranking size = record {
  catalogue = record {
    tables = record { name = codes "t"; table = record { schema = (codes "x", kind.Int) ∷ (codes "y", kind.Int) ∷ []; rows = rows } } ∷ [];
    predicates = predicate (codes "p") ∷ predicate (codes "q") ∷ [];
    indexes = record { def = record { name = codes "qy"; table = 0; predicate = 1; args = arg.Column 1 1 ∷ [] }; ranking = ranking } ∷ [];
  };
  answer = λ p args. value_of p.formula args;
  query = One (record {
    from = (0, codes "t") ∷ [];
    conjuncts = record { condition = Numbers Le (Argument 0) (Constant (pos 8)); columns = (1, 0) ∷ []; entries = 1; equality = None } ∷ [];
    items = (1, 0) ∷ [];
    terms = term 0 ∷ term 1 ∷ [];
    distinct = distinct;
  }) None;
  view = record { first = size ∷ 0 ∷ 0 ∷ 0 ∷ 0 ∷ 0 ∷ []; second = [] };
}

-- row 1 doesn't satisfy the condition; rows 2, 3 and 4 have the sums 17, 6 and 12
abbrev four : ℕ → World
four size =
    world false (row 10 3 ∷ row 8 9 ∷ row 5 1 ∷ row 2 10 ∷ [])
    (entry 10 4 ∷ entry 9 2 ∷ entry 3 1 ∷ entry 1 3 ∷ []) size

-- asked, gave, calls, drawn
abbrev node : ℕ → ℕ → ℕ → ℕ → Counts
node asked gave calls drawn = record { asked = asked; gave = gave; calls = calls; drawn = drawn }

-- a scan draws the rows that it passes over too; the ask that finds the end draws all
scan : map (counts_of_plan (four 4) (SeqScan 1)) (0 ∷ 1 ∷ 2 ∷ 3 ∷ 4 ∷ [])
    ≡ (node 0 0 0 0 ∷ []) ∷ (node 1 1 0 2 ∷ []) ∷ (node 2 2 0 3 ∷ []) ∷ (node 3 3 0 4 ∷ []) ∷ (node 4 3 0 4 ∷ []) ∷ []
scan = refl

nothing_passes : map (counts_of_plan (four 1) (SeqScan 1)) (0 ∷ 1 ∷ []) ≡ (node 0 0 0 0 ∷ []) ∷ (node 1 0 0 1 ∷ []) ∷ []
nothing_passes = refl

-- a scan of the index gives rows 4, 2 and 3, and passes over row 1 before row 3
scan_of_index : map (counts_of_plan (four 4) (RankScan 1 2 0)) (1 ∷ 2 ∷ 3 ∷ 4 ∷ [])
    ≡ (node 1 1 0 1 ∷ []) ∷ (node 2 2 0 2 ∷ []) ∷ (node 3 3 0 4 ∷ []) ∷ (node 4 3 0 4 ∷ []) ∷ []
scan_of_index = refl

-- a view of three rows has no row 4: places in the index are those among the rows of the view
scan_of_view : map (counts_of_plan (four 3) (RankScan 1 2 0)) (1 ∷ 2 ∷ 3 ∷ [])
    ≡ (node 1 1 0 1 ∷ []) ∷ (node 2 2 0 3 ∷ []) ∷ (node 3 2 0 3 ∷ []) ∷ []
scan_of_view = refl

-- p over the index: the bounds are 20, 19 and 11, so the first answer, of sum 17, takes three rows and a call for each; the third
-- one, of sum 6, takes the ask that finds the end
over_index : map (counts_of_plan (four 4) (Rank 1 (RankScan 1 2 0))) (0 ∷ 1 ∷ 2 ∷ 3 ∷ 4 ∷ [])
    ≡ (node 0 0 0 0 ∷ node 0 0 0 0 ∷ [])
    ∷ (node 1 1 3 0 ∷ node 3 3 0 4 ∷ [])
    ∷ (node 2 2 3 0 ∷ node 3 3 0 4 ∷ [])
    ∷ (node 3 3 3 0 ∷ node 4 3 0 4 ∷ [])
    ∷ (node 4 3 3 0 ∷ node 4 3 0 4 ∷ []) ∷ []
over_index = refl

-- p over q: the scan meets its end at once, since no bound falls before q is known
twice : counts_of_plan (four 4) (Rank 1 (Rank 2 (SeqScan 1))) 1 ≡ node 1 1 3 0 ∷ node 3 3 3 0 ∷ node 4 3 0 4 ∷ []
twice = refl

-- duplicates are dropped: rows 1 and 3 are given, and row 2 is asked for with row 3
abbrev double : World
double = world true (row 8 9 ∷ row 8 1 ∷ row 2 10 ∷ []) [] 3

distinct : map (counts_of_plan double (Distinct (SeqScan 1))) (1 ∷ 2 ∷ 3 ∷ [])
    ≡ (node 1 1 0 0 ∷ node 1 1 0 1 ∷ []) ∷ (node 2 2 0 0 ∷ node 3 3 0 3 ∷ []) ∷ (node 3 2 0 0 ∷ node 4 3 0 3 ∷ []) ∷ []
distinct = refl

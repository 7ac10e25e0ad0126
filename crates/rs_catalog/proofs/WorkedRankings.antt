-- Rankings worked by hand: a table of two columns of numbers, and predicates whose answers are the values of their formulas.
use Rattle.std.proofs.Common.{ℕ, pos, negsuc, ◌≡◌, List, [], ◌∷◌, refl}
use Rattle.std.specs.Prelude.{Ok, Err, codes}
use Rattle.rs_value.specs.declared.kind.Kind.TheVariants as kind
use Rattle.rs_value.specs.declared.value.Value.{Value}
use Rattle.rs_value.specs.declared.value.Value.TheVariants.{Int, Text}
use Rattle.rs_expr.specs.Formulas.{Argument, Sum}
use Rattle.rs_expr.specs.Meaning.{value_of}
use Rattle.rs_expr.specs.Predicates.{PredicateDef}
use Rattle.rs_expr.specs.declared.scorer.Call.{Call}
use Rattle.rs_rank.specs.declared.scored_row.ScoredRow.{ScoredRow}
use Rattle.rs_expr.specs.InOrder.{Inquiry, Request, calls_of}
use Rattle.rs_catalog.specs.Indexes.{making_of}
use Rattle.rs_catalog.specs.declared.index.BoundArg.{BoundArg}
use Rattle.rs_catalog.specs.declared.index.BoundArg.TheVariants as arg
use Rattle.rs_catalog.specs.declared.index.IndexFault.{IndexFault}
use Rattle.rs_catalog.specs.declared.index.IndexFault.TheVariants.{BadScore, Probe}

-- rows of two numbers
abbrev row : ℕ → ℕ → List Value
row x y = Int (pos x) ∷ Int (pos y) ∷ []

abbrev table : List (List Value)
table = row 10 3 ∷ row 8 9 ∷ row 5 1 ∷ row 2 10 ∷ []

-- a predicate of scores up to 10 whose answer is its argument
abbrev own : PredicateDef
own = record { name = codes "p"; params = kind.Int ∷ []; max = 10; cost = 1; formula = Argument 0 }

-- a predicate of three arguments, whose answer is the sum of the first two
abbrev sum : PredicateDef
sum = record { name = codes "q"; params = kind.Int ∷ kind.Int ∷ kind.Text ∷ []; max = 20; cost = 1; formula = Sum (Argument 0) (Argument 1) }

-- making an index where each answer is the value of the formula
abbrev made : PredicateDef → List BoundArg → List (List Value) → Inquiry (List ScoredRow) IndexFault
made predicate args rows = making_of (λ p values. value_of p.formula values) predicate args rows

-- an entry by its score and its row, and a call by its predicate and its arguments
abbrev entry : ℕ → ℕ → ScoredRow
entry score number = record { score = score; row = number }

abbrev call : PredicateDef → List Value → Call
call predicate args = record { predicate = predicate.name; args = args }

-- a request for such a call
abbrev request : PredicateDef → List Value → Request IndexFault
request predicate args = record { call = call predicate args; failed = Probe }

abbrev number : ℕ → Value
number n = Int (pos n)

-- over the first column the rows fall already
first_column : (made own (arg.Column 1 0 ∷ []) table).outcome ≡ Ok (entry 10 1 ∷ entry 8 2 ∷ entry 5 3 ∷ entry 2 4 ∷ [])
first_column = refl

-- over the second one the last row comes first
second_column : (made own (arg.Column 1 1 ∷ []) table).outcome ≡ Ok (entry 10 4 ∷ entry 9 2 ∷ entry 3 1 ∷ entry 1 3 ∷ [])
second_column = refl

-- each row is asked for, in the order of the rows and not in that of the scores
calls_second_column : calls_of (made own (arg.Column 1 1 ∷ []) table).requests ≡ call own (number 3 ∷ []) ∷ call own (number 9 ∷ []) ∷ call own (number 1 ∷ []) ∷ call own (number 10 ∷ []) ∷ []
calls_second_column = refl

-- rows of one score stand as they stood
ties : (made own (arg.Column 1 0 ∷ []) (row 4 1 ∷ row 7 2 ∷ row 4 3 ∷ row 7 4 ∷ row 0 5 ∷ row 4 6 ∷ [])).outcome
    ≡ Ok (entry 7 2 ∷ entry 7 4 ∷ entry 4 1 ∷ entry 4 3 ∷ entry 4 6 ∷ entry 0 5 ∷ [])
ties = refl

-- no row, no call
nothing : made own (arg.Column 1 0 ∷ []) [] ≡ record { requests = []; outcome = Ok [] }
nothing = refl

-- the third row's number is above the greatest score: no row behind it is asked for
above : made own (arg.Column 1 0 ∷ []) (row 3 0 ∷ row 9 0 ∷ row 11 0 ∷ row 1 0 ∷ []) ≡ record {
  requests = request own (number 3 ∷ []) ∷ request own (number 9 ∷ []) ∷ request own (number 11 ∷ []) ∷ [];
  outcome = Err (BadScore 3 (pos 11) 10);
}
above = refl

-- a number below 0 is no score, and the greatest one is
below : (made own (arg.Column 1 0 ∷ []) ((Int (pos 10) ∷ []) ∷ (Int (negsuc 0) ∷ []) ∷ (Int (pos 10) ∷ []) ∷ [])).outcome ≡ Err (BadScore 2 (negsuc 0) 10)
below = refl

-- constants are given to each call
constants : made sum (arg.Column 1 1 ∷ arg.Int (pos 2) ∷ arg.Text (codes "a") ∷ []) table ≡ record {
  requests = request sum (number 3 ∷ number 2 ∷ Text (codes "a") ∷ []) ∷ request sum (number 9 ∷ number 2 ∷ Text (codes "a") ∷ [])
      ∷ request sum (number 1 ∷ number 2 ∷ Text (codes "a") ∷ []) ∷ request sum (number 10 ∷ number 2 ∷ Text (codes "a") ∷ []) ∷ [];
  outcome = Ok (entry 12 4 ∷ entry 11 2 ∷ entry 5 1 ∷ entry 3 3 ∷ []);
}
constants = refl

-- The spans of statements are in order: each part of a statement lies within the whole, and parts stand one behind the other, from
-- left to right, and share no byte.
use Rattle.std.specs.Prelude.{ℕ, ℤ, ◌<◌, ◌≤◌, List, [], ◌∷◌, Option, Some, None}
use Rattle.rs_lex.specs.declared.token.Span.{Span}
use Rattle.rs_value.specs.declared.kind.Kind as value
use Rattle.rs_syntax.specs.declared.name.Name.{Name}
use Rattle.rs_syntax.specs.declared.name.ColRef.{ColRef}
use Rattle.rs_syntax.specs.declared.name.Arg.{Arg}
use Rattle.rs_syntax.specs.declared.name.Arg.TheVariants as arg
use Rattle.rs_syntax.specs.declared.row.Cell.{Cell}
use Rattle.rs_syntax.specs.declared.row.Cell.TheVariants as cell
use Rattle.rs_syntax.specs.declared.row.RowSyn.{RowSyn}
use Rattle.rs_syntax.specs.declared.select.TermSyn.{TermSyn}
use Rattle.rs_syntax.specs.declared.select.Items.{Items}
use Rattle.rs_syntax.specs.declared.select.Items.TheVariants as items
use Rattle.rs_value.specs.declared.set_op.SetOp.{SetOp}
use Rattle.rs_syntax.specs.Syntax.{Expression, Int, Text, Column, Neg, Arith, Abs, Least, Greatest, Case, Compare, And, Or, Not, Block, Query, Command, CreateTable, CreatePredicate, CreateRankIndex, Ask, Declare, Fetch, Close, Explain, ExplainAnalyze, Insert}

-- a span that isn't empty lies from one place up to another
abbrev pub Lies : ℕ → ℕ → Span → Type 0
Lies from to at = (from ≤ at.start) × (at.start < at.end) × (at.end ≤ to)

-- something that stands from one place up to another: a span
abbrev pub At : Span → ℕ → ℕ → Type 0
At at from to = Lies from to at

-- one thing, and another behind it: the second starts where the first ends, or after that
infixr 20 ◌before◌
abbrev pub ◌before◌ : (ℕ → ℕ → Type 0) → (ℕ → ℕ → Type 0) → ℕ → ℕ → Type 0
(First before Second) from to = (middle : ℕ) × First from middle × Second middle to

-- a whole, and its parts within it
abbrev pub Whole : Span → (ℕ → ℕ → Type 0) → ℕ → ℕ → Type 0
Whole at Parts from to = Lies from to at × Parts at.start at.end

-- what may be left out
abbrev pub Maybe : {A : Type 0} → (A → ℕ → ℕ → Type 0) → Option A → ℕ → ℕ → Type 0
Maybe Stands None from to = from ≤ to
Maybe Stands (Some a) from to = Stands a from to

-- each of a list behind the one before it
abbrev pub Each : {A : Type 0} → (A → ℕ → ℕ → Type 0) → List A → ℕ → ℕ → Type 0
Each Stands [] from to = from ≤ to
Each Stands (a ∷ rest) from to = (middle : ℕ) × Stands a from middle × Each Stands rest middle to

abbrev pub NameIn : Name → ℕ → ℕ → Type 0
NameIn name = At name.at

abbrev pub ColumnIn : ColRef → ℕ → ℕ → Type 0
ColumnIn column = Maybe NameIn column.alias before NameIn column.column

-- an expression: the parts of each node lie within its span, from left to right; brackets round a node aren't part of it, and
-- lie within the span of what it is a part of
abbrev pub ExpressionIn : Expression → ℕ → ℕ → Type 0
ExpressionIn (Int n at) = At at
ExpressionIn (Text text at) = At at
ExpressionIn (Column column) = ColumnIn column
ExpressionIn (Neg part at) = Whole at (ExpressionIn part)
ExpressionIn (Arith op left right at) = Whole at (ExpressionIn left before ExpressionIn right)
ExpressionIn (Abs part at) = Whole at (ExpressionIn part)
ExpressionIn (Least left right at) = Whole at (ExpressionIn left before ExpressionIn right)
ExpressionIn (Greatest left right at) = Whole at (ExpressionIn left before ExpressionIn right)
ExpressionIn (Case condition result rest at) = Whole at (ExpressionIn condition before ExpressionIn result before ExpressionIn rest)
ExpressionIn (Compare rel left right at) = Whole at (ExpressionIn left before ExpressionIn right)
ExpressionIn (And left right at) = Whole at (ExpressionIn left before ExpressionIn right)
ExpressionIn (Or left right at) = Whole at (ExpressionIn left before ExpressionIn right)
ExpressionIn (Not part at) = Whole at (ExpressionIn part)

abbrev pub ArgIn : Arg → ℕ → ℕ → Type 0
ArgIn (arg.Column column) = ColumnIn column
ArgIn (arg.Int n at) = At at
ArgIn (arg.Text text at) = At at

abbrev pub NumberIn : ℤ × Span → ℕ → ℕ → Type 0
NumberIn number = At number.1

-- a weight that isn't written has the place of the predicate's name
abbrev pub TermIn : TermSyn → ℕ → ℕ → Type 0
TermIn term = Whole term.at (λ from to. NumberIn term.weight from to × (NameIn term.predicate before Each ArgIn term.args) from to)

abbrev pub ItemsIn : Items → ℕ → ℕ → Type 0
ItemsIn (items.Star at) = At at
ItemsIn (items.List columns) = Each ColumnIn columns

-- a table and its alias
abbrev pub EntryIn : Name × Option Name → ℕ → ℕ → Type 0
EntryIn entry = NameIn entry.0 before Maybe NameIn entry.1

abbrev pub BlockIn : Block → ℕ → ℕ → Type 0
BlockIn b = ItemsIn b.items before Each EntryIn b.from before Maybe ExpressionIn b.filter

-- the block behind a set operator
abbrev pub RightIn : SetOp × Block → ℕ → ℕ → Type 0
RightIn right = BlockIn right.1

abbrev pub QueryIn : Query → ℕ → ℕ → Type 0
QueryIn q = BlockIn q.left before Maybe RightIn q.right before Each TermIn q.terms before Maybe NumberIn q.limit

-- a column of a table or of a predicate, with its type
abbrev pub TypedIn : Name × value.Kind → ℕ → ℕ → Type 0
TypedIn column = NameIn column.0

abbrev pub CellIn : Cell → ℕ → ℕ → Type 0
CellIn (cell.Int n at) = At at
CellIn (cell.Text text at) = At at

-- a row from its first bracket to its last
abbrev pub RowIn : RowSyn → ℕ → ℕ → Type 0
RowIn row = Whole row.at (Each CellIn row.cells)

abbrev pub CommandIn : Command → ℕ → ℕ → Type 0
CommandIn (CreateTable name columns file) = NameIn name before Each TypedIn columns
CommandIn (CreatePredicate name params max cost formula) =
    NameIn name before Each TypedIn params before NumberIn max before Maybe NumberIn cost before ExpressionIn formula
CommandIn (CreateRankIndex name table predicate args at) = NameIn name before NameIn table before Whole at (NameIn predicate before Each ArgIn args)
CommandIn (Ask query) = QueryIn query
CommandIn (Declare name query) = NameIn name before QueryIn query
CommandIn (Fetch count name) = NumberIn count before NameIn name
CommandIn (Close name) = NameIn name
CommandIn (Explain query) = QueryIn query
CommandIn (ExplainAnalyze query) = QueryIn query
CommandIn (Insert table rows) = NameIn table before Each RowIn rows

-- statements stand one behind the other, from one place of a script up to another
abbrev pub SpansInOrder : ℕ → ℕ → List Command → Type 0
SpansInOrder from to commands = Each CommandIn commands from to

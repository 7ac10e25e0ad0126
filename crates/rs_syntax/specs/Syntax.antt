-- Statements, without where their parts lie in memory.
use Rattle.std.specs.Prelude.{ℕ, ℤ, Bool, List, Option, option_map, map}
use Rattle.rs_value.specs.declared.rel.Rel.{Rel}
use Rattle.rs_lex.specs.declared.token.Span.{Span}
use Rattle.rs_value.specs.declared.kind.Kind.{Kind}
use Rattle.rs_syntax.specs.declared.name.Name.{Name}
use Rattle.rs_syntax.specs.declared.name.ColRef.{ColRef}
use Rattle.rs_syntax.specs.declared.name.Arg.{Arg}
use Rattle.rs_syntax.specs.declared.node.Op.{Op}
use Rattle.rs_syntax.specs.declared.node.Node.{Node}
use Rattle.rs_syntax.specs.declared.node.Node.TheVariants as node
use Rattle.rs_syntax.specs.declared.row.RowSyn.{RowSyn}
use Rattle.rs_syntax.specs.declared.select.TermSyn.{TermSyn}
use Rattle.rs_syntax.specs.declared.select.Items.{Items}
use Rattle.rs_value.specs.declared.set_op.SetOp.{SetOp}
use Rattle.rs_syntax.specs.declared.select.BlockSyn.{BlockSyn}
use Rattle.rs_syntax.specs.declared.select.Select.{Select}
use Rattle.rs_syntax.specs.declared.statement.Statement.{Statement}
use Rattle.rs_syntax.specs.declared.statement.Statement.TheVariants as statement

-- an expression, each part with its place
pub data Expression : Type 0 where
  Int : ℤ → Span → Expression
  Text : List ℕ → Span → Expression
  Column : ColRef → Expression
  Neg : Expression → Span → Expression
  Arith : Op → Expression → Expression → Span → Expression
  Abs : Expression → Span → Expression
  Least : Expression → Expression → Span → Expression
  Greatest : Expression → Expression → Span → Expression
  Case : Expression → Expression → Expression → Span → Expression
  Compare : Rel → Expression → Expression → Span → Expression
  And : Expression → Expression → Span → Expression
  Or : Expression → Expression → Span → Expression
  Not : Expression → Span → Expression

-- SELECT, FROM and WHERE
pub record Block : Type 0 where
  pub distinct : Bool
  pub items : Items
  pub from : List (Name × Option Name)
  pub filter : Option Expression

-- a query of one block or two
pub record Query : Type 0 where
  pub left : Block
  pub right : Option (SetOp × Block)
  pub terms : List TermSyn
  pub limit : Option (ℤ × Span)

-- a statement
pub data Command : Type 0 where
  CreateTable : Name → List (Name × Kind) → List ℕ → Command
  CreatePredicate : Name → List (Name × Kind) → ℤ × Span → Option (ℤ × Span) → Expression → Command
  CreateRankIndex : Name → Name → Name → List Arg → Span → Command
  Ask : Query → Command
  Declare : Name → Query → Command
  Fetch : ℤ × Span → Name → Command
  Close : Name → Command
  Explain : Query → Command
  ExplainAnalyze : Query → Command
  Insert : Name → List RowSyn → Command

abbrev pub expression_of : Node → Expression
expression_of (node.Int n at) = Int n at
expression_of (node.Text text at) = Text text at
expression_of (node.Column column) = Column column
expression_of (node.Neg' p part at) = Neg (expression_of part) at
expression_of (node.Arith' op p left q right at) = Arith op (expression_of left) (expression_of right) at
expression_of (node.Abs' p part at) = Abs (expression_of part) at
expression_of (node.Least' p left q right at) = Least (expression_of left) (expression_of right) at
expression_of (node.Greatest' p left q right at) = Greatest (expression_of left) (expression_of right) at
expression_of (node.Case' p condition q result r rest at) = Case (expression_of condition) (expression_of result) (expression_of rest) at
expression_of (node.Compare' rel p left q right at) = Compare rel (expression_of left) (expression_of right) at
expression_of (node.And' p left q right at) = And (expression_of left) (expression_of right) at
expression_of (node.Or' p left q right at) = Or (expression_of left) (expression_of right) at
expression_of (node.Not' p part at) = Not (expression_of part) at

abbrev pub block_of : BlockSyn → Block
block_of b = record { distinct = b.distinct; items = b.items; from = b.from; filter = option_map expression_of b.filter }

-- a set operator and the block behind it
abbrev pub right_of : SetOp × BlockSyn → SetOp × Block
right_of r = (r.0, block_of r.1)

abbrev pub query_of : Select → Query
query_of s = record { left = block_of s.left; right = option_map right_of s.right; terms = s.terms; limit = s.limit }

abbrev pub command_of : Statement → Command
command_of (statement.CreateTable name columns file) = CreateTable name columns file
command_of (statement.CreatePredicate name params max cost formula) = CreatePredicate name params max cost (expression_of formula)
command_of (statement.CreateRankIndex name table predicate args at) = CreateRankIndex name table predicate args at
command_of (statement.Query select) = Ask (query_of select)
command_of (statement.Declare name select) = Declare name (query_of select)
command_of (statement.Fetch count name) = Fetch count name
command_of (statement.Close name) = Close name
command_of (statement.Explain select) = Explain (query_of select)
command_of (statement.ExplainAnalyze select) = ExplainAnalyze (query_of select)
command_of (statement.Insert table rows) = Insert table rows

-- the statements of a script
abbrev pub commands_of : List Statement → List Command
commands_of statements = map command_of statements

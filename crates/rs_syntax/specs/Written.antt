-- What the statements of a script hold, beyond their types.
use Rattle.std.specs.Prelude.{nat_abs, ◌≤◌, List, length, IfSome}
use Rattle.std.specs.List.{AllByRecursion}
use Rattle.rs_value.specs.Number.{greatest_int}
use Rattle.rs_grammar.specs.Places.{most_deep}
use Rattle.rs_syntax.specs.Syntax.{Block, Command, CreateTable, CreatePredicate, CreateRankIndex, Ask, Declare, Expression, Fetch, Close, Explain, ExplainAnalyze, Insert, Query}
use Rattle.rs_syntax.specs.Syntax as syntax
use Rattle.rs_syntax.specs.declared.name.Arg.{Arg}
use Rattle.rs_syntax.specs.declared.name.Arg.TheVariants.{Column, Int, Text}
use Rattle.rs_syntax.specs.declared.row.Cell.{Cell}
use Rattle.rs_syntax.specs.declared.row.Cell.TheVariants as cell
use Rattle.rs_syntax.specs.declared.row.RowSyn.{RowSyn}
use Rattle.rs_value.specs.declared.set_op.SetOp.{SetOp}
use Rattle.rs_syntax.specs.declared.select.TermSyn.{TermSyn}

-- an argument that is a number is in range
abbrev pub IsWrittenArg : Arg → Type 0
IsWrittenArg (Column column) = Unit {0}
IsWrittenArg (Int n at) = nat_abs n ≤ greatest_int
IsWrittenArg (Text text at) = Unit {0}

abbrev pub AreWrittenArgs : List Arg → Type 0
AreWrittenArgs args = AllByRecursion IsWrittenArg args

-- the arguments of a term are such
abbrev pub IsWrittenTerm : TermSyn → Type 0
IsWrittenTerm term = AreWrittenArgs term.args

-- the numbers in an expression are in range
abbrev pub IsWrittenExpression : Expression → Type 0
IsWrittenExpression (syntax.Int n at) = nat_abs n ≤ greatest_int
IsWrittenExpression (syntax.Text text at) = Unit {0}
IsWrittenExpression (syntax.Column column) = Unit {0}
IsWrittenExpression (syntax.Neg x at) = IsWrittenExpression x
IsWrittenExpression (syntax.Arith op x y at) = IsWrittenExpression x × IsWrittenExpression y
IsWrittenExpression (syntax.Abs x at) = IsWrittenExpression x
IsWrittenExpression (syntax.Least x y at) = IsWrittenExpression x × IsWrittenExpression y
IsWrittenExpression (syntax.Greatest x y at) = IsWrittenExpression x × IsWrittenExpression y
IsWrittenExpression (syntax.Case x y z at) = IsWrittenExpression x × IsWrittenExpression y × IsWrittenExpression z
IsWrittenExpression (syntax.Compare rel x y at) = IsWrittenExpression x × IsWrittenExpression y
IsWrittenExpression (syntax.And x y at) = IsWrittenExpression x × IsWrittenExpression y
IsWrittenExpression (syntax.Or x y at) = IsWrittenExpression x × IsWrittenExpression y
IsWrittenExpression (syntax.Not x at) = IsWrittenExpression x

-- a block has a FROM entry, and its condition is such
pub record IsWrittenBlock (block : Block) : Type 0 where
  pub some : 1 ≤ length block.from
  pub filter : IfSome block.filter IsWrittenExpression

-- the blocks of a query, and the arguments of each of its terms, are such
pub record IsWrittenQuery (query : Query) : Type 0 where
  pub left : IsWrittenBlock query.left
  pub right : IfSome query.right (λ (second : SetOp × Block). IsWrittenBlock second.1)
  pub terms : AllByRecursion IsWrittenTerm query.terms

-- a cell that is a number is in range
abbrev pub IsWrittenCell : Cell → Type 0
IsWrittenCell (cell.Int n at) = nat_abs n ≤ greatest_int
IsWrittenCell (cell.Text text at) = Unit {0}

-- a row has a cell, and each is such
pub record IsWrittenRow (row : RowSyn) : Type 0 where
  pub some : 1 ≤ length row.cells
  pub cells : AllByRecursion IsWrittenCell row.cells

-- an INSERT has a row
pub record IsWrittenInsert (inserted : List RowSyn) : Type 0 where
  pub some : 1 ≤ length inserted
  pub rows : AllByRecursion IsWrittenRow inserted

-- a table has a column, a predicate a parameter, an INSERT a row, and the numbers in expressions, among arguments and in rows are in range
abbrev pub IsWritten : Command → Type 0
IsWritten (CreateTable name columns file) = 1 ≤ length columns
IsWritten (CreatePredicate name params max cost formula) = (1 ≤ length params) × IsWrittenExpression formula
IsWritten (CreateRankIndex name table predicate args at) = AreWrittenArgs args
IsWritten (Ask query) = IsWrittenQuery query
IsWritten (Declare name query) = IsWrittenQuery query
IsWritten (Fetch count name) = Unit {0}
IsWritten (Close name) = Unit {0}
IsWritten (Explain query) = IsWrittenQuery query
IsWritten (ExplainAnalyze query) = IsWrittenQuery query
IsWritten (Insert table rows) = IsWrittenInsert rows

-- an INSERT has no more rows than a statement may have tokens that count towards its depth
abbrev pub HasFewRows : Command → Type 0
HasFewRows (Insert table rows) = length rows ≤ most_deep
HasFewRows _ = Unit {0}

-- each statement of a script is such
abbrev pub AreWritten : List Command → Type 0
AreWritten commands = AllByRecursion IsWritten commands

-- The statements that a tree of derivation stands for, rule by rule.
use Rattle.std.specs.Prelude.{ℤ, pos, neg_ℤ, List, [], ◌∷◌, Option, if◌then◌else◌}
use Rattle.rs_grammar.specs.Grammar.{Tree, Pair, This, That, Node}
use Rattle.rs_grammar.specs.declared.kind.TokenKind.TheVariants as kinds
use Rattle.rs_lex.specs.declared.token.Span.{Span}
use Rattle.rs_value.specs.declared.kind.Kind.{Kind}
use Rattle.rs_value.specs.declared.kind.Kind.TheVariants as value
use Rattle.rs_syntax.specs.declared.name.Name.{Name}
use Rattle.rs_syntax.specs.declared.name.Arg.{Arg}
use Rattle.rs_syntax.specs.declared.name.Arg.TheVariants.{Column, Int, Text}
use Rattle.rs_syntax.specs.declared.row.Cell.{Cell}
use Rattle.rs_syntax.specs.declared.row.Cell.TheVariants as cell
use Rattle.rs_syntax.specs.declared.row.RowSyn.{RowSyn}
use Rattle.rs_syntax.specs.declared.select.TermSyn.{TermSyn}
use Rattle.rs_syntax.specs.declared.select.Items.{Items}
use Rattle.rs_syntax.specs.declared.select.Items.TheVariants as items
use Rattle.rs_value.specs.declared.set_op.SetOp.{SetOp}
use Rattle.rs_value.specs.declared.set_op.SetOp.TheVariants.{UnionAll, Union, Intersect, Except}
use Rattle.rs_syntax.specs.Syntax.{Expression, Block, Query, Command, CreateTable, CreatePredicate, CreateRankIndex, Ask, Declare, Fetch, Close, Explain, ExplainAnalyze, Insert}
use Rattle.rs_syntax.specs.Trees.{starts_at, ends_at, span, span_of, leaf, part, last, inside, of_rule, last_of_rule, if_there, is_there, listed, is_of_kind, leaf_name, leaf_number, weight_in, colref_of}
use Rattle.rs_syntax.specs.Expressions.{expr_of}

-- INT | INTEGER | TEXT
abbrev pub data_type_of : Tree → Kind
data_type_of t = if is_of_kind kinds.Text t then value.Text else value.Int

-- column: name ( INT | INTEGER | TEXT )
abbrev pub column_of : Tree → Name × Kind
column_of t = (leaf_name (of_rule 0 t), data_type_of (last_of_rule 1 t))

-- columns: column { "," column }
abbrev pub columns_of : Tree → List (Name × Kind)
columns_of t = listed column_of (inside t)

-- [ "-" ] number
abbrev pub signed_of : Tree → Tree → ℤ
signed_of (This sign) number = neg_ℤ (leaf number).number
signed_of _ number = (leaf number).number

abbrev pub signed_number_of : Tree → ℤ × Span
signed_number_of t = (signed_of (part 0 t) (last 1 t), span_of t)

-- arg: colref | [ "-" ] number | literal
abbrev pub arg_in : Tree → Arg
arg_in (This t) = Column (colref_of t)
arg_in (That (This t)) = Int (signed_number_of t).0 (signed_number_of t).1
arg_in (That (That t)) = Text (leaf t).text (leaf t).at
arg_in t = Text [] (span_of t)

abbrev pub arg_of : Tree → Arg
arg_of t = arg_in (inside t)

-- args: arg { "," arg }
abbrev pub args_of : Tree → List Arg
args_of t = listed arg_of (inside t)

-- [ number "*" ], which is 1 at the predicate's name where it isn't written
abbrev pub weight_of : Tree → Tree → ℤ × Span
weight_of (This t) name = weight_in t
weight_of _ name = (pos 1, (leaf name).at)

-- term: [ number "*" ] name "(" args ")"
abbrev pub term_of : Tree → TermSyn
term_of t = record {
  weight = weight_of (of_rule 0 t) (of_rule 1 t);
  predicate = leaf_name (of_rule 1 t);
  args = args_of (of_rule 3 t);
  at = span_of t;
}

-- terms: term { "+" term }
abbrev pub terms_of : Tree → List TermSyn
terms_of t = listed term_of (inside t)

-- [ AS ] name, of which the name is the alias
abbrev pub alias_of : Tree → Name
alias_of t = leaf_name (last 1 t)

-- entry: name [ [ AS ] name ]
abbrev pub entry_of : Tree → Name × Option Name
entry_of t = (leaf_name (of_rule 0 t), if_there alias_of (last_of_rule 1 t))

-- entries: entry { "," entry }
abbrev pub entries_of : Tree → List (Name × Option Name)
entries_of t = listed entry_of (inside t)

-- items: "*" | colref { "," colref }
abbrev pub items_in : Tree → Items
items_in (This t) = items.Star (leaf t).at
items_in (That t) = items.List (listed colref_of t)
items_in t = items.Star (span_of t)

abbrev pub select_items_of : Tree → Items
select_items_of t = items_in (inside t)

-- WHERE expr, and others of one word and an expression
abbrev pub filter_of : Tree → Expression
filter_of t = expr_of (last 1 t)

-- block: SELECT [ DISTINCT ] items FROM entries [ WHERE expr ]
abbrev pub block_of : Tree → Block
block_of t = record {
  distinct = is_there (of_rule 1 t);
  items = select_items_of (of_rule 2 t);
  from = entries_of (of_rule 4 t);
  filter = if_there filter_of (last_of_rule 5 t);
}

-- set_operator: UNION [ ALL ] | INTERSECT | EXCEPT
abbrev pub set_operator_in : Tree → SetOp
set_operator_in (This (Pair word all)) = if is_there all then UnionAll else Union
set_operator_in (That (This word)) = Intersect
set_operator_in _ = Except

abbrev pub set_operator_of : Tree → SetOp
set_operator_of t = set_operator_in (inside t)

abbrev pub right_of : Tree → SetOp × Block
right_of t = (set_operator_of (part 0 t), block_of (last 1 t))

-- LIMIT number
abbrev pub limit_of : Tree → ℤ × Span
limit_of t = leaf_number (last 1 t)

-- select: block [ set_operator block ] ORDER BY terms [ DESC ] [ LIMIT number ]
abbrev pub select_of : Tree → Query
select_of t = record {
  left = block_of (of_rule 0 t);
  right = if_there right_of (of_rule 1 t);
  terms = terms_of (of_rule 4 t);
  limit = if_there limit_of (last_of_rule 6 t);
}

-- create_table: TABLE name "(" columns ")" FROM literal
abbrev pub create_table_of : Tree → Command
create_table_of t = CreateTable (leaf_name (of_rule 1 t)) (columns_of (of_rule 3 t)) (leaf (last_of_rule 6 t)).text

-- create_predicate: PREDICATE name "(" columns ")" MAX number [ COST number ] AS expr
abbrev pub create_predicate_of : Tree → Command
create_predicate_of t =
    CreatePredicate (leaf_name (of_rule 1 t)) (columns_of (of_rule 3 t)) (leaf_number (of_rule 6 t)) (if_there limit_of (of_rule 7 t)) (expr_of (last_of_rule 9 t))

-- create_rank_index: RANK INDEX name ON name "(" name "(" args ")" ")"
abbrev pub create_rank_index_of : Tree → Command
create_rank_index_of t =
    CreateRankIndex (leaf_name (of_rule 2 t)) (leaf_name (of_rule 4 t)) (leaf_name (of_rule 6 t)) (args_of (of_rule 8 t))
    (span (starts_at (of_rule 6 t)) (ends_at (of_rule 9 t)))

-- create: CREATE ( create_table | create_predicate | create_rank_index )
abbrev pub create_in : Tree → Command
create_in (This t) = create_table_of t
create_in (That (This t)) = create_predicate_of t
create_in (That (That t)) = create_rank_index_of t
create_in t = create_table_of t

abbrev pub create_of : Tree → Command
create_of t = create_in (last_of_rule 1 t)

-- declare: DECLARE name CURSOR FOR select
abbrev pub declare_of : Tree → Command
declare_of t = Declare (leaf_name (of_rule 1 t)) (select_of (last_of_rule 4 t))

-- fetch: FETCH number FROM name
abbrev pub fetch_of : Tree → Command
fetch_of t = Fetch (leaf_number (of_rule 1 t)) (leaf_name (last_of_rule 3 t))

-- close: CLOSE name
abbrev pub close_of : Tree → Command
close_of t = Close (leaf_name (last_of_rule 1 t))

-- explain: EXPLAIN [ ANALYZE ] select
abbrev pub explain_of : Tree → Command
explain_of t = if is_there (of_rule 1 t) then ExplainAnalyze (select_of (last_of_rule 2 t)) else Explain (select_of (last_of_rule 2 t))

-- cell: [ "-" ] number | literal
abbrev pub cell_in : Tree → Cell
cell_in (This t) = cell.Int (signed_number_of t).0 (signed_number_of t).1
cell_in (That t) = cell.Text (leaf t).text (leaf t).at
cell_in t = cell.Text [] (span_of t)

abbrev pub cell_of : Tree → Cell
cell_of t = cell_in (inside t)

-- cells: cell { "," cell }
abbrev pub cells_of : Tree → List Cell
cells_of t = listed cell_of (inside t)

-- row: "(" cells ")"
abbrev pub row_of : Tree → RowSyn
row_of t = record { cells = cells_of (of_rule 1 t); at = span_of t }

-- rows: row { "," row }
abbrev pub rows_of : Tree → List RowSyn
rows_of t = listed row_of (inside t)

-- insert: INSERT INTO name VALUES rows
abbrev pub insert_of : Tree → Command
insert_of t = Insert (leaf_name (of_rule 2 t)) (rows_of (last_of_rule 4 t))

-- statement: create | select | declare | fetch | close | explain | insert
abbrev pub statement_in : Tree → Command
statement_in (This t) = create_of t
statement_in (That (This t)) = Ask (select_of t)
statement_in (That (That (This t))) = declare_of t
statement_in (That (That (That (This t)))) = fetch_of t
statement_in (That (That (That (That (This t))))) = close_of t
statement_in (That (That (That (That (That (This t)))))) = explain_of t
statement_in (That (That (That (That (That (That t)))))) = insert_of t
statement_in t = close_of t

-- the statement that a tree stands for, with all places, weights, costs and groupings
abbrev pub statement_of : Tree → Command
statement_of t = statement_in (inside t)

-- statements: statement [ ";" [ statements ] ]
abbrev pub statements_of : Tree → List Command
statements_of (Node (Pair t (This (Pair semicolon (This more))))) = statement_of t ∷ statements_of more
statements_of (Node (Pair t _)) = statement_of t ∷ []
statements_of _ = []

-- script: [ statements ]
abbrev pub script_of : Tree → List Command
script_of (This t) = statements_of t
script_of _ = []

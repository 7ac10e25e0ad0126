-- The spans of an INSERT and of its rows are in order.
use Rattle.std.proofs.Common.{ℕ, [], ◌∷◌, refl}
use Rattle.rs_grammar.specs.Kinds.{names}
use Rattle.rs_grammar.specs.Grammar.{Use, ◌⨟◌, word, optional, Tree, Pair, This, That, Node, Fits}
use Rattle.rs_grammar.specs.Grammar as grammar
use Rattle.rs_grammar.specs.declared.kind.TokenKind.TheVariants as kind
use Rattle.rs_syntax.specs.Trees.{starts_at, ends_at}
use Rattle.rs_syntax.specs.Statements.{cell_of, cells_of, row_of, rows_of, insert_of}
use Rattle.rs_syntax.specs.Spans.{Each, CellIn, RowIn, CommandIn}
use Rattle.rs_syntax.proofs.TreeFacts.{TreeIn, Spanned, TreeIn-spanned, leaf-in, TreeIn-skip, TreeIn-front, listed-in}

cell-in : (t : Tree) (from to : ℕ) → Fits (Use grammar.cell) t → TreeIn t from to → CellIn (cell_of t) from to
cell-in (Node (This t)) from to h o =
    let s : Spanned t from to = TreeIn-spanned (optional (word kind.Minus) ⨟ word kind.Number) t from to refl h o in
    (s.starts, s.some, s.ends)
cell-in (Node (That t)) from to h o = leaf-in (kind.Literal ∷ []) t from to h o
cell-in _ from to h o = absurd h

cells-in : (t : Tree) (from to : ℕ) → Fits (Use grammar.cells) t → TreeIn t from to → Each CellIn (cells_of t) from to
cells-in (Node t) from to h o = listed-in (Use grammar.cell) (word kind.Comma) cell_of CellIn cell-in t from to h o
cells-in _ from to h o = absurd h

-- the cells of a row, from its first bracket to its last
row_cells-in : (t : Tree) (from to : ℕ) → Fits (Use grammar.row) t → TreeIn t from to → Each CellIn (row_of t).cells from to
row_cells-in (Node (Pair open_bracket (Pair cells close))) from to h o =
    cells-in cells from to h.1.0 (TreeIn-front cells close from to (TreeIn-skip open_bracket (Pair cells close) from to o))
row_cells-in (Node (Pair open_bracket rest)) from to h o = absurd h.1
row_cells-in _ from to h o = absurd h

row-in : (t : Tree) (from to : ℕ) → Fits (Use grammar.row) t → TreeIn t from to → RowIn (row_of t) from to
row-in t from to h o =
    let s : Spanned t from to = TreeIn-spanned (Use grammar.row) t from to refl h o in
    ((s.starts, s.some, s.ends), row_cells-in t (starts_at t) (ends_at t) h s.exact)

rows-in : (t : Tree) (from to : ℕ) → Fits (Use grammar.rows) t → TreeIn t from to → Each RowIn (rows_of t) from to
rows-in (Node t) from to h o = listed-in (Use grammar.row) (word kind.Comma) row_of RowIn row-in t from to h o
rows-in _ from to h o = absurd h

pub insert-in : (t : Tree) (from to : ℕ) → Fits (Use grammar.insert) t → TreeIn t from to → CommandIn (insert_of t) from to
insert-in (Node (Pair w (Pair w2 (Pair n (Pair w3 rows))))) from to h o =
    let o1 = TreeIn-skip w (Pair w2 (Pair n (Pair w3 rows))) from to o in
    let o2 = TreeIn-skip w2 (Pair n (Pair w3 rows)) from to o1 in
    let o3 = TreeIn-skip w3 rows o2.0 to o2.2 in (
      o2.0,
      leaf-in names n from o2.0 h.1.1.0 o2.1,
      rows-in rows o2.0 to h.1.1.1.1 o3,
    )
insert-in (Node (Pair w (Pair w2 (Pair n rest)))) from to h o = absurd h.1.1.1
insert-in (Node (Pair w (Pair w2 rest))) from to h o = absurd h.1.1
insert-in (Node (Pair w rest)) from to h o = absurd h.1
insert-in _ from to h o = absurd h

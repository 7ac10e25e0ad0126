-- Which statements are well written, computed on literals.
use Rattle.std.proofs.Common.{[], ◌∷◌, arith}
use Rattle.std.specs.Prelude.{ℤ, pos, negsuc, None}
use Rattle.rs_lex.specs.declared.token.Span.{Span}
use Rattle.rs_value.specs.declared.kind.Kind.TheVariants as kind
use Rattle.rs_syntax.specs.Syntax.{Command, CreateTable, CreatePredicate, CreateRankIndex, Close, Insert}
use Rattle.rs_syntax.specs.Syntax as syntax
use Rattle.rs_syntax.specs.declared.name.Name.{Name}
use Rattle.rs_syntax.specs.declared.node.Op.TheVariants.{Add}
use Rattle.rs_syntax.specs.declared.name.Arg.TheVariants.{Int, Text}
use Rattle.rs_syntax.specs.declared.row.Cell.TheVariants as cell
use Rattle.rs_syntax.specs.declared.row.RowSyn.{RowSyn}
use Rattle.rs_syntax.specs.Written.{IsWritten, AreWritten}

abbrev at : Span
at = record { start = 0; end = 1 }

abbrev name : Name
name = record { text = 97 ∷ []; at = at }

abbrev index : ℤ → Command
index n = CreateRankIndex name name name (Text [] at ∷ Int n at ∷ []) at

-- a table of a column, an index over the least number, and a statement of which nothing is asked
written : AreWritten (CreateTable name ((name, kind.Int) ∷ []) [] ∷ index (negsuc 3999999999999999999) ∷ Close name ∷ [])
written = (omega arith, ((tt, (omega arith, tt)), (tt, tt)))

-- a table of no column, and an index over a number beyond the greatest one
no_column : IsWritten (CreateTable name [] []) → ⊥
no_column h = omega (arith, h)

too_great : IsWritten (index (pos 4000000000000000001)) → ⊥
too_great h = omega (arith, h.1.0)

-- a predicate over the greatest number, and over one beyond it
abbrev predicate : ℤ → Command
predicate n = CreatePredicate name ((name, kind.Int) ∷ []) (pos 1, at) None (syntax.Arith Add (syntax.Column (record { alias = None; column = name })) (syntax.Neg (syntax.Int n at) at) at)

a_formula : IsWritten (predicate (pos 4000000000000000000))
a_formula = (omega arith, (tt, omega arith))

too_great_in_a_formula : IsWritten (predicate (pos 4000000000000000001)) → ⊥
too_great_in_a_formula h = omega (arith, h.1.1)

-- a row of a number and a text
abbrev row : ℤ → RowSyn
row n = record { cells = cell.Int n at ∷ cell.Text [] at ∷ []; at = at }

a_row : IsWritten (Insert name (row (negsuc 3999999999999999999) ∷ []))
a_row = record { some = omega arith; rows = (record { some = omega arith; cells = (omega arith, (tt, tt)) }, tt) }

-- no row, a row of no value, and a number beyond the greatest one
no_row : IsWritten (Insert name []) → ⊥
no_row h = omega (arith, h.some)

no_cell : IsWritten (Insert name (record { cells = []; at = at } ∷ [])) → ⊥
no_cell h = omega (arith, h.rows.0.some)

too_great_in_a_row : IsWritten (Insert name (row (pos 4000000000000000001) ∷ [])) → ⊥
too_great_in_a_row h = omega (arith, h.rows.0.cells.0)

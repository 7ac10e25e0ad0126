-- The parts of a WHERE condition.
use Rattle.std.specs.Prelude.{ℕ, List, Option}
use Rattle.rs_expr.specs.Formulas.{Condition}

-- a condition whose arguments are columns, the mask of the entries of its columns, and the two columns where it says that
-- columns of two entries are equal; a column is a FROM entry, counted from 1, and a column of its table, counted from 0
pub record ConjunctDef : Type 0 where
  pub condition : Condition
  pub columns : List (ℕ × ℕ)
  pub entries : ℕ
  pub equality : Option ((ℕ × ℕ) × (ℕ × ℕ))

-- A column that is found to be one of a kind has that kind.
use Rattle.std.proofs.Common.{ℕ, ◌≡◌, ◌≤◌, true, List, [], ◌∷◌, length, Option, Some, None, refl, ap, subst, arith}
use Rattle.std.specs.Prelude.{slice_get, slice_index_or}
use Rattle.std.proofs.lemmas.Bool.{false≢true}
use Rattle.rs_value.specs.declared.kind.Kind.{Kind}
use Rattle.rs_value.specs.declared.kind.Kind.TheVariants as kind
use Rattle.rs_table.specs.Column.{Column}
use Rattle.rs_expr.specs.Uses.{is_kind}

pub a_number : (found : Option Kind) → is_kind kind.Int found ≡ true → found ≡ Some kind.Int
a_number (Some kind.Int) is = refl
a_number (Some kind.Text) is = absurd (false≢true is)
a_number None is = absurd (false≢true is)

first_of_texts : (columns : List Column) (other : Column) → 1 ≤ length columns → (slice_index_or columns 0 other).1 ≡ kind.Text
    → (name : List ℕ) × slice_get columns 0 ≡ Some (name, kind.Text)
first_of_texts [] other some is = absurd (omega arith)
first_of_texts (column ∷ columns) other some is = (column.0, ap (λ k. Some (column.0, k)) is)

-- the same of the columns that a schema lends
pub lent_first_of_texts : (columns lent schema : List Column) (other : Column) → columns ≡ lent → lent ≡ schema → 1 ≤ length lent → (slice_index_or columns 0 other).1 ≡ kind.Text
    → (name : List ℕ) × slice_get schema 0 ≡ Some (name, kind.Text)
lent_first_of_texts columns lent schema other same stands some is =
    let found : (slice_index_or lent 0 other).1 ≡ kind.Text = subst (λ (cs : List Column). (slice_index_or cs 0 other).1 ≡ kind.Text) same is in
    subst (λ (cs : List Column). (name : List ℕ) × slice_get cs 0 ≡ Some (name, kind.Text)) stands (first_of_texts lent other some found)

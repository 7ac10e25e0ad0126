-- The values that the arguments of an index have for a new row.
use Rattle.std.proofs.Common.{ℕ, ◌≡◌, ◌∙◌, ◌<◌, ◌&&◌, Bool, true, false, List, length, Some, refl, sym, ap, subst, arith}
use Rattle.std.specs.Prelude.{None, Option, option_map, slice_get, unwrap_or, pos, ◌==◌}
use Rattle.std.proofs.lemmas.Option.{slice_get-get_or, slice_get_within, unwrap_or-slice_get}
use Rattle.rs_value.specs.declared.kind.Kind.{Kind}
use Rattle.rs_value.specs.declared.kind.Kind.TheVariants as kind
use Rattle.rs_value.specs.declared.value.Value.{Value}
use Rattle.rs_value.specs.declared.value.Value.TheVariants as value
use Rattle.rs_value.specs.Value.{fits}
use Rattle.rs_table.specs.Column.{Column}
use Rattle.rs_table.specs.Relation.{row_fits}
use Rattle.rs_table.proofs.RelationFacts.{fits-at, length-row_fits}
use Rattle.rs_expr.specs.Uses.{is_kind}
use Rattle.rs_catalog.specs.Indexes.{arg_fits, arg_value}
use Rattle.rs_catalog.specs.declared.index.BoundArg.{BoundArg}
use Rattle.rs_catalog.specs.declared.index.BoundArg.TheVariants as arg

-- the column that an argument names, where it has the kind
record HasColumn (columns : List Column) (kind : Kind) (number : ℕ) : Type 0 where
  column : Column
  there : slice_get columns number ≡ Some column
  same : column.1 ≡ kind

both : (a b : Bool) → (a && b) ≡ true → (a ≡ true) × (b ≡ true)
both true b e = (refl, e)
both false b e = cc

kind-is : (k other : Kind) → is_kind k (Some other) ≡ true → other ≡ k
kind-is kind.Int kind.Int e = refl
kind-is kind.Int kind.Text e = cc
kind-is kind.Text kind.Int e = cc
kind-is kind.Text kind.Text e = refl

no_kind : (k : Kind) → is_kind k None ≡ true → ⊥
no_kind kind.Int e = cc
no_kind kind.Text e = cc

HasColumn-fits : (columns : List Column) (k : Kind) (entry number : ℕ) → arg_fits columns k (arg.Column entry number) ≡ true → HasColumn columns k number
HasColumn-fits columns k entry number e =
    go (slice_get columns number) refl (both (entry == 1) (is_kind k (option_map (λ (c : Column). c.1) (slice_get columns number))) (named k e)).1 where
      named : (k : Kind) → arg_fits columns k (arg.Column entry number) ≡ true → ((entry == 1) && is_kind k (option_map (λ (c : Column). c.1) (slice_get columns number))) ≡ true
      named kind.Int e = e
      named kind.Text e = e

      go : (found : Option Column) → slice_get columns number ≡ found → is_kind k (option_map (λ (c : Column). c.1) found) ≡ true → HasColumn columns k number
      go (Some column) there e = record { column = column; there = there; same = kind-is k column.1 e }
      go None there e = absurd (no_kind k e)

-- the column lies within the row
pub column_within : (columns : List Column) (k : Kind) (entry number : ℕ) (row : List Value) → row_fits columns row ≡ true → arg_fits columns k (arg.Column entry number) ≡ true → number < length row
column_within columns k entry number row fit e =
    let has = HasColumn-fits columns k entry number e in
    omega (arith, length-row_fits columns row fit, slice_get_within columns number has.column has.there)

-- what an argument gives has its kind
pub fits-arg_value : (columns : List Column) (k : Kind) (row : List Value) (a : BoundArg) → row_fits columns row ≡ true → arg_fits columns k a ≡ true → fits k (arg_value row a) ≡ true
fits-arg_value columns k row (arg.Column entry number) fit e =
    let has = HasColumn-fits columns k entry number e in
    let within = column_within columns k entry number row fit e in
    let there : slice_get row number ≡ Some (unwrap_or (slice_get row number) (value.Int (pos 0))) =
    slice_get-get_or row number (value.Int (pos 0)) within ∙ ap (λ v. Some v) (sym (unwrap_or-slice_get row number (value.Int (pos 0)))) in
    subst (λ k. fits k (unwrap_or (slice_get row number) (value.Int (pos 0))) ≡ true) has.same
    (fits-at columns row number has.column (unwrap_or (slice_get row number) (value.Int (pos 0))) fit has.there there)
fits-arg_value columns kind.Int row (arg.Int n) fit e = e
fits-arg_value columns kind.Text row (arg.Int n) fit e = cc
fits-arg_value columns kind.Int row (arg.Text t) fit e = cc
fits-arg_value columns kind.Text row (arg.Text t) fit e = refl

-- A row whose values fit their columns, place by place, fits.
use Rattle.std.proofs.Common.{ℕ, zero, suc, ◌≡◌, ◌∙◌, ◌++◌, ◌&&◌, Bool, true, List, [], ◌∷◌, length, Some, refl, ap, subst, arith}
use Rattle.std.specs.Prelude.{slice_get}
use Rattle.rs_value.specs.declared.value.Value.{Value}
use Rattle.rs_value.specs.Value.{fits}
use Rattle.rs_table.specs.Column.{Column}
use Rattle.rs_table.specs.Relation.{row_fits}

-- the values so far fit their columns
abbrev pub FitSoFar : List Column → List Value → Type 0
FitSoFar columns values = (i : ℕ) (column : Column) (value : Value) → slice_get columns i ≡ Some column → slice_get values i ≡ Some value → fits column.1 value ≡ true

both_true : (a b : Bool) → a ≡ true → b ≡ true → (a && b) ≡ true
both_true a b first second = ap (λ t. t && b) first ∙ second

pub row_fits-so_far : (columns : List Column) (values : List Value) → length values ≡ length columns → FitSoFar columns values → row_fits columns values ≡ true
row_fits-so_far [] [] same fit = refl
row_fits-so_far [] (value ∷ values) same fit = absurd (omega arith)
row_fits-so_far (column ∷ columns) [] same fit = absurd (omega arith)
row_fits-so_far (column ∷ columns) (value ∷ values) same fit =
    both_true (fits column.1 value) (row_fits columns values) (fit 0 column value refl refl) (row_fits-so_far columns values (omega arith) (λ i c v. fit (suc i) c v))

-- one more value that fits its column
pub FitSoFar-push : (columns : List Column) (values : List Value) (value : Value) → FitSoFar columns values → ((column : Column) → slice_get columns (length values) ≡ Some column → fits column.1 value ≡ true)
    → FitSoFar columns (values ++ value ∷ [])
FitSoFar-push columns [] value fit here zero column v c is = let same : value ≡ v = cc in subst (λ (v : Value). fits column.1 v ≡ true) same (here column c)
FitSoFar-push columns [] value fit here (suc i) column v c is = cc
FitSoFar-push [] (first ∷ values) value fit here i column v c is = cc
FitSoFar-push (k ∷ columns) (first ∷ values) value fit here zero column v c is = fit 0 column v c is
FitSoFar-push (k ∷ columns) (first ∷ values) value fit here (suc i) column v c is =
    FitSoFar-push columns values value (λ j d w at there. fit (suc j) d w at there) here i column v c is

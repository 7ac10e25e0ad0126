-- The lists of output values of some rows: which they are, and who has them.
use Rattle.std.proofs.Common.{◌≡◌, ◌||◌, Bool, true, false, cond, List, [], ◌∷◌, ◌++◌, refl, sym, ◌∙◌, ap, inl, inr}
use Rattle.rs_order.specs.Climbing.{In}
use Rattle.rs_value.specs.declared.value.Value.{Value}
use Rattle.rs_outputs.specs.Rows.{OutputRow, lists_from, lists_of, values_of}
use Rattle.rs_outputs.specs.Seen.{has_list, same_values, with_list}
use Rattle.rs_outputs.proofs.FirstFacts.{has_list-more}
use Rattle.rs_outputs.proofs.SameFacts.{same_values-same}

-- a list is one of those with another one that is new, or that one
pub has_list-with : (values more : List Value) (lists : List (List Value)) → has_list values (with_list more lists) ≡ (has_list values lists || same_values values more)
has_list-with values more lists =
    (elim (has_list more lists) as (λ b. has_list more lists ≡ b → has_list values (cond b lists (lists ++ more ∷ [])) ≡ (has_list values lists || same_values values more)) [
      | true ↦ λ old. go (same_values values more) refl old
      | false ↦ λ new. has_list-more values more lists
    ]) refl
  where
    or_true : (b : Bool) → (b || true) ≡ true
    or_true true = refl
    or_true false = refl

    or_false : (b : Bool) → b ≡ (b || false)
    or_false true = refl
    or_false false = refl

    go : (b : Bool) → same_values values more ≡ b → has_list more lists ≡ true → has_list values lists ≡ (has_list values lists || same_values values more)
    go true e old = ap (λ v. has_list v lists) (same_values-same values more e) ∙ old ∙ sym (ap (λ b. has_list values lists || b) e ∙ or_true (has_list values lists))
    go false e old = or_false (has_list values lists) ∙ ap (λ b. has_list values lists || b) (sym e)

pub or-assoc : (a b c : Bool) → ((a || b) || c) ≡ (a || (b || c))
or-assoc true b c = refl
or-assoc false b c = refl

-- the lists of some rows are their values
has_list-from : (values : List Value) (lists : List (List Value)) (rows : List OutputRow) → has_list values (lists_from lists rows) ≡ (has_list values lists || has_list values (values_of rows))
has_list-from values lists [] = or_false (has_list values lists)
  where
    or_false : (b : Bool) → b ≡ (b || false)
    or_false true = refl
    or_false false = refl
has_list-from values lists (row ∷ rows) =
    has_list-from values (with_list row.values lists) rows
    ∙ ap (λ b. b || has_list values (values_of rows)) (has_list-with values row.values lists)
    ∙ or-assoc (has_list values lists) (same_values values row.values) (has_list values (values_of rows))

pub has_list-of : (values : List Value) (rows : List OutputRow) → has_list values (lists_of rows) ≡ has_list values (values_of rows)
has_list-of values rows = has_list-from values [] rows

-- the lists of one more row
pub lists_of-more : (rows : List OutputRow) (row : OutputRow) → lists_of (rows ++ row ∷ []) ≡ with_list row.values (lists_of rows)
lists_of-more rows row = go [] rows
  where
    go : (lists : List (List Value)) (rs : List OutputRow) → lists_from lists (rs ++ row ∷ []) ≡ with_list row.values (lists_from lists rs)
    go lists [] = refl
    go lists (r ∷ rs) = go (with_list r.values lists) rs

-- a row that has these values
pub record HasValues (values : List Value) (rows : List OutputRow) : Type 0 where
  pub row : OutputRow
  pub is_in : In row rows
  pub same : row.values ≡ values

pub row-of_values : (values : List Value) (rows : List OutputRow) → has_list values (values_of rows) ≡ true → HasValues values rows
row-of_values values [] e = absurd (cc)
row-of_values values (row ∷ rows) e =
    (elim (same_values values row.values) as (λ b. same_values values row.values ≡ b → (b || has_list values (values_of rows)) ≡ true → HasValues values (row ∷ rows)) [
      | true ↦ λ f g. record { row = row; is_in = inl refl; same = sym (same_values-same values row.values f) }
      | false ↦ λ f g. let found = row-of_values values rows g in record { row = found.row; is_in = inr found.is_in; same = found.same }
    ]) refl e

-- none has these values
pub none-of_values : (values : List Value) (rows : List OutputRow) → ((row : OutputRow) → In row rows → row.values ≡ values → ⊥) → has_list values (values_of rows) ≡ false
none-of_values values [] none = refl
none-of_values values (row ∷ rows) none =
    ap (λ b. b || has_list values (values_of rows)) (differs (same_values values row.values) refl) ∙ none-of_values values rows (λ r h. none r (inr h))
  where
    differs : (b : Bool) → same_values values row.values ≡ b → same_values values row.values ≡ false
    differs true e = absurd (none row (inl refl) (sym (same_values-same values row.values e)))
    differs false e = e

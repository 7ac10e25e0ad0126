-- A header, compared with a schema, and read as one.
use Rattle.std.proofs.Common.{ℕ, ◌≡◌, ◌<◌, ◌≤◌, Bool, true, false, ◌||◌, List, [], ◌∷◌, ◌++◌, length, drop, suc, sym, refl, ap, ◌∙◌, arith, rules, nat_lt, one-add, ⊎_elim, append-nil}
use Rattle.std.specs.Prelude.{Option, Some, None, Result, Ok, Err, IfOk, slice_get, if◌then◌else◌}
use Rattle.std.specs.List.{list_any, position_or_len}
use Rattle.std.specs.Str.{bytes_eq}
use Rattle.std.proofs.lemmas.List.{at_drop_more, at_drop_all}
use Rattle.rs_value.specs.declared.kind.Kind.TheVariants.{Int, Text}
use Rattle.rs_table.specs.declared.fault.TableFault.{TableFault}
use Rattle.rs_table.specs.declared.fault.TableFault.TheVariants.{NotUtf8, NoColumn, TooManyColumns, Memory}
use Rattle.rs_value.specs.Answer.{Gives}
use Rattle.rs_table.specs.Column.{Column, is_named, columns_with, text_columns}
use Rattle.rs_table.specs.NumberColumn.{HasNumberColumn}
use Rattle.rs_table.specs.Reading.{difference_from, first_not_utf8, columns_named}

-- a header that is too long
pub difference_from-long : (columns : List Column) (fields : List (List ℕ)) (n i : ℕ) → length columns ≤ i → i < length fields
    → difference_from n (drop i columns) (drop i fields) ≡ Some n
difference_from-long columns fields n i past in_fields =
    at_drop_all (λ cs. difference_from n cs (drop i fields)) columns i past
    ∙ at_drop_more (λ fs. difference_from n [] fs) fields i [] in_fields

-- the columns of the rest of a header, where the column of numbers may have been found before
abbrev pub columns_left : Bool → List ℕ → List (List ℕ) → List Column
columns_left true name names = text_columns names
columns_left false name names = columns_with name names

-- the first column of this name is there, and is of numbers
record FindsNumber (name : List ℕ) (columns : List Column) : Type 0 where
  column : Column
  within : position_or_len (is_named name) columns < length columns
  there : slice_get columns (position_or_len (is_named name) columns) ≡ Some column
  is_number : column.1 ≡ Int

-- the columns of a header in which the name stands
columns_with-number : (name : List ℕ) (header : List (List ℕ)) → list_any (λ field. bytes_eq field name) header ≡ true → FindsNumber name (columns_with name header)
columns_with-number name [] e = cc
columns_with-number name (field ∷ fields) e = go (bytes_eq field name) refl (λ rest. columns_with-number name fields rest) e where
  go : (named : Bool) → bytes_eq field name ≡ named → (list_any (λ field. bytes_eq field name) fields ≡ true → FindsNumber name (columns_with name fields))
      → (named || list_any (λ field. bytes_eq field name) fields) ≡ true → FindsNumber name (columns_with name (field ∷ fields))
  go true is rest e = rw is record { column = (field, Int); within = rw is (omega arith); there = rw is refl; is_number = refl }
  go false is rest e =
      let next = rest e in
      rw is record { column = next.column; within = rw is (omega arith); there = rw is (simp one-add next.there); is_number = next.is_number }

-- a header that was read has the column
pub columns_named-number : (name : List ℕ) (header : List (List ℕ)) (columns : List Column) → columns_named name header ≡ Ok columns → HasNumberColumn name columns
columns_named-number name header columns = go (nat_lt 64 (length header)) (first_not_utf8 1 header) (list_any (λ field. bytes_eq field name) header) refl refl refl where
  go : (many : Bool) (fault : Option ℕ) (any : Bool) → nat_lt 64 (length header) ≡ many → first_not_utf8 1 header ≡ fault → list_any (λ field. bytes_eq field name) header ≡ any
      → columns_named name header ≡ Ok columns → HasNumberColumn name columns
  go true fault any many_is fault_is any_is e = let r : columns_named name header ≡ Err (TooManyColumns (length header)) = rw many_is refl in cc
  go false (Some k) any many_is fault_is any_is e = let r : columns_named name header ≡ Err (NotUtf8 0 k) = rw (many_is, fault_is) refl in cc
  go false None false many_is fault_is any_is e = let r : columns_named name header ≡ Err NoColumn = rw (many_is, fault_is, any_is) refl in cc
  go false None true many_is fault_is any_is e =
      let r : columns_named name header ≡ Ok (columns_with name header) = rw (many_is, fault_is, any_is) refl in
      let same : columns_with name header ≡ columns = cc in
      let found = columns_with-number name header any_is in
      rw (← same) record {
        place = position_or_len (is_named name) (columns_with name header);
        column = found.column;
        found = search rules;
        there = found.there;
        is_number = found.is_number;
      }

-- the columns have the header's names
length-text_columns : (names : List (List ℕ)) → length (text_columns names) ≡ length names
length-text_columns [] = refl
length-text_columns (name ∷ names) = ap suc (length-text_columns names)

length-columns_with : (name : List ℕ) (names : List (List ℕ)) → length (columns_with name names) ≡ length names
length-columns_with name [] = refl
length-columns_with name (first ∷ names) = go (bytes_eq first name) (length-columns_with name names) where
  go : (named : Bool) → length (columns_with name names) ≡ length names
      → length (if named then (first, Int) ∷ text_columns names else (first, Text) ∷ columns_with name names) ≡ suc (length names)
  go true rest = ap suc (length-text_columns names)
  go false rest = ap suc rest

columns_left-none : (found : Bool) (name : List ℕ) → columns_left found name [] ≡ []
columns_left-none true name = refl
columns_left-none false name = refl

some_name : (test : List ℕ → Bool) (names : List (List ℕ)) → list_any test names ≡ true → 1 ≤ length names
some_name test [] e = cc
some_name test (name ∷ names) e = omega arith

-- how many columns a header makes, in which the name was found
pub length-columns_left : (name : List ℕ) (header : List (List ℕ)) (made : List Column) (found : Bool) (i : ℕ)
    → length header ≤ i → length header ≤ 64 → found ≡ true
    → made ++ columns_left found name (drop i header) ≡ columns_with name header
    → (found || list_any (λ field. bytes_eq field name) (drop i header)) ≡ list_any (λ field. bytes_eq field name) header
    → (1 ≤ length made) × (length made ≤ 64)
length-columns_left name header made found i past few is columns any =
    let here : found || list_any (λ field. bytes_eq field name) (drop i header) ≡ true = rw is refl in
    let some : 1 ≤ length header = some_name (λ field. bytes_eq field name) header (sym any ∙ here) in
    let all : made ≡ columns_with name header =
    sym (append-nil made)
    ∙ ap (λ more. made ++ more) (sym (columns_left-none found name) ∙ sym (at_drop_all (columns_left found name) header i past))
    ∙ columns in
    let size : length made ≡ length header = ap length all ∙ length-columns_with name header in
    (omega arith, omega arith)

-- what is read of a header has the column
pub IfOk-number : (name : List ℕ) (header : List (List ℕ)) (result : Result (List Column) TableFault)
    → Gives Memory (columns_named name header) result → IfOk result (λ columns. HasNumberColumn name columns)
IfOk-number name header (Ok columns) gives =
    ⊎_elim (λ e. columns_named-number name header columns (sym e)) (λ e. cc e) gives
IfOk-number name header (Err fault) gives = search rules

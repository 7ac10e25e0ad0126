-- Names that were read stand before those that are left.
use Rattle.std.proofs.Common.{ℕ, ◌≡◌, ◌≢◌, ◌+◌, ◌<◌, ◌==◌, Bool, true, false, ◌||◌, List, [], ◌∷◌, ◌++◌, length, drop, refl, sym, ap, ◌∙◌, append_assoc, arith}
use Rattle.std.specs.Prelude.{Result, Ok, Err, slice_index_or}
use Rattle.std.specs.List.{list_any}
use Rattle.std.specs.Str.{bytes_eq}
use Rattle.std.proofs.lemmas.Bool.Decides.{nat_tests}
use Rattle.std.proofs.lemmas.List.{drop_more}
use Rattle.rs_value.specs.declared.kind.Kind.{Kind}
use Rattle.rs_syntax.specs.declared.name.Name.{Name}
use Rattle.rs_table.specs.Appended.{appended}
use Rattle.rs_table.specs.Column.{Column, is_named}
use Rattle.rs_value.specs.Results.{◌>>=◌}
use Rattle.rs_typing.specs.declared.fault.BindFault.{BindFault}
use Rattle.rs_typing.specs.declared.fault.BindFault.TheVariants.{At}
use Rattle.rs_typing.specs.declared.fault.Why.TheVariants.{LimitOf, NameTwice}
use Rattle.rs_bind.specs.Names.{named_behind}

-- the names of columns, the last one first, before other names
abbrev pub names_of : List Column → List (List ℕ) → List (List ℕ)
names_of [] before = before
names_of (column ∷ columns) before = names_of columns (column.0 ∷ before)

-- there are as many
pub length-names_of : (columns : List Column) (before : List (List ℕ)) → length (names_of columns before) ≡ length columns + length before
length-names_of [] before = omega arith
length-names_of (column ∷ columns) before = omega (arith, length-names_of columns (column.0 ∷ before))

-- one more column stands first
pub names_of-push : (columns : List Column) (column : Column) (before : List (List ℕ))
    → names_of (columns ++ column ∷ []) before ≡ column.0 ∷ names_of columns before
names_of-push [] column before = refl
names_of-push (first ∷ columns) column before = names_of-push columns column (first.0 ∷ before)

or-swap : (a b c : Bool) → (a || (b || c)) ≡ ((b || a) || c)
or-swap true true c = refl
or-swap true false c = refl
or-swap false true c = refl
or-swap false false c = refl

or-zero : (a : Bool) → (a || false) ≡ a
or-zero true = refl
or-zero false = refl

any-names_before : (name : List ℕ) (columns : List Column) (before : List (List ℕ))
    → list_any (λ other. bytes_eq other name) (names_of columns before)
    ≡ (list_any (is_named name) columns || list_any (λ other. bytes_eq other name) before)
any-names_before name [] before = refl
any-names_before name (column ∷ columns) before =
    any-names_before name columns (column.0 ∷ before)
    ∙ or-swap (list_any (is_named name) columns) (is_named name column) (list_any (λ other. bytes_eq other name) before)

-- a name is among them where a column has it
pub any-names_of : (name : List ℕ) (columns : List Column)
    → list_any (λ other. bytes_eq other name) (names_of columns []) ≡ list_any (is_named name) columns
any-names_of name columns = any-names_before name columns [] ∙ or-zero (list_any (is_named name) columns)

-- the item at an index stands first in what is left from there
drop-item : {A : Type 0} (xs : List A) (i : ℕ) (x : A) → i < length xs → x ≡ slice_index_or xs i x → drop i xs ≡ x ∷ drop (i + 1) xs
drop-item xs i x within is = drop_more xs i x within ∙ ap (λ y. y ∷ drop (i + 1) xs) (sym is)

-- no more names may stand there
named_behind-full : (most : ℕ) (made : List Column) (c : Name × Kind) (rest : List (Name × Kind)) → length made ≡ most
    → named_behind most (names_of made []) (c ∷ rest) ≡ Err (At LimitOf c.0.at)
named_behind-full most made c rest full =
    let test : (length (names_of made []) == most) ≡ true = grind (arith, nat_tests, length-names_of made []) in
    rw test refl

-- a name that stands before
named_behind-twice : (most : ℕ) (made : List Column) (c : Name × Kind) (rest : List (Name × Kind)) → length made ≢ most
    → list_any (is_named c.0.text) made ≡ true → named_behind most (names_of made []) (c ∷ rest) ≡ Err (At NameTwice c.0.at)
named_behind-twice most made c rest room twice =
    let test : (length (names_of made []) == most) ≡ false = grind (arith, nat_tests, length-names_of made []) in
    rw (test, any-names_of c.0.text made, twice) refl

-- a name that may stand there
named_behind-next : (most : ℕ) (made : List Column) (c : Name × Kind) (rest : List (Name × Kind)) → length made ≢ most
    → list_any (is_named c.0.text) made ≡ false
    → named_behind most (names_of made []) (c ∷ rest)
    ≡ (named_behind most (names_of (made ++ (c.0.text, c.1) ∷ []) []) rest >>= λ columns. Ok ((c.0.text, c.1) ∷ columns))
named_behind-next most made c rest room new =
    let test : (length (names_of made []) == most) ≡ false = grind (arith, nat_tests, length-names_of made []) in
    rw (test, any-names_of c.0.text made, new, names_of-push made (c.0.text, c.1) []) refl

-- one more column was read
appended-next : (made : List Column) (column : Column) (rest : Result (List Column) BindFault)
    → appended made (rest >>= λ columns. Ok (column ∷ columns)) ≡ appended (made ++ column ∷ []) rest
appended-next made column (Ok columns) = ap (λ all. Ok all) (sym (append_assoc made (column ∷ []) columns))
appended-next made column (Err fault) = refl

-- the item at an index, and what is left behind it
read-item : (most : ℕ) (columns : List (Name × Kind)) (made : List Column) (i : ℕ) (all : Result (List Column) BindFault) (c : Name × Kind)
    → i < length columns → c ≡ slice_index_or columns i c → appended made (named_behind most (names_of made []) (drop i columns)) ≡ all
    → appended made (named_behind most (names_of made []) (c ∷ drop (i + 1) columns)) ≡ all
read-item most columns made i all c within is so_far =
    ap (λ left. appended made (named_behind most (names_of made []) left)) (sym (drop-item columns i c within is)) ∙ so_far

pub named-full : (most : ℕ) (columns : List (Name × Kind)) (made : List Column) (i : ℕ) (all : Result (List Column) BindFault) (c : Name × Kind)
    → i < length columns → c ≡ slice_index_or columns i c → appended made (named_behind most (names_of made []) (drop i columns)) ≡ all
    → length made ≡ most → Err (At LimitOf c.0.at) ≡ all
named-full most columns made i all c within is so_far full =
    sym (ap (λ r. appended made r) (named_behind-full most made c (drop (i + 1) columns) full)) ∙ read-item most columns made i all c within is so_far

pub named-twice : (most : ℕ) (columns : List (Name × Kind)) (made : List Column) (i : ℕ) (all : Result (List Column) BindFault) (c : Name × Kind)
    → i < length columns → c ≡ slice_index_or columns i c → appended made (named_behind most (names_of made []) (drop i columns)) ≡ all
    → length made ≢ most → list_any (is_named c.0.text) made ≡ true → Err (At NameTwice c.0.at) ≡ all
named-twice most columns made i all c within is so_far room twice =
    sym (ap (λ r. appended made r) (named_behind-twice most made c (drop (i + 1) columns) room twice)) ∙ read-item most columns made i all c within is so_far

pub named-next : (most : ℕ) (columns : List (Name × Kind)) (made : List Column) (i : ℕ) (all : Result (List Column) BindFault) (c : Name × Kind)
    → i < length columns → c ≡ slice_index_or columns i c → appended made (named_behind most (names_of made []) (drop i columns)) ≡ all
    → length made ≢ most → list_any (is_named c.0.text) made ≡ false → (more : List Column) → more ≡ (made ++ (c.0.text, c.1) ∷ [])
    → appended more (named_behind most (names_of more []) (drop (i + 1) columns)) ≡ all
named-next most columns made i all c within is so_far room new more more_is =
    let column : Column = (c.0.text, c.1) in
    rw more_is (sym (appended-next made column (named_behind most (names_of (made ++ column ∷ []) []) (drop (i + 1) columns)))
    ∙ sym (ap (λ r. appended made r) (named_behind-next most made c (drop (i + 1) columns) room new))
    ∙ read-item most columns made i all c within is so_far)

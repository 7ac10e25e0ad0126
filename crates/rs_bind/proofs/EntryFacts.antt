-- Entries that were bound stand before those that are left.
use Rattle.std.proofs.Common.{ℕ, ◌≡◌, ◌≢◌, ◌+◌, ◌<◌, ◌==◌, Bool, true, false, ◌||◌, List, [], ◌∷◌, ◌++◌, length, drop, refl, sym, ap, ◌∙◌, append_assoc, arith}
use Rattle.std.specs.Prelude.{Option, Result, Ok, Err, slice_index_or}
use Rattle.std.specs.List.{AllByRecursion, list_any}
use Rattle.std.specs.Str.{bytes_eq}
use Rattle.std.proofs.lemmas.Bool.Decides.{nat_tests}
use Rattle.std.proofs.lemmas.List.{drop_more}
use Rattle.rs_syntax.specs.declared.name.Name.{Name}
use Rattle.rs_table.specs.Appended.{appended}
use Rattle.rs_value.specs.Results.{◌>>=◌}
use Rattle.rs_catalog.specs.Catalog.{CatalogDef, number_named}
use Rattle.rs_catalog.specs.declared.room.What.TheVariants as what
use Rattle.rs_typing.specs.declared.fault.BindFault.{BindFault}
use Rattle.rs_typing.specs.declared.fault.BindFault.TheVariants.{At}
use Rattle.rs_typing.specs.declared.fault.Why.TheVariants.{LimitOf, NameTwice, NoTable}
use Rattle.rs_typing.specs.Missing.{or_fault}
use Rattle.rs_bind.specs.Sources.{alias_of, entries_behind, entries_of}

-- one more element
pub AllByRecursion-push : {A : Type 0} (P : A → Type 0) (xs : List A) (x : A) → AllByRecursion P xs → P x → AllByRecursion P (xs ++ x ∷ [])
AllByRecursion-push P [] x all h = (h, tt)
AllByRecursion-push P (y ∷ xs) x all h = (all.0, AllByRecursion-push P xs x all.1 h)

-- the aliases of entries, the last one first, before other aliases
abbrev pub aliases_of : List (ℕ × List ℕ) → List (List ℕ) → List (List ℕ)
aliases_of [] before = before
aliases_of (entry ∷ entries) before = aliases_of entries (entry.1 ∷ before)

length-aliases_of : (entries : List (ℕ × List ℕ)) (before : List (List ℕ)) → length (aliases_of entries before) ≡ length entries + length before
length-aliases_of [] before = omega arith
length-aliases_of (entry ∷ entries) before = omega (arith, length-aliases_of entries (entry.1 ∷ before))

aliases_of-push : (entries : List (ℕ × List ℕ)) (entry : ℕ × List ℕ) (before : List (List ℕ))
    → aliases_of (entries ++ entry ∷ []) before ≡ entry.1 ∷ aliases_of entries before
aliases_of-push [] entry before = refl
aliases_of-push (first ∷ entries) entry before = aliases_of-push entries entry (first.1 ∷ before)

or-swap : (a b c : Bool) → (a || (b || c)) ≡ ((b || a) || c)
or-swap true true c = refl
or-swap true false c = refl
or-swap false true c = refl
or-swap false false c = refl

or-zero : (a : Bool) → (a || false) ≡ a
or-zero true = refl
or-zero false = refl

any-aliases_before : (name : List ℕ) (entries : List (ℕ × List ℕ)) (before : List (List ℕ))
    → list_any (λ alias. bytes_eq alias name) (aliases_of entries before)
    ≡ (list_any (λ (entry : ℕ × List ℕ). bytes_eq entry.1 name) entries || list_any (λ alias. bytes_eq alias name) before)
any-aliases_before name [] before = refl
any-aliases_before name (entry ∷ entries) before =
    any-aliases_before name entries (entry.1 ∷ before)
    ∙ or-swap (list_any (λ (entry : ℕ × List ℕ). bytes_eq entry.1 name) entries) (bytes_eq entry.1 name) (list_any (λ alias. bytes_eq alias name) before)

-- an alias is among them where an entry has it
any-aliases_of : (name : List ℕ) (entries : List (ℕ × List ℕ))
    → list_any (λ alias. bytes_eq alias name) (aliases_of entries []) ≡ list_any (λ (entry : ℕ × List ℕ). bytes_eq entry.1 name) entries
any-aliases_of name entries = any-aliases_before name entries [] ∙ or-zero (list_any (λ (entry : ℕ × List ℕ). bytes_eq entry.1 name) entries)

-- the item at an index stands first in what is left from there
drop-item : {A : Type 0} (xs : List A) (i : ℕ) (x : A) → i < length xs → x ≡ slice_index_or xs i x → drop i xs ≡ x ∷ drop (i + 1) xs
drop-item xs i x within is = drop_more xs i x within ∙ ap (λ y. y ∷ drop (i + 1) xs) (sym is)

-- one more item was read
appended-next : {A : Type 0} (made : List A) (item : A) (rest : Result (List A) BindFault)
    → appended made (rest >>= λ items. Ok (item ∷ items)) ≡ appended (made ++ item ∷ []) rest
appended-next made item (Ok items) = ap (λ all. Ok all) (sym (append_assoc made (item ∷ []) items))
appended-next made item (Err fault) = refl

module _ (catalogue : CatalogDef) where
  -- what is left behind entries that were bound
  abbrev pub entries_left : List (ℕ × List ℕ) → List (Name × Option Name) → Result (List (ℕ × List ℕ)) BindFault
  entries_left made left = appended made (entries_behind catalogue (aliases_of made []) left)

  abbrev table_of : Name × Option Name → Result ℕ BindFault
  table_of entry = or_fault (At NoTable entry.0.at) (number_named what.Table entry.0.text catalogue)

  -- no more entries may stand there
  left-full : (made : List (ℕ × List ℕ)) (entry : Name × Option Name) (rest : List (Name × Option Name)) → length made ≡ 6
      → entries_left made (entry ∷ rest) ≡ Err (At LimitOf entry.0.at)
  left-full made entry rest full =
      let test : (length (aliases_of made []) == 6) ≡ true = grind (arith, nat_tests, length-aliases_of made []) in
      rw test refl

  -- a table that isn't there
  left-no_table : (made : List (ℕ × List ℕ)) (entry : Name × Option Name) (rest : List (Name × Option Name)) (fault : BindFault) → length made ≢ 6
      → table_of entry ≡ Err fault → entries_left made (entry ∷ rest) ≡ Err fault
  left-no_table made entry rest fault room none =
      let test : (length (aliases_of made []) == 6) ≡ false = grind (arith, nat_tests, length-aliases_of made []) in
      rw (test, none) refl

  -- an alias that stands before
  left-twice : (made : List (ℕ × List ℕ)) (entry : Name × Option Name) (rest : List (Name × Option Name)) (number : ℕ) → length made ≢ 6
      → table_of entry ≡ Ok number → list_any (λ (e : ℕ × List ℕ). bytes_eq e.1 (alias_of entry).text) made ≡ true
      → entries_left made (entry ∷ rest) ≡ Err (At NameTwice (alias_of entry).at)
  left-twice made entry rest number room is twice =
      let test : (length (aliases_of made []) == 6) ≡ false = grind (arith, nat_tests, length-aliases_of made []) in
      rw (test, is, any-aliases_of (alias_of entry).text made, twice) refl

  -- an entry that may stand there
  left-next : (made : List (ℕ × List ℕ)) (entry : Name × Option Name) (rest : List (Name × Option Name)) (number : ℕ) → length made ≢ 6
      → table_of entry ≡ Ok number → list_any (λ (e : ℕ × List ℕ). bytes_eq e.1 (alias_of entry).text) made ≡ false
      → entries_left made (entry ∷ rest) ≡ entries_left (made ++ (number, (alias_of entry).text) ∷ []) rest
  left-next made entry rest number room is new =
      let test : (length (aliases_of made []) == 6) ≡ false = grind (arith, nat_tests, length-aliases_of made []) in
      let item : ℕ × List ℕ = (number, (alias_of entry).text) in
      let step : entries_behind catalogue (aliases_of made []) (entry ∷ rest)
      ≡ (entries_behind catalogue (aliases_of (made ++ item ∷ []) []) rest >>= λ more. Ok (item ∷ more)) =
      rw (test, is, any-aliases_of (alias_of entry).text made, new, aliases_of-push made item []) refl in
      ap (appended made) step ∙ appended-next made item (entries_behind catalogue (aliases_of (made ++ item ∷ []) []) rest)

  -- the same at an index
  module _ (from : List (Name × Option Name)) (made : List (ℕ × List ℕ)) (i : ℕ) (entry : Name × Option Name) where
    read-entry : i < length from → entry ≡ slice_index_or from i entry → entries_left made (drop i from) ≡ entries_of catalogue from
        → entries_left made (entry ∷ drop (i + 1) from) ≡ entries_of catalogue from
    read-entry within is so_far = ap (entries_left made) (sym (drop-item from i entry within is)) ∙ so_far

    pub entries-full : i < length from → entry ≡ slice_index_or from i entry → entries_left made (drop i from) ≡ entries_of catalogue from
        → length made ≡ 6 → Err (At LimitOf entry.0.at) ≡ entries_of catalogue from
    entries-full within is so_far full = sym (left-full made entry (drop (i + 1) from) full) ∙ read-entry within is so_far

    pub entries-no_table : (fault : BindFault) → i < length from → entry ≡ slice_index_or from i entry
        → entries_left made (drop i from) ≡ entries_of catalogue from → length made ≢ 6 → table_of entry ≡ Err fault → Err fault ≡ entries_of catalogue from
    entries-no_table fault within is so_far room none =
        sym (left-no_table made entry (drop (i + 1) from) fault room none) ∙ read-entry within is so_far

    pub entries-twice : (number : ℕ) → i < length from → entry ≡ slice_index_or from i entry
        → entries_left made (drop i from) ≡ entries_of catalogue from → length made ≢ 6 → table_of entry ≡ Ok number
        → list_any (λ (e : ℕ × List ℕ). bytes_eq e.1 (alias_of entry).text) made ≡ true → Err (At NameTwice (alias_of entry).at) ≡ entries_of catalogue from
    entries-twice number within is so_far room table twice =
        sym (left-twice made entry (drop (i + 1) from) number room table twice) ∙ read-entry within is so_far

    pub entries-next : (number : ℕ) (more : List (ℕ × List ℕ)) → i < length from → entry ≡ slice_index_or from i entry
        → entries_left made (drop i from) ≡ entries_of catalogue from → length made ≢ 6 → table_of entry ≡ Ok number
        → list_any (λ (e : ℕ × List ℕ). bytes_eq e.1 (alias_of entry).text) made ≡ false → more ≡ (made ++ (number, (alias_of entry).text) ∷ [])
        → entries_left more (drop (i + 1) from) ≡ entries_of catalogue from
    entries-next number more within is so_far room table new more_is =
        ap (λ m. entries_left m (drop (i + 1) from)) more_is
        ∙ sym (left-next made entry (drop (i + 1) from) number room table new) ∙ read-entry within is so_far

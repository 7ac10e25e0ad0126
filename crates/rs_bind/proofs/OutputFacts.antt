-- The output columns of a name, one behind the other.
use Rattle.std.proofs.Common.{ℕ, ◌≡◌, ◌+◌, ◌<◌, Bool, true, false, List, [], ◌∷◌, ◌++◌, length, drop, refl, sym, ap, ◌∙◌}
use Rattle.std.specs.Prelude.{Option, Some, None, Result, Ok, Err, IfOk, is_some, option_to_list, slice_index_or, if◌then◌else◌}
use Rattle.std.specs.List.{AllByRecursion}
use Rattle.std.specs.Str.{bytes_eq}
use Rattle.std.proofs.lemmas.List.{drop_more}
use Rattle.rs_lex.specs.declared.token.Span.{Span}
use Rattle.rs_syntax.specs.declared.name.ColRef.{ColRef}
use Rattle.rs_syntax.specs.declared.name.Name.{Name}
use Rattle.rs_value.specs.Results.{◌>>=◌}
use Rattle.rs_typing.specs.declared.fault.BindFault.{BindFault}
use Rattle.rs_typing.specs.declared.fault.BindFault.TheVariants.{At}
use Rattle.rs_typing.specs.declared.fault.Why.TheVariants.{Ambiguous}
use Rattle.rs_bind.specs.Queries.{IsEntryArg, as_argument, called, output_columns}
use Rattle.rs_bind.specs.Sources.{Found, the_only}
use Rattle.rs_bind.specs.Terms.{IsEntryItem}

-- the item at an index stands first in what is left from there
drop-item : {A : Type 0} (xs : List A) (i : ℕ) (x : A) → i < length xs → x ≡ slice_index_or xs i x → drop i xs ≡ x ∷ drop (i + 1) xs
drop-item xs i x within is = drop_more xs i x within ∙ ap (λ y. y ∷ drop (i + 1) xs) (sym is)

-- what is left of the output columns, behind what was found
module _ (name : List ℕ) (names : List (List ℕ)) (items : List Found) where
  abbrev pub called_left : Option Found → ℕ → List Found
  called_left found i = option_to_list found ++ called name (drop i names) (drop i items)

  called-item : (i : ℕ) (own : List ℕ) (item : Found) → i < length names → own ≡ slice_index_or names i own → i < length items
      → item ≡ slice_index_or items i item
      → called name (drop i names) (drop i items)
      ≡ (if bytes_eq own name then item ∷ called name (drop (i + 1) names) (drop (i + 1) items) else called name (drop (i + 1) names) (drop (i + 1) items))
  called-item i own item within is_own behind is_item =
      ap (λ left. called name left (drop i items)) (drop-item names i own within is_own)
      ∙ ap (λ left. called name (own ∷ drop (i + 1) names) left) (drop-item items i item behind is_item)

  -- the column at an index, and those behind it
  module _ (all : List Found) (i : ℕ) (own : List ℕ) (item : Found) (within : i < length names) (is_own : own ≡ slice_index_or names i own)
      (behind : i < length items) (is_item : item ≡ slice_index_or items i item) where
    read-item : (found : Option Found) (test : Bool) → bytes_eq own name ≡ test → called_left found i ≡ all
        → (option_to_list found ++ (if test then item ∷ called name (drop (i + 1) names) (drop (i + 1) items)
        else called name (drop (i + 1) names) (drop (i + 1) items))) ≡ all
    read-item found test is so_far =
        ap (λ own_test. option_to_list found ++ (if own_test then item ∷ called name (drop (i + 1) names) (drop (i + 1) items)
        else called name (drop (i + 1) names) (drop (i + 1) items))) (sym is)
        ∙ (ap (λ left. option_to_list found ++ left) (sym (called-item i own item within is_own behind is_item)) ∙ so_far)

    pub called-other : (found : Option Found) → bytes_eq own name ≡ false → called_left found i ≡ all → called_left found (i + 1) ≡ all
    called-other found is so_far = read-item found false is so_far

    called-first : bytes_eq own name ≡ true → called_left None i ≡ all → called_left (Some item) (i + 1) ≡ all
    called-first is so_far = read-item None true is so_far

    called-second : (first : Found) (at : Span) → bytes_eq own name ≡ true → called_left (Some first) i ≡ all → Err (At Ambiguous at) ≡ the_only at all
    called-second first at is so_far = ap (the_only at) (read-item (Some first) true is so_far)

    -- the same by whether one was found
    pub called-next : (found : Option Found) → bytes_eq own name ≡ true → is_some found ≡ false → called_left found i ≡ all → called_left (Some item) (i + 1) ≡ all
    called-next None is none so_far = called-first is so_far
    called-next (Some first) is none so_far = cc

    pub called-twice : (found : Option Found) (at : Span) → bytes_eq own name ≡ true → is_some found ≡ true → called_left found i ≡ all
        → Err (At Ambiguous at) ≡ the_only at all
    called-twice None at is some so_far = cc
    called-twice (Some first) at is some so_far = called-second first at is so_far

-- what holds of each output column holds of the only one of a name
called-all : (P : Found → Type 0) (name : List ℕ) (names : List (List ℕ)) (items : List Found) → AllByRecursion P items → AllByRecursion P (called name names items)
called-all P name [] items all = tt
called-all P name (own ∷ names) [] all = tt
called-all P name (own ∷ names) (item ∷ items) all = go (bytes_eq own name) (called-all P name names items all.1) where
  go : (test : Bool) → AllByRecursion P (called name names items)
      → AllByRecursion P (if test then item ∷ called name names items else called name names items)
  go true rest = (all.0, rest)
  go false rest = rest

the_only-holds : {A : Type 0} (P : A → Type 0) (at : Span) (xs : List A) → AllByRecursion P xs → IfOk (the_only at xs) P
the_only-holds P at [] all = tt
the_only-holds P at (x ∷ []) all = all.0
the_only-holds P at (x ∷ y ∷ more) all = tt

as_argument-entry : (answer : Result Found BindFault) → IfOk answer IsEntryItem → IfOk (answer >>= λ f. Ok (as_argument f)) (λ a. IsEntryArg a.0)
as_argument-entry (Ok found) h = h
as_argument-entry (Err fault) h = tt

-- a reference stands for a column of an entry from 1 to 6
pub output_columns-entry : (names : List (List ℕ)) (items : List Found) → AllByRecursion IsEntryItem items → (c : ColRef)
    → IfOk (output_columns names items c) (λ found. IsEntryArg found.0)
output_columns-entry names items few c = go (c.alias) refl where
  go : (alias : Option Name) → c.alias ≡ alias → IfOk (output_columns names items c) (λ found. IsEntryArg found.0)
  go None is =
      let found = called c.column.text names items in
      rw is (as_argument-entry (the_only c.column.at found) (the_only-holds IsEntryItem c.column.at found (called-all IsEntryItem c.column.text names items few)))
  go (Some alias) is = rw is tt

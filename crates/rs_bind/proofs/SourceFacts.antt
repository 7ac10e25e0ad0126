-- The columns that a reference can stand for, one entry after the other.
use Rattle.std.proofs.Common.{ℕ, suc, ◌≡◌, ◌+◌, ◌<◌, ◌≤◌, Bool, true, false, List, [], ◌∷◌, ◌++◌, length, refl, sym, subst, arith}
use Rattle.std.specs.Prelude.{Option, Some, None, Result, Ok, Err, IfOk, if◌then◌else◌}
use Rattle.std.specs.List.{AllByRecursion}
use Rattle.std.proofs.lemmas.List.{length-map}
use Rattle.rs_value.specs.declared.kind.Kind.{Kind}
use Rattle.rs_lex.specs.declared.token.Span.{Span}
use Rattle.rs_syntax.specs.declared.name.ColRef.{ColRef}
use Rattle.rs_table.specs.Column.{Column, is_named}
use Rattle.rs_value.specs.Results.{◌>>=◌}
use Rattle.rs_catalog.specs.Catalog.{CatalogDef}
use Rattle.rs_typing.specs.declared.fault.BindFault.{BindFault}
use Rattle.rs_typing.specs.Parameters.{placed, placed_from}
use Rattle.rs_bind.specs.Indexes.{columns_in, is_of_entry}
use Rattle.rs_bind.specs.Queries.{IsEntryArg, as_argument, block_columns}
use Rattle.rs_bind.specs.Sources.{Found, Source, column_in, matches_from, sources_of, the_only}

-- where a reference stands in an entry that may have it
abbrev pub match_of : ColRef → Source → Option (ℕ × Kind)
match_of c source = if is_of_entry source.0 c.alias then placed c.column.text source.1 else None

-- the same as a column of the entry of this number
abbrev pub matched : ℕ → Option (ℕ × Kind) → List Found
matched entry None = []
matched entry (Some column) = ((entry, column.0), column.1) ∷ []

pub matches_from-cons : (entry : ℕ) (c : ColRef) (source : Source) (rest : List Source)
    → matches_from entry c (source ∷ rest) ≡ (matched entry (match_of c source) ++ matches_from (suc entry) c rest)
matches_from-cons entry c source rest = go (is_of_entry source.0 c.alias) refl (placed c.column.text source.1) refl where
  go : (own : Bool) → is_of_entry source.0 c.alias ≡ own → (place : Option (ℕ × Kind)) → placed c.column.text source.1 ≡ place
      → matches_from entry c (source ∷ rest) ≡ (matched entry (match_of c source) ++ matches_from (suc entry) c rest)
  go false other place at = rw other refl
  go true own None at = rw (own, at) refl
  go true own (Some column) at = rw (own, at) refl

-- a column of at most this many entries, of 64 columns each
pub record IsWithin (most : ℕ) (found : Found) : Type 0 where
  pub some : 1 ≤ found.0.0
  pub few : found.0.0 ≤ most
  pub place : found.0.1 < 64

placed-step : (test : Bool) (from rest : ℕ) (kind : Kind) (other : Option (ℕ × Kind)) (found : ℕ × Kind)
    → (if test then Some (from, kind) else other) ≡ Some found → (other ≡ Some found → found.0 < suc from + rest) → found.0 < from + suc rest
placed-step true from rest kind other found h ih =
    let same : (from, kind) ≡ found = cc in
    subst (λ (f : ℕ × Kind). f.0 < from + suc rest) same (omega arith)
placed-step false from rest kind other found h ih = omega (arith, ih h)

placed_from-within : (name : List ℕ) (columns : List Column) (from : ℕ) (found : ℕ × Kind) → placed_from from name columns ≡ Some found
    → found.0 < from + length columns
placed_from-within name [] from found h = cc
placed_from-within name (column ∷ rest) from found h =
    placed-step (is_named name column) from (length rest) column.1 (placed_from (suc from) name rest) found h (placed_from-within name rest (suc from) found)

pub match_of-within : (c : ColRef) (source : Source) (found : ℕ × Kind) → match_of c source ≡ Some found → found.0 < length source.1
match_of-within c source found = go (is_of_entry source.0 c.alias) where
  go : (own : Bool) → (if own then placed c.column.text source.1 else None) ≡ Some found → found.0 < length source.1
  go true h = omega (arith, placed_from-within c.column.text source.1 0 found h)
  go false h = cc

matched-within : (most entry : ℕ) (c : ColRef) (source : Source) (place : Option (ℕ × Kind)) (rest : List Found) → match_of c source ≡ place → 1 ≤ entry
    → entry ≤ most → length source.1 ≤ 64 → AllByRecursion (IsWithin most) rest → AllByRecursion (IsWithin most) (matched entry place ++ rest)
matched-within most entry c source None rest is some few columns all = all
matched-within most entry c source (Some place) rest is some few columns all =
    (record { some = some; few = few; place = omega (arith, match_of-within c source place is, columns) }, all)

matches_from-within : (most : ℕ) (c : ColRef) (sources : List Source) (entry : ℕ) → 1 ≤ entry → entry + length sources ≤ suc most
    → AllByRecursion (λ (source : Source). length source.1 ≤ 64) sources → AllByRecursion (IsWithin most) (matches_from entry c sources)
matches_from-within most c [] entry some few columns = tt
matches_from-within most c (source ∷ rest) entry some few columns =
    subst (AllByRecursion (IsWithin most)) (sym (matches_from-cons entry c source rest))
    (matched-within most entry c source (match_of c source) (matches_from (suc entry) c rest) refl some (omega (arith, few)) columns.0
    (matches_from-within most c rest (suc entry) (omega arith) (omega (arith, few)) columns.1))

the_only-holds : {A : Type 0} (P : A → Type 0) (at : Span) (xs : List A) → AllByRecursion P xs → IfOk (the_only at xs) P
the_only-holds P at [] all = tt
the_only-holds P at (x ∷ []) all = all.0
the_only-holds P at (x ∷ y ∷ more) all = tt

-- what holds of the columns of each entry's table holds of each source's
sources_of-columns : (catalogue : CatalogDef) (from : List (ℕ × List ℕ)) → AllByRecursion (λ (entry : ℕ × List ℕ). length (columns_in catalogue entry.0) ≤ 64) from
    → AllByRecursion (λ (source : Source). length source.1 ≤ 64) (sources_of catalogue from)
sources_of-columns catalogue [] columns = tt
sources_of-columns catalogue (entry ∷ rest) columns = (columns.0, sources_of-columns catalogue rest columns.1)

-- where a block has six entries at most, of 64 columns each
module _ (catalogue : CatalogDef) (from : List (ℕ × List ℕ)) (few : length from ≤ 6)
    (columns : AllByRecursion (λ (entry : ℕ × List ℕ). length (columns_in catalogue entry.0) ≤ 64) from) (c : ColRef) where
  -- a column is one of an entry from 1 to 6
  pub column_in-within : IfOk (column_in (sources_of catalogue from) c) (IsWithin 6)
  column_in-within =
      let count : length (sources_of catalogue from) ≡ length from = length-map from (λ (entry : ℕ × List ℕ). (entry.1, columns_in catalogue entry.0)) in
      the_only-holds (IsWithin 6) _ (matches_from 1 c (sources_of catalogue from))
      (matches_from-within 6 c (sources_of catalogue from) 1 (omega arith) (omega (arith, count, few)) (sources_of-columns catalogue from columns))

  -- as an argument it is a column of an entry from 1 to 6
  pub block_columns-within : IfOk (block_columns (sources_of catalogue from) c) (λ found. IsEntryArg found.0)
  block_columns-within = go (column_in (sources_of catalogue from) c) column_in-within where
    go : (found : Result Found BindFault) → IfOk found (IsWithin 6) → IfOk (found >>= λ f. Ok (as_argument f)) (λ a. IsEntryArg a.0)
    go (Ok found) h = (h.some, h.few)
    go (Err fault) h = tt

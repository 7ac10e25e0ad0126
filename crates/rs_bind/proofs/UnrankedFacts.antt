-- The output columns of a block are columns of its entries, and have names.
use Rattle.std.proofs.Common.{ℕ, suc, ◌≡◌, ◌+◌, ◌-◌, ◌<◌, ◌≤◌, Bool, true, false, List, [], ◌∷◌, ◌++◌, length, refl, sym, ap, subst, ◌∙◌, arith, inl, inr}
use Rattle.std.specs.Prelude.{◌==◌, ◌&&◌, Option, Some, None, nat_le, slice_get, Result, Ok, Err, if◌then◌else◌}
use Rattle.std.specs.List.{AllByRecursion, list_all, zip}
use Rattle.std.proofs.lemmas.Bool.{and_right}
use Rattle.std.proofs.lemmas.List.{length-map}
use Rattle.std.proofs.lemmas.Option.{slice_get_within}
use Rattle.rs_value.specs.Answer.{Gives}
use Rattle.rs_value.specs.declared.kind.Kind.{Kind}
use Rattle.rs_lex.specs.declared.token.Span.{Span}
use Rattle.rs_syntax.specs.declared.name.ColRef.{ColRef}
use Rattle.rs_syntax.specs.declared.select.Items.{Items}
use Rattle.rs_syntax.specs.declared.select.Items.TheVariants as items
use Rattle.rs_table.specs.Column.{Column}
use Rattle.rs_value.specs.Results.{◌>>=◌}
use Rattle.rs_expr.specs.Uses.{is_kind}
use Rattle.rs_catalog.specs.Catalog.{CatalogDef}
use Rattle.rs_typing.specs.declared.fault.BindFault.{BindFault}
use Rattle.rs_typing.specs.declared.fault.BindFault.TheVariants.{At, Memory}
use Rattle.rs_typing.specs.declared.fault.Why.TheVariants.{LimitOf}
use Rattle.rs_typing.specs.Typing.{span_of_column}
use Rattle.rs_typing.proofs.StepFacts.{Ok-steps, Ok-test}
use Rattle.rs_bind.specs.Indexes.{columns_in}
use Rattle.rs_bind.specs.Queries.{Unranked, agree, name_of, output_names}
use Rattle.rs_bind.specs.Sources.{Found, Source, all_columns_from, column_in, columns_from, items_behind, items_of, matches_from, most_items, sources_of, the_only}
use Rattle.rs_bind.specs.Terms.{IsEntryItem, IsItemOf}
use Rattle.rs_bind.proofs.SourceFacts.{match_of, match_of-within, matched, matches_from-cons}

All-append : {A : Type 0} (P : A → Type 0) (xs ys : List A) → AllByRecursion P xs → AllByRecursion P ys → AllByRecursion P (xs ++ ys)
All-append P [] ys all others = others
All-append P (x ∷ xs) ys all others = (all.0, All-append P xs ys all.1 others)

All-weaker : {A : Type 0} (P Q : A → Type 0) → ((x : A) → P x → Q x) → (xs : List A) → AllByRecursion P xs → AllByRecursion Q xs
All-weaker P Q follows [] all = tt
All-weaker P Q follows (x ∷ xs) all = (follows x all.0, All-weaker P Q follows xs all.1)

-- a column of one of these entries, the first of which has this number
abbrev IsFrom : ℕ → List Source → Found → Type 0
IsFrom entry sources item =
    (entry ≤ item.0.0) × ((source : Source) × (slice_get sources (item.0.0 - entry) ≡ Some source) × (item.0.1 < length source.1))

IsFrom-first : (entry : ℕ) (source : Source) (rest : List Source) (place : ℕ) (kind : Kind) → place < length source.1
    → IsFrom entry (source ∷ rest) ((entry, place), kind)
IsFrom-first entry source rest place kind within =
    let none : entry - entry ≡ 0 = omega arith in
    (omega arith, (source, ap (slice_get (source ∷ rest)) none, within))

IsFrom-cons : (entry : ℕ) (source : Source) (rest : List Source) (item : Found) → IsFrom (suc entry) rest item → IsFrom entry (source ∷ rest) item
IsFrom-cons entry source rest item h =
    let place : item.0.0 - entry ≡ suc (item.0.0 - suc entry) = omega (arith, h.0) in
    (omega (arith, h.0), (h.1.0, ap (slice_get (source ∷ rest)) place ∙ h.1.1, h.1.2))

-- all columns of an entry
All-columns_from : (entry : ℕ) (source : Source) (rest : List Source) (place : ℕ) (columns : List Column) → place + length columns ≡ length source.1
    → AllByRecursion (IsFrom entry (source ∷ rest)) (columns_from entry place columns)
All-columns_from entry source rest place [] same = tt
All-columns_from entry source rest place (column ∷ columns) same =
    (IsFrom-first entry source rest place column.1 (omega (arith, same)), All-columns_from entry source rest (suc place) columns (omega (arith, same)))

-- all columns of all entries
All-all_columns_from : (entry : ℕ) (sources : List Source) → AllByRecursion (IsFrom entry sources) (all_columns_from entry sources)
All-all_columns_from entry [] = tt
All-all_columns_from entry (source ∷ rest) =
    All-append (IsFrom entry (source ∷ rest)) (columns_from entry 0 source.1) (all_columns_from (suc entry) rest)
    (All-columns_from entry source rest 0 source.1 (omega arith))
    (All-weaker (IsFrom (suc entry) rest) (IsFrom entry (source ∷ rest)) (IsFrom-cons entry source rest) (all_columns_from (suc entry) rest)
    (All-all_columns_from (suc entry) rest))

-- the columns that a reference can stand for
All-matched : (entry : ℕ) (c : ColRef) (source : Source) (rest : List Source) (place : Option (ℕ × Kind)) → match_of c source ≡ place
    → AllByRecursion (IsFrom entry (source ∷ rest)) (matched entry place)
All-matched entry c source rest None is = tt
All-matched entry c source rest (Some place) is = (IsFrom-first entry source rest place.0 place.1 (match_of-within c source place is), tt)

All-matches_from : (entry : ℕ) (c : ColRef) (sources : List Source) → AllByRecursion (IsFrom entry sources) (matches_from entry c sources)
All-matches_from entry c [] = tt
All-matches_from entry c (source ∷ rest) =
    subst (AllByRecursion (IsFrom entry (source ∷ rest))) (sym (matches_from-cons entry c source rest))
    (All-append (IsFrom entry (source ∷ rest)) (matched entry (match_of c source)) (matches_from (suc entry) c rest)
    (All-matched entry c source rest (match_of c source) refl)
    (All-weaker (IsFrom (suc entry) rest) (IsFrom entry (source ∷ rest)) (IsFrom-cons entry source rest) (matches_from (suc entry) c rest)
    (All-matches_from (suc entry) c rest)))

the_only-Ok : {A : Type 0} (P : A → Type 0) (at : Span) (xs : List A) (x : A) → the_only at xs ≡ Ok x → AllByRecursion P xs → P x
the_only-Ok P at [] x h all = cc
the_only-Ok P at (y ∷ []) x h all = let same : y ≡ x = cc in subst P same all.0
the_only-Ok P at (y ∷ z ∷ more) x h all = cc

IsItemOf-column_in : (sources : List Source) (c : ColRef) (item : Found) → column_in sources c ≡ Ok item → IsItemOf sources item
IsItemOf-column_in sources c item h = the_only-Ok (IsItemOf sources) (span_of_column c) (matches_from 1 c sources) item h (All-matches_from 1 c sources)

Ok-otherwise : {A : Type 0} (test : Bool) (fault : BindFault) (a : Result A BindFault) (t : A) → (if test then Err fault else a) ≡ Ok t → a ≡ Ok t
Ok-otherwise true fault a t h = cc
Ok-otherwise false fault a t h = h

-- the output columns that are written
All-items_behind : (sources : List Source) (before : ℕ) (columns : List ColRef) (made : List Found) → items_behind sources before columns ≡ Ok made
    → AllByRecursion (IsItemOf sources) made
All-items_behind sources before [] made h =
    let same : [] ≡ made = cc in
    subst (AllByRecursion (IsItemOf sources)) same tt
All-items_behind sources before (c ∷ rest) made h =
    let step : Result (List Found) BindFault = (column_in sources c >>= λ column. items_behind sources (suc before) rest >>= λ more. Ok (column ∷ more)) in
    let room = Ok-otherwise (before == most_items) (At LimitOf (span_of_column c)) step made h in
    let first = Ok-steps (column_in sources c) (λ column. items_behind sources (suc before) rest >>= λ more. Ok (column ∷ more)) made room in
    let others = Ok-steps (items_behind sources (suc before) rest) (λ more. Ok (first.0 ∷ more)) made first.2 in
    let same : first.0 ∷ others.0 ≡ made = cc in
    subst (AllByRecursion (IsItemOf sources)) same
    (IsItemOf-column_in sources c first.0 first.1, All-items_behind sources (suc before) rest others.0 others.1)

-- the output columns of a block are columns of its entries
All-items_of : (sources : List Source) (written : Items) (made : List Found) → items_of sources written ≡ Ok made → AllByRecursion (IsItemOf sources) made
All-items_of sources (items.Star at) made h =
    let test = Ok-test (nat_le (length (all_columns_from 1 sources)) most_items) (Ok (all_columns_from 1 sources)) (At LimitOf at) made h in
    let same : all_columns_from 1 sources ≡ made = cc in
    subst (AllByRecursion (IsItemOf sources)) same (All-all_columns_from 1 sources)
All-items_of sources (items.List columns) made h = All-items_behind sources 0 columns made h

pub items-given : (sources : List Source) (written : Items) (made : List Found) → Gives Memory (items_of sources written) (Ok made)
    → AllByRecursion (IsItemOf sources) made
items-given sources written made (inl h) = All-items_of sources written made (sym h)
items-given sources written made (inr h) = cc

-- where there are six entries at most, they are columns of entries from 1 to 6
pub items-entries : (catalogue : CatalogDef) (from : List (ℕ × List ℕ)) (made : List Found) → length from ≤ 6
    → AllByRecursion (IsItemOf (sources_of catalogue from)) made → AllByRecursion IsEntryItem made
items-entries catalogue from made few all = All-weaker (IsItemOf (sources_of catalogue from)) IsEntryItem entry_of made all where
  count : length (sources_of catalogue from) ≡ length from
  count = length-map from (λ (entry : ℕ × List ℕ). (entry.1, columns_in catalogue entry.0))

  entry_of : (item : Found) → IsItemOf (sources_of catalogue from) item → IsEntryItem item
  entry_of item h = (h.0, omega (arith, count, few, slice_get_within (sources_of catalogue from) (item.0.0 - 1) h.1.0 h.1.1))

-- output columns agree where there are as many, and they agree pair by pair
pub agree-pairs : (left right : List Found) → length left ≡ length right
    → list_all (λ pair. is_kind pair.0.1 (Some pair.1.1)) (zip left right) ≡ agree left right
agree-pairs [] [] same = refl
agree-pairs [] (b ∷ right) same = absurd (omega arith)
agree-pairs (a ∷ left) [] same = absurd (omega arith)
agree-pairs (a ∷ left) (b ∷ right) same = ap (λ rest. is_kind a.1 (Some b.1) && rest) (agree-pairs left right (omega arith))

pub agree-lengths : (left right : List Found) → (length left ≡ length right → ⊥) → agree left right ≡ false
agree-lengths [] [] differ = absurd (differ refl)
agree-lengths [] (b ∷ right) differ = refl
agree-lengths (a ∷ left) [] differ = refl
agree-lengths (a ∷ left) (b ∷ right) differ =
    and_right (is_kind a.1 (Some b.1)) (agree left right) (agree-lengths left right (λ same. differ (ap suc same)))

both : (a b : Bool) → (a && b) ≡ true → b ≡ true
both true b h = h
both false b h = cc

-- where they agree, there are as many
pub agree-same_length : (left right : List Found) → agree left right ≡ true → length left ≡ length right
agree-same_length [] [] h = refl
agree-same_length [] (b ∷ right) h = cc
agree-same_length (a ∷ left) [] h = cc
agree-same_length (a ∷ left) (b ∷ right) h = ap suc (agree-same_length left right (both (is_kind a.1 (Some b.1)) (agree left right) h))

-- the names of the left output columns are no more than the right output columns
pub output_names-few : (catalogue : CatalogDef) (left : Unranked) (names : List (List ℕ)) (right : List Found) → names ≡ output_names catalogue left
    → agree left.items right ≡ true → length names ≤ length right
output_names-few catalogue left names right same h =
    let count : length (output_names catalogue left) ≡ length left.items = length-map left.items (λ (item : Found). name_of catalogue left item.0) in
    omega (arith, ap length same, count, agree-same_length left.items right h)

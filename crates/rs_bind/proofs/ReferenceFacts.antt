-- The columns that an expression names, and their places.
use Rattle.std.proofs.Common.{ℕ, suc, ◌≡◌, ◌≤◌, ◌<◌, ◌+◌, ◌*◌, ◌==◌, Bool, true, false, cond, eqb, ◌||◌, List, [], ◌∷◌, ◌++◌, length, get_or, map, refl, sym, subst, ap, ◌∙◌, arith}
use Rattle.std.specs.Prelude.{◌↔◌, ◌-◌, Option, Some, None, option_map, unwrap_or, position, slice_get, nat_lt, Result, Ok, Err, if◌then◌else◌}
use Rattle.std.specs.List.{AllByRecursion, IsDistinct, list_any, position_or_len}
use Rattle.std.proofs.lemmas.Bool.Decides.{nat_tests}
use Rattle.std.proofs.lemmas.List.{length-map}
use Rattle.std.proofs.lemmas.List.Quantifiers.{position-Some}
use Rattle.std.proofs.lemmas.List.Sums.{fails_before_first}
use Rattle.std.proofs.lemmas.Map.Steps.{length-le_from_distinct_below}
use Rattle.std.proofs.lemmas.Option.{slice_get-get_or, slice_get-map}
use Rattle.std.proofs.lemmas.Result.{IfOk-at_ok}
use borrow.Author.Tests.{eqb-true}
use Rattle.rs_value.specs.declared.kind.Kind.{Kind}
use Rattle.rs_value.specs.declared.value.Value.{Value}
use Rattle.rs_syntax.specs.declared.name.ColRef.{ColRef}
use Rattle.rs_syntax.specs.Syntax.{Expression}
use Rattle.rs_value.specs.Results.{◌>>=◌}
use Rattle.rs_catalog.specs.Catalog.{CatalogDef}
use Rattle.rs_query.specs.WellFormed.{AreDistinct, same_column}
use Rattle.rs_typing.specs.declared.fault.BindFault.{BindFault}
use Rattle.rs_typing.specs.declared.fault.BindFault.TheVariants.{At}
use Rattle.rs_typing.specs.declared.fault.Why.TheVariants.{NoColumn}
use Rattle.rs_typing.specs.References.{references_of}
use Rattle.rs_typing.specs.Missing.{or_fault}
use Rattle.rs_typing.specs.Typing.{span_of_column}
use Rattle.rs_typing.proofs.EachFacts.{both_true, each-append, each-map, each-then, parts_true}
use Rattle.rs_typing.proofs.ResultFacts.{same_Ok, well}
use Rattle.rs_typing.proofs.RetypingFacts.{IsBacked}
use Rattle.rs_typing.proofs.StepFacts.{Ok-or_fault, Ok-steps}
use Rattle.rs_bind.specs.Conditions.{named_columns, places_in, with_column, with_found, with_references}
use Rattle.rs_bind.specs.Indexes.{columns_in}
use Rattle.rs_bind.specs.Sources.{Found, Source, column_in, sources_of}
use Rattle.rs_bind.specs.Terms.{IsEntryColumn}
use Rattle.rs_bind.proofs.SourceFacts.{IsWithin, column_in-within}

-- columns are the same where they are so
pub is_same_column : (a b : ℕ × ℕ) → same_column a b ≡ true → a ≡ b
is_same_column a b h =
    let parts = parts_true (a.0 == b.0) (a.1 == b.1) h in
    let entry : a.0 ≡ b.0 = grind (arith, nat_tests, parts.0) in
    let place : a.1 ≡ b.1 = grind (arith, nat_tests, parts.1) in
    λ i. (entry i, place i)

pub same_column-itself : (a : ℕ × ℕ) → same_column a a ≡ true
same_column-itself a =
    let entry : (a.0 == a.0) ≡ true = grind (arith, nat_tests) in
    let place : (a.1 == a.1) ≡ true = grind (arith, nat_tests) in
    both_true (a.0 == a.0) (a.1 == a.1) entry place

-- a column is another one, told alike from both sides
other_column : (a b : ℕ × ℕ) → same_column a b ≡ false → same_column b a ≡ false
other_column a b h = go (same_column b a) refl where
  go : (same : Bool) → same_column b a ≡ same → same ≡ false
  go false e = refl
  go true e =
      let is : b ≡ a = is_same_column b a e in
      let own : same_column a a ≡ false = subst (λ (c : ℕ × ℕ). same_column a c ≡ false) is h in
      let itself = same_column-itself a in
      cc

-- references of two parts, one part after the other
pub with_references_append : (sources : List Source) (columns : List (ℕ × ℕ)) (front behind : List ColRef)
    → with_references sources columns (front ++ behind) ≡ with_references sources (with_references sources columns front) behind
with_references_append sources columns [] behind = refl
with_references_append sources columns (c ∷ front) behind = with_references_append sources (with_found columns (column_in sources c)) front behind

-- whether a column is one of these
abbrev pub IsOneOf : List (ℕ × ℕ) → ℕ × ℕ → Type 0
IsOneOf columns column = list_any (same_column column) columns ≡ true

any-front : (test : ℕ × ℕ → Bool) (front behind : List (ℕ × ℕ)) → list_any test front ≡ true → list_any test (front ++ behind) ≡ true
any-front test [] behind h = cc
any-front test (column ∷ front) behind h = go (test column) (any-front test front behind) h where
  go : (passes : Bool) → (list_any test front ≡ true → list_any test (front ++ behind) ≡ true) → (passes || list_any test front) ≡ true
      → (passes || list_any test (front ++ behind)) ≡ true
  go true more h = refl
  go false more h = more h

any-last : (column : ℕ × ℕ) (front : List (ℕ × ℕ)) → IsOneOf (front ++ column ∷ []) column
any-last column [] = ap (λ b. b || false) (same_column-itself column)
any-last column (other ∷ front) = go (same_column column other) (any-last column front) where
  go : (same : Bool) → IsOneOf (front ++ column ∷ []) column → (same || list_any (same_column column) (front ++ column ∷ [])) ≡ true
  go true more = refl
  go false more = more

none-append : (test : ℕ × ℕ → Bool) (front : List (ℕ × ℕ)) (column : ℕ × ℕ) → list_any test front ≡ false → test column ≡ false
    → list_any test (front ++ column ∷ []) ≡ false
none-append test [] column h k = ap (λ b. b || false) k
none-append test (other ∷ front) column h k = go (test other) (λ none. none-append test front column none k) h where
  go : (passes : Bool) → (list_any test front ≡ false → list_any test (front ++ column ∷ []) ≡ false) → (passes || list_any test front) ≡ false
      → (passes || list_any test (front ++ column ∷ [])) ≡ false
  go true more h = cc
  go false more h = more h

-- no column stands twice
parts_false : (a b : Bool) → (a || b) ≡ false → (a ≡ false) × (b ≡ false)
parts_false true b h = cc
parts_false false b h = (refl, h)

AreDistinct-append : (columns : List (ℕ × ℕ)) (column : ℕ × ℕ) → AreDistinct columns → list_any (same_column column) columns ≡ false
    → AreDistinct (columns ++ column ∷ [])
AreDistinct-append [] column h none = (refl, tt)
AreDistinct-append (other ∷ columns) column h none =
    let parts = parts_false (same_column column other) (list_any (same_column column) columns) none in
    (none-append (same_column other) columns column h.0 (other_column column other parts.0), AreDistinct-append columns column h.1 parts.1)

AreDistinct-with_column : (columns : List (ℕ × ℕ)) (column : ℕ × ℕ) → AreDistinct columns → AreDistinct (with_column columns column)
AreDistinct-with_column columns column h = go (list_any (same_column column) columns) refl where
  go : (there : Bool) → list_any (same_column column) columns ≡ there → AreDistinct (if there then columns else columns ++ column ∷ [])
  go true e = h
  go false e = AreDistinct-append columns column h e

AreDistinct-with_found : (columns : List (ℕ × ℕ)) (found : Result Found BindFault) → AreDistinct columns → AreDistinct (with_found columns found)
AreDistinct-with_found columns (Ok found) h = AreDistinct-with_column columns found.0 h
AreDistinct-with_found columns (Err fault) h = h

AreDistinct-with_references : (sources : List Source) (columns : List (ℕ × ℕ)) (references : List ColRef) → AreDistinct columns
    → AreDistinct (with_references sources columns references)
AreDistinct-with_references sources columns [] h = h
AreDistinct-with_references sources columns (c ∷ references) h =
    AreDistinct-with_references sources (with_found columns (column_in sources c)) references (AreDistinct-with_found columns (column_in sources c) h)

-- a column stays where it is
stays-with_column : (test : ℕ × ℕ → Bool) (columns : List (ℕ × ℕ)) (column : ℕ × ℕ) → list_any test columns ≡ true
    → list_any test (with_column columns column) ≡ true
stays-with_column test columns column h = go (list_any (same_column column) columns) where
  go : (there : Bool) → list_any test (if there then columns else columns ++ column ∷ []) ≡ true
  go true = h
  go false = any-front test columns (column ∷ []) h

stays-with_found : (test : ℕ × ℕ → Bool) (columns : List (ℕ × ℕ)) (found : Result Found BindFault) → list_any test columns ≡ true
    → list_any test (with_found columns found) ≡ true
stays-with_found test columns (Ok found) h = stays-with_column test columns found.0 h
stays-with_found test columns (Err fault) h = h

stays-with_references : (sources : List Source) (test : ℕ × ℕ → Bool) (columns : List (ℕ × ℕ)) (references : List ColRef) → list_any test columns ≡ true
    → list_any test (with_references sources columns references) ≡ true
stays-with_references sources test columns [] h = h
stays-with_references sources test columns (c ∷ references) h =
    stays-with_references sources test (with_found columns (column_in sources c)) references (stays-with_found test columns (column_in sources c) h)

-- the column that a reference stands for is there
there-with_column : (columns : List (ℕ × ℕ)) (column : ℕ × ℕ) → IsOneOf (with_column columns column) column
there-with_column columns column = go (list_any (same_column column) columns) refl where
  go : (there : Bool) → list_any (same_column column) columns ≡ there → IsOneOf (if there then columns else columns ++ column ∷ []) column
  go true e = e
  go false e = any-last column columns

abbrev pub IsNamed : List Source → List (ℕ × ℕ) → ColRef → Type 0
IsNamed sources columns c = (found : Found) → column_in sources c ≡ Ok found → IsOneOf columns found.0

each-named : (sources : List Source) (columns : List (ℕ × ℕ)) (references : List ColRef)
    → AllByRecursion (IsNamed sources (with_references sources columns references)) references
each-named sources columns [] = tt
each-named sources columns (c ∷ references) = (first, each-named sources (with_found columns (column_in sources c)) references) where
  first : IsNamed sources (with_references sources (with_found columns (column_in sources c)) references) c
  first found is =
      stays-with_references sources (same_column found.0) (with_found columns (column_in sources c)) references
      (subst (λ (r : Result Found BindFault). IsOneOf (with_found columns r) found.0) (sym is) (there-with_column columns found.0))

-- what holds of each column that a reference stands for
each-with_found : (P : ℕ × ℕ → Type 0) (columns : List (ℕ × ℕ)) (found : Result Found BindFault) → AllByRecursion P columns
    → ((f : Found) → found ≡ Ok f → P f.0) → AllByRecursion P (with_found columns found)
each-with_found P columns (Ok found) h holds = go (list_any (same_column found.0) columns) where
  go : (there : Bool) → AllByRecursion P (if there then columns else columns ++ found.0 ∷ [])
  go true = h
  go false = each-append P columns (found.0 ∷ []) h (holds found refl, tt)
each-with_found P columns (Err fault) h holds = h

each-with_references : (P : ℕ × ℕ → Type 0) (sources : List Source) (columns : List (ℕ × ℕ)) (references : List ColRef) → AllByRecursion P columns
    → ((c : ColRef) (found : Found) → column_in sources c ≡ Ok found → P found.0) → AllByRecursion P (with_references sources columns references)
each-with_references P sources columns [] h holds = h
each-with_references P sources columns (c ∷ references) h holds =
    each-with_references P sources (with_found columns (column_in sources c)) references
    (each-with_found P columns (column_in sources c) h (holds c)) holds

-- the columns that an expression names
pub AreDistinct-named : (sources : List Source) (x : Expression) → AreDistinct (named_columns sources x)
AreDistinct-named sources x = AreDistinct-with_references sources [] (references_of x) tt

pub each-reference-named : (sources : List Source) (x : Expression) → AllByRecursion (IsNamed sources (named_columns sources x)) (references_of x)
each-reference-named sources x = each-named sources [] (references_of x)

pub each-named-column : (P : ℕ × ℕ → Type 0) (sources : List Source) (x : Expression)
    → ((c : ColRef) (found : Found) → column_in sources c ≡ Ok found → P found.0) → AllByRecursion P (named_columns sources x)
each-named-column P sources x holds = each-with_references P sources [] (references_of x) tt holds

-- a test that some column passes has one at some place
any-place : (test : ℕ × ℕ → Bool) (columns : List (ℕ × ℕ)) → list_any test columns ≡ true
    → (k : ℕ) × (k < length columns) × (test (get_or columns k (0, 0)) ≡ true)
any-place test [] h = cc
any-place test (column ∷ columns) h = go (test column) (any-place test columns) refl h where
  go : (passes : Bool) → (list_any test columns ≡ true → (k : ℕ) × (k < length columns) × (test (get_or columns k (0, 0)) ≡ true))
      → test column ≡ passes → (passes || list_any test columns) ≡ true
      → (k : ℕ) × (k < suc (length columns)) × (test (get_or (column ∷ columns) k (0, 0)) ≡ true)
  go true rest e h = (0, omega arith, e)
  go false rest e h = let more = rest h in (suc more.0, omega (arith, more.1), more.2)

none-there : (columns : List (ℕ × ℕ)) (column : ℕ × ℕ) → IsOneOf columns column → position (same_column column) columns ≡ None → ⊥
none-there columns column there is = past (nat_lt first (length columns)) refl is where
  test : ℕ × ℕ → Bool
  test c = same_column column c

  first : ℕ
  first = position_or_len (same_column column) columns

  past : (b : Bool) → nat_lt first (length columns) ≡ b → cond b (Some first) None ≡ None → ⊥
  past true e n = cc
  past false e n =
      let at = any-place (same_column column) columns there in
      let fails : same_column column (get_or columns at.0 (0, 0)) ≡ false =
      fails_before_first (same_column column) columns at.0 (0, 0) (grind (arith, nat_tests, at.1, e)) in
      let passes = at.2 in
      cc

-- a column at the place that was found
at-position : (columns : List (ℕ × ℕ)) (column : ℕ × ℕ) (place : ℕ) → position (same_column column) columns ≡ Some place
    → slice_get columns place ≡ Some column
at-position columns column place is =
    let found = position-Some (same_column column) columns place (0, 0) is in
    slice_get-get_or columns place (0, 0) found.0 ∙ ap (λ (c : ℕ × ℕ). Some c) (sym (is_same_column column (get_or columns place (0, 0)) found.1))

-- the place of a column that is there
record IsThere (columns : List (ℕ × ℕ)) (column : ℕ × ℕ) : Type 0 where
  place : ℕ
  first : position (same_column column) columns ≡ Some place
  has : slice_get columns place ≡ Some column

IsThere-of : (columns : List (ℕ × ℕ)) (column : ℕ × ℕ) → IsOneOf columns column → IsThere columns column
IsThere-of columns column there = go (position (same_column column) columns) refl where
  go : (o : Option ℕ) → position (same_column column) columns ≡ o → IsThere columns column
  go (Some place) is = record { place = place; first = is; has = at-position columns column place is }
  go None is = absurd (none-there columns column there is)

-- the argument that a reference stands for, and its column
pub record IsPlace (columns : List (ℕ × ℕ)) (sources : List Source) (c : ColRef) (found : ℕ × Kind) : Type 0 where
  pub column : Found
  pub is_column : column_in sources c ≡ Ok column
  pub place : slice_get columns found.0 ≡ Some column.0
  pub has_kind : column.1 ≡ found.1

-- behind the column that is found
abbrev place_of : List (ℕ × ℕ) → ColRef → Found → Result (ℕ × Kind) BindFault
place_of columns c found = or_fault (At NoColumn (span_of_column c)) (position (same_column found.0) columns) >>= λ place. Ok (place, found.1)

pub IsPlace-found : (columns : List (ℕ × ℕ)) (sources : List Source) (c : ColRef) (found : ℕ × Kind) → places_in columns sources c ≡ Ok found
    → IsPlace columns sources c found
IsPlace-found columns sources c found h =
    let first = Ok-steps (column_in sources c) (place_of columns c) found h in
    let fault = At NoColumn (span_of_column c) in
    let second = Ok-steps (or_fault fault (position (same_column first.0.0) columns)) (λ place. Ok (place, first.0.1)) found first.2 in
    let is = Ok-or_fault fault (position (same_column first.0.0) columns) second.0 second.1 in
    let same : (second.0, first.0.1) ≡ found = same_Ok (second.0, first.0.1) found second.2 in
    let at = at-position columns first.0.0 second.0 is in
    record {
      column = first.0;
      is_column = first.1;
      place = ap (λ (f : ℕ × Kind). slice_get columns f.0) (sym same) ∙ at;
      has_kind = ap (λ (f : ℕ × Kind). f.1) same;
    }

found-place : (columns : List (ℕ × ℕ)) (sources : List Source) (c : ColRef) (found : Found) (place : ℕ) → column_in sources c ≡ Ok found
    → position (same_column found.0) columns ≡ Some place → places_in columns sources c ≡ Ok (place, found.1)
found-place columns sources c found place is at =
    ap (λ (r : Result Found BindFault). r >>= place_of columns c) is
    ∙ ap (λ (o : Option ℕ). or_fault (At NoColumn (span_of_column c)) o >>= λ p. well (p, found.1)) at

-- a reference whose column is among the columns is refused exactly where it stands for no column, or for several
IsNamed-refused : (columns : List (ℕ × ℕ)) (sources : List Source) (c : ColRef) → IsNamed sources columns c → (fault : BindFault)
    → (places_in columns sources c ≡ Err fault) ↔ (column_in sources c ≡ Err fault)
IsNamed-refused columns sources c named fault = (λ h. go (column_in sources c) refl h, λ h. ap (λ (r : Result Found BindFault). r >>= place_of columns c) h) where
  go : (r : Result Found BindFault) → column_in sources c ≡ r → places_in columns sources c ≡ Err fault → column_in sources c ≡ Err fault
  go (Ok found) is h =
      let there = IsThere-of columns found.0 (named found is) in
      let placed = found-place columns sources c found there.place is there.first in
      cc
  go (Err failed) is h = let same = ap (λ (r : Result Found BindFault). r >>= place_of columns c) is in cc

pub each-refused : (sources : List Source) (x : Expression)
    → AllByRecursion (λ c. (fault : BindFault) → (places_in (named_columns sources x) sources c ≡ Err fault) ↔ (column_in sources c ≡ Err fault)) (references_of x)
each-refused sources x =
    each-then (IsNamed sources (named_columns sources x))
    (λ c. (fault : BindFault) → (places_in (named_columns sources x) sources c ≡ Err fault) ↔ (column_in sources c ≡ Err fault))
    (IsNamed-refused (named_columns sources x) sources) (references_of x) (each-reference-named sources x)

-- the place among other columns of the column that is an argument
abbrev place_among : List (ℕ × ℕ) → Option (ℕ × ℕ) → ℕ
place_among columns (Some column) = unwrap_or (position (same_column column) columns) 0
place_among columns None = 0

abbrev pub moved : List (ℕ × ℕ) → List (ℕ × ℕ) → ℕ → ℕ
moved from to i = place_among to (slice_get from i)

-- a reference whose column is among other columns stands for the place there, and for the same value
pub IsBacked-moved : (cell : ℕ × ℕ → Value) (from to : List (ℕ × ℕ)) (sources : List Source) (c : ColRef) → IsNamed sources to c
    → IsBacked (moved from to) (map cell from) (map cell to) (places_in from sources) (places_in to sources) c
IsBacked-moved cell from to sources c named found h =
    let p = IsPlace-found from sources c found h in
    let there = IsThere-of to p.column.0 (named p.column p.is_column) in
    let same : moved from to found.0 ≡ there.place = ap (place_among to) p.place ∙ ap (λ (o : Option ℕ). unwrap_or o 0) there.first in
    let placed = found-place to sources c p.column there.place p.is_column there.first in
    let value : slice_get (map cell to) (moved from to found.0) ≡ Some (cell p.column.0) =
    slice_get-map cell to (moved from to found.0)
    ∙ (ap (λ (k : ℕ). option_map cell (slice_get to k)) same ∙ ap (option_map cell) there.has) in
    let own : slice_get (map cell from) found.0 ≡ Some (cell p.column.0) = slice_get-map cell from found.0 ∙ ap (option_map cell) p.place in
    (placed ∙ (λ i. Ok (sym same i, p.has_kind i)), value ∙ sym own)

-- columns of six entries of 64 columns each are no more than 384
abbrev pub IsNear : ℕ × ℕ → Type 0
IsNear column = (1 ≤ column.0) × (column.0 ≤ 6) × (column.1 < 64)

-- a number for each of them
abbrev number : ℕ × ℕ → ℕ
number column = (column.0 - 1) * 64 + column.1

number-below : (column : ℕ × ℕ) → IsNear column → number column < 384
number-below column near =
    let least = near.0 in
    let most = near.1 in
    let place = near.2 in
    omega (arith, least, most, place)

number-apart : (a b : ℕ × ℕ) → IsNear a → IsNear b → same_column a b ≡ false → eqb (number a) (number b) ≡ false
number-apart a b near_a near_b apart = go (eqb (number a) (number b)) refl where
  go : (same : Bool) → eqb (number a) (number b) ≡ same → same ≡ false
  go false e = refl
  go true e =
      let equal : (a.0 - 1) * 64 + a.1 ≡ (b.0 - 1) * 64 + b.1 = eqb-true (number a) (number b) e in
      let entry : a.0 ≡ b.0 = omega (arith, equal, near_a.0, near_a.2, near_b.0, near_b.2) in
      let place : a.1 ≡ b.1 = omega (arith, equal, near_a.0, near_a.2, near_b.0, near_b.2) in
      let is : a ≡ b = λ i. (entry i, place i) in
      let itself = same_column-itself a in
      let own : same_column a a ≡ false = subst (λ (c : ℕ × ℕ). same_column a c ≡ false) (sym is) apart in
      cc

apart-numbers : (column : ℕ × ℕ) (columns : List (ℕ × ℕ)) → IsNear column → AllByRecursion IsNear columns → list_any (same_column column) columns ≡ false
    → AllByRecursion (λ y. eqb (number column) y ≡ false) (map number columns)
apart-numbers column [] near all none = tt
apart-numbers column (other ∷ columns) near all none =
    let parts = parts_false (same_column column other) (list_any (same_column column) columns) none in
    (number-apart column other near all.0 parts.0, apart-numbers column columns near all.1 parts.1)

IsDistinct-numbers : (columns : List (ℕ × ℕ)) → AreDistinct columns → AllByRecursion IsNear columns → IsDistinct eqb (map number columns)
unfolding IsDistinct
IsDistinct-numbers [] h near = tt
IsDistinct-numbers (column ∷ columns) h near = (apart-numbers column columns near.0 near.1 h.0, IsDistinct-numbers columns h.1 near.1)

found-within : (P : ℕ → Type 0) (q : ℕ) (numbers : List ℕ) → AllByRecursion P numbers → list_any (eqb q) numbers ≡ true → P q
found-within P q [] h e = cc
found-within P q (y ∷ numbers) h e = go (eqb q y) refl (found-within P q numbers h.1) e where
  go : (same : Bool) → eqb q y ≡ same → (list_any (eqb q) numbers ≡ true → P q) → (same || list_any (eqb q) numbers) ≡ true → P q
  go true is rest found = subst P (sym (eqb-true q y is)) h.0
  go false is rest found = rest found

few-columns : (columns : List (ℕ × ℕ)) → AreDistinct columns → AllByRecursion IsNear columns → length columns ≤ 384
few-columns columns h near =
    let below = each-map (λ n. n < 384) number columns (each-then IsNear (λ c. number c < 384) number-below columns near) in
    let many = length-le_from_distinct_below (map number columns) 384 (IsDistinct-numbers columns h near)
    (λ q e. found-within (λ n. n < 384) q (map number columns) below e) in
    let same = length-map columns number in
    omega (arith, many, same)

-- where a block has six entries at most, of 64 columns each
module _ (catalogue : CatalogDef) (from : List (ℕ × List ℕ)) (few : length from ≤ 6)
    (columns : AllByRecursion (λ (entry : ℕ × List ℕ). length (columns_in catalogue entry.0) ≤ 64) from) (x : Expression) where
  near : AllByRecursion IsNear (named_columns (sources_of catalogue from) x)
  near = each-named-column IsNear (sources_of catalogue from) x (λ c found is.
      let within = IfOk-at_ok (IsWithin 6) is (column_in-within catalogue from few columns c) in
      (within.some, within.few, within.place))

  pub named-few : length (named_columns (sources_of catalogue from) x) ≤ 384
  named-few = few-columns (named_columns (sources_of catalogue from) x) (AreDistinct-named (sources_of catalogue from) x) near

  pub named-entries : AllByRecursion IsEntryColumn (named_columns (sources_of catalogue from) x)
  named-entries = each-then IsNear IsEntryColumn (λ c n. (n.0, n.1)) (named_columns (sources_of catalogue from) x) near

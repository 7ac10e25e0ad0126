-- The place of a column by its name.
use Rattle.std.proofs.Common.{◌≡◌, ℕ, zero, suc, ◌+◌, ◌<◌, true, false, cond, List, [], ◌∷◌, length, get_or, Some, None, sym, ap, ◌∙◌, refl, arith, add-zero, zero-add, subst, inl, inr}
use Rattle.std.specs.Prelude.{Option, option_map, if◌then◌else◌, nat_lt, Bool, slice_get, map, position}
use Rattle.std.specs.List.{position_or_len}
use Rattle.std.specs.Str.{bytes_eq}
use Rattle.std.proofs.lemmas.Option.{none-some, same_Some, slice_get-get_or, slice_get_cases}
use Rattle.std.proofs.lemmas.List.{length-map}
use Rattle.std.proofs.lemmas.List.Quantifiers.{position-Some}
use Rattle.std.proofs.lemmas.List.Sums.{fails_before_first}
use Rattle.std.proofs.lemmas.Bool.Decides.{nat_tests}
use Rattle.rs_value.specs.declared.kind.Kind.{Kind}
use Rattle.rs_value.specs.declared.kind.Kind.TheVariants as kind
use Rattle.rs_table.specs.Column.{Column, is_named, place_of}
use Rattle.rs_typing.specs.Parameters.{placed, placed_from}

-- a column has the name, and none before it
placed_from-found : (name : List ℕ) (columns : List Column) (d : Column) (from place : ℕ) → place < length columns
    → is_named name (get_or columns place d) ≡ true → ((k : ℕ) → k < place → is_named name (get_or columns k d) ≡ false)
    → placed_from from name columns ≡ Some (from + place, (get_or columns place d).1)
placed_from-found name [] d from place within is before = absurd (omega (arith, within))
placed_from-found name (c ∷ cs) d from zero within is before =
    ap (λ b. if b then Some (from, c.1) else placed_from (suc from) name cs) is ∙ ap (λ n. Some (n, c.1)) (sym (add-zero from))
placed_from-found name (c ∷ cs) d from (suc place) within is before =
    let same : suc from + place ≡ from + suc place = omega arith in
    ap (λ b. if b then Some (from, c.1) else placed_from (suc from) name cs) (before 0 (omega arith))
    ∙ (placed_from-found name cs d (suc from) place (omega (arith, within)) is (λ k h. before (suc k) (omega (arith, h)))
    ∙ ap (λ n. Some (n, (get_or cs place d).1)) same)

-- no column has the name
placed_from-none : (name : List ℕ) (columns : List Column) (d : Column) (from : ℕ)
    → ((k : ℕ) → k < length columns → is_named name (get_or columns k d) ≡ false) → placed_from from name columns ≡ None
placed_from-none name [] d from others = refl
placed_from-none name (c ∷ cs) d from others =
    ap (λ b. if b then Some (from, c.1) else placed_from (suc from) name cs) (others 0 (omega arith))
    ∙ placed_from-none name cs d (suc from) (λ k h. others (suc k) (omega (arith, h)))

-- the same by the place alone
pub placed-Some : (name : List ℕ) (columns : List Column) (place : ℕ) (d : Column) → place_of name columns ≡ Some place
    → placed name columns ≡ Some (place, (get_or columns place d).1)
placed-Some name columns place d h =
    let found = position-Some (is_named name) columns place d h in
    placed_from-found name columns d 0 place found.0 found.1 found.2 ∙ ap (λ n. Some (n, (get_or columns place d).1)) (zero-add place)

pub placed-None : (name : List ℕ) (columns : List Column) → place_of name columns ≡ None → placed name columns ≡ None
placed-None name columns h = go (nat_lt first (length columns)) refl h where
  d : Column
  d = ([], kind.Int)

  first : ℕ
  first = position_or_len (is_named name) columns

  go : (within : Bool) → nat_lt first (length columns) ≡ within → cond within (Some first) None ≡ None → placed name columns ≡ None
  go true is e = cc
  go false is e =
      placed_from-none name columns d 0 (λ k below. fails_before_first (is_named name) columns k d (grind (arith, nat_tests)))

-- the kind of a column that was found
pub kind-placed : (name : List ℕ) (columns : List Column) (found : ℕ × Kind) → placed name columns ≡ Some found
    → option_map (λ c. c.1) (slice_get columns found.0) ≡ Some found.1
kind-placed name columns found h = go (place_of name columns) refl where
  d : Column
  d = ([], kind.Int)

  go : (place : Option ℕ) → place_of name columns ≡ place → option_map (λ c. c.1) (slice_get columns found.0) ≡ Some found.1
  go None is = absurd (none-some found (sym (placed-None name columns is) ∙ h))
  go (Some place) is =
      let within = (position-Some (is_named name) columns place d is).0 in
      let same : (place, (get_or columns place d).1) ≡ found = same_Some (place, (get_or columns place d).1) found (sym (placed-Some name columns place d is) ∙ h) in
      subst (λ (f : ℕ × Kind). option_map (λ c. c.1) (slice_get columns f.0) ≡ Some f.1) same (ap (option_map (λ c. c.1)) (slice_get-get_or columns place d within))

-- what has a number has a place
pub slice_get-numbered : {A : Type 0} (f : A → List ℕ) (xs : List A) (name : List ℕ) (number : ℕ) → position (λ other. bytes_eq other name) (map f xs) ≡ Some number
    → (x : A) × (slice_get xs number ≡ Some x)
slice_get-numbered f xs name number h =
    let within : number < length (map f xs) = (position-Some (λ other. bytes_eq other name) (map f xs) number [] h).0 in
    elim (slice_get_cases xs number).1 [ inl at ↦ (at.0, at.2) | inr past ↦ absurd (omega (arith, length-map xs f)) ]

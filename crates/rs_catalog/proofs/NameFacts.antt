-- Names in a list: a look-up by name in a map finds what the definitions find among its keys.
use Rattle.std.proofs.Common.{◌≡◌, ℕ, Bool, true, false, cond, ◌||◌, List, [], ◌∷◌, ◌++◌, length, nat_eq, eqb, eq-eqb, Ok, refl, sym, ap, ◌∙◌, is_some}
use Rattle.std.proofs.lemmas.Bool.{or_parts, true≢false}
use Rattle.std.proofs.lemmas.Cmp.{nat_list_eq_equiv}
use Rattle.std.proofs.lemmas.List.{length-map}
use Rattle.std.proofs.lemmas.Map.Made.{is_some-lookup}
use Rattle.std.specs.Cmp.Lexicographic.{pointwise}
use Rattle.std.specs.List.{list_any}
use Rattle.std.specs.Map.{keys_of, lookup}
use Rattle.std.specs.Str.{bytes_eq}
use Rattle.indexmap.specs.IndexMap.{insert_entry}
use Rattle.rs_catalog.specs.Catalog.{has_name, room_in}

-- the equality of keys is that of names
pub same_name : (name other : List ℕ) → pointwise nat_eq name other ≡ bytes_eq other name
same_name name other = nat_list_eq_equiv.symm name other

any-same_name : (name : List ℕ) (names : List (List ℕ)) → list_any (pointwise nat_eq name) names ≡ has_name name names
any-same_name name [] = refl
any-same_name name (other ∷ names) = λ i. same_name name other i || any-same_name name names i

-- a map has a value of a name exactly where the name is among its keys
pub is_some-lookup_name : {V : Type 0} (name : List ℕ) (entries : List (List ℕ × V)) → is_some (lookup (pointwise nat_eq name) entries) ≡ has_name name (keys_of entries)
is_some-lookup_name name entries = is_some-lookup (pointwise nat_eq name) entries ∙ any-same_name name (keys_of entries)

pub length-keys : {V : Type 0} (entries : List (List ℕ × V)) → length (keys_of entries) ≡ length entries
length-keys entries = length-map entries (λ e. e.0)

-- an entry of a new name is put last
pub insert_entry-new_name : {V : Type 0} (entries : List (List ℕ × V)) (name : List ℕ) (value : V) → has_name name (keys_of entries) ≡ false → insert_entry (pointwise nat_eq) entries name value ≡ entries ++ (name, value) ∷ []
insert_entry-new_name [] name value free = refl
insert_entry-new_name (e ∷ entries) name value free =
    let parts = or_parts (bytes_eq e.0 name) (has_name name (keys_of entries)) free in
    ap (λ b. cond b ((e.0, value) ∷ entries) (e ∷ insert_entry (pointwise nat_eq) entries name value)) (same_name name e.0 ∙ parts.0) ∙ ap (λ rest. e ∷ rest) (insert_entry-new_name entries name value parts.1)

-- a list that has room for a name doesn't have it, and isn't full
pub record IsFree (name : List ℕ) (most : ℕ) (names : List (List ℕ)) : Type 0 where
  pub new_name : has_name name names ≡ false
  pub not_full : length names ≡ most → ⊥

pub free_from_room : (name : List ℕ) (most : ℕ) (names : List (List ℕ)) → room_in name most names ≡ Ok tt → IsFree name most names
free_from_room name most names room = by (has_name name names) (eqb (length names) most) refl refl
  where
    by : (taken full : Bool) → has_name name names ≡ taken → eqb (length names) most ≡ full → IsFree name most names
    by true full is_taken is_full = let refused = rw is_taken at room in cc
    by false true is_taken is_full = let refused = rw (is_taken, is_full) at room in cc
    by false false is_taken is_full = record {
      new_name = is_taken;
      not_full = λ same. true≢false (sym (eq-eqb (length names) most same) ∙ is_full);
    }

-- what tells whether a map has room for a name, and where its entry goes
pub ruleset rooms = (is_some-lookup_name, length-keys)

pub ruleset places = (insert_entry-new_name)

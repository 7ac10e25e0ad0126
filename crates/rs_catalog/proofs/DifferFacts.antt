-- Names of which no two are equal.
use Rattle.std.proofs.Common.{◌≡◌, ◌∙◌, ℕ, false, ◌||◌, List, [], ◌∷◌, ◌++◌, refl, sym, ap, subst}
use Rattle.std.proofs.lemmas.Bool.{or_parts}
use Rattle.std.proofs.lemmas.Cmp.{nat_list_eq_equiv}
use Rattle.std.proofs.lemmas.List.{map-append}
use Rattle.std.proofs.lemmas.List.Folds.{list_any-append}
use Rattle.std.specs.Map.{keys_of}
use Rattle.std.specs.Str.{bytes_eq}
use Rattle.rs_catalog.specs.Catalog.{has_name}
use Rattle.rs_catalog.specs.Inside.{NamesDiffer}

-- a list doesn't have a name behind another one of it
has_name-push : (name last : List ℕ) (names : List (List ℕ)) → has_name name names ≡ false → bytes_eq last name ≡ false → has_name name (names ++ last ∷ []) ≡ false
has_name-push name last names before other = list_any-append (λ some. bytes_eq some name) names (last ∷ []) ∙ ap (λ b. b || (bytes_eq last name || false)) before ∙ ap (λ b. b || false) other

-- a new name is put last
NamesDiffer-push : (names : List (List ℕ)) (last : List ℕ) → NamesDiffer names → has_name last names ≡ false → NamesDiffer (names ++ last ∷ [])
NamesDiffer-push [] last differ new_name = (refl, tt)
NamesDiffer-push (name ∷ names) last differ new_name =
    let parts = or_parts (bytes_eq name last) (has_name last names) new_name in
    (has_name-push name last names differ.0 (nat_list_eq_equiv.symm last name ∙ parts.0), NamesDiffer-push names last differ.1 parts.1)

-- the same of the keys of a map
pub NamesDiffer-put : {V : Type 0} (entries : List (List ℕ × V)) (last : List ℕ) (value : V) → NamesDiffer (keys_of entries) → has_name last (keys_of entries) ≡ false → NamesDiffer (keys_of (entries ++ (last, value) ∷ []))
NamesDiffer-put entries last value differ new_name =
    let same : keys_of entries ++ last ∷ [] ≡ keys_of (entries ++ (last, value) ∷ []) = sym (map-append (λ e. e.0) entries ((last, value) ∷ [])) in
    subst NamesDiffer same (NamesDiffer-push (keys_of entries) last differ new_name)

-- Output values that are equal by the test are the same, and a set of lists has those that the test finds.
use Rattle.std.proofs.Common.{◌≡◌, ◌∙◌, ◌&&◌, ◌||◌, ◌++◌, Bool, true, false, List, [], ◌∷◌, map, refl, sym, ap, if◌then◌else◌}
use Rattle.std.specs.Bool.{Decides}
use Rattle.std.specs.declared.alloc.Global.{Global}
use Rattle.std.specs.declared.vec.Vec.{Vec}
use Rattle.std.specs.List.{list_any}
use Rattle.std.specs.Cmp.Lexicographic.{pointwise, bytes_decides}
use Rattle.std.proofs.lemmas.Bool.Decides.{Decides-int_eq, same_from_decides}
use Rattle.std.proofs.lemmas.List.{map-append}
use Rattle.rs_value.specs.declared.value.Value.{Value}
use Rattle.rs_value.specs.declared.value.Value.TheVariants.{Int, Text}
use Rattle.rs_value.specs.contracts.value.ValuePartialEq.TheImpl as value
use Rattle.rs_outputs.specs.Seen.{has_list, same_value, same_values, with_list}

-- the values of a list
abbrev pub items_in : Vec Value Global → List Value
items_in list = list.items

-- equal by the test is equal
same_value-decides : (u v : Value) → Decides (same_value u v) (u ≡ v)
same_value-decides (Int n) (Int m) = (λ e. ap Int ((Decides-int_eq n m).0 e), λ e. (Decides-int_eq n m).1 (cc))
same_value-decides (Text t) (Text u) = (λ e. ap Text ((bytes_decides t u).0 e), λ e. (bytes_decides t u).1 (cc))
same_value-decides (Int n) (Text u) = (λ e. absurd (cc), λ e. absurd (cc))
same_value-decides (Text t) (Int m) = (λ e. absurd (cc), λ e. absurd (cc))

both : (a b : Bool) → (a && b) ≡ true → (a ≡ true) × (b ≡ true)
both true b e = (refl, e)
both false b e = cc

same_values-decides : (us vs : List Value) → Decides (same_values us vs) (us ≡ vs)
same_values-decides [] [] = (λ e. refl, λ e. refl)
same_values-decides [] (v ∷ vs) = (λ e. absurd (cc), λ e. absurd (cc))
same_values-decides (u ∷ us) [] = (λ e. absurd (cc), λ e. absurd (cc))
same_values-decides (u ∷ us) (v ∷ vs) = (
  λ e. (let parts = both (same_value u v) (same_values us vs) e in
      let first : u ≡ v = (same_value-decides u v).0 parts.0 in
      let rest : us ≡ vs = (same_values-decides us vs).0 parts.1 in
      cc),
  λ e. (let first : u ≡ v = cc in let rest : us ≡ vs = cc in
      ap (λ b. b && same_values us vs) ((same_value-decides u v).1 first) ∙ (same_values-decides us vs).1 rest),
)

pub same_values-same : (us vs : List Value) → same_values us vs ≡ true → us ≡ vs
same_values-same us vs e = (same_values-decides us vs).0 e

pub same_values-itself : (us : List Value) → same_values us us ≡ true
same_values-itself us = (same_values-decides us us).1 refl

-- the order of two lists doesn't matter
pub same_values-sym : (us vs : List Value) → same_values us vs ≡ same_values vs us
same_values-sym us vs = same_from_decides (same_values us vs) (same_values vs us) (same_values-decides us vs)
    (λ e. sym ((same_values-decides vs us).0 e), λ e. (same_values-decides vs us).1 (sym e))

-- equal by `==` is equal by the test
eq-same_value : (u v : Value) → value.ghosts.eq u v ≡ same_value u v
eq-same_value (Int n) (Int m) = refl
eq-same_value (Text t) (Text u) = refl
eq-same_value (Int n) (Text u) = refl
eq-same_value (Text t) (Int m) = refl

pub pointwise-same_values : (us vs : List Value) → pointwise value.ghosts.eq us vs ≡ same_values us vs
pointwise-same_values [] [] = refl
pointwise-same_values [] (v ∷ vs) = refl
pointwise-same_values (u ∷ us) [] = refl
pointwise-same_values (u ∷ us) (v ∷ vs) = ap (λ b. b && pointwise value.ghosts.eq us vs) (eq-same_value u v) ∙ ap (λ b. same_value u v && b) (pointwise-same_values us vs)

-- a test of the keys of a set of lists is one of the lists
pub has_list-keys : {K : Type 0} (items : K → List Value) (keys : List K) (values : List Value)
    → list_any (λ k. pointwise value.ghosts.eq values (items k)) keys ≡ has_list values (map items keys)
has_list-keys items [] values = refl
has_list-keys items (key ∷ keys) values =
    ap (λ b. b || list_any (λ k. pointwise value.ghosts.eq values (items k)) keys) (pointwise-same_values values (items key))
    ∙ ap (λ b. same_values values (items key) || b) (has_list-keys items keys values)

-- one more list in a set of lists
pub with_list-keys : {K : Type 0} (items : K → List Value) (keys new : List K) (key : K)
    → new ≡ (if list_any (λ k. pointwise value.ghosts.eq (items key) (items k)) keys then keys else keys ++ key ∷ [])
    → map items new ≡ with_list (items key) (map items keys)
with_list-keys items keys new key e =
    ap (map items) e
    ∙ mapped (list_any (λ k. pointwise value.ghosts.eq (items key) (items k)) keys)
    ∙ ap (λ b. if b then map items keys else map items keys ++ items key ∷ []) (has_list-keys items keys (items key))
  where
    mapped : (b : Bool) → map items (if b then keys else keys ++ key ∷ []) ≡ (if b then map items keys else map items keys ++ items key ∷ [])
    mapped true = refl
    mapped false = map-append items keys (key ∷ [])

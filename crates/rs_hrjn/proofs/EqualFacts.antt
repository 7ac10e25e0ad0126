-- Join values that the order of values doesn't tell apart are the same.
use Rattle.std.proofs.Common.{◌≡◌, true, false, List, [], ◌∷◌, refl, sym, ◌∙◌, ap, ap₂}
use Rattle.std.proofs.lemmas.Map.Lookups.{exact_bytes, exact_signed}
use Rattle.std.specs.Cmp.{IsEquivalence, int_cmp_total, tied_itself}
use Rattle.std.specs.Cmp.Lexicographic.{nat_list_cmp_total, slice_cmp}
use Rattle.std.specs.Ordering.{is_eq, ordering_then}
use Rattle.std.specs.declared.cmp.Ordering.{Ordering}
use Rattle.std.specs.declared.cmp.Ordering.TheVariants.{Less, Equal, Greater}
use Rattle.rs_value.specs.contracts.value.ValueOrd.TheImpl as order
use Rattle.rs_value.specs.declared.value.Value.{Value}
use Rattle.rs_value.specs.declared.value.Value.TheVariants.{Int, Text}
use Rattle.rs_value.specs.Value.{value_cmp}
use Rattle.rs_hrjn.specs.Drawn.{are_equal}

exact-value : (u v : Value) → value_cmp u v ≡ Equal → u ≡ v
exact-value (Int n) (Int m) e = ap Int (exact_signed n m e)
exact-value (Text t) (Text u) e = ap Text (exact_bytes t u e)
exact-value (Int n) (Text u) e = cc
exact-value (Text t) (Int m) e = cc

both-equal : (a b : Ordering) → ordering_then a b ≡ Equal → (a ≡ Equal) × (b ≡ Equal)
both-equal Less b e = cc
both-equal Equal b e = (refl, e)
both-equal Greater b e = cc

exact-values : (us vs : List Value) → slice_cmp value_cmp us vs ≡ Equal → us ≡ vs
exact-values [] [] e = refl
exact-values [] (v ∷ vs) e = cc
exact-values (u ∷ us) [] e = cc
exact-values (u ∷ us) (v ∷ vs) e =
    let both = both-equal (value_cmp u v) (slice_cmp value_cmp us vs) e in
    ap₂ (λ x xs. x ∷ xs) (exact-value u v both.0) (exact-values us vs both.1)

tied-value : (u : Value) → value_cmp u u ≡ Equal
tied-value (Int n) = tied_itself int_cmp_total n
tied-value (Text t) = tied_itself nat_list_cmp_total t

tied-values : (us : List Value) → slice_cmp value_cmp us us ≡ Equal
tied-values [] = refl
tied-values (u ∷ us) = ap₂ ordering_then (tied-value u) (tied-values us)

is_eq-Equal : (o : Ordering) → is_eq o ≡ true → o ≡ Equal
is_eq-Equal Less e = cc
is_eq-Equal Equal e = refl
is_eq-Equal Greater e = cc

pub are_equal-itself : (us : List Value) → are_equal us us ≡ true
are_equal-itself us = ap is_eq (tied-values us)

pub are_equal-same : (us vs : List Value) → are_equal us vs ≡ true → us ≡ vs
are_equal-same us vs e = exact-values us vs (is_eq-Equal (slice_cmp value_cmp us vs) e)

pub are_equal-back : (us vs : List Value) → are_equal us vs ≡ are_equal vs us
are_equal-back us vs =
    (elim (are_equal us vs) as (λ b. are_equal us vs ≡ b → b ≡ are_equal vs us) [
      | true ↦ λ e. let same = are_equal-same us vs e in sym (ap (are_equal vs) same ∙ are_equal-itself vs)
      | false ↦ λ e. (elim (are_equal vs us) as (λ b. are_equal vs us ≡ b → false ≡ b) [
        | true ↦ λ f. let same = are_equal-same vs us f in sym e ∙ ap (are_equal us) same ∙ are_equal-itself us
        | false ↦ λ f. refl
      ]) refl
    ]) refl

pub are_equal-equivalence : IsEquivalence are_equal
are_equal-equivalence = record {
  refl = are_equal-itself;
  symm = are_equal-back;
  congr = λ us vs ws e. ap (λ xs. are_equal xs ws) (are_equal-same us vs e);
}

-- the order that a map's keys have by the derived order is that of values
order-value : (u v : Value) → order.ghosts.cmp u v ≡ value_cmp u v
order-value (Int n) (Int m) = refl
order-value (Text t) (Text u) = refl
order-value (Int n) (Text u) = refl
order-value (Text t) (Int m) = refl

pub slice-values : (us vs : List Value) → slice_cmp order.ghosts.cmp us vs ≡ slice_cmp value_cmp us vs
slice-values [] [] = refl
slice-values [] (v ∷ vs) = refl
slice-values (u ∷ us) [] = refl
slice-values (u ∷ us) (v ∷ vs) = ap₂ ordering_then (order-value u v) (slice-values us vs)

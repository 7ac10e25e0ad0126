-- Lists that differ at one place are ordered by what stands there.
use Rattle.std.proofs.Common.{◌≡◌, ℕ, zero, suc, ◌<◌, List, [], ◌∷◌, length, set, refl, ◌∙◌, ap, arith}
use Rattle.std.proofs.lemmas.Cmp.{nat_cmp_total, tied_itself}
use Rattle.std.specs.Cmp.Lexicographic.{slice_cmp}
use Rattle.std.specs.Ordering.{nat_cmp, ordering_then}
use Rattle.std.specs.declared.cmp.Ordering.{Ordering}
use Rattle.std.specs.declared.cmp.Ordering.TheVariants.{Less, Equal, Greater}

-- no row yet
abbrev pub zeros : List ℕ
zeros = 0 ∷ 0 ∷ 0 ∷ 0 ∷ 0 ∷ 0 ∷ []

pub number-itself : (x : ℕ) → nat_cmp x x ≡ Equal
number-itself x = tied_itself nat_cmp_total x

numbers-itself : (xs : List ℕ) → slice_cmp nat_cmp xs xs ≡ Equal
numbers-itself [] = refl
numbers-itself (x ∷ xs) = ap (λ o. ordering_then o (slice_cmp nat_cmp xs xs)) (number-itself x) ∙ numbers-itself xs

then-equal : (o : Ordering) → ordering_then o Equal ≡ o
then-equal Less = refl
then-equal Equal = refl
then-equal Greater = refl

pub set-ordered : (xs : List ℕ) (i a b : ℕ) → i < length xs → slice_cmp nat_cmp (set xs i a) (set xs i b) ≡ nat_cmp a b
set-ordered [] i a b within = absurd (omega arith)
set-ordered (x ∷ xs) zero a b within = ap (ordering_then (nat_cmp a b)) (numbers-itself xs) ∙ then-equal (nat_cmp a b)
set-ordered (x ∷ xs) (suc i) a b within =
    ap (λ o. ordering_then o (slice_cmp nat_cmp (set xs i a) (set xs i b))) (number-itself x) ∙ set-ordered xs i a b (omega arith)

-- Arguments of a query that are those of an index, compared pair by pair.
use Rattle.std.proofs.Common.{◌≡◌, ℕ, suc, false, ◌&&◌, List, [], ◌∷◌, length, refl, ap, arith}
use Rattle.std.proofs.lemmas.Bool.{and_right}
use Rattle.std.specs.List.{list_all, zip}
use Rattle.rs_catalog.specs.declared.index.BoundArg.{BoundArg}
use Rattle.rs_catalog.specs.Indexes.{same_arg, same_args}

pub same_args-pairs : (entry : ℕ) (args others : List BoundArg) → length args ≡ length others → list_all (λ pair. same_arg entry pair.0 pair.1) (zip args others) ≡ same_args entry args others
same_args-pairs entry [] [] same = refl
same_args-pairs entry [] (b ∷ others) same = absurd (omega arith)
same_args-pairs entry (a ∷ args) [] same = absurd (omega arith)
same_args-pairs entry (a ∷ args) (b ∷ others) same = ap (λ rest. same_arg entry a b && rest) (same_args-pairs entry args others (omega arith))

pub same_args-lengths : (entry : ℕ) (args others : List BoundArg) → (length args ≡ length others → ⊥) → same_args entry args others ≡ false
same_args-lengths entry [] [] differ = absurd (differ refl)
same_args-lengths entry [] (b ∷ others) differ = refl
same_args-lengths entry (a ∷ args) [] differ = refl
same_args-lengths entry (a ∷ args) (b ∷ others) differ =
    and_right (same_arg entry a b) (same_args entry args others) (same_args-lengths entry args others (λ same. differ (ap suc same)))

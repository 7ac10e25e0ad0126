-- Different texts, as they are copied one after another.
use Rattle.std.proofs.Common.{ℕ, ◌≡◌, ◌<◌, false, zero, suc, List, [], ◌∷◌, get_or, nat_eq, refl, take, length, arith, ◌∙◌}
use Rattle.std.proofs.lemmas.Cmp.{nat_list_eq_equiv}
use Rattle.std.specs.Cmp.Lexicographic.{pointwise}
use Rattle.std.specs.List.{AllByRecursion, IsDistinct, list_any}

-- a text that differs from all of these differs from the one at a place
differs-at : (text : List ℕ) (texts : List (List ℕ)) (n : ℕ) → n < length texts → AllByRecursion (λ other. pointwise nat_eq text other ≡ false) texts
    → pointwise nat_eq text (get_or texts n []) ≡ false
differs-at text [] n within differ = absurd (omega arith)
differs-at text (other ∷ texts) zero within differ = differ.0
differs-at text (other ∷ texts) (suc n) within differ = differs-at text texts n (omega arith) differ.1

-- of different texts none is one of those before it
pub new-at : (texts : List (List ℕ)) (n : ℕ) → n < length texts → IsDistinct (pointwise nat_eq) texts → list_any (pointwise nat_eq (get_or texts n [])) (take n texts) ≡ false
unfolding IsDistinct
new-at [] n within distinct = absurd (omega arith)
new-at (text ∷ texts) zero within distinct = refl
new-at (text ∷ texts) (suc n) within distinct =
    rw (nat_list_eq_equiv.symm (get_or texts n []) text ∙ differs-at text texts n (omega arith) distinct.0) (new-at texts n (omega arith) distinct.1)

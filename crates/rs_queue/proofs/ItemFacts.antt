-- Pairs of which each item is replaced by what a function gives of the key and the item.
use Rattle.std.proofs.Common.{◌≡◌, ◌||◌, List, [], ◌∷◌, map, refl, ap}
use Rattle.std.specs.Ordering.{is_eq}
use Rattle.std.specs.declared.cmp.Ordering.{Ordering}
use Rattle.rs_queue.specs.Queue.{has_key}

-- their keys stay
pub has_key-items : {K V W : Type 0} (cmp : K → K → Ordering) (item : K → V → W) (key : K) (pairs : List (K × V)) →
    has_key cmp key (map (λ pair. (pair.0, item pair.0 pair.1)) pairs) ≡ has_key cmp key pairs
has_key-items cmp item key [] = refl
has_key-items cmp item key (pair ∷ rest) = ap (λ b. is_eq (cmp pair.0 key) || b) (has_key-items cmp item key rest)

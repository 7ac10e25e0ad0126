-- Queues: lists of pairs of a key and an item.
use Rattle.std.specs.Prelude.{◌≡◌, Bool, false, ◌||◌, List, [], ◌∷◌}
use Rattle.std.specs.BinaryHeap.{IsUpperBound}
use Rattle.std.specs.Ordering.{is_eq, flip_args, on}
use Rattle.std.specs.declared.cmp.Ordering.{Ordering}

-- whether a pair has this key, or one that the order doesn't tell from it
abbrev pub has_key : {K V : Type 0} → (K → K → Ordering) → K → List (K × V) → Bool
has_key cmp key [] = false
has_key cmp key (pair ∷ rest) = is_eq (cmp pair.0 key) || has_key cmp key rest

-- the order of pairs by their keys alone, in which the pair whose key comes first is the greatest
abbrev pub by_falling_key : {K V : Type 0} → (K → K → Ordering) → K × V → K × V → Ordering
by_falling_key cmp = flip_args (on (λ pair. pair.0) cmp)

-- no pair of the other list has a key before that of the first pair of this one; where this one has none, neither has the other
abbrev pub Leads : {K V : Type 0} → (K → K → Ordering) → List (K × V) → List (K × V) → Type 0
Leads cmp [] others = others ≡ []
Leads cmp (first ∷ rest) others = IsUpperBound (by_falling_key cmp) first others

-- The stable order on rows worked by hand: a row is its score and its number.
use Rattle.std.proofs.Common.{◌≡◌, ℕ, List, [], ◌∷◌, refl}
use Rattle.rs_rank.specs.Stable.{stable}

-- the stable order of scores and numbers
abbrev ranked : List (ℕ × ℕ) → List (ℕ × ℕ)
ranked rows = stable (λ row. row.0) rows

-- the greatest score comes first, and the first of two equal scores before the second
one_higher : ranked ((40, 1) ∷ (90, 2) ∷ (40, 3) ∷ []) ≡ (90, 2) ∷ (40, 1) ∷ (40, 3) ∷ []
one_higher = refl

-- equal scores keep their order
all_equal : ranked ((7, 1) ∷ (7, 2) ∷ (7, 3) ∷ (7, 4) ∷ []) ≡ (7, 1) ∷ (7, 2) ∷ (7, 3) ∷ (7, 4) ∷ []
all_equal = refl

-- no row
none : ranked [] ≡ []
none = refl

-- one row, of score 0
one : ranked ((0, 1) ∷ []) ≡ (0, 1) ∷ []
one = refl

-- rows whose scores fall stay as they are
descending : ranked ((9, 1) ∷ (5, 2) ∷ (1, 3) ∷ []) ≡ (9, 1) ∷ (5, 2) ∷ (1, 3) ∷ []
descending = refl

-- rows whose scores rise are turned round
ascending : ranked ((1, 1) ∷ (5, 2) ∷ (9, 3) ∷ []) ≡ (9, 3) ∷ (5, 2) ∷ (1, 1) ∷ []
ascending = refl

-- ties within falling scores, the greatest score of a u64 and 0 among them
ties_among : ranked ((0, 1) ∷ (18446744073709551615, 2) ∷ (0, 3) ∷ (12, 4) ∷ (18446744073709551615, 5) ∷ []) ≡ (18446744073709551615, 2) ∷ (18446744073709551615, 5) ∷ (12, 4) ∷ (0, 1) ∷ (0, 3) ∷ []
ties_among = refl

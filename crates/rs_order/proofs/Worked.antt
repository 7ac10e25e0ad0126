-- The definitions at short lists of numbers.
use Rattle.std.proofs.Common.{◌≡◌, ℕ, ◌/◌, [], ◌∷◌, Some, None, refl}
use Rattle.std.specs.Ordering.{nat_cmp}
use Rattle.rs_order.specs.Asks.{bar_after, asks_for}
use Rattle.rs_order.specs.Merging.{merged}
use Rattle.rs_order.specs.Sorting.{sorted}

-- sorted by the tens, numbers of the same tens as they stood
sorted-tens : sorted nat_cmp (λ n. n / 10) (31 ∷ 12 ∷ 35 ∷ 19 ∷ 11 ∷ 5 ∷ []) ≡ 5 ∷ 12 ∷ 19 ∷ 11 ∷ 31 ∷ 35 ∷ []
sorted-tens = refl

-- merged by the tens, the first list's first where they are equal
merged-tens : merged nat_cmp (λ n. n / 10) (12 ∷ 35 ∷ []) (5 ∷ 11 ∷ 31 ∷ 40 ∷ []) ≡ 5 ∷ 12 ∷ 11 ∷ 35 ∷ 31 ∷ 40 ∷ []
merged-tens = refl

-- a bar between two keys, at a key, before all and beyond all
asks_for-between : asks_for nat_cmp (λ n. n) (2 ∷ 4 ∷ 7 ∷ []) (Some 5) ≡ 3
asks_for-between = refl

asks_for-at : asks_for nat_cmp (λ n. n) (2 ∷ 4 ∷ 7 ∷ []) (Some 4) ≡ 2
asks_for-at = refl

asks_for-first : asks_for nat_cmp (λ n. n) (2 ∷ 4 ∷ 7 ∷ []) (Some 0) ≡ 1
asks_for-first = refl

asks_for-all : asks_for nat_cmp (λ n. n) (2 ∷ 4 ∷ 7 ∷ []) None ≡ 4
asks_for-all = refl

-- the last of three answers, and of four where there are three
bar_after-third : bar_after (λ (n : ℕ). n) (2 ∷ 4 ∷ 7 ∷ []) 2 ≡ Some 7
bar_after-third = refl

bar_after-fourth : bar_after (λ (n : ℕ). n) (2 ∷ 4 ∷ 7 ∷ []) 3 ≡ None
bar_after-fourth = refl

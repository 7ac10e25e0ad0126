-- How far an operator asks into a list: up to the first item that doesn't come before a bar.
use Rattle.std.specs.Prelude.{ℕ, zero, suc, ◌≡◌, Bool, true, false, List, [], ◌∷◌, length, Option, Some, None}
use Rattle.std.specs.List.{filter}
use Rattle.std.specs.Ordering.{is_lt, is_gt}
use Rattle.std.specs.declared.cmp.Ordering.{Ordering}

-- the bar that lies behind the first n answers: the key of the next one; where there is none, it lies beyond all keys: None
abbrev pub bar_after : {X K : Type 0} → (X → K) → List X → ℕ → Option K
bar_after key [] n = None
bar_after key (x ∷ xs) zero = Some (key x)
bar_after key (x ∷ xs) (suc n) = bar_after key xs n

-- a key comes strictly before a bar
abbrev pub comes_before_bar : {K : Type 0} → (K → K → Ordering) → Option K → K → Bool
comes_before_bar cmp None k = true
comes_before_bar cmp (Some bar) k = is_lt (cmp k bar)

-- a bar comes at or before another one
abbrev pub IsNoFurther : {K : Type 0} → (K → K → Ordering) → Option K → Option K → Type 0
IsNoFurther cmp bar None = Unit {0}
IsNoFurther cmp None (Some further) = ⊥
IsNoFurther cmp (Some bar) (Some further) = is_gt (cmp bar further) ≡ false

-- the items that come before a bar
abbrev pub those_before : {X K : Type 0} → (K → K → Ordering) → (X → K) → Option K → List X → List X
those_before cmp key bar xs = filter (λ x. comes_before_bar cmp bar (key x)) xs

-- one more ask than there are items before the bar
abbrev pub asks_for : {X K : Type 0} → (K → K → Ordering) → (X → K) → List X → Option K → ℕ
asks_for cmp key xs bar = suc (length (those_before cmp key bar xs))

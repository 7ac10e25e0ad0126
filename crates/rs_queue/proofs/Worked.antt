-- Pairs put into a queue, worked by hand: keys are numbers or pairs of numbers, and items are numbers.
use Rattle.std.proofs.Common.{◌≡◌, ℕ, Bool, true, false, List, [], ◌∷◌, refl, ap}
use Rattle.std.proofs.lemmas.Bool.{true≢false}
use Rattle.std.specs.Ordering.{nat_cmp, on, flip_args, is_eq}
use Rattle.std.specs.declared.cmp.Ordering.{Ordering}
use Rattle.std.specs.declared.cmp.Ordering.TheVariants.{Less, Equal, Greater}
use Rattle.rs_order.specs.Climbing.{Climbs}
use Rattle.rs_order.specs.Sorting.{put}
use Rattle.rs_queue.specs.Queue.{by_falling_key, has_key}

-- by rising keys
abbrev put_rising : ℕ → ℕ → List (ℕ × ℕ) → List (ℕ × ℕ)
put_rising key item pairs = put nat_cmp (λ pair. pair.0) (key, item) pairs

-- the first pair, one in front of all, one between two, and one behind all
first : put_rising 5 50 [] ≡ (5, 50) ∷ []
first = refl

in_front : put_rising 1 10 ((3, 30) ∷ (7, 70) ∷ []) ≡ (1, 10) ∷ (3, 30) ∷ (7, 70) ∷ []
in_front = refl

between : put_rising 5 50 ((3, 30) ∷ (7, 70) ∷ []) ≡ (3, 30) ∷ (5, 50) ∷ (7, 70) ∷ []
between = refl

behind : put_rising 9 90 ((3, 30) ∷ (7, 70) ∷ []) ≡ (3, 30) ∷ (7, 70) ∷ (9, 90) ∷ []
behind = refl

-- by falling keys
abbrev put_falling : ℕ → ℕ → List (ℕ × ℕ) → List (ℕ × ℕ)
put_falling key item pairs = put (flip_args nat_cmp) (λ pair. pair.0) (key, item) pairs

falling : put_falling 5 50 ((7, 70) ∷ (3, 30) ∷ []) ≡ (7, 70) ∷ (5, 50) ∷ (3, 30) ∷ []
falling = refl

-- by the first part of a key alone
abbrev put_by_part : ℕ × ℕ → ℕ → List ((ℕ × ℕ) × ℕ) → List ((ℕ × ℕ) × ℕ)
put_by_part key item pairs = put (on (λ k. k.0) nat_cmp) (λ pair. pair.0) (key, item) pairs

by_part : put_by_part (5, 1) 50 (((3, 9), 30) ∷ ((7, 0), 70) ∷ []) ≡ ((3, 9), 30) ∷ ((5, 1), 50) ∷ ((7, 0), 70) ∷ []
by_part = refl

-- which keys are there
abbrev is_there : ℕ → List (ℕ × ℕ) → Bool
is_there key pairs = has_key nat_cmp key pairs

there : is_there 7 ((3, 30) ∷ (7, 70) ∷ []) ≡ true
there = refl

not_there : is_there 5 ((3, 30) ∷ (7, 70) ∷ []) ≡ false
not_there = refl

-- a key with an equal first part
abbrev is_there_by_part : ℕ × ℕ → List ((ℕ × ℕ) × ℕ) → Bool
is_there_by_part key pairs = has_key (on (λ k. k.0) nat_cmp) key pairs

there_by_part : is_there_by_part (3, 1) (((3, 9), 30) ∷ []) ≡ true
there_by_part = refl

-- pairs in order
abbrev IsQueue : List (ℕ × ℕ) → Type 0
IsQueue pairs = Climbs nat_cmp (λ pair. pair.0) pairs

in_order : IsQueue ((1, 10) ∷ (3, 30) ∷ (7, 70) ∷ [])
in_order = ((refl, (refl, tt)), ((refl, tt), (tt, tt)))

-- two equal keys are in no order
equal_keys : IsQueue ((3, 30) ∷ (3, 31) ∷ []) → ⊥
equal_keys rises = equal_is_not_less rises.0.0
  where
    equal_is_not_less : Equal ≡ Less → ⊥
    equal_is_not_less e = true≢false (ap is_eq e)

-- pairs by falling keys, whatever their items are
abbrev falling_cmp : ℕ × ℕ → ℕ × ℕ → Ordering
falling_cmp = by_falling_key nat_cmp

lesser_key_is_greater : falling_cmp (3, 70) (7, 30) ≡ Greater
lesser_key_is_greater = refl

items_tell_nothing_apart : falling_cmp (3, 70) (3, 30) ≡ Equal
items_tell_nothing_apart = refl

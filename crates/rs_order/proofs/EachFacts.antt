-- What holds of each item of a list.
use Rattle.std.proofs.Common.{◌≡◌, ℕ, zero, suc, ◌<◌, Bool, true, false, cond, List, [], ◌∷◌, ◌++◌, length, get_or, take, drop, map, Some, subst, arith}
use Rattle.std.specs.List.{AllByRecursion, filter, slice_get}

-- what holds of the items of two lists holds of those of both together
pub each-append : {X : Type 0} (P : X → Type 0) (xs ys : List X) → AllByRecursion P xs → AllByRecursion P ys → AllByRecursion P (xs ++ ys)
each-append P [] ys front behind = behind
each-append P (x ∷ xs) ys front behind = (front.0, each-append P xs ys front.1 behind)

-- and of those of the first list, and of the second
pub each-front : {X : Type 0} (P : X → Type 0) (xs ys : List X) → AllByRecursion P (xs ++ ys) → AllByRecursion P xs
each-front P [] ys all = tt
each-front P (x ∷ xs) ys all = (all.0, each-front P xs ys all.1)

pub each-behind : {X : Type 0} (P : X → Type 0) (xs ys : List X) → AllByRecursion P (xs ++ ys) → AllByRecursion P ys
each-behind P [] ys all = all
each-behind P (x ∷ xs) ys all = each-behind P xs ys all.1

-- with one more item, the last
pub each-push : {X : Type 0} (P : X → Type 0) (xs : List X) (last : X) → AllByRecursion P xs → P last → AllByRecursion P (xs ++ last ∷ [])
each-push P xs last all here = each-append P xs (last ∷ []) all (here, tt)

-- of the first n, and of those behind them
pub each-take : {X : Type 0} (P : X → Type 0) (n : ℕ) (xs : List X) → AllByRecursion P xs → AllByRecursion P (take n xs)
each-take P zero xs all = tt
each-take P (suc n) [] all = tt
each-take P (suc n) (x ∷ xs) all = (all.0, each-take P n xs all.1)

pub each-drop : {X : Type 0} (P : X → Type 0) (n : ℕ) (xs : List X) → AllByRecursion P xs → AllByRecursion P (drop n xs)
each-drop P zero xs all = all
each-drop P (suc n) [] all = tt
each-drop P (suc n) (x ∷ xs) all = each-drop P n xs all.1

-- of those that a function gives
pub each-map : {X Y : Type 0} (P : Y → Type 0) (f : X → Y) (xs : List X) → AllByRecursion (λ x. P (f x)) xs → AllByRecursion P (map f xs)
each-map P f [] all = tt
each-map P f (x ∷ xs) all = (all.0, each-map P f xs all.1)

-- of those that pass a test
pub each-filter : {X : Type 0} (P : X → Type 0) (test : X → Bool) (xs : List X) → AllByRecursion P xs → AllByRecursion P (filter test xs)
each-filter P test [] all = tt
each-filter P test (x ∷ xs) all = go (test x) (each-filter P test xs all.1)
  where
    go : (passes : Bool) → AllByRecursion P (filter test xs) → AllByRecursion P (cond passes (x ∷ filter test xs) (filter test xs))
    go true rest = (all.0, rest)
    go false rest = rest

-- what follows of each item
pub each-weaker : {X : Type 0} (P Q : X → Type 0) → ((x : X) → P x → Q x) → (xs : List X) → AllByRecursion P xs → AllByRecursion Q xs
each-weaker P Q follows [] all = tt
each-weaker P Q follows (x ∷ xs) all = (follows x all.0, each-weaker P Q follows xs all.1)

-- of the item at a place
pub each-slice_get : {X : Type 0} (P : X → Type 0) (xs : List X) (n : ℕ) (x : X) → AllByRecursion P xs → slice_get xs n ≡ Some x → P x
each-slice_get P [] n x all e = cc
each-slice_get P (y ∷ ys) zero x all e = let same : y ≡ x = cc in subst P same all.0
each-slice_get P (y ∷ ys) (suc n) x all e = each-slice_get P ys n x all.1 e

pub each-get_or : {X : Type 0} (P : X → Type 0) (xs : List X) (n : ℕ) (other : X) → AllByRecursion P xs → n < length xs → P (get_or xs n other)
each-get_or P [] n other all within = absurd (omega arith)
each-get_or P (x ∷ xs) zero other all within = all.0
each-get_or P (x ∷ xs) (suc n) other all within = each-get_or P xs n other all.1 (omega arith)

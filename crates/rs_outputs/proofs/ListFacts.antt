-- Lists whose keys rise, their items that pass a test, and the bar of what is left of them.
use Rattle.std.proofs.Common.{◌≡◌, ℕ, zero, suc, ◌<◌, ◌≤◌, Bool, true, false, cond, List, [], ◌∷◌, ◌++◌, length, drop, Some, None, refl, sym, ◌∙◌, ap, inl, inr, arith, ltb}
use Rattle.std.proofs.lemmas.Bool.{lt-ltb, ltb-true}
use Rattle.std.specs.Cmp.{IsTotalOrder, tied_itself}
use Rattle.std.specs.List.{AllByRecursion, filter, slice_get}
use Rattle.std.specs.Ordering.{is_lt, ordering_reverse}
use Rattle.std.specs.declared.cmp.Ordering.{Ordering}
use Rattle.std.specs.declared.cmp.Ordering.TheVariants.{Less, Equal}
use Rattle.rs_order.specs.Asks.{bar_after, comes_before_bar, those_before}
use Rattle.rs_order.specs.Climbing.{Climbs, Differs, HasDistinctKeys, In, Precedes}
use Rattle.rs_order.specs.Sorting.{sorted}
use Rattle.rs_order.proofs.ClimbingFacts.{AllByRecursion-from_In, Climbs-same}
use Rattle.rs_order.proofs.EachFacts.{each-append, each-filter, each-weaker}
use Rattle.rs_order.proofs.ItemFacts.{filter-none}
use Rattle.rs_order.proofs.SortingFacts.{Climbs-sorted, In-sorted, In-sorted-back}

-- the tests by which it is told whether a row is gone
pub below : (a b : ℕ) → a < b → ltb a b ≡ true
below a b less = lt-ltb a b less

pub not_below : (a b : ℕ) → b ≤ a → ltb a b ≡ false
not_below a b le =
    (elim (ltb a b) as (λ t. ltb a b ≡ t → t ≡ false) [ true ↦ λ e. let less = ltb-true a b e in absurd (omega arith) | false ↦ λ e. refl ]) refl

-- what is left behind some items
pub rest-some : {X : Type 0} (n : ℕ) (xs : List X) (x : X) → slice_get xs n ≡ Some x → drop n xs ≡ x ∷ drop (suc n) xs
rest-some n [] x e = cc
rest-some zero (y ∷ ys) x e = let same : y ≡ x = cc in ap (λ z. z ∷ ys) same
rest-some (suc n) (y ∷ ys) x e = rest-some n ys x e

pub rest-none : {X : Type 0} (n : ℕ) (xs : List X) → slice_get xs n ≡ None → drop n xs ≡ []
rest-none zero [] e = refl
rest-none (suc n) [] e = refl
rest-none zero (y ∷ ys) e = cc
rest-none (suc n) (y ∷ ys) e = rest-none n ys e

-- and the other way round
pub some-rest : {X : Type 0} (n : ℕ) (xs rest : List X) (x : X) → drop n xs ≡ x ∷ rest → (slice_get xs n ≡ Some x) × (drop (suc n) xs ≡ rest)
some-rest zero [] rest x e = absurd (cc)
some-rest (suc n) [] rest x e = absurd (cc)
some-rest zero (y ∷ ys) rest x e = let first : y ≡ x = cc in let behind : ys ≡ rest = cc in (ap Some first, behind)
some-rest (suc n) (y ∷ ys) rest x e = some-rest n ys rest x e

pub none-rest : {X : Type 0} (n : ℕ) (xs : List X) → drop n xs ≡ [] → length xs ≤ n
none-rest zero [] e = omega arith
none-rest (suc n) [] e = omega arith
none-rest zero (y ∷ ys) e = absurd (cc)
none-rest (suc n) (y ∷ ys) e = let le = none-rest n ys e in omega arith

-- the item behind a front
pub item-behind : {X : Type 0} (front back : List X) (x : X) → slice_get (front ++ x ∷ back) (length front) ≡ Some x
item-behind [] back x = refl
item-behind (y ∷ front) back x = item-behind front back x

pub Climbs-rest : {X K : Type 0} (cmp : K → K → Ordering) (key : X → K) (n : ℕ) (xs : List X) → Climbs cmp key xs → Climbs cmp key (drop n xs)
Climbs-rest cmp key zero xs climbs = climbs
Climbs-rest cmp key (suc n) [] climbs = tt
Climbs-rest cmp key (suc n) (x ∷ xs) climbs = Climbs-rest cmp key n xs climbs.1

-- the keys of the items that pass a test rise too
pub Climbs-filter : {X K : Type 0} (cmp : K → K → Ordering) (key : X → K) (test : X → Bool) (xs : List X) → Climbs cmp key xs → Climbs cmp key (filter test xs)
Climbs-filter cmp key test [] climbs = tt
Climbs-filter cmp key test (x ∷ xs) climbs =
    elim (test x) as (λ b. Climbs cmp key (cond b (x ∷ filter test xs) (filter test xs))) [
      | true ↦ (each-filter (Precedes cmp key x) test xs climbs.0, Climbs-filter cmp key test xs climbs.1)
      | false ↦ Climbs-filter cmp key test xs climbs.1
    ]

not_tied : Less ≡ Equal → ⊥
not_tied e = cc

-- keys that rise are distinct
pub distinct-climbs : {X K : Type 0} (cmp : K → K → Ordering) (key : X → K) (xs : List X) → Climbs cmp key xs → HasDistinctKeys cmp key xs
distinct-climbs cmp key [] climbs = tt
distinct-climbs cmp key (x ∷ xs) climbs =
    (each-weaker (Precedes cmp key x) (Differs cmp key x) (λ y before tied. not_tied (sym before ∙ tied)) xs climbs.0, distinct-climbs cmp key xs climbs.1)

pub distinct-append : {X K : Type 0} (cmp : K → K → Ordering) (key : X → K) (xs ys : List X) → HasDistinctKeys cmp key xs → HasDistinctKeys cmp key ys → ((x y : X) → In x xs → In y ys → Differs cmp key x y) → HasDistinctKeys cmp key (xs ++ ys)
distinct-append cmp key [] ys c d apart = d
distinct-append cmp key (x ∷ xs) ys c d apart =
    (each-append (Differs cmp key x) xs ys c.0 (AllByRecursion-from_In (Differs cmp key x) ys (λ y h. apart x y (inl refl) h)), distinct-append cmp key xs ys c.1 d (λ v w h k. apart v w (inr h) k))

pub distinct-filter : {X K : Type 0} (cmp : K → K → Ordering) (key : X → K) (test : X → Bool) (xs : List X) → HasDistinctKeys cmp key xs → HasDistinctKeys cmp key (filter test xs)
distinct-filter cmp key test [] distinct = tt
distinct-filter cmp key test (x ∷ xs) distinct =
    elim (test x) as (λ b. HasDistinctKeys cmp key (cond b (x ∷ filter test xs) (filter test xs))) [
      | true ↦ (each-filter (Differs cmp key x) test xs distinct.0, distinct-filter cmp key test xs distinct.1)
      | false ↦ distinct-filter cmp key test xs distinct.1
    ]

-- a list is its items sorted, where its keys rise
pub sorted-of : {X K : Type 0} (cmp : K → K → Ordering) → IsTotalOrder cmp → (key : X → K) (xs ys : List X) → HasDistinctKeys cmp key xs → Climbs cmp key ys → ((z : X) → In z xs → In z ys) → ((z : X) → In z ys → In z xs) → sorted cmp key xs ≡ ys
sorted-of cmp o key xs ys distinct climbs there back =
    Climbs-same cmp o key (sorted cmp key xs) ys (Climbs-sorted cmp o key xs distinct) climbs
    (λ z h. there z (In-sorted-back cmp key xs z h)) (λ z h. In-sorted cmp key xs z (back z h))

-- two tests in turn are one
pub filter-filter : {X : Type 0} (p q r : X → Bool) → ((x : X) → r x ≡ cond (q x) (p x) false) → (xs : List X) → filter p (filter q xs) ≡ filter r xs
filter-filter p q r both [] = refl
filter-filter p q r both (x ∷ xs) =
    (elim (q x) as (λ b. r x ≡ cond b (p x) false → filter p (cond b (x ∷ filter q xs) (filter q xs)) ≡ cond (r x) (x ∷ filter r xs) (filter r xs)) [
      | true ↦ λ e. ap (λ zs. cond (p x) (x ∷ zs) zs) (filter-filter p q r both xs) ∙ ap (λ b. cond b (x ∷ filter r xs) (filter r xs)) (sym e)
      | false ↦ λ e. filter-filter p q r both xs ∙ ap (λ b. cond b (x ∷ filter r xs) (filter r xs)) (sym e)
    ]) (both x)

pub filter-all : {X : Type 0} (p : X → Bool) (xs : List X) → AllByRecursion (λ x. p x ≡ true) xs → filter p xs ≡ xs
filter-all p [] all = refl
filter-all p (x ∷ xs) all = ap (λ b. cond b (x ∷ filter p xs) (filter p xs)) all.0 ∙ ap (λ ys. x ∷ ys) (filter-all p xs all.1)

-- the bar behind some answers is the bar of those that are left
pub bar-rest : {X K : Type 0} (key : X → K) (n : ℕ) (xs : List X) → bar_after key xs n ≡ bar_after key (drop n xs) 0
bar-rest key zero xs = refl
bar-rest key (suc n) [] = refl
bar-rest key (suc n) (x ∷ xs) = bar-rest key n xs

-- what precedes all that is left comes before its bar
pub before-rest : {X K : Type 0} (cmp : K → K → Ordering) (key : X → K) (x : X) (rest : List X) → AllByRecursion (Precedes cmp key x) rest → comes_before_bar cmp (bar_after key rest 0) (key x) ≡ true
before-rest cmp key x [] all = refl
before-rest cmp key x (y ∷ rest) all = ap is_lt all.0

-- none comes before a key that none precedes
pub none-before : {X K : Type 0} (cmp : K → K → Ordering) (key : X → K) (k : K) (xs : List X) → ((x : X) → In x xs → is_lt (cmp (key x) k) ≡ false) → those_before cmp key (Some k) xs ≡ []
none-before cmp key k xs late = filter-none (λ x. is_lt (cmp (key x) k)) xs late

-- a key that another one precedes, or is, doesn't come before it
pub not_before : {K : Type 0} (cmp : K → K → Ordering) → IsTotalOrder cmp → (a b : K) → cmp a b ≡ Less → is_lt (cmp b a) ≡ false
not_before cmp o a b less = ap is_lt (o.antisymm b a ∙ ap ordering_reverse less)

pub not_before-itself : {K : Type 0} (cmp : K → K → Ordering) → IsTotalOrder cmp → (a : K) → is_lt (cmp a a) ≡ false
not_before-itself cmp o a = ap is_lt (tied_itself o a)

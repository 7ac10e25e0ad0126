-- Items of a list whose keys rise, and a bar: those before it are the first ones.
use Rattle.std.proofs.Common.{◌≡◌, ℕ, zero, suc, ◌<◌, ◌≤◌, List, [], ◌∷◌, length, get_or, take, Bool, true, false, cond, Option, Some, None, refl, sym, ◌∙◌, ap, subst, arith}
use Rattle.std.specs.List.{AllByRecursion, filter}
use Rattle.std.specs.Cmp.{IsTotalOrder, tied_itself, alike_right}
use Rattle.std.specs.Ordering.{is_lt, is_gt}
use Rattle.std.specs.declared.cmp.Ordering.TheVariants.{Less, Equal, Greater}
use Rattle.std.specs.declared.cmp.Ordering.{Ordering}
use Rattle.rs_order.specs.Climbing.{Precedes, Climbs}
use Rattle.rs_order.specs.Asks.{bar_after, comes_before_bar, IsNoFurther, those_before, asks_for}

-- what comes behind a key that doesn't come before a bar doesn't either
comes_before_bar-behind : {K : Type 0} (cmp : K → K → Ordering) → IsTotalOrder cmp → (bar : Option K) (a b : K) → comes_before_bar cmp bar a ≡ false → cmp a b ≡ Less → comes_before_bar cmp bar b ≡ false
comes_before_bar-behind cmp o None a b e less = e
comes_before_bar-behind cmp o (Some k) a b e less =
    (elim (cmp b k) as (λ r. cmp b k ≡ r → is_lt r ≡ false) [
      | Less ↦ λ f. sym (ap is_lt (o.trans a b k less f)) ∙ e
      | Equal ↦ λ f. refl
      | Greater ↦ λ f. refl
    ]) refl

-- none of them
those_before-none : {X K : Type 0} (cmp : K → K → Ordering) → IsTotalOrder cmp → (key : X → K) (bar : Option K) (x : X) (xs : List X) → comes_before_bar cmp bar (key x) ≡ false → AllByRecursion (Precedes cmp key x) xs → those_before cmp key bar xs ≡ []
those_before-none cmp o key bar x [] e all = refl
those_before-none cmp o key bar x (y ∷ ys) e all =
    subst (λ b. cond b (y ∷ those_before cmp key bar ys) (those_before cmp key bar ys) ≡ []) (sym (comes_before_bar-behind cmp o bar (key x) (key y) e all.0)) (those_before-none cmp o key bar x ys e all.1)

-- and so at each place
get_or-behind : {X K : Type 0} (cmp : K → K → Ordering) → IsTotalOrder cmp → (key : X → K) (bar : Option K) (x : X) (xs : List X) (n : ℕ) (d : X) → comes_before_bar cmp bar (key x) ≡ false → AllByRecursion (Precedes cmp key x) xs → n < length xs → comes_before_bar cmp bar (key (get_or xs n d)) ≡ false
get_or-behind cmp o key bar x [] n d e all within = absurd (omega arith)
get_or-behind cmp o key bar x (y ∷ ys) zero d e all within = comes_before_bar-behind cmp o bar (key x) (key y) e all.0
get_or-behind cmp o key bar x (y ∷ ys) (suc n) d e all within = get_or-behind cmp o key bar x ys n d e all.1 (omega arith)

-- the items before a bar are the first ones
pub those_before-first : {X K : Type 0} (cmp : K → K → Ordering) → IsTotalOrder cmp → (key : X → K) (bar : Option K) (xs : List X) → Climbs cmp key xs → those_before cmp key bar xs ≡ take (length (those_before cmp key bar xs)) xs
those_before-first cmp o key bar [] climbs = refl
those_before-first cmp o key bar (x ∷ xs) climbs =
    (elim (comes_before_bar cmp bar (key x)) as (λ b. comes_before_bar cmp bar (key x) ≡ b → cond b (x ∷ those_before cmp key bar xs) (those_before cmp key bar xs) ≡ take (length (cond b (x ∷ those_before cmp key bar xs) (those_before cmp key bar xs))) (x ∷ xs)) [
      | true ↦ λ e. ap (λ ys. x ∷ ys) (those_before-first cmp o key bar xs climbs.1)
      | false ↦ λ e. subst (λ ys. ys ≡ take (length ys) (x ∷ xs)) (sym (those_before-none cmp o key bar x xs e climbs.0)) refl
    ]) refl

-- an item that comes before the bar has a number below the asks
pub get_or-before : {X K : Type 0} (cmp : K → K → Ordering) → IsTotalOrder cmp → (key : X → K) (bar : Option K) (xs : List X) (n : ℕ) (d : X) → Climbs cmp key xs → n < length xs → comes_before_bar cmp bar (key (get_or xs n d)) ≡ true → n < length (those_before cmp key bar xs)
get_or-before cmp o key bar [] n d climbs within h = absurd (omega arith)
get_or-before cmp o key bar (x ∷ xs) zero d climbs within h =
    subst (λ b. 0 < length (cond b (x ∷ those_before cmp key bar xs) (those_before cmp key bar xs))) (sym h) (omega arith)
get_or-before cmp o key bar (x ∷ xs) (suc n) d climbs within h =
    (elim (comes_before_bar cmp bar (key x)) as (λ b. comes_before_bar cmp bar (key x) ≡ b → suc n < length (cond b (x ∷ those_before cmp key bar xs) (those_before cmp key bar xs))) [
      | true ↦ λ e. let more = get_or-before cmp o key bar xs n d climbs.1 (omega arith) h in omega arith
      | false ↦ λ e. let none = get_or-behind cmp o key bar x xs n d e climbs.0 (omega arith) in cc
    ]) refl

-- and the other way round
pub get_or-asked : {X K : Type 0} (cmp : K → K → Ordering) → IsTotalOrder cmp → (key : X → K) (bar : Option K) (xs : List X) (n : ℕ) (d : X) → Climbs cmp key xs → n < length (those_before cmp key bar xs) → comes_before_bar cmp bar (key (get_or xs n d)) ≡ true
get_or-asked cmp o key bar [] n d climbs h = absurd (omega arith)
get_or-asked cmp o key bar (x ∷ xs) zero d climbs h =
    (elim (comes_before_bar cmp bar (key x)) as (λ b. comes_before_bar cmp bar (key x) ≡ b → 0 < length (cond b (x ∷ those_before cmp key bar xs) (those_before cmp key bar xs)) → b ≡ true) [
      | true ↦ λ e k. refl
      | false ↦ λ e k. let none = ap length (those_before-none cmp o key bar x xs e climbs.0) in absurd (omega arith)
    ]) refl h
get_or-asked cmp o key bar (x ∷ xs) (suc n) d climbs h =
    (elim (comes_before_bar cmp bar (key x)) as (λ b. comes_before_bar cmp bar (key x) ≡ b → suc n < length (cond b (x ∷ those_before cmp key bar xs) (those_before cmp key bar xs)) → comes_before_bar cmp bar (key (get_or xs n d)) ≡ true) [
      | true ↦ λ e k. get_or-asked cmp o key bar xs n d climbs.1 (omega arith)
      | false ↦ λ e k. let none = ap length (those_before-none cmp o key bar x xs e climbs.0) in absurd (omega arith)
    ]) refl h

-- an answer of `cmp` that tests as less is less
is_lt-Less : (r : Ordering) → is_lt r ≡ true → r ≡ Less
is_lt-Less Less e = refl
is_lt-Less Equal e = cc
is_lt-Less Greater e = cc

-- a key before a bar comes before a bar that lies further on
pub comes_before_bar-further : {K : Type 0} (cmp : K → K → Ordering) → IsTotalOrder cmp → (bar further : Option K) (k : K) → IsNoFurther cmp bar further → comes_before_bar cmp bar k ≡ true → comes_before_bar cmp further k ≡ true
comes_before_bar-further cmp o None None k h e = refl
comes_before_bar-further cmp o (Some b) None k h e = refl
comes_before_bar-further cmp o None (Some f) k h e = absurd h
comes_before_bar-further cmp o (Some b) (Some f) k h e =
    (elim (cmp b f) as (λ r. cmp b f ≡ r → is_gt r ≡ false → is_lt (cmp k f) ≡ true) [
      | Less ↦ λ g test. ap is_lt (o.trans k b f (is_lt-Less (cmp k b) e) g)
      | Equal ↦ λ g test. ap is_lt (sym (alike_right o b f k g)) ∙ e
      | Greater ↦ λ g test. cc
    ]) refl h

-- a test that passes wherever another one does keeps as many items at least
length-filter-more : {X : Type 0} (p q : X → Bool) (xs : List X) → ((x : X) → p x ≡ true → q x ≡ true) → length (filter p xs) ≤ length (filter q xs)
length-filter-more p q [] follows = omega arith
length-filter-more p q (x ∷ xs) follows =
    go (p x) (q x) (follows x) (length-filter-more p q xs follows)
  where
    go : (a b : Bool) → (a ≡ true → b ≡ true) → length (filter p xs) ≤ length (filter q xs) → length (cond a (x ∷ filter p xs) (filter p xs)) ≤ length (cond b (x ∷ filter q xs) (filter q xs))
    go true true f h = omega arith
    go true false f h = let no = f refl in cc
    go false true f h = omega arith
    go false false f h = h

-- a bar further on means as many asks at least
pub asks_for-more : {X K : Type 0} (cmp : K → K → Ordering) → IsTotalOrder cmp → (key : X → K) (xs : List X) (bar further : Option K) → IsNoFurther cmp bar further → asks_for cmp key xs bar ≤ asks_for cmp key xs further
asks_for-more cmp o key xs bar further h =
    let more : length (those_before cmp key bar xs) ≤ length (those_before cmp key further xs) =
    length-filter-more (λ x. comes_before_bar cmp bar (key x)) (λ x. comes_before_bar cmp further (key x)) xs (λ x. comes_before_bar-further cmp o bar further (key x) h) in
    omega arith

-- the keys of answers behind an item lie further on than its own
bar_after-behind : {X K : Type 0} (cmp : K → K → Ordering) (key : X → K) (x : X) (xs : List X) (n : ℕ) → AllByRecursion (Precedes cmp key x) xs → IsNoFurther cmp (Some (key x)) (bar_after key xs n)
bar_after-behind cmp key x [] n all = tt
bar_after-behind cmp key x (y ∷ ys) zero all = ap is_gt all.0
bar_after-behind cmp key x (y ∷ ys) (suc n) all = bar_after-behind cmp key x ys n all.1

-- a later answer's key lies further on
pub bar_after-later : {X K : Type 0} (cmp : K → K → Ordering) → IsTotalOrder cmp → (key : X → K) (xs : List X) (m n : ℕ) → Climbs cmp key xs → m ≤ n → IsNoFurther cmp (bar_after key xs m) (bar_after key xs n)
bar_after-later cmp o key [] m n climbs le = tt
bar_after-later cmp o key (x ∷ xs) zero zero climbs le = ap is_gt (tied_itself o (key x))
bar_after-later cmp o key (x ∷ xs) zero (suc n) climbs le = bar_after-behind cmp key x xs n climbs.0
bar_after-later cmp o key (x ∷ xs) (suc m) zero climbs le = absurd (omega arith)
bar_after-later cmp o key (x ∷ xs) (suc m) (suc n) climbs le = bar_after-later cmp o key xs m n climbs.1 (omega arith)

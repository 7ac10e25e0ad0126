-- The first items of a list, and those behind them.
use Rattle.std.proofs.Common.{◌≡◌, ℕ, zero, suc, ◌<◌, ◌≤◌, true, false, cond, List, [], ◌∷◌, ◌++◌, length, get_or, take, drop, map, Some, None, refl, sym, ◌∙◌, ap, subst, ◌⊎◌, inl, inr, arith}
use Rattle.std.proofs.lemmas.Bool.{true≢false}
use Rattle.std.proofs.lemmas.List.{take-take}
use Rattle.std.specs.Cmp.{IsTotalOrder, alike_right}
use Rattle.std.specs.List.{slice_get}
use Rattle.std.specs.Option.{option_map}
use Rattle.std.specs.Ordering.{is_lt, is_gt, ordering_reverse}
use Rattle.std.specs.declared.cmp.Ordering.{Ordering}
use Rattle.std.specs.declared.cmp.Ordering.TheVariants.{Less, Equal, Greater}
use Rattle.rs_order.specs.Asks.{bar_after}
use Rattle.rs_order.specs.Climbing.{Climbs, Differs, HasDistinctKeys, In, IsBeyond, Precedes}
use Rattle.rs_order.specs.Last.{last_from, last_of}
use Rattle.rs_order.specs.Sorting.{put, put_each, sorted}
use Rattle.rs_order.proofs.ClimbingFacts.{AllByRecursion-In, Climbs-shared, cmp-not_both, cmp-not_itself}
use Rattle.rs_order.proofs.EachFacts.{each-get_or, each-take}

-- answers of an order by their tests
pub is_lt-Less : (r : Ordering) → is_lt r ≡ true → r ≡ Less
is_lt-Less Less e = refl
is_lt-Less Equal e = absurd (true≢false (sym e))
is_lt-Less Greater e = absurd (true≢false (sym e))

-- what comes strictly before a key comes strictly before all that doesn't come before that key
pub cmp-Less-behind : {K : Type 0} (cmp : K → K → Ordering) → IsTotalOrder cmp → (a b c : K) → cmp a b ≡ Less → is_lt (cmp c b) ≡ false → cmp a c ≡ Less
cmp-Less-behind cmp o a b c e f =
    (elim (cmp b c) as (λ r. cmp b c ≡ r → cmp a c ≡ Less) [
      | Less ↦ λ g. o.trans a b c e g
      | Equal ↦ λ g. sym (alike_right o b c a g) ∙ e
      | Greater ↦ λ g. absurd (true≢false (sym (ap is_lt (o.antisymm c b ∙ ap ordering_reverse g)) ∙ f))
    ]) refl

-- what doesn't come after a key comes strictly before all that the key does
pub cmp-behind-Less : {K : Type 0} (cmp : K → K → Ordering) → IsTotalOrder cmp → (a b c : K) → is_gt (cmp a b) ≡ false → cmp b c ≡ Less → cmp a c ≡ Less
cmp-behind-Less cmp o a b c f e =
    (elim (cmp a b) as (λ r. cmp a b ≡ r → cmp a c ≡ Less) [
      | Less ↦ λ g. o.trans a b c g e
      | Equal ↦ λ g. o.congr a b c g ∙ e
      | Greater ↦ λ g. absurd (true≢false (sym (ap is_gt g) ∙ f))
    ]) refl

-- one of a list is among the first n or behind them
pub In-parts : {X : Type 0} (n : ℕ) (xs : List X) (z : X) → In z xs → In z (take n xs) ⊎ In z (drop n xs)
In-parts zero xs z h = inr h
In-parts (suc n) [] z h = absurd h
In-parts (suc n) (x ∷ xs) z h =
    elim h [ inl e ↦ inl (inl e) | inr k ↦ elim (In-parts n xs z k) [ inl l ↦ inl (inr l) | inr l ↦ inr l ] ]

pub In-take : {X : Type 0} (n : ℕ) (xs : List X) (z : X) → In z (take n xs) → In z xs
In-take zero xs z h = absurd h
In-take (suc n) [] z h = h
In-take (suc n) (x ∷ xs) z h = elim h [ inl e ↦ inl e | inr k ↦ inr (In-take n xs z k) ]

pub In-drop : {X : Type 0} (n : ℕ) (xs : List X) (z : X) → In z (drop n xs) → In z xs
In-drop zero xs z h = h
In-drop (suc n) [] z h = h
In-drop (suc n) (x ∷ xs) z h = inr (In-drop n xs z h)

pub HasDistinctKeys-take : {X K : Type 0} (cmp : K → K → Ordering) (key : X → K) (n : ℕ) (xs : List X) → HasDistinctKeys cmp key xs → HasDistinctKeys cmp key (take n xs)
HasDistinctKeys-take cmp key zero xs distinct = tt
HasDistinctKeys-take cmp key (suc n) [] distinct = tt
HasDistinctKeys-take cmp key (suc n) (x ∷ xs) distinct = (each-take (Differs cmp key x) n xs distinct.0, HasDistinctKeys-take cmp key n xs distinct.1)

-- the last of the first n + 1 is the one at place n
pub last_of-take : {X : Type 0} (n : ℕ) (xs : List X) (d : X) → n < length xs → last_of (take (suc n) xs) ≡ Some (get_or xs n d)
last_of-take n [] d within = absurd (omega arith)
last_of-take n (x ∷ xs) d within = ap Some (last_from-take n x xs d (omega arith))
  where
    last_from-take : {X : Type 0} (n : ℕ) (x : X) (xs : List X) (d : X) → n ≤ length xs → last_from x (take n xs) ≡ get_or (x ∷ xs) n d
    last_from-take zero x xs d within = refl
    last_from-take (suc n) x [] d within = absurd (omega arith)
    last_from-take (suc n) x (y ∷ ys) d within = last_from-take n y ys d (omega arith)

-- the item at a place comes before all behind it
pub Climbs-behind : {X K : Type 0} (cmp : K → K → Ordering) (key : X → K) (n : ℕ) (xs : List X) (d z : X) → Climbs cmp key xs → n < length xs → In z (drop (suc n) xs) → Precedes cmp key (get_or xs n d) z
Climbs-behind cmp key n [] d z climbs within h = absurd (omega arith)
Climbs-behind cmp key zero (x ∷ xs) d z climbs within h = AllByRecursion-In (Precedes cmp key x) xs climbs.0 z h
Climbs-behind cmp key (suc n) (x ∷ xs) d z climbs within h = Climbs-behind cmp key n xs d z climbs.1 (omega arith) h

-- and before that of each later place
pub Climbs-at : {X K : Type 0} (cmp : K → K → Ordering) (key : X → K) (xs : List X) (i j : ℕ) (d : X) → Climbs cmp key xs → i < j → j < length xs → Precedes cmp key (get_or xs i d) (get_or xs j d)
Climbs-at cmp key [] i j d climbs before within = absurd (omega arith)
Climbs-at cmp key (x ∷ xs) i zero d climbs before within = absurd (omega arith)
Climbs-at cmp key (x ∷ xs) zero (suc j) d climbs before within = each-get_or (Precedes cmp key x) xs j d climbs.0 (omega arith)
Climbs-at cmp key (x ∷ xs) (suc i) (suc j) d climbs before within = Climbs-at cmp key xs i j d climbs.1 (omega arith) (omega arith)

-- the key of the last answer is that of the item at its place
pub bar_after-slice_get : {X K : Type 0} (key : X → K) (xs : List X) (n : ℕ) → bar_after key xs n ≡ option_map key (slice_get xs n)
bar_after-slice_get key [] n = refl
bar_after-slice_get key (x ∷ xs) zero = refl
bar_after-slice_get key (x ∷ xs) (suc n) = bar_after-slice_get key xs n

-- lists with the same first n + 1 items have the same at place n
pub slice_get-shared : {X : Type 0} (n : ℕ) (xs ys : List X) → take (suc n) xs ≡ take (suc n) ys → slice_get xs n ≡ slice_get ys n
slice_get-shared n xs ys e = slice_get-take n xs ∙ ap (λ zs. slice_get zs n) e ∙ sym (slice_get-take n ys)
  where
    slice_get-take : {X : Type 0} (n : ℕ) (xs : List X) → slice_get xs n ≡ slice_get (take (suc n) xs) n
    slice_get-take n [] = refl
    slice_get-take zero (x ∷ xs) = refl
    slice_get-take (suc n) (x ∷ xs) = slice_get-take n xs

-- the first of those behind n items is at place n
pub slice_get-drop : {X : Type 0} (n : ℕ) (xs : List X) → slice_get xs n ≡ slice_get (drop n xs) 0
slice_get-drop zero xs = refl
slice_get-drop (suc n) [] = refl
slice_get-drop (suc n) (x ∷ xs) = slice_get-drop n xs

-- the item at a place is one of the list
pub In-slice_get : {X : Type 0} (n : ℕ) (xs : List X) (x : X) → slice_get xs n ≡ Some x → In x xs
In-slice_get n [] x e = cc
In-slice_get zero (y ∷ ys) x e = inl cc
In-slice_get (suc n) (y ∷ ys) x e = inr (In-slice_get n ys x e)

-- an item that the one behind the first n comes before is beyond the first n + 1
pub IsBeyond-drop : {X K : Type 0} (cmp : K → K → Ordering) → IsTotalOrder cmp → (key : X → K) (n : ℕ) (xs : List X) (x z : X) → Climbs cmp key xs → slice_get xs n ≡ Some x → Precedes cmp key x z → IsBeyond cmp key (suc n) xs z
IsBeyond-drop cmp o key n [] x z climbs e before = absurd (none_some e)
  where
    none_some : {X : Type 0} {x : X} → None ≡ Some x → ⊥
    none_some e = cc
IsBeyond-drop cmp o key zero (y ∷ ys) x z climbs e before = (subst (λ k. Precedes cmp key k z) (sym (some_same e)) before, tt)
  where
    some_same : {X : Type 0} {x y : X} → Some y ≡ Some x → y ≡ x
    some_same e = cc
IsBeyond-drop cmp o key (suc n) (y ∷ ys) x z climbs e before = (
  o.trans (key y) (key x) (key z) (AllByRecursion-In (Precedes cmp key y) ys climbs.0 x (In-slice_get n ys x e)) before,
  IsBeyond-drop cmp o key n ys x z climbs.1 e before,
)

-- and so in a list with the same first items
pub IsBeyond-shared : {X K : Type 0} (cmp : K → K → Ordering) (key : X → K) (n : ℕ) (xs ys : List X) (z : X) → take n xs ≡ take n ys → IsBeyond cmp key n xs z → IsBeyond cmp key n ys z
IsBeyond-shared cmp key n xs ys z e beyond = back n ys (subst (λ zs. IsBeyond cmp key n zs z) e (there n xs beyond))
  where
    there : (n : ℕ) (xs : List _) → IsBeyond cmp key n xs z → IsBeyond cmp key n (take n xs) z
    there zero xs h = tt
    there (suc n) [] h = h
    there (suc n) (x ∷ xs) h = (h.0, there n xs h.1)

    back : (n : ℕ) (xs : List _) → IsBeyond cmp key n (take n xs) z → IsBeyond cmp key n xs z
    back zero xs h = tt
    back (suc n) [] h = h
    back (suc n) (x ∷ xs) h = (h.0, back n xs h.1)

-- an item behind the first n is beyond them
pub Climbs-parts : {X K : Type 0} (cmp : K → K → Ordering) (key : X → K) (n : ℕ) (xs : List X) (z : X) → Climbs cmp key xs → In z (drop n xs) → IsBeyond cmp key n xs z
Climbs-parts cmp key zero xs z climbs h = tt
Climbs-parts cmp key (suc n) [] z climbs h = h
Climbs-parts cmp key (suc n) (x ∷ xs) z climbs h = (AllByRecursion-In (Precedes cmp key x) xs climbs.0 z (In-drop n xs z h), Climbs-parts cmp key n xs z climbs.1 h)

pub Climbs-take : {X K : Type 0} (cmp : K → K → Ordering) (key : X → K) (n : ℕ) (xs : List X) → Climbs cmp key xs → Climbs cmp key (take n xs)
Climbs-take cmp key zero xs climbs = tt
Climbs-take cmp key (suc n) [] climbs = tt
Climbs-take cmp key (suc n) (x ∷ xs) climbs = (each-take (Precedes cmp key x) n xs climbs.0, Climbs-take cmp key n xs climbs.1)

-- none of the first n + 1 items comes behind the one at place n
pub Climbs-not_behind : {X K : Type 0} (cmp : K → K → Ordering) → IsTotalOrder cmp → (key : X → K) (n : ℕ) (xs : List X) (x z : X) → Climbs cmp key xs → slice_get xs n ≡ Some x → In z (take (suc n) xs) → Precedes cmp key x z → ⊥
Climbs-not_behind cmp o key n [] x z climbs e h before = h
Climbs-not_behind cmp o key zero (y ∷ ys) x z climbs e h before =
    elim h [ inl same ↦ let there : x ≡ z = cc in cmp-not_itself cmp o (key x) (subst (λ w. Precedes cmp key x w) (sym there) before) | inr none ↦ none ]
Climbs-not_behind cmp o key (suc n) (y ∷ ys) x z climbs e h before =
    elim h [
      | inl same ↦ cmp-not_both cmp o (key y) (key x) (AllByRecursion-In (Precedes cmp key y) ys climbs.0 x (In-slice_get n ys x e)) (subst (λ w. Precedes cmp key x w) same before)
      | inr behind ↦ Climbs-not_behind cmp o key n ys x z climbs.1 e behind before
    ]

-- a part and a whole share their first n items where those of the whole are in the part
pub Climbs-begin : {X K : Type 0} (cmp : K → K → Ordering) → IsTotalOrder cmp → (key : X → K) (n : ℕ) (part whole : List X) → Climbs cmp key part → Climbs cmp key whole → ((z : X) → In z part → In z whole) → ((z : X) → In z (take n whole) → In z part) → take n part ≡ take n whole
Climbs-begin cmp o key n part whole climbs climb within first =
    sym (sym (take-take n n whole (omega arith))
    ∙ Climbs-shared cmp o key n (take n whole) part (Climbs-take cmp key n whole climb) climbs first
    (λ z h. elim (In-parts n whole z (within z h)) [
      | inl k ↦ inl k
      | inr k ↦ inr (IsBeyond-shared cmp key n whole (take n whole) z (sym (take-take n n whole (omega arith))) (Climbs-parts cmp key n whole z climb k))
    ]))

-- one item more, behind the first n
pub take-snoc : {X : Type 0} (n : ℕ) (xs : List X) (x : X) → slice_get xs n ≡ Some x → take (suc n) xs ≡ take n xs ++ x ∷ []
take-snoc n [] x e = cc
take-snoc zero (y ∷ ys) x e = let same : y ≡ x = cc in ap (λ z. z ∷ []) same
take-snoc (suc n) (y ∷ ys) x e = ap (λ zs. y ∷ zs) (take-snoc n ys x e)

-- an item is the first of those from its place on
pub In-at : {X : Type 0} (n : ℕ) (xs : List X) (x : X) → slice_get xs n ≡ Some x → In x (drop n xs)
In-at n [] x e = cc
In-at zero (y ∷ ys) x e = inl cc
In-at (suc n) (y ∷ ys) x e = In-at n ys x e

-- sorting with one item more puts it in
put_each-snoc : {X K : Type 0} (cmp : K → K → Ordering) (key : X → K) (ordered xs : List X) (x : X) → put_each cmp key ordered (xs ++ x ∷ []) ≡ put cmp key x (put_each cmp key ordered xs)
put_each-snoc cmp key ordered [] x = refl
put_each-snoc cmp key ordered (y ∷ ys) x = put_each-snoc cmp key (put cmp key y ordered) ys x

pub sorted-snoc : {X K : Type 0} (cmp : K → K → Ordering) (key : X → K) (xs : List X) (x : X) → sorted cmp key (xs ++ x ∷ []) ≡ put cmp key x (sorted cmp key xs)
sorted-snoc cmp key xs x = put_each-snoc cmp key [] xs x

-- an item beyond the first n is put in behind them
pub drop-put : {X K : Type 0} (cmp : K → K → Ordering) → IsTotalOrder cmp → (key : X → K) (n : ℕ) (xs : List X) (x : X) → IsBeyond cmp key n xs x → drop n (put cmp key x xs) ≡ put cmp key x (drop n xs)
drop-put cmp o key zero xs x beyond = refl
drop-put cmp o key (suc n) [] x beyond = absurd beyond
drop-put cmp o key (suc n) (y ∷ ys) x beyond =
    subst (λ b. drop (suc n) (cond b (x ∷ y ∷ ys) (y ∷ put cmp key x ys)) ≡ put cmp key x (drop n ys))
    (sym (ap is_lt (o.antisymm (key x) (key y) ∙ ap ordering_reverse beyond.0)))
    (drop-put cmp o key n ys x beyond.1)

-- sorting and then mapping is mapping and then sorting
pub put-map : {X Y K : Type 0} (cmp : K → K → Ordering) (key : Y → K) (f : X → Y) (x : X) (xs : List X) → put cmp key (f x) (map f xs) ≡ map f (put cmp (λ z. key (f z)) x xs)
put-map cmp key f x [] = refl
put-map cmp key f x (y ∷ ys) =
    elim (is_lt (cmp (key (f x)) (key (f y)))) as (λ b. cond b (f x ∷ f y ∷ map f ys) (f y ∷ put cmp key (f x) (map f ys)) ≡ map f (cond b (x ∷ y ∷ ys) (y ∷ put cmp (λ z. key (f z)) x ys))) [
      | true ↦ refl
      | false ↦ ap (λ zs. f y ∷ zs) (put-map cmp key f x ys)
    ]

put_each-map : {X Y K : Type 0} (cmp : K → K → Ordering) (key : Y → K) (f : X → Y) (ordered xs : List X) → put_each cmp key (map f ordered) (map f xs) ≡ map f (put_each cmp (λ z. key (f z)) ordered xs)
put_each-map cmp key f ordered [] = refl
put_each-map cmp key f ordered (x ∷ xs) =
    ap (λ zs. put_each cmp key zs (map f xs)) (put-map cmp key f x ordered) ∙ put_each-map cmp key f (put cmp (λ z. key (f z)) x ordered) xs

pub sorted-map : {X Y K : Type 0} (cmp : K → K → Ordering) (key : Y → K) (f : X → Y) (xs : List X) → sorted cmp key (map f xs) ≡ map f (sorted cmp (λ z. key (f z)) xs)
sorted-map cmp key f xs = put_each-map cmp key f [] xs

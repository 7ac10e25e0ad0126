-- Lists whose keys rise: their items determine them.
use Rattle.std.proofs.Common.{◌≡◌, ℕ, zero, suc, List, [], ◌∷◌, take, map, refl, sym, ◌∙◌, subst, ◌⊎◌, inl, inr}
use Rattle.std.specs.List.{AllByRecursion}
use Rattle.std.specs.Cmp.{IsTotalOrder, tied_itself}
use Rattle.std.specs.declared.cmp.Ordering.TheVariants.{Less}
use Rattle.std.specs.declared.cmp.Ordering.{Ordering}
use Rattle.rs_order.specs.Climbing.{In, Precedes, Climbs, IsBeyond}
use Rattle.rs_order.proofs.EachFacts.{each-map}

-- what holds of each item of a list holds of an item in it
pub AllByRecursion-In : {X : Type 0} (P : X → Type 0) (xs : List X) → AllByRecursion P xs → (z : X) → In z xs → P z
AllByRecursion-In P [] all z h = absurd h
AllByRecursion-In P (x ∷ xs) all z h = elim h [ inl e ↦ subst P (sym e) all.0 | inr behind ↦ AllByRecursion-In P xs all.1 z behind ]

-- and what holds of all that are in it holds of each
pub AllByRecursion-from_In : {X : Type 0} (P : X → Type 0) (xs : List X) → ((z : X) → In z xs → P z) → AllByRecursion P xs
AllByRecursion-from_In P [] holds = tt
AllByRecursion-from_In P (x ∷ xs) holds = (holds x (inl refl), AllByRecursion-from_In P xs (λ z h. holds z (inr h)))

-- the keys of what a function gives of each item rise where the items' own do
pub Climbs-map : {X Y K : Type 0} (cmp : K → K → Ordering) (key : Y → K) (f : X → Y) (xs : List X) → Climbs cmp (λ x. key (f x)) xs → Climbs cmp key (map f xs)
Climbs-map cmp key f [] climbs = tt
Climbs-map cmp key f (x ∷ xs) climbs = (each-map (Precedes cmp key (f x)) f xs climbs.0, Climbs-map cmp key f xs climbs.1)

-- no key comes before itself
pub cmp-not_itself : {K : Type 0} (cmp : K → K → Ordering) → IsTotalOrder cmp → (a : K) → cmp a a ≡ Less → ⊥
cmp-not_itself cmp o a e = let s = tied_itself o a in cc

-- no two keys come before each other
pub cmp-not_both : {K : Type 0} (cmp : K → K → Ordering) → IsTotalOrder cmp → (a b : K) → cmp a b ≡ Less → cmp b a ≡ Less → ⊥
cmp-not_both cmp o a b e f = cmp-not_itself cmp o a (o.trans a b a e f)

-- an item that the first one precedes is behind it
In-behind : {X K : Type 0} (cmp : K → K → Ordering) → IsTotalOrder cmp → (key : X → K) (x y z : X) (ys : List X) → x ≡ y → Precedes cmp key x z → In z (y ∷ ys) → In z ys
In-behind cmp o key x y z ys e before h =
    elim h [
      | inl same ↦ absurd (cmp-not_itself cmp o (key x) (subst (λ w. Precedes cmp key x w) (same ∙ sym e) before))
      | inr behind ↦ behind
    ]

-- two first items, of which none precedes the other, are equal
first-same : {X K : Type 0} (cmp : K → K → Ordering) → IsTotalOrder cmp → (key : X → K) (x y : X) → (x ≡ y) ⊎ Precedes cmp key y x → (y ≡ x) ⊎ Precedes cmp key x y → x ≡ y
first-same cmp o key x y h k =
    elim h [
      | inl e ↦ e
      | inr down ↦ elim k [ inl e ↦ sym e | inr up ↦ absurd (cmp-not_both cmp o (key x) (key y) up down) ]
    ]

-- an item of a list whose keys rise is the first one, or the first one precedes it
In-first : {X K : Type 0} (cmp : K → K → Ordering) (key : X → K) (x z : X) (xs : List X) → Climbs cmp key (x ∷ xs) → In z (x ∷ xs) → (z ≡ x) ⊎ Precedes cmp key x z
In-first cmp key x z xs climbs h = elim h [ inl e ↦ inl e | inr behind ↦ inr (AllByRecursion-In (Precedes cmp key x) xs climbs.0 z behind) ]

-- lists whose keys rise, and each of whose items are in the other, are equal
pub Climbs-same : {X K : Type 0} (cmp : K → K → Ordering) → IsTotalOrder cmp → (key : X → K) (xs ys : List X) → Climbs cmp key xs → Climbs cmp key ys → ((z : X) → In z xs → In z ys) → ((z : X) → In z ys → In z xs) → xs ≡ ys
Climbs-same cmp o key [] [] c d f g = refl
Climbs-same cmp o key [] (y ∷ ys) c d f g = absurd (g y (inl refl))
Climbs-same cmp o key (x ∷ xs) [] c d f g = absurd (f x (inl refl))
Climbs-same cmp o key (x ∷ xs) (y ∷ ys) c d f g =
    let first : x ≡ y = first-same cmp o key x y (In-first cmp key y x ys d (f x (inl refl))) (In-first cmp key x y xs c (g y (inl refl))) in
    let rest : xs ≡ ys =
    Climbs-same cmp o key xs ys c.1 d.1
    (λ z h. In-behind cmp o key x y z ys first (AllByRecursion-In (Precedes cmp key x) xs c.0 z h) (f z (inr h)))
    (λ z h. In-behind cmp o key y x z xs (sym first) (AllByRecursion-In (Precedes cmp key y) ys d.0 z h) (g z (inr h))) in
    cc

-- a part and a whole whose keys rise share their first n items, if what isn't in the part lies beyond its first n
pub Climbs-shared : {X K : Type 0} (cmp : K → K → Ordering) → IsTotalOrder cmp → (key : X → K) (n : ℕ) (part whole : List X) → Climbs cmp key part → Climbs cmp key whole → ((z : X) → In z part → In z whole) → ((z : X) → In z whole → In z part ⊎ IsBeyond cmp key n part z) → take n part ≡ take n whole
Climbs-shared cmp o key zero part whole c d f g = refl
Climbs-shared cmp o key (suc n) [] [] c d f g = refl
Climbs-shared cmp o key (suc n) [] (w ∷ ws) c d f g = absurd (elim (g w (inl refl)) [ inl h ↦ h | inr h ↦ h ])
Climbs-shared cmp o key (suc n) (p ∷ ps) [] c d f g = absurd (f p (inl refl))
Climbs-shared {X} cmp o key (suc n) (p ∷ ps) (w ∷ ws) c d f g =
    let behind : (w ≡ p) ⊎ Precedes cmp key p w = elim (g w (inl refl)) [ inl h ↦ In-first cmp key p w ps c h | inr h ↦ inr h.0 ] in
    let first : p ≡ w = first-same cmp o key p w (In-first cmp key w p ws d (f p (inl refl))) behind in
    let rest : take n ps ≡ take n ws =
    Climbs-shared cmp o key n ps ws c.1 d.1
    (λ z h. In-behind cmp o key p w z ws first (AllByRecursion-In (Precedes cmp key p) ps c.0 z h) (f z (inr h)))
    (λ z h. elim (g z (inr h)) [
      | inl k ↦ inl (In-behind cmp o key w p z ps (sym first) (AllByRecursion-In (Precedes cmp key w) ws d.0 z h) k)
      | inr k ↦ inr k.1
    ]) in
    cc

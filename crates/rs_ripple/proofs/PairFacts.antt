-- The pairs of two lists, of which keys rise along each of both: their keys are distinct, and those that a part of both
-- lacks lie behind the key of the last item of the part and the first one of the other list.
use Rattle.std.proofs.Common.{◌≡◌, ℕ, suc, Bool, true, List, [], ◌∷◌, ◌++◌, get_or, take, drop, Option, refl, sym, ◌∙◌, ap, subst, ◌⊎◌, inl, inr, arith}
use Rattle.std.proofs.lemmas.List.{drop_all}
use Rattle.std.proofs.lemmas.Option.{get_or_from_slice_get, slice_get_cases}
use Rattle.std.specs.Cmp.{IsTotalOrder}
use Rattle.std.specs.List.{filter, slice_get}
use Rattle.std.specs.Option.{option_map}
use Rattle.std.specs.declared.cmp.Ordering.{Ordering}
use Rattle.std.specs.declared.cmp.Ordering.TheVariants.{Less, Equal}
use Rattle.rs_order.specs.Climbing.{Climbs, Differs, HasDistinctKeys, In, Precedes}
use Rattle.rs_order.specs.Sorting.{sorted}
use Rattle.rs_order.proofs.ClimbingFacts.{AllByRecursion-In, AllByRecursion-from_In, Climbs-map}
use Rattle.rs_order.proofs.EachFacts.{each-append, each-weaker}
use Rattle.rs_order.proofs.ItemFacts.{Climbs-filter, In-filter, In-filter-back, In-flat_map, In-flat_map-back, In-map, In-map-back}
use Rattle.rs_order.proofs.PartFacts.{Climbs-behind, Climbs-take, In-drop, In-parts, In-take}
use Rattle.rs_order.proofs.SortingFacts.{Climbs-sorted, In-sorted, In-sorted-back}
use Rattle.rs_ripple.specs.Pairs.{pairs, pairs_with}
use Rattle.rs_ripple.proofs.BarFacts.{IsPast}

-- keys that rise are distinct
pub HasDistinctKeys-Climbs : {X K : Type 0} (cmp : K → K → Ordering) (key : X → K) (xs : List X) → Climbs cmp key xs → HasDistinctKeys cmp key xs
HasDistinctKeys-Climbs cmp key [] climbs = tt
HasDistinctKeys-Climbs cmp key (x ∷ xs) climbs = (
  each-weaker (Precedes cmp key x) (Differs cmp key x) (λ y before tied. differ (sym before ∙ tied)) xs climbs.0,
  HasDistinctKeys-Climbs cmp key xs climbs.1,
)
  where
    differ : Less ≡ Equal → ⊥
    differ e = cc

-- and so are those of two lists that have none in common
pub HasDistinctKeys-append : {X K : Type 0} (cmp : K → K → Ordering) (key : X → K) (xs ys : List X) → HasDistinctKeys cmp key xs → HasDistinctKeys cmp key ys → ((v w : X) → In v xs → In w ys → Differs cmp key v w) → HasDistinctKeys cmp key (xs ++ ys)
HasDistinctKeys-append cmp key [] ys c d apart = d
HasDistinctKeys-append cmp key (x ∷ xs) ys c d apart = (
  each-append (Differs cmp key x) xs ys c.0 (AllByRecursion-from_In (Differs cmp key x) ys (λ w h. apart x w (inl refl) h)),
  HasDistinctKeys-append cmp key xs ys c.1 d (λ v w h k. apart v w (inr h) k),
)

-- a pair that two lists have
pub record IsPair {X Y Z : Type 0} (matches : X → Y → Bool) (merge : X → Y → Z) (xs : List X) (ys : List Y) (z : Z) : Type 0 where
  pub left : X
  pub right : Y
  pub in_left : In left xs
  pub in_right : In right ys
  pub matched : matches left right ≡ true
  pub made : z ≡ merge left right

module _ {X Y Z : Type 0} (matches : X → Y → Bool) (merge : X → Y → Z) where
  pub In-pairs : (xs : List X) (ys : List Y) (z : Z) → IsPair matches merge xs ys z → In z (pairs matches merge xs ys)
  In-pairs xs ys z p =
      In-flat_map (pairs_with matches merge ys) p.left z xs p.in_left
      (subst (λ w. In w (pairs_with matches merge ys p.left)) (sym p.made)
      (In-map (merge p.left) p.right (filter (matches p.left) ys) (In-filter (matches p.left) p.right ys p.in_right p.matched)))

  pub In-pairs-back : (xs : List X) (ys : List Y) (z : Z) → In z (pairs matches merge xs ys) → IsPair matches merge xs ys z
  In-pairs-back xs ys z h =
      let of_left = In-flat_map-back (pairs_with matches merge ys) z xs h in
      let image = In-map-back (merge of_left.source) z (filter (matches of_left.source) ys) of_left.made in
      let both = In-filter-back (matches of_left.source) image.source ys image.is_in in
      record {
        left = of_left.source;
        right = image.source;
        in_left = of_left.is_in;
        in_right = both.0;
        matched = both.1;
        made = image.image;
      }

  -- a pair of the lists is one of their parts, or has an item behind one of them
  pub IsPair-parts : (i k : ℕ) (xs : List X) (ys : List Y) (z : Z) → IsPair matches merge xs ys z → IsPair matches merge (take i xs) (take k ys) z ⊎ (IsPair matches merge (drop i xs) ys z ⊎ IsPair matches merge xs (drop k ys) z)
  IsPair-parts i k xs ys z p =
      elim (In-parts i xs p.left p.in_left) [
        | inl left ↦ elim (In-parts k ys p.right p.in_right) [
          | inl right ↦ inl (record { left = p.left; right = p.right; in_left = left; in_right = right; matched = p.matched; made = p.made })
          | inr right ↦ inr (inr (record { left = p.left; right = p.right; in_left = p.in_left; in_right = right; matched = p.matched; made = p.made }))
        ]
        | inr left ↦ inr (inl (record { left = p.left; right = p.right; in_left = left; in_right = p.in_right; matched = p.matched; made = p.made }))
      ]

  pub IsPair-within : (xs vs : List X) (ys ws : List Y) (z : Z) → ((x : X) → In x xs → In x vs) → ((y : Y) → In y ys → In y ws) → IsPair matches merge xs ys z → IsPair matches merge vs ws z
  IsPair-within xs vs ys ws z f g p = record {
    left = p.left;
    right = p.right;
    in_left = f p.left p.in_left;
    in_right = g p.right p.in_right;
    matched = p.matched;
    made = p.made;
  }

-- keys of merged items rise along both lists, and merges of different left items have different keys
pub record Grid {X Y Z K : Type 0} (cmp : K → K → Ordering) (merge : X → Y → Z) (key : Z → K) (xs : List X) (ys : List Y) : Type 0 where
  pub total : IsTotalOrder cmp
  pub left_climbs : (y : Y) → In y ys → Climbs cmp (λ x. key (merge x y)) xs
  pub right_climbs : (x : X) → In x xs → Climbs cmp (λ y. key (merge x y)) ys
  pub apart : (x w : X) (y v : Y) → In x xs → In w xs → In y ys → In v ys → cmp (key (merge x y)) (key (merge w v)) ≡ Equal → x ≡ w

pub Grid-take : {X Y Z K : Type 0} (cmp : K → K → Ordering) (merge : X → Y → Z) (key : Z → K) (i k : ℕ) (xs : List X) (ys : List Y) → Grid cmp merge key xs ys → Grid cmp merge key (take i xs) (take k ys)
Grid-take cmp merge key i k xs ys g = record {
  total = g.total;
  left_climbs = λ y h. Climbs-take cmp (λ x. key (merge x y)) i xs (g.left_climbs y (In-take k ys y h));
  right_climbs = λ x h. Climbs-take cmp (λ y. key (merge x y)) k ys (g.right_climbs x (In-take i xs x h));
  apart = λ x w y v a b c d e. g.apart x w y v (In-take i xs x a) (In-take i xs w b) (In-take k ys y c) (In-take k ys v d) e;
}

module _ {X Y Z K : Type 0} (cmp : K → K → Ordering) (matches : X → Y → Bool) (merge : X → Y → Z) (key : Z → K) where
  -- no two pairs have equal keys
  pub pairs-distinct : (xs : List X) (ys : List Y) → Grid cmp merge key xs ys → HasDistinctKeys cmp key (pairs matches merge xs ys)
  pairs-distinct [] ys g = tt
  pairs-distinct (x ∷ xs) ys g =
      HasDistinctKeys-append cmp key (pairs_with matches merge ys x) (pairs matches merge xs ys)
      (HasDistinctKeys-Climbs cmp key (pairs_with matches merge ys x)
      (Climbs-map cmp key (merge x) (filter (matches x) ys) (Climbs-filter cmp (λ y. key (merge x y)) (matches x) ys (g.right_climbs x (inl refl)))))
      (pairs-distinct xs ys (record {
        total = g.total;
        left_climbs = λ y h. (g.left_climbs y h).1;
        right_climbs = λ w h. g.right_climbs w (inr h);
        apart = λ v w y u a b c d e. g.apart v w y u (inr a) (inr b) c d e;
      }))
      (λ v w h k tied.
      let image = In-map-back (merge x) v (filter (matches x) ys) h in
      let right = (In-filter-back (matches x) image.source ys image.is_in).0 in
      let other = In-pairs-back matches merge xs ys w k in
      let same : x ≡ other.left =
      g.apart x other.left image.source other.right (inl refl) (inr other.in_left) right other.in_right
      (sym (ap (λ u. cmp (key u) (key w)) image.image ∙ ap (λ u. cmp (key (merge x image.source)) (key u)) other.made) ∙ tied) in
      let before = AllByRecursion-In (Precedes cmp (λ u. key (merge u image.source)) x) xs (g.left_climbs image.source right).0 other.left other.in_left in
      not_itself g.total (key (merge x image.source)) (subst (λ u. cmp (key (merge x image.source)) (key (merge u image.source)) ≡ Less) (sym same) before))
    where
      not_itself : IsTotalOrder cmp → (a : K) → cmp a a ≡ Less → ⊥
      not_itself o a e = let back = o.antisymm a a in cc

  abbrev pub ordered : List X → List Y → List Z
  ordered xs ys = sorted cmp key (pairs matches merge xs ys)

  pub ordered-climbs : (xs : List X) (ys : List Y) → Grid cmp merge key xs ys → Climbs cmp key (ordered xs ys)
  ordered-climbs xs ys g = Climbs-sorted cmp g.total key (pairs matches merge xs ys) (pairs-distinct xs ys g)

  pub In-ordered : (xs : List X) (ys : List Y) (z : Z) → IsPair matches merge xs ys z → In z (ordered xs ys)
  In-ordered xs ys z p = In-sorted cmp key (pairs matches merge xs ys) z (In-pairs matches merge xs ys z p)

  pub In-ordered-back : (xs : List X) (ys : List Y) (z : Z) → In z (ordered xs ys) → IsPair matches merge xs ys z
  In-ordered-back xs ys z h = In-pairs-back matches merge xs ys z (In-sorted-back cmp key (pairs matches merge xs ys) z h)

  -- the keys of the left items with the first right one, and the other way round
  abbrev pub left_bar : List X → Y → ℕ → Option K
  left_bar xs y m = option_map (λ x. key (merge x y)) (slice_get xs m)

  abbrev pub right_bar : X → List Y → ℕ → Option K
  right_bar x ys n = option_map (λ y. key (merge x y)) (slice_get ys n)

-- a pair of an item that isn't among the first m + 1 of its side lies behind the key of the last of these with the first item of
-- the other side
past : {X Y Z K : Type 0} (cmp : K → K → Ordering) (merge : X → Y → Z) (key : Z → K) (m : ℕ) (xs : List X) (y : Y) (ys : List Y) (x : X) (v : Y) → IsTotalOrder cmp → Climbs cmp (λ w. key (merge w y)) xs → Climbs cmp (λ u. key (merge x u)) (y ∷ ys) → In x (drop (suc m) xs) → In v (y ∷ ys) →
    IsPast cmp (option_map (λ w. key (merge w y)) (slice_get xs m)) (key (merge x v))
past cmp merge key m xs y ys x v total own other in_own in_other =
    elim (slice_get_cases xs m).1 [
      | inl some ↦
          let item : get_or xs m some.0 ≡ some.0 = get_or_from_slice_get xs m some.0 some.0 some.2 in
          let before : cmp (key (merge some.0 y)) (key (merge x y)) ≡ Less =
          subst (λ w. cmp (key (merge w y)) (key (merge x y)) ≡ Less) item (Climbs-behind cmp (λ w. key (merge w y)) m xs some.0 x own some.1 in_own) in
          subst (λ o. IsPast cmp (option_map (λ w. key (merge w y)) o) (key (merge x v))) (sym some.2)
          (elim in_other [
            | inl same ↦ subst (λ u. cmp (key (merge some.0 y)) (key (merge x u)) ≡ Less) (sym same) before
            | inr behind ↦ total.trans (key (merge some.0 y)) (key (merge x y)) (key (merge x v)) before (AllByRecursion-In (Precedes cmp (λ u. key (merge x u)) y) ys other.0 v behind)
          ])
      | inr none ↦ absurd (subst (In x) (drop_all (suc m) xs (let beyond = none.0 in omega arith)) in_own)
    ]

module _ {X Y Z K : Type 0} (cmp : K → K → Ordering) (matches : X → Y → Bool) (merge : X → Y → Z) (key : Z → K) where
  pub left-past : (m : ℕ) (xs : List X) (y : Y) (ys : List Y) (z : Z) → Grid cmp merge key xs (y ∷ ys) → IsPair matches merge (drop (suc m) xs) (y ∷ ys) z → IsPast cmp (left_bar cmp matches merge key xs y m) (key z)
  left-past m xs y ys z g p =
      subst (λ w. IsPast cmp (left_bar cmp matches merge key xs y m) (key w)) (sym p.made)
      (past cmp merge key m xs y ys p.left p.right g.total (g.left_climbs y (inl refl)) (g.right_climbs p.left (In-drop (suc m) xs p.left p.in_left)) p.in_left p.in_right)

  pub right-past : (n : ℕ) (x : X) (xs : List X) (ys : List Y) (z : Z) → Grid cmp merge key (x ∷ xs) ys → IsPair matches merge (x ∷ xs) (drop (suc n) ys) z → IsPast cmp (right_bar cmp matches merge key x ys n) (key z)
  right-past n x xs ys z g p =
      subst (λ w. IsPast cmp (right_bar cmp matches merge key x ys n) (key w)) (sym p.made)
      (past cmp (λ v u. merge u v) key n ys x xs p.right p.left g.total (g.right_climbs x (inl refl)) (g.left_climbs p.right (In-drop (suc n) ys p.right p.in_right)) p.in_right p.in_left)

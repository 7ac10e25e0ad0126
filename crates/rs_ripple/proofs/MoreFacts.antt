-- The pairs of two lists of which one gets an item more, and those of them that pass a test.
use Rattle.std.proofs.Common.{◌≡◌, Bool, true, List, [], ◌∷◌, ◌++◌, refl, sym, ◌∙◌, ap, ap₂, subst, ◌⊎◌, inl, inr}
use Rattle.std.specs.List.{filter}
use Rattle.std.specs.declared.cmp.Ordering.{Ordering}
use Rattle.std.specs.declared.cmp.Ordering.TheVariants.{Less, Equal}
use Rattle.rs_order.specs.Climbing.{Climbs, HasDistinctKeys, In, Precedes, SameItems}
use Rattle.rs_order.proofs.ClimbingFacts.{AllByRecursion-In, cmp-not_itself}
use Rattle.rs_order.proofs.EachFacts.{each-front}
use Rattle.rs_order.proofs.ItemFacts.{Climbs-filter, In-append, In-filter, In-filter-back, In-left, In-map, In-map-back, In-right}
use Rattle.rs_ripple.specs.Pairs.{pairs_against, pairs_with}
use Rattle.rs_ripple.proofs.GrowFacts.{Grows}
use Rattle.rs_ripple.proofs.PairFacts.{Grid, IsPair, IsPair-within, In-ordered, In-ordered-back, ordered, ordered-climbs}

Climbs-front : {X K : Type 0} (cmp : K → K → Ordering) (key : X → K) (xs ys : List X) → Climbs cmp key (xs ++ ys) → Climbs cmp key xs
Climbs-front cmp key [] ys climbs = tt
Climbs-front cmp key (x ∷ xs) ys climbs = (each-front (Precedes cmp key x) xs ys climbs.0, Climbs-front cmp key xs ys climbs.1)

-- the last item comes behind those in front of it
pub Climbs-last : {X K : Type 0} (cmp : K → K → Ordering) (key : X → K) (xs : List X) (x z : X) → Climbs cmp key (xs ++ x ∷ []) → In z xs → Precedes cmp key z x
Climbs-last cmp key [] x z climbs h = absurd h
Climbs-last cmp key (y ∷ ys) x z climbs h =
    elim h [
      | inl e ↦ subst (λ w. Precedes cmp key w x) (sym e) (AllByRecursion-In (Precedes cmp key y) (ys ++ x ∷ []) climbs.0 x (In-right x ys (x ∷ []) (inl refl)))
      | inr k ↦ Climbs-last cmp key ys x z climbs.1 k
    ]

-- of one item the only one is that item
only : {X : Type 0} (x z : X) → In z (x ∷ []) → z ≡ x
only x z h = elim h [ inl e ↦ e | inr none ↦ absurd none ]

-- of a list with one item more an item is that one or one of the others
In-last : {X : Type 0} (xs : List X) (x z : X) → In z (xs ++ x ∷ []) → In z xs ⊎ (z ≡ x)
In-last xs x z h = elim (In-append z xs (x ∷ []) h) [ inl k ↦ inl k | inr k ↦ inr (only x z k) ]

less_equal : {G : Type 0} → Less ≡ Equal → G
less_equal f = cc

module _ {X Y Z K : Type 0} (cmp : K → K → Ordering) (matches : X → Y → Bool) (merge : X → Y → Z) (key : Z → K) where
  -- a pair of one item and a list, or of a list and one item
  pub In-pairs_with : (x : X) (ys : List Y) (z : Z) → In z (pairs_with matches merge ys x) → IsPair matches merge (x ∷ []) ys z
  In-pairs_with x ys z h =
      let image = In-map-back (merge x) z (filter (matches x) ys) h in
      let both = In-filter-back (matches x) image.source ys image.is_in in
      record { left = x; right = image.source; in_left = inl refl; in_right = both.0; matched = both.1; made = image.image }

  pub In-pairs_against : (xs : List X) (y : Y) (z : Z) → In z (pairs_against matches merge xs y) → IsPair matches merge xs (y ∷ []) z
  In-pairs_against xs y z h =
      let image = In-map-back (λ x. merge x y) z (filter (λ x. matches x y) xs) h in
      let both = In-filter-back (λ x. matches x y) image.source xs image.is_in in
      record { left = image.source; right = y; in_left = both.0; in_right = inl refl; matched = both.1; made = image.image }

  Grid-left : (xs vs : List X) (ys : List Y) → Grid cmp merge key (xs ++ vs) ys → Grid cmp merge key xs ys
  Grid-left xs vs ys g = record {
    total = g.total;
    left_climbs = λ y h. Climbs-front cmp (λ x. key (merge x y)) xs vs (g.left_climbs y h);
    right_climbs = λ x h. g.right_climbs x (In-left x xs vs h);
    apart = λ x w y v a b c d e. g.apart x w y v (In-left x xs vs a) (In-left w xs vs b) c d e;
  }

  Grid-right : (xs : List X) (ys vs : List Y) → Grid cmp merge key xs (ys ++ vs) → Grid cmp merge key xs ys
  Grid-right xs ys vs g = record {
    total = g.total;
    left_climbs = λ y h. g.left_climbs y (In-left y ys vs h);
    right_climbs = λ x h. Climbs-front cmp (λ y. key (merge x y)) ys vs (g.right_climbs x h);
    apart = λ x w y v a b c d e. g.apart x w y v a b (In-left y ys vs c) (In-left v ys vs d) e;
  }

  -- the pairs of one left item more
  pub grows-left_item : (xs : List X) (x : X) (ys : List Y) (more : List Z) → Grid cmp merge key (xs ++ x ∷ []) ys → SameItems more (pairs_with matches merge ys x) → HasDistinctKeys cmp key more →
      Grows cmp key (ordered cmp matches merge key xs ys) (ordered cmp matches merge key (xs ++ x ∷ []) ys) more
  grows-left_item xs x ys more g same distinct = record {
    total = g.total;
    old_climbs = ordered-climbs cmp matches merge key xs ys (Grid-left xs (x ∷ []) ys g);
    new_climbs = ordered-climbs cmp matches merge key (xs ++ x ∷ []) ys g;
    stays = λ z h. In-ordered cmp matches merge key (xs ++ x ∷ []) ys z
        (IsPair-within matches merge xs (xs ++ x ∷ []) ys ys z (λ w l. In-left w xs (x ∷ []) l) (λ w l. l) (In-ordered-back cmp matches merge key xs ys z h));
    comes = λ z h. In-ordered cmp matches merge key (xs ++ x ∷ []) ys z
        (IsPair-within matches merge (x ∷ []) (xs ++ x ∷ []) ys ys z (λ w l. In-right w xs (x ∷ []) l) (λ w l. l) (In-pairs_with x ys z ((same z).0 h)));
    parts = λ z h.
        let p = In-ordered-back cmp matches merge key (xs ++ x ∷ []) ys z h in
        elim (In-last xs x p.left p.in_left) [
          | inl l ↦ inl (In-ordered cmp matches merge key xs ys z (record { left = p.left; right = p.right; in_left = l; in_right = p.in_right; matched = p.matched; made = p.made }))
          | inr e ↦ inr ((same z).1
              (subst (λ w. In w (pairs_with matches merge ys x)) (sym (p.made ∙ ap (λ v. merge v p.right) e))
              (In-map (merge x) p.right (filter (matches x) ys) (In-filter (matches x) p.right ys p.in_right (ap (λ v. matches v p.right) (sym e) ∙ p.matched)))))
        ];
    distinct = distinct;
    apart = λ z w h l tied.
        let p = In-ordered-back cmp matches merge key xs ys z h in
        let q = In-pairs_with x ys w ((same w).0 l) in
        let w_is : w ≡ merge x q.right = q.made ∙ ap (λ v. merge v q.right) (only x q.left q.in_left) in
        let equal : p.left ≡ x =
        g.apart p.left x p.right q.right (In-left p.left xs (x ∷ []) p.in_left) (In-right x xs (x ∷ []) (inl refl)) p.in_right q.in_right
        (sym (ap₂ (λ u v. cmp (key u) (key v)) p.made w_is) ∙ tied) in
        let before = Climbs-last cmp (λ v. key (merge v q.right)) xs x p.left (g.left_climbs q.right q.in_right) p.in_left in
        cmp-not_itself cmp g.total (key (merge x q.right)) (subst (λ v. cmp (key (merge v q.right)) (key (merge x q.right)) ≡ Less) equal before);
  }

  -- the pairs of one right item more
  pub grows-right_item : (xs : List X) (ys : List Y) (y : Y) (more : List Z) → Grid cmp merge key xs (ys ++ y ∷ []) → SameItems more (pairs_against matches merge xs y) → HasDistinctKeys cmp key more →
      Grows cmp key (ordered cmp matches merge key xs ys) (ordered cmp matches merge key xs (ys ++ y ∷ [])) more
  grows-right_item xs ys y more g same distinct = record {
    total = g.total;
    old_climbs = ordered-climbs cmp matches merge key xs ys (Grid-right xs ys (y ∷ []) g);
    new_climbs = ordered-climbs cmp matches merge key xs (ys ++ y ∷ []) g;
    stays = λ z h. In-ordered cmp matches merge key xs (ys ++ y ∷ []) z
        (IsPair-within matches merge xs xs ys (ys ++ y ∷ []) z (λ w l. l) (λ w l. In-left w ys (y ∷ []) l) (In-ordered-back cmp matches merge key xs ys z h));
    comes = λ z h. In-ordered cmp matches merge key xs (ys ++ y ∷ []) z
        (IsPair-within matches merge xs xs (y ∷ []) (ys ++ y ∷ []) z (λ w l. l) (λ w l. In-right w ys (y ∷ []) l) (In-pairs_against xs y z ((same z).0 h)));
    parts = λ z h.
        let p = In-ordered-back cmp matches merge key xs (ys ++ y ∷ []) z h in
        elim (In-last ys y p.right p.in_right) [
          | inl l ↦ inl (In-ordered cmp matches merge key xs ys z (record { left = p.left; right = p.right; in_left = p.in_left; in_right = l; matched = p.matched; made = p.made }))
          | inr e ↦ inr ((same z).1
              (subst (λ w. In w (pairs_against matches merge xs y)) (sym (p.made ∙ ap (merge p.left) e))
              (In-map (λ x. merge x y) p.left (filter (λ x. matches x y) xs) (In-filter (λ x. matches x y) p.left xs p.in_left (ap (matches p.left) (sym e) ∙ p.matched)))))
        ];
    distinct = distinct;
    apart = λ z w h l tied.
        let p = In-ordered-back cmp matches merge key xs ys z h in
        let q = In-pairs_against xs y w ((same w).0 l) in
        let here = In-right y ys (y ∷ []) (inl refl) in
        let w_is : w ≡ merge q.left y = q.made ∙ ap (merge q.left) (only y q.right q.in_right) in
        let both : cmp (key (merge p.left p.right)) (key (merge q.left y)) ≡ Equal = sym (ap₂ (λ u v. cmp (key u) (key v)) p.made w_is) ∙ tied in
        let equal : p.left ≡ q.left = g.apart p.left q.left p.right y p.in_left q.in_left (In-left p.right ys (y ∷ []) p.in_right) here both in
        let before = Climbs-last cmp (λ v. key (merge p.left v)) ys y p.right (g.right_climbs p.left p.in_left) p.in_right in
        less_equal (sym before ∙ ap (λ x. cmp (key (merge p.left p.right)) (key (merge x y))) equal ∙ both);
  }

-- what passes a test grows so, where all that is new passes it
pub Grows-filter : {X K : Type 0} (cmp : K → K → Ordering) (key : X → K) (test : X → Bool) (old new more : List X) → Grows cmp key old new more → ((z : X) → In z more → test z ≡ true) → Grows cmp key (filter test old) (filter test new) more
Grows-filter cmp key test old new more g passes = record {
  total = g.total;
  old_climbs = Climbs-filter cmp key test old g.old_climbs;
  new_climbs = Climbs-filter cmp key test new g.new_climbs;
  stays = λ z h. let both = In-filter-back test z old h in In-filter test z new (g.stays z both.0) both.1;
  comes = λ z h. In-filter test z new (g.comes z h) (passes z h);
  parts = λ z h. let both = In-filter-back test z new h in elim (g.parts z both.0) [ inl k ↦ inl (In-filter test z old k both.1) | inr k ↦ inr k ];
  distinct = g.distinct;
  apart = λ z w h l. g.apart z w (In-filter-back test z old h).0 l;
}

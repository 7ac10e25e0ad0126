-- Claimed pairs, one after another.
use Rattle.std.proofs.Common.{◌≡◌, ℕ, ◌+◌, ◌<◌, true, false, List, [], ◌∷◌, ◌++◌, get_or, length, take, Option, Some, refl, sym, ◌∙◌, ap, subst, inl, inr}
use Rattle.std.proofs.lemmas.Bool.{true≢false}
use Rattle.std.proofs.lemmas.List.{map_more, take-map}
use Rattle.std.specs.Ordering.{is_lt}
use Rattle.std.specs.declared.cmp.Ordering.TheVariants.{Less}
use Rattle.rs_feed.specs.declared.feed_row.FeedRow.{FeedRow}
use Rattle.rs_order.specs.Climbing.{Climbs, In}
use Rattle.rs_order.specs.Last.{last_of}
use Rattle.rs_order.proofs.EachFacts.{each-behind, each-push, each-take}
use Rattle.rs_order.proofs.PartFacts.{Climbs-take, is_lt-Less}
use Rattle.rs_cert.specs.declared.pair.Pair.{Pair}
use Rattle.rs_cert.specs.Claims.{AreInOrder, claimed, claimed_pair, comes_behind, is_pair}
use Rattle.rs_cert.specs.Pairs.{pair_cmp}
use Rattle.rs_cert.proofs.AnswerFacts.{pair_cmp-total}
use Rattle.rs_cert.proofs.PairFacts.{Climbs-append}

-- all pairs of a climbing list come before what comes behind the last one
pub before-last : (pairs : List Pair) (pair z : Pair) → Climbs pair_cmp (λ p. p) pairs → comes_behind (last_of pairs) pair ≡ true → In z pairs → pair_cmp z pair ≡ Less
before-last [] pair z climbs behind h = absurd h
before-last (x ∷ []) pair z climbs behind h =
    elim h [ inl e ↦ subst (λ w. pair_cmp w pair ≡ Less) (sym e) (is_lt-Less (pair_cmp x pair) behind) | inr none ↦ absurd none ]
before-last (x ∷ y ∷ ys) pair z climbs behind h =
    elim h [
      | inl e ↦ subst (λ w. pair_cmp w pair ≡ Less) (sym e) (pair_cmp-total.trans x y pair climbs.0.0 (before-last (y ∷ ys) pair y climbs.1 behind (inl refl)))
      | inr k ↦ before-last (y ∷ ys) pair z climbs.1 behind k
    ]

pub last_of-push : (pairs : List Pair) (pair : Pair) → last_of (pairs ++ pair ∷ []) ≡ Some pair
last_of-push [] pair = refl
last_of-push (x ∷ []) pair = refl
last_of-push (x ∷ y ∷ ys) pair = last_of-push (y ∷ ys) pair

-- one pair more
pub order-push : (lefts rights : List FeedRow) (pairs : List Pair) (pair : Pair) → AreInOrder lefts rights pairs → is_pair lefts rights pair ≡ true → comes_behind (last_of pairs) pair ≡ true → AreInOrder lefts rights (pairs ++ pair ∷ [])
order-push lefts rights pairs pair order is behind = record {
  are = each-push (λ p. is_pair lefts rights p ≡ true) pairs pair order.are is;
  climb =
      Climbs-append pair_cmp pairs (pair ∷ []) order.climb (tt, tt)
      (λ x y h k. elim k [ inl e ↦ subst (λ w. pair_cmp x w ≡ Less) (sym e) (before-last pairs pair x order.climb behind h) | inr none ↦ absurd none ]);
}

-- and the other way round
climbs-behind : (pairs : List Pair) (pair : Pair) → Climbs pair_cmp (λ p. p) (pairs ++ pair ∷ []) → comes_behind (last_of pairs) pair ≡ true
climbs-behind [] pair climbs = refl
climbs-behind (x ∷ []) pair climbs = ap is_lt climbs.0.0
climbs-behind (x ∷ y ∷ ys) pair climbs = climbs-behind (y ∷ ys) pair climbs.1

module _ (lefts rights : List FeedRow) (pairs : List (ℕ × ℕ)) (i : ℕ) (item : ℕ × ℕ) (within : i < length pairs) where
  claimed-more : claimed lefts rights (take (i + 1) pairs) ≡ claimed lefts rights (take i pairs) ++ claimed_pair lefts rights (get_or pairs i item) ∷ []
  claimed-more = map_more (claimed_pair lefts rights) pairs i item within

  -- the pairs up to the next one are in order
  pub order-more : (last : Option Pair) (pair : Pair) → last ≡ last_of (claimed lefts rights (take i pairs)) → pair ≡ claimed_pair lefts rights (get_or pairs i item) → AreInOrder lefts rights (claimed lefts rights (take i pairs)) → is_pair lefts rights pair ≡ true → comes_behind last pair ≡ true → AreInOrder lefts rights (claimed lefts rights (take (i + 1) pairs))
  order-more last pair e f order is behind =
      subst (λ list. AreInOrder lefts rights list) (sym (claimed-more ∙ ap (λ p. claimed lefts rights (take i pairs) ++ p ∷ []) (sym f)))
      (order-push lefts rights (claimed lefts rights (take i pairs)) pair order is (subst (λ l. comes_behind l pair ≡ true) e behind))

  pub last-more : last_of (claimed lefts rights (take (i + 1) pairs)) ≡ Some (claimed_pair lefts rights (get_or pairs i item))
  last-more = ap last_of claimed-more ∙ last_of-push (claimed lefts rights (take i pairs)) (claimed_pair lefts rights (get_or pairs i item))

  -- where all are in order, so are those up to the next one
  upto : AreInOrder lefts rights (claimed lefts rights pairs) → AreInOrder lefts rights (claimed lefts rights (take i pairs) ++ claimed_pair lefts rights (get_or pairs i item) ∷ [])
  upto order =
      subst (λ list. AreInOrder lefts rights list) (take-map (claimed_pair lefts rights) (i + 1) pairs ∙ claimed-more)
      (record {
        are = each-take (λ p. is_pair lefts rights p ≡ true) (i + 1) (claimed lefts rights pairs) order.are;
        climb = Climbs-take pair_cmp (λ p. p) (i + 1) (claimed lefts rights pairs) order.climb;
      })

  pub no_pair : is_pair lefts rights (claimed_pair lefts rights (get_or pairs i item)) ≡ false → AreInOrder lefts rights (claimed lefts rights pairs) → ⊥
  no_pair other order =
      let is = (each-behind (λ p. is_pair lefts rights p ≡ true) (claimed lefts rights (take i pairs)) (claimed_pair lefts rights (get_or pairs i item) ∷ []) (upto order).are).0 in
      true≢false (sym is ∙ other)

  pub not_behind : (last : Option Pair) (pair : Pair) → last ≡ last_of (claimed lefts rights (take i pairs)) → pair ≡ claimed_pair lefts rights (get_or pairs i item) → comes_behind last pair ≡ false → AreInOrder lefts rights (claimed lefts rights pairs) → ⊥
  not_behind last pair e f other order =
      let behind = climbs-behind (claimed lefts rights (take i pairs)) (claimed_pair lefts rights (get_or pairs i item)) (upto order).climb in
      true≢false (sym behind ∙ sym (ap (λ l. comes_behind l pair) e ∙ ap (λ p. comes_behind (last_of (claimed lefts rights (take i pairs))) p) f) ∙ other)

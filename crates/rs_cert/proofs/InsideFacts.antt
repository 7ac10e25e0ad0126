-- Lists of pairs that rise, one inside another.
use Rattle.std.proofs.Common.{◌≡◌, ℕ, zero, suc, ◌≤◌, cond, List, [], ◌∷◌, length, take, Some, refl, sym, ◌∙◌, subst, ◌⊎◌, inl, inr, arith}
use Rattle.std.proofs.lemmas.List.{length-take}
use Rattle.std.specs.Ordering.{is_lt}
use Rattle.std.specs.declared.cmp.Ordering.TheVariants.{Less}
use Rattle.rs_order.specs.Asks.{those_before}
use Rattle.rs_order.specs.Climbing.{Climbs, In, IsBeyond, Precedes}
use Rattle.rs_order.specs.Last.{last_of}
use Rattle.rs_order.proofs.ClimbingFacts.{AllByRecursion-In, cmp-not_both, cmp-not_itself}
use Rattle.rs_order.proofs.PartFacts.{Climbs-parts, Climbs-take, In-parts}
use Rattle.rs_cert.specs.declared.pair.Pair.{Pair}
use Rattle.rs_cert.specs.Pairs.{pair_cmp}
use Rattle.rs_cert.proofs.AnswerFacts.{pair_cmp-total}
use Rattle.rs_cert.proofs.RowFacts.{same_at}

-- a list that rises, inside another one whose first pair is left out
inside-rest : (x y : Pair) (xs ys : List Pair) → Climbs pair_cmp (λ p. p) (x ∷ xs) → Climbs pair_cmp (λ p. p) (y ∷ ys) → ((z : Pair) → In z (x ∷ xs) → In z (y ∷ ys)) → (z : Pair) → In z xs → In z ys
inside-rest x y xs ys c d inside z h =
    let behind : pair_cmp x z ≡ Less = AllByRecursion-In (Precedes pair_cmp (λ p. p) x) xs c.0 z h in
    elim (inside z (inr h)) [
      | inr there ↦ there
      | inl same ↦ elim (inside x (inl refl)) [
        | inl first ↦ absurd (cmp-not_itself pair_cmp pair_cmp-total x (subst (λ w. pair_cmp x w ≡ Less) (same ∙ sym first) behind))
        | inr later ↦
            absurd (cmp-not_both pair_cmp pair_cmp-total x y (subst (λ w. pair_cmp x w ≡ Less) same behind) (AllByRecursion-In (Precedes pair_cmp (λ p. p) y) ys d.0 x later))
      ]
    ]

-- and no longer than it, so that they are the same
pub same-inside : (xs ys : List Pair) → Climbs pair_cmp (λ p. p) xs → Climbs pair_cmp (λ p. p) ys → ((z : Pair) → In z xs → In z ys) → length ys ≤ length xs → xs ≡ ys
same-inside [] [] c d inside most = refl
same-inside [] (y ∷ ys) c d inside most = absurd (omega arith)
same-inside (x ∷ xs) [] c d inside most = absurd (inside x (inl refl))
same-inside (x ∷ xs) (y ∷ ys) c d inside most =
    let rest : xs ≡ ys = same-inside xs ys c.1 d.1 (inside-rest x y xs ys c d inside) (omega arith) in
    let first : x ≡ y = elim (inside x (inl refl)) [
      | inl same ↦ same
      | inr later ↦ absurd (cmp-not_itself pair_cmp pair_cmp-total x (AllByRecursion-In (Precedes pair_cmp (λ p. p) x) xs c.0 x (subst (λ list. In x list) (sym rest) later)))
    ] in
    cc

-- each pair of a list that rises is the last one or comes before it
pub last-or_before : (pairs : List Pair) (last z : Pair) → Climbs pair_cmp (λ p. p) pairs → last_of pairs ≡ Some last → In z pairs → (z ≡ last) ⊎ (pair_cmp z last ≡ Less)
last-or_before [] last z climbs e h = absurd h
last-or_before (x ∷ []) last z climbs e h = elim h [ inl same ↦ inl (same ∙ same_at e) | inr none ↦ absurd none ]
last-or_before (x ∷ y ∷ ys) last z climbs e h =
    elim h [
      | inl same ↦ inr (subst (λ w. pair_cmp w last ≡ Less) (sym same) (elim (last-or_before (y ∷ ys) last y climbs.1 e (inl refl)) [
        | inl is ↦ subst (λ w. pair_cmp x w ≡ Less) is climbs.0.0
        | inr before ↦ pair_cmp-total.trans x y last climbs.0.0 before
      ]))
      | inr behind ↦ last-or_before (y ∷ ys) last z climbs.1 e behind
    ]

-- where this many pairs come before one, this many are counted before a bar that comes at or behind it
pub beyond-counted : (n : ℕ) (pairs : List Pair) (z bar : Pair) → (z ≡ bar) ⊎ (pair_cmp z bar ≡ Less) → IsBeyond pair_cmp (λ p. p) n pairs z → n ≤ length (those_before pair_cmp (λ p. p) (Some bar) pairs)
beyond-counted zero pairs z bar h beyond = omega arith
beyond-counted (suc n) [] z bar h beyond = absurd beyond
beyond-counted (suc n) (x ∷ xs) z bar h beyond =
    let before : pair_cmp x bar ≡ Less = elim h [ inl same ↦ subst (λ w. pair_cmp x w ≡ Less) same beyond.0 | inr less ↦ pair_cmp-total.trans x z bar beyond.0 less ] in
    let more : n ≤ length (those_before pair_cmp (λ p. p) (Some bar) xs) = beyond-counted n xs z bar h beyond.1 in
    subst (λ o. suc n ≤ length (cond (is_lt o) (x ∷ those_before pair_cmp (λ p. p) (Some bar) xs) (those_before pair_cmp (λ p. p) (Some bar) xs))) (sym before) (omega arith)

-- pairs that rise inside another list that rises, of which no others come before the last one, are its first ones
pub first-inside : (pairs whole : List Pair) (n : ℕ) (last : Pair) → Climbs pair_cmp (λ p. p) pairs → Climbs pair_cmp (λ p. p) whole → ((z : Pair) → In z pairs → In z whole) → length pairs ≡ suc n → last_of pairs ≡ Some last → length (those_before pair_cmp (λ p. p) (Some last) whole) ≤ n → pairs ≡ take (suc n) whole
first-inside pairs whole n last c d inside size e most =
    same-inside pairs (take (suc n) whole) c (Climbs-take pair_cmp (λ p. p) (suc n) whole d) within (let taken = length-take (suc n) whole in omega arith)
  where
    within : (z : Pair) → In z pairs → In z (take (suc n) whole)
    within z h = elim (In-parts (suc n) whole z (inside z h)) [
      | inl there ↦ there
      | inr behind ↦
          let many = beyond-counted (suc n) whole z last (last-or_before pairs last z c e h) (Climbs-parts pair_cmp (λ p. p) (suc n) whole z d behind) in
          absurd (omega arith)
    ]

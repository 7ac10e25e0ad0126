-- A part of a whole whose keys rise, of which all that is missing lies behind a bar: the items of the part up to the bar
-- are those of the whole.
use Rattle.std.proofs.Common.{◌≡◌, ℕ, suc, Bool, true, false, not, List, take, Option, Some, None, refl, sym, ◌∙◌, ap, ◌⊎◌, inl, inr}
use Rattle.std.proofs.lemmas.Bool.{true≢false}
use Rattle.std.proofs.lemmas.Option.{slice_get_cases}
use Rattle.std.specs.Cmp.{IsTotalOrder}
use Rattle.std.specs.List.{slice_get}
use Rattle.std.specs.Option.{option_map}
use Rattle.std.specs.Ordering.{is_lt, is_gt, ordering_reverse}
use Rattle.std.specs.declared.cmp.Ordering.{Ordering}
use Rattle.std.specs.declared.cmp.Ordering.TheVariants.{Less, Equal, Greater}
use Rattle.rs_order.specs.Asks.{comes_before_bar, bar_after}
use Rattle.rs_order.specs.Climbing.{Climbs, In}
use Rattle.rs_order.proofs.ClimbingFacts.{Climbs-same, Climbs-shared}
use Rattle.rs_order.proofs.PartFacts.{Climbs-begin, Climbs-not_behind, In-take, IsBeyond-drop, cmp-behind-Less, slice_get-shared, bar_after-slice_get}

-- a key lies behind a bar
abbrev pub IsPast : {K : Type 0} → (K → K → Ordering) → Option K → K → Type 0
IsPast cmp None k = ⊥
IsPast cmp (Some b) k = cmp b k ≡ Less

-- a key comes at or before a bar
abbrev pub reaches : {K : Type 0} → (K → K → Ordering) → Option K → K → Bool
reaches cmp None k = true
reaches cmp (Some b) k = not (is_gt (cmp k b))

pub record IsSettledBy {X K : Type 0} (cmp : K → K → Ordering) (key : X → K) (bar : Option K) (part whole : List X) : Type 0 where
  pub total : IsTotalOrder cmp
  pub part_climbs : Climbs cmp key part
  pub whole_climbs : Climbs cmp key whole
  pub within : (z : X) → In z part → In z whole
  pub missing : (z : X) → In z whole → In z part ⊎ IsPast cmp bar (key z)

-- the one comes after the other where the other comes before it
is_gt-turned : {K : Type 0} (cmp : K → K → Ordering) → IsTotalOrder cmp → (a b : K) → is_gt (cmp a b) ≡ is_lt (cmp b a)
is_gt-turned cmp o a b = ap is_gt (o.antisymm a b) ∙ turned (cmp b a)
  where
    turned : (r : Ordering) → is_gt (ordering_reverse r) ≡ is_lt r
    turned Less = refl
    turned Equal = refl
    turned Greater = refl

not-true : (b : Bool) → not b ≡ true → b ≡ false
not-true true e = absurd (true≢false (sym e))
not-true false e = refl

-- where an item is at a place, and comes at or before a bar
abbrev pub reached_at : {X K : Type 0} → (K → K → Ordering) → (X → K) → Option K → Option X → Bool
reached_at cmp key bar None = false
reached_at cmp key bar (Some p) = reaches cmp bar (key p)

module _ {X K : Type 0} (cmp : K → K → Ordering) (key : X → K) (part whole : List X) where
  -- nothing is missing where nothing lies behind the bar
  pub settled-None : IsSettledBy cmp key None part whole → part ≡ whole
  settled-None s =
      Climbs-same cmp s.total key part whole s.part_climbs s.whole_climbs s.within
      (λ z h. elim (s.missing z h) [ inl k ↦ k | inr none ↦ absurd none ])

  -- a bar that doesn't come before the key of an item of the whole settles it, and all before it
  pub settled-Some : (b : K) → IsSettledBy cmp key (Some b) part whole → (n : ℕ) → comes_before_bar cmp (bar_after key whole n) b ≡ false → take (suc n) part ≡ take (suc n) whole
  settled-Some b s n e =
      elim (slice_get_cases whole n).1 [
        | inl some ↦
            let last : bar_after key whole n ≡ Some (key some.0) = bar_after-slice_get key whole n ∙ ap (option_map key) some.2 in
            let later : is_gt (cmp (key some.0) b) ≡ false = is_gt-turned cmp s.total (key some.0) b ∙ sym (ap (λ bar. comes_before_bar cmp bar b) last) ∙ e in
            Climbs-begin cmp s.total key (suc n) part whole s.part_climbs s.whole_climbs s.within
            (λ z h. elim (s.missing z (In-take (suc n) whole z h)) [
              | inl k ↦ k
              | inr past ↦ absurd (Climbs-not_behind cmp s.total key n whole some.0 z s.whole_climbs some.2 h (cmp-behind-Less cmp s.total (key some.0) b (key z) later past))
            ])
        | inr none ↦
            let last : bar_after key whole n ≡ None = bar_after-slice_get key whole n ∙ ap (option_map key) none.1 in
            absurd (true≢false (sym (ap (λ bar. comes_before_bar cmp bar b) last) ∙ e))
      ]

  -- an item of the part that comes at or before the bar is one of the whole, and so are all before it
  pub settled-reached : (bar : Option K) → IsSettledBy cmp key bar part whole → (n : ℕ) (p : X) → slice_get part n ≡ Some p → reaches cmp bar (key p) ≡ true → take (suc n) part ≡ take (suc n) whole
  settled-reached None s n p e reached = ap (take (suc n)) (settled-None s)
  settled-reached (Some b) s n p e reached =
      Climbs-shared cmp s.total key (suc n) part whole s.part_climbs s.whole_climbs s.within
      (λ z h. elim (s.missing z h) [
        | inl k ↦ inl k
        | inr past ↦ inr (IsBeyond-drop cmp s.total key n part p z s.part_climbs e
            (cmp-behind-Less cmp s.total (key p) b (key z) (not-true (is_gt (cmp (key p) b)) reached) past))
      ])

  -- so the bar comes before the key of an item of the whole exactly where the part doesn't reach it
  pub bar_after-reached : (b : K) → IsSettledBy cmp key (Some b) part whole → (n : ℕ) → comes_before_bar cmp (bar_after key whole n) b ≡ not (reached_at cmp key (Some b) (slice_get part n))
  bar_after-reached b s n = go (slice_get part n) refl
    where
      bar_after-is : (o : Option X) → slice_get whole n ≡ o → bar_after key whole n ≡ option_map key o
      bar_after-is o e = bar_after-slice_get key whole n ∙ ap (option_map key) e

      here : (o : Option X) → slice_get part n ≡ o → comes_before_bar cmp (bar_after key whole n) b ≡ false → comes_before_bar cmp (option_map key o) b ≡ false
      here o e f =
          let shared = slice_get-shared n part whole (settled-Some b s n f) in
          sym (ap (λ bar. comes_before_bar cmp bar b) (bar_after-is o (sym shared ∙ e))) ∙ f

      go : (o : Option X) → slice_get part n ≡ o → comes_before_bar cmp (bar_after key whole n) b ≡ not (reached_at cmp key (Some b) o)
      go None e =
          (elim (comes_before_bar cmp (bar_after key whole n) b) as (λ c. comes_before_bar cmp (bar_after key whole n) b ≡ c → c ≡ true) [
            | true ↦ λ f. refl
            | false ↦ λ f. sym (here None e f)
          ]) refl
      go (Some p) e =
          (elim (is_gt (cmp (key p) b)) as (λ c. is_gt (cmp (key p) b) ≡ c → comes_before_bar cmp (bar_after key whole n) b ≡ not (not c)) [
            | true ↦ λ f.
                (elim (comes_before_bar cmp (bar_after key whole n) b) as (λ c. comes_before_bar cmp (bar_after key whole n) b ≡ c → c ≡ true) [
                  | true ↦ λ g. refl
                  | false ↦ λ g. sym (here (Some p) e g) ∙ sym (is_gt-turned cmp s.total (key p) b) ∙ f
                ]) refl
            | false ↦ λ f.
                let shared = slice_get-shared n part whole (settled-reached (Some b) s n p e (ap not f)) in
                ap (λ bar. comes_before_bar cmp bar b) (bar_after-is (Some p) (sym shared ∙ e)) ∙ sym (is_gt-turned cmp s.total (key p) b) ∙ f
          ]) refl

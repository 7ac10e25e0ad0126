-- How many rows have at least a bound, where keys rise, and how far that takes.
use Rattle.std.proofs.Common.{◌≡◌, ℕ, zero, suc, ◌<◌, ◌≤◌, true, false, cond, nat_le, List, [], ◌∷◌, length, get_or, drop, refl, sym, ◌∙◌, ap, subst, inl, inr, arith}
use Rattle.std.proofs.lemmas.Bool.{cases_lt}
use Rattle.std.proofs.lemmas.Bool.Decides.{nat_tests}
use Rattle.std.proofs.lemmas.Cmp.{ranked}
use Rattle.std.specs.List.{AllByRecursion, filter}
use Rattle.std.specs.Ordering.{MatchOrdering, nat_cmp, ordering_then}
use Rattle.std.specs.declared.cmp.Ordering.{Ordering}
use Rattle.std.specs.declared.cmp.Ordering.TheVariants.{Less, Equal, Greater}
use Rattle.rs_order.specs.Climbing.{Climbs, In, Precedes}
use Rattle.rs_order.proofs.ClimbingFacts.{AllByRecursion-In}
use Rattle.rs_order.proofs.ItemFacts.{filter-none}
use Rattle.rs_order.proofs.PartFacts.{In-drop}
use Rattle.rs_rank.specs.declared.key.Key.{Key}
use Rattle.rs_rank.specs.Keys.{IsBefore, ids_cmp, key_cmp}

-- a key that comes before another one has no lesser bound
pub bound-falls : (a b : Key) → IsBefore a b → b.bound ≤ a.bound
bound-falls a b before = go (nat_cmp b.bound a.bound) (ranked b.bound a.bound (nat_cmp b.bound a.bound) refl) refl
  where
    go : (o : Ordering) → MatchOrdering o (b.bound < a.bound) (b.bound ≡ a.bound) (a.bound < b.bound) → nat_cmp b.bound a.bound ≡ o → b.bound ≤ a.bound
    go Less h e = omega arith
    go Equal h e = omega arith
    go Greater h e = absurd (let late = sym (ap (λ o. ordering_then o (ids_cmp a.ids b.ids)) e) ∙ before in cc)

-- how many of the keys have this bound or a greater one
abbrev pub at_least : ℕ → List Key → ℕ
at_least bound keys = length (filter (λ (key : Key). nat_le bound key.bound) keys)

at_least-passes : (bound : ℕ) (key : Key) (keys : List Key) → bound ≤ key.bound → at_least bound (key ∷ keys) ≡ suc (at_least bound keys)
at_least-passes bound key keys le = ap (λ b. length (cond b (key ∷ filter (λ (k : Key). nat_le bound k.bound) keys) (filter (λ (k : Key). nat_le bound k.bound) keys))) (passes le)
  where
    passes : bound ≤ key.bound → nat_le bound key.bound ≡ true
    passes h = grind (arith, nat_tests)

at_least-fails : (bound : ℕ) (key : Key) (keys : List Key) → key.bound < bound → at_least bound (key ∷ keys) ≡ at_least bound keys
at_least-fails bound key keys less = ap (λ b. length (cond b (key ∷ filter (λ (k : Key). nat_le bound k.bound) keys) (filter (λ (k : Key). nat_le bound k.bound) keys))) (fails less)
  where
    fails : key.bound < bound → nat_le bound key.bound ≡ false
    fails h = grind (arith, nat_tests)

-- behind a key below the bound all are below it
below-behind : (bound : ℕ) (key : Key) (keys : List Key) → AllByRecursion (Precedes key_cmp (λ k. k) key) keys → key.bound < bound → (other : Key) → In other keys → other.bound < bound
below-behind bound key keys all less other h =
    let falls = bound-falls key other (AllByRecursion-In (Precedes key_cmp (λ (k : Key). k) key) keys all other h) in
    omega arith

none-behind : (bound : ℕ) (key : Key) (keys : List Key) → AllByRecursion (Precedes key_cmp (λ k. k) key) keys → key.bound < bound → at_least bound keys ≡ 0
none-behind bound key keys all less =
    ap length (filter-none (λ (k : Key). nat_le bound k.bound) keys (λ other h. fails other.bound (below-behind bound key keys all less other h)))
  where
    fails : (n : ℕ) → n < bound → nat_le bound n ≡ false
    fails n h = grind (arith, nat_tests)

pub at_least-most : (bound : ℕ) (keys : List Key) → at_least bound keys ≤ length keys
at_least-most bound [] = omega arith
at_least-most bound (key ∷ keys) =
    let most = at_least-most bound keys in
    elim (cases_lt key.bound bound) [
      | inl less ↦ let e = at_least-fails bound key keys less in omega arith
      | inr le ↦ let e = at_least-passes bound key keys le in omega arith
    ]

-- where the key at a place is below the bound, at most those in front of it aren't
pub at_least-below : (bound : ℕ) (keys : List Key) (i : ℕ) (d : Key) → Climbs key_cmp (λ k. k) keys → i < length keys → (get_or keys i d).bound < bound → at_least bound keys ≤ i
at_least-below bound [] i d climbs within less = omega arith
at_least-below bound (key ∷ keys) zero d climbs within less =
    let e = at_least-fails bound key keys less in
    let none = none-behind bound key keys climbs.0 less in
    omega arith
at_least-below bound (key ∷ keys) (suc i) d climbs within less =
    let most = at_least-below bound keys i d climbs.1 (omega arith) less in
    elim (cases_lt key.bound bound) [
      | inl fails ↦ let e = at_least-fails bound key keys fails in omega arith
      | inr passes ↦ let e = at_least-passes bound key keys passes in omega arith
    ]

-- where it isn't, neither are those in front of it
pub at_least-above : (bound : ℕ) (keys : List Key) (i : ℕ) (d : Key) → Climbs key_cmp (λ k. k) keys → i < length keys → bound ≤ (get_or keys i d).bound → suc i ≤ at_least bound keys
at_least-above bound [] i d climbs within le = absurd (omega arith)
at_least-above bound (key ∷ keys) zero d climbs within le = let e = at_least-passes bound key keys le in omega arith
at_least-above bound (key ∷ keys) (suc i) d climbs within le =
    let more = at_least-above bound keys i d climbs.1 (omega arith) le in
    elim (cases_lt key.bound bound) [
      | inl fails ↦ let none = none-behind bound key keys climbs.0 fails in absurd (omega arith)
      | inr passes ↦ let e = at_least-passes bound key keys passes in omega arith
    ]

-- behind as many keys as have the bound all are below it
pub below-rest : (bound : ℕ) (keys : List Key) (n : ℕ) → Climbs key_cmp (λ k. k) keys → at_least bound keys ≤ n → (other : Key) → In other (drop n keys) → other.bound < bound
below-rest bound [] zero climbs le other h = absurd h
below-rest bound [] (suc n) climbs le other h = absurd h
below-rest bound (key ∷ keys) zero climbs le other h =
    elim (cases_lt key.bound bound) [
      | inl fails ↦ elim h [ inl e ↦ subst (λ (k : Key). k.bound < bound) (sym e) fails | inr k ↦ below-behind bound key keys climbs.0 fails other k ]
      | inr passes ↦ let e = at_least-passes bound key keys passes in absurd (omega arith)
    ]
below-rest bound (key ∷ keys) (suc n) climbs le other h =
    elim (cases_lt key.bound bound) [
      | inl fails ↦ below-behind bound key keys climbs.0 fails other (In-drop n keys other h)
      | inr passes ↦ let e = at_least-passes bound key keys passes in below-rest bound keys n climbs.1 (omega arith) other h
    ]

-- How far the right side of INTERSECT and EXCEPT is past a bound.
use Rattle.std.proofs.Common.{◌≡◌, ℕ, zero, suc, ◌<◌, ◌≤◌, ◌||◌, true, false, nat_le, List, [], ◌∷◌, length, get_or, take, drop, refl, sym, ◌∙◌, ap, ap₂, subst, inl, inr, arith, ltb}
use Rattle.std.proofs.lemmas.Bool.{cases_lt}
use Rattle.std.proofs.lemmas.Bool.Decides.{nat_tests}
use Rattle.std.proofs.lemmas.List.{length-map}
use Rattle.std.proofs.lemmas.Option.{slice_get_cases}
use Rattle.std.specs.Option.{option_map}
use Rattle.rs_order.specs.Climbing.{Climbs, In}
use Rattle.rs_order.specs.Last.{last_of}
use Rattle.rs_order.proofs.ClimbingFacts.{Climbs-map}
use Rattle.rs_order.proofs.ItemFacts.{In-map}
use Rattle.rs_order.proofs.PartFacts.{last_of-take}
use Rattle.rs_rank.specs.declared.key.Key.{Key}
use Rattle.rs_rank.specs.Keys.{key_cmp}
use Rattle.rs_setop.specs.Reached.{is_below, is_past}
use Rattle.rs_outputs.specs.Rows.{OutputRow}
use Rattle.rs_setop.specs.Sides.{Sides, keys_of, row_key}
use Rattle.rs_setop.specs.Stands.{right_after}
use Rattle.rs_setop.proofs.BoundFacts.{at_least, at_least-above, at_least-below, at_least-most, below-rest}
use Rattle.rs_outputs.proofs.ListFacts.{below, not_below}

-- the key of a row at a place
keys-at : (s : Sides) (rows : List OutputRow) (i : ℕ) (d : OutputRow) → i < length rows → row_key s (get_or rows i d) ≡ get_or (keys_of s rows) i (row_key s d)
keys-at s [] i d within = refl
keys-at s (row ∷ rows) zero d within = refl
keys-at s (row ∷ rows) (suc i) d within = keys-at s rows i d (omega arith)

drop-keys : (s : Sides) (n : ℕ) (rows : List OutputRow) (row : OutputRow) → In row (drop n rows) → In (row_key s row) (drop n (keys_of s rows))
drop-keys s zero rows row h = In-map (row_key s) row rows h
drop-keys s (suc n) [] row h = absurd h
drop-keys s (suc n) (r ∷ rows) row h = drop-keys s n rows row h

-- the right side is past a bound exactly once it was asked as often as a row of this bound wants
module _ (s : Sides) (rights : List OutputRow) (climbs : Climbs key_cmp (row_key s) rights) (bound : ℕ) where
  abbrev wanted : ℕ
  wanted = suc (at_least bound (keys_of s rights))

  past-at : (i : ℕ) (d : OutputRow) → i < length rights → is_past (right_after s rights (suc i)) bound ≡ nat_le wanted (suc i)
  past-at i d within =
      let keys = Climbs-map key_cmp (λ (k : Key). k) (row_key s) rights climbs in
      let count = length-map rights (row_key s) in
      let last : is_past (right_after s rights (suc i)) bound ≡ ltb (row_key s (get_or rights i d)).bound bound =
      ap₂ (λ b o. b || is_below (option_map (λ row. (row_key s row).bound) o) bound) (not_below (length rights) (suc i) (omega arith)) (last_of-take i rights d within) in
      let at = keys-at s rights i d within in
      elim (cases_lt (row_key s (get_or rights i d)).bound bound) [
        | inl less ↦
            let few = at_least-below bound (keys_of s rights) i (row_key s d) keys (omega arith) (subst (λ (k : Key). k.bound < bound) at less) in
            last ∙ below (row_key s (get_or rights i d)).bound bound less ∙ sym (passes wanted (suc i) (omega arith))
        | inr le ↦
            let many = at_least-above bound (keys_of s rights) i (row_key s d) keys (omega arith) (subst (λ (k : Key). bound ≤ k.bound) at le) in
            last ∙ not_below (row_key s (get_or rights i d)).bound bound le ∙ sym (fails wanted (suc i) (omega arith))
      ]
    where
      passes : (a b : ℕ) → a ≤ b → nat_le a b ≡ true
      passes a b le = grind (arith, nat_tests)

      fails : (a b : ℕ) → b < a → nat_le a b ≡ false
      fails a b less = grind (arith, nat_tests)

  pub past-is : (asks : ℕ) → asks ≤ suc (length rights) → is_past (right_after s rights asks) bound ≡ nat_le wanted asks
  past-is zero most = ap (λ b. b || false) (not_below (length rights) 0 (omega arith)) ∙ sym (none wanted (omega arith))
    where
      none : (a : ℕ) → 1 ≤ a → nat_le a 0 ≡ false
      none a le = grind (arith, nat_tests)
  past-is (suc i) most =
      elim (slice_get_cases rights i).1 [
        | inl row ↦ past-at i row.0 row.1
        | inr none ↦
            let past : length rights ≤ i = none.0 in
            let few = at_least-most bound (keys_of s rights) in
            let count = length-map rights (row_key s) in
            ap (λ b. b || is_below (option_map (λ row. (row_key s row).bound) (last_of (take (suc i) rights))) bound) (below (length rights) (suc i) (omega arith))
            ∙ sym (passes wanted (suc i) (omega arith))
      ]
    where
      passes : (a b : ℕ) → a ≤ b → nat_le a b ≡ true
      passes a b le = grind (arith, nat_tests)

  -- then all rows still to come are below it
  pub rest-below : (asks : ℕ) → wanted ≤ asks → (row : OutputRow) → In row (drop asks rights) → (row_key s row).bound < bound
  rest-below asks le row h = below-rest bound (keys_of s rights) asks (Climbs-map key_cmp (λ (k : Key). k) (row_key s) rights climbs) (omega arith) (row_key s row) (drop-keys s asks rights row h)

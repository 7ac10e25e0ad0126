-- What is shown later comes behind what was shown before, and takes as many look-ups at least.
use Rattle.std.proofs.Common.{◌≡◌, ℕ, zero, suc, ◌+◌, ◌≤◌, ◌++◌, List, [], ◌∷◌, length, take, drop, refl, sym, ◌∙◌, ap, subst, inl, inr, arith, length-append}
use Rattle.std.proofs.lemmas.Bool.{cases_lt}
use Rattle.std.proofs.lemmas.List.{append-nil, append_assoc, take-append-drop}
use Rattle.std.proofs.lemmas.List.Concat.{flat_map-append}
use Rattle.std.proofs.lemmas.List.Elements.{filter-append}
use Rattle.std.specs.Prelude.{Option, Some, None, IfSome, Result, Ok, Err, OnErr}
use Rattle.std.specs.List.{filter, flat_map}
use Rattle.rs_rank.specs.declared.scored_row.ScoredRow.{ScoredRow}
use Rattle.rs_ta.specs.Depths.{ScanInput, Sight, depth, first_sights, looked_up, lookups, lookups_of, sights, sights_from}
use Rattle.rs_ta.specs.Lists.{AreRanked, ListsState}
use Rattle.rs_ta.specs.declared.lists.Lookup.{Lookup}
use Rattle.rs_ta.specs.Rounds.{shown_by}
use Rattle.rs_ta.specs.Scans.{AreAccessed, AreAccessedWithin, AreLookedUp, AreLookedUpWithin, Begins, HaveWeights, IsEntry}
use Rattle.rs_ta.proofs.DepthFacts.{depth-more}
use Rattle.rs_ta.proofs.SightFacts.{is_elsewhere, is_other}

-- what holds in any case holds of an error
pub on_err_from : {A E P : Type 0} (r : Result A E) → P → OnErr r P
on_err_from (Ok value) p = tt
on_err_from (Err error) p = p

pub begins-itself : {A : Type 0} (some : List A) → Begins some some
begins-itself some = record { rest = []; is = sym (append-nil some) }

pub begins-on : {A : Type 0} (some more all : List A) → Begins some more → Begins more all → Begins some all
begins-on some more all first then = record {
  rest = first.rest ++ then.rest;
  is = then.is ∙ ap (λ xs. xs ++ then.rest) first.is ∙ append_assoc some first.rest then.rest;
}

-- so do the first sights of each row
first-append : (some rest : List Sight) → Begins (first_sights some) (first_sights (some ++ rest))
first-append [] rest = record { rest = first_sights rest; is = refl }
first-append (sight ∷ some) rest =
    let tail = first-append some rest in record {
      rest = filter (is_other sight.row) tail.rest;
      is = ap (λ all. sight ∷ filter (is_other sight.row) all) tail.is
          ∙ ap (λ all. sight ∷ all) (filter-append (is_other sight.row) (first_sights some) tail.rest);
    }

pub first-extends : (some all : List Sight) → Begins some all → Begins (first_sights some) (first_sights all)
first-extends some all more = subst (λ xs. Begins (first_sights some) (first_sights xs)) (sym more.is) (first-append some more.rest)

-- more sights take as many look-ups at least
pub lookups-extends : (some all : List Sight) → Begins some all → (list : ℕ) → lookups some list ≤ lookups all list
lookups-extends some all more list =
    let first = first-extends some all more in
    let parts : lookups all list ≡ lookups some list + length (filter (is_elsewhere list) first.rest) =
    ap (λ xs. length (filter (is_elsewhere list) xs)) first.is
    ∙ ap length (filter-append (is_elsewhere list) (first_sights some) first.rest)
    ∙ length-append (filter (is_elsewhere list) (first_sights some)) (filter (is_elsewhere list) first.rest) in
    omega arith

pub looked_up-extends : (lists : ℕ) (some all : List Sight) → Begins some all → Begins (looked_up lists some) (looked_up lists all)
looked_up-extends lists some all more =
    let first = first-extends some all more in record {
      rest = flat_map (lookups_of lists) first.rest;
      is = ap (flat_map (lookups_of lists)) first.is ∙ flat_map-append (lookups_of lists) (first_sights some) first.rest;
    }

-- what more places show
pub sights-extends : (lists : List (List ScoredRow)) (least most : ℕ) → least ≤ most → Begins (sights lists least) (sights lists most)
sights-extends lists least zero within =
    let none : least ≡ zero = omega arith in
    subst (λ n. Begins (sights lists n) []) (sym none) (begins-itself [])
sights-extends lists least (suc most) within = elim (cases_lt most least) [
  | inl less ↦
      let same : least ≡ suc most = omega arith in
      subst (λ n. Begins (sights lists n) (sights lists (suc most))) (sym same) (begins-itself (sights lists (suc most)))
  | inr more ↦
      begins-on (sights lists least) (sights lists most) (sights lists (suc most))
      (sights-extends lists least most (omega arith)) (record { rest = sights_from most 1 lists; is = refl })
]

-- what some lists show in a round, behind the rounds before and within the whole of it
pub before-extends : (lists : List (List ScoredRow)) (rounds count : ℕ) → Begins (sights lists rounds) (shown_by lists rounds count)
before-extends lists rounds count = record { rest = take count (sights_from rounds 1 lists); is = refl }

pub round-extends : (lists : List (List ScoredRow)) (rounds count : ℕ) → Begins (shown_by lists rounds count) (sights lists (suc rounds))
round-extends lists rounds count = record {
  rest = drop count (sights_from rounds 1 lists);
  is = ap (λ part. sights lists rounds ++ part) (sym (take-append-drop count (sights_from rounds 1 lists)))
      ∙ sym (append_assoc (sights lists rounds) (take count (sights_from rounds 1 lists)) (drop count (sights_from rounds 1 lists)));
}

module _ (i : ScanInput) (state : ListsState) where
  -- what was looked up exactly, between what fewer and what more sights take
  pub within-exact : (least shown most : List Sight) → Begins least shown → Begins shown most → AreLookedUp i state shown → AreLookedUpWithin i state least most
  within-exact least shown most first then looked = record {
    counts = λ list is.
        let at = looked.counts list is in
        let low = lookups-extends least shown first list in
        let high = lookups-extends shown most then list in (omega arith, omega arith);
    told = between state.told looked.told;
  }
    where
      between : (told : Option (List Lookup)) → IfSome told (λ told. told ≡ looked_up (length i.lists) shown) →
          IfSome told (λ told. Begins (looked_up (length i.lists) least) told × Begins told (looked_up (length i.lists) most))
      between None is = is
      between (Some told) is = (
        subst (λ made. Begins (looked_up (length i.lists) least) made) (sym is) (looked_up-extends (length i.lists) least shown first),
        subst (λ made. Begins made (looked_up (length i.lists) most)) (sym is) (looked_up-extends (length i.lists) shown most then),
      )

  pub within-wider : (least few many most : List Sight) → Begins least few → Begins many most → AreLookedUpWithin i state few many → AreLookedUpWithin i state least most
  within-wider least few many most first then looked = record {
    counts = λ list is.
        let at = looked.counts list is in
        let at_least = at.0 in
        let at_most = at.1 in
        let low = lookups-extends least few first list in
        let high = lookups-extends many most then list in (omega arith, omega arith);
    told = wider state.told looked.told;
  }
    where
      wider : (told : Option (List Lookup)) → IfSome told (λ told. Begins (looked_up (length i.lists) few) told × Begins told (looked_up (length i.lists) many)) →
          IfSome told (λ told. Begins (looked_up (length i.lists) least) told × Begins told (looked_up (length i.lists) most))
      wider None is = is
      wider (Some told) is = (
        begins-on (looked_up (length i.lists) least) (looked_up (length i.lists) few) told (looked_up-extends (length i.lists) least few first) is.0,
        begins-on told (looked_up (length i.lists) many) (looked_up (length i.lists) most) is.1 (looked_up-extends (length i.lists) many most then),
      )

  -- the same for whole places
  pub accessed-wider : (least few many most : ℕ) → least ≤ few → many ≤ most → AreAccessedWithin i few many state → AreAccessedWithin i least most state
  accessed-wider least few many most low high at = record {
    sorted = λ list is.
        let places = at.sorted list is in
        let at_least = places.0 in
        let at_most = places.1 in (omega arith, omega arith);
    random = within-wider (sights i.lists least) (sights i.lists few) (sights i.lists many) (sights i.lists most)
        (sights-extends i.lists least few low) (sights-extends i.lists many most high) at.random;
  }

  -- exactly the accesses of some asks, between fewer and more places
  pub within-asks : (asks least most : ℕ) → AreAccessed i asks state → least ≤ depth i asks → depth i asks ≤ most → AreAccessedWithin i least most state
  within-asks asks least most at low high = record {
    sorted = λ list is. let places = at.sorted list is in (omega arith, omega arith);
    random = within-exact (sights i.lists least) (sights i.lists (depth i asks)) (sights i.lists most)
        (sights-extends i.lists least (depth i asks) low) (sights-extends i.lists (depth i asks) most high) at.random;
  }

-- more asks take as many places at least
pub depth-rise : (i : ScanInput) → IsEntry i.entry → AreRanked i.lists → HaveWeights i → (least most : ℕ) → least ≤ most → depth i least ≤ depth i most
depth-rise i entry ranked have least zero within =
    let none : least ≡ zero = omega arith in
    subst (λ n. depth i n ≤ depth i zero) (sym none) (omega arith)
depth-rise i entry ranked have least (suc most) within = elim (cases_lt most least) [
  | inl less ↦
      let same : least ≡ suc most = omega arith in
      subst (λ n. depth i n ≤ depth i (suc most)) (sym same) (omega arith)
  | inr more ↦
      let before = depth-rise i entry ranked have least most (omega arith) in
      let step = depth-more i entry ranked have most in
      omega arith
]

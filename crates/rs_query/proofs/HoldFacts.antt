-- Which conjuncts hold, one at a time.
use Rattle.std.proofs.Common.{ℕ, zero, suc, ◌≡◌, ◌∙◌, ◌+◌, ◌/◌, ◌%◌, ◌^◌, ◌<◌, ◌&&◌, Bool, true, false, cond, eqb, List, [], ◌∷◌, Some, length, drop, get_or, sym, ap, subst, arith}
use Rattle.std.specs.Prelude.{slice_get}
use Rattle.std.proofs.lemmas.List.{drop_more}
use Rattle.std.proofs.Math.Nat.{div-one}
use Rattle.rs_rank.proofs.MaskFacts.{half-before, half-behind}
use Rattle.rs_catalog.specs.Catalog.{CatalogDef}
use Rattle.rs_query.specs.declared.block.Block.{Block}
use Rattle.rs_query.specs.Conjuncts.{ConjunctDef}
use Rattle.rs_query.specs.Meaning.{AreInside, all_hold, conjunct_holds, is_inside}

-- the entries of a conjunct that is in a mask of conjuncts
pub AreInside-at : (conjuncts mask : ℕ) (all : List ConjunctDef) (i : ℕ) (conjunct : ConjunctDef) → AreInside conjuncts mask all → slice_get all i ≡ Some conjunct
    → conjuncts / 2 ^ i % 2 ≡ 1 → is_inside conjunct.entries mask ≡ true
AreInside-at conjuncts mask [] i conjunct inside at bit = cc
AreInside-at conjuncts mask (first ∷ all) zero conjunct inside at bit =
    let same : first ≡ conjunct = cc in
    subst (λ (c : ConjunctDef). is_inside c.entries mask ≡ true) same (inside.0 (rw (div-one conjuncts) at bit))
AreInside-at conjuncts mask (first ∷ all) (suc i) conjunct inside at bit =
    AreInside-at (conjuncts / 2) mask all i conjunct inside.1 at (rw (half-before conjuncts i) at bit)

module _ (catalogue : CatalogDef) (block : Block) (rows : List ℕ) where
  -- the conjuncts from a place on
  abbrev pub hold_from : ℕ → List ConjunctDef → ℕ → Bool
  hold_from conjuncts all i = all_hold catalogue block (conjuncts / 2 ^ i) rows (drop i all)

  hold_from-step : (conjuncts : ℕ) (all : List ConjunctDef) (i : ℕ) (conjunct : ConjunctDef) → i < length all → conjunct ≡ get_or all i conjunct
      → hold_from conjuncts all i ≡ ((cond (eqb (conjuncts / 2 ^ i % 2) 1) (conjunct_holds catalogue block rows conjunct) true) && hold_from conjuncts all (i + 1))
  hold_from-step conjuncts all i conjunct within is =
      ap (all_hold catalogue block (conjuncts / 2 ^ i) rows) (drop_more all i conjunct within ∙ ap (λ c. c ∷ drop (i + 1) all) (sym is))
      ∙ ap (λ n. (cond (eqb (conjuncts / 2 ^ i % 2) 1) (conjunct_holds catalogue block rows conjunct) true) && all_hold catalogue block n rows (drop (i + 1) all))
      (sym (half-behind conjuncts i) ∙ ap (λ n. conjuncts / 2 ^ n) (let one : suc i ≡ i + 1 = omega arith in one))

  -- a conjunct that isn't in the mask, or holds, leaves those behind it
  pub hold_from-out : (conjuncts : ℕ) (all : List ConjunctDef) (i : ℕ) (conjunct : ConjunctDef) → i < length all → conjunct ≡ get_or all i conjunct
      → eqb (conjuncts / 2 ^ i % 2) 1 ≡ false → hold_from conjuncts all i ≡ hold_from conjuncts all (i + 1)
  hold_from-out conjuncts all i conjunct within is out =
      hold_from-step conjuncts all i conjunct within is
      ∙ ap (λ b. (cond b (conjunct_holds catalogue block rows conjunct) true) && hold_from conjuncts all (i + 1)) out

  pub hold_from-more : (conjuncts : ℕ) (all : List ConjunctDef) (i : ℕ) (conjunct : ConjunctDef) → i < length all → conjunct ≡ get_or all i conjunct
      → eqb (conjuncts / 2 ^ i % 2) 1 ≡ true → conjunct_holds catalogue block rows conjunct ≡ true → hold_from conjuncts all i ≡ hold_from conjuncts all (i + 1)
  hold_from-more conjuncts all i conjunct within is in_ holds =
      hold_from-step conjuncts all i conjunct within is
      ∙ ap (λ b. (cond b (conjunct_holds catalogue block rows conjunct) true) && hold_from conjuncts all (i + 1)) in_
      ∙ ap (λ b. b && hold_from conjuncts all (i + 1)) holds

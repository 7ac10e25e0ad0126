-- Which conjuncts hold of rows, found by the places of the rows in their samples.
use Rattle.std.proofs.Common.{ℕ, zero, suc, ◌≡◌, ◌∙◌, ◌+◌, ◌^◌, ◌<◌, ◌&&◌, Bool, true, false, cond, List, [], ◌∷◌, Some, length, map, get_or, take, refl, sym, ap, subst, arith}
use Rattle.std.specs.List.{list_all}
use Rattle.std.specs.Prelude.{slice_get}
use Rattle.std.proofs.lemmas.List.{length-map}
use Rattle.rs_order.specs.Climbing.{In}
use Rattle.rs_rank.proofs.MaskFacts.{even-power, half-power}
use Rattle.rs_rank.specs.Ids.{rows_inside}
use Rattle.rs_catalog.specs.Catalog.{CatalogDef}
use Rattle.rs_query.specs.Combinations.{holds_inside}
use Rattle.rs_query.specs.Conjuncts.{ConjunctDef}
use Rattle.rs_query.specs.Meaning.{AreInside, all_hold, conjunct_holds, is_inside}
use Rattle.rs_query.specs.WellFormed.{IsConjunct}
use Rattle.rs_query.specs.declared.block.Block.{Block}
use Rattle.rs_query.proofs.LocalFacts.{conjunct_holds-local}
use Rattle.rs_sample.specs.Choosing.{sampled_choices}
use Rattle.rs_sample.specs.Finding.{choice_place, places_in, truths_by_conjunct}
use Rattle.rs_sample.proofs.FindFacts.{cut-agrees}
use Rattle.rs_sample.proofs.ListFacts.{slice-map}
use Rattle.rs_sample.proofs.MemberFacts.{inside-itself}
use Rattle.rs_sample.proofs.PlaceFacts.{found-at}

and-true : (b : Bool) → (b && true) ≡ b
and-true true = refl
and-true false = refl

-- no conjunct is in the mask of none
inside-none : (mask : ℕ) (all : List ConjunctDef) → AreInside 0 mask all
inside-none mask [] = tt
inside-none mask (first ∷ all) = (λ odd. absurd (omega arith), inside-none mask all)

-- the entries of a conjunct that is alone in a mask of conjuncts
pub one-inside : (all : List ConjunctDef) (i : ℕ) (conjunct : ConjunctDef) → slice_get all i ≡ Some conjunct → AreInside (2 ^ i) conjunct.entries all
one-inside [] i conjunct at = absurd (cc)
one-inside (first ∷ all) zero conjunct at =
    let same : first ≡ conjunct = cc in
    (λ odd. subst (λ (c : ConjunctDef). is_inside first.entries c.entries ≡ true) same (inside-itself first.entries), inside-none conjunct.entries all)
one-inside (first ∷ all) (suc i) conjunct at = (
  λ odd. absurd (let even = even-power i in omega arith),
  subst (λ n. AreInside n conjunct.entries all) (sym (half-power i)) (one-inside all i conjunct at),
)

module _ (catalogue : CatalogDef) (block : Block) where
  hold-none : (rows : List ℕ) (all : List ConjunctDef) → all_hold catalogue block 0 rows all ≡ true
  hold-none rows [] = refl
  hold-none rows (first ∷ all) = hold-none rows all

  -- where one conjunct alone is looked at
  pub one-holds : (rows : List ℕ) (all : List ConjunctDef) (i : ℕ) (conjunct : ConjunctDef) → slice_get all i ≡ Some conjunct
      → all_hold catalogue block (2 ^ i) rows all ≡ conjunct_holds catalogue block rows conjunct
  one-holds rows [] i conjunct at = absurd (cc)
  one-holds rows (first ∷ all) zero conjunct at =
      let same : first ≡ conjunct = cc in
      ap (λ b. conjunct_holds catalogue block rows first && b) (hold-none rows all)
      ∙ and-true (conjunct_holds catalogue block rows first)
      ∙ ap (conjunct_holds catalogue block rows) same
  one-holds rows (first ∷ all) (suc i) conjunct at =
      rw (even-power i, half-power i) (one-holds rows all i conjunct at)

  pub truths-length : (samples : List (List ℕ)) → length (truths_by_conjunct catalogue block samples) ≡ length block.conjuncts
  truths-length samples = length-map block.conjuncts (λ (c : ConjunctDef). map (λ rows. conjunct_holds catalogue block rows c) (sampled_choices c.entries samples))

  -- a truth is that of the rows of the conjunct's entries
  truth-cut : (rows : List ℕ) (conjunct : ConjunctDef) → IsConjunct catalogue block conjunct
      → conjunct_holds catalogue block (rows_inside conjunct.entries rows) conjunct ≡ conjunct_holds catalogue block rows conjunct
  truth-cut rows conjunct is =
      sym (conjunct_holds-local catalogue block conjunct.entries rows (rows_inside conjunct.entries rows) (cut-agrees conjunct.entries rows) conjunct is
      (inside-itself conjunct.entries))

  -- what is found for rows of the entries in a mask
  pub found-truth : (samples : List (List ℕ)) (all : List (List Bool)) (mask i : ℕ) (rows : List ℕ) (truths : List Bool) (conjunct : ConjunctDef)
      → IsConjunct catalogue block conjunct → all ≡ truths_by_conjunct catalogue block samples → slice_get all i ≡ Some truths → slice_get block.conjuncts i ≡ Some conjunct
      → In rows (sampled_choices mask samples)
      → cond (is_inside conjunct.entries mask) (get_or truths (choice_place conjunct.entries (map length samples) (places_in samples rows)) false) true ≡ holds_inside catalogue block mask rows conjunct
  found-truth samples all mask i rows truths conjunct formed are here is h = go (is_inside conjunct.entries mask) refl where
    truths-are : Some truths ≡ Some (map (λ rs. conjunct_holds catalogue block rs conjunct) (sampled_choices conjunct.entries samples))
    truths-are = sym here ∙ ap (λ lists. slice_get lists i) are
        ∙ slice-map (λ (c : ConjunctDef). map (λ rs. conjunct_holds catalogue block rs c) (sampled_choices c.entries samples)) block.conjuncts i conjunct is

    go : (b : Bool) → is_inside conjunct.entries mask ≡ b
        → cond b (get_or truths (choice_place conjunct.entries (map length samples) (places_in samples rows)) false) true ≡ cond b (conjunct_holds catalogue block rows conjunct) true
    go true inside =
        let same : truths ≡ map (λ rs. conjunct_holds catalogue block rs conjunct) (sampled_choices conjunct.entries samples) = (let both = truths-are in cc) in
        ap (λ ts. get_or ts (choice_place conjunct.entries (map length samples) (places_in samples rows)) false) same
        ∙ found-at false (λ rs. conjunct_holds catalogue block rs conjunct) conjunct.entries mask samples rows inside h
        ∙ truth-cut rows conjunct formed
    go false outside = refl

-- one item more passes a test
pub list_all-more : {X : Type 0} (p : X → Bool) (xs : List X) (i : ℕ) (x : X) → i < length xs → x ≡ get_or xs i x → list_all p (take i xs) ≡ true → p x ≡ true
    → list_all p (take (i + 1) xs) ≡ true
list_all-more p [] i x within is holds one = absurd (omega arith)
list_all-more p (y ∷ xs) zero x within is holds one = ap (λ b. b && true) (ap p (sym is) ∙ one)
list_all-more p (y ∷ xs) (suc i) x within is holds one =
    ap (λ n. list_all p (take n (y ∷ xs))) (let same : suc i + 1 ≡ suc (i + 1) = omega arith in same)
    ∙ go (p y) refl holds (λ rest. list_all-more p xs i x (omega arith) is rest one) where
      go : (b : Bool) → p y ≡ b → (b && list_all p (take i xs)) ≡ true → (list_all p (take i xs) ≡ true → list_all p (take (i + 1) xs) ≡ true)
          → (p y && list_all p (take (i + 1) xs)) ≡ true
      go true e rest more = ap (λ b. b && list_all p (take (i + 1) xs)) e ∙ more rest
      go false e rest more = absurd (let both : false ≡ true = rest in cc)

-- an item that fails it
pub list_all-fails : {X : Type 0} (p : X → Bool) (xs : List X) (i : ℕ) (x : X) → i < length xs → x ≡ get_or xs i x → p x ≡ false → list_all p xs ≡ false
list_all-fails p [] i x within is fails = absurd (omega arith)
list_all-fails p (y ∷ xs) zero x within is fails = ap (λ b. b && list_all p xs) (ap p (sym is) ∙ fails)
list_all-fails p (y ∷ xs) (suc i) x within is fails =
    ap (λ b. p y && b) (list_all-fails p xs i x (omega arith) is fails) ∙ go (p y) where
      go : (b : Bool) → (b && false) ≡ false
      go true = refl
      go false = refl

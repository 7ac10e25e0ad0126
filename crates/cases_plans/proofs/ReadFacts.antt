-- Which terms read entries in a mask alone, one term after another.
use Rattle.std.proofs.Common.{ℕ, suc, ◌≡◌, ◌∙◌, ◌+◌, ◌/◌, ◌%◌, ◌^◌, ◌<◌, ◌≤◌, true, List, [], ◌∷◌, length, map, drop, get_or, refl, sym, ap, subst, arith}
use Rattle.std.specs.Option.{option_map}
use Rattle.std.specs.Prelude.{Some, slice_get}
use Rattle.std.proofs.lemmas.Option.{slice_get-map, slice_get_read}
use Rattle.std.proofs.lemmas.List.{drop_all, drop_more, get_or-map, length-map}
use Rattle.std.proofs.Math.Nat.{div-one}
use Rattle.rs_rank.proofs.MaskFacts.{half-behind}
use Rattle.rs_query.specs.Meaning.{is_inside}
use Rattle.rs_query.specs.declared.term.Term.{Term}
use Rattle.rs_sample.specs.Cards.{AreRead}

-- the entries of terms
abbrev pub reads_of : List Term → List ℕ
reads_of terms = map (λ (t : Term). t.entries) terms

-- those of the term at a place
pub read-at : (terms : List Term) (place : ℕ) (term : Term) → place < length terms → term ≡ get_or terms place term → slice_get (reads_of terms) place ≡ Some term.entries
read-at terms place term within is =
    slice_get-map (λ (t : Term). t.entries) terms place ∙ ap (option_map (λ (t : Term). t.entries)) (slice_get_read terms _ place term refl within is)

module _ (terms mask : ℕ) (all : List Term) where
  -- those from a place on
  abbrev pub ReadFrom : ℕ → Type 0
  ReadFrom place = AreRead (terms / 2 ^ place) mask (drop place (reads_of all))

  pub ReadFrom-all : ReadFrom 0 → AreRead terms mask (reads_of all)
  ReadFrom-all read = subst (λ n. AreRead n mask (reads_of all)) (div-one terms) read

  pub ReadFrom-end : (place : ℕ) → length all ≤ place → ReadFrom place
  ReadFrom-end place end =
      subst (AreRead (terms / 2 ^ place) mask) (sym (drop_all place (reads_of all) (let long = length-map all (λ (t : Term). t.entries) in omega arith))) tt

  pub ReadFrom-more : (place : ℕ) (term : Term) → place < length all → term ≡ get_or all place term
      → (terms / 2 ^ place % 2 ≡ 1 → is_inside term.entries mask ≡ true) → ReadFrom (place + 1) → ReadFrom place
  ReadFrom-more place term within is inside behind =
      let long = length-map all (λ (t : Term). t.entries) in
      let there : place < length (reads_of all) = omega arith in
      let here : get_or (reads_of all) place term.entries ≡ term.entries =
      get_or-map (λ (t : Term). t.entries) all place term term.entries within ∙ ap (λ (t : Term). t.entries) (sym is) in
      let split = drop_more (reads_of all) place term.entries there ∙ ap (λ read. read ∷ drop (place + 1) (reads_of all)) here in
      let half : terms / 2 ^ (place + 1) ≡ terms / 2 ^ place / 2 = ap (λ n. terms / 2 ^ n) (let one : place + 1 ≡ suc place = omega arith in one) ∙ half-behind terms place in
      subst (AreRead (terms / 2 ^ place) mask) (sym split) (inside, subst (λ n. AreRead n mask (drop (place + 1) (reads_of all))) half behind)

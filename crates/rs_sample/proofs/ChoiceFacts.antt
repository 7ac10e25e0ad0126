-- Choices among sampled rows, found from the last entry on.
use Rattle.std.proofs.Common.{ℕ, zero, suc, ◌≡◌, ◌∙◌, ◌+◌, ◌/◌, ◌%◌, ◌^◌, ◌<◌, cond, eqb, List, [], ◌∷◌, ◌++◌, length, map, drop, get_or, replicate, set, refl, sym, ap, append-nil, arith}
use Rattle.std.specs.List.{flat_map}
use Rattle.std.proofs.lemmas.Bool.{eq-eqb, ne_eqb}
use Rattle.std.proofs.lemmas.List.{drop_more, map-append}
use Rattle.std.proofs.Math.Nat.{div-one}
use Rattle.rs_rank.proofs.MaskFacts.{half-behind}
use Rattle.rs_sample.specs.Choosing.{sampled_choices}

-- choices of later entries, with 0 at this many entries in front
abbrev pub behind : ℕ → List ℕ → List ℕ
behind n rows = replicate n 0 ++ rows

-- a row at the last of these entries
set-behind : (place row : ℕ) (rows : List ℕ) → set (behind (suc place) rows) place row ≡ behind place (row ∷ rows)
set-behind zero row rows = refl
set-behind (suc place) row rows = ap (λ all. 0 ∷ all) (set-behind place row rows)

each-behind : (place row : ℕ) (choices : List (List ℕ)) → map (λ rows. set rows place row) (map (behind (suc place)) choices) ≡ map (behind place) (map (λ rows. row ∷ rows) choices)
each-behind place row [] = refl
each-behind place row (rows ∷ choices) = ap (λ first. first ∷ map (λ rows. set rows place row) (map (behind (suc place)) choices)) (set-behind place row rows)
    ∙ ap (λ rest. behind place (row ∷ rows) ∷ rest) (each-behind place row choices)

-- the same for each of some rows
rows-behind : (place : ℕ) (choices : List (List ℕ)) (sample : List ℕ)
    → flat_map (λ row. map (λ rows. set rows place row) (map (behind (suc place)) choices)) sample ≡ map (behind place) (flat_map (λ row. map (λ rows. row ∷ rows) choices) sample)
rows-behind place choices [] = refl
rows-behind place choices (row ∷ sample) =
    ap (λ first. first ++ flat_map (λ row. map (λ rows. set rows place row) (map (behind (suc place)) choices)) sample) (each-behind place row choices)
    ∙ ap (λ rest. map (behind place) (map (λ rows. row ∷ rows) choices) ++ rest) (rows-behind place choices sample)
    ∙ sym (map-append (behind place) (map (λ rows. row ∷ rows) choices) (flat_map (λ row. map (λ rows. row ∷ rows) choices) sample))

-- no row, where the entry isn't in the mask
none-behind : (place : ℕ) (choices : List (List ℕ)) → map (behind (suc place)) choices ≡ map (behind place) (flat_map (λ row. map (λ rows. row ∷ rows) choices) (0 ∷ []))
none-behind place choices = go choices ∙ ap (map (behind place)) (sym (append-nil (map (λ rows. 0 ∷ rows) choices))) where
  shifted : (n : ℕ) (rows : List ℕ) → behind (suc n) rows ≡ behind n (0 ∷ rows)
  shifted zero rows = refl
  shifted (suc n) rows = ap (λ all. 0 ∷ all) (shifted n rows)

  go : (cs : List (List ℕ)) → map (behind (suc place)) cs ≡ map (behind place) (map (λ rows. 0 ∷ rows) cs)
  go [] = refl
  go (rows ∷ cs) = ap (λ first. first ∷ map (behind (suc place)) cs) (shifted place rows) ∙ ap (λ rest. behind place (0 ∷ rows) ∷ rest) (go cs)

pub map-same : (cs : List (List ℕ)) → map (behind 0) cs ≡ cs
map-same [] = refl
map-same (c ∷ cs) = ap (λ rest. c ∷ rest) (map-same cs)

module _ (mask : ℕ) (samples : List (List ℕ)) where
  -- the choices of the entries from a place on, with 0 in front
  abbrev pub choices_from : ℕ → List (List ℕ)
  choices_from place = map (behind place) (sampled_choices (mask / 2 ^ place) (drop place samples))

  -- the choices from a place on, by those behind it
  from-step : (place : ℕ) (sample : List ℕ) → place < length samples → sample ≡ get_or samples place sample
      → choices_from place ≡ map (behind place)
      (flat_map (λ row. map (λ rows. row ∷ rows) (sampled_choices (mask / 2 ^ suc place) (drop (place + 1) samples))) (cond (eqb (mask / 2 ^ place % 2) 0) (0 ∷ []) sample))
  from-step place sample within is =
      ap (λ all. map (behind place) (sampled_choices (mask / 2 ^ place) all)) (drop_more samples place sample within ∙ ap (λ s. s ∷ drop (place + 1) samples) (sym is))
      ∙ ap (λ n. map (behind place)
      (flat_map (λ row. map (λ rows. row ∷ rows) (sampled_choices n (drop (place + 1) samples))) (cond (eqb (mask / 2 ^ place % 2) 0) (0 ∷ []) sample))) (sym (half-behind mask place))

  -- the entry is in the mask
  pub choices_from-each : (place : ℕ) (sample : List ℕ) (choices : List (List ℕ)) → place < length samples → sample ≡ get_or samples place sample → mask / 2 ^ place % 2 ≡ 1
      → choices ≡ choices_from (suc place) → flat_map (λ row. map (λ rows. set rows place row) choices) sample ≡ choices_from place
  choices_from-each place sample choices within is bit e =
      let later = sampled_choices (mask / 2 ^ suc place) (drop (place + 1) samples) in
      ap (λ cs. flat_map (λ row. map (λ rows. set rows place row) cs) sample) (e ∙ ap (λ n. map (behind (suc place)) (sampled_choices (mask / 2 ^ suc place) (drop n samples))) (let one : suc place ≡ place + 1 = omega arith in one))
      ∙ rows-behind place later sample
      ∙ ap (λ b. map (behind place) (flat_map (λ row. map (λ rows. row ∷ rows) later) (cond b (0 ∷ []) sample))) (sym (ne_eqb (mask / 2 ^ place % 2) 0 (λ none. omega arith)))
      ∙ sym (from-step place sample within is)

  -- it isn't
  pub choices_from-none : (place : ℕ) (sample : List ℕ) (choices : List (List ℕ)) → place < length samples → sample ≡ get_or samples place sample → mask / 2 ^ place % 2 ≡ 0
      → choices ≡ choices_from (suc place) → choices ≡ choices_from place
  choices_from-none place sample choices within is bit e =
      let later = sampled_choices (mask / 2 ^ suc place) (drop (place + 1) samples) in
      e ∙ ap (λ n. map (behind (suc place)) (sampled_choices (mask / 2 ^ suc place) (drop n samples))) (let one : suc place ≡ place + 1 = omega arith in one)
      ∙ none-behind place later
      ∙ ap (λ b. map (behind place) (flat_map (λ row. map (λ rows. row ∷ rows) later) (cond b (0 ∷ []) sample))) (sym (eq-eqb (mask / 2 ^ place % 2) 0 bit))
      ∙ sym (from-step place sample within is)

  -- from the first entry on they are all
  pub choices_from-first : choices_from 0 ≡ sampled_choices mask samples
  choices_from-first = map-same (sampled_choices (mask / 2 ^ 0) samples) ∙ ap (λ n. sampled_choices n samples) (div-one mask)

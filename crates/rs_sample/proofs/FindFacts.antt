-- Worths that are found by the places of rows in their samples.
use Rattle.std.proofs.Common.{ℕ, zero, suc, ◌≡◌, ◌∙◌, ◌-◌, ◌/◌, ◌%◌, ◌^◌, Bool, true, false, cond, eqb, List, [], ◌∷◌, Some, length, map, get_or, refl, sym, ap}
use Rattle.std.specs.Prelude.{slice_get, unwrap_or}
use Rattle.std.proofs.lemmas.Bool.{eqb-true}
use Rattle.std.proofs.Math.Nat.{div-one}
use Rattle.rs_order.specs.Climbing.{In}
use Rattle.rs_rank.specs.Ids.{rows_inside}
use Rattle.rs_rank.proofs.MaskFacts.{half-before}
use Rattle.rs_expr.specs.Scoring.{Answering}
use Rattle.rs_catalog.specs.Catalog.{CatalogDef}
use Rattle.rs_query.specs.Answers.{clamped, predicate_at, worth_of}
use Rattle.rs_query.specs.Choices.{AgreeOn}
use Rattle.rs_query.specs.Meaning.{is_inside}
use Rattle.rs_query.specs.WellFormed.{IsTerm}
use Rattle.rs_query.specs.declared.block.Block.{Block}
use Rattle.rs_query.specs.declared.term.Term.{Term}
use Rattle.rs_query.proofs.LocalFacts.{argument_values-local}
use Rattle.rs_sample.specs.Choosing.{sampled_choices}
use Rattle.rs_sample.specs.Finding.{choice_place, known_worth, places_in}
use Rattle.rs_sample.specs.Sampling.{worths_by_term}
use Rattle.rs_sample.proofs.ListFacts.{slice-map}
use Rattle.rs_sample.proofs.MemberFacts.{inside-itself}
use Rattle.rs_sample.proofs.PlaceFacts.{found-at}

-- the row at a place of those that are cut to the entries in a mask
cut-row : (entries i : ℕ) (rows : List ℕ) → entries / 2 ^ i % 2 ≡ 1 → unwrap_or (slice_get rows i) 0 ≡ unwrap_or (slice_get (rows_inside entries rows) i) 0
cut-row entries i [] bit = refl
cut-row entries zero (row ∷ rows) bit =
    let odd : entries % 2 ≡ 1 = ap (λ n. n % 2) (sym (div-one entries)) ∙ bit in
    ap (λ n. cond (eqb n 0) 0 row) (sym odd)
cut-row entries (suc i) (row ∷ rows) bit = cut-row (entries / 2) i rows (ap (λ n. n % 2) (sym (half-before entries i)) ∙ bit)

-- rows that are cut to some entries agree there
pub cut-agrees : (entries : ℕ) (rows : List ℕ) → AgreeOn entries rows (rows_inside entries rows)
cut-agrees entries rows entry some has = cut-row entries (entry - 1) rows (eqb-true (entries / 2 ^ (entry - 1) % 2) 1 has)

module _ (answer : Answering) (catalogue : CatalogDef) (block : Block) where
  -- a worth is that of the rows of the term's entries
  worth-cut : (rows : List ℕ) (term : Term) → IsTerm catalogue block term
      → worth_of answer catalogue block (rows_inside term.entries rows) term ≡ worth_of answer catalogue block rows term
  worth-cut rows term is =
      ap (λ args. clamped (predicate_at catalogue term.predicate).max (answer (predicate_at catalogue term.predicate) args))
      (sym (argument_values-local catalogue block term.entries rows (rows_inside term.entries rows) (cut-agrees term.entries rows) term is (inside-itself term.entries)))

  -- what is found for rows of the entries in a mask
  pub found-known : (samples all : List (List ℕ)) (mask i : ℕ) (rows worths : List ℕ) (term : Term)
      → IsTerm catalogue block term → all ≡ worths_by_term answer catalogue block samples → slice_get all i ≡ Some worths → slice_get block.terms i ≡ Some term
      → In rows (sampled_choices mask samples)
      → cond (is_inside term.entries mask) (get_or worths (choice_place term.entries (map length samples) (places_in samples rows)) 0) 0 ≡ known_worth answer catalogue block mask rows term
  found-known samples all mask i rows worths term formed are here is h = go (is_inside term.entries mask) refl where
    worths-are : Some worths ≡ Some (map (λ rs. worth_of answer catalogue block rs term) (sampled_choices term.entries samples))
    worths-are = sym here ∙ ap (λ lists. slice_get lists i) are
        ∙ slice-map (λ (t : Term). map (λ rs. worth_of answer catalogue block rs t) (sampled_choices t.entries samples)) block.terms i term is

    go : (b : Bool) → is_inside term.entries mask ≡ b
        → cond b (get_or worths (choice_place term.entries (map length samples) (places_in samples rows)) 0) 0 ≡ cond b (worth_of answer catalogue block rows term) 0
    go true inside =
        let same : worths ≡ map (λ rs. worth_of answer catalogue block rs term) (sampled_choices term.entries samples) = (let both = worths-are in cc) in
        ap (λ ws. get_or ws (choice_place term.entries (map length samples) (places_in samples rows)) 0) same
        ∙ found-at 0 (λ rs. worth_of answer catalogue block rs term) term.entries mask samples rows inside h
        ∙ worth-cut rows term formed
    go false outside = refl

-- Truths of conjuncts and worths of terms on sampled rows, found by the places of the rows in their samples.
use Rattle.std.specs.Prelude.{ℕ, suc, ◌+◌, ◌*◌, ◌/◌, ◌%◌, ◌==◌, Bool, List, [], ◌∷◌, length, map, nat_le, if◌then◌else◌}
use Rattle.std.specs.List.{filter}
use Rattle.rs_rank.specs.Weights.{bound}
use Rattle.rs_expr.specs.Scoring.{Answering}
use Rattle.rs_catalog.specs.Catalog.{CatalogDef}
use Rattle.rs_query.specs.Answers.{weights_of, worth_of}
use Rattle.rs_query.specs.Conjuncts.{ConjunctDef}
use Rattle.rs_query.specs.Meaning.{conjunct_holds, is_inside}
use Rattle.rs_query.specs.declared.block.Block.{Block}
use Rattle.rs_query.specs.declared.term.Term.{Term}
use Rattle.rs_sample.specs.Choosing.{sampled_choices}
use Rattle.rs_sample.specs.Estimates.{sampled_combinations}
use Rattle.rs_sample.specs.Quotients.{expected, product_inside}

-- the place of a row in a sample, where the first one is 0; a row that isn't there stands behind the last one
abbrev pub place_in : ℕ → List ℕ → ℕ
place_in row [] = 0
place_in row (other ∷ sample) = if other == row then 0 else suc (place_in row sample)

-- the places of rows in the samples of their entries
abbrev pub places_in : List (List ℕ) → List ℕ → List ℕ
places_in [] rows = []
places_in (sample ∷ samples) [] = []
places_in (sample ∷ samples) (row ∷ rows) = place_in row sample ∷ places_in samples rows

-- the place of a choice among all choices for the entries in a mask, in lexicographic order: its rows stand at these places of samples of
-- these sizes
abbrev pub choice_place : ℕ → List ℕ → List ℕ → ℕ
choice_place mask [] places = 0
choice_place mask (size ∷ sizes) [] = 0
choice_place mask (size ∷ sizes) (place ∷ places) =
    (if mask % 2 == 0 then 0 else place * product_inside (mask / 2) sizes) + choice_place (mask / 2) sizes places

-- whether each conjunct holds of each choice among the samples of its entries
abbrev pub truths_by_conjunct : CatalogDef → Block → List (List ℕ) → List (List Bool)
truths_by_conjunct catalogue block samples =
    map (λ (conjunct : ConjunctDef). map (λ rows. conjunct_holds catalogue block rows conjunct) (sampled_choices conjunct.entries samples)) block.conjuncts

module _ (answer : Answering) (catalogue : CatalogDef) (block : Block) where
  -- the worth of a term for rows of the entries in a mask, where it reads these alone, or else 0
  abbrev pub known_worth : ℕ → List ℕ → Term → ℕ
  known_worth mask rows term = if is_inside term.entries mask then worth_of answer catalogue block rows term else 0

  -- whether the bound of some rows of the entries in a mask reaches the cutoff, by these worths
  abbrev pub known_reaches : ℕ → ℕ → ℕ → List ℕ → Bool
  known_reaches cutoff mask terms rows = nat_le cutoff (bound (weights_of block) terms (map (known_worth mask rows) block.terms))

  -- what is expected by them
  abbrev pub known_estimate : List ℕ → List (List ℕ) → ℕ → ℕ → ℕ → ℕ
  known_estimate sizes samples cutoff mask terms =
      expected mask sizes samples (length (filter (known_reaches cutoff mask terms) (sampled_combinations catalogue block samples mask)))

-- What is expected of a block by its samples: the cutoff, and how many rows reach it.
use Rattle.std.specs.Prelude.{ℕ, ◌*◌, ◌-◌, Bool, List, length, map, max, nat_le, Option, slice_get, unwrap_or}
use Rattle.std.specs.Int.{div_ceil}
use Rattle.std.specs.List.{filter}
use Rattle.rs_rank.specs.Masks.{mask_of}
use Rattle.rs_rank.specs.Stable.{stable}
use Rattle.rs_rank.specs.Weights.{bound}
use Rattle.rs_expr.specs.Scoring.{Answering}
use Rattle.rs_catalog.specs.Catalog.{CatalogDef}
use Rattle.rs_query.specs.Answers.{score_of, weights_of, worths_of}
use Rattle.rs_query.specs.Combinations.{satisfies}
use Rattle.rs_query.specs.Tables.{all_entries}
use Rattle.rs_query.specs.declared.block.Block.{Block}
use Rattle.rs_sample.specs.Choosing.{sampled_choices}
use Rattle.rs_sample.specs.Quotients.{expected, product_inside}

-- how many rows a query is planned for
abbrev pub planned_rows : Option ℕ → ℕ
planned_rows limit = unwrap_or limit 10

-- the n-th greatest number, counted from 1, or 0 where there are fewer
abbrev pub nth_greatest : ℕ → List ℕ → ℕ
nth_greatest n numbers = unwrap_or (slice_get (stable (λ number. number) numbers) (n - 1)) 0

-- which of the sampled scores is the cutoff: the place of the last row that is planned for, scaled down from all combinations to those
-- of the samples, and at least 1, so that with LIMIT 0 the cutoff is the greatest score
abbrev pub cutoff_place : Block → List ℕ → List (List ℕ) → Option ℕ → ℕ
cutoff_place block sizes samples limit =
    max 1 (div_ceil (planned_rows limit * product_inside (all_entries block) (map length samples)) (product_inside (all_entries block) sizes))

-- the choices among the samples of the entries in a mask for which every conjunct holds that speaks of these entries alone
abbrev pub sampled_combinations : CatalogDef → Block → List (List ℕ) → ℕ → List (List ℕ)
sampled_combinations catalogue block samples mask = filter (satisfies catalogue block mask) (sampled_choices mask samples)

module _ (answer : Answering) (catalogue : CatalogDef) (block : Block) where
  -- the scores of the sampled combinations of all entries
  abbrev pub sampled_scores : List (List ℕ) → List ℕ
  sampled_scores samples = map (λ rows. score_of answer catalogue block rows block.terms) (sampled_combinations catalogue block samples (all_entries block))

  -- the cutoff: the score at that place among those of the sampled combinations, the greatest first, or 0 where there are fewer
  abbrev pub cutoff_of : List ℕ → List (List ℕ) → Option ℕ → ℕ
  cutoff_of sizes samples limit = nth_greatest (cutoff_place block sizes samples limit) (sampled_scores samples)

  -- whether the bound of some rows under a mask of terms reaches the cutoff
  abbrev pub reaches : ℕ → ℕ → List ℕ → Bool
  reaches cutoff terms rows = nat_le cutoff (bound (weights_of block) terms (worths_of answer catalogue block rows))

  -- how many combinations of the entries in a mask are expected to reach the cutoff under a mask of terms, where the entries have this many
  -- rows
  abbrev pub estimate_of : List ℕ → List (List ℕ) → ℕ → ℕ → ℕ → ℕ
  estimate_of sizes samples cutoff mask terms =
      expected mask sizes samples (length (filter (reaches cutoff terms) (sampled_combinations catalogue block samples mask)))

  -- how many rows of an entry are expected to reach the cutoff under one term, whether conjuncts hold or not
  abbrev pub index_estimate_of : List ℕ → List (List ℕ) → ℕ → ℕ → ℕ → ℕ
  index_estimate_of sizes samples cutoff entry term =
      expected (mask_of entry) sizes samples (length (filter (reaches cutoff (mask_of term)) (sampled_choices (mask_of entry) samples)))

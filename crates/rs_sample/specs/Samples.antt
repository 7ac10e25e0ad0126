-- The samples of the FROM entries of a block: some rows of each table, by the words of a seed.
use Rattle.std.specs.Prelude.{ℕ, ◌≤◌, ◌-◌, List, [], ◌∷◌, length, min, slice_index}
use Rattle.std.specs.List.{AllByRecursion}
use Rattle.rs_sample.specs.Taking.{taken_of}

-- the most rows that are taken of a table, where its block has this many entries
abbrev pub most_sampled : ℕ → ℕ
most_sampled entries = slice_index (256 ∷ 64 ∷ 24 ∷ 12 ∷ 8 ∷ 6 ∷ []) (entries - 1)

-- how many rows are taken of a table of this many rows
abbrev pub sample_size : ℕ → ℕ → ℕ
sample_size entries size = min (most_sampled entries) size

-- the rows that are taken of tables of this many rows, one table after another, in a block of this many entries, and the words that are left
unfoldable pub samples_from : ℕ → List ℕ → List ℕ → List (List ℕ) × List ℕ
samples_from entries [] words = ([], words)
samples_from entries (size ∷ sizes) words =
    let first = taken_of size (sample_size entries size) words in
    let others = samples_from entries sizes first.1 in
    (first.0 ∷ others.0, others.1)

-- a sample of a table of this many rows, at most this many: rows of the table, no more than it has
pub record IsSample (most size : ℕ) (sample : List ℕ) : Type 0 where
  pub few : length sample ≤ most
  pub no_more : length sample ≤ size
  pub within : AllByRecursion (λ row. (1 ≤ row) × (row ≤ size)) sample

-- samples of tables of this many rows, each of at most this many
abbrev pub AreSamples : ℕ → List ℕ → List (List ℕ) → Type 0
AreSamples most [] [] = Unit {0}
AreSamples most [] (sample ∷ samples) = ⊥
AreSamples most (size ∷ sizes) [] = ⊥
AreSamples most (size ∷ sizes) (sample ∷ samples) = IsSample most size sample × AreSamples most sizes samples

-- samples of the entries of a block
abbrev pub AreBlockSamples : ℕ → List ℕ → List (List ℕ) → Type 0
AreBlockSamples entries sizes samples = AreSamples (most_sampled entries) sizes samples

-- The words by which rows are taken: those of a Pcg32 generator that is made from a seed.
use Rattle.std.specs.Prelude.{ℕ, List}
use Rattle.rand_core.specs.Pcg32Seed.{pcg32_seed}
use Rattle.rand_core.specs.Steps.{first_words}
use Rattle.rand_pcg.specs.Lcg.{Lcg}
use Rattle.rand_pcg.specs.Pcg.{pcg32, pcg32_of_seed}

-- the generator of a seed
abbrev pub generator_of : ℕ → Lcg
generator_of seed = pcg32_of_seed (pcg32_seed 16 seed)

-- this many of its first words
abbrev pub words_of : ℕ → ℕ → List ℕ
words_of seed count = first_words pcg32 count (generator_of seed)

-- What private functions draw of a generator, over any number of its words that is enough.
use Rattle.std.specs.Prelude.{ℕ, ◌≡◌, ◌≤◌, ◌+◌, List}
use Rattle.rand_core.specs.Steps.{first_words}
use Rattle.rand_pcg.specs.Lcg.{Lcg}
use Rattle.rand_pcg.specs.Pcg.{pcg32}

-- a value is drawn of this many first words of a generator: those that are left are the first words of the new one, and at most
-- this many were drawn
pub record Draws {A : Type 0} (most : ℕ) (draw : List ℕ → A × List ℕ) (value : A) (old new : Lcg) (count : ℕ) : Type 0 where
  pub left : ℕ
  pub enough : count ≤ left + most
  pub gives : draw (first_words pcg32 count old) ≡ (value, first_words pcg32 left new)

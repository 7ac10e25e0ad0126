-- The work whose time is taken: a queue is filled, and then a pair is taken out and one put in, again and again.
use Rattle.std.specs.Prelude.{ℕ, zero, suc, ◌+◌, ◌*◌, ◌/◌, ◌%◌, List, [], ◌∷◌, drop}
use Rattle.std.specs.Ordering.{nat_cmp}
use Rattle.rs_order.specs.Sorting.{put}

-- the numbers of the generator x -> 16807 x modulo 2^31 - 1, from 1 on
abbrev pub number_at : ℕ → ℕ
number_at zero = 1
number_at (suc n) = 16807 * number_at n % 2147483647

-- how far the keys move on with each pair: so far that a new pair comes to lie among those that are held, and not before
-- them all
abbrev pub step_of : ℕ → ℕ
step_of size = 524288 / (size + 1)

-- the key of pair n: 20 bits of the generator's number, moved on n times, and n below them, so that no two keys are equal
abbrev pub key_at : ℕ → ℕ → ℕ
key_at step n = (number_at n / 2048 + n * step) * 2097152 + n

-- how far the keys move on, how many pairs were put in, those that are held, and the checksum of the keys that were
-- taken out
pub record Work : Type 0 where
  pub step : ℕ
  pub count : ℕ
  pub held : List (ℕ × ℕ)
  pub checksum : ℕ

-- no pair is put in, and this many are to be held
abbrev pub start : ℕ → Work
start size = record { step = step_of size; count = 0; held = []; checksum = 0 }

-- the next pair is put in
abbrev pub pushed : Work → Work
pushed work = record work {
  count = suc work.count;
  held = put nat_cmp (λ pair. pair.0) (key_at work.step work.count, work.count) work.held;
}

-- a checksum with one more key, which depends on the order of the keys
abbrev pub mixed : ℕ → ℕ → ℕ
mixed checksum key = (16807 * checksum + key % 2147483647) % 2147483647

abbrev pub mixed_first : ℕ → List (ℕ × ℕ) → ℕ
mixed_first checksum [] = checksum
mixed_first checksum (pair ∷ rest) = mixed checksum pair.0

-- the first pair is taken out, if there is one
abbrev pub popped : Work → Work
popped work = record work { held = drop 1 work.held; checksum = mixed_first work.checksum work.held }

-- of this many pairs that are to be held, n are put in
abbrev pub filled : ℕ → ℕ → Work
filled size zero = start size
filled size (suc n) = pushed (filled size n)

-- all are put in, and then n times one is taken out and one put in
abbrev pub worked : ℕ → ℕ → Work
worked size zero = filled size size
worked size (suc n) = pushed (popped (worked size n))

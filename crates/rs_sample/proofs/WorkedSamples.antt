-- Samples, worked by hand.
use Rattle.std.proofs.Common.{◌≡◌, [], ◌∷◌, refl}
use Rattle.rand_core.specs.Pcg32Seed.{pcg32_seed}
use Rattle.rand_core.specs.Steps.{first_words, u32_at, word_bytes}
use Rattle.rs_sample.specs.Choosing.{sampled_choices}
use Rattle.rs_sample.specs.Quotients.{expected}
use Rattle.rs_sample.specs.Samples.{sample_size, samples_from}
use Rattle.rs_sample.specs.Taking.{taken_from, taken_of}
use Rattle.rs_sample.specs.Words.{words_of}

-- two of four rows: 5 modulo 4 is 1, and 1 is less than 2; 2 modulo 3 is 2, and 9 modulo 2 is 1, which aren't less than 1; 0 modulo 1 is 0
taken-two : taken_of 4 2 (5 ∷ 2 ∷ 9 ∷ 7 ∷ 6 ∷ []) ≡ (1 ∷ 4 ∷ [], 6 ∷ [])
unfolding taken_from
taken-two = refl

-- a word is drawn for each row also where all are taken
taken-all : taken_of 3 3 (8 ∷ 8 ∷ 8 ∷ 4 ∷ []) ≡ (1 ∷ 2 ∷ 3 ∷ [], 4 ∷ [])
unfolding taken_from
taken-all = refl

-- and none once none is needed
taken-early : taken_of 3 1 (3 ∷ 4 ∷ []) ≡ (1 ∷ [], 4 ∷ [])
unfolding taken_from
taken-early = refl

-- a remainder that equals the rows still needed takes no row: 1 modulo 3 is 1
taken-equal : taken_of 3 1 (1 ∷ 2 ∷ 4 ∷ []) ≡ (2 ∷ [], 4 ∷ [])
unfolding taken_from
taken-equal = refl

-- an empty table draws no word
taken-empty : taken_of 0 0 (4 ∷ []) ≡ ([], 4 ∷ [])
unfolding taken_from
taken-empty = refl

-- by the number of entries, and never more rows than there are
sizes-one : sample_size 1 300 ≡ 256
sizes-one = refl

sizes-two : sample_size 2 300 ≡ 64
sizes-two = refl

sizes-three : sample_size 3 300 ≡ 24
sizes-three = refl

sizes-four : sample_size 4 300 ≡ 12
sizes-four = refl

sizes-five : sample_size 5 300 ≡ 8
sizes-five = refl

sizes-six : sample_size 6 300 ≡ 6
sizes-six = refl

sizes-few : sample_size 6 4 ≡ 4
sizes-few = refl

-- the words go on from one table to the next
samples-two : samples_from 2 (2 ∷ 0 ∷ 1 ∷ []) (4 ∷ 5 ∷ 6 ∷ 7 ∷ []) ≡ ((1 ∷ 2 ∷ []) ∷ [] ∷ (1 ∷ []) ∷ [], 7 ∷ [])
unfolding samples_from taken_from
samples-two = refl

-- the first entry varies slowest, and an entry outside the mask has 0
choices-two : sampled_choices 5 ((3 ∷ 7 ∷ []) ∷ (1 ∷ []) ∷ (2 ∷ 9 ∷ []) ∷ [])
    ≡ (3 ∷ 0 ∷ 2 ∷ []) ∷ (3 ∷ 0 ∷ 9 ∷ []) ∷ (7 ∷ 0 ∷ 2 ∷ []) ∷ (7 ∷ 0 ∷ 9 ∷ []) ∷ []
choices-two = refl

-- of no entry there is one choice, and of an empty table none
choices-none : sampled_choices 0 ((3 ∷ 7 ∷ []) ∷ []) ≡ (0 ∷ []) ∷ []
choices-none = refl

choices-empty : sampled_choices 3 ((3 ∷ 7 ∷ []) ∷ [] ∷ []) ≡ []
choices-empty = refl

-- 3 of 4 times 2 sampled combinations, of 10 times 7: 3 * 70 / 8 is 26 and a quarter
expected-up : expected 3 (10 ∷ 7 ∷ []) ((1 ∷ 2 ∷ 5 ∷ 9 ∷ []) ∷ (3 ∷ 4 ∷ []) ∷ []) 3 ≡ 27
expected-up = refl

-- the second table alone
expected-one : expected 2 (10 ∷ 7 ∷ []) ((1 ∷ 2 ∷ 5 ∷ 9 ∷ []) ∷ (3 ∷ 4 ∷ []) ∷ []) 2 ≡ 7
expected-one = refl

-- an empty table
expected-none : expected 3 (10 ∷ 0 ∷ []) ((1 ∷ 2 ∷ 5 ∷ 9 ∷ []) ∷ [] ∷ []) 0 ≡ 0
expected-none = refl

-- the first words of the seeds 0 and 1, computed by another program
words-zero : words_of 0 2 ≡ 298703107 ∷ 4236525527 ∷ []
unfolding first_words u32_at pcg32_seed word_bytes
words-zero = refl

words-one : words_of 1 4 ≡ 866585574 ∷ 2109535214 ∷ 3403630417 ∷ 296513984 ∷ []
unfolding first_words u32_at pcg32_seed word_bytes
words-one = refl

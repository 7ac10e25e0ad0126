-- Samples by the words of a generator, one table after another.
use Rattle.std.proofs.Common.{ℕ, suc, ◌≡◌, ◌∙◌, ◌+◌, ◌<◌, ◌≤◌, List, [], ◌∷◌, ◌++◌, length, take, drop, get_or, sum, refl, sym, ap, subst, append_assoc, append-nil, arith}
use Rattle.std.proofs.lemmas.List.{drop_all, drop_more, take_all}
use Rattle.std.proofs.lemmas.List.Sums.{sum_by-drop_more}
use Rattle.rand_core.specs.Steps.{first_words}
use Rattle.rand_pcg.specs.Lcg.{Lcg}
use Rattle.rand_pcg.specs.Pcg.{pcg32}
use Rattle.rs_sample.specs.Drawing.{Draws}
use Rattle.rs_sample.specs.Samples.{AreSamples, IsSample, most_sampled, sample_size, samples_from}
use Rattle.rs_sample.specs.Taking.{taken_of}
use Rattle.rs_sample.proofs.ListFacts.{take-with}

-- samples of the first tables were taken, and those of the others are taken by the words that are left
pub record DrawnSome (entries : ℕ) (sizes : List ℕ) (i : ℕ) (samples : List (List ℕ)) (old new : Lcg) (count : ℕ) : Type 0 where
  pub left : ℕ
  pub needed : sum (drop i sizes) ≤ left
  pub enough : count + sum (drop i sizes) ≤ left + sum sizes
  pub along : samples_from entries sizes (first_words pcg32 count old)
      ≡ (samples ++ (samples_from entries (drop i sizes) (first_words pcg32 left new)).0, (samples_from entries (drop i sizes) (first_words pcg32 left new)).1)

-- the first of some tables
samples-first : (entries size : ℕ) (sizes words rows left : List ℕ) → taken_of size (sample_size entries size) words ≡ (rows, left)
    → samples_from entries (size ∷ sizes) words ≡ (rows ∷ (samples_from entries sizes left).0, (samples_from entries sizes left).1)
unfolding samples_from
samples-first entries size sizes words rows left e = ap (λ first. (first.0 ∷ (samples_from entries sizes first.1).0, (samples_from entries sizes first.1).1)) e

samples-none : (entries : ℕ) (words : List ℕ) → samples_from entries [] words ≡ ([], words)
unfolding samples_from
samples-none entries words = refl

pub DrawnSome-none : (entries : ℕ) (sizes : List ℕ) (g : Lcg) (count : ℕ) → sum sizes ≤ count → DrawnSome entries sizes 0 [] g g count
DrawnSome-none entries sizes g count enough = record { left = count; needed = enough; enough = omega arith; along = refl }

-- one more table
pub DrawnSome-more : (entries : ℕ) (sizes : List ℕ) (i size : ℕ) (samples : List (List ℕ)) (rows : List ℕ) (old middle new : Lcg) (count : ℕ) → i < length sizes → size ≡ get_or sizes i size
    → DrawnSome entries sizes i samples old middle count → ((k : ℕ) → size ≤ k → Draws size (taken_of size (sample_size entries size)) rows middle new k)
    → DrawnSome entries sizes (i + 1) (samples ++ rows ∷ []) old new count
DrawnSome-more entries sizes i size samples rows old middle new count within is some draws =
    let more : sum (drop i sizes) ≡ get_or sizes i size + sum (drop (i + 1) sizes) = sum_by-drop_more (λ x. x) sizes i size within in
    let needed = some.needed in
    let enough = some.enough in
    let drawn = draws some.left (omega arith) in
    let few = drawn.enough in
    record {
      left = drawn.left;
      needed = omega arith;
      enough = omega arith;
      along = some.along
          ∙ ap (λ all. (samples ++ (samples_from entries all (first_words pcg32 some.left middle)).0, (samples_from entries all (first_words pcg32 some.left middle)).1))
          (drop_more sizes i size within ∙ ap (λ s. s ∷ drop (i + 1) sizes) (sym is))
          ∙ ap (λ (all : List (List ℕ) × List ℕ). (samples ++ all.0, all.1))
          (samples-first entries size (drop (i + 1) sizes) (first_words pcg32 some.left middle) rows (first_words pcg32 drawn.left new) drawn.gives)
          ∙ ap (λ all. (all, (samples_from entries (drop (i + 1) sizes) (first_words pcg32 drawn.left new)).1))
          (sym (append_assoc samples (rows ∷ []) (samples_from entries (drop (i + 1) sizes) (first_words pcg32 drawn.left new)).0));
    }

-- all tables
pub DrawnSome-all : (entries : ℕ) (sizes : List ℕ) (i : ℕ) (samples : List (List ℕ)) (old new : Lcg) (count : ℕ) → length sizes ≤ i
    → DrawnSome entries sizes i samples old new count → Draws (sum sizes) (samples_from entries sizes) samples old new count
DrawnSome-all entries sizes i samples old new count all some =
    let none = drop_all i sizes all in
    let enough = some.enough in
    record {
      left = some.left;
      enough = omega arith;
      gives = some.along
          ∙ ap (λ rest. (samples ++ (samples_from entries rest (first_words pcg32 some.left new)).0, (samples_from entries rest (first_words pcg32 some.left new)).1)) none
          ∙ ap (λ (last : List (List ℕ) × List ℕ). (samples ++ last.0, last.1)) (samples-none entries (first_words pcg32 some.left new))
          ∙ ap (λ all. (all, first_words pcg32 some.left new)) (append-nil samples);
    }

-- one more sample
AreSamples-push : (most : ℕ) (sizes : List ℕ) (samples : List (List ℕ)) (size : ℕ) (sample : List ℕ) → AreSamples most sizes samples → IsSample most size sample
    → AreSamples most (sizes ++ size ∷ []) (samples ++ sample ∷ [])
AreSamples-push most [] [] size sample are is = (is, tt)
AreSamples-push most [] (s ∷ samples) size sample are is = absurd are
AreSamples-push most (z ∷ sizes) [] size sample are is = absurd are
AreSamples-push most (z ∷ sizes) (s ∷ samples) size sample are is = (are.0, AreSamples-push most sizes samples size sample are.1 is)

pub AreSamples-more : (entries : ℕ) (sizes : List ℕ) (i size needed : ℕ) (samples : List (List ℕ)) (rows : List ℕ) → i < length sizes → size ≡ get_or sizes i size → needed ≡ sample_size entries size
    → AreSamples (most_sampled entries) (take i sizes) samples → IsSample needed size rows → AreSamples (most_sampled entries) (take (i + 1) sizes) (samples ++ rows ∷ [])
AreSamples-more entries sizes i size needed samples rows within is counted are sample =
    subst (λ all. AreSamples (most_sampled entries) all (samples ++ rows ∷ [])) (sym (take-with sizes i size within is))
    (AreSamples-push (most_sampled entries) (take i sizes) samples size rows are
    (record { few = (let n = sample.few in omega arith); no_more = sample.no_more; within = sample.within }))

pub AreSamples-all : (entries : ℕ) (sizes : List ℕ) (i : ℕ) (samples : List (List ℕ)) → length sizes ≤ i → AreSamples (most_sampled entries) (take i sizes) samples → AreSamples (most_sampled entries) sizes samples
AreSamples-all entries sizes i samples all are = subst (λ zs. AreSamples (most_sampled entries) zs samples) (take_all i sizes all) are

-- as many samples as tables
pub length-samples : (most : ℕ) (sizes : List ℕ) (samples : List (List ℕ)) → AreSamples most sizes samples → length samples ≡ length sizes
length-samples most [] [] are = refl
length-samples most [] (sample ∷ samples) are = absurd are
length-samples most (size ∷ sizes) [] are = absurd are
length-samples most (size ∷ sizes) (sample ∷ samples) are = ap suc (length-samples most sizes samples are.1)

-- There are few choices among the samples of a block.
use Rattle.std.proofs.Common.{ℕ, zero, suc, ◌≡◌, ◌∙◌, ◌-◌, ◌/◌, ◌%◌, ◌^◌, ◌<◌, ◌≤◌, Bool, true, false, cond, eqb, List, [], ◌∷◌, length, map, refl, ap, arith, pow_mono}
use Rattle.std.specs.Int.Bits.{bit_and}
use Rattle.std.specs.List.{AllByRecursion}
use Rattle.std.proofs.lemmas.Bool.{eqb-true}
use Rattle.std.proofs.lemmas.Nat.{and_le_r, mul-le}
use Rattle.std.proofs.Math.Nat.{pow-suc, pow-zero}
use Rattle.rs_order.proofs.EachFacts.{each-map, each-weaker}
use Rattle.rs_catalog.specs.Catalog.{CatalogDef}
use Rattle.rs_query.specs.Meaning.{is_inside}
use Rattle.rs_query.specs.Tables.{all_entries}
use Rattle.rs_query.specs.WellFormed.{IsBlock}
use Rattle.rs_query.specs.declared.block.Block.{Block}
use Rattle.rs_query.specs.declared.term.Term.{Term}
use Rattle.rs_query.proofs.EntryFacts.{terms-inside}
use Rattle.rs_sample.specs.Quotients.{product_inside}
use Rattle.rs_sample.specs.Samples.{AreBlockSamples, AreSamples, most_sampled}

-- of no entry
product-none : (numbers : List ℕ) → product_inside 0 numbers ≡ 1
product-none [] = refl
product-none (number ∷ numbers) = (let e = product-none numbers in omega arith)

power-least : (most n : ℕ) → 1 ≤ most → 1 ≤ most ^ n
power-least most zero some = (let one = pow-zero most in omega arith)
power-least most (suc n) some =
    let step = mul-le 1 1 (most ^ n) most (power-least most n some) some in
    let power = pow-suc most n in
    omega arith

factor-few : (b : Bool) (number most : ℕ) → 1 ≤ most → number ≤ most → cond b 1 number ≤ most
factor-few true number most some few = some
factor-few false number most some few = few

-- of this many entries
product-few : (most n mask : ℕ) (numbers : List ℕ) → 1 ≤ most → AllByRecursion (λ number. number ≤ most) numbers → mask < 2 ^ n → product_inside mask numbers ≤ most ^ n
product-few most zero mask numbers some few within =
    let none : mask ≡ 0 = omega arith in
    let one = ap (λ m. product_inside m numbers) none ∙ product-none numbers in
    let first = pow-zero most in
    omega arith
product-few most (suc n) mask [] some few within = power-least most (suc n) some
product-few most (suc n) mask (number ∷ numbers) some few within =
    let double = pow-suc 2 n in
    let others = product-few most n (mask / 2) numbers some few.1 (omega arith) in
    let first = factor-few (eqb (mask % 2) 0) number most some few.0 in
    let step = mul-le (cond (eqb (mask % 2) 0) 1 number) (product_inside (mask / 2) numbers) most (most ^ n) first others in
    let power = pow-suc most n in
    omega arith

-- each sample is small
pub each-few : (most : ℕ) (sizes : List ℕ) (samples : List (List ℕ)) → AreSamples most sizes samples → AllByRecursion (λ number. number ≤ most) (map length samples)
each-few most [] [] are = tt
each-few most [] (sample ∷ samples) are = absurd are
each-few most (size ∷ sizes) [] are = absurd are
each-few most (size ∷ sizes) (sample ∷ samples) are = (are.0.few, each-few most sizes samples are.1)

most-some : (n : ℕ) → 1 ≤ n → n ≤ 6 → 1 ≤ most_sampled n
most-some zero some few = absurd (omega arith)
most-some (suc zero) some few = omega arith
most-some (suc (suc zero)) some few = omega arith
most-some (suc (suc (suc zero))) some few = omega arith
most-some (suc (suc (suc (suc zero)))) some few = omega arith
most-some (suc (suc (suc (suc (suc zero))))) some few = omega arith
most-some (suc (suc (suc (suc (suc (suc zero)))))) some few = omega arith
most-some (suc (suc (suc (suc (suc (suc (suc n))))))) some few = absurd (omega arith)

most-power : (n : ℕ) → 1 ≤ n → n ≤ 6 → most_sampled n ^ n ≤ 65536
most-power zero some few = absurd (omega arith)
most-power (suc zero) some few = omega arith
most-power (suc (suc zero)) some few = omega arith
most-power (suc (suc (suc zero))) some few = omega arith
most-power (suc (suc (suc (suc zero)))) some few = omega arith
most-power (suc (suc (suc (suc (suc zero))))) some few = omega arith
most-power (suc (suc (suc (suc (suc (suc zero)))))) some few = omega arith
most-power (suc (suc (suc (suc (suc (suc (suc n))))))) some few = absurd (omega arith)

pub most-few : (n : ℕ) → 1 ≤ n → n ≤ 6 → most_sampled n ≤ 256
most-few zero some few = absurd (omega arith)
most-few (suc zero) some few = omega arith
most-few (suc (suc zero)) some few = omega arith
most-few (suc (suc (suc zero))) some few = omega arith
most-few (suc (suc (suc (suc zero)))) some few = omega arith
most-few (suc (suc (suc (suc (suc zero))))) some few = omega arith
most-few (suc (suc (suc (suc (suc (suc zero)))))) some few = omega arith
most-few (suc (suc (suc (suc (suc (suc (suc n))))))) some few = absurd (omega arith)

-- no sample has more than 256 rows
small : (most : ℕ) (ss : List (List ℕ)) (zs : List ℕ) → most ≤ 256 → AreSamples most zs ss → AllByRecursion (λ (sample : List ℕ). length sample ≤ 256) ss
small most [] zs least a = tt
small most (s ∷ ss) [] least a = absurd a
small most (s ∷ ss) (z ∷ zs) least a = ((let f = a.0.few in omega arith), small most ss zs least a.1)

module _ (n : ℕ) (sizes : List ℕ) (samples : List (List ℕ)) (some : 1 ≤ n) (few : n ≤ 6) (are : AreBlockSamples n sizes samples) where
  pub product-small : (mask : ℕ) → mask < 2 ^ n → product_inside mask (map length samples) ≤ 65536
  product-small mask within =
      let part = product-few (most_sampled n) n mask (map length samples) (most-some n some few) (each-few (most_sampled n) sizes samples are) within in
      let whole = most-power n some few in
      omega arith

  pub samples-small : AllByRecursion (λ (sample : List ℕ). length sample ≤ 256) samples
  samples-small = small (most_sampled n) samples sizes (most-few n some few) are

  pub sampled-wide : AllByRecursion (λ size. size ≤ 131072) (map length samples)
  sampled-wide =
      each-map (λ size. size ≤ 131072) length samples
      (each-weaker (λ (sample : List ℕ). length sample ≤ 256) (λ (sample : List ℕ). length sample ≤ 131072) (λ sample few. omega arith) samples samples-small)

-- as many combinations of a mask as there are at most in the tables
pub product-less : (most mask : ℕ) (sizes : List ℕ) (samples : List (List ℕ)) → AreSamples most sizes samples → product_inside mask (map length samples) ≤ product_inside mask sizes
product-less most mask [] [] are = omega arith
product-less most mask [] (sample ∷ samples) are = absurd are
product-less most mask (size ∷ sizes) [] are = absurd are
product-less most mask (size ∷ sizes) (sample ∷ samples) are =
    mul-le (cond (eqb (mask % 2) 0) 1 (length sample)) (product_inside (mask / 2) (map length samples)) (cond (eqb (mask % 2) 0) 1 size) (product_inside (mask / 2) sizes)
    (go (eqb (mask % 2) 0)) (product-less most (mask / 2) sizes samples are.1) where
      go : (b : Bool) → cond b 1 (length sample) ≤ cond b 1 size
      go true = omega arith
      go false = are.0.no_more

pub each-less : (most : ℕ) (numbers : List ℕ) (limit : ℕ) → most ≤ limit → AllByRecursion (λ number. number ≤ most) numbers → AllByRecursion (λ number. number ≤ limit) numbers
each-less most [] limit less all = tt
each-less most (number ∷ numbers) limit less all = ((let f = all.0 in omega arith), each-less most numbers limit less all.1)

-- entries of a block are below the power of their number
inside-less : (n entries : ℕ) → is_inside entries (2 ^ n - 1) ≡ true → entries < 2 ^ n
inside-less n entries is =
    let same = eqb-true (bit_and entries (2 ^ n - 1)) entries is in
    let less = and_le_r entries (2 ^ n - 1) in
    let some = power-least 2 n (omega arith) in
    omega arith

pub terms-less : (catalogue : CatalogDef) (block : Block) → IsBlock catalogue block → AllByRecursion (λ (t : Term). t.entries < 2 ^ length block.from) block.terms
terms-less catalogue block formed =
    each-weaker (λ (t : Term). is_inside t.entries (all_entries block) ≡ true) (λ (t : Term). t.entries < 2 ^ length block.from)
    (λ t is. inside-less (length block.from) t.entries is) block.terms (terms-inside catalogue block formed)

-- a mask of the entries of a block is a small number
pub mask-small : (entries mask : ℕ) → entries ≤ 6 → mask < 2 ^ entries → mask < 64
mask-small entries mask few below = let most : 2 ^ entries ≤ 2 ^ 6 = pow_mono few in omega arith

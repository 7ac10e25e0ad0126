-- Which sampled rows reach the cutoff, by the worths that are known.
use Rattle.std.proofs.Common.{ℕ, zero, suc, ◌≡◌, ◌∙◌, ◌+◌, ◌*◌, ◌/◌, ◌%◌, ◌^◌, ◌<◌, ◌≤◌, Bool, true, false, cond, eqb, List, [], ◌∷◌, ◌++◌, length, map, take, drop, get_or, nat_le, refl, sym, ap, ap₂, subst, ◌⊎◌, inl, inr, arith}
use Rattle.std.specs.List.{AllByRecursion, filter}
use Rattle.std.proofs.lemmas.Bool.{eqb-true}
use Rattle.std.proofs.lemmas.List.{drop_all, length-append, take_more}
use Rattle.std.proofs.lemmas.List.Elements.{filter-append}
use Rattle.std.proofs.lemmas.Nat.{mul-le}
use Rattle.std.proofs.Math.Seq.{drop-cons}
use Rattle.rs_rank.proofs.MaskFacts.{half-behind}
use Rattle.rs_rank.specs.Weights.{rest, sum_inside}
use Rattle.rs_expr.specs.Scoring.{Answering}
use Rattle.rs_catalog.specs.Catalog.{CatalogDef}
use Rattle.rs_query.specs.Answers.{weights_of, worth_of}
use Rattle.rs_query.specs.Meaning.{is_inside}
use Rattle.rs_query.specs.declared.block.Block.{Block}
use Rattle.rs_query.specs.declared.term.Term.{Term}
use Rattle.rs_sample.specs.Estimates.{estimate_of, reaches, sampled_combinations}
use Rattle.rs_sample.specs.Finding.{known_estimate, known_reaches, known_worth}
use Rattle.rs_sample.specs.Quotients.{expected}
use Rattle.rs_sample.specs.Cards.{AreRead}

-- tests that agree
pub filter-same : {X : Type 0} (p q : X → Bool) → ((x : X) → p x ≡ q x) → (xs : List X) → filter p xs ≡ filter q xs
filter-same p q same [] = refl
filter-same p q same (x ∷ xs) = ap₂ (λ b rest. cond b (x ∷ rest) rest) (same x) (filter-same p q same xs)

-- how many pass, with one more
one-more : {X : Type 0} (p : X → Bool) (x : X) → length (filter p (x ∷ [])) ≡ cond (p x) 1 0
one-more p x = go (p x) where
  go : (b : Bool) → length (cond b (x ∷ []) []) ≡ cond b 1 0
  go true = refl
  go false = refl

pub count-more : {X : Type 0} (p : X → Bool) (xs : List X) (i : ℕ) (x : X) → i < length xs → x ≡ get_or xs i x
    → length (filter p (take (i + 1) xs)) ≡ length (filter p (take i xs)) + cond (p x) 1 0
count-more p xs i x within is =
    ap (λ all. length (filter p all)) (take_more xs i x within ∙ ap (λ y. take i xs ++ y ∷ []) (sym is))
    ∙ ap length (filter-append p (take i xs) (x ∷ []))
    ∙ length-append (filter p (take i xs)) (filter p (x ∷ []))
    ∙ ap (λ n. length (filter p (take i xs)) + n) (one-more p x)

-- a filter leaves no more than there are
pub filter-few : {X : Type 0} (p : X → Bool) (xs : List X) → length (filter p xs) ≤ length xs
filter-few p [] = omega arith
filter-few p (x ∷ xs) = go (p x) (filter-few p xs) where
  go : (b : Bool) → length (filter p xs) ≤ length xs → length (cond b (x ∷ filter p xs) (filter p xs)) ≤ suc (length xs)
  go true few = omega arith
  go false few = omega arith

-- the same of what a function gives
pub filter-map : {X Y : Type 0} (p : Y → Bool) (f : X → Y) (xs : List X) → length (filter p (map f xs)) ≡ length (filter (λ x. p (f x)) xs)
filter-map p f [] = refl
filter-map p f (x ∷ xs) = go (p (f x)) (filter-map p f xs) where
  go : (b : Bool) → length (filter p (map f xs)) ≡ length (filter (λ x. p (f x)) xs)
      → length (cond b (f x ∷ filter p (map f xs)) (filter p (map f xs))) ≡ length (cond b (x ∷ filter (λ x. p (f x)) xs) (filter (λ x. p (f x)) xs))
  go true e = ap suc e
  go false e = e

-- what the terms from a place on give
sum-step : (terms place : ℕ) (weights values : List ℕ) → place < length weights → place < length values
    → sum_inside (terms / 2 ^ place) (drop place weights) (drop place values)
    ≡ cond (eqb (terms / 2 ^ place % 2) 1) (get_or weights place 0 * get_or values place 0) 0 + sum_inside (terms / 2 ^ suc place) (drop (suc place) weights) (drop (suc place) values)
sum-step terms place weights values p q = rw (drop-cons weights place 0 p, drop-cons values place 0 q, half-behind terms place) refl

pub sum-more : (terms place sum : ℕ) (weights values : List ℕ) → place < length weights → place < length values
    → sum + sum_inside (terms / 2 ^ place) (drop place weights) (drop place values) ≡ sum_inside terms weights values
    → sum + cond (eqb (terms / 2 ^ place % 2) 1) (get_or weights place 0 * get_or values place 0) 0
    + sum_inside (terms / 2 ^ (place + 1)) (drop (place + 1) weights) (drop (place + 1) values) ≡ sum_inside terms weights values
sum-more terms place sum weights values p q so_far =
    let step = sum-step terms place weights values p q in
    subst (λ n. sum + cond (eqb (terms / 2 ^ place % 2) 1) (get_or weights place 0 * get_or values place 0) 0 + sum_inside (terms / 2 ^ n) (drop n weights) (drop n values) ≡ sum_inside terms weights values)
    (let one : suc place ≡ place + 1 = omega arith in one) (omega arith)

sum-none : (terms : ℕ) (weights : List ℕ) → sum_inside terms weights [] ≡ 0
sum-none terms [] = refl
sum-none terms (weight ∷ weights) = refl

pub sum-all : (terms place sum : ℕ) (weights values : List ℕ) → (length weights ≤ place) ⊎ (length values ≤ place)
    → sum + sum_inside (terms / 2 ^ place) (drop place weights) (drop place values) ≡ sum_inside terms weights values → sum ≡ sum_inside terms weights values
sum-all terms place sum weights values end so_far = elim end [
  | inl all ↦ (let none = ap (λ ws. sum_inside (terms / 2 ^ place) ws (drop place values)) (drop_all place weights all) in omega arith)
  | inr all ↦ (let none = ap (λ vs. sum_inside (terms / 2 ^ place) (drop place weights) vs) (drop_all place values all) ∙ sum-none (terms / 2 ^ place) (drop place weights) in omega arith)
]

module _ (answer : Answering) (catalogue : CatalogDef) (block : Block) where
  -- the sum over terms that read the entries in a mask alone
  known-sum : (terms mask : ℕ) (rows weights : List ℕ) (ts : List Term) → AreRead terms mask (map (λ (t : Term). t.entries) ts)
      → sum_inside terms weights (map (known_worth answer catalogue block mask rows) ts) ≡ sum_inside terms weights (map (worth_of answer catalogue block rows) ts)
  known-sum terms mask rows [] ts read = refl
  known-sum terms mask rows (weight ∷ weights) [] read = refl
  known-sum terms mask rows (weight ∷ weights) (t ∷ ts) read =
      ap₂ (λ first others. first + others) (go (eqb (terms % 2) 1) refl) (known-sum (terms / 2) mask rows weights ts read.1) where
        go : (b : Bool) → eqb (terms % 2) 1 ≡ b
            → cond b (weight * known_worth answer catalogue block mask rows t) 0 ≡ cond b (weight * worth_of answer catalogue block rows t) 0
        go true e = ap (λ inside. weight * cond inside (worth_of answer catalogue block rows t) 0) (read.0 (eqb-true (terms % 2) 1 e))
        go false e = refl

  known-reaches : (cutoff mask terms : ℕ) → AreRead terms mask (map (λ (t : Term). t.entries) block.terms) → (rows : List ℕ)
      → known_reaches answer catalogue block cutoff mask terms rows ≡ reaches answer catalogue block cutoff terms rows
  known-reaches cutoff mask terms read rows =
      ap (λ sum. nat_le cutoff (sum + rest (weights_of block) terms)) (known-sum terms mask rows (weights_of block).weight block.terms read)

  -- what is expected by known worths is what is expected
  pub known-estimate : (sizes : List ℕ) (samples : List (List ℕ)) (cutoff mask terms : ℕ) → AreRead terms mask (map (λ (t : Term). t.entries) block.terms)
      → known_estimate answer catalogue block sizes samples cutoff mask terms ≡ estimate_of answer catalogue block sizes samples cutoff mask terms
  known-estimate sizes samples cutoff mask terms read =
      ap (λ rows. expected mask sizes samples (length rows))
      (filter-same (known_reaches answer catalogue block cutoff mask terms) (reaches answer catalogue block cutoff terms) (known-reaches cutoff mask terms read)
      (sampled_combinations catalogue block samples mask))

-- what a term gives is within its limit
pub term-limit : (b : Bool) (weight worth : ℕ) → weight ≤ 1000000 → worth ≤ 4294967295 → cond b (weight * worth) 0 ≤ 4294967295000000
term-limit true weight worth light small = mul-le weight worth 1000000 4294967295 light small
term-limit false weight worth light small = omega arith

-- no more pass than there are
take-few : {X : Type 0} (xs : List X) (i : ℕ) → length (take i xs) ≤ length xs
take-few [] zero = omega arith
take-few [] (suc i) = omega arith
take-few (x ∷ xs) zero = omega arith
take-few (x ∷ xs) (suc i) = (let few = take-few xs i in omega arith)

pub count-few : {X : Type 0} (p : X → Bool) (xs : List X) (i : ℕ) → length (filter p (take i xs)) ≤ length xs
count-few p xs i = (let first = filter-few p (take i xs) in let second = take-few xs i in omega arith)

-- where all terms are inside, all worths are known
pub known-all : (answer : Answering) (catalogue : CatalogDef) (block : Block) (mask : ℕ) (rows : List ℕ) (terms : List Term) → AllByRecursion (λ (t : Term). is_inside t.entries mask ≡ true) terms
    → map (known_worth answer catalogue block mask rows) terms ≡ map (worth_of answer catalogue block rows) terms
known-all answer catalogue block mask rows [] all = refl
known-all answer catalogue block mask rows (t ∷ terms) all =
    ap₂ (λ w ws. w ∷ ws) (ap (λ b. cond b (worth_of answer catalogue block rows t) 0) all.0) (known-all answer catalogue block mask rows terms all.1)

-- what passes, with one more
pub filter-more : {X : Type 0} (p : X → Bool) (xs : List X) (i : ℕ) (x : X) → i < length xs → x ≡ get_or xs i x
    → filter p (take (i + 1) xs) ≡ filter p (take i xs) ++ cond (p x) (x ∷ []) []
filter-more p xs i x within is =
    ap (filter p) (take_more xs i x within ∙ ap (λ y. take i xs ++ y ∷ []) (sym is)) ∙ filter-append p (take i xs) (x ∷ [])

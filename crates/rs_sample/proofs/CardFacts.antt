-- The numbers that are kept are those of the definitions.
use Rattle.std.proofs.Common.{ℕ, zero, suc, ◌≡◌, ◌∙◌, ◌+◌, ◌-◌, ◌*◌, ◌/◌, ◌^◌, ◌<◌, ◌≤◌, cond, eqb, List, [], ◌∷◌, Some, length, map, get_or, nat_le, refl, sym, ap, subst, arith}
use Rattle.std.specs.Int.{div_ceil}
use Rattle.std.specs.List.{filter}
use Rattle.std.specs.Prelude.{Option, slice_get}
use Rattle.std.proofs.lemmas.List.{length-map}
use Rattle.rs_rank.specs.Masks.{mask_of}
use Rattle.rs_rank.specs.Weights.{rest, sum_inside}
use Rattle.rs_rank.proofs.MaskFacts.{even-power, half-power}
use Rattle.rs_expr.specs.Scoring.{Answering}
use Rattle.rs_catalog.specs.Catalog.{CatalogDef}
use Rattle.rs_query.specs.Answers.{padded, weights_of, worth_of}
use Rattle.rs_query.specs.declared.block.Block.{Block}
use Rattle.rs_query.specs.declared.term.Term.{Term}
use Rattle.rs_sample.specs.Choosing.{sampled_choices}
use Rattle.rs_sample.specs.Estimates.{cutoff_of, estimate_of, index_estimate_of, reaches}
use Rattle.rs_sample.specs.Finding.{known_estimate}
use Rattle.rs_sample.specs.Quotients.{expected, number_at, product_inside}
use Rattle.rs_sample.specs.Cards.{AreRead}
use Rattle.rs_sample.specs.Sampling.{AreCards, worths_by_term}
use Rattle.rs_sample.proofs.CountFacts.{filter-map, filter-same, known-estimate}

-- no term gives anything
sum-none : (weights values : List ℕ) → sum_inside 0 weights values ≡ 0
sum-none [] values = refl
sum-none (w ∷ ws) [] = refl
sum-none (w ∷ ws) (v ∷ vs) = let others = sum-none ws vs in omega arith

-- one term gives its weight times its value
pub one-term : (value : Term → ℕ) (n i : ℕ) (terms : List Term) (term : Term) → length terms ≤ n → slice_get terms i ≡ Some term
    → sum_inside (2 ^ i) (padded n (map (λ (t : Term). t.weight) terms)) (map value terms) ≡ term.weight * value term
one-term value n i [] term few at = absurd (cc)
one-term value zero i (t ∷ terms) term few at = absurd (omega arith)
one-term value (suc n) zero (t ∷ terms) term few at =
    let same : t ≡ term = cc in
    let none = sum-none (padded n (map (λ (u : Term). u.weight) terms)) (map value terms) in
    let first : t.weight * value t + sum_inside 0 (padded n (map (λ (u : Term). u.weight) terms)) (map value terms) ≡ t.weight * value t = omega arith in
    first ∙ ap (λ (u : Term). u.weight * value u) same
one-term value (suc n) (suc i) (t ∷ terms) term few at =
    ap (λ bit. cond (eqb bit 1) (t.weight * value t) 0 + sum_inside (2 ^ suc i / 2) (padded n (map (λ (u : Term). u.weight) terms)) (map value terms)) (even-power i)
    ∙ ap (λ mask. 0 + sum_inside mask (padded n (map (λ (u : Term). u.weight) terms)) (map value terms)) (half-power i)
    ∙ (let none : 0 + sum_inside (2 ^ i) (padded n (map (λ (u : Term). u.weight) terms)) (map value terms) ≡ sum_inside (2 ^ i) (padded n (map (λ (u : Term). u.weight) terms)) (map value terms) = omega arith in none)
    ∙ one-term value n i terms term (omega arith) at

-- an item at a place of what a function gives
pub map-at : {X Y : Type 0} (f : X → Y) (xs : List X) (i : ℕ) (x : X) (d : Y) → slice_get xs i ≡ Some x → get_or (map f xs) i d ≡ f x
map-at f [] i x d at = absurd (cc)
map-at f (y ∷ xs) zero x d at = let same : y ≡ x = cc in ap f same
map-at f (y ∷ xs) (suc i) x d at = map-at f xs i x d at

-- the term at whose place some reads stand
pub record ReadsAt (terms : List Term) (i read : ℕ) : Type 0 where
  pub term : Term
  pub is_term : slice_get terms i ≡ Some term
  pub is_read : term.entries ≡ read

pub ReadsAt-of : (terms : List Term) (i read : ℕ) → slice_get (map (λ (t : Term). t.entries) terms) i ≡ Some read → ReadsAt terms i read
ReadsAt-of [] i read at = absurd (cc)
ReadsAt-of (t ∷ terms) zero read at = record { term = t; is_term = refl; is_read = cc }
ReadsAt-of (t ∷ terms) (suc i) read at =
    let behind = ReadsAt-of terms i read at in
    record { term = behind.term; is_term = behind.is_term; is_read = behind.is_read }

module _ (answer : Answering) (catalogue : CatalogDef) (block : Block) where
  -- what the worths of a term give, and what the bounds of its choices give
  index-reaches : (cutoff i : ℕ) (term : Term) → length block.terms ≤ 8 → slice_get block.terms i ≡ Some term → (rows : List ℕ)
      → nat_le cutoff (term.weight * worth_of answer catalogue block rows term + rest (weights_of block) (2 ^ i)) ≡ reaches answer catalogue block cutoff (2 ^ i) rows
  index-reaches cutoff i term few at rows =
      ap (λ sum. nat_le cutoff (sum + rest (weights_of block) (2 ^ i))) (sym (one-term (worth_of answer catalogue block rows) 8 i block.terms term few at))

  pub index-count : (samples : List (List ℕ)) (cutoff i : ℕ) (term : Term) → length block.terms ≤ 8 → slice_get block.terms i ≡ Some term
      → length (filter (λ worth. nat_le cutoff (term.weight * worth + rest (weights_of block) (2 ^ i))) (map (λ rows. worth_of answer catalogue block rows term) (sampled_choices term.entries samples)))
      ≡ length (filter (reaches answer catalogue block cutoff (2 ^ i)) (sampled_choices term.entries samples))
  index-count samples cutoff i term few at =
      filter-map (λ worth. nat_le cutoff (term.weight * worth + rest (weights_of block) (2 ^ i))) (λ rows. worth_of answer catalogue block rows term) (sampled_choices term.entries samples)
      ∙ ap length (filter-same (λ rows. nat_le cutoff (term.weight * worth_of answer catalogue block rows term + rest (weights_of block) (2 ^ i))) (reaches answer catalogue block cutoff (2 ^ i))
      (index-reaches cutoff i term few at) (sampled_choices term.entries samples))

  -- the number of an index
  pub index-estimate : (sizes : List ℕ) (samples worths : List (List ℕ)) (cutoff entry number : ℕ) (term : Term) → length block.terms ≤ 8 → worths ≡ worths_by_term answer catalogue block samples
      → slice_get block.terms (number - 1) ≡ Some term → term.entries ≡ mask_of entry
      → div_ceil (length (filter (λ worth. nat_le cutoff (term.weight * worth + rest (weights_of block) (2 ^ (number - 1)))) (get_or worths (number - 1) []))
      * product_inside term.entries sizes) (product_inside term.entries (map length samples))
      ≡ index_estimate_of answer catalogue block sizes samples cutoff entry number
  index-estimate sizes samples worths cutoff entry number term few are at reads =
      ap (λ ws. expected term.entries sizes samples (length (filter (λ worth. nat_le cutoff (term.weight * worth + rest (weights_of block) (2 ^ (number - 1)))) ws)))
      (ap (λ all. get_or all (number - 1) []) are
      ∙ map-at (λ (t : Term). map (λ rows. worth_of answer catalogue block rows t) (sampled_choices t.entries samples)) block.terms (number - 1) term [] at)
      ∙ ap (expected term.entries sizes samples) (index-count samples cutoff (number - 1) term few at)
      ∙ ap (λ mask. expected mask sizes samples (length (filter (reaches answer catalogue block cutoff (2 ^ (number - 1))) (sampled_choices mask samples)))) reads

  -- the cards of a block
  pub AreCards-made : (sizes : List ℕ) (samples worths grid : List (List ℕ)) (limit : Option ℕ) (reads indexes : List ℕ) (cutoff entries : ℕ) → length block.terms ≤ 8
      → entries ≡ length block.from → reads ≡ map (λ (t : Term). t.entries) block.terms → cutoff ≡ cutoff_of answer catalogue block sizes samples limit
      → ((mask terms : ℕ) → mask < 2 ^ length block.from → terms < 2 ^ length block.terms → number_at grid mask terms ≡ known_estimate answer catalogue block sizes samples cutoff mask terms)
      → worths ≡ worths_by_term answer catalogue block samples
      → ((place : ℕ) (t : Term) → slice_get block.terms place ≡ Some t → get_or indexes place 0
      ≡ div_ceil (length (filter (λ worth. nat_le cutoff (t.weight * worth + rest (weights_of block) (2 ^ place))) (get_or worths place []))
      * product_inside t.entries sizes) (product_inside t.entries (map length samples)))
      → AreCards answer catalogue block sizes samples limit
      (record { entries = entries; reads = reads; estimate = number_at grid; index_estimate = λ entry term. get_or indexes (term - 1) 0 })
  AreCards-made sizes samples worths grid limit reads indexes cutoff entries few all_entries read cut value are index = record {
    entries = all_entries;
    reads = read;
    estimate = λ mask terms is.
        value mask terms (subst (λ n. mask < 2 ^ n) all_entries is.entries)
        (subst (λ n. terms < 2 ^ n) (ap length read ∙ length-map block.terms (λ (t : Term). t.entries)) is.terms_are)
        ∙ known-estimate answer catalogue block sizes samples cutoff mask terms (subst (AreRead terms mask) read is.read)
        ∙ ap (λ k. estimate_of answer catalogue block sizes samples k mask terms) cut;
    index_estimate = λ entry term is.
        let at = ReadsAt-of block.terms (term - 1) (mask_of entry) (subst (λ rs. slice_get rs (term - 1) ≡ Some (mask_of entry)) read is.reads) in
        index (term - 1) at.term at.is_term
        ∙ index-estimate sizes samples worths cutoff entry term at.term few are at.is_term at.is_read
        ∙ ap (λ k. index_estimate_of answer catalogue block sizes samples k entry term) cut;
  }

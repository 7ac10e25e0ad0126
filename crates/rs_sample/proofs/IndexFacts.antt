-- Numbers of indexes, one term after another.
use Rattle.std.proofs.Common.{ℕ, zero, suc, ◌≡◌, ◌∙◌, ◌+◌, ◌*◌, ◌^◌, ◌<◌, ◌≤◌, List, [], ◌∷◌, ◌++◌, Some, length, map, get_or, nat_le, refl, sym, ap, ap₂, subst, arith}
use Rattle.std.specs.Int.{div_ceil}
use Rattle.std.specs.List.{filter}
use Rattle.std.specs.Prelude.{slice_get}
use Rattle.std.proofs.lemmas.List.{length-map}
use Rattle.rs_rank.specs.Weights.{rest}
use Rattle.rs_expr.specs.Scoring.{Answering}
use Rattle.rs_catalog.specs.Catalog.{CatalogDef}
use Rattle.rs_query.specs.Answers.{weights_of, worth_of}
use Rattle.rs_query.specs.declared.block.Block.{Block}
use Rattle.rs_query.specs.declared.term.Term.{Term}
use Rattle.rs_sample.specs.Choosing.{sampled_choices}
use Rattle.rs_sample.specs.Quotients.{most_expected, product_inside}
use Rattle.rs_sample.specs.Sampling.{worths_by_term}
use Rattle.rs_sample.proofs.CardFacts.{map-at}
use Rattle.rs_sample.proofs.GridFacts.{each-push-at}
use Rattle.rs_sample.proofs.MemberFacts.{length-choices}
use Rattle.rs_sample.proofs.SixFacts.{length-at}

module _ (block : Block) (sizes sampled : List ℕ) (worths : List (List ℕ)) (cutoff : ℕ) where
  -- the number of the index of a term at a place
  abbrev pub index_number : ℕ → Term → ℕ
  index_number place t =
      div_ceil (length (filter (λ worth. nat_le cutoff (t.weight * worth + rest (weights_of block) (2 ^ place))) (get_or worths place [])) * product_inside t.entries sizes)
      (product_inside t.entries sampled)

  module _ (numbers more : List ℕ) (place number : ℕ) (term : Term) (pushed : more ≡ numbers ++ number ∷ []) (count : length numbers ≡ place) (at : slice_get block.terms place ≡ Some term) where
    pub next-value : ((k : ℕ) (t : Term) → k < place → slice_get block.terms k ≡ Some t → get_or numbers k 0 ≡ index_number k t) → number ≡ index_number place term
        → (k : ℕ) (t : Term) → k < place + 1 → slice_get block.terms k ≡ Some t → get_or more k 0 ≡ index_number k t
    next-value before here k t within at_t =
        ap (λ ns. get_or ns k 0) pushed
        ∙ each-push-at (λ j n. (u : Term) → slice_get block.terms j ≡ Some u → n ≡ index_number j u) numbers number 0 place count (λ j less u at_u. before j u less at_u)
        (λ u at_u. (let same : term ≡ u = cc in subst (λ v. number ≡ index_number place v) same here)) k within t at_t

    pub next-limit : ((k : ℕ) (t : Term) → k < place → slice_get block.terms k ≡ Some t → get_or numbers k 0 ≤ most_expected t.entries) → number ≤ most_expected term.entries
        → (k : ℕ) (t : Term) → k < place + 1 → slice_get block.terms k ≡ Some t → get_or more k 0 ≤ most_expected t.entries
    next-limit before here k t within at_t =
        subst (λ ns. get_or ns k 0 ≤ most_expected t.entries) (sym pushed)
        (each-push-at (λ j n. (u : Term) → slice_get block.terms j ≡ Some u → n ≤ most_expected u.entries) numbers number 0 place count (λ j less u at_u. before j u less at_u)
        (λ u at_u. (let same : term ≡ u = cc in subst (λ v. number ≤ most_expected v.entries) same here)) k within t at_t)

-- as many worths of a term as choices among the samples of its entries
pub worths-count : (worths samples : List (List ℕ)) (terms : List Term) → map length worths ≡ map (λ (t : Term). length (sampled_choices t.entries samples)) terms
    → (place : ℕ) (t : Term) → slice_get terms place ≡ Some t → length (get_or worths place []) ≡ product_inside t.entries (map length samples)
worths-count worths samples terms same place t at =
    sym (length-at worths place) ∙ ap (λ ns. get_or ns place 0) same ∙ map-at (λ (u : Term). length (sampled_choices u.entries samples)) terms place t 0 at
    ∙ length-choices t.entries samples

-- each number is within the limit of its term, also past the last one
pub index-limits : (terms : List Term) (numbers : List ℕ) → length numbers ≡ length terms
    → ((place : ℕ) (t : Term) → slice_get terms place ≡ Some t → get_or numbers place 0 ≤ most_expected t.entries)
    → (n : ℕ) → get_or numbers n 0 ≤ most_expected (get_or (map (λ (t : Term). t.entries) terms) n 0)
index-limits [] [] count limits n = omega arith
index-limits [] (number ∷ numbers) count limits n = absurd (omega arith)
index-limits (t ∷ terms) [] count limits n = absurd (omega arith)
index-limits (t ∷ terms) (number ∷ numbers) count limits zero = limits zero t refl
index-limits (t ∷ terms) (number ∷ numbers) count limits (suc n) = index-limits terms numbers (omega arith) (λ place u at. limits (suc place) u at) n

pub worths-lengths : (answer : Answering) (catalogue : CatalogDef) (block : Block) (samples worths : List (List ℕ)) → worths ≡ worths_by_term answer catalogue block samples
    → map length worths ≡ map (λ (t : Term). length (sampled_choices t.entries samples)) block.terms
worths-lengths answer catalogue block samples worths are = ap (map length) are ∙ go block.terms where
  go : (terms : List Term) → map length (map (λ (t : Term). map (λ rows. worth_of answer catalogue block rows t) (sampled_choices t.entries samples)) terms)
      ≡ map (λ (t : Term). length (sampled_choices t.entries samples)) terms
  go [] = refl
  go (t ∷ terms) = ap₂ (λ n ns. n ∷ ns) (length-map (sampled_choices t.entries samples) (λ rows. worth_of answer catalogue block rows t)) (go terms)

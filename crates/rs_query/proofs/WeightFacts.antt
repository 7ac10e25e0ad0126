-- The weights of a block, one term at a time.
use Rattle.std.proofs.Common.{ℕ, zero, suc, ◌≡◌, ◌∙◌, ◌+◌, ◌<◌, ◌≤◌, ◌++◌, List, [], ◌∷◌, length, map, set, take, get_or, refl, sym, ap, arith}
use Rattle.std.specs.List.{AllByRecursion}
use Rattle.std.proofs.lemmas.List.{length-map, length-set, length-take-le, map-append, take_more}
use Rattle.rs_rank.specs.Weights.{IsWeights}
use Rattle.rs_rank.specs.declared.weights.Weights.{Weights}
use Rattle.rs_query.specs.declared.term.Term.{Term}
use Rattle.rs_query.specs.Answers.{padded}

-- a number at the first place behind some numbers
padded-set : (n : ℕ) (numbers : List ℕ) (number : ℕ) → length numbers < n → set (padded n numbers) (length numbers) number ≡ padded n (numbers ++ number ∷ [])
padded-set zero numbers number within = absurd (omega arith)
padded-set (suc n) [] number within = refl
padded-set (suc n) (first ∷ numbers) number within = ap (λ rest. first ∷ rest) (padded-set n numbers number (omega arith))

-- what one more term has
pub padded-more : (f : Term → ℕ) (terms : List Term) (place : ℕ) (term : Term) (numbers : List ℕ) → place < length terms → length terms ≤ 8
    → term ≡ get_or terms place term → numbers ≡ padded 8 (map f (take place terms)) → set numbers place (f term) ≡ padded 8 (map f (take (place + 1) terms))
padded-more f terms place term numbers within few is so_far =
    let count : length (map f (take place terms)) ≡ place = length-map (take place terms) f ∙ length-take-le place terms (omega arith) in
    let more : map f (take (place + 1) terms) ≡ map f (take place terms) ++ f term ∷ [] =
    ap (map f) (take_more terms place term within ∙ ap (λ t. take place terms ++ t ∷ []) (sym is)) ∙ map-append f (take place terms) (term ∷ []) in
    ap (λ ns. set ns place (f term)) so_far
    ∙ ap (λ i. set (padded 8 (map f (take place terms))) i (f term)) (sym count)
    ∙ padded-set 8 (map f (take place terms)) (f term) (omega arith)
    ∙ ap (padded 8) (sym more)

-- what holds of each number holds of each once one is put in that it holds of
AllByRecursion-set : {A : Type 0} (P : A → Type 0) (xs : List A) (i : ℕ) (x : A) → AllByRecursion P xs → P x → AllByRecursion P (set xs i x)
AllByRecursion-set P [] i x all here = tt
AllByRecursion-set P (y ∷ xs) zero x all here = (here, all.1)
AllByRecursion-set P (y ∷ xs) (suc i) x all here = (all.0, AllByRecursion-set P xs i x all.1 here)

-- weights stay within their limits
pub IsWeights-set : (weights made : Weights) (place weight max : ℕ) → IsWeights weights → made.weight ≡ set weights.weight place weight → made.max ≡ set weights.max place max
    → weight ≤ 1000000 → max ≤ 4294967295 → IsWeights made
IsWeights-set weights made place weight max is weight_is max_is low small = record {
  weight_count = ap length weight_is ∙ length-set weights.weight place weight ∙ is.weight_count;
  max_count = ap length max_is ∙ length-set weights.max place max ∙ is.max_count;
  weight_limit = rw weight_is (AllByRecursion-set (λ n. n ≤ 1000000) weights.weight place weight is.weight_limit low);
  max_limit = rw max_is (AllByRecursion-set (λ n. n ≤ 4294967295) weights.max place max is.max_limit small);
}

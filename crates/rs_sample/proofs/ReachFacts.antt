-- Counts of the masks of terms under which a bound reaches the cutoff, one mask after another.
use Rattle.std.proofs.Common.{ℕ, ◌≡◌, ◌∙◌, ◌+◌, ◌<◌, ◌≤◌, Bool, true, false, cond, List, length, get_or, nat_le, set, refl, ap, subst, inl, inr, arith}
use Rattle.std.specs.Int.{from_bool}
use Rattle.std.proofs.lemmas.Bool.{cases_lt}
use Rattle.std.proofs.lemmas.List.{length-set}
use Rattle.rs_rank.specs.Weights.{bound}
use Rattle.rs_rank.specs.declared.weights.Weights.{Weights}
use Rattle.rs_sample.proofs.SixFacts.{set-here, set-there}

-- a truth value as a number
pub byte-if : (b : Bool) → from_bool b ≡ cond b 1 0
byte-if true = refl
byte-if false = refl

pub byte-one : (b : Bool) → from_bool b ≤ 1
byte-one true = omega arith
byte-one false = omega arith

module _ (weights : Weights) (worths : List ℕ) (cutoff : ℕ) where
  -- one where the bound reaches the cutoff
  abbrev pub one_if : ℕ → ℕ
  one_if terms = cond (nat_le cutoff (bound weights terms worths)) 1 0

  -- the masks in front of this one were counted, and the others weren't
  pub record CountedTo (old new : List ℕ) (terms : ℕ) : Type 0 where
    pub count : length new ≡ length old
    pub reached : (k : ℕ) → k < terms → get_or new k 0 ≡ get_or old k 0 + one_if k
    pub others : (k : ℕ) → terms ≤ k → get_or new k 0 ≡ get_or old k 0

  -- one more mask was counted
  pub CountedTo-more : (old new : List ℕ) (terms number : ℕ) → terms < length new → number ≡ get_or new terms 0 + one_if terms → CountedTo old new terms
      → CountedTo old (set new terms number) (terms + 1)
  CountedTo-more old new terms number within is counted = record {
    count = length-set new terms number ∙ counted.count;
    reached = λ k less. elim (cases_lt k terms) [
      | inl before ↦ set-there new terms k number (inl before) ∙ counted.reached k before
      | inr behind ↦
          let same : terms ≡ k = omega arith in
          subst (λ n. get_or (set new terms number) n 0 ≡ get_or old n 0 + one_if n) same
          (set-here new terms number within ∙ is ∙ ap (λ n. n + one_if terms) (counted.others terms (omega arith)))
    ];
    others = λ k least. set-there new terms k number (inr (omega arith)) ∙ counted.others k (omega arith);
  }

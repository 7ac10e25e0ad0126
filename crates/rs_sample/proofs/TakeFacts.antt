-- Algorithm S by the words of a generator, one word at a time.
use Rattle.std.proofs.Common.{ℕ, zero, suc, ◌≡◌, ◌∙◌, ◌+◌, ◌-◌, ◌%◌, ◌<◌, ◌≤◌, Bool, true, false, List, [], ◌∷◌, ◌++◌, length, nat_lt, refl, sym, ap, ap₂, append_assoc, arith}
use Rattle.std.specs.List.{AllByRecursion}
use Rattle.rand_core.specs.Steps.{first_words}
use Rattle.rs_order.proofs.EachFacts.{each-weaker}
use Rattle.rs_sample.specs.Samples.{IsSample}
use Rattle.rs_sample.specs.Taking.{still_needed, taken_from, with_row}

-- rows that are taken behind others
abbrev pub taken_behind : List ℕ → List ℕ × List ℕ → List ℕ × List ℕ
taken_behind made taken = (made ++ taken.0, taken.1)

-- where none is needed, none is taken
pub taken-none : (row unseen : ℕ) (words : List ℕ) → taken_from row unseen 0 words ≡ ([], words)
unfolding taken_from
taken-none row zero words = refl
taken-none row (suc others) words = refl

module _ {S : Type 0} (step : S → ℕ × S) where
  -- one word
  taken-word : (row others more left : ℕ) (s : S)
      → taken_from row (suc others) (suc more) (first_words step (suc left) s)
      ≡ with_row (nat_lt ((step s).0 % suc others) (suc more)) row
      (taken_from (suc row) others (still_needed (nat_lt ((step s).0 % suc others) (suc more)) more) (first_words step left (step s).1))
  unfolding taken_from first_words
  taken-word row others more left s = refl

  taken-here : (row others more left : ℕ) (made : List ℕ) (s : S) → nat_lt ((step s).0 % suc others) (suc more) ≡ true
      → taken_behind made (taken_from row (suc others) (suc more) (first_words step (suc left) s))
      ≡ taken_behind (made ++ row ∷ []) (taken_from (suc row) others more (first_words step left (step s).1))
  taken-here row others more left made s takes =
      let behind = taken_from (suc row) others more (first_words step left (step s).1) in
      ap (taken_behind made) (taken-word row others more left s
      ∙ ap (λ b. with_row b row (taken_from (suc row) others (still_needed b more) (first_words step left (step s).1))) takes)
      ∙ ap (λ rows. (rows, behind.1)) (sym (append_assoc made (row ∷ []) behind.0))

  taken-past : (row others more left : ℕ) (made : List ℕ) (s : S) → nat_lt ((step s).0 % suc others) (suc more) ≡ false
      → taken_behind made (taken_from row (suc others) (suc more) (first_words step (suc left) s))
      ≡ taken_behind made (taken_from (suc row) others (suc more) (first_words step left (step s).1))
  taken-past row others more left made s passes =
      ap (taken_behind made) (taken-word row others more left s
      ∙ ap (λ b. with_row b row (taken_from (suc row) others (still_needed b more) (first_words step left (step s).1))) passes)

  module _ (size seen missing count : ℕ) (made : List ℕ) (s : S) (within : seen < size) (enough : size ≤ count) (some : 0 < missing) where
    unseen-is : size - seen ≡ suc (size - suc seen)
    unseen-is = omega arith

    missing-is : missing ≡ suc (missing - 1)
    missing-is = omega arith

    left-is : count - seen ≡ suc (count - suc seen)
    left-is = omega arith

    shifted : taken_behind made (taken_from (suc seen) (size - seen) missing (first_words step (count - seen) s))
        ≡ taken_behind made (taken_from (suc seen) (suc (size - suc seen)) (suc (missing - 1)) (first_words step (suc (count - suc seen)) s))
    shifted =
        ap (λ n. taken_behind made (taken_from (suc seen) n missing (first_words step (count - seen) s))) unseen-is
        ∙ ap (λ n. taken_behind made (taken_from (suc seen) (suc (size - suc seen)) n (first_words step (count - seen) s))) missing-is
        ∙ ap (λ n. taken_behind made (taken_from (suc seen) (suc (size - suc seen)) (suc (missing - 1)) (first_words step n s))) left-is

    test-is : (b : Bool) → nat_lt ((step s).0 % (size - seen)) missing ≡ b → nat_lt ((step s).0 % suc (size - suc seen)) (suc (missing - 1)) ≡ b
    test-is b e = ap₂ (λ n m. nat_lt ((step s).0 % n) m) (sym unseen-is) (sym missing-is) ∙ e

    -- the next row is taken
    pub taken-next : nat_lt ((step s).0 % (size - seen)) missing ≡ true
        → taken_behind made (taken_from (suc seen) (size - seen) missing (first_words step (count - seen) s))
        ≡ taken_behind (made ++ suc seen ∷ []) (taken_from (suc (suc seen)) (size - suc seen) (missing - 1) (first_words step (count - suc seen) (step s).1))
    taken-next takes = shifted ∙ taken-here (suc seen) (size - suc seen) (missing - 1) (count - suc seen) made s (test-is true takes)

    -- it isn't
    pub passed-next : nat_lt ((step s).0 % (size - seen)) missing ≡ false
        → taken_behind made (taken_from (suc seen) (size - seen) missing (first_words step (count - seen) s))
        ≡ taken_behind made (taken_from (suc (suc seen)) (size - suc seen) missing (first_words step (count - suc seen) (step s).1))
    passed-next passes =
        shifted ∙ taken-past (suc seen) (size - suc seen) (missing - 1) (count - suc seen) made s (test-is false passes)
        ∙ ap (λ n. taken_behind made (taken_from (suc (suc seen)) (size - suc seen) n (first_words step (count - suc seen) (step s).1))) (sym missing-is)

-- what holds of rows that are taken: they are among those still to see, and no more than are needed
pub record AreTaken (row unseen needed : ℕ) (rows : List ℕ) : Type 0 where
  pub few : length rows ≤ needed
  pub no_more : length rows ≤ unseen
  pub within : AllByRecursion (λ r. (row ≤ r) × (r < row + unseen)) rows

taken-once : (row others more : ℕ) (b : Bool) (later : List ℕ × List ℕ) → AreTaken (suc row) others (still_needed b more) later.0
    → AreTaken row (suc others) (suc more) (with_row b row later).0
taken-once row others more true later are = record {
  few = let n = are.few in omega arith;
  no_more = let n = are.no_more in omega arith;
  within = (
    (omega arith, omega arith),
    each-weaker (λ r. (suc row ≤ r) × (r < suc row + others)) (λ r. (row ≤ r) × (r < row + suc others)) (λ r is. (omega (arith, is.0), omega (arith, is.1))) later.0 are.within,
  );
}
taken-once row others more false later are = record {
  few = are.few;
  no_more = let n = are.no_more in omega arith;
  within =
      each-weaker (λ r. (suc row ≤ r) × (r < suc row + others)) (λ r. (row ≤ r) × (r < row + suc others)) (λ r is. (omega (arith, is.0), omega (arith, is.1))) later.0 are.within;
}

taken-are : (row unseen needed : ℕ) (words : List ℕ) → AreTaken row unseen needed (taken_from row unseen needed words).0
unfolding taken_from
taken-are row zero needed words = record { few = omega arith; no_more = omega arith; within = tt }
taken-are row (suc others) zero words = record { few = omega arith; no_more = omega arith; within = tt }
taken-are row (suc others) (suc more) [] = record { few = omega arith; no_more = omega arith; within = tt }
taken-are row (suc others) (suc more) (word ∷ words) =
    let takes = nat_lt (word % suc others) (suc more) in
    taken-once row others more takes (taken_from (suc row) others (still_needed takes more) words)
    (taken-are (suc row) others (still_needed takes more) words)

-- they are a sample
pub IsSample-taken : (size needed : ℕ) (words : List ℕ) → IsSample needed size (taken_from 1 size needed words).0
IsSample-taken size needed words =
    let are = taken-are 1 size needed words in
    record {
      few = are.few;
      no_more = are.no_more;
      within = each-weaker (λ r. (1 ≤ r) × (r < 1 + size)) (λ r. (1 ≤ r) × (r ≤ size)) (λ r is. (is.0, omega (arith, is.1))) (taken_from 1 size needed words).0 are.within;
    }

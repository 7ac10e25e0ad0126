-- Keys that are new, and how many there are.
use Rattle.std.proofs.Common.{◌≡◌, ℕ, zero, suc, ◌+◌, ◌*◌, ◌%◌, ◌<◌, ◌||◌, false, List, [], ◌∷◌, refl, sym, ◌∙◌, ap, arith}
use Rattle.std.proofs.lemmas.Cmp.{ranked}
use Rattle.std.specs.List.{AllByRecursion}
use Rattle.std.specs.Ordering.{is_eq, nat_cmp}
use Rattle.std.specs.declared.cmp.Ordering.TheVariants.{Less, Equal, Greater}
use Rattle.rs_order.specs.Sorting.{put}
use Rattle.rs_order.proofs.EachFacts.{each-weaker}
use Rattle.rs_order.proofs.SortingFacts.{each-put}
use Rattle.rs_queue.specs.Queue.{has_key}
use Rattle.cases_data.specs.Work.{filled, number_at, worked}

-- each key ends in a number below n
abbrev pub AreBelow : ℕ → List (ℕ × ℕ) → Type 0
AreBelow n pairs = AllByRecursion (λ pair. pair.0 % 2097152 < n) pairs

-- a key that ends in n isn't there
pub has_key-new : (number n : ℕ) (pairs : List (ℕ × ℕ)) → n < 2097152 → AreBelow n pairs → has_key nat_cmp (number * 2097152 + n) pairs ≡ false
has_key-new number n [] small below = refl
has_key-new number n (pair ∷ rest) small below =
    ap (λ b. b || has_key nat_cmp (number * 2097152 + n) rest) (differs pair.0 below.0) ∙ has_key-new number n rest small below.1
  where
    differs : (key : ℕ) → key % 2097152 < n → is_eq (nat_cmp key (number * 2097152 + n)) ≡ false
    differs key less =
        (elim (nat_cmp key (number * 2097152 + n)) as (λ o. nat_cmp key (number * 2097152 + n) ≡ o → is_eq o ≡ false) [
          | Less ↦ λ e. refl
          | Equal ↦ λ e. let same : key ≡ number * 2097152 + n = ranked key (number * 2097152 + n) Equal (sym e) in absurd (omega arith)
          | Greater ↦ λ e. refl
        ]) refl

-- and once it is there all end in numbers below the next
pub AreBelow-push : (number n item : ℕ) (pairs : List (ℕ × ℕ)) → n < 2097152 → AreBelow n pairs → AreBelow (n + 1) (put nat_cmp (λ pair. pair.0) (number * 2097152 + n, item) pairs)
AreBelow-push number n item pairs small below =
    each-put nat_cmp (λ pair. pair.0) (λ pair. pair.0 % 2097152 < n + 1) (number * 2097152 + n, item) pairs (omega arith)
    (each-weaker (λ pair. pair.0 % 2097152 < n) (λ pair. pair.0 % 2097152 < n + 1) (λ pair less. omega arith) pairs below)

-- the generator's next number
pub number_at-more : (n : ℕ) → number_at (n + 1) ≡ 16807 * number_at n % 2147483647
number_at-more n = let e : n + 1 ≡ suc n = omega arith in ap number_at e

-- as many pairs were put in as there were pushes
pub count-filled : (size n : ℕ) → (filled size n).count ≡ n
count-filled size zero = refl
count-filled size (suc n) = ap suc (count-filled size n)

pub count-worked : (size n : ℕ) → (worked size n).count ≡ size + n
count-worked size zero = let e = count-filled size size in omega arith
count-worked size (suc n) = let e = count-worked size n in omega arith

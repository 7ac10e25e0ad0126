-- The sum of the counts of the first lists.
use Rattle.std.proofs.Common.{◌≡◌, ◌∙◌, ℕ, zero, suc, ◌+◌, ◌-◌, ◌<◌, ◌≤◌, List, [], ◌∷◌, length, map, sum, take, get_or, refl, sym, ap, ap₂, arith}
use Rattle.std.proofs.lemmas.List.Sums.{sum_by-cons}
use Rattle.rs_order.specs.Schedule.{numbers_from}
use Rattle.rs_ta.specs.Lists.{count_in, total}

-- numbers that a function gives, one after another
sum-numbers : (xs : List ℕ) (f : ℕ → ℕ) (first count : ℕ) → count ≤ length xs → ((place : ℕ) → place < count → f (first + place) ≡ get_or xs place 0)
    → sum (take count xs) ≡ sum (map f (numbers_from first count))
sum-numbers xs f first zero few same = refl
sum-numbers [] f first (suc count) few same = absurd (omega arith)
sum-numbers (x ∷ xs) f first (suc count) few same =
    let here : first ≡ first + 0 = omega arith in
    sum_by-cons (λ n. n) x (take count xs)
    ∙ ap₂ (λ y rest. y + rest) (sym (ap f here ∙ same 0 (omega arith)))
    (sum-numbers xs f (suc first) count (omega arith) (λ place within.
    let next : suc first + place ≡ first + suc place = omega arith in
    ap f next ∙ same (suc place) (omega arith)))
    ∙ sym (sum_by-cons (λ n. n) (f first) (map f (numbers_from (suc first) count)))

pub total-counts : (counts : List ℕ) (lists : ℕ) → lists ≤ length counts → sum (take lists counts) ≡ total lists (count_in counts)
total-counts counts lists few =
    sum-numbers counts (count_in counts) 1 lists few (λ place within. let at : 1 + place - 1 ≡ place = omega arith in ap (λ n. get_or counts n 0) at)

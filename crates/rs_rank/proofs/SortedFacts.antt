-- The stable order is the sorted order by scores, and that by keys where the ids of the rows rise.
use Rattle.std.proofs.Common.{◌≡◌, ℕ, ◌+◌, ◌<◌, Bool, true, false, cond, nat_le, List, [], ◌∷◌, refl, ◌∙◌, ap, subst, arith, rules}
use Rattle.std.proofs.lemmas.Bool.Decides.{nat_tests}
use Rattle.std.proofs.lemmas.Cmp.{ranked}
use Rattle.std.specs.Cmp.{IsTotalOrder, nat_cmp_is}
use Rattle.std.specs.Cmp.Rules.{comparing}
use Rattle.std.specs.Ordering.{MatchOrdering, flip_args, is_lt, nat_cmp, on, ordering_then, then_cmp}
use Rattle.std.specs.declared.cmp.Ordering.{Ordering}
use Rattle.std.specs.declared.cmp.Ordering.TheVariants.{Less, Equal, Greater}
use Rattle.rs_order.specs.Climbing.{Climbs}
use Rattle.rs_order.specs.Sorting.{put, put_each, sorted}
use Rattle.rs_order.proofs.SortingFacts.{sorted-places}
use Rattle.rs_rank.specs.declared.row.RankRow.{RankRow}
use Rattle.rs_rank.specs.declared.weights.Weights.{Weights}
use Rattle.rs_rank.specs.Keys.{ids_cmp, key_cmp}
use Rattle.rs_rank.specs.Rows.{key_of}
use Rattle.rs_rank.specs.Stable.{put_all, put_behind, stable}
use Rattle.rs_rank.specs.Weights.{rest}

-- a choice is the turned choice by the opposite test
choice-turned : {X : Type 0} (t u : Bool) (xs ys zs : List X) → cond t false true ≡ u → xs ≡ zs → cond t xs ys ≡ cond u ys zs
choice-turned true u xs ys zs e same = subst (λ b. xs ≡ cond b ys zs) e same
choice-turned false u xs ys zs e same = subst (λ b. ys ≡ cond b ys zs) e refl

-- a number is at most another one where the other one isn't strictly below it
at_most-lower : (a b : ℕ) → cond (nat_le a b) false true ≡ is_lt (nat_cmp b a)
at_most-lower a b = grind (arith, nat_tests)

-- a row that is put behind all of its score or above is put in by its score
put_behind-put : {T : Type 0} (score : T → ℕ) (row : T) (rows : List T) → put_behind score row rows ≡ put (flip_args nat_cmp) score row rows
put_behind-put score row [] = refl
put_behind-put score row (first ∷ rows) =
    choice-turned (nat_le (score row) (score first)) (is_lt (nat_cmp (score first) (score row))) (first ∷ put_behind score row rows) (row ∷ first ∷ rows) (first ∷ put (flip_args nat_cmp) score row rows)
    (at_most-lower (score row) (score first))
    (ap (λ list. first ∷ list) (put_behind-put score row rows))

put_all-put_each : {T : Type 0} (score : T → ℕ) (ordered rows : List T) → put_all score ordered rows ≡ put_each (flip_args nat_cmp) score ordered rows
put_all-put_each score ordered [] = refl
put_all-put_each score ordered (row ∷ rows) =
    put_all-put_each score (put_behind score row ordered) rows
    ∙ ap (λ list. put_each (flip_args nat_cmp) score list rows) (put_behind-put score row ordered)

-- the stable order is the list sorted by score, the greater score first
pub stable-by_score : {T : Type 0} (score : T → ℕ) (rows : List T) → stable score rows ≡ sorted (flip_args nat_cmp) score rows
stable-by_score score rows = put_all-put_each score [] rows

-- two keys that are compared alike put items in at the same places
module _ {X K L : Type 0} (cmp : K → K → Ordering) (key : X → K) (by : L → L → Ordering) (other : X → L) (alike : (x y : X) → cmp (key x) (key y) ≡ by (other x) (other y)) where
  put-alike : (x : X) (ys : List X) → put cmp key x ys ≡ put by other x ys
  put-alike x [] = refl
  put-alike x (y ∷ ys) =
      subst (λ r. put cmp key x (y ∷ ys) ≡ cond (is_lt r) (x ∷ y ∷ ys) (y ∷ put by other x ys)) (alike x y)
      (ap (λ list. cond (is_lt (cmp (key x) (key y))) (x ∷ y ∷ ys) (y ∷ list)) (put-alike x ys))

  put_each-alike : (ordered xs : List X) → put_each cmp key ordered xs ≡ put_each by other ordered xs
  put_each-alike ordered [] = refl
  put_each-alike ordered (x ∷ xs) =
      put_each-alike (put cmp key x ordered) xs
      ∙ ap (λ list. put_each by other list xs) (put-alike x ordered)

  sorted-alike : (xs : List X) → sorted cmp key xs ≡ sorted by other xs
  sorted-alike xs = put_each-alike [] xs

-- numbers compare as they do with one number added to both
nat_cmp-added : (a b c : ℕ) → nat_cmp a b ≡ nat_cmp (a + c) (b + c)
nat_cmp-added a b c =
    added (nat_cmp a b) (ranked a b (nat_cmp a b) refl)
  where
    added : (r : Ordering) → MatchOrdering r (a < b) (a ≡ b) (b < a) → r ≡ nat_cmp (a + c) (b + c)
    added Less before = nat_cmp_is (a + c) (b + c) Less (omega arith)
    added Equal same = nat_cmp_is (a + c) (b + c) Equal (omega arith)
    added Greater after = nat_cmp_is (a + c) (b + c) Greater (omega arith)

-- the order of ids is total
pub ids_cmp-total : IsTotalOrder ids_cmp
ids_cmp-total = search (comparing, rules) depth 9

-- keys under the same terms compare as the sums and then the ids
sum_then_ids : (weights : Weights) (terms : ℕ) (row other : RankRow) → then_cmp (on (λ (r : RankRow). r.sum) (flip_args nat_cmp)) (on (λ (r : RankRow). r.ids) ids_cmp) row other ≡ key_cmp (key_of weights terms row) (key_of weights terms other)
sum_then_ids weights terms row other =
    ap (λ bounds. ordering_then bounds (ids_cmp row.ids other.ids)) (nat_cmp-added other.sum row.sum (rest weights terms))

-- the stable order of rows whose ids rise is their order by keys
pub stable-by_key : (weights : Weights) (terms : ℕ) (rows : List RankRow) → Climbs ids_cmp (λ row. row.ids) rows → stable (λ row. row.sum) rows ≡ sorted key_cmp (key_of weights terms) rows
stable-by_key weights terms rows climbs =
    stable-by_score (λ row. row.sum) rows
    ∙ sorted-places (flip_args nat_cmp) (λ row. row.sum) ids_cmp ids_cmp-total (λ row. row.ids) rows climbs
    ∙ sorted-alike (then_cmp (on (λ (r : RankRow). r.sum) (flip_args nat_cmp)) (on (λ (r : RankRow). r.ids) ids_cmp)) (λ row. row) key_cmp (key_of weights terms) (sum_then_ids weights terms) rows

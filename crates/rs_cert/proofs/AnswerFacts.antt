-- The answers of two lists of rows: their order, and which they are.
use Rattle.std.proofs.Common.{◌≡◌, ℕ, suc, ◌+◌, true, ◌<◌, ◌≤◌, List, [], ◌∷◌, Some, slice_get, refl, sym, ◌∙◌, subst, arith, rules}
use Rattle.std.proofs.lemmas.Cmp.{ranked}
use Rattle.std.specs.Cmp.{IsTotalOrder}
use Rattle.std.specs.Cmp.Rules.{comparing}
use Rattle.std.specs.Ordering.{MatchOrdering, flip_args, nat_cmp, ordering_then}
use Rattle.std.specs.Str.{bytes_eq}
use Rattle.std.specs.declared.cmp.Ordering.{Ordering}
use Rattle.std.specs.declared.cmp.Ordering.TheVariants.{Less, Equal, Greater}
use Rattle.rs_feed.specs.declared.feed_row.FeedRow.{FeedRow}
use Rattle.rs_order.specs.Climbing.{Climbs, Differs, HasDistinctKeys, In, Precedes}
use Rattle.rs_order.specs.Sorting.{sorted}
use Rattle.rs_order.proofs.EachFacts.{each-weaker}
use Rattle.rs_order.proofs.SortingFacts.{Climbs-sorted, In-sorted, In-sorted-back, sorted-places}
use Rattle.rs_rank.proofs.SortedFacts.{stable-by_score}
use Rattle.rs_cert.specs.declared.pair.Pair.{Pair}
use Rattle.rs_cert.specs.Pairs.{answers, numbers_cmp, pair_cmp, pairs_from}
use Rattle.rs_cert.proofs.PairFacts.{Climbs-pairs, In-pairs, In-pairs-back, IsPair, numbers_cmp-total, pair_of}

-- the order of pairs is total
pub pair_cmp-total : IsTotalOrder pair_cmp
pair_cmp-total = search (comparing, rules) depth 9

-- a pair of no greater sum comes behind one with lesser numbers
pub behind-sum : (a b : Pair) → b.sum ≤ a.sum → numbers_cmp a b ≡ Less → pair_cmp a b ≡ Less
behind-sum a b most before = by (nat_cmp b.sum a.sum) (ranked b.sum a.sum (nat_cmp b.sum a.sum) refl)
  where
    by : (r : Ordering) → MatchOrdering r (b.sum < a.sum) (b.sum ≡ a.sum) (a.sum < b.sum) → ordering_then r (numbers_cmp a b) ≡ Less
    by Less below = refl
    by Equal same = before
    by Greater above = absurd (omega arith)

-- pairs of other numbers aren't equal
differs : (a b : Pair) → numbers_cmp a b ≡ Less → Differs pair_cmp (λ pair. pair) a b
differs a b before = by (nat_cmp b.sum a.sum)
  where
    by : (r : Ordering) → ordering_then r (numbers_cmp a b) ≡ Equal → ⊥
    by Less e = cc
    by Equal e = cc
    by Greater e = cc

distinct : (pairs : List Pair) → Climbs numbers_cmp (λ pair. pair) pairs → HasDistinctKeys pair_cmp (λ pair. pair) pairs
distinct [] climbs = tt
distinct (pair ∷ pairs) climbs = (
  each-weaker (Precedes numbers_cmp (λ p. p) pair) (Differs pair_cmp (λ p. p) pair) (differs pair) pairs climbs.0,
  distinct pairs climbs.1,
)

-- the answers are the pairs in their order
pub answers-sorted : (lefts rights : List FeedRow) → answers lefts rights ≡ sorted pair_cmp (λ pair. pair) (pairs_from 1 lefts rights)
answers-sorted lefts rights =
    stable-by_score (λ (pair : Pair). pair.sum) (pairs_from 1 lefts rights)
    ∙ sorted-places (flip_args nat_cmp) (λ (pair : Pair). pair.sum) numbers_cmp numbers_cmp-total (λ pair. pair) (pairs_from 1 lefts rights) (Climbs-pairs 1 lefts rights)

-- they rise
pub Climbs-answers : (lefts rights : List FeedRow) → Climbs pair_cmp (λ pair. pair) (answers lefts rights)
Climbs-answers lefts rights =
    subst (λ list. Climbs pair_cmp (λ pair. pair) list) (sym (answers-sorted lefts rights))
    (Climbs-sorted pair_cmp pair_cmp-total (λ pair. pair) (pairs_from 1 lefts rights) (distinct (pairs_from 1 lefts rights) (Climbs-pairs 1 lefts rights)))

-- each is a pair of two rows of the same text, and each such pair is one
pub In-answers-back : (lefts rights : List FeedRow) (pair : Pair) → In pair (answers lefts rights) → IsPair 1 lefts rights pair
In-answers-back lefts rights pair h =
    In-pairs-back 1 lefts rights pair
    (In-sorted-back pair_cmp (λ p. p) (pairs_from 1 lefts rights) pair (subst (λ list. In pair list) (answers-sorted lefts rights) h))

pub In-answers : (lefts rights : List FeedRow) (m n : ℕ) (left right : FeedRow) → slice_get lefts m ≡ Some left → slice_get rights n ≡ Some right → bytes_eq left.join right.join ≡ true → In (pair_of (1 + m) left (suc n) right) (answers lefts rights)
In-answers lefts rights m n left right at other same =
    subst (λ list. In (pair_of (1 + m) left (suc n) right) list) (sym (answers-sorted lefts rights))
    (In-sorted pair_cmp (λ p. p) (pairs_from 1 lefts rights) (pair_of (1 + m) left (suc n) right) (In-pairs 1 lefts rights m n left right at other same))

-- without right rows there is none
pub pairs-no_rights : (i : ℕ) (lefts : List FeedRow) → pairs_from i lefts [] ≡ []
pairs-no_rights i [] = refl
pairs-no_rights i (left ∷ lefts) = pairs-no_rights (suc i) lefts

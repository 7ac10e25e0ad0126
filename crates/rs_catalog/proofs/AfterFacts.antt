-- The entries of an index behind one of them stand together at its end.
use Rattle.std.proofs.Common.{ℕ, ◌≡◌, ◌<◌, ◌&&◌, ◌||◌, Bool, true, false, not, cond, nat_lt, List, [], ◌∷◌, length, drop, get_or, zero, suc, inl, inr, refl, ap, arith, eqb}
use Rattle.std.specs.Prelude.{None, Some, ◌⊎◌}
use Rattle.std.specs.List.{AllWithin, filter}
use Rattle.std.specs.List.Sorted.{IsPartitionedBy}
use Rattle.std.proofs.lemmas.Bool.{cases_lt, false≢true, true≢false}
use Rattle.std.proofs.lemmas.Bool.Decides.{nat_tests}
use Rattle.std.proofs.lemmas.List.Elements.{All-from_recursion, All-get_or}
use Rattle.rs_rank.specs.declared.scored_row.ScoredRow.{ScoredRow}
use Rattle.rs_catalog.specs.After.{is_behind}
use Rattle.rs_catalog.specs.Indexes.{EntriesInOrder, EntryPrecedes}

-- an entry comes before each one behind it
precedes-at : (ranking : List ScoredRow) (i j : ℕ) (d : ScoredRow) → EntriesInOrder ranking → i < j → j < length ranking → EntryPrecedes (get_or ranking i d) (get_or ranking j d)
precedes-at [] i j d ordered less within = absurd (omega arith)
precedes-at (first ∷ rest) i zero d ordered less within = absurd (omega arith)
precedes-at (first ∷ rest) zero (suc j) d ordered less within =
    All-get_or (EntryPrecedes first) rest j d (omega arith) (All-from_recursion (EntryPrecedes first) rest ordered.0)
precedes-at (first ∷ rest) (suc i) (suc j) d ordered less within = precedes-at rest i j d ordered.1 (omega arith) (omega arith)

-- one before an entry that isn't behind isn't behind either
not_behind : (first score row first_row max max_row : ℕ) → (score < first) ⊎ ((first ≡ score) × (first_row < row))
    → (nat_lt score max || (eqb score max && nat_lt max_row row)) ≡ false → (nat_lt first max || (eqb first max && nat_lt max_row first_row)) ≡ false
not_behind first score row first_row max max_row before not_after = grind (arith, nat_tests)

pub partitioned : (ranking : List ScoredRow) (score row : ℕ) → EntriesInOrder ranking → IsPartitionedBy (λ e. not (is_behind (Some (score, row)) e)) ranking
partitioned ranking score row ordered i j d le within holds =
    elim (cases_lt i j) [
      | inl less ↦
          let a = get_or ranking i d in
          let b = get_or ranking j d in
          ap not (not_behind a.score b.score b.row a.row score row (precedes-at ranking i j d ordered less within) (not_true (is_behind (Some (score, row)) b) holds))
      | inr ge ↦ let same : i ≡ j = omega arith in rw same holds
    ]
  where
    not_true : (b : Bool) → not b ≡ true → b ≡ false
    not_true true e = absurd (false≢true e)
    not_true false e = refl

-- a filter that lets the end of a list through, and nothing before it
pub filter-end : (test : ScoredRow → Bool) (ranking : List ScoredRow) (i : ℕ) → AllWithin (λ e. not (test e) ≡ true) ranking 0 i → AllWithin (λ e. not (test e) ≡ false) ranking i (length ranking)
    → filter test ranking ≡ drop i ranking
filter-end test [] zero before behind = refl
filter-end test [] (suc i) before behind = refl
filter-end test (first ∷ rest) zero before behind =
    let here = behind 0 first (omega arith) (omega arith) in
    let others = filter-end test rest zero (λ k d low high. absurd (omega arith)) (λ k d low high. behind (suc k) d (omega arith) (omega arith)) in
    go (test first) refl here others
  where
    go : (b : Bool) → test first ≡ b → not (test first) ≡ false → filter test rest ≡ rest → cond (test first) (first ∷ filter test rest) (filter test rest) ≡ first ∷ rest
    go true is here others = rw (is, others) refl
    go false is here others = let wrong = rw is at here in absurd (true≢false wrong)
filter-end test (first ∷ rest) (suc i) before behind =
    let here = before 0 first (omega arith) (omega arith) in
    let others = filter-end test rest i (λ k d low high. before (suc k) d (omega arith) (omega arith)) (λ k d low high. behind (suc k) d (omega arith) (omega arith)) in
    go (test first) refl here others
  where
    go : (b : Bool) → test first ≡ b → not (test first) ≡ true → filter test rest ≡ drop i rest → cond (test first) (first ∷ filter test rest) (filter test rest) ≡ drop i rest
    go true is here others = let wrong = rw is at here in absurd (false≢true wrong)
    go false is here others = rw is others

-- two filters, the one before the other or behind it
pub filter-swapped : (test other : ScoredRow → Bool) (ranking : List ScoredRow) → filter test (filter other ranking) ≡ filter other (filter test ranking)
filter-swapped test other [] = refl
filter-swapped test other (first ∷ rest) = go (test first) (other first) refl refl (filter-swapped test other rest) where
  go : (b c : Bool) → test first ≡ b → other first ≡ c → filter test (filter other rest) ≡ filter other (filter test rest)
      → filter test (cond (other first) (first ∷ filter other rest) (filter other rest)) ≡ filter other (cond (test first) (first ∷ filter test rest) (filter test rest))
  go true true is also same = rw (is, also, is) (ap (λ others. first ∷ others) same)
  go true false is also same = rw (is, also) same
  go false true is also same = rw (is, also, is) same
  go false false is also same = rw (is, also) same

-- each entry comes behind none
pub filter-none : (ranking : List ScoredRow) → filter (is_behind None) ranking ≡ ranking
filter-none [] = refl
filter-none (first ∷ rest) = ap (λ others. first ∷ others) (filter-none rest)

-- What the parts of a check find.
use Rattle.std.proofs.Common.{◌≡◌, ℕ, suc, ◌-◌, ◌≤◌, not, nat_lt, IsTrue, List, [], ◌∷◌, length, min, take, Option, Some, None, slice_get, refl, sym, ◌∙◌, ap, subst, arith}
use Rattle.std.proofs.lemmas.Bool.Decides.{nat_tests}
use Rattle.std.proofs.lemmas.List.{length-map, length-take}
use Rattle.rs_feed.specs.declared.feed_row.FeedRow.{FeedRow}
use Rattle.rs_order.specs.Asks.{those_before}
use Rattle.rs_order.specs.Last.{last_of}
use Rattle.rs_order.proofs.ReorderFacts.{asks_for-None}
use Rattle.rs_cert.specs.declared.cert.Cert.{Cert}
use Rattle.rs_cert.specs.declared.pair.Pair.{Pair}
use Rattle.rs_cert.specs.Claims.{AreInOrder, claimed, claimed_pair}
use Rattle.rs_cert.specs.Good.{HasFirstPairs, IsAtOrBefore, answers_of, first_answers}
use Rattle.rs_cert.specs.Pairs.{answers, numbers_of, pair_cmp, pairs_from}
use Rattle.rs_cert.proofs.FirstFacts.{are-first, count-answers, count-first, last-first}
use Rattle.rs_cert.proofs.RowFacts.{last_of-at}

-- what isn't greater is at most the other one
pub at_most : (m n : ℕ) → IsTrue (not (nat_lt m n)) → n ≤ m
at_most m n h = grind (arith, nat_tests)

pub not_more : (m n : ℕ) → n ≤ m → IsTrue (not (nat_lt m n))
not_more m n h = grind (arith, nat_tests)

-- how many pairs come before a bar
abbrev pub count_before : Option Pair → List FeedRow → List FeedRow → ℕ
count_before bar lefts rights = length (those_before pair_cmp (λ pair. pair) bar (pairs_from 1 lefts rights))

-- a list that isn't empty has a last item
pub has-last : (pairs : List Pair) (n : ℕ) → length pairs ≡ suc n → (last : Pair) × (last_of pairs ≡ Some last)
has-last [] n e = absurd (omega arith)
has-last (pair ∷ pairs) n e = of (last_of (pair ∷ pairs)) refl
  where
    of : (last : Option Pair) → last_of (pair ∷ pairs) ≡ last → (last : Pair) × (last_of (pair ∷ pairs) ≡ Some last)
    of None e = cc
    of (Some last) e = (last, e)

pub sized : {X : Type 0} (xs : List X) → (xs ≡ [] → ⊥) → length xs ≡ suc (length xs - 1)
sized [] some = absurd (some refl)
sized (x ∷ xs) some = omega arith

module _ (cert : Cert) where
  -- pairs in order that aren't too many are the first answers exactly where no others come before the last one
  module _ (some : cert.pairs ≡ [] → ⊥) (bar : Option Pair) (is_bar : bar ≡ last_of (claimed cert.left.rows cert.right.rows cert.pairs)) where
    pub first-from : AreInOrder cert.left.rows cert.right.rows (claimed cert.left.rows cert.right.rows cert.pairs) → length cert.pairs ≤ cert.k → count_before bar cert.left.rows cert.right.rows ≤ length cert.pairs - 1 → HasFirstPairs cert
    first-from order within most =
        let size : length cert.pairs ≡ suc (length cert.pairs - 1) = sized cert.pairs some in
        let last = has-last (claimed cert.left.rows cert.right.rows cert.pairs) (length cert.pairs - 1) (length-map cert.pairs (claimed_pair cert.left.rows cert.right.rows) ∙ size) in
        let counted : length (those_before pair_cmp (λ p. p) (Some last.0) (answers cert.left.rows cert.right.rows)) ≡ count_before bar cert.left.rows cert.right.rows =
        count-answers cert.left.rows cert.right.rows (Some last.0) ∙ ap (λ b. count_before b cert.left.rows cert.right.rows) (sym last.1 ∙ sym is_bar) in
        record {
          first = are-first cert.left.rows cert.right.rows cert.pairs (length cert.pairs - 1) last.0 size order last.1 (omega arith);
          most = within;
        }

    pub first-back : HasFirstPairs cert → count_before bar cert.left.rows cert.right.rows ≤ length cert.pairs - 1
    first-back first =
        let size : length cert.pairs ≡ suc (length cert.pairs - 1) = sized cert.pairs some in
        let last = has-last (claimed cert.left.rows cert.right.rows cert.pairs) (length cert.pairs - 1) (length-map cert.pairs (claimed_pair cert.left.rows cert.right.rows) ∙ size) in
        let counted : length (those_before pair_cmp (λ p. p) (Some last.0) (answers cert.left.rows cert.right.rows)) ≡ count_before bar cert.left.rows cert.right.rows =
        count-answers cert.left.rows cert.right.rows (Some last.0) ∙ ap (λ b. count_before b cert.left.rows cert.right.rows) (sym last.1 ∙ sym is_bar) in
        let most = count-first cert.left.rows cert.right.rows cert.pairs first.first (length cert.pairs - 1) last.0 size last.1 in
        omega arith

  -- without a pair the first answers are none
  pub first-none : cert.pairs ≡ [] → HasFirstPairs cert
  first-none none = record {
    first = none ∙ ap (λ pairs. numbers_of (take (length pairs) (answers_of cert))) (sym none);
    most = subst (λ pairs. length pairs ≤ cert.k) (sym none) (omega arith);
  }

  -- there are as many answers as pairs without a bar, and no fewer than the first ones
  pub all-counted : count_before None cert.left.rows cert.right.rows ≡ length (answers_of cert)
  all-counted =
      sym (count-answers cert.left.rows cert.right.rows None)
      ∙ (let all = asks_for-None pair_cmp (λ (p : Pair). p) (answers_of cert) in omega arith)

  pub first-many : HasFirstPairs cert → length cert.pairs ≤ length (answers_of cert)
  first-many first =
      let same : length cert.pairs ≡ length (numbers_of (first_answers cert)) = ap length first.first in
      let mapped : length (numbers_of (first_answers cert)) ≡ length (first_answers cert) = length-map (first_answers cert) (λ (p : Pair). (p.left, p.right)) in
      let taken : length (first_answers cert) ≡ min (length cert.pairs) (length (answers_of cert)) = length-take (length cert.pairs) (answers_of cert) in
      omega arith

-- the last row is the one at the last place
pub last_of-slice : (rows : List FeedRow) → slice_get rows (length rows - 1) ≡ last_of rows
last_of-slice [] = refl
last_of-slice (row ∷ rows) = last_of-at (row ∷ rows) (length (row ∷ rows) - 1) (omega arith)

-- equal pairs and rows are reached alike
pub reached-alike : (a b : Option Pair) (i k j n : ℕ) (l m r s : Option FeedRow) → a ≡ b → i ≡ k → l ≡ m → j ≡ n → r ≡ s → IsAtOrBefore a i l j r → IsAtOrBefore b k m n s
reached-alike a b i k j n l m r s e f g h o is =
    subst (λ x. IsAtOrBefore x k m n s) e
    (subst (λ x. IsAtOrBefore a x m n s) f
    (subst (λ x. IsAtOrBefore a i x n s) g
    (subst (λ x. IsAtOrBefore a i l x s) h
    (subst (λ x. IsAtOrBefore a i l j x) o is))))

-- and so are equal claims in order
pub order-alike : (lefts others rights more : List FeedRow) (pairs rest : List (ℕ × ℕ)) → lefts ≡ others → rights ≡ more → pairs ≡ rest → AreInOrder lefts rights (claimed lefts rights pairs) → AreInOrder others more (claimed others more rest)
order-alike lefts others rights more pairs rest e f g order =
    subst (λ l. AreInOrder l more (claimed l more rest)) e (subst (λ r. AreInOrder lefts r (claimed lefts r rest)) f (subst (λ p. AreInOrder lefts rights (claimed lefts rights p)) g order))

pub claimed-alike : (lefts others rights more : List FeedRow) (pairs rest : List (ℕ × ℕ)) → lefts ≡ others → rights ≡ more → pairs ≡ rest → claimed lefts rights pairs ≡ claimed others more rest
claimed-alike lefts others rights more pairs rest e f g = ap (λ l. claimed l rights pairs) e ∙ ap (λ r. claimed others r pairs) f ∙ ap (claimed others more) g

-- the last claimed pair is the last of the first answers
pub last-of_first : (cert : Cert) → HasFirstPairs cert → last_of (claimed cert.left.rows cert.right.rows cert.pairs) ≡ last_of (first_answers cert)
last-of_first cert first = last-first cert.left.rows cert.right.rows cert.pairs first.first

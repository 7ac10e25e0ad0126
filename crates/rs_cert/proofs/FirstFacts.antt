-- Claimed pairs that are the first answers.
use Rattle.std.proofs.Common.{◌≡◌, ℕ, zero, suc, ◌+◌, ◌≤◌, true, cond, List, [], ◌∷◌, get_or, length, min, take, Option, Some, None, slice_get, refl, sym, ◌∙◌, ap, ap₂, subst, inl, inr, arith}
use Rattle.std.proofs.lemmas.Bool.{cases_lt, true≢false}
use Rattle.std.proofs.lemmas.List.{length-map, length-take}
use Rattle.std.proofs.lemmas.List.Sorted.{sum_by-IsPermutation}
use Rattle.std.proofs.lemmas.List.Sums.{length-filter}
use Rattle.std.specs.Ordering.{is_lt}
use Rattle.rs_feed.specs.declared.feed_row.FeedRow.{FeedRow}
use Rattle.rs_order.specs.Asks.{comes_before_bar, those_before}
use Rattle.rs_order.specs.Climbing.{In}
use Rattle.rs_order.specs.Last.{last_of}
use Rattle.rs_order.proofs.AsksFacts.{get_or-asked}
use Rattle.rs_order.proofs.ClimbingFacts.{AllByRecursion-In, AllByRecursion-from_In, cmp-not_itself}
use Rattle.rs_order.proofs.ItemFacts.{In-map-back}
use Rattle.rs_order.proofs.PartFacts.{Climbs-take, In-take, is_lt-Less, last_of-take}
use Rattle.rs_cert.specs.declared.pair.Pair.{Pair}
use Rattle.rs_cert.specs.Claims.{AreInOrder, claimed, claimed_pair, is_pair, row_of, same_text, score_of}
use Rattle.rs_cert.specs.Pairs.{answers, numbers_of, pair_cmp, pairs_from}
use Rattle.rs_cert.proofs.AnswerFacts.{Climbs-answers, In-answers, In-answers-back, pair_cmp-total}
use Rattle.rs_cert.proofs.InsideFacts.{first-inside}
use Rattle.rs_cert.proofs.PairFacts.{pair_of}
use Rattle.rs_cert.proofs.RowFacts.{same_at}
use Rattle.rs_rank.proofs.StableFacts.{IsPermutation-stable}

-- a row by its number
row-at : (rows : List FeedRow) (number : ℕ) (row : FeedRow) → row_of rows number ≡ Some row → (place : ℕ) × (number ≡ suc place) × (slice_get rows place ≡ Some row)
row-at rows zero row e = absurd (none_is e)
  where
    none_is : {X : Type 0} {x : X} → None ≡ Some x → ⊥
    none_is e = cc
row-at rows (suc place) row e = (place, refl, e)

-- pairs with the same numbers and sums are the same
same-pair : (a b : Pair) → a.left ≡ b.left → a.right ≡ b.right → a.sum ≡ b.sum → a ≡ b
same-pair a b e f g =
    ap (λ n. record { left = n; right = a.right; sum = a.sum }) e
    ∙ ap (λ n. record { left = b.left; right = n; sum = a.sum }) f
    ∙ ap (λ n. record { left = b.left; right = b.right; sum = n }) g

-- a claimed pair of rows of the same text is an answer
pub claimed-in : (lefts rights : List FeedRow) (numbers : ℕ × ℕ) → is_pair lefts rights (claimed_pair lefts rights numbers) ≡ true → In (claimed_pair lefts rights numbers) (answers lefts rights)
claimed-in lefts rights numbers is = of (row_of lefts numbers.0) (row_of rights numbers.1) refl refl is
  where
    of : (left right : Option FeedRow) → row_of lefts numbers.0 ≡ left → row_of rights numbers.1 ≡ right → same_text left right ≡ true → In (claimed_pair lefts rights numbers) (answers lefts rights)
    of None right e f same = absurd (true≢false (sym same))
    of (Some left) None e f same = absurd (true≢false (sym same))
    of (Some left) (Some right) e f same =
        let one = row-at lefts numbers.0 left e in
        let other = row-at rights numbers.1 right f in
        let sums : left.score + right.score ≡ score_of (row_of lefts numbers.0) + score_of (row_of rights numbers.1) = sym (ap₂ (λ x y. score_of x + score_of y) e f) in
        let left_number : numbers.0 ≡ suc one.0 = one.1 in
        let right_number : numbers.1 ≡ suc other.0 = other.1 in
        subst (λ pair. In pair (answers lefts rights))
        (same-pair (pair_of (1 + one.0) left (suc other.0) right) (claimed_pair lefts rights numbers) (omega arith) (sym right_number) sums)
        (In-answers lefts rights one.0 other.0 left right one.2 other.2 same)

-- an answer is the claimed pair of its numbers
pub claimed-answer : (lefts rights : List FeedRow) (pair : Pair) → In pair (answers lefts rights) → (claimed_pair lefts rights (pair.left, pair.right) ≡ pair) × (is_pair lefts rights pair ≡ true)
claimed-answer lefts rights pair h =
    let made = In-answers-back lefts rights pair h in
    let left_number : pair.left ≡ suc made.left_place = ap (λ (p : Pair). p.left) made.is ∙ omega arith in
    let right_number : pair.right ≡ suc made.right_place = ap (λ (p : Pair). p.right) made.is in
    let sum : pair.sum ≡ made.left.score + made.right.score = ap (λ (p : Pair). p.sum) made.is in
    let left_is : row_of lefts pair.left ≡ Some made.left = ap (row_of lefts) left_number ∙ made.left_at in
    let right_is : row_of rights pair.right ≡ Some made.right = ap (row_of rights) right_number ∙ made.right_at in (
      same-pair (claimed_pair lefts rights (pair.left, pair.right)) pair refl refl (ap₂ (λ x y. score_of x + score_of y) left_is right_is ∙ sym sum),
      ap₂ same_text left_is right_is ∙ made.same,
    )

-- the first answers, claimed by their numbers
claimed-numbers : (lefts rights : List FeedRow) (pairs : List Pair) → ((z : Pair) → In z pairs → In z (answers lefts rights)) → claimed lefts rights (numbers_of pairs) ≡ pairs
claimed-numbers lefts rights [] inside = refl
claimed-numbers lefts rights (pair ∷ pairs) inside =
    ap₂ (λ p ps. p ∷ ps) (claimed-answer lefts rights pair (inside pair (inl refl))).0 (claimed-numbers lefts rights pairs (λ z h. inside z (inr h)))

-- claimed pairs without their sums
numbers-claimed : (lefts rights : List FeedRow) (pairs : List (ℕ × ℕ)) → numbers_of (claimed lefts rights pairs) ≡ pairs
numbers-claimed lefts rights [] = refl
numbers-claimed lefts rights (numbers ∷ pairs) = ap (λ ps. numbers ∷ ps) (numbers-claimed lefts rights pairs)

-- as many answers as pairs come before a bar
pub count-answers : (lefts rights : List FeedRow) (bar : Option Pair) → length (those_before pair_cmp (λ p. p) bar (answers lefts rights)) ≡ length (those_before pair_cmp (λ p. p) bar (pairs_from 1 lefts rights))
count-answers lefts rights bar =
    length-filter (comes_before_bar pair_cmp bar) (answers lefts rights)
    ∙ sum_by-IsPermutation (λ pair. cond (comes_before_bar pair_cmp bar pair) 1 0) (pairs_from 1 lefts rights) (answers lefts rights) (IsPermutation-stable (λ (p : Pair). p.sum) (pairs_from 1 lefts rights))
    ∙ sym (length-filter (comes_before_bar pair_cmp bar) (pairs_from 1 lefts rights))

module _ (lefts rights : List FeedRow) (pairs : List (ℕ × ℕ)) where
  inside : AreInOrder lefts rights (claimed lefts rights pairs) → (z : Pair) → In z (claimed lefts rights pairs) → In z (answers lefts rights)
  inside order z h =
      let made = In-map-back (claimed_pair lefts rights) z pairs h in
      let is = AllByRecursion-In (λ p. is_pair lefts rights p ≡ true) (claimed lefts rights pairs) order.are z h in
      subst (λ p. In p (answers lefts rights)) (sym made.image)
      (claimed-in lefts rights made.source (subst (λ p. is_pair lefts rights p ≡ true) made.image is))

  -- pairs in order of which no others come before the last one are the first answers
  pub are-first : (n : ℕ) (last : Pair) → length pairs ≡ suc n → AreInOrder lefts rights (claimed lefts rights pairs) → last_of (claimed lefts rights pairs) ≡ Some last → length (those_before pair_cmp (λ p. p) (Some last) (answers lefts rights)) ≤ n → pairs ≡ numbers_of (take (length pairs) (answers lefts rights))
  are-first n last size order e most =
      sym (numbers-claimed lefts rights pairs)
      ∙ ap numbers_of (first-inside (claimed lefts rights pairs) (answers lefts rights) n last order.climb (Climbs-answers lefts rights) (inside order) (length-map pairs (claimed_pair lefts rights) ∙ size) e most)
      ∙ ap (λ k. numbers_of (take k (answers lefts rights))) (sym size)

  -- and the other way round
  module _ (first : pairs ≡ numbers_of (take (length pairs) (answers lefts rights))) where
    claimed-first : claimed lefts rights pairs ≡ take (length pairs) (answers lefts rights)
    claimed-first =
        ap (claimed lefts rights) first
        ∙ claimed-numbers lefts rights (take (length pairs) (answers lefts rights)) (λ z h. In-take (length pairs) (answers lefts rights) z h)

    pub first-order : AreInOrder lefts rights (claimed lefts rights pairs)
    first-order = subst (λ list. AreInOrder lefts rights list) (sym claimed-first) (record {
      are = AllByRecursion-from_In (λ p. is_pair lefts rights p ≡ true) (take (length pairs) (answers lefts rights)) (λ z h. (claimed-answer lefts rights z (In-take (length pairs) (answers lefts rights) z h)).1);
      climb = Climbs-take pair_cmp (λ p. p) (length pairs) (answers lefts rights) (Climbs-answers lefts rights);
    })

    pub last-first : last_of (claimed lefts rights pairs) ≡ last_of (take (length pairs) (answers lefts rights))
    last-first = ap last_of claimed-first

    pub count-first : (n : ℕ) (last : Pair) → length pairs ≡ suc n → last_of (claimed lefts rights pairs) ≡ Some last → length (those_before pair_cmp (λ p. p) (Some last) (answers lefts rights)) ≤ n
    count-first n last size e =
        let taken : length (take (length pairs) (answers lefts rights)) ≡ min (length pairs) (length (answers lefts rights)) = length-take (length pairs) (answers lefts rights) in
        let mapped : length (numbers_of (take (length pairs) (answers lefts rights))) ≡ length (take (length pairs) (answers lefts rights)) = length-map (take (length pairs) (answers lefts rights)) (λ (p : Pair). (p.left, p.right)) in
        let same : length pairs ≡ length (numbers_of (take (length pairs) (answers lefts rights))) = ap length first in
        let is : Some (get_or (answers lefts rights) n last) ≡ Some last =
        sym (last_of-take n (answers lefts rights) last (omega arith)) ∙ ap (λ k. last_of (take k (answers lefts rights))) (sym size) ∙ sym last-first ∙ e in
        elim (cases_lt n (length (those_before pair_cmp (λ p. p) (Some last) (answers lefts rights)))) [
          | inl more ↦
              let before = get_or-asked pair_cmp pair_cmp-total (λ p. p) (Some last) (answers lefts rights) n last (Climbs-answers lefts rights) more in
              absurd (cmp-not_itself pair_cmp pair_cmp-total last (is_lt-Less (pair_cmp last last) (subst (λ p. is_lt (pair_cmp p last) ≡ true) (same_at is) before)))
          | inr most ↦ most
        ]

-- The pairs that a join gave make a good certificate.
use Rattle.std.proofs.Common.{◌≡◌, ℕ, suc, ◌+◌, ◌≤◌, true, false, cond, List, [], ◌∷◌, ◌++◌, length, map, take, min, Option, Some, None, option_map, slice_get, refl, sym, ap, ◌∙◌, subst, inl, inr, arith}
use Rattle.std.proofs.lemmas.List.{length-map, length-take, map-append, take-map}
use Rattle.std.specs.List.{AllByRecursion}
use Rattle.std.specs.Str.{bytes_eq}
use Rattle.rs_cert.specs.Good as good
use Rattle.rs_cert.specs.Good.{FallsOnBothSides, HasEnough, HasFirstPairs, IsGood, IsWhole, first_answers}
use Rattle.rs_cert.specs.Pairs as cert
use Rattle.rs_cert.specs.Pairs.{Answer}
use Rattle.rs_words.specs.Certs.{AreEnough, AreGiven, cert_of, numbers_in}
use Rattle.rs_feed.specs.declared.feed_row.FeedRow.{FeedRow}
use Rattle.rs_feed_join.specs.declared.feed_pair.FeedPair.{FeedPair}
use Rattle.rs_feed_join.specs.Joins.{FeedJoinState, IsAtOrBefore, IsKept, last_given, pairs_drawn}
use Rattle.rs_feed_join.specs.Pairs.{joined_pairs, pairs_from, pairs_of_row, sum_of}
use Rattle.rs_order.specs.Last.{last_from, last_of}
use Rattle.rs_rank.specs.Stable.{stable}
use Rattle.rs_rank.proofs.StableFacts.{stable-map}

-- a pair of a join, as a certificate has it
abbrev pub short : FeedPair → Answer
short pair = record { left = pair.left; right = pair.right; sum = pair.left_score + pair.right_score }

-- both have the same pairs, in the same order
same-of_row : (i : ℕ) (left : FeedRow) (j : ℕ) (rights : List FeedRow) → map short (pairs_of_row i left j rights) ≡ cert.pairs_of_row i left j rights
same-of_row i left j [] = refl
same-of_row i left j (right ∷ rights) =
    (elim (bytes_eq left.join right.join) as (λ b. map short (cond b (record { left = i; right = j; join = left.join; left_score = left.score; right_score = right.score } ∷ pairs_of_row i left (suc j) rights) (pairs_of_row i left (suc j) rights))
    ≡ cond b (record { left = i; right = j; sum = left.score + right.score } ∷ cert.pairs_of_row i left (suc j) rights) (cert.pairs_of_row i left (suc j) rights)) [
      | true ↦ ap (λ list. record { left = i; right = j; sum = left.score + right.score } ∷ list) (same-of_row i left (suc j) rights)
      | false ↦ same-of_row i left (suc j) rights
    ])

same-pairs : (i : ℕ) (lefts rights : List FeedRow) → map short (pairs_from i lefts rights) ≡ cert.pairs_from i lefts rights
same-pairs i [] rights = refl
same-pairs i (left ∷ lefts) rights =
    map-append short (pairs_of_row i left 1 rights) (pairs_from (suc i) lefts rights)
    ∙ ap (λ list. list ++ map short (pairs_from (suc i) lefts rights)) (same-of_row i left 1 rights)
    ∙ ap (λ list. cert.pairs_of_row i left 1 rights ++ list) (same-pairs (suc i) lefts rights)

same-sums : (pairs : List FeedPair) → AllByRecursion (λ pair. (short pair).sum ≡ sum_of pair) pairs
same-sums [] = tt
same-sums (pair ∷ pairs) = (refl, same-sums pairs)

pub same-answers : (lefts rights : List FeedRow) → map short (joined_pairs lefts rights) ≡ cert.answers lefts rights
same-answers lefts rights =
    stable-map short sum_of (λ (pair : Answer). pair.sum) (pairs_from 1 lefts rights) (same-sums (pairs_from 1 lefts rights))
    ∙ ap (stable (λ (pair : Answer). pair.sum)) (same-pairs 1 lefts rights)

same-numbers : (pairs : List FeedPair) → cert.numbers_of (map short pairs) ≡ numbers_in pairs
same-numbers [] = refl
same-numbers (pair ∷ pairs) = ap (λ list. (pair.left, pair.right) ∷ list) (same-numbers pairs)

-- the first of them
same-first : (lefts rights : List FeedRow) (n : ℕ) → take n (cert.answers lefts rights) ≡ map short (take n (joined_pairs lefts rights))
same-first lefts rights n = ap (take n) (sym (same-answers lefts rights)) ∙ take-map short n (joined_pairs lefts rights)

-- and the last of those
last-from : (pair : FeedPair) (pairs : List FeedPair) → last_from (short pair) (map short pairs) ≡ short (last_from pair pairs)
last-from pair [] = refl
last-from pair (next ∷ pairs) = last-from next pairs

last-map : (pairs : List FeedPair) → last_of (map short pairs) ≡ option_map short (last_of pairs)
last-map [] = refl
last-map (pair ∷ pairs) = ap (λ p. Some p) (last-from pair pairs)

-- it comes at or before all that it came before
reached : (pair : Option FeedPair) (i : ℕ) (left : Option FeedRow) (j : ℕ) (right : Option FeedRow) → IsAtOrBefore pair i left j right → good.IsAtOrBefore (option_map short pair) i left j right
reached None i left j right h = tt
reached (Some pair) i None j right h = tt
reached (Some pair) i (Some left) j None h = tt
reached (Some pair) i (Some left) j (Some right) h = h

module _ (join : FeedJoinState) (k : ℕ) (pairs : List (ℕ × ℕ)) (kept : IsKept join) (given : AreGiven join pairs) where
  given-length : length pairs ≡ join.given
  given-length =
      let all = kept.within in
      ap length given
      ∙ length-map (take join.given (pairs_drawn join.left join.right)) (λ (pair : FeedPair). (pair.left, pair.right))
      ∙ length-take join.given (pairs_drawn join.left join.right)
      ∙ (let same : min join.given (length (pairs_drawn join.left join.right)) ≡ join.given = omega arith in same)

  answers-length : length (cert.answers join.left.rows join.right.rows) ≡ length (pairs_drawn join.left join.right)
  answers-length = ap length (sym (same-answers join.left.rows join.right.rows)) ∙ length-map (joined_pairs join.left.rows join.right.rows) short

  are-first : pairs ≡ cert.numbers_of (first_answers (cert_of join k pairs))
  are-first =
      given
      ∙ sym (same-numbers (take join.given (pairs_drawn join.left join.right)))
      ∙ ap cert.numbers_of (sym (same-first join.left.rows join.right.rows join.given))
      ∙ ap (λ n. cert.numbers_of (take n (cert.answers join.left.rows join.right.rows))) (sym given-length)

  last-same : last_of (first_answers (cert_of join k pairs)) ≡ option_map short (last_given join.left join.right join.given)
  last-same =
      ap (λ n. last_of (take n (cert.answers join.left.rows join.right.rows))) given-length
      ∙ ap last_of (same-first join.left.rows join.right.rows join.given)
      ∙ last-map (take join.given (pairs_drawn join.left join.right))

  enough-of : AreEnough join k pairs → HasEnough (cert_of join k pairs)
  enough-of (inl whole) fewer = absurd (omega arith)
  enough-of (inr over) fewer = record {
    all = answers-length ∙ kept.all over.1 ∙ sym given-length;
    ended = kept.over over.1;
  }

  most-of : AreEnough join k pairs → length pairs ≤ k
  most-of (inl whole) = omega arith
  most-of (inr over) = let fewer = over.0 in omega arith

  pub given-good : AreEnough join k pairs → IsGood (cert_of join k pairs)
  given-good enough = record {
    falls = record { left = kept.left_rows.falls; right = kept.right_rows.falls };
    pairs = record { first = are-first; most = most-of enough };
    enough = enough-of enough;
    left = λ not_ended.
        subst (λ pair. good.IsAtOrBefore pair (length join.left.rows) (last_of join.left.rows) 1 (slice_get join.right.rows 0)) (sym last-same)
        (reached (last_given join.left join.right join.given) (length join.left.rows) (last_of join.left.rows) 1 (slice_get join.right.rows 0) (kept.left_reached not_ended));
    right = λ not_ended.
        subst (λ pair. good.IsAtOrBefore pair 1 (slice_get join.left.rows 0) (length join.right.rows) (last_of join.right.rows)) (sym last-same)
        (reached (last_given join.left join.right join.given) 1 (slice_get join.left.rows 0) (length join.right.rows) (last_of join.right.rows) (kept.right_reached not_ended));
  }

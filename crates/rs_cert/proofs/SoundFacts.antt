-- A good certificate proves the first pairs of the feeds that its rows were drawn of.
use Rattle.std.proofs.Common.{◌≡◌, ℕ, zero, suc, ◌+◌, ◌<◌, ◌≤◌, ◌==◌, ◌&&◌, ◌||◌, true, false, List, [], ◌∷◌, get_or, length, min, take, Option, Some, IfSome, slice_get, refl, sym, ◌∙◌, ap, subst, ◌⊎◌, inl, inr, ⊎_elim, arith}
use Rattle.std.proofs.lemmas.Bool.{and_parts, cases_Bool, cases_lt, eqb-true, or_cases, true≢false}
use Rattle.std.proofs.lemmas.List.{length-map, length-take, take_all}
use Rattle.std.proofs.lemmas.Option.{slice_get-get_or, slice_get_past, slice_get_within}
use Rattle.std.specs.Cmp.{nat_cmp_is}
use Rattle.std.specs.Ordering.{is_gt, ordering_then}
use Rattle.std.specs.declared.cmp.Ordering.TheVariants.{Greater, Less}
use Rattle.rs_feed.specs.declared.feed_row.FeedRow.{FeedRow}
use Rattle.rs_order.specs.Climbing.{In, IsBeyond, IsNoLater}
use Rattle.rs_order.specs.Last.{last_of}
use Rattle.rs_order.proofs.ClimbingFacts.{Climbs-shared}
use Rattle.rs_order.proofs.PartFacts.{In-slice_get, IsBeyond-drop, cmp-behind-Less, last_of-take}
use Rattle.rs_cert.specs.declared.cert.Cert.{Cert}
use Rattle.rs_cert.specs.declared.cert.CertSide.{CertSide}
use Rattle.rs_cert.specs.Good.{HasEnough, HasFirstPairs, IsGood, IsReached, IsWhole, LeftIsReached, RightIsReached, answers_of, ended_empty, first_answers, merged}
use Rattle.rs_cert.specs.declared.pair.Pair.{Pair}
use Rattle.rs_cert.specs.Pairs.{answers, numbers_cmp, numbers_of, pair_cmp}
use Rattle.rs_rank.specs.Stable.{stable}
use Rattle.rs_cert.specs.Sound.{Continues, Determines, IsBelowLeft}
use Rattle.rs_cert.proofs.AnswerFacts.{Climbs-answers, In-answers, In-answers-back, behind-sum, pair_cmp-total, pairs-no_rights}
use Rattle.rs_cert.proofs.PairFacts.{IsPair, left-first, pair_of, right-first}
use Rattle.rs_cert.proofs.RowFacts.{Falls-at, last_of-at, none_at, slice_get-begin}

-- a row of a side is the row of the feed at its place
begin-at : (side : CertSide) (rows : List FeedRow) (m : ℕ) (row : FeedRow) → Continues side rows → slice_get side.rows m ≡ Some row → slice_get rows m ≡ Some row
begin-at side rows m row more at =
    sym (slice_get-begin (length side.rows) m rows (slice_get_within side.rows m row at))
    ∙ ap (λ list. slice_get list m) more.begins
    ∙ at

-- and the other way round
at-begin : (side : CertSide) (rows : List FeedRow) (m : ℕ) (row : FeedRow) → Continues side rows → m < length side.rows → slice_get rows m ≡ Some row → slice_get side.rows m ≡ Some row
at-begin side rows m row more within at =
    sym (ap (λ list. slice_get list m) more.begins)
    ∙ slice_get-begin (length side.rows) m rows within
    ∙ at

-- a side with a row behind its own hasn't ended
not_ended : (side : CertSide) (rows : List FeedRow) (m : ℕ) (row : FeedRow) → Continues side rows → length side.rows ≤ m → slice_get rows m ≡ Some row → side.ended ≡ false
not_ended side rows m row more past at =
    elim (cases_Bool side.ended) [
      | inl ended ↦ absurd (none_at (sym (slice_get_past side.rows m past) ∙ sym (ap (λ list. slice_get list m) (more.ends ended)) ∙ at))
      | inr goes_on ↦ goes_on
    ]

-- the last row of a side
last-row : (side : CertSide) (m : ℕ) (row : FeedRow) → slice_get side.rows m ≡ Some row → (n : ℕ) × (last : FeedRow) × (length side.rows ≡ suc n) × (slice_get side.rows n ≡ Some last) × (last_of side.rows ≡ Some last)
last-row side m row at = of (length side.rows) refl
  where
    of : (n : ℕ) → length side.rows ≡ n → (n : ℕ) × (last : FeedRow) × (length side.rows ≡ suc n) × (slice_get side.rows n ≡ Some last) × (last_of side.rows ≡ Some last)
    of zero e = absurd (let within = slice_get_within side.rows m row at in omega arith)
    of (suc n) e =
        let there : slice_get side.rows n ≡ Some (get_or side.rows n row) = slice_get-get_or side.rows n row (omega arith) in
        (n, get_or side.rows n row, e, there, sym (last_of-at side.rows n e) ∙ there)

-- the first row of a side
first-row : (side : CertSide) (m : ℕ) (row : FeedRow) → slice_get side.rows m ≡ Some row → (first : FeedRow) × (slice_get side.rows 0 ≡ Some first)
first-row side m row at =
    (get_or side.rows 0 row, slice_get-get_or side.rows 0 row (let within = slice_get_within side.rows m row at in omega arith))

-- a pair that is reached by the rows of these numbers
reached : (cert : Cert) (i : ℕ) (left : Option FeedRow) (j : ℕ) (right : Option FeedRow) (pair : Pair) (l r : FeedRow) → IsReached cert i left j right → last_of (first_answers cert) ≡ Some pair → left ≡ Some l → right ≡ Some r → IsNoLater pair_cmp (λ p. p) pair (merged i l j r)
reached cert i left j right pair l r is e f g =
    subst (λ right. IfSome right (λ r. IsNoLater pair_cmp (λ p. p) pair (merged i l j r))) g
    (subst (λ left. IfSome left (λ l. IfSome right (λ r. IsNoLater pair_cmp (λ p. p) pair (merged i l j r)))) f
    (subst (λ last. IfSome last (λ pair. IfSome left (λ l. IfSome right (λ r. IsNoLater pair_cmp (λ p. p) pair (merged i l j r))))) e is))

-- the pairs of the rows that were drawn are pairs of the feeds
pub wider : (cert : Cert) (lefts rights : List FeedRow) → Continues cert.left lefts → Continues cert.right rights → (pair : Pair) → In pair (answers_of cert) → In pair (answers lefts rights)
wider cert lefts rights more_left more_right pair h =
    let made = In-answers-back cert.left.rows cert.right.rows pair h in
    subst (λ p. In p (answers lefts rights)) (sym made.is)
    (In-answers lefts rights made.left_place made.right_place made.left made.right
    (begin-at cert.left lefts made.left_place made.left more_left made.left_at)
    (begin-at cert.right rights made.right_place made.right more_right made.right_at)
    made.same)

-- a pair at or before another one has at least its sum
no_later-sum : (a b : Pair) → IsNoLater pair_cmp (λ p. p) a b → b.sum ≤ a.sum
no_later-sum a b h = elim (cases_lt a.sum b.sum) [
  | inl below ↦ absurd (true≢false (sym (ap (λ o. is_gt (ordering_then o (numbers_cmp a b))) (sym (nat_cmp_is b.sum a.sum Greater below))) ∙ h))
  | inr most ↦ most
]

-- where the left side hasn't ended, the sum of the last pair is at least that of the last left row and the first right one
abbrev pub HasLeastSum : Cert → Type 0
HasLeastSum cert = cert.left.ended ≡ false → (last : Pair) (left right : FeedRow) → last_of (first_answers cert) ≡ Some last → last_of cert.left.rows ≡ Some left → slice_get cert.right.rows 0 ≡ Some right → left.score + right.score ≤ last.sum

reached-sum : (cert : Cert) → LeftIsReached cert → HasLeastSum cert
reached-sum cert is goes_on last left right e f g =
    no_later-sum last (merged (length cert.left.rows) left 1 right)
    (reached cert (length cert.left.rows) (last_of cert.left.rows) 1 (slice_get cert.right.rows 0) last left right (is goes_on) e f g)

not_below-sum : (cert : Cert) → (IsBelowLeft cert → ⊥) → HasLeastSum cert
not_below-sum cert least goes_on last left right e f g = elim (cases_lt last.sum (left.score + right.score)) [
  | inl below ↦ absurd (least
      (subst (λ p. IfSome p (λ pair. IfSome (last_of cert.left.rows) (λ l. IfSome (slice_get cert.right.rows 0) (λ r. pair.sum < l.score + r.score)))) (sym e)
      (subst (λ p. IfSome p (λ l. IfSome (slice_get cert.right.rows 0) (λ r. last.sum < l.score + r.score))) (sym f)
      (subst (λ p. IfSome p (λ r. last.sum < left.score + r.score)) (sym g) below))))
  | inr most ↦ most
]

-- what is left to show: a pair of the feeds is one of the rows that were drawn, or comes behind the last pair of the certificate
module _ (cert : Cert) (lefts rights : List FeedRow) (pairs : HasFirstPairs cert) (enough : HasEnough cert) (left : HasLeastSum cert) (right : RightIsReached cert) (more_left : Continues cert.left lefts) (more_right : Continues cert.right rights) where
  -- the last pair of the certificate comes before a pair whose left row wasn't drawn
  behind_left : (last pair : Pair) → last_of (first_answers cert) ≡ Some last → In last (answers_of cert) → (z : IsPair 1 lefts rights pair) → length cert.left.rows ≤ z.left_place → pair_cmp last pair ≡ Less
  behind_left last pair e h z past =
      let made = In-answers-back cert.left.rows cert.right.rows last h in
      let end = last-row cert.left made.left_place made.left made.left_at in
      let first = first-row cert.right made.right_place made.right made.right_at in
      let open_side : cert.left.ended ≡ false = not_ended cert.left lefts z.left_place z.left more_left past z.left_at in
      let sum : end.1.score + first.0.score ≤ last.sum = left open_side last end.1 first.0 e end.4 first.1 in
      let number : last.left ≡ 1 + made.left_place = ap (λ (p : Pair). p.left) made.is in
      let inside = slice_get_within cert.left.rows made.left_place made.left made.left_at in
      let left_falls : z.left.score ≤ end.1.score =
      Falls-at lefts end.0 z.left_place end.1 z.left more_left.falls (let size = end.2 in omega arith) (begin-at cert.left lefts end.0 end.1 more_left end.3) z.left_at in
      let right_falls : z.right.score ≤ first.0.score =
      Falls-at rights 0 z.right_place first.0 z.right more_right.falls (omega arith) (begin-at cert.right rights 0 first.0 more_right first.1) z.right_at in
      subst (λ p. pair_cmp last p ≡ Less) (sym z.is)
      (behind-sum last (pair_of (1 + z.left_place) z.left (suc z.right_place) z.right) (omega arith)
      (left-first last (pair_of (1 + z.left_place) z.left (suc z.right_place) z.right) (omega arith)))

  -- and before one whose right row wasn't
  behind_right : (last pair : Pair) → last_of (first_answers cert) ≡ Some last → In last (answers_of cert) → (z : IsPair 1 lefts rights pair) → length cert.right.rows ≤ z.right_place → pair_cmp last pair ≡ Less
  behind_right last pair e h z past =
      let made = In-answers-back cert.left.rows cert.right.rows last h in
      let end = last-row cert.right made.right_place made.right made.right_at in
      let first = first-row cert.left made.left_place made.left made.left_at in
      let open_side : cert.right.ended ≡ false = not_ended cert.right rights z.right_place z.right more_right past z.right_at in
      let before : IsNoLater pair_cmp (λ p. p) last (merged 1 first.0 (length cert.right.rows) end.1) =
      reached cert 1 (slice_get cert.left.rows 0) (length cert.right.rows) (last_of cert.right.rows) last first.0 end.1 (right open_side) e first.1 end.4 in
      let right_falls : z.right.score ≤ end.1.score =
      Falls-at rights end.0 z.right_place end.1 z.right more_right.falls (let size = end.2 in omega arith) (begin-at cert.right rights end.0 end.1 more_right end.3) z.right_at in
      let left_falls : z.left.score ≤ first.0.score =
      Falls-at lefts 0 z.left_place first.0 z.left more_left.falls (omega arith) (begin-at cert.left lefts 0 first.0 more_left first.1) z.left_at in
      subst (λ p. pair_cmp last p ≡ Less) (sym z.is)
      (cmp-behind-Less pair_cmp pair_cmp-total last (merged 1 first.0 (length cert.right.rows) end.1) (pair_of (1 + z.left_place) z.left (suc z.right_place) z.right) before
      (behind-sum (merged 1 first.0 (length cert.right.rows) end.1) (pair_of (1 + z.left_place) z.left (suc z.right_place) z.right) (omega arith)
      (numbers-behind (merged 1 first.0 (length cert.right.rows) end.1) (pair_of (1 + z.left_place) z.left (suc z.right_place) z.right) z.left_place refl refl (omega arith))))
    where
      numbers-behind : (a b : Pair) (m : ℕ) → a.left ≡ 1 → b.left ≡ 1 + m → a.right < b.right → numbers_cmp a b ≡ Less
      numbers-behind a b zero e f h = right-first a b (omega arith) h
      numbers-behind a b (suc m) e f h = left-first a b (omega arith)

  -- so each pair of the feeds is one of the rows that were drawn, or beyond the pairs of the certificate
  narrow : (n : ℕ) → length cert.pairs ≡ n → (pair : Pair) → In pair (answers lefts rights) → In pair (answers_of cert) ⊎ IsBeyond pair_cmp (λ p. p) n (answers_of cert) pair
  narrow zero e pair h = inr tt
  narrow (suc n) e pair h =
      let z = In-answers-back lefts rights pair h in
      let enough : suc n ≤ length (answers_of cert) = size in
      let last_at : slice_get (answers_of cert) n ≡ Some (get_or (answers_of cert) n pair) = slice_get-get_or (answers_of cert) n pair (omega arith) in
      let last_is : last_of (first_answers cert) ≡ Some (get_or (answers_of cert) n pair) =
      ap (λ k. last_of (take k (answers_of cert))) e ∙ last_of-take n (answers_of cert) pair (omega arith) in
      let there : In (get_or (answers_of cert) n pair) (answers_of cert) = In-slice_get n (answers_of cert) (get_or (answers_of cert) n pair) last_at in
      let beyond : pair_cmp (get_or (answers_of cert) n pair) pair ≡ Less → IsBeyond pair_cmp (λ p. p) (suc n) (answers_of cert) pair =
      IsBeyond-drop pair_cmp pair_cmp-total (λ p. p) n (answers_of cert) (get_or (answers_of cert) n pair) pair (Climbs-answers cert.left.rows cert.right.rows) last_at in
      ⊎_elim
      (λ (drawn : z.left_place < length cert.left.rows). ⊎_elim
      (λ (other_drawn : z.right_place < length cert.right.rows). inl (subst (λ p. In p (answers_of cert)) (sym z.is)
      (In-answers cert.left.rows cert.right.rows z.left_place z.right_place z.left z.right
      (at-begin cert.left lefts z.left_place z.left more_left drawn z.left_at)
      (at-begin cert.right rights z.right_place z.right more_right other_drawn z.right_at)
      z.same)))
      (λ (past : length cert.right.rows ≤ z.right_place). inr (beyond (behind_right (get_or (answers_of cert) n pair) pair last_is there z past)))
      (cases_lt z.right_place (length cert.right.rows)))
      (λ (past : length cert.left.rows ≤ z.left_place). inr (beyond (behind_left (get_or (answers_of cert) n pair) pair last_is there z past)))
      (cases_lt z.left_place (length cert.left.rows))
    where
      size : suc n ≤ length (answers_of cert)
      size =
          let same : length cert.pairs ≡ length (numbers_of (first_answers cert)) = ap length pairs.first in
          let mapped : length (numbers_of (first_answers cert)) ≡ length (first_answers cert) = length-map (first_answers cert) (λ (p : Pair). (p.left, p.right)) in
          let taken : length (first_answers cert) ≡ min (length cert.pairs) (length (answers_of cert)) = length-take (length cert.pairs) (answers_of cert) in
          omega arith

  -- the answers of the feeds begin with the pairs of the certificate
  begins : take (length cert.pairs) (answers_of cert) ≡ take (length cert.pairs) (answers lefts rights)
  begins =
      Climbs-shared pair_cmp pair_cmp-total (λ p. p) (length cert.pairs) (answers_of cert) (answers lefts rights)
      (Climbs-answers cert.left.rows cert.right.rows)
      (Climbs-answers lefts rights)
      (wider cert lefts rights more_left more_right)
      (narrow (length cert.pairs) refl)

  -- where no pair can come, they are all
  no_more : IsWhole cert → answers lefts rights ≡ answers_of cert
  no_more whole =
      elim (or_cases (cert.left.ended && cert.right.ended) (ended_empty cert.left || ended_empty cert.right) whole.ended) [
        | inl both ↦
            let ends = and_parts cert.left.ended cert.right.ended both in
            ap (λ list. answers list rights) (more_left.ends ends.0) ∙ ap (λ list. answers cert.left.rows list) (more_right.ends ends.1)
        | inr one ↦ elim (or_cases (ended_empty cert.left) (ended_empty cert.right) one) [
          | inl left ↦
              let ends = and_parts cert.left.ended (length cert.left.rows == 0) left in
              let none : cert.left.rows ≡ [] = empty cert.left.rows ends.1 in
              ap (λ list. answers list rights) (more_left.ends ends.0 ∙ none) ∙ ap (λ list. answers list cert.right.rows) (sym none)
          | inr right ↦
              let ends = and_parts cert.right.ended (length cert.right.rows == 0) right in
              let none : cert.right.rows ≡ [] = empty cert.right.rows ends.1 in
              ap (λ list. answers lefts list) (more_right.ends ends.0 ∙ none)
              ∙ ap (λ list. stable (λ pair. pair.sum) list) (pairs-no_rights 1 lefts ∙ sym (pairs-no_rights 1 cert.left.rows))
              ∙ ap (λ list. answers cert.left.rows list) (sym none)
        ]
      ]
    where
      empty : (rows : List FeedRow) → (length rows == 0) ≡ true → rows ≡ []
      empty [] e = refl
      empty (row ∷ rows) e = absurd (let same : length (row ∷ rows) ≡ 0 = eqb-true (length (row ∷ rows)) 0 e in omega arith)

  -- the first pairs of the feeds, as many as are wanted, are those of the certificate
  pub determined : numbers_of (take cert.k (answers lefts rights)) ≡ cert.pairs
  determined =
      ⊎_elim
      (λ (few : length cert.pairs < cert.k).
      let whole = enough few in
      let size : length (answers_of cert) ≡ length cert.pairs = whole.all in
      ap (λ list. numbers_of (take cert.k list)) (no_more whole)
      ∙ ap numbers_of (take_all cert.k (answers_of cert) (omega arith) ∙ sym (take_all (length cert.pairs) (answers_of cert) (omega arith)))
      ∙ sym pairs.first)
      (λ (many : cert.k ≤ length cert.pairs).
      let most : length cert.pairs ≤ cert.k = pairs.most in
      let same : cert.k ≡ length cert.pairs = omega arith in
      ap (λ n. numbers_of (take n (answers lefts rights))) same ∙ ap numbers_of (sym begins) ∙ sym pairs.first)
      (cases_lt (length cert.pairs) cert.k)

pub sound : (cert : Cert) → IsGood cert → Determines cert
sound cert good lefts rights more_left more_right = determined cert lefts rights good.pairs good.enough (reached-sum cert good.left) good.right more_left more_right

-- at equal sums the left side needn't be reached
pub tied-sound : (cert : Cert) → HasFirstPairs cert → HasEnough cert → (IsBelowLeft cert → ⊥) → RightIsReached cert → Determines cert
tied-sound cert pairs enough least right lefts rights more_left more_right = determined cert lefts rights pairs enough (not_below-sum cert least) right more_left more_right

-- The first pairs of two feeds, gathered one after another.
use Rattle.std.proofs.Common.{ℕ, suc, ◌≡◌, ◌∙◌, ◌+◌, ◌<◌, ◌≤◌, ◌++◌, Bool, List, [], ◌∷◌, length, take, Option, Some, None, Result, Ok, Err, false, refl, sym, ap, subst, inl, inr, arith}
use Rattle.std.proofs.lemmas.List.{length-append, map-append, take_all}
use Rattle.rs_cert.specs.declared.cert.CertSide.{CertSide}
use Rattle.rs_words.specs.Certs.{AreGiven, cert_side, numbers_in}
use Rattle.rs_feed.specs.declared.feed_row.FeedRow.{FeedRow}
use Rattle.rs_feed.specs.Feeds.{FeedState}
use Rattle.rs_feed_join.specs.declared.fault.JoinFault.{JoinFault}
use Rattle.rs_feed_join.specs.declared.fault.JoinFault.TheVariants as join
use Rattle.rs_feed_join.specs.declared.feed_pair.FeedPair.{FeedPair}
use Rattle.rs_feed_join.specs.Answers.{HasDrawn, IsNext, MayBe, next_answer}
use Rattle.rs_feed_join.specs.Cuts.{cut}
use Rattle.rs_feed_join.specs.Joins.{FeedJoinState, IsAfter, new_feed_join, pairs_drawn}
use Rattle.rs_feed_join.specs.Ranked.{asks_of_rows}
use Rattle.rs_feed_join.specs.Sides.{FeedSide, IsCounted, IsDrawnOf}
use Rattle.rs_order.proofs.PartFacts.{take-snoc}
use Rattle.rs_words.specs.Gathering.{GivesAll, StopsShort, draws_shown}
use Rattle.rs_words.specs.Putting.{AreAnswered, pairs_of}
use Rattle.rs_words.proofs.PuttingFacts.{answer-pair, answered-end, answered-all, answered-next, drawn-all, drawn-end, drawn-next, gave-all, gave-next, lines-all, lines-end, may-before, may-well, next-drawn, next-is, went_well}

-- n pairs were given, and the draws are those that they take
pub record Gathered (lefts rights : List FeedRow) (n : ℕ) (pairs : List (ℕ × ℕ)) (left right : FeedSide) : Type 0 where
  pub gave : n ≤ length (pairs_of lefts rights)
  pub answered : AreAnswered lefts rights n
  pub drawn : HasDrawn (asks_of_rows (cut lefts) (cut rights) n) left right
  pub are : pairs ≡ numbers_in (take n (pairs_of lefts rights))

pub gathered-none : (lefts rights : List FeedRow) (state : FeedJoinState) (pairs : List (ℕ × ℕ)) → state ≡ new_feed_join → pairs ≡ [] → Gathered lefts rights 0 pairs state.left state.right
gathered-none lefts rights state pairs is none = record {
  gave = omega arith;
  answered = λ i h. absurd (omega (arith, h));
  drawn = record { left_draws = ap (λ (s : FeedJoinState). s.left.draws) is; right_draws = ap (λ (s : FeedJoinState). s.right.draws) is };
  are = none;
}

-- the pairs by their numbers, and the next one behind them
pub pairs-next : (lefts rights : List FeedRow) (n : ℕ) (pair : FeedPair) (pairs : List (ℕ × ℕ)) → next_answer lefts rights n ≡ Ok (Some pair) → pairs ≡ numbers_in (take n (pairs_of lefts rights))
    → pairs ++ (pair.left, pair.right) ∷ [] ≡ numbers_in (take (n + 1) (pairs_of lefts rights))
pairs-next lefts rights n pair pairs answer are =
    let all = pairs_of lefts rights in
    let next : suc n ≡ n + 1 = omega arith in
    ap (λ list. list ++ (pair.left, pair.right) ∷ []) are
    ∙ sym (map-append (λ (p : FeedPair). (p.left, p.right)) (take n all) (pair ∷ []))
    ∙ ap numbers_in (sym (take-snoc n all pair (answer-pair lefts rights n (Some pair) answer)))
    ∙ ap (λ m. numbers_in (take m all)) next

-- the rows that the feeds may have behind a call behind n pairs
module _ (lefts rights : List FeedRow) (old new : FeedJoinState) (n : ℕ) (given : old.given ≡ n) (pairs : List (ℕ × ℕ))
    (so_far : MayBe 1 lefts old.left went_well → MayBe 2 rights old.right went_well → Gathered lefts rights n pairs old.left old.right) where
  module _ (answer : Result (Option FeedPair) JoinFault) (after : IsAfter old new answer) (left : MayBe 1 lefts new.left answer) (right : MayBe 2 rights new.right answer)
      (next : IsNext lefts rights old.given new.left new.right answer) where
    before : Gathered lefts rights n pairs old.left old.right
    before = so_far (may-before 1 lefts old.left new.left answer after.left_grows after.left_over left) (may-before 2 rights old.right new.right answer after.right_grows after.right_over right)

    here : IsNext lefts rights n new.left new.right answer
    here = subst (λ m. IsNext lefts rights m new.left new.right answer) given next

  -- it gave a pair
  module _ (pair : FeedPair) (after : IsAfter old new (Ok (Some pair))) (left : MayBe 1 lefts new.left went_well) (right : MayBe 2 rights new.right went_well)
      (next : MayBe 1 lefts new.left (Ok (Some pair)) → MayBe 2 rights new.right (Ok (Some pair)) → IsNext lefts rights old.given new.left new.right (Ok (Some pair))) where
    left_may : MayBe 1 lefts new.left (Ok (Some pair))
    left_may = may-well 1 lefts new.left (Some pair) left

    right_may : MayBe 2 rights new.right (Ok (Some pair))
    right_may = may-well 2 rights new.right (Some pair) right

    was : Gathered lefts rights n pairs old.left old.right
    was = before (Ok (Some pair)) after left_may right_may (next left_may right_may)

    now : IsNext lefts rights n new.left new.right (Ok (Some pair))
    now = here (Ok (Some pair)) after left_may right_may (next left_may right_may)

    pub gathered-more : Gathered lefts rights (n + 1) (pairs ++ (pair.left, pair.right) ∷ []) new.left new.right
    gathered-more =
        let is = next-is lefts rights n new.left new.right (Some pair) now in record {
          gave = gave-next lefts rights n pair is;
          answered = answered-next lefts rights n (Some pair) was.answered is;
          drawn = drawn-next lefts rights n new.left new.right (next-drawn lefts rights n new.left new.right (Some pair) now);
          are = pairs-next lefts rights n pair pairs is was.are;
        }

    -- and there was no memory for it
    pub gathered-short : (count : ℕ) → n < count → StopsShort lefts rights count join.Memory new
    gathered-short count within = inr (
      refl,
      inl (record {
        n = n;
        within = within;
        answered = was.answered;
        pair = pair;
        next = now;
        given = after.given ∙ ap suc given;
        whole = after.broken;
      }),
    )

  -- it gave none
  module _ (after : IsAfter old new (Ok None)) (left : MayBe 1 lefts new.left went_well) (right : MayBe 2 rights new.right went_well) (next : IsNext lefts rights old.given new.left new.right (Ok None)) where
    pub gathered-all : (count : ℕ) → n < count → GivesAll lefts rights count pairs new
    gathered-all count within =
        let was = before (Ok None) after left right next in
        let now = here (Ok None) after left right next in
        let is = next-is lefts rights n new.left new.right None now in
        let last = gave-all lefts rights n is in record {
          answered = answered-end lefts rights n count was.gave was.answered new.left new.right within is;
          pairs = was.are ∙ ap numbers_in (take_all n (pairs_of lefts rights) last ∙ sym (take_all count (pairs_of lefts rights) (omega (arith, last, within))));
          drawn = drawn-end lefts rights n count was.gave was.answered new.left new.right within is (next-drawn lefts rights n new.left new.right None now);
          number = after.given ∙ given ∙ lines-end lefts rights n count was.gave was.answered new.left new.right within is;
        }

  -- it failed
  pub gathered-stops : (why : JoinFault) → IsAfter old new (Err why) → MayBe 1 lefts new.left (Err why) → MayBe 2 rights new.right (Err why) → IsNext lefts rights old.given new.left new.right (Err why)
      → (count : ℕ) → n < count → StopsShort lefts rights count why new
  gathered-stops why after left right next count within =
      let was = before (Err why) after left right next in
      inl (record {
        n = n;
        within = within;
        gave = was.gave;
        answered = was.answered;
        next = here (Err why) after left right next;
        given = after.given ∙ given;
        broken = after.broken;
      })

-- as many as were wanted were given
pub gathered-wanted : (lefts rights : List FeedRow) (count n : ℕ) (pairs : List (ℕ × ℕ)) (state : FeedJoinState) → n ≡ count → state.given ≡ n → Gathered lefts rights n pairs state.left state.right
    → GivesAll lefts rights count pairs state
gathered-wanted lefts rights count n pairs state all given so_far = record {
  answered = answered-all lefts rights n count so_far.gave so_far.answered state.left state.right all;
  pairs = so_far.are ∙ ap (λ m. numbers_in (take m (pairs_of lefts rights))) all;
  drawn = drawn-all lefts rights n count so_far.gave so_far.answered state.left state.right all so_far.drawn;
  number = given ∙ lines-all lefts rights n count so_far.gave so_far.answered state.left state.right all;
}

-- they were, and there was no memory for the certificate
pub given-short : (lefts rights : List FeedRow) (count : ℕ) (pairs : List (ℕ × ℕ)) (state : FeedJoinState) → state.broken ≡ false → GivesAll lefts rights count pairs state
    → StopsShort lefts rights count join.Memory state
given-short lefts rights count pairs state whole gives =
    inr (refl, inr (record { answered = gives.answered; drawn = gives.drawn; given = gives.number; whole = whole }))

-- no pair is given yet
pub given-none : (state : FeedJoinState) (pairs : List (ℕ × ℕ)) → state ≡ new_feed_join → pairs ≡ [] → AreGiven state pairs
given-none state pairs is none = none ∙ ap (λ (s : FeedJoinState). numbers_in (take s.given (pairs_drawn s.left s.right))) (sym is)

-- one item more
pub size-next : {X : Type 0} (xs ys : List X) (x : X) (n : ℕ) → ys ≡ xs ++ x ∷ [] → length xs ≡ n → length ys ≡ n + 1
size-next xs ys x n is size = ap length is ∙ length-append xs (x ∷ []) ∙ ap (λ m. m + 1) size

-- the draws of a feed that are shown
pub shown-draws : (feed : FeedState) (side : FeedSide) (shown : CertSide) (broken : Bool) → IsDrawnOf broken feed side → IsCounted side → shown ≡ cert_side side → feed.draws ≡ draws_shown shown
shown-draws feed side shown broken drawn counted is = drawn.draws ∙ counted ∙ ap draws_shown (sym is)

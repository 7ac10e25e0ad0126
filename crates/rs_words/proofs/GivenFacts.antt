-- The next pair of a join is behind those that it gave before.
use Rattle.std.proofs.Common.{◌≡◌, ℕ, true, List, [], ◌∷◌, ◌++◌, find, take, Option, Some, None, Result, Ok, slice_get, refl, sym, ap, ◌∙◌}
use Rattle.std.proofs.lemmas.List.{map-append}
use Rattle.rs_words.specs.Certs.{AreGiven, Gave, numbers_in}
use Rattle.rs_feed.specs.declared.feed_row.FeedRow.{FeedRow}
use Rattle.rs_feed_join.specs.declared.fault.JoinFault.{JoinFault}
use Rattle.rs_feed_join.specs.declared.feed_pair.FeedPair.{FeedPair}
use Rattle.rs_feed_join.specs.Answers.{MayBe, answer_by, asks_of_cuts, is_refused}
use Rattle.rs_feed_join.specs.Cuts.{cut}
use Rattle.rs_feed_join.specs.Joins.{Continues, FeedJoinState, pairs_drawn}
use Rattle.rs_feed_join.specs.Pairs.{joined_pairs}
use Rattle.rs_feed_join.specs.Sides.{AreTaken, FeedSide}
use Rattle.rs_feed_join.proofs.RowFacts.{cut-whole}
use Rattle.rs_order.specs.Schedule.{SideAsk}
use Rattle.rs_order.proofs.PartFacts.{take-snoc}
use Rattle.rs_ripple.specs.Stands.{BeginsWith}
use Rattle.rs_ripple.proofs.ScheduleFacts.{BeginsWith-itself}

-- the rows that a side has now may be those of a feed of which it was drawn before
continues : (old new : FeedSide) → AreTaken new.rows → BeginsWith new.rows old.rows → (old.ended ≡ true → new ≡ old) → Continues old new.rows
continues old new taken begins over = record { falls = taken.falls; scores = taken.scores; begins = begins; ends = λ e. ap (λ (side : FeedSide). side.rows) (over e) }

-- and those that it has next
may_be : (number : ℕ) (side : FeedSide) (pair : Option FeedPair) → AreTaken side.rows → MayBe number side.rows side (Ok pair)
may_be number side pair taken = record { scores = taken.scores; begins = BeginsWith-itself side.rows; ends = λ e. refl; refused = tt }

-- the pairs that were given stay
kept-pairs : (old new : FeedJoinState) (pair : Option FeedPair) → Gave old new pair → take old.given (pairs_drawn new.left new.right) ≡ take old.given (pairs_drawn old.left old.right)
kept-pairs old new pair gave =
    gave.before.certain new.left.rows new.right.rows
    (continues old.left new.left gave.kept.left_rows gave.after.left_grows gave.after.left_over)
    (continues old.right new.right gave.kept.right_rows gave.after.right_grows gave.after.right_over)

-- an answer that is a pair is the one at its place
answer-pair : (lefts rights : List FeedRow) (n : ℕ) (pair : Option FeedPair) (ask : Option SideAsk) → Ok pair ≡ answer_by lefts rights n ask → slice_get (joined_pairs (cut lefts) (cut rights)) n ≡ pair
answer-pair lefts rights n pair None e = sym (ok-same e)
  where
    ok-same : {x y : Option FeedPair} → ◌≡◌ {A = Result (Option FeedPair) JoinFault} (Ok x) (Ok y) → x ≡ y
    ok-same e = cc
answer-pair lefts rights n pair (Some ask) e = absurd (cc e)

next-pair : (old new : FeedJoinState) (pair : Option FeedPair) → Gave old new pair → slice_get (pairs_drawn new.left new.right) old.given ≡ pair
next-pair old new pair gave =
    let answers = gave.next new.left.rows new.right.rows (may_be 1 new.left pair gave.kept.left_rows) (may_be 2 new.right pair gave.kept.right_rows) in
    let left : cut new.left.rows ≡ new.left.rows = cut-whole new.left.rows gave.kept.left_rows.falls gave.kept.left_rows.few in
    let right : cut new.right.rows ≡ new.right.rows = cut-whole new.right.rows gave.kept.right_rows.falls gave.kept.right_rows.few in
    ap (λ rows. slice_get (joined_pairs rows new.right.rows) old.given) (sym left)
    ∙ ap (λ rows. slice_get (joined_pairs (cut new.left.rows) rows) old.given) (sym right)
    ∙ answer-pair new.left.rows new.right.rows old.given pair (find (is_refused new.left.rows new.right.rows) (asks_of_cuts new.left.rows new.right.rows old.given)) answers.answer

pub given-more : (old new : FeedJoinState) (pair : FeedPair) (pairs : List (ℕ × ℕ)) → Gave old new (Some pair) → AreGiven old pairs → AreGiven new (pairs ++ (pair.left, pair.right) ∷ [])
given-more old new pair pairs gave given =
    ap (λ list. list ++ (pair.left, pair.right) ∷ []) (given ∙ ap numbers_in (sym (kept-pairs old new (Some pair) gave)))
    ∙ sym (map-append (λ (p : FeedPair). (p.left, p.right)) (take old.given (pairs_drawn new.left new.right)) (pair ∷ []))
    ∙ ap numbers_in (sym (take-snoc old.given (pairs_drawn new.left new.right) pair (next-pair old new (Some pair) gave)))
    ∙ ap (λ n. numbers_in (take n (pairs_drawn new.left new.right))) (sym gave.after.given)

pub given-same : (old new : FeedJoinState) (pairs : List (ℕ × ℕ)) → Gave old new None → AreGiven old pairs → AreGiven new pairs
given-same old new pairs gave given =
    given ∙ ap numbers_in (sym (kept-pairs old new None gave))
    ∙ ap (λ n. numbers_in (take n (pairs_drawn new.left new.right))) (sym gave.after.given)

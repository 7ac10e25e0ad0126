-- The pair that a join gives which is ready.
use Rattle.std.proofs.Common.{◌≡◌, ℕ, suc, ◌+◌, ◌*◌, ◌<◌, ◌≤◌, ◌^◌, Bool, true, false, cond, List, [], ◌∷◌, length, option_map, Option, Some, None, slice_get, slice_index, refl, sym, ◌∙◌, ap, ap₂, arith}
use Rattle.std.proofs.lemmas.List.{length-append}
use Rattle.std.specs.Str.{bytes_eq}
use Rattle.rs_feed.specs.declared.feed_row.FeedRow.{FeedRow}
use Rattle.rs_hrjn.specs.Hashed.{joined_of}
use Rattle.rs_order.specs.Schedule.{SideAsk}
use Rattle.rs_order.proofs.EachFacts.{each-slice_get}
use Rattle.rs_rank.specs.declared.ask.JoinAsk.TheVariants.{Ready}
use Rattle.rs_rank.specs.declared.row.RankRow.{RankRow}
use Rattle.rs_rank.proofs.StableFacts.{length-stable}
use Rattle.rs_ripple.specs.Ripple.{ask_of, taken_for}
use Rattle.rs_ripple.proofs.JoinLawFacts.{taken-join-stands}
use Rattle.rs_ripple.proofs.ScheduleFacts.{BeginsWith-itself}
use Rattle.rs_feed_join.specs.declared.feed_pair.FeedPair.{FeedPair}
use Rattle.rs_feed_join.specs.Pairs.{joined_pairs, pair_of, pairs_from, pairs_of_row, sum_of}
use Rattle.rs_feed_join.specs.Parts.{PartsState, StandsAt}
use Rattle.rs_feed_join.specs.Ranked.{join_of_rows, left_rows, right_rows, row_of}
use Rattle.rs_feed_join.proofs.AnswerFacts.{get-length}
use Rattle.rs_feed_join.proofs.KeptFacts.{get-map}
use Rattle.rs_feed_join.proofs.PairFacts.{IsPairIn, answers-are, in-pairs, rank_of, row_of-within}
use Rattle.rs_feed_join.proofs.RowFacts.{none_at, same_at}
use Rattle.rs_feed_join.proofs.StandFacts.{here}

-- there are not too many pairs to count
few-of_row : (i : ℕ) (left : FeedRow) (n : ℕ) (rows : List FeedRow) → length (pairs_of_row i left n rows) ≤ length rows
few-of_row i left n [] = omega arith
few-of_row i left n (row ∷ rows) = go (bytes_eq left.join row.join) (few-of_row i left (suc n) rows) where
  go : (b : Bool) → length (pairs_of_row i left (suc n) rows) ≤ length rows → length (cond b (pair_of i left n row ∷ pairs_of_row i left (suc n) rows) (pairs_of_row i left (suc n) rows)) ≤ suc (length rows)
  go true h = omega (arith, h)
  go false h = omega (arith, h)

few-from : (i : ℕ) (rows others : List FeedRow) → length others ≤ 131072 → length (pairs_from i rows others) ≤ 131072 * length rows
few-from i [] others h = omega arith
few-from i (row ∷ rows) others h =
    let one = few-of_row i row 1 others in
    let rest = few-from (suc i) rows others h in
    let both = length-append (pairs_of_row i row 1 others) (pairs_from (suc i) rows others) in
    omega (arith, one, rest, both, h)

few-pairs : (rows others : List FeedRow) → length rows ≤ 131072 → length others ≤ 131072 → length (joined_pairs rows others) ≤ 17179869184
few-pairs rows others h k =
    let all = length-stable sum_of (pairs_from 1 rows others) in
    let few = few-from 1 rows others k in
    omega (arith, all, few, h)

-- a pair that is given, as a row of the join
pub record IsGiven (parts : PartsState) (row : RankRow) : Type 0 where
  pub pair : FeedPair
  pub at : slice_get (joined_pairs parts.left.rows parts.right.rows) parts.given ≡ Some pair
  pub is : rank_of pair ≡ row
  pub both : IsPairIn parts.left.rows parts.right.rows pair
  pub more : parts.given + 1 < 2 ^ 64

module _ (made : List SideAsk) (parts : PartsState) (s : StandsAt made parts) (ready : ask_of parts.core.ripple ≡ Ready) where
  pub taken-pair : taken_for (ask_of parts.core.ripple) parts.core.ripple ≡ option_map rank_of (slice_get (joined_pairs parts.left.rows parts.right.rows) parts.given)
  taken-pair =
      (taken-join-stands (join_of_rows parts.left.rows parts.right.rows) (left_rows parts.left.rows) (right_rows parts.right.rows) made parts.given (joined_of parts.core) (here made parts s) ready).0
      ∙ ap (λ (rows : List RankRow). slice_get rows parts.given) (answers-are parts.left.rows parts.right.rows parts.left.rows parts.right.rows (BeginsWith-itself parts.left.rows) (BeginsWith-itself parts.right.rows))
      ∙ get-map rank_of (joined_pairs parts.left.rows parts.right.rows) parts.given

  none-there : (o : Option FeedPair) → None ≡ option_map rank_of o → o ≡ None
  none-there None e = refl
  none-there (Some p) e = cc

  pub taken-none : taken_for (ask_of parts.core.ripple) parts.core.ripple ≡ None → slice_get (joined_pairs parts.left.rows parts.right.rows) parts.given ≡ None
  taken-none e = none-there (slice_get (joined_pairs parts.left.rows parts.right.rows) parts.given) (sym e ∙ taken-pair)

  pub taken-some : (row : RankRow) → taken_for (ask_of parts.core.ripple) parts.core.ripple ≡ Some row → IsGiven parts row
  taken-some row e = go (slice_get (joined_pairs parts.left.rows parts.right.rows) parts.given) refl where
    go : (o : Option FeedPair) → slice_get (joined_pairs parts.left.rows parts.right.rows) parts.given ≡ o → IsGiven parts row
    go None f = absurd (none_at (sym (taken-pair ∙ ap (option_map rank_of) f) ∙ e))
    go (Some p) f = record {
      pair = p;
      at = f;
      is = same_at (sym (taken-pair ∙ ap (option_map rank_of) f) ∙ e);
      both = each-slice_get (IsPairIn parts.left.rows parts.right.rows) (joined_pairs parts.left.rows parts.right.rows) parts.given p (in-pairs parts.left.rows parts.right.rows) f;
      more = (let h = get-length (joined_pairs parts.left.rows parts.right.rows) parts.given p f in let k = few-pairs parts.left.rows parts.right.rows s.left_taken.few s.right_taken.few in omega (arith, h, k));
    }

-- its numbers
pub given-left : (parts : PartsState) (row : RankRow) (is : IsGiven parts row) → slice_index row.ids.rows 0 ≡ is.pair.left
given-left parts row is = ap (λ (r : RankRow). slice_index r.ids.rows 0) (sym is.is)

pub given-right : (parts : PartsState) (row : RankRow) (is : IsGiven parts row) → slice_index row.ids.rows 1 ≡ is.pair.right
given-right parts row is = ap (λ (r : RankRow). slice_index r.ids.rows 1) (sym is.is)

pub left-within : (parts : PartsState) (row : RankRow) → IsGiven parts row → (0 < slice_index row.ids.rows 0) × (slice_index row.ids.rows 0 ≤ length parts.left.rows)
left-within parts row is =
    let same = given-left parts row is in
    let within = row_of-within parts.left.rows is.pair.left is.both.left is.both.left_at in
    (let h = within.0 in omega (arith, same, h), let h = within.1 in omega (arith, same, h))

pub right-within : (parts : PartsState) (row : RankRow) → IsGiven parts row → (0 < slice_index row.ids.rows 1) × (slice_index row.ids.rows 1 ≤ length parts.right.rows)
right-within parts row is =
    let same = given-right parts row is in
    let within = row_of-within parts.right.rows is.pair.right is.both.right is.both.right_at in
    (let h = within.0 in omega (arith, same, h), let h = within.1 in omega (arith, same, h))

-- the pair that is made of the rows of these numbers
pub given-pair : (parts : PartsState) (row : RankRow) (is : IsGiven parts row) (made : FeedPair)
    → ((l r : FeedRow) → row_of parts.left.rows (slice_index row.ids.rows 0) ≡ Some l → row_of parts.right.rows (slice_index row.ids.rows 1) ≡ Some r → made ≡ pair_of (slice_index row.ids.rows 0) l (slice_index row.ids.rows 1) r)
    → Some made ≡ slice_get (joined_pairs parts.left.rows parts.right.rows) parts.given
given-pair parts row is made of =
    ap Some (of is.both.left is.both.right (ap (row_of parts.left.rows) (given-left parts row is) ∙ is.both.left_at) (ap (row_of parts.right.rows) (given-right parts row is) ∙ is.both.right_at)
    ∙ ap₂ (λ i j. pair_of i is.both.left j is.both.right) (given-left parts row is) (given-right parts row is) ∙ sym is.both.is)
    ∙ sym is.at

-- What a draw gives of a stream, and what is left of it.
use Rattle.std.proofs.Common.{ℕ, zero, suc, ◌≡◌, ◌∙◌, ◌+◌, add-one, Bool, true, false, List, [], ◌∷◌, drop, Option, Some, None, Result, Ok, Err, IfOk, IfSome, refl, sym, ap, subst}
use Rattle.std.specs.Prelude.{is_some, slice_get}
use Rattle.rs_feed.specs.declared.feed_row.FeedRow.{FeedRow}
use Rattle.rs_feed.specs.Feeds.{GivesNext}
use Rattle.rs_stream.specs.declared.fault.StreamFault.{StreamFault}
use Rattle.rs_stream.specs.Rows.{Draws, DrawsRow, Stream, ends, gives}
use Rattle.rs_stream.specs.StreamFeeds.{IsAt, IsBehind, StreamFeedState, rows_in}

pub none-of : {A : Type 0} (what : Option A) (some : Bool) → some ≡ is_some what → some ≡ false → what ≡ None
none-of None some is none = refl
none-of (Some x) some is none = absurd (let e = sym is ∙ none in cc)

-- the next of some rows, and those behind it
slice-next : (rows : List FeedRow) (place : ℕ) (row : FeedRow) (rest : List FeedRow) → drop place rows ≡ row ∷ rest → Some row ≡ slice_get rows place
slice-next [] zero row rest is = absurd cc
slice-next [] (suc place) row rest is = absurd cc
slice-next (first ∷ rows) zero row rest is = let same : first ≡ row = cc in ap Some (sym same)
slice-next (first ∷ rows) (suc place) row rest is = slice-next rows place row rest is

slice-end : (rows : List FeedRow) (place : ℕ) → drop place rows ≡ [] → None ≡ slice_get rows place
slice-end [] zero is = refl
slice-end [] (suc place) is = refl
slice-end (first ∷ rows) zero is = absurd cc
slice-end (first ∷ rows) (suc place) is = slice-end rows place is

drop-next : (rows : List FeedRow) (place : ℕ) (row : FeedRow) (rest : List FeedRow) → drop place rows ≡ row ∷ rest → drop (suc place) rows ≡ rest
drop-next [] zero row rest is = absurd cc
drop-next [] (suc place) row rest is = absurd cc
drop-next (first ∷ rows) zero row rest is = cc
drop-next (first ∷ rows) (suc place) row rest is = drop-next rows place row rest is

-- a row was given
pub at-next : (whole old new : Option Stream) (given : ℕ) (next : Option FeedRow) (row : FeedRow) → next ≡ Some row → IsAt whole given old → Draws (Ok next) old new → IsAt whole (given + 1) new
at-next None old new given next row is at draws = tt
at-next (Some whole) None new given next row is at draws = absurd at
at-next (Some whole) (Some left) None given next row is at draws = absurd draws
at-next (Some whole) (Some left) (Some rest) given next row is at draws =
    let drew : left ≡ gives row rest = subst (λ (n : Option FeedRow). DrawsRow (Ok n) left rest) is draws in record {
      rows = ap (λ (n : ℕ). drop n whole.rows) (add-one given) ∙ drop-next whole.rows given row rest.rows (at.rows ∙ ap (λ (s : Stream). s.rows) drew);
      ending = sym (ap (λ (s : Stream). s.ending) drew) ∙ at.ending;
    }

pub gives-next : (whole old new : Option Stream) (given : ℕ) (next : Option FeedRow) (row : FeedRow) → next ≡ Some row → IsAt whole given old → Draws (Ok next) old new → GivesNext (rows_in whole) given (Ok (Some row))
gives-next None old new given next row is at draws = tt
gives-next (Some whole) None new given next row is at draws = absurd at
gives-next (Some whole) (Some left) None given next row is at draws = absurd draws
gives-next (Some whole) (Some left) (Some rest) given next row is at draws =
    let drew : left ≡ gives row rest = subst (λ (n : Option FeedRow). DrawsRow (Ok n) left rest) is draws in
    slice-next whole.rows given row rest.rows (at.rows ∙ ap (λ (s : Stream). s.rows) drew)

-- there was none
pub gives-none : (whole old new : Option Stream) (given : ℕ) (next : Option FeedRow) → next ≡ None → IsAt whole given old → Draws (Ok next) old new → GivesNext (rows_in whole) given (Ok None)
gives-none None old new given next is at draws = tt
gives-none (Some whole) None new given next is at draws = absurd at
gives-none (Some whole) (Some left) None given next is at draws = absurd draws
gives-none (Some whole) (Some left) (Some rest) given next is at draws =
    let drew : (left ≡ ends (Ok tt)) × (rest ≡ left) = subst (λ (n : Option FeedRow). DrawsRow (Ok n) left rest) is draws in
    slice-end whole.rows given (at.rows ∙ ap (λ (s : Stream). s.rows) drew.0)

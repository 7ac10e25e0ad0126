-- The rows that a join drew of a side, one after another.
use Rattle.std.proofs.Common.{◌≡◌, ℕ, zero, ◌+◌, ◌-◌, ◌<◌, List, [], ◌∷◌, ◌++◌, length, take, suc, Some, slice_get, refl, sym, ap, ap₂, ◌∙◌, arith}
use Rattle.rs_feed.specs.declared.feed_row.FeedRow.{FeedRow}
use Rattle.rs_order.proofs.PartFacts.{take-snoc}

there-is : (rows : List FeedRow) (n : ℕ) → n < length rows → (row : FeedRow) × (slice_get rows n ≡ Some row)
there-is [] n within = absurd (omega arith)
there-is (row ∷ rows) zero within = (row, refl)
there-is (row ∷ rows) (suc n) within = there-is rows n (omega arith)

-- a row more, by its parts
pub row-more : (rows made : List FeedRow) (n : ℕ) (text : List ℕ) (score : ℕ) → n < length rows → made ≡ take n rows
    → ((drawn : FeedRow) → slice_get rows (n + 1 - 1) ≡ Some drawn → text ≡ drawn.join) → ((drawn : FeedRow) → slice_get rows (n + 1 - 1) ≡ Some drawn → score ≡ drawn.score)
    → made ++ record { join = text; score = score } ∷ [] ≡ take (n + 1) rows
row-more rows made n text score within so_far texts scores =
    let there = there-is rows n within in
    let place : n + 1 - 1 ≡ n = omega arith in
    let at : slice_get rows (n + 1 - 1) ≡ Some there.0 = ap (slice_get rows) place ∙ there.1 in
    ap (λ list. list ++ record { join = text; score = score } ∷ []) so_far
    ∙ ap₂ (λ (t : List ℕ) (s : ℕ). take n rows ++ record { join = t; score = s } ∷ []) (texts there.0 at) (scores there.0 at)
    ∙ sym (take-snoc n rows there.0 there.1)
    ∙ ap (λ k. take k rows) (let same : suc n ≡ n + 1 = omega arith in same)

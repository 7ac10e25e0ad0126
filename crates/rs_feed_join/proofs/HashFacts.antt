-- Rows with their texts as join values, and what one more of them does to a join.
use Rattle.std.proofs.Common.{◌≡◌, ℕ, suc, ◌+◌, List, [], ◌∷◌, ◌++◌, map, length, Some, refl, sym, ◌∙◌, ap, ap₂}
use Rattle.std.proofs.lemmas.List.{map-append}
use Rattle.std.proofs.lemmas.Slice.Eq.{bytes_eq-Decides}
use Rattle.std.specs.List.{filter}
use Rattle.rs_feed.specs.declared.feed_row.FeedRow.{FeedRow}
use Rattle.rs_hrjn.specs.Drawn.{DrawnRow, rows_of}
use Rattle.rs_hrjn.specs.Hashed.{Hashed, HaveTheirValues, MatchTheirValues, hash_left, hash_right, joined_of}
use Rattle.rs_order.specs.Sorting.{sorted}
use Rattle.rs_rank.specs.declared.row.RankRow.{RankRow}
use Rattle.rs_rank.specs.Keys.{key_cmp}
use Rattle.rs_rank.specs.Rows.{merge_row}
use Rattle.rs_ripple.specs.Joined.{fed_left, fed_right, is_behind, left_key, right_key}
use Rattle.rs_ripple.specs.Pairs.{pairs}
use Rattle.rs_ripple.specs.Ripple.{Ripple, full_key, left_drawn, right_drawn}
use Rattle.rs_ripple.specs.Stands.{BeginsWith}
use Rattle.rs_ripple.proofs.ScheduleFacts.{BeginsWith-itself}
use Rattle.rs_value.specs.declared.value.Value.TheVariants.{Text}
use Rattle.rs_feed_join.specs.Ranked.{hashed_left, hashed_right, left_row, left_rows, numbered, right_row, right_rows, row_of, same_texts}
use Rattle.rs_feed_join.proofs.PairFacts.{Has, has-first, has-rest, matching, pairs-are}
use Rattle.rs_feed_join.proofs.RankedFacts.{numbered-push}

text-same : (xs ys : List ℕ) → Text xs ∷ [] ≡ Text ys ∷ [] → xs ≡ ys
text-same xs ys e = cc

module _ (lefts rights : List FeedRow) where
  -- a left row and the right rows that match it have equal join values
  pub left-values : (i : ℕ) (left : FeedRow) → row_of lefts i ≡ Some left → (n : ℕ) (rows : List FeedRow) → Has rights n rows → HaveTheirValues (same_texts lefts rights (left_row i left)) (Text left.join ∷ []) (numbered hashed_right n rows)
  left-values i left at n [] has = tt
  left-values i left at n (row ∷ rows) has = (
    λ e. ap (λ (t : List ℕ). Text t ∷ []) ((bytes_eq-Decides left.join row.join).0 (sym (matching lefts rights i n left row at (has-first rights n row rows has)) ∙ e)),
    left-values i left at (suc n) rows (has-rest rights n row rows has),
  )

  pub left-matches : (i : ℕ) (left : FeedRow) → row_of lefts i ≡ Some left → (n : ℕ) (rows : List FeedRow) → Has rights n rows → MatchTheirValues (same_texts lefts rights (left_row i left)) (Text left.join ∷ []) (numbered hashed_right n rows)
  left-matches i left at n [] has = tt
  left-matches i left at n (row ∷ rows) has = (
    λ e. matching lefts rights i n left row at (has-first rights n row rows has) ∙ (bytes_eq-Decides left.join row.join).1 (text-same left.join row.join e),
    left-matches i left at (suc n) rows (has-rest rights n row rows has),
  )

  pub right-values : (j : ℕ) (right : FeedRow) → row_of rights j ≡ Some right → (n : ℕ) (rows : List FeedRow) → Has lefts n rows → HaveTheirValues (λ left. same_texts lefts rights left (right_row j right)) (Text right.join ∷ []) (numbered hashed_left n rows)
  right-values j right at n [] has = tt
  right-values j right at n (row ∷ rows) has = (
    λ e. ap (λ (t : List ℕ). Text t ∷ []) (sym ((bytes_eq-Decides row.join right.join).0 (sym (matching lefts rights n j row right (has-first lefts n row rows has) at) ∙ e))),
    right-values j right at (suc n) rows (has-rest lefts n row rows has),
  )

  pub right-matches : (j : ℕ) (right : FeedRow) → row_of rights j ≡ Some right → (n : ℕ) (rows : List FeedRow) → Has lefts n rows → MatchTheirValues (λ left. same_texts lefts rights left (right_row j right)) (Text right.join ∷ []) (numbered hashed_left n rows)
  right-matches j right at n [] has = tt
  right-matches j right at n (row ∷ rows) has = (
    λ e. matching lefts rights n j row right (has-first lefts n row rows has) at ∙ (bytes_eq-Decides row.join right.join).1 (sym (text-same right.join row.join e)),
    right-matches j right at (suc n) rows (has-rest lefts n row rows has),
  )

-- the rows alone
pub rows-left : (n : ℕ) (rows : List FeedRow) → rows_of (numbered hashed_left n rows) ≡ numbered left_row n rows
rows-left n [] = refl
rows-left n (row ∷ rows) = ap (λ rest. left_row n row ∷ rest) (rows-left (suc n) rows)

pub rows-right : (n : ℕ) (rows : List FeedRow) → rows_of (numbered hashed_right n rows) ≡ numbered right_row n rows
rows-right n [] = refl
rows-right n (row ∷ rows) = ap (λ rest. right_row n row ∷ rest) (rows-right (suc n) rows)

-- a join that has found these pairs
abbrev found_of : Ripple → List RankRow → Ripple
found_of ripple pairs = record ripple { held = map (λ row. (full_key ripple row, row)) (filter (λ row. is_behind ripple.taken (full_key ripple row)) (sorted key_cmp (full_key ripple) pairs)) }

-- with one more left row
module _ (core : Hashed) (xs ys : List FeedRow) (row : FeedRow) (lefts rights : List FeedRow) where
  module _ (is-left : core.lefts ≡ numbered hashed_left 1 xs) (is-right : core.rights ≡ numbered hashed_right 1 ys) (begins : BeginsWith lefts (xs ++ row ∷ [])) (beginning : BeginsWith rights ys) where
    left-now : rows_of core.lefts ++ left_row (1 + length xs) row ∷ [] ≡ left_rows (xs ++ row ∷ [])
    left-now = ap (λ (rows : List RankRow). rows ++ left_row (1 + length xs) row ∷ []) (ap rows_of is-left ∙ rows-left 1 xs) ∙ sym (numbered-push left_row 1 xs row)

    right-now : rows_of core.rights ≡ right_rows ys
    right-now = ap rows_of is-right ∙ rows-right 1 ys

    same-pairs : pairs (same_texts (xs ++ row ∷ []) ys) merge_row (rows_of core.lefts ++ left_row (1 + length xs) row ∷ []) (rows_of core.rights)
        ≡ pairs (same_texts lefts rights) merge_row (rows_of core.lefts ++ left_row (1 + length xs) row ∷ []) (rows_of core.rights)
    same-pairs =
        ap₂ (λ (a b : List RankRow). pairs (same_texts (xs ++ row ∷ []) ys) merge_row a b) left-now right-now
        ∙ pairs-are (xs ++ row ∷ []) ys (xs ++ row ∷ []) ys (BeginsWith-itself (xs ++ row ∷ [])) (BeginsWith-itself ys)
        ∙ sym (pairs-are lefts rights (xs ++ row ∷ []) ys begins beginning)
        ∙ ap₂ (λ (a b : List RankRow). pairs (same_texts lefts rights) merge_row a b) (sym left-now) (sym right-now)

    -- what is fed doesn't depend on the rows that weren't drawn
    pub left-fed : joined_of (hash_left (same_texts (xs ++ row ∷ []) ys) (left_row (1 + length xs) row) (Text row.join ∷ []) core)
        ≡ fed_left (same_texts lefts rights) (left_row (1 + length xs) row) (joined_of core)
    left-fed =
        ap₂ (λ (found : List RankRow) (rows : List RankRow). record {
          ripple = found_of (left_drawn (left_key core.ripple (left_row (1 + length xs) row)) core.ripple) found;
          lefts = rows;
          rights = rows_of core.rights;
        }) same-pairs (map-append (λ (drawn : DrawnRow). drawn.row) core.lefts (record { row = left_row (1 + length xs) row; values = Text row.join ∷ [] } ∷ []))

-- with one more right row
module _ (core : Hashed) (xs ys : List FeedRow) (row : FeedRow) (lefts rights : List FeedRow) where
  module _ (is-left : core.lefts ≡ numbered hashed_left 1 xs) (is-right : core.rights ≡ numbered hashed_right 1 ys) (begins : BeginsWith lefts xs) (beginning : BeginsWith rights (ys ++ row ∷ [])) where
    left-then : rows_of core.lefts ≡ left_rows xs
    left-then = ap rows_of is-left ∙ rows-left 1 xs

    right-then : rows_of core.rights ++ right_row (1 + length ys) row ∷ [] ≡ right_rows (ys ++ row ∷ [])
    right-then = ap (λ (rows : List RankRow). rows ++ right_row (1 + length ys) row ∷ []) (ap rows_of is-right ∙ rows-right 1 ys) ∙ sym (numbered-push right_row 1 ys row)

    pairs-same : pairs (same_texts xs (ys ++ row ∷ [])) merge_row (rows_of core.lefts) (rows_of core.rights ++ right_row (1 + length ys) row ∷ [])
        ≡ pairs (same_texts lefts rights) merge_row (rows_of core.lefts) (rows_of core.rights ++ right_row (1 + length ys) row ∷ [])
    pairs-same =
        ap₂ (λ (a b : List RankRow). pairs (same_texts xs (ys ++ row ∷ [])) merge_row a b) left-then right-then
        ∙ pairs-are xs (ys ++ row ∷ []) xs (ys ++ row ∷ []) (BeginsWith-itself xs) (BeginsWith-itself (ys ++ row ∷ []))
        ∙ sym (pairs-are lefts rights xs (ys ++ row ∷ []) begins beginning)
        ∙ ap₂ (λ (a b : List RankRow). pairs (same_texts lefts rights) merge_row a b) (sym left-then) (sym right-then)

    pub right-fed : joined_of (hash_right (same_texts xs (ys ++ row ∷ [])) (right_row (1 + length ys) row) (Text row.join ∷ []) core)
        ≡ fed_right (same_texts lefts rights) (right_row (1 + length ys) row) (joined_of core)
    right-fed =
        ap₂ (λ (found : List RankRow) (rows : List RankRow). record {
          ripple = found_of (right_drawn (right_key core.ripple (right_row (1 + length ys) row)) core.ripple) found;
          lefts = rows_of core.lefts;
          rights = rows;
        }) pairs-same (map-append (λ (drawn : DrawnRow). drawn.row) core.rights (record { row = right_row (1 + length ys) row; values = Text row.join ∷ [] } ∷ []))

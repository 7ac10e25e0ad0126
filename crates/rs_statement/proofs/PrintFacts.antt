-- The lines of rows, one after another.
use Rattle.std.proofs.Common.{ℕ, zero, suc, ◌≡◌, ◌∙◌, ◌+◌, ◌<◌, ◌++◌, List, [], ◌∷◌, length, take, drop, get_or, refl, sym, ap, arith}
use Rattle.std.proofs.lemmas.List.{drop_more, take-append-drop, take_more}
use Rattle.rs_lines.specs.Row.{line_of}
use Rattle.rs_rank.specs.declared.answer.Answer.{Answer}
use Rattle.rs_statement.specs.Lines.{rank_lines}

-- there is one for each row
pub length-rank_lines : (rank : ℕ) (rows : List Answer) → length (rank_lines rank rows) ≡ length rows
length-rank_lines rank [] = refl
length-rank_lines rank (row ∷ rest) = ap suc (length-rank_lines (rank + 1) rest)

-- the one at a place is that of the row there
rank_lines-at : (rank i : ℕ) (rows : List Answer) (row : Answer) → i < length rows → row ≡ get_or rows i row
    → get_or (rank_lines rank rows) i [] ≡ line_of (rank + i) row.score row.values
rank_lines-at rank i [] row within is = absurd (omega arith)
rank_lines-at rank zero (first ∷ rest) row within is =
    ap (λ (r : Answer). line_of rank r.score r.values) (sym is) ∙ ap (λ n. line_of n row.score row.values) (let same : rank ≡ rank + 0 = omega arith in same)
rank_lines-at rank (suc i) (first ∷ rest) row within is =
    rank_lines-at (rank + 1) i rest row (omega arith) is ∙ ap (λ n. line_of n row.score row.values) (let same : rank + 1 + i ≡ rank + suc i = omega arith in same)

-- behind this many rows that were given
module _ (given : ℕ) (rows : List Answer) (i : ℕ) (row : Answer) (line : List ℕ) (within : i < length rows) (is : row ≡ get_or rows i row)
    (line_is : line ≡ line_of (given + i + 1) row.score row.values) where
  abbrev lines : List (List ℕ)
  lines = rank_lines (suc given) rows

  within_lines : i < length lines
  within_lines = omega (arith, length-rank_lines (suc given) rows)

  line_at : get_or lines i [] ≡ line
  line_at = rank_lines-at (suc given) i rows row within is ∙ ap (λ n. line_of n row.score row.values) (let same : suc given + i ≡ given + i + 1 = omega arith in same) ∙ sym line_is

  -- the first lines with one more
  pub rank_lines-more : take (i + 1) lines ≡ take i lines ++ line ∷ []
  rank_lines-more = take_more lines i [] within_lines ∙ ap (λ line. take i lines ++ line ∷ []) line_at

  -- the first lines, the next one and the others
  pub rank_lines-next : lines ≡ take i lines ++ (line ∷ [] ++ drop (i + 1) lines)
  rank_lines-next =
      sym (take-append-drop i lines) ∙ ap (λ rest. take i lines ++ rest) (drop_more lines i [] within_lines ∙ ap (λ line. line ∷ drop (i + 1) lines) line_at)

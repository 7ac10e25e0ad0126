-- A table with one more row.
use Rattle.std.proofs.Common.{◌≡◌, ℕ, ◌+◌, List, [], ◌∷◌, ◌++◌, map, ap, ◌∙◌, sym, arith, append_assoc, append-nil}
use Rattle.std.specs.List.{concat, range_with_len}
use Rattle.std.proofs.lemmas.List.Folds.{concat-append}
use Rattle.std.proofs.lemmas.List.FromFn.{map-range_with_len_more}
use Rattle.rs_gen.specs.Tables.{table}

-- the lines of one more row
lines-more : (line_of : ℕ → List ℕ) (n : ℕ) → concat (map line_of (range_with_len 1 (n + 1))) ≡ concat (map line_of (range_with_len 1 n)) ++ line_of (n + 1)
lines-more line_of n =
    let next : 1 + n ≡ n + 1 = omega arith in
    let lines = map line_of (range_with_len 1 n) in
    ap concat (map-range_with_len_more line_of 1 n (n + 1) next) ∙ concat-append lines (line_of (n + 1) ∷ [])
    ∙ ap (λ last. concat lines ++ last) (append-nil (line_of (n + 1)))

-- its line stands behind those of the rows before it
pub table-more : (header : List ℕ) (line_of : ℕ → List ℕ) (n : ℕ) → table header line_of n ++ line_of (n + 1) ≡ table header line_of (n + 1)
table-more header line_of n =
    append_assoc header (concat (map line_of (range_with_len 1 n))) (line_of (n + 1)) ∙ ap (λ lines. header ++ lines) (sym (lines-more line_of n))

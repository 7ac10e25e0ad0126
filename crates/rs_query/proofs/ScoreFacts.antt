-- Scores as sums of weights times worths, and rankings as orders by key.
use Rattle.std.proofs.Common.{ℕ, zero, suc, ◌≡◌, ◌∙◌, ◌+◌, ◌-◌, ◌*◌, ◌/◌, ◌^◌, ◌≤◌, Bool, true, false, cond, List, [], ◌∷◌, length, map, nat_le, refl, sym, ap, arith}
use Rattle.std.proofs.lemmas.Bool.{le-leb, leb-false, leb-true, lt-leb}
use Rattle.std.proofs.Math.Nat.{mul-le-mul_left, mul-lt-mul_of_pos_left}
use Rattle.std.specs.List.{AllByRecursion}
use Rattle.rs_order.specs.Climbing.{Climbs, Precedes}
use Rattle.rs_order.specs.Sorting.{sorted}
use Rattle.rs_order.proofs.EachFacts.{each-map}
use Rattle.rs_rank.specs.Keys.{ids_cmp, key_cmp}
use Rattle.rs_rank.specs.Rows.{key_of}
use Rattle.rs_rank.specs.Stable.{put_all, put_behind, stable}
use Rattle.rs_rank.specs.Weights.{sum_inside}
use Rattle.rs_rank.specs.declared.row.RankRow.{RankRow}
use Rattle.rs_rank.specs.declared.scored_row.ScoredRow.{ScoredRow}
use Rattle.rs_rank.specs.declared.weights.Weights.{Weights}
use Rattle.rs_rank.proofs.SortedFacts.{stable-by_key}
use Rattle.rs_rank.proofs.StableFacts.{stable-map}
use Rattle.rs_expr.specs.Scoring.{Answering}
use Rattle.rs_catalog.specs.Catalog.{CatalogDef}
use Rattle.rs_query.specs.Answers.{padded, score_of, weights_of, worth_of}
use Rattle.rs_query.specs.WellFormed.{AreSameTerms}
use Rattle.rs_query.specs.declared.block.Block.{Block}
use Rattle.rs_query.specs.declared.term.Term.{Term}
use Rattle.rs_query.proofs.ExtendFacts.{prefix-one, prefix-others}

-- the worths of the first terms, all of them in the mask
pub score-evaluated : (answer : Answering) (catalogue : CatalogDef) (block : Block) (rows : List ℕ) (size : ℕ) (terms : List Term) → length terms ≤ size
    → sum_inside (2 ^ length terms - 1) (padded size (map (λ (t : Term). t.weight) terms)) (map (worth_of answer catalogue block rows) terms)
    ≡ score_of answer catalogue block rows terms
score-evaluated answer catalogue block rows zero [] few = refl
score-evaluated answer catalogue block rows zero (term ∷ terms) few = absurd (omega arith)
score-evaluated answer catalogue block rows (suc size) [] few = refl
score-evaluated answer catalogue block rows (suc size) (term ∷ terms) few =
    let weights = padded size (map (λ (t : Term). t.weight) terms) in
    let worths = map (worth_of answer catalogue block rows) terms in
    let first = term.weight * worth_of answer catalogue block rows term in
    ap (λ inside. cond inside first 0 + sum_inside ((2 ^ suc (length terms) - 1) / 2) weights worths) (prefix-one (length terms))
    ∙ ap (λ mask. first + sum_inside mask weights worths) (prefix-others (length terms))
    ∙ ap (λ others. first + others) (score-evaluated answer catalogue block rows size terms (omega arith))

-- terms that agree have the same weights and maxima
pub same-weights : (left right : Block) (xs ys : List Term) → AreSameTerms left right xs ys → map (λ (t : Term). t.weight) xs ≡ map (λ (t : Term). t.weight) ys
same-weights left right [] [] same = refl
same-weights left right [] (y ∷ ys) same = absurd same
same-weights left right (x ∷ xs) [] same = absurd same
same-weights left right (x ∷ xs) (y ∷ ys) same =
    ap (λ w. w ∷ map (λ (t : Term). t.weight) xs) same.0.weight ∙ ap (λ rest. y.weight ∷ rest) (same-weights left right xs ys same.1)

pub same-maxima : (left right : Block) (xs ys : List Term) → AreSameTerms left right xs ys → map (λ (t : Term). t.max) xs ≡ map (λ (t : Term). t.max) ys
same-maxima left right [] [] same = refl
same-maxima left right [] (y ∷ ys) same = absurd same
same-maxima left right (x ∷ xs) [] same = absurd same
same-maxima left right (x ∷ xs) (y ∷ ys) same =
    ap (λ m. m ∷ map (λ (t : Term). t.max) xs) same.0.max ∙ ap (λ rest. y.max ∷ rest) (same-maxima left right xs ys same.1)

pub same-sides : (left right : Block) → AreSameTerms left right left.terms right.terms → weights_of left ≡ weights_of right
same-sides left right same =
    ap (λ weights. record { weight = padded 8 weights; max = padded 8 (map (λ (t : Term). t.max) left.terms) }) (same-weights left right left.terms right.terms same)
    ∙ ap (λ maxima. record { weight = padded 8 (map (λ (t : Term). t.weight) right.terms); max = padded 8 maxima }) (same-maxima left right left.terms right.terms same)

-- numbers are in the same order as their products with a weight
weighted-order : (weight a b : ℕ) → 1 ≤ weight → nat_le (weight * a) (weight * b) ≡ nat_le a b
weighted-order weight a b some = go (nat_le a b) refl where
  go : (t : Bool) → nat_le a b ≡ t → nat_le (weight * a) (weight * b) ≡ t
  go true e = le-leb (weight * a) (weight * b) (mul-le-mul_left weight (leb-true a b e))
  go false e = lt-leb (weight * a) (weight * b) (mul-lt-mul_of_pos_left (leb-false a b e) some)

-- and so scores are
module _ (weight : ℕ) (some : 1 ≤ weight) where
  abbrev weighted : ScoredRow → ℕ
  weighted e = weight * e.score

  put_behind-weighted : (e : ScoredRow) (rows : List ScoredRow) → put_behind weighted e rows ≡ put_behind (λ (x : ScoredRow). x.score) e rows
  put_behind-weighted e [] = refl
  put_behind-weighted e (first ∷ rows) =
      ap (λ b. cond b (first ∷ put_behind weighted e rows) (e ∷ first ∷ rows)) (weighted-order weight e.score first.score some)
      ∙ ap (λ rest. cond (nat_le e.score first.score) (first ∷ rest) (e ∷ first ∷ rows)) (put_behind-weighted e rows)

  put_all-weighted : (ordered rows : List ScoredRow) → put_all weighted ordered rows ≡ put_all (λ (x : ScoredRow). x.score) ordered rows
  put_all-weighted ordered [] = refl
  put_all-weighted ordered (e ∷ rows) =
      put_all-weighted (put_behind weighted e ordered) rows ∙ ap (λ list. put_all (λ (x : ScoredRow). x.score) list rows) (put_behind-weighted e ordered)

  stable-weighted : (rows : List ScoredRow) → stable weighted rows ≡ stable (λ (x : ScoredRow). x.score) rows
  stable-weighted rows = put_all-weighted [] rows

-- the ids of rows rise where those of their entries do
Climbs-map : (row_for : ScoredRow → RankRow) (entries : List ScoredRow) → Climbs ids_cmp (λ e. (row_for e).ids) entries
    → Climbs ids_cmp (λ (row : RankRow). row.ids) (map row_for entries)
Climbs-map row_for [] h = tt
Climbs-map row_for (e ∷ entries) h = (each-map (Precedes ids_cmp (λ (row : RankRow). row.ids) (row_for e)) row_for entries h.0, Climbs-map row_for entries h.1)

pub ranking-by_key : (weights : Weights) (terms weight : ℕ) (row_for : ScoredRow → RankRow) (entries : List ScoredRow) → 1 ≤ weight
    → AllByRecursion (λ e. (row_for e).sum ≡ weight * e.score) entries → Climbs ids_cmp (λ e. (row_for e).ids) entries
    → map row_for (stable (λ (e : ScoredRow). e.score) entries) ≡ sorted key_cmp (key_of weights terms) (map row_for entries)
ranking-by_key weights terms weight row_for entries some sums climbs =
    ap (map row_for) (sym (stable-weighted weight some entries))
    ∙ stable-map row_for (λ e. weight * e.score) (λ (row : RankRow). row.sum) entries sums
    ∙ stable-by_key weights terms (map row_for entries) (Climbs-map row_for entries climbs)

-- The first rows of the stable order, where rows that are none of them are dropped before the last ones are put in.
use Rattle.std.proofs.Common.{◌≡◌, ◌∙◌, ◌++◌, ◌≤◌, ℕ, zero, suc, true, false, cond, nat_le, List, [], ◌∷◌, take, refl, sym, ap, append_assoc, append-nil, arith}
use Rattle.std.specs.Prelude.{Option, Some}
use Rattle.std.proofs.lemmas.List.{take-take}
use Rattle.rs_order.proofs.EachFacts.{each-take}
use Rattle.rs_rank.specs.Stable.{put_all, put_behind, stable}
use Rattle.rs_rank.specs.declared.row.RankRow.{RankRow}
use Rattle.rs_rank.proofs.StableFacts.{Falls, Falls-stable, Falls-unique, of_score-stable}
use Rattle.rs_plain.specs.Keeping.{HasBest, best_of}

module _ {T : Type 0} (score : T → ℕ) where
  -- rows are put in, and others behind them
  put_all-append : (first more ordered : List T) → put_all score ordered (first ++ more) ≡ put_all score (put_all score ordered first) more
  put_all-append [] more ordered = refl
  put_all-append (row ∷ first) more ordered = put_all-append first more (put_behind score row ordered)

  -- the first rows of a list whose scores never rise are such a list
  Falls-take : (n : ℕ) (rows : List T) → Falls score rows → Falls score (take n rows)
  unfolding Falls
  Falls-take zero rows falls = tt
  Falls-take (suc n) [] falls = tt
  Falls-take (suc n) (row ∷ rows) falls = (each-take (λ later. score later ≤ score row) n rows falls.0, Falls-take n rows falls.1)

  -- which stands in the stable order
  stable-falls : (rows : List T) → Falls score rows → stable score rows ≡ rows
  stable-falls rows falls = Falls-unique score (stable score rows) rows (Falls-stable score rows) falls (λ row. of_score-stable score (score row) rows)

  take-suc : (n : ℕ) (rows : List T) → take n (take (suc n) rows) ≡ take n rows
  take-suc n rows = take-take n (suc n) rows (omega arith)

  -- the first n rows are the same where only the first n were there when a row was put in
  take-put_behind : (n : ℕ) (row : T) (rows : List T) → take n (put_behind score row (take n rows)) ≡ take n (put_behind score row rows)
  take-put_behind zero row rows = refl
  take-put_behind (suc n) row [] = refl
  take-put_behind (suc n) row (first ∷ rest) =
      elim (nat_le (score row) (score first)) as (λ b. take (suc n) (cond b (first ∷ put_behind score row (take n rest)) (row ∷ first ∷ take n rest))
      ≡ take (suc n) (cond b (first ∷ put_behind score row rest) (row ∷ first ∷ rest))) [
        | true ↦ ap (λ rows. first ∷ rows) (take-put_behind n row rest)
        | false ↦ ap (λ rows. row ∷ rows) (take-suc n (first ∷ rest))
      ]

  take-put_all : (n : ℕ) (ordered rows : List T) → take n (put_all score (take n ordered) rows) ≡ take n (put_all score ordered rows)
  take-put_all n ordered [] = take-take n n ordered (omega arith)
  take-put_all n ordered (row ∷ rows) =
      sym (take-put_all n (put_behind score row (take n ordered)) rows)
      ∙ ap (λ list. take n (put_all score list rows)) (take-put_behind n row ordered)
      ∙ take-put_all n (put_behind score row ordered) rows

  -- the first rows of all are those of the first ones and others behind them
  take-stable : (n : ℕ) (rows more : List T) → take n (stable score (take n (stable score rows) ++ more)) ≡ take n (stable score (rows ++ more))
  take-stable n rows more =
      ap (take n) (put_all-append (take n (stable score rows)) more []
      ∙ ap (λ list. put_all score list more) (stable-falls (take n (stable score rows)) (Falls-take n (stable score rows) (Falls-stable score rows))))
      ∙ take-put_all n (stable score rows) more
      ∙ ap (take n) (sym (put_all-append rows more []))

-- rows have the best of themselves
pub HasBest-all : (limit : Option ℕ) (rows : List RankRow) → HasBest limit rows rows
HasBest-all limit rows = λ more. refl

-- and so have the first ones of their stable order
pub HasBest-cut : (limit : ℕ) (rows : List RankRow) → HasBest (Some limit) (take limit (stable (λ (row : RankRow). row.sum) rows)) rows
HasBest-cut limit rows = λ more. take-stable (λ (row : RankRow). row.sum) limit rows more

-- kept rows to which others were added have the best of all and these
pub HasBest-more : (limit : Option ℕ) (kept all added new : List RankRow) → HasBest limit kept all → HasBest limit new (kept ++ added) → HasBest limit new (all ++ added)
HasBest-more limit kept all added new before after = λ more.
    after more ∙ ap (best_of limit) (append_assoc kept added more) ∙ before (added ++ more) ∙ ap (best_of limit) (sym (append_assoc all added more))

-- where nothing comes behind them, their best are those of all
pub HasBest-best : (limit : Option ℕ) (kept all : List RankRow) → HasBest limit kept all → best_of limit kept ≡ best_of limit all
HasBest-best limit kept all has =
    ap (best_of limit) (sym (append-nil kept)) ∙ has [] ∙ ap (best_of limit) (append-nil all)

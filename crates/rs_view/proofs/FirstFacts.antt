-- The first rows that fresh combinations make, from their scores.
use Rattle.std.proofs.Common.{ℕ, zero, suc, ◌≡◌, ◌∙◌, List, [], ◌∷◌, map, take, refl, ap, subst}
use Rattle.std.specs.Prelude.{Result}
use Rattle.std.specs.List.{AllByRecursion, flat_map}
use Rattle.rs_rank.specs.Stable.{stable}
use Rattle.rs_rank.specs.declared.answer.Answer.{Answer}
use Rattle.rs_rank.specs.declared.row.RankRow.{RankRow}
use Rattle.rs_rank.proofs.StableFacts.{stable-map}
use Rattle.rs_expr.specs.InOrder.{Inquires}
use Rattle.rs_expr.specs.Scoring.{Answering, ScorerState}
use Rattle.rs_catalog.specs.Catalog.{CatalogDef}
use Rattle.rs_query.specs.Answers.{answer_row}
use Rattle.rs_query.specs.Questions.{asking}
use Rattle.rs_query.specs.declared.block.Block.{Block}
use Rattle.rs_plain.specs.Keeping.{answer_for, scored_for}
use Rattle.rs_plain.specs.Plain.{plain_faults, row_questions}
use Rattle.rs_plain.specs.declared.fault.PlainFault.{PlainFault}
use Rattle.rs_plain.specs.declared.fault.PlainFault.TheVariants.{Memory}
use Rattle.rs_plain.proofs.KeepingFacts.{answers-block}
use Rattle.rs_view.specs.Fresh.{fresh, fresh_questions, fresh_rows}

-- the rows of the answer that fresh combinations make
abbrev pub fresh_answers : Answering → CatalogDef → Block → List ℕ → List Answer
fresh_answers answer catalogue block old = map (answer_row answer catalogue block 1) (fresh catalogue block old)

-- the first ones of some rows by their scores
abbrev pub first_scored : ℕ → List RankRow → List RankRow
first_scored most scored = take most (stable (λ (row : RankRow). row.sum) scored)

pub map-take : {A B : Type 0} (f : A → B) (n : ℕ) (xs : List A) → map f (take n xs) ≡ take n (map f xs)
map-take f zero xs = refl
map-take f (suc n) [] = refl
map-take f (suc n) (x ∷ xs) = ap (λ rest. f x ∷ rest) (map-take f n xs)

module _ (catalogue : CatalogDef) (block : Block) where
  same-scores : (scored : List RankRow) → AllByRecursion (λ (row : RankRow). (answer_for catalogue block row).score ≡ row.sum) scored
  same-scores [] = tt
  same-scores (row ∷ scored) = (refl, same-scores scored)

  -- the first scored ones make the first rows
  pub answers-first : (answer : Answering) (old : List ℕ) (most : ℕ) → map (answer_for catalogue block) (first_scored most (fresh_rows answer catalogue block old))
      ≡ take most (stable (λ (row : Answer). row.score) (fresh_answers answer catalogue block old))
  answers-first answer old most =
      let scored = fresh_rows answer catalogue block old in
      map-take (answer_for catalogue block) most (stable (λ (row : RankRow). row.sum) scored)
      ∙ ap (take most)
      (stable-map (answer_for catalogue block) (λ (row : RankRow). row.sum) (λ (row : Answer). row.score) scored (same-scores scored)
      ∙ ap (stable (λ (row : Answer). row.score)) (answers-block answer catalogue 1 block (fresh catalogue block old)))

-- the same block, and the combinations that were found
pub scored-found : (catalogue : CatalogDef) (block found : Block) (old : List ℕ) (combinations : List (List ℕ)) (result : Result (List RankRow) PlainFault) (before after : ScorerState)
    → found ≡ block → combinations ≡ fresh catalogue found old
    → Inquires Memory (asking plain_faults before.answer catalogue (flat_map (row_questions 1 found) combinations) (map (scored_for before.answer catalogue 1 found) combinations)) result before after
    → Inquires Memory (asking plain_faults before.answer catalogue (fresh_questions catalogue block old) (fresh_rows before.answer catalogue block old)) result before after
scored-found catalogue block found old combinations result before after same all inquired =
    subst (λ (b : Block). Inquires Memory (asking plain_faults before.answer catalogue (fresh_questions catalogue b old) (fresh_rows before.answer catalogue b old)) result before after) same
    (subst (λ rows. Inquires Memory (asking plain_faults before.answer catalogue (flat_map (row_questions 1 found) rows) (map (scored_for before.answer catalogue 1 found) rows)) result before after) all inquired)

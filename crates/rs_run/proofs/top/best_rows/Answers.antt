use Rattle.std.proofs.Common.{◌∙◌, sym, subst}
use Rattle.std.specs.List.{AllByRecursion}
use Rattle.rs_order.proofs.EachFacts.{each-take}
use Rattle.rs_rank.proofs.StableFacts.{AllByRecursion-stable}
use Rattle.rs_rank.specs.declared.scored_row.ScoredRow.{ScoredRow}
use Rattle.rs_run.specs.Parts.Read.{IsRow}
use Rattle.rs_run.proofs.top.best_rows.Goals as goal

pub row_answers-requires : goal.row_answers-requires
row_answers-requires c =
    let P : ScoredRow → Type 0 = λ r. IsRow c.args.table.now r.row in
    subst (AllByRecursion P) (sym (c.deref.ensures.value ∙ c.truncate.ensures.items))
    (each-take P c.args.count _ (subst (AllByRecursion P) (sym c.in_ok-sort_stably.ensures.ok) (AllByRecursion-stable (λ r. r.score) P _ c.in-Ok.ensures.rows)))

-- The rows that are left behind a cut have the best of all.
use Rattle.std.proofs.Common.{◌∙◌, ◌++◌, ◌∷◌, ℕ, [], List, Some, take, sym, ap, subst}
use Rattle.std.specs.Prelude.{Option}
use Rattle.rs_rank.specs.Stable.{stable}
use Rattle.rs_rank.specs.declared.row.RankRow.{RankRow}
use Rattle.rs_plain.specs.Keeping.{HasBest}
use Rattle.rs_plain.proofs.BestFacts.{HasBest-cut}
use Rattle.rs_plain.proofs.best.BestRows.add.Goals as goal

pub returns-in_ok-sort_stably-clause-best : goal.returns-in_ok-sort_stably-clause-best
returns-in_ok-sort_stably-clause-best c =
    let limit = c.in-Some.limit in
    let all = c.args.self.now.rows.items ++ c.args.row ∷ [] in
    subst (λ (most : Option ℕ). HasBest most c.truncate.new.self.items all) (sym c.in-Some.is)
    (subst (λ (kept : List RankRow). HasBest (Some limit) kept all)
    (sym (c.truncate.ensures.items ∙ ap (take limit) (c.in_ok-sort_stably.ensures.ok ∙ ap (stable (λ (row : RankRow). row.sum)) c.in_ok-push.ensures.items)))
    (HasBest-cut limit all))

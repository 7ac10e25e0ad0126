use Rattle.std.specs.List.{AllByRecursion}
use Rattle.rs_catalog.proofs.ScoreFacts.{Rest}
use Rattle.rs_run.specs.Parts.Read.{IsRow}
use Rattle.rs_run.specs.Top.{number_at}
use Rattle.rs_run.proofs.top.score_rows.Given as goal

-- the rows so far have scores, and the rest decides
abbrev pub invariant-loop-index : goal.invariant-loop-index
invariant-loop-index l = record {
  rest : Rest (number_at l.place) l.max l.table.rows l.index l.scored.items;
  each : AllByRecursion (λ r. IsRow l.table r.row) l.scored.items;
}

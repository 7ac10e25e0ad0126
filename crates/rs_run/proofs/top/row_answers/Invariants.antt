use Rattle.std.proofs.Common.{◌≡◌, map, take}
use Rattle.rs_run.specs.Top.{row_answer}
use Rattle.rs_run.proofs.top.row_answers.Given as goal

-- the answers so far are those of the first rows
abbrev pub invariant-loop-row : goal.invariant-loop-row
invariant-loop-row l = l.rows.items ≡ map (row_answer l.table) (take l.row-index l.scored)

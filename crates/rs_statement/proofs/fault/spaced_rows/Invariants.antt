use Rattle.std.proofs.Common.{take}
use Rattle.std.specs.String.{string_bytes}
use Rattle.rs_statement.proofs.LineFacts.{IsSpaced}
use Rattle.rs_statement.proofs.fault.spaced_rows.Given as goal

-- the rows so far are told
abbrev pub invariant-loop-row : goal.invariant-loop-row
invariant-loop-row l = IsSpaced (take l.row-index l.rows) (string_bytes l.text) l.space

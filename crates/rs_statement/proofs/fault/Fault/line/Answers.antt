use Rattle.std.proofs.Common.{append_assoc}
use Rattle.rs_statement.proofs.fault.Fault.line.Goals as goal

pub returns-in_ok-format-in-BadScore : goal.returns-in_ok-format-in-BadScore
returns-in_ok-format-in-BadScore c =
    rw c.in-BadScore.is (simp append_assoc (rw (c.as_str-predicate.ensures, c.as_str-rows.ensures.value, c.in_ok-rows-in-BadScore.ensures) at c.in_ok-format-in-BadScore.ensures.ok))

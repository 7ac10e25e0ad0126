use Rattle.std.proofs.Common.{append_assoc}
use Rattle.rs_statement.proofs.fault.table_text.Goals as goal

pub returns-in_ok-format-in-FieldCount : goal.returns-in_ok-format-in-FieldCount
returns-in_ok-format-in-FieldCount c = rw c.in-FieldCount.is (simp append_assoc c.in_ok-format-in-FieldCount.ensures.ok)

pub returns-in_ok-format-in-NotUtf8 : goal.returns-in_ok-format-in-NotUtf8
returns-in_ok-format-in-NotUtf8 c = rw c.in-NotUtf8.is (simp append_assoc c.in_ok-format-in-NotUtf8.ensures.ok)

pub returns-in_ok-format-in-NotInt : goal.returns-in_ok-format-in-NotInt
returns-in_ok-format-in-NotInt c = rw c.in-NotInt.is (simp append_assoc c.in_ok-format-in-NotInt.ensures.ok)

use Rattle.std.proofs.Common.{◌≡◌, ◌*◌, ◌++◌, replicate}
use Rattle.rs_enum.proofs.text.put_indent.Given as goal

-- two spaces stand for each level so far
abbrev pub invariant-loop-below : goal.invariant-loop-below
invariant-loop-below l = l.text.items ≡ l.initial.text.items ++ replicate (2 * l._below) 32

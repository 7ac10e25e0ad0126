use Rattle.std.proofs.Common.{◌≡◌, take}
use Rattle.rs_table.proofs.texts.copied_set.Given as goal

abbrev pub invariant-loop-number : goal.invariant-loop-number
invariant-loop-number l = l.copy.keys ≡ take l.number l.texts.keys

use Rattle.std.proofs.Common.{◌≡◌, ◌++◌, map, set, take}
use Rattle.rs_sample.proofs.choices.add_each.Given as goal

abbrev pub invariant-loop-rows : goal.invariant-loop-rows
invariant-loop-rows l = l.all.items ≡ l.fn.all.items ++ map (λ rows. set rows l.place l.row) (take l.rows-index l.choices)

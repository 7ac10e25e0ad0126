use Rattle.std.proofs.Common.{◌≡◌, map, set, take}
use Rattle.std.specs.List.{flat_map}
use Rattle.rs_sample.proofs.choices.with_each.Given as goal

abbrev pub invariant-loop-row : goal.invariant-loop-row
invariant-loop-row l = l.all.items ≡ flat_map (λ row. map (λ rows. set rows l.place row) l.choices) (take l.row-index l.rows)

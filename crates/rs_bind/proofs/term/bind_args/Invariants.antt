use Rattle.std.proofs.Common.{◌≡◌, drop}
use Rattle.rs_table.specs.Appended.{appended}
use Rattle.rs_bind.specs.Indexes.{args_of}
use Rattle.rs_bind.proofs.term.bind_args.Given as goal

abbrev pub invariant-loop-index : goal.invariant-loop-index
invariant-loop-index g l =
    appended l.made.items (args_of (g.C.Columns.finds l.columns) (drop l.index l.params) (drop l.index l.args)) ≡ args_of (g.C.Columns.finds l.columns) l.params l.args

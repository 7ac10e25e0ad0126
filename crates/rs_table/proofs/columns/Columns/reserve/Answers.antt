-- The room of the columns is that of the rows.
use Rattle.std.proofs.Common.{◌≤◌, arith, subst, sym}
use Rattle.std.specs.Prelude.{OnOk}
use Rattle.std.specs.List.{All}
use Rattle.std.proofs.lemmas.List.{with_items_is}
use Rattle.rs_table.specs.Stored.{rooms_in}
use Rattle.rs_table.proofs.columns.Columns.reserve.Goals as goal

pub returns-clause-ok : goal.returns-clause-ok
returns-clause-ok c =
    let same = c.reserve_all.auto.columns in
    let size = c.as_mut_slice.ensures.len in
    subst (λ columns. OnOk c.reserve_all.result (All (λ room. c.args.count ≤ room) (rooms_in columns))) (sym (with_items_is c.self.inside.columns c.reserve_all.new.columns (omega arith)))
    c.reserve_all.ensures.ok

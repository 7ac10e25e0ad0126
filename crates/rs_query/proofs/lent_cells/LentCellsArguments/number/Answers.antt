-- A number of a cell is in range, since the cell has the kind that the condition uses.
use Rattle.std.proofs.Common.{rules}
use Rattle.rs_value.specs.declared.kind.Kind.TheVariants as kind
use Rattle.rs_query.proofs.lent_cells.LentCellsArguments.number.Goals as goal

pub returns-in-Number-clause-within : goal.returns-in-Number-clause-within
returns-in-Number-clause-within c =
    let fit = c.in-Number.ensures.fit kind.Int c.requires in
    search (rules, fit)

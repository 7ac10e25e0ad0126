-- The one column of the argument is inside.
use Rattle.std.proofs.Common.{◌≡◌, ◌∷◌, [], true, subst}
use Rattle.rs_catalog.specs.declared.index.BoundArg.{BoundArg}
use Rattle.rs_rank.specs.Masks.{mask_of}
use Rattle.rs_query.specs.Meaning.{is_inside}
use Rattle.rs_query.specs.WellFormed.{IsArg, argument_columns, entries_mask}
use Rattle.rs_query.proofs.EntryFacts.{is_inside-left, row-inside}
use Rattle.rs_query.proofs.block.Block.push_arg.Goals as goal

pub push_cell-requires-clause-row : goal.push_cell-requires-clause-row
push_cell-requires-clause-row c =
    let entry = c.in-Column.entry in
    let column = c.in-Column.column in
    let is = subst (IsArg c.args.catalog.now c.args.self.now c.requires.arg.0) c.in-Column.is c.requires.arg.1 in
    row-inside c.args.catalog.now c.args.self.now c.args.ids.now.mask c.args.ids.now.rows (entry, column) c.requires.rows is.0
    (is_inside-left (mask_of entry) 0 c.args.ids.now.mask
    (subst (λ (a : BoundArg). is_inside (entries_mask (argument_columns (a ∷ []))) c.args.ids.now.mask ≡ true) c.in-Column.is c.requires.inside))

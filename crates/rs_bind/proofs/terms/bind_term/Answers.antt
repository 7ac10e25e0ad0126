use Rattle.std.proofs.Common.{◌∙◌, subst, sym}
use Rattle.std.specs.List.{AllByRecursion}
use Rattle.rs_bind.specs.Queries.{IsEntryArg}
use Rattle.rs_bind.proofs.ArgFacts.{given-entries}
use Rattle.rs_bind.proofs.terms.bind_term.Goals as goal

pub entries_of-entries-requires : goal.entries_of-entries-requires
entries_of-entries-requires g c =
    subst (AllByRecursion IsEntryArg) (sym (c.deref-3.ensures.value ∙ c.items-3.ensures))
    (given-entries (g.C.Columns.finds c.args.columns.now) c.requires.few c.params.result.now c.deref.result.now c.args.term.now.at c.in_ok-args.args c.in_ok-args.ensures)

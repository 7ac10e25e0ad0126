use Rattle.std.proofs.Common.{[], ◌∷◌, ◌∙◌, ap, sym}
use Rattle.std.specs.Int.Bits.{or_zero_r}
use Rattle.rs_catalog.specs.declared.index.BoundArg.{BoundArg}
use Rattle.rs_rank.specs.Masks.{mask_of}
use Rattle.rs_query.specs.WellFormed.{argument_columns, entries_mask}
use Rattle.rs_bind.proofs.terms.entries_of_one.Goals as goal

pub returns-in-Column : goal.returns-in-Column
returns-in-Column c =
    c.mask_of.ensures ∙ (sym (or_zero_r (mask_of c.in-Column.entry)) ∙ ap (λ (a : BoundArg). entries_mask (argument_columns (a ∷ []))) (sym c.in-Column.is))

use Rattle.std.proofs.Common.{◌≡◌, ◌+◌, List, [], ◌∷◌, ◌++◌, ◌∙◌, ap, arith, bit_or, sym, take}
use Rattle.std.proofs.lemmas.List.{take_more}
use Rattle.rs_catalog.specs.declared.index.BoundArg.{BoundArg}
use Rattle.rs_query.specs.WellFormed.{argument_columns, entries_mask}
use Rattle.rs_bind.proofs.MaskFacts.{entries_mask-push}
use Rattle.rs_bind.proofs.terms.entries_of.Goals as goal

pub loop-arg-preserved : goal.loop-arg-preserved
loop-arg-preserved c =
    let args = c.args.args.now in
    let i = c.loop-arg.arg-index in
    let a = c.arg-item.result in
    let taken : take (i + 1) args ≡ (take i args ++ a ∷ []) =
    take_more args i a (omega arith) ∙ ap (λ (b : BoundArg). take i args ++ b ∷ []) (sym c.arg-item.is) in
    ap (λ m. bit_or m c.entries_of_one-entries.result) c.loop-arg.invariant
    ∙ (ap (bit_or (entries_mask (argument_columns (take i args)))) c.entries_of_one-entries.ensures
    ∙ (sym (entries_mask-push (take i args) a) ∙ ap (λ (xs : List BoundArg). entries_mask (argument_columns xs)) (sym taken)))

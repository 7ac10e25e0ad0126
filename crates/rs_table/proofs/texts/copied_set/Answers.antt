-- The text joins: none before it is equal.
use Rattle.std.proofs.Common.{◌≡◌, ◌<◌, ◌∙◌, [], sym, length, get_or, rules}
use Rattle.std.proofs.lemmas.List.{take_more}
use Rattle.std.proofs.lemmas.Option.{get_or_from_slice_get}
use Rattle.rs_table.proofs.CopyFacts.{new-at}
use Rattle.rs_table.proofs.texts.copied_set.Goals as goal

pub loop-number-preserved : goal.loop-number-preserved
loop-number-preserved c =
    let keys = c.args.texts.now.keys in
    let within : c.loop-number.number < length keys = search rules in
    let is : c.in_ok-copy-2.field-0 ≡ get_or keys c.loop-number.number [] =
    c.in_ok-copy-2.ensures ∙ sym (get_or_from_slice_get keys c.loop-number.number c.index.result.now [] c.index.ensures) in
    c.in_ok-insert.ensures.keys ∙ rw (is, c.loop-number.invariant, new-at keys c.loop-number.number within c.len.ensures.unique)
    (sym (take_more keys c.loop-number.number [] within))

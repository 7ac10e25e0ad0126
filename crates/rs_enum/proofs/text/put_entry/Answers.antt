-- The name and the alias stand with a space between them.
use Rattle.std.proofs.Common.{◌≡◌, ◌∙◌, ◌-◌, ◌<◌, Some, slice_get, length, get_or, refl, sym, ap, arith}
use Rattle.std.proofs.lemmas.Option.{slice_get_read}
use Rattle.rs_enum.specs.Texts.{alias_of, table_of}
use Rattle.rs_enum.proofs.TextFacts.{alias-is, entry-text, table-is}
use Rattle.rs_enum.proofs.text.put_entry.Goals as goal

pub returns : goal.returns
returns c =
    let from = c.index-from.result.now in
    let entries = c.args.block.now.from in
    let some = c.requires.entry.some in
    let most = c.requires.entry.most in
    let within : c.args.entry - 1 < length entries = omega arith in
    let at : slice_get entries (c.args.entry - 1) ≡ Some from =
    slice_get_read entries (length entries) (c.args.entry - 1) from refl within (c.index-from.ensures ∙ ap (λ xs. get_or xs (c.args.entry - 1) from) c.items.ensures) in
    entry-text c.args.text.now.items c.extend_from_slice.new.self.items c.push.new.self.items c.extend_from_slice-2.new.self.items
    c.bytes.result.now c.bytes-2.result.now (table_of c.args.catalog.now c.args.block.now c.args.entry) (alias_of c.args.block.now c.args.entry)
    c.in_ok-extend_from_slice.ensures.items c.in_ok-push.ensures.items c.in_ok-extend_from_slice-2.ensures.items
    (c.bytes.ensures.value ∙ sym (table-is c.args.catalog.now c.args.block.now c.args.entry from c.table_name.result.now at c.table_name.ensures))
    (c.bytes-2.ensures.value ∙ sym (alias-is c.args.block.now c.args.entry from at))

use Rattle.std.proofs.Common.{inl, inr}
use Rattle.rs_value.proofs.TextFacts.{text_of-utf8}
use Rattle.rs_grammar.proofs.lexeme.copy.Goals as goal

pub unreachable-requires : goal.unreachable-requires
unreachable-requires c =
    let utf8 = text_of-utf8 c.args.bytes.now c.requires in
    let is = c.in-Err-NotUtf8.is in
    let fault = c.in-Err-NotUtf8.field-0-is in
    elim c.from_bytes.ensures [ inl e ↦ cc | inr e ↦ cc ]

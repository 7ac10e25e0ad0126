use Rattle.std.proofs.Common.{sym, ap, ◌∙◌, inl}
use Rattle.std.specs.Prelude.{Ok, Err}
use Rattle.rs_value.specs.declared.text.TextFault.TheVariants.{NotUtf8}
use Rattle.rs_value.proofs.TextFacts.{text_of-utf8, text_of-not_utf8}
use Rattle.rs_value.proofs.text.Text.from_bytes.Goals as goal

pub returns-in-Ok-from_str : goal.returns-in-Ok-from_str
returns-in-Ok-from_str c =
    inl (ap Ok (c.in-Ok-from_str.ensures.ok ∙ c.in-Ok.ensures.cases.0) ∙ sym (text_of-utf8 c.args.bytes.now c.in-Ok.ensures.cases.1))

pub returns-in-Err : goal.returns-in-Err
returns-in-Err c =
    inl (ap (λ at. Err (NotUtf8 at)) (c.valid_up_to.ensures ∙ c.in-Err.ensures.valid_len) ∙ sym (text_of-not_utf8 c.args.bytes.now c.in-Err.ensures.cases.0))

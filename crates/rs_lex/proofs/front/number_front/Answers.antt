use Rattle.std.proofs.Common.{take, sym, ap, ◌∙◌}
use Rattle.std.specs.Prelude.{not}
use Rattle.rs_value.specs.Number.{decimal_value, greatest_int}
use Rattle.rs_lex.proofs.FrontFacts.{number_front-wide, none_is}
use Rattle.rs_lex.proofs.front.number_front.Goals as goal

pub returns-then-is_none : goal.returns-then-is_none
returns-then-is_none c =
    number_front-wide c.args.bytes.now c.requires
    (sym (ap (λ digits. decimal_value greatest_int digits) (c.split_at.ensures.front ∙ ap (λ n. take n c.args.bytes.now) c.digits.ensures))
    ∙ sym c.decimal_of.ensures ∙ none_is _ (c.is_none.ensures ∙ ap (λ b. not b) c.if-is_none.true))

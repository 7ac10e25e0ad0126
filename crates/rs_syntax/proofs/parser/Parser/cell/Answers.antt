use Rattle.std.proofs.Common.{◌∙◌, rules, sym, ap}
use Rattle.std.proofs.lemmas.Int.{to_z-of_z}
use mir.Syntax.{w64}
use mir.Val.{SFits}
use Rattle.rs_syntax.specs.declared.row.Cell.TheVariants.{Int, Text}
use Rattle.rs_syntax.proofs.Steps.{read-rule, read-this, read-that, found, halts-this, halts-that, halts-rule, goes_on}
use Rattle.rs_syntax.proofs.parser.Parser.cell.Goals as goal

pub returns-in_err-number : goal.returns-in_err-number
returns-in_err-number c = goes_on _ _ (search rules) (halts-rule (halts-this (sym c.if-at_any.ensures) c.in_err-number.ensures))

pub returns-then-at_any : goal.returns-then-at_any
returns-then-at_any c =
    let fits : SFits w64 c.in_ok-number.number = search rules in
    let m = c.in_ok-number.ensures.means in
    found (read-rule (read-this (sym c.if-at_any.ensures) c.in_ok-number.ensures.read))
    (ap (λ n. Int n.0 n.1) m ∙ ap (λ n. Int n c.in_ok-number.at) (sym (to_z-of_z w64 c.in_ok-number.number fits)))

pub returns-in_err-text : goal.returns-in_err-text
returns-in_err-text c = goes_on _ _ (search rules) (halts-rule (halts-that (sym c.if-at_any.ensures) c.in_err-text.ensures))

pub returns : goal.returns
returns c =
    let m = c.in_ok-text.ensures.means in
    found (read-rule (read-that (sym c.if-at_any.ensures) c.in_ok-text.ensures.read)) (ap (λ t. Text t.0 t.1) m)

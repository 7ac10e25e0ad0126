use Rattle.std.proofs.Common.{rules, sym}
use Rattle.std.proofs.lemmas.Int.{to_z-of_z}
use mir.Syntax.{w64}
use mir.Val.{SFits}
use Rattle.rs_syntax.proofs.Operands.{base-number, base-literal, base-plain, halts-base, halts-plain}
use Rattle.rs_syntax.proofs.Steps.{halts-this, halts-that, halts-rule, goes_on}
use Rattle.rs_syntax.proofs.parser.Parser.simple.Goals as goal

pub returns-in_err-number : goal.returns-in_err-number
returns-in_err-number c = goes_on _ _ (search rules) (halts-rule (halts-this (sym c.if-at.ensures) c.in_err-number.ensures.reads))

pub returns-then-at : goal.returns-then-at
returns-then-at c = let small : SFits w64 c.in_ok-number.number = search rules in rw (to_z-of_z w64 c.in_ok-number.number small) (base-number (sym c.if-at.ensures) c.in_ok-number.ensures.reads)

pub returns-in_err-text : goal.returns-in_err-text
returns-in_err-text c = goes_on _ _ (search rules) (halts-rule (halts-that (sym c.if-at.ensures) (halts-this (sym c.if-at-2.ensures) c.in_err-text.ensures)))

pub returns-then-at-2 : goal.returns-then-at-2
returns-then-at-2 c = base-literal (sym c.if-at.ensures) (sym c.if-at-2.ensures) c.in_ok-text.ensures

pub returns-in_err-column : goal.returns-in_err-column
returns-in_err-column c = goes_on _ _ (search rules) (halts-plain (record { number = sym c.if-at.ensures; literal = sym c.if-at-2.ensures }) (sym c.if-at_plain_name.ensures) c.in_err-column.ensures)

pub returns-then-at_plain_name : goal.returns-then-at_plain_name
returns-then-at_plain_name c = base-plain (record { number = sym c.if-at.ensures; literal = sym c.if-at-2.ensures }) (sym c.if-at_plain_name.ensures) c.in_ok-column.ensures

pub returns : goal.returns
returns c = halts-base (record { number = sym c.if-at.ensures; literal = sym c.if-at-2.ensures }) (sym c.if-at_plain_name.ensures) c.requires.absolute c.requires.extreme c.requires.brackets c.requires.case

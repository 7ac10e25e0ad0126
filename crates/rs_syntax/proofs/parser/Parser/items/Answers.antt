use Rattle.std.proofs.Common.{rules, sym, ap}
use Rattle.rs_syntax.specs.declared.select.Items.TheVariants as items
use Rattle.rs_syntax.proofs.Steps.{read-rule, read-this, read-that, found, halts-this, halts-that, halts-rule, goes_on}
use Rattle.rs_syntax.proofs.parser.Parser.items.Goals as goal

pub returns-in_err-at : goal.returns-in_err-at
returns-in_err-at c = goes_on _ _ (search rules) (halts-rule (halts-this (sym c.if-at.ensures) c.in_err-at.ensures))

pub returns-then-at : goal.returns-then-at
returns-then-at c =
    let m = c.in_ok-at.ensures.means in
    found (read-rule (read-this (sym c.if-at.ensures) c.in_ok-at.ensures.read)) (ap items.Star m)

pub returns-in_err-columns : goal.returns-in_err-columns
returns-in_err-columns c = goes_on _ _ (search rules) (halts-rule (halts-that (sym c.if-at.ensures) c.in_err-columns.ensures))

pub returns : goal.returns
returns c =
    let m = c.in_ok-columns.ensures.means in
    found (read-rule (read-that (sym c.if-at.ensures) c.in_ok-columns.ensures.read)) (ap items.List m)

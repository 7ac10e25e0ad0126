use Rattle.std.proofs.Common.{rules, sym, refl}
use Rattle.rs_syntax.proofs.Steps.{read-not, read-this, found, halts-this, goes_on}
use Rattle.rs_syntax.proofs.parser.Parser.accept.Goals as goal

pub returns-then-not-at : goal.returns-then-not-at
returns-then-not-at c = found (read-not (sym c.if-not-at.ensures)) refl

pub returns-in_err-expect : goal.returns-in_err-expect
returns-in_err-expect c = goes_on _ _ (search rules) (halts-this (sym c.if-not-at.ensures) c.in_err-expect.ensures)

pub returns : goal.returns
returns c = found (read-this (sym c.if-not-at.ensures) c.in_ok-expect.ensures.read) refl

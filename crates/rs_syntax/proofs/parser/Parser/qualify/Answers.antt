use Rattle.std.proofs.Common.{rules, sym, refl}
use Rattle.rs_syntax.proofs.Steps.{read-both, read-not, read-this, found, halts-then, halts-this, goes_on}
use Rattle.rs_syntax.proofs.parser.Parser.qualify.Goals as goal

pub returns-then-not-at : goal.returns-then-not-at
returns-then-not-at c = found (read-not (sym c.if-not-at.ensures)) refl

pub returns-in_err-column : goal.returns-in_err-column
returns-in_err-column c = goes_on _ _ (search rules) (halts-this (sym c.if-not-at.ensures) (halts-then c.in_ok-expect.ensures.read c.in_err-column.ensures))

pub returns : goal.returns
returns c = let m = c.in_ok-column.ensures.means in
    found (read-this (sym c.if-not-at.ensures) (read-both c.in_ok-expect.ensures.read c.in_ok-column.ensures.read)) cc

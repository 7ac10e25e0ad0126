use Rattle.std.proofs.Common.{rules, sym, refl}
use Rattle.rs_syntax.proofs.Steps.{read-both, read-not, read-this, found, halts-first, halts-then, halts-this, goes_on}
use Rattle.rs_syntax.proofs.parser.Parser.weight.Goals as goal

pub returns-then-not-at : goal.returns-then-not-at
returns-then-not-at c = found (read-not (sym c.if-not-at.ensures)) refl

pub returns-in_err-weight : goal.returns-in_err-weight
returns-in_err-weight c = goes_on _ _ (search rules) (halts-this (sym c.if-not-at.ensures) (halts-first c.in_err-weight.ensures.reads))

pub returns-in_err-expect : goal.returns-in_err-expect
returns-in_err-expect c = goes_on _ _ (search rules) (halts-this (sym c.if-not-at.ensures) (halts-then c.in_ok-weight.ensures.reads.read c.in_err-expect.ensures))

pub returns : goal.returns
returns c =
    let m = c.in_ok-weight.ensures.reads.means in
    found (read-this (sym c.if-not-at.ensures) (read-both c.in_ok-weight.ensures.reads.read c.in_ok-expect.ensures.read)) cc

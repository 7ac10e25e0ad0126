use Rattle.std.proofs.Common.{rules, sym, refl}
use Rattle.rs_syntax.proofs.Steps.{read-both, read-not, read-this, found, halts-first, halts-then, halts-this, goes_on}
use Rattle.rs_syntax.proofs.parser.Parser.right.Goals as goal

pub returns-then-not-at_any : goal.returns-then-not-at_any
returns-then-not-at_any c = found (read-not (sym c.if-not-at_any.ensures)) refl

pub returns-in_err-operator : goal.returns-in_err-operator
returns-in_err-operator c = goes_on _ _ (search rules) (halts-this (sym c.if-not-at_any.ensures) (halts-first c.in_err-operator.ensures))

pub returns-in_err-block : goal.returns-in_err-block
returns-in_err-block c = goes_on _ _ (search rules) (halts-this (sym c.if-not-at_any.ensures) (halts-then c.in_ok-operator.ensures.read c.in_err-block.ensures))

pub returns : goal.returns
returns c =
    let m = c.in_ok-operator.ensures.means in
    let n = c.in_ok-block.ensures.means in
    found (read-this (sym c.if-not-at_any.ensures) (read-both c.in_ok-operator.ensures.read c.in_ok-block.ensures.read)) cc

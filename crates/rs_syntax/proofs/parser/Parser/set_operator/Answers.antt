use Rattle.std.proofs.Common.{rules, sym, refl}
use Rattle.rs_syntax.proofs.Steps.{read-both, read-rule, read-this, read-that, found, halts-first, halts-then, halts-this, halts-that, halts-rule, goes_on}
use Rattle.rs_syntax.proofs.parser.Parser.set_operator.Goals as goal

pub returns-in_err-expect : goal.returns-in_err-expect
returns-in_err-expect c = goes_on _ _ (search rules) (halts-rule (halts-this (sym c.if-at.ensures) (halts-first c.in_err-expect.ensures)))

pub returns-in_err-is_all : goal.returns-in_err-is_all
returns-in_err-is_all c = goes_on _ _ (search rules) (halts-rule (halts-this (sym c.if-at.ensures) (halts-then c.in_ok-expect.ensures.read c.in_err-is_all.ensures)))

pub returns-then-is_all : goal.returns-then-is_all
returns-then-is_all c =
    let m = c.in_ok-is_all.ensures.means in
    found (read-rule (read-this (sym c.if-at.ensures) (read-both c.in_ok-expect.ensures.read c.in_ok-is_all.ensures.read))) (rw (m, c.if-is_all.true) refl)

pub returns-else-is_all : goal.returns-else-is_all
returns-else-is_all c =
    let m = c.in_ok-is_all.ensures.means in
    found (read-rule (read-this (sym c.if-at.ensures) (read-both c.in_ok-expect.ensures.read c.in_ok-is_all.ensures.read))) (rw (m, c.if-is_all.false) refl)

pub returns-in_err-expect-2 : goal.returns-in_err-expect-2
returns-in_err-expect-2 c = goes_on _ _ (search rules) (halts-rule (halts-that (sym c.if-at.ensures) (halts-this (sym c.if-at-2.ensures) c.in_err-expect-2.ensures)))

pub returns-then-at-2 : goal.returns-then-at-2
returns-then-at-2 c = found (read-rule (read-that (sym c.if-at.ensures) (read-this (sym c.if-at-2.ensures) c.in_ok-expect-2.ensures.read))) refl

pub returns-in_err-expect-3 : goal.returns-in_err-expect-3
returns-in_err-expect-3 c = goes_on _ _ (search rules) (halts-rule (halts-that (sym c.if-at.ensures) (halts-that (sym c.if-at-2.ensures) c.in_err-expect-3.ensures)))

pub returns : goal.returns
returns c = found (read-rule (read-that (sym c.if-at.ensures) (read-that (sym c.if-at-2.ensures) c.in_ok-expect-3.ensures.read))) refl

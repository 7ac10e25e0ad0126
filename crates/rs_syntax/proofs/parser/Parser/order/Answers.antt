use Rattle.std.proofs.Common.{rules, refl}
use Rattle.rs_syntax.proofs.Steps.{read-both, found, halts-first, halts-then, goes_on}
use Rattle.rs_syntax.proofs.parser.Parser.order.Goals as goal

pub returns-in_err-expect : goal.returns-in_err-expect
returns-in_err-expect c = goes_on _ _ (search rules) (halts-first c.in_err-expect.ensures)

pub returns-in_err-expect-2 : goal.returns-in_err-expect-2
returns-in_err-expect-2 c = goes_on _ _ (search rules) (halts-then c.in_ok-expect.ensures.read (halts-first c.in_err-expect-2.ensures))

pub returns-in_err-terms : goal.returns-in_err-terms
returns-in_err-terms c = goes_on _ _ (search rules) (halts-then c.in_ok-expect.ensures.read (halts-then c.in_ok-expect-2.ensures.read (halts-first c.in_err-terms.ensures)))

pub returns-in_err-accept : goal.returns-in_err-accept
returns-in_err-accept c =
    goes_on _ _ (search rules)
    (halts-then c.in_ok-expect.ensures.read (halts-then c.in_ok-expect-2.ensures.read (halts-then c.in_ok-terms.ensures.read (halts-first c.in_err-accept.ensures))))

pub returns-in_err-limit : goal.returns-in_err-limit
returns-in_err-limit c =
    goes_on _ _ (search rules)
    (halts-then c.in_ok-expect.ensures.read (halts-then c.in_ok-expect-2.ensures.read (halts-then c.in_ok-terms.ensures.read (halts-then c.in_ok-accept.ensures.read c.in_err-limit.ensures))))

pub returns : goal.returns
returns c =
    let t = c.in_ok-terms.ensures.means in
    let n = c.in_ok-limit.ensures.means in
    found
    (read-both c.in_ok-expect.ensures.read
    (read-both c.in_ok-expect-2.ensures.read (read-both c.in_ok-terms.ensures.read (read-both c.in_ok-accept.ensures.read c.in_ok-limit.ensures.read))))
    (rw (t, n) refl)

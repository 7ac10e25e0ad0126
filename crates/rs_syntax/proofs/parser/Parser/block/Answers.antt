use Rattle.std.proofs.Common.{refl, rules}
use Rattle.rs_syntax.proofs.Steps.{read-both, read-rule, found, halts-first, halts-then, halts-rule, goes_on}
use Rattle.rs_syntax.proofs.parser.Parser.block.Goals as goal

pub returns-in_err-expect : goal.returns-in_err-expect
returns-in_err-expect c = goes_on _ _ (search rules) (halts-rule (halts-first c.in_err-expect.ensures))

pub returns-in_err-distinct : goal.returns-in_err-distinct
returns-in_err-distinct c = goes_on _ _ (search rules) (halts-rule (halts-then c.in_ok-expect.ensures.read (halts-first c.in_err-distinct.ensures)))

pub returns-in_err-items : goal.returns-in_err-items
returns-in_err-items c =
    goes_on _ _ (search rules) (halts-rule (halts-then c.in_ok-expect.ensures.read (halts-then c.in_ok-distinct.ensures.read (halts-first c.in_err-items.ensures))))

pub returns-in-Err : goal.returns-in-Err
returns-in-Err c =
    (halts-rule (halts-then c.in_ok-expect.ensures.read (halts-then c.in_ok-distinct.ensures.read (halts-then c.in_ok-items.ensures.read (halts-first c.in-Err.ensures)))))

pub returns-in-Err-entries : goal.returns-in-Err-entries
returns-in-Err-entries c =
    (halts-rule (halts-then c.in_ok-expect.ensures.read
    (halts-then c.in_ok-distinct.ensures.read (halts-then c.in_ok-items.ensures.read (halts-then c.in-Ok.ensures.read (halts-first c.in-Err-entries.ensures))))))

pub returns-in-Err-filter : goal.returns-in-Err-filter
returns-in-Err-filter c =
    (halts-rule (halts-then c.in_ok-expect.ensures.read
    (halts-then c.in_ok-distinct.ensures.read
    (halts-then c.in_ok-items.ensures.read (halts-then c.in-Ok.ensures.read (halts-then c.in-Ok-entries.ensures.read c.in-Err-filter.ensures))))))

pub returns : goal.returns
returns c =
    let m = c.in_ok-distinct.ensures.means in
    let n = c.in_ok-items.ensures.means in
    let f = c.in-Ok-entries.ensures.means in
    let g = c.in-Ok-filter.ensures.means in
    found
    (read-rule (read-both c.in_ok-expect.ensures.read
    (read-both c.in_ok-distinct.ensures.read
    (read-both c.in_ok-items.ensures.read (read-both c.in-Ok.ensures.read (read-both c.in-Ok-entries.ensures.read c.in-Ok-filter.ensures.read))))))
    (rw (m, n, f, g) refl)

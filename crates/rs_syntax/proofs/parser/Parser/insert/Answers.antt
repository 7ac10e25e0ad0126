use Rattle.std.proofs.Common.{rules}
use Rattle.rs_syntax.proofs.Steps.{found, goes_on, halts-first, halts-rule, halts-then, read-both, read-rule}
use Rattle.rs_syntax.proofs.parser.Parser.insert.Goals as goal

pub returns-in_err-expect : goal.returns-in_err-expect
returns-in_err-expect c = goes_on _ _ (search rules) (halts-rule (halts-first c.in_err-expect.ensures))

pub returns-in_err-expect-2 : goal.returns-in_err-expect-2
returns-in_err-expect-2 c = goes_on _ _ (search rules) (halts-rule (halts-then c.in_ok-expect.ensures.read (halts-first c.in_err-expect-2.ensures)))

pub returns-in_err-table : goal.returns-in_err-table
returns-in_err-table c =
    goes_on _ _ (search rules) (halts-rule (halts-then c.in_ok-expect.ensures.read (halts-then c.in_ok-expect-2.ensures.read (halts-first c.in_err-table.ensures))))

pub returns-in-Err : goal.returns-in-Err
returns-in-Err c =
    halts-rule (halts-then c.in_ok-expect.ensures.read (halts-then c.in_ok-expect-2.ensures.read (halts-then c.in_ok-table.ensures.read (halts-first c.in-Err.ensures))))

pub returns-in-Err-rows : goal.returns-in-Err-rows
returns-in-Err-rows c =
    halts-rule (halts-then c.in_ok-expect.ensures.read
    (halts-then c.in_ok-expect-2.ensures.read (halts-then c.in_ok-table.ensures.read (halts-then c.in-Ok.ensures.read c.in-Err-rows.ensures))))

pub returns : goal.returns
returns c =
    let m0 = c.in_ok-table.ensures.means in
    let m1 = c.in-Ok-rows.ensures.means in
    found (read-rule (read-both c.in_ok-expect.ensures.read
    (read-both c.in_ok-expect-2.ensures.read (read-both c.in_ok-table.ensures.read (read-both c.in-Ok.ensures.read c.in-Ok-rows.ensures.read))))) cc

use Rattle.std.proofs.Common.{rules}
use Rattle.rs_syntax.proofs.Steps.{found, goes_on, halts-first, halts-rule, halts-then, read-both, read-rule}
use Rattle.rs_syntax.proofs.parser.Parser.close.Goals as goal

pub returns-in_err-expect : goal.returns-in_err-expect
returns-in_err-expect c = goes_on _ _ (search rules) (halts-rule (halts-first c.in_err-expect.ensures))

pub returns-in_err-name : goal.returns-in_err-name
returns-in_err-name c = goes_on _ _ (search rules) (halts-rule (halts-then c.in_ok-expect.ensures.read c.in_err-name.ensures))

pub returns : goal.returns
returns c =
    let m0 = c.in_ok-name.ensures.means in
    found (read-rule (read-both c.in_ok-expect.ensures.read c.in_ok-name.ensures.read)) cc

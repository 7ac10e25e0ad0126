use Rattle.std.proofs.Common.{rules}
use Rattle.rs_syntax.proofs.Steps.{read-both, read-rule, found, halts-first, halts-then, halts-rule, goes_on}
use Rattle.rs_syntax.proofs.parser.Parser.entry.Goals as goal

pub returns-in_err-table : goal.returns-in_err-table
returns-in_err-table c = goes_on _ _ (search rules) (halts-rule (halts-first c.in_err-table.ensures))

pub returns-in_err-alias : goal.returns-in_err-alias
returns-in_err-alias c = goes_on _ _ (search rules) (halts-rule (halts-then c.in_ok-table.ensures.read c.in_err-alias.ensures))

pub returns : goal.returns
returns c =
    let m = c.in_ok-table.ensures.means in
    let n = c.in_ok-alias.ensures.means in
    found (read-rule (read-both c.in_ok-table.ensures.read c.in_ok-alias.ensures.read)) cc

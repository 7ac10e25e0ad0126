use Rattle.std.proofs.Common.{rules}
use Rattle.rs_syntax.proofs.Steps.{read-both, read-rule, found, halts-first, halts-then, halts-rule, goes_on}
use Rattle.rs_syntax.proofs.parser.Parser.column.Goals as goal

pub returns-in_err-name : goal.returns-in_err-name
returns-in_err-name c = goes_on _ _ (search rules) (halts-rule (halts-first c.in_err-name.ensures))

pub returns-in_err-kind : goal.returns-in_err-kind
returns-in_err-kind c = goes_on _ _ (search rules) (halts-rule (halts-then c.in_ok-name.ensures.read c.in_err-kind.ensures))

pub returns : goal.returns
returns c = let m = c.in_ok-name.ensures.means in let n = c.in_ok-kind.ensures.means in
    found (read-rule (read-both c.in_ok-name.ensures.read c.in_ok-kind.ensures.read)) cc

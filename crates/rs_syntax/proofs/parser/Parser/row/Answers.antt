use Rattle.std.proofs.Common.{rules, refl}
use Rattle.rs_grammar.specs.Grammar.{row}
use Rattle.rs_syntax.proofs.Blocks.{span_of-read}
use Rattle.rs_syntax.proofs.Steps.{read-both, read-rule, found, halts-first, halts-then, halts-rule, goes_on}
use Rattle.rs_syntax.proofs.parser.Parser.row.Goals as goal

pub returns-in_err-expect : goal.returns-in_err-expect
returns-in_err-expect c = goes_on _ _ (search rules) (halts-rule (halts-first c.in_err-expect.ensures))

pub returns-in_err-cells : goal.returns-in_err-cells
returns-in_err-cells c = goes_on _ _ (search rules) (halts-rule (halts-then c.in_ok-expect.ensures.read (halts-first c.in_err-cells.ensures)))

pub returns-in-Err : goal.returns-in-Err
returns-in-Err c = halts-rule (halts-then c.in_ok-expect.ensures.read (halts-then c.in_ok-cells.ensures.read c.in-Err.ensures))

pub returns : goal.returns
returns c =
    let r = read-rule {r = row} (read-both c.in_ok-expect.ensures.read (read-both c.in_ok-cells.ensures.read c.in-Ok.ensures.read)) in
    let at = span_of-read r refl c.start-from.result c.since-at.result c.start-from.ensures c.since-at.ensures in
    let m = c.in_ok-cells.ensures.means in
    found r (rw (m, at) refl)

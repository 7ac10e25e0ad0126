use Rattle.std.proofs.Common.{rules, sym, ap}
use Rattle.rs_syntax.specs.Syntax.{command_of}
use Rattle.rs_syntax.proofs.parser.Parser.explain.Goals.{then-is_analyze, else-is_analyze}
use Rattle.rs_syntax.proofs.Steps.{found, goes_on, halts-first, halts-rule, halts-then, read-both, read-rule}
use Rattle.rs_syntax.proofs.parser.Parser.explain.Goals as goal

pub returns-in_err-expect : goal.returns-in_err-expect
returns-in_err-expect c = goes_on _ _ (search rules) (halts-rule (halts-first c.in_err-expect.ensures))

pub returns-in_err-is_analyze : goal.returns-in_err-is_analyze
returns-in_err-is_analyze c = goes_on _ _ (search rules) (halts-rule (halts-then c.in_ok-expect.ensures.read (halts-first c.in_err-is_analyze.ensures)))

pub returns-in_err-select : goal.returns-in_err-select
returns-in_err-select c = goes_on _ _ (search rules) (halts-rule (halts-then c.in_ok-expect.ensures.read (halts-then c.in_ok-is_analyze.ensures.read c.in_err-select.ensures)))

pub returns : goal.returns
returns c =
    elim c.if-is_analyze.branch [
      | then-is_analyze w ↦ (let m = c.in_ok-is_analyze.ensures.means in let n = c.in_ok-select.ensures.means in
          found (read-rule (read-both c.in_ok-expect.ensures.read (read-both c.in_ok-is_analyze.ensures.read c.in_ok-select.ensures.read))) (rw (m, n, w.if-is_analyze.true) (sym (ap command_of w.result-is))))
      | else-is_analyze w ↦ (let m = c.in_ok-is_analyze.ensures.means in let n = c.in_ok-select.ensures.means in
          found (read-rule (read-both c.in_ok-expect.ensures.read (read-both c.in_ok-is_analyze.ensures.read c.in_ok-select.ensures.read))) (rw (m, n, w.if-is_analyze.false) (sym (ap command_of w.result-is))))
    ]

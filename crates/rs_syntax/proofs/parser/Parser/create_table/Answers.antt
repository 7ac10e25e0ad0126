use Rattle.std.proofs.Common.{rules, List, ℕ, refl, ap}
use Rattle.rs_lex.specs.declared.token.Span.{Span}
use Rattle.rs_syntax.proofs.Steps.{found, goes_on, halts-first, halts-rule, halts-then, read-both, read-rule}
use Rattle.rs_syntax.proofs.parser.Parser.create_table.Goals as goal

pub returns-in_err-expect : goal.returns-in_err-expect
returns-in_err-expect c = goes_on _ _ (search rules) (halts-rule (halts-first c.in_err-expect.ensures))

pub returns-in_err-name : goal.returns-in_err-name
returns-in_err-name c = goes_on _ _ (search rules) (halts-rule (halts-then c.in_ok-expect.ensures.read (halts-first c.in_err-name.ensures)))

pub returns-in-Err : goal.returns-in-Err
returns-in-Err c = halts-rule (halts-then c.in_ok-expect.ensures.read (halts-then c.in_ok-name.ensures.read (halts-first c.in-Err.ensures)))

pub returns-in-Err-columns : goal.returns-in-Err-columns
returns-in-Err-columns c = halts-rule (halts-then c.in_ok-expect.ensures.read (halts-then c.in_ok-name.ensures.read (halts-then c.in-Ok.ensures.read (halts-first c.in-Err-columns.ensures))))

pub returns-in-Err-expect : goal.returns-in-Err-expect
returns-in-Err-expect c = halts-rule (halts-then c.in_ok-expect.ensures.read (halts-then c.in_ok-name.ensures.read (halts-then c.in-Ok.ensures.read (halts-then c.in-Ok-columns.ensures.read (halts-first c.in-Err-expect.ensures)))))

pub returns-in-Err-expect-2 : goal.returns-in-Err-expect-2
returns-in-Err-expect-2 c = halts-rule (halts-then c.in_ok-expect.ensures.read (halts-then c.in_ok-name.ensures.read (halts-then c.in-Ok.ensures.read (halts-then c.in-Ok-columns.ensures.read (halts-then c.in-Ok-expect.ensures.read (halts-first c.in-Err-expect-2.ensures))))))

pub returns-in-Err-literal : goal.returns-in-Err-literal
returns-in-Err-literal c = halts-rule (halts-then c.in_ok-expect.ensures.read (halts-then c.in_ok-name.ensures.read (halts-then c.in-Ok.ensures.read (halts-then c.in-Ok-columns.ensures.read (halts-then c.in-Ok-expect.ensures.read (halts-then c.in-Ok-expect-2.ensures.read c.in-Err-literal.ensures))))))

pub returns : goal.returns
returns c =
    let m0 = c.in_ok-name.ensures.means in
    let m1 = c.in-Ok-columns.ensures.means in
    let m2 = ap (λ (x : List ℕ × Span). x.0) c.in-Ok-literal.ensures.means in
    found (read-rule (read-both c.in_ok-expect.ensures.read (read-both c.in_ok-name.ensures.read (read-both c.in-Ok.ensures.read (read-both c.in-Ok-columns.ensures.read (read-both c.in-Ok-expect.ensures.read (read-both c.in-Ok-expect-2.ensures.read c.in-Ok-literal.ensures.read))))))) (rw (m0, m1, m2) refl)

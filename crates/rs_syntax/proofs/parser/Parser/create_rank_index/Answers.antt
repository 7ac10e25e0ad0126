use Rattle.std.proofs.Common.{◌≡◌, ◌∙◌, rules, refl, sym}
use Rattle.rs_syntax.specs.Trees.{starts_at}
use Rattle.rs_syntax.proofs.Spans.{read-starts, read-ends}
use Rattle.rs_syntax.proofs.Steps.{found, goes_on, halts-first, halts-rule, halts-then, read-both, read-rule}
use Rattle.rs_syntax.proofs.parser.Parser.create_rank_index.Goals as goal

pub returns-in_err-expect : goal.returns-in_err-expect
returns-in_err-expect c = goes_on _ _ (search rules) (halts-rule (halts-first c.in_err-expect.ensures))

pub returns-in_err-expect-2 : goal.returns-in_err-expect-2
returns-in_err-expect-2 c = goes_on _ _ (search rules) (halts-rule (halts-then c.in_ok-expect.ensures.read (halts-first c.in_err-expect-2.ensures)))

pub returns-in_err-name : goal.returns-in_err-name
returns-in_err-name c = goes_on _ _ (search rules) (halts-rule (halts-then c.in_ok-expect.ensures.read (halts-then c.in_ok-expect-2.ensures.read (halts-first c.in_err-name.ensures))))

pub returns-in-Err : goal.returns-in-Err
returns-in-Err c = halts-rule (halts-then c.in_ok-expect.ensures.read (halts-then c.in_ok-expect-2.ensures.read (halts-then c.in_ok-name.ensures.read (halts-first c.in-Err.ensures))))

pub returns-in-Err-name : goal.returns-in-Err-name
returns-in-Err-name c = halts-rule (halts-then c.in_ok-expect.ensures.read (halts-then c.in_ok-expect-2.ensures.read (halts-then c.in_ok-name.ensures.read (halts-then c.in-Ok.ensures.read (halts-first c.in-Err-name.ensures)))))

pub returns-in-Err-expect : goal.returns-in-Err-expect
returns-in-Err-expect c = halts-rule (halts-then c.in_ok-expect.ensures.read (halts-then c.in_ok-expect-2.ensures.read (halts-then c.in_ok-name.ensures.read (halts-then c.in-Ok.ensures.read (halts-then c.in-Ok-name.ensures.read (halts-first c.in-Err-expect.ensures))))))

pub returns-in-Err-name-2 : goal.returns-in-Err-name-2
returns-in-Err-name-2 c = halts-rule (halts-then c.in_ok-expect.ensures.read (halts-then c.in_ok-expect-2.ensures.read (halts-then c.in_ok-name.ensures.read (halts-then c.in-Ok.ensures.read (halts-then c.in-Ok-name.ensures.read (halts-then c.in-Ok-expect.ensures.read (halts-first c.in-Err-name-2.ensures)))))))

pub returns-in-Err-expect-2 : goal.returns-in-Err-expect-2
returns-in-Err-expect-2 c = halts-rule (halts-then c.in_ok-expect.ensures.read (halts-then c.in_ok-expect-2.ensures.read (halts-then c.in_ok-name.ensures.read (halts-then c.in-Ok.ensures.read (halts-then c.in-Ok-name.ensures.read (halts-then c.in-Ok-expect.ensures.read (halts-then c.in-Ok-name-2.ensures.read (halts-first c.in-Err-expect-2.ensures))))))))

pub returns-in-Err-args : goal.returns-in-Err-args
returns-in-Err-args c = halts-rule (halts-then c.in_ok-expect.ensures.read (halts-then c.in_ok-expect-2.ensures.read (halts-then c.in_ok-name.ensures.read (halts-then c.in-Ok.ensures.read (halts-then c.in-Ok-name.ensures.read (halts-then c.in-Ok-expect.ensures.read (halts-then c.in-Ok-name-2.ensures.read (halts-then c.in-Ok-expect-2.ensures.read (halts-first c.in-Err-args.ensures)))))))))

pub returns-in-Err-expect-3 : goal.returns-in-Err-expect-3
returns-in-Err-expect-3 c = halts-rule (halts-then c.in_ok-expect.ensures.read (halts-then c.in_ok-expect-2.ensures.read (halts-then c.in_ok-name.ensures.read (halts-then c.in-Ok.ensures.read (halts-then c.in-Ok-name.ensures.read (halts-then c.in-Ok-expect.ensures.read (halts-then c.in-Ok-name-2.ensures.read (halts-then c.in-Ok-expect-2.ensures.read (halts-then c.in-Ok-args.ensures.read (halts-first c.in-Err-expect-3.ensures))))))))))

pub returns-in-Err-expect-4 : goal.returns-in-Err-expect-4
returns-in-Err-expect-4 c = halts-rule (halts-then c.in_ok-expect.ensures.read (halts-then c.in_ok-expect-2.ensures.read (halts-then c.in_ok-name.ensures.read (halts-then c.in-Ok.ensures.read (halts-then c.in-Ok-name.ensures.read (halts-then c.in-Ok-expect.ensures.read (halts-then c.in-Ok-name-2.ensures.read (halts-then c.in-Ok-expect-2.ensures.read (halts-then c.in-Ok-args.ensures.read (halts-then c.in-Ok-expect-3.ensures.read c.in-Err-expect-4.ensures))))))))))

pub returns : goal.returns
returns c =
    let m0 = c.in_ok-name.ensures.means in
    let m1 = c.in-Ok-name.ensures.means in
    let m2 = c.in-Ok-name-2.ensures.means in
    let m3 = c.in-Ok-args.ensures.means in
    let starts = read-starts c.in-Ok-name-2.ensures.read refl in
    let ends = read-ends c.in-Ok-expect-3.ensures.read refl in
    let from : starts_at c.in-Ok-name-2.ensures.tree ≡ c.start-from.result = starts ∙ sym c.start-from.ensures in
    found (read-rule (read-both c.in_ok-expect.ensures.read (read-both c.in_ok-expect-2.ensures.read (read-both c.in_ok-name.ensures.read (read-both c.in-Ok.ensures.read (read-both c.in-Ok-name.ensures.read (read-both c.in-Ok-expect.ensures.read (read-both c.in-Ok-name-2.ensures.read (read-both c.in-Ok-expect-2.ensures.read (read-both c.in-Ok-args.ensures.read (read-both c.in-Ok-expect-3.ensures.read c.in-Ok-expect-4.ensures.read))))))))))) (rw (m0, m1, m2, m3, from, ends, c.since-at.ensures) refl)

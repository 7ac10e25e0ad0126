use Rattle.std.proofs.Common.{◌≡◌, ◌∙◌, rules, refl, sym}
use Rattle.rs_grammar.specs.Grammar.{term}
use Rattle.rs_syntax.specs.Statements.{weight_of}
use Rattle.rs_syntax.proofs.Blocks.{weight_of-some, weight_of-none, span_of-read}
use Rattle.rs_syntax.proofs.Steps.{read-both, read-rule, found, halts-first, halts-then, halts-rule, goes_on}
use Rattle.rs_syntax.proofs.parser.Parser.term.Goals as goal
use Rattle.rs_syntax.proofs.parser.Parser.term.Goals.{in-Some, in-None}

pub returns-in_err-weight : goal.returns-in_err-weight
returns-in_err-weight c = goes_on _ _ (search rules) (halts-rule (halts-first c.in_err-weight.ensures))

pub returns-in_err-predicate : goal.returns-in_err-predicate
returns-in_err-predicate c = goes_on _ _ (search rules) (halts-rule (halts-then c.in_ok-weight.ensures.read (halts-first c.in_err-predicate.ensures)))

pub returns-in-Err : goal.returns-in-Err
returns-in-Err c =
    (halts-rule (halts-then c.in_ok-weight.ensures.read (halts-then c.in_ok-predicate.ensures.read (halts-first c.in-Err.ensures))))

pub returns-in-Err-args : goal.returns-in-Err-args
returns-in-Err-args c =
    (halts-rule (halts-then c.in_ok-weight.ensures.read (halts-then c.in_ok-predicate.ensures.read (halts-then c.in-Ok.ensures.read (halts-first c.in-Err-args.ensures)))))

pub returns-in-Err-expect : goal.returns-in-Err-expect
returns-in-Err-expect c =
    (halts-rule (halts-then c.in_ok-weight.ensures.read
    (halts-then c.in_ok-predicate.ensures.read (halts-then c.in-Ok.ensures.read (halts-then c.in-Ok-args.ensures.read c.in-Err-expect.ensures)))))

pub returns : goal.returns
returns c =
    let r = read-rule {r = term} (read-both c.in_ok-weight.ensures.read
    (read-both c.in_ok-predicate.ensures.read (read-both c.in-Ok.ensures.read (read-both c.in-Ok-args.ensures.read c.in-Ok-expect.ensures.read)))) in
    let at = span_of-read r refl c.start-from.result c.since-at.result c.start-from.ensures c.since-at.ensures in
    let p = c.in_ok-predicate.ensures.means in
    let a = c.in-Ok-args.ensures.means in
    let weight : weight_of c.in_ok-weight.ensures.tree c.in_ok-predicate.ensures.tree ≡ c.match-weight.weight = elim c.match-weight.branch [
      | in-Some w ↦ weight_of-some _ _ _ (c.in_ok-weight.ensures.means ∙ w.in-Some.is) ∙ sym w.weight-is
      | in-None w ↦ weight_of-none _ _ _ (c.in_ok-weight.ensures.means ∙ w.in-None.is) p ∙ sym w.weight-is
    ] in
    found r (rw (weight, p, a, at) refl)

use Rattle.std.proofs.Common.{inr, arith, true, false, ◌∙◌}
use Rattle.rs_syntax.proofs.Cutting.{EndsLast-here, Within-more, statements_ended-more}
use Rattle.rs_syntax.proofs.script.statements_end.Goals as goal
use Rattle.rs_syntax.proofs.script.statements_end.Goals.{then-is+else-ended-eq-MOST_STATEMENTS, else-is}

pub returns-then-ended-eq-MOST_STATEMENTS-clause-cut : goal.returns-then-ended-eq-MOST_STATEMENTS-clause-cut
returns-then-ended-eq-MOST_STATEMENTS-clause-cut c =
    inr (EndsLast-here c.args.lexemes.now c.loop-index.index c.loop-index.ended c.index-lexemes-index.result (omega arith) c.index-lexemes-index.is c.if-is.ensures
    c.loop-index.invariant.count c.if-ended-eq-MOST_STATEMENTS.true)

pub loop-index-preserved : goal.loop-index-preserved
loop-index-preserved c =
    let within = Within-more c.args.lexemes.now c.loop-index.index c.loop-index.ended c.index-lexemes-index.result (omega arith) c.index-lexemes-index.is
    c.loop-index.invariant.count c.loop-index.invariant.few c.loop-index.invariant.within in
    elim c.if-is.branch [
      | then-is+else-ended-eq-MOST_STATEMENTS w ↦
          let count = statements_ended-more c.args.lexemes.now c.loop-index.index c.loop-index.ended c.index-lexemes-index.result true (omega arith) c.index-lexemes-index.is w.if-is.ensures c.loop-index.invariant.count in
          record { count = w.ended-is ∙ count; few = omega arith; within = within }
      | else-is w ↦
          let count = statements_ended-more c.args.lexemes.now c.loop-index.index c.loop-index.ended c.index-lexemes-index.result false (omega arith) c.index-lexemes-index.is w.if-is.ensures c.loop-index.invariant.count in
          record { count = w.ended-is ∙ (omega (arith, count)); few = omega arith; within = within }
    ]

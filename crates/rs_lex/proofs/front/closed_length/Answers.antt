use Rattle.std.proofs.Common.{◌∙◌}
use Rattle.std.proofs.lemmas.Bool.{ne_eqb, eq-eqb}
use Rattle.rs_lex.proofs.FrontFacts.{closed_from-other, closed_from-doubled}
use Rattle.rs_lex.proofs.front.closed_length.Goals as goal

pub loop-at-preserved-then-bytes-at : goal.loop-at-preserved-then-bytes-at
loop-at-preserved-then-bytes-at c = closed_from-other c.args.mark c.loop-at.at c.args.bytes.now c.loop-at-test.true (ne_eqb _ _ c.if-bytes-at.true) ∙ c.loop-at.invariant

pub loop-at-preserved : goal.loop-at-preserved
loop-at-preserved c = closed_from-doubled c.args.mark c.loop-at.at c.args.bytes.now c.if-at-bytes.true (eq-eqb _ _ c.if-bytes-at.false) (eq-eqb _ _ c.if-bytes-at-2.true) ∙ c.loop-at.invariant

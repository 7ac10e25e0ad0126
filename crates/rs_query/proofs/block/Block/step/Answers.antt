-- The conditions before are among those now, and the range is that of the part.
use Rattle.std.proofs.Common.{◌≡◌, ◌∙◌, ◌-◌, ◌≤◌, cond, eqb, min, nat_lt, sym, ap, subst, bit_or, arith}
use Rattle.std.proofs.lemmas.Bool.{eq-eqb, le-ltb, lt-ltb, ne_eqb}
use Rattle.std.proofs.lemmas.Option.{unwrap_or-slice_get}
use Rattle.rs_rank.specs.Masks.{mask_of}
use Rattle.rs_query.specs.Meaning.{conjuncts_within}
use Rattle.rs_query.specs.Tables.{row_number}
use Rattle.rs_query.proofs.HoldNewFacts.{within-less}
use Rattle.rs_query.proofs.MaskStepFacts.{is_inside-more}
use Rattle.rs_query.proofs.RangeFacts.{range-part}
use Rattle.rs_query.proofs.block.Block.step.Goals as goal
use Rattle.rs_query.proofs.block.Block.step.Goals.{then-entry-pivot, else-entry-pivot, then-entry-pivot-2, else-entry-pivot-2}

pub overflow_sub-result : goal.overflow_sub-result
overflow_sub-result c =
    let less = within-less c.args.mask (bit_or c.args.mask (mask_of c.args.entry)) (is_inside-more c.args.mask (mask_of c.args.entry)) c.args.self.now.conjuncts in
    let now : c.within.result ≡ conjuncts_within (bit_or c.args.mask (mask_of c.args.entry)) c.args.self.now.conjuncts =
    c.within.ensures.value ∙ ap (λ m. conjuncts_within m c.args.self.now.conjuncts) (c.union.ensures ∙ ap (bit_or c.args.mask) c.mask_of.ensures) in
    let before = c.within-2.ensures.value in
    omega arith

pub returns-clause-range : goal.returns-clause-range
returns-clause-range c = λ row some most.
    let old = row_number c.args.old.now c.args.entry in
    let size = c.size_of-size.result in
    let is_above : c.if-entry-pivot.result ≡ cond (eqb c.args.entry c.args.pivot) old 0 = elim c.if-entry-pivot.branch [
      | then-entry-pivot w ↦
          w.result-is ∙ sym (unwrap_or-slice_get c.args.old.now (c.args.entry - 1) 0) ∙ sym (ap (λ b. cond b old 0) (eq-eqb c.args.entry c.args.pivot w.if-entry-pivot.true))
      | else-entry-pivot w ↦ w.result-is ∙ sym (ap (λ b. cond b old 0) (ne_eqb c.args.entry c.args.pivot w.if-entry-pivot.false))
    ] in
    let is_last : c.if-entry-pivot-2.result ≡ cond (nat_lt c.args.entry c.args.pivot) (min size old) size = elim c.if-entry-pivot-2.branch [
      | then-entry-pivot-2 w ↦
          w.result-is ∙ w.min.ensures ∙ ap (min size) (sym (unwrap_or-slice_get c.args.old.now (c.args.entry - 1) 0))
          ∙ sym (ap (λ b. cond b (min size old) size) (lt-ltb c.args.entry c.args.pivot w.if-entry-pivot-2.true))
      | else-entry-pivot-2 w ↦ w.result-is ∙ sym (ap (λ b. cond b (min size old) size) (le-ltb c.args.entry c.args.pivot w.if-entry-pivot-2.false))
    ] in
    range-part c.args.old.now c.args.pivot c.args.entry size c.if-entry-pivot.result c.if-entry-pivot-2.result row is_above is_last some
    (subst (λ n. row ≤ n) (sym c.size_of-size.ensures.value) most)

use Rattle.std.proofs.Common.{◌∙◌, ◌||◌, sym, ap}
use Rattle.rs_outputs.specs.Seen.{has_list, same_values, with_list}
use Rattle.rs_outputs.proofs.ValueFacts.{has_list-with}
use Rattle.rs_plain.proofs.FirstFacts.{has_list-rows_more}
use Rattle.rs_plain.proofs.sets.outputs_of.Goals as goal

pub loop-row-preserved : goal.loop-row-preserved
loop-row-preserved c = λ values.
    ap (has_list values) (c.in_ok-add_copy.ensures.ok ∙ ap (λ v. with_list v c.loop-row.outputs.lists) (c.deref.ensures.value ∙ c.items.ensures))
    ∙ has_list-with values c.row-item.result.values c.loop-row.outputs.lists
    ∙ ap (λ b. b || same_values values c.row-item.result.values) (c.loop-row.invariant values)
    ∙ sym (has_list-rows_more c.args.rows.now c.loop-row.row-index c.row-item.result values c.loop-row-test.true c.row-item.is)

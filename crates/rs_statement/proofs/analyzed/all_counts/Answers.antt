use Rattle.std.proofs.Common.{◌≡◌, ◌∙◌, ◌++◌, [], ◌∷◌, ap, arith, refl, sym}
use Rattle.std.specs.Prelude.{Option, Some, None}
use Rattle.std.proofs.lemmas.List.{take_all}
use Rattle.rs_plan.specs.Counts.{counts_of_plan}
use Rattle.rs_query.proofs.ListFacts.{take-slice_get}
use Rattle.rs_exec.specs.Asking.{world_of}
use Rattle.rs_exec.specs.Cursors.{asks_of, plan_of}
use Rattle.rs_statement.proofs.CountSteps.{few-counts}
use Rattle.rs_statement.proofs.PlanSteps.{none-behind}
use Rattle.rs_statement.proofs.analyzed.all_counts.Goals as goal

none-else : {A : Type 0} (o : Option A) → ((a : A) → o ≡ Some a → ⊥) → o ≡ None
none-else None other = refl
none-else (Some a) other = absurd (other a refl)

pub overflow_add-node : goal.overflow_add-node
overflow_add-node c =
    let stands = c.requires in
    let few = few-counts stands.0 stands.1 c.args.cursor.now c.loop-counts.node c.in-Some.counts stands.2 (sym (c.counts.ensures.counts stands.0 stands.1 stands.2) ∙ c.in-Some.is) in
    omega arith

pub loop-counts-smaller : goal.loop-counts-smaller
loop-counts-smaller c =
    let stands = c.requires in
    let few = few-counts stands.0 stands.1 c.args.cursor.now c.loop-counts.node c.in-Some.counts stands.2 (sym (c.counts.ensures.counts stands.0 stands.1 stands.2) ∙ c.in-Some.is) in
    omega arith

pub loop-counts-preserved : goal.loop-counts-preserved
loop-counts-preserved c = λ catalogue answer stands.
    let all = counts_of_plan (world_of catalogue answer c.args.cursor.now.query) (plan_of c.args.cursor.now) (asks_of c.args.cursor.now) in
    let more = take-slice_get all c.loop-counts.node c.in-Some.counts (sym (c.counts.ensures.counts catalogue answer stands) ∙ c.in-Some.is) in
    let so_far = c.loop-counts.invariant catalogue answer stands in
    c.in_ok-push.ensures.items ∙ ap (λ told. told ++ c.in-Some.counts ∷ []) so_far ∙ sym more

pub returns : goal.returns
returns c = λ catalogue answer stands.
    let all = counts_of_plan (world_of catalogue answer c.args.cursor.now.query) (plan_of c.args.cursor.now) (asks_of c.args.cursor.now) in
    let behind = none-behind all c.loop-counts.node (sym (c.counts.ensures.counts catalogue answer stands) ∙ none-else c.counts.result c.in_default.not-Some) in
    c.loop-counts.invariant catalogue answer stands ∙ take_all c.loop-counts.node all behind

use Rattle.std.proofs.Common.{refl}
use Rattle.rs_plan.specs.Shapes.{tree_of}
use Rattle.rs_exec.proofs.CursorFacts.{cursor-start}
use Rattle.rs_exec.proofs.SetStartFacts.{query-asked, query-tree}
use Rattle.rs_exec.proofs.cursor.Cursor.start.Goals as goal

pub returns-in-Ok-clause-new : goal.returns-in-Ok-clause-new
returns-in-Ok-clause-new c = record {
  query_is = refl;
  plan_is = query-tree c.args.catalog.now c.args.query (tree_of c.args.plan.now) c.in-Ok.root c.in-Ok.ensures;
  unasked = query-asked c.args.catalog.now c.args.query (tree_of c.args.plan.now) c.in-Ok.root c.in-Ok.ensures;
  sound = refl;
}

pub returns-in-Ok-clause-stands : goal.returns-in-Ok-clause-stands
returns-in-Ok-clause-stands c = λ answer holds bounded.
    cursor-start c.args.catalog.now answer c.args.query (tree_of c.args.plan.now) c.in-Ok.root c.requires.query c.requires.plan c.limits_hold.ensures.rows c.limits_hold.ensures.weights holds bounded c.in-Ok.ensures

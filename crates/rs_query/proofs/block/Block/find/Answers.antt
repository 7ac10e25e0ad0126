-- The steps lead to all combinations of the pivot's part.
use Rattle.std.proofs.Common.{◌-◌, ◌≤◌, replicate, subst, sym, arith}
use Rattle.std.specs.List.{AllByRecursion}
use Rattle.std.proofs.lemmas.Result.{on_ok_weaker}
use Rattle.std.proofs.lemmas.Option.{unwrap_or-slice_get}
use Rattle.rs_query.specs.Searching.{Adds, AreSteps, GoesOn, IsRanged}
use Rattle.rs_query.specs.Tables.{all_entries, row_number, size_of}
use Rattle.rs_query.proofs.StepsFacts.{GoesOn-part, IsBegun-none, part-none}
use Rattle.rs_query.proofs.block.Block.find.Goals as goal

pub returns-then-size_of-old : goal.returns-then-size_of-old
returns-then-size_of-old c =
    let old_at = unwrap_or-slice_get c.args.old.now (c.args.pivot - 1) 0 in
    let none : size_of c.args.catalog.now c.args.self.now c.args.pivot ≤ row_number c.args.old.now c.args.pivot = omega arith in
    part-none c.args.catalog.now c.args.self.now c.requires.block c.args.old.now c.args.pivot c.args.found.now.items c.requires.least c.requires.most none

pub extend-requires-clause-steps : goal.extend-requires-clause-steps
extend-requires-clause-steps c =
    subst (AreSteps c.args.catalog.now c.args.self.now 0 (all_entries c.args.self.now)) (sym c.deref.ensures.value) c.in_ok-steps.ensures.steps

pub extend-requires-clause-begun : goal.extend-requires-clause-begun
extend-requires-clause-begun c = IsBegun-none c.args.catalog.now c.args.self.now c.requires.satisfied

pub returns : goal.returns
returns c =
    on_ok_weaker c.extend.result
    (λ (a : Adds (GoesOn c.args.catalog.now c.args.self.now c.deref.result.now 0 (replicate 6 0)) c.args.found.now.items c.extend.new.found.items).
    GoesOn-part c.args.catalog.now c.args.self.now c.requires.block c.args.old.now c.args.pivot c.deref.result.now c.args.found.now.items c.extend.new.found.items
    (subst (AreSteps c.args.catalog.now c.args.self.now 0 (all_entries c.args.self.now)) (sym c.deref.ensures.value) c.in_ok-steps.ensures.steps)
    (subst (AllByRecursion (IsRanged c.args.catalog.now c.args.self.now c.args.old.now c.args.pivot)) (sym c.deref.ensures.value) c.in_ok-steps.ensures.ranges) a)
    c.extend.ensures

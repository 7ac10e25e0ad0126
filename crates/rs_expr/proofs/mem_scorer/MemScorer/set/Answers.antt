use Rattle.std.proofs.Common.{sym, ap}
use Rattle.std.specs.Int.{w128}
use Rattle.std.proofs.lemmas.Int.{to_z-of_z}
use Rattle.rs_expr.specs.declared.mem_scorer.WrittenScore.{WrittenScore}
use Rattle.rs_expr.specs.declared.scorer.Call.{Call}
use Rattle.rs_expr.proofs.WrittenFacts.{with_score-at, with_score-absent}
use Rattle.rs_expr.proofs.mem_scorer.MemScorer.set.Goals as goal

pub returns-in-Some-clause-ok : goal.returns-in-Some-clause-ok
returns-in-Some-clause-ok c =
    let call : Call = record { predicate = c.args.predicate.now; args = c.args.args.now } in
    let replaced = with_score-at call c.args.score c.self.inside.written.items c.in-Some.at c.index_mut.result.now (rw c.deref.ensures.value at (sym c.in-Some.ensures)) in
    let same_call = ap (λ (entry : WrittenScore). entry.call) c.index_mut.ensures.value in
    rw (← c.self.view_is, replaced, to_z-of_z w128 c.args.score c.ranges.score, ← same_call)

pub returns-in_ok-push-in-None-clause-ok : goal.returns-in_ok-push-in-None-clause-ok
returns-in_ok-push-in-None-clause-ok c =
    let call : Call = record { predicate = c.args.predicate.now; args = c.args.args.now } in
    let added = with_score-absent call c.args.score c.self.inside.written.items (rw c.deref.ensures.value at (sym c.in-None.ensures)) in
    rw (c.in_ok-push-in-None.ensures.items, ← c.self.view_is, added, c.in_ok-call-in-None.ensures, to_z-of_z w128 c.args.score c.ranges.score)

-- One list more, and at the end of the lists none.
use Rattle.std.proofs.Common.{ℕ, ◌+◌, ◌-◌, ◌*◌, get_or, refl, sym, ◌∙◌, ap, subst, arith}
use Rattle.rs_ta.specs.Depths.{ScanInput}
use Rattle.rs_ta.specs.Rounds.{CanSee, Saw, input_with, shown_by}
use Rattle.rs_ta.specs.Scans.{AreLookedUpWithin}
use Rattle.rs_ta.proofs.ExtensionFacts.{on_err_from}
use Rattle.rs_ta.proofs.RoundFacts.{Going, going-at_end, going-can, going-on, going-over, going-refused, going-start, same-input}
use Rattle.rs_ta.proofs.round.round.Goals as goal

pub loop-place-init : goal.loop-place-init
loop-place-init g c =
    going-start (input_with c.args.terms.now (g.L.Lists.state c.args.lists.now) (g.T.RowTest.truth c.args.test.now)) c.args.rows.now (g.L.Lists.state c.args.lists.now) refl c.requires.between

pub returns-in-None-clause-ok : goal.returns-in-None-clause-ok
returns-in-None-clause-ok g c =
    let count = c.lists-place-end.ensures.count in
    let inside = c.loop-place-test.true in
    going-at_end (input_with c.args.terms.now (g.L.Lists.state c.args.lists.now) (g.T.RowTest.truth c.args.test.now)) (g.T.RowTest.rows c.args.test.now) c.requires.input
    c.args.rows.now c.loop-place.rows (g.L.Lists.state c.loop-place.lists) (g.L.Lists.state c.sorted.new.self) c.loop-place.place c.loop-place.bound c.loop-place.greatest c.loop-place.invariant
    (omega arith) c.requires.between.within (sym c.in-None.ensures.entry) c.in-None.ensures.counts c.in-None.ensures.others c.in-None.ensures.told

pub loop-place-preserved : goal.loop-place-preserved
loop-place-preserved g c =
    let count = c.lists-place-end.ensures.count in
    let inside = c.loop-place-test.true in
    let saw = subst (λ (i : ScanInput). Saw i (c.loop-place.place + 1) c.loop-place.rows c.see.new.rows (g.L.Lists.state c.see.new.lists))
    (sym (same-input c.args.terms.now (g.L.Lists.state c.args.lists.now) (g.L.Lists.state c.sorted.new.self) (g.T.RowTest.truth c.args.test.now) (c.in-Some.ensures.lists ∙ c.loop-place.invariant.lists_are)))
    c.in_ok-see-in-Some.ensures.ok in
    let fits = rw c.in-Some.is at c.sorted.type_inv in
    subst
    (λ (row : ℕ). Going (input_with c.args.terms.now (g.L.Lists.state c.args.lists.now) (g.T.RowTest.truth c.args.test.now)) c.args.rows.now c.see.new.rows (g.L.Lists.state c.see.new.lists) (c.loop-place.place + 1) (c.loop-place.bound + c.share-bound.result) row)
    (sym c.greater-greatest.ensures)
    (going-on (input_with c.args.terms.now (g.L.Lists.state c.args.lists.now) (g.T.RowTest.truth c.args.test.now)) (g.T.RowTest.rows c.args.test.now) c.requires.input
    c.args.rows.now c.loop-place.rows (g.L.Lists.state c.loop-place.lists) c.loop-place.place c.loop-place.bound c.loop-place.greatest c.loop-place.invariant (omega arith)
    c.in-Some.score c.in-Some.row c.share-bound.result (g.L.Lists.state c.sorted.new.self) (g.L.Lists.state c.see.new.lists) c.see.new.rows
    (sym c.in-Some.ensures.entry) (omega (arith, fits)) c.in-Some.ensures.lists c.in-Some.ensures.counts
    c.in_ok-see-in-Some.ensures.lists c.in_ok-see-in-Some.ensures.sorted saw
    (c.share-bound.ensures ∙ ap (λ n. get_or c.args.terms.now.weights.weight n 0 * c.in-Some.score) c.from.ensures))

pub returns-clause-ok : goal.returns-clause-ok
returns-clause-ok g c =
    let count = c.lists-place-end.ensures.count in
    let past = c.loop-place-test.false in
    let most = c.loop-place.auto.place-end in
    going-over (input_with c.args.terms.now (g.L.Lists.state c.args.lists.now) (g.T.RowTest.truth c.args.test.now)) (g.T.RowTest.rows c.args.test.now) c.requires.input
    c.args.rows.now c.loop-place.rows c.end_round.new.self (g.L.Lists.state c.loop-place.lists) c.loop-place.place c.loop-place.bound c.loop-place.greatest c.key.result c.loop-place.invariant
    (omega arith) c.end_round.ensures c.key.ensures

pub see-requires : goal.see-requires
see-requires g c =
    let count = c.lists-place-end.ensures.count in
    let inside = c.loop-place-test.true in
    subst (λ (i : ScanInput). CanSee i (g.T.RowTest.rows c.args.test.now) (c.loop-place.place + 1) c.in-Some.row c.in-Some.score c.loop-place.rows (g.L.Lists.state c.sorted.new.self))
    (same-input c.args.terms.now (g.L.Lists.state c.args.lists.now) (g.L.Lists.state c.sorted.new.self) (g.T.RowTest.truth c.args.test.now) (c.in-Some.ensures.lists ∙ c.loop-place.invariant.lists_are))
    (going-can (input_with c.args.terms.now (g.L.Lists.state c.args.lists.now) (g.T.RowTest.truth c.args.test.now)) (g.T.RowTest.rows c.args.test.now) c.requires.input
    c.args.rows.now c.loop-place.rows (g.L.Lists.state c.loop-place.lists) c.loop-place.place c.loop-place.bound c.loop-place.greatest c.loop-place.invariant (omega arith)
    c.in-Some.score c.in-Some.row (g.L.Lists.state c.sorted.new.self) (sym c.in-Some.ensures.entry) c.in-Some.ensures.others c.in-Some.ensures.told)

pub returns-in_err-see-in-Some-clause-err : goal.returns-in_err-see-in-Some-clause-err
returns-in_err-see-in-Some-clause-err g c =
    let count = c.lists-place-end.ensures.count in
    let inside = c.loop-place-test.true in
    let i = input_with c.args.terms.now (g.L.Lists.state c.args.lists.now) (g.T.RowTest.truth c.args.test.now) in
    let looked = subst (λ (i : ScanInput). AreLookedUpWithin i (g.L.Lists.state c.see.new.lists) (shown_by i.lists c.loop-place.rows.rounds (c.loop-place.place + 1 - 1)) (shown_by i.lists c.loop-place.rows.rounds (c.loop-place.place + 1)))
    (sym (same-input c.args.terms.now (g.L.Lists.state c.args.lists.now) (g.L.Lists.state c.sorted.new.self) (g.T.RowTest.truth c.args.test.now) (c.in-Some.ensures.lists ∙ c.loop-place.invariant.lists_are)))
    c.in_err-see-in-Some.ensures.err in
    on_err_from c.from_residual.result
    (going-refused i (g.T.RowTest.rows c.args.test.now) c.requires.input
    c.args.rows.now c.loop-place.rows (g.L.Lists.state c.loop-place.lists) c.loop-place.place c.loop-place.bound c.loop-place.greatest c.loop-place.invariant (omega arith)
    c.in-Some.score c.in-Some.row (g.L.Lists.state c.sorted.new.self) (g.L.Lists.state c.see.new.lists)
    (sym c.in-Some.ensures.entry) c.in-Some.ensures.lists c.in-Some.ensures.counts c.in_err-see-in-Some.ensures.sorted looked)

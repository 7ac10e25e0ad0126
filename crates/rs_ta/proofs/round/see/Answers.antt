-- A row that was shown already, a new one for which the test doesn't hold, and a new one that is held.
use Rattle.std.proofs.Common.{◌≡◌, ℕ, Bool, true, false, not, sym, ◌∙◌, ap, subst}
use Rattle.std.specs.Prelude.{Ok}
use Rattle.std.proofs.lemmas.Bool.{not-false, not-true}
use Rattle.std.proofs.lemmas.Result.{on_ok_weaker}
use Rattle.std.specs.List.{AllByRecursion}
use Rattle.rs_rank.specs.declared.key.Key.{Key}
use Rattle.rs_rank.specs.declared.row.RankRow.{RankRow}
use Rattle.rs_rank.specs.Ids.{AreOtherIds}
use Rattle.rs_ta.specs.Depths.{ids_at}
use Rattle.rs_ta.specs.Rounds.{SeenState, has_row, input_with, row_of_key}
use Rattle.rs_ta.proofs.ExtensionFacts.{on_err_from}
use Rattle.rs_ta.proofs.SeeFacts.{refused-before, refused-behind, saw-held, saw-noted, saw-old, see-apart, see-score}
use Rattle.rs_ta.proofs.round.see.Goals as goal

-- whether the row is new tells whether it was shown
was_shown : (is_new shown : Bool) → is_new ≡ not shown → is_new ≡ false → shown ≡ true
was_shown is_new shown e old = not-false shown (sym e ∙ old)

was_not_shown : (is_new shown : Bool) → is_new ≡ not shown → is_new ≡ true → shown ≡ false
was_not_shown is_new shown e new = not-true shown (sym e ∙ new)

pub returns-then-not-is_new-clause-ok : goal.returns-then-not-is_new-clause-ok
returns-then-not-is_new-clause-ok g c =
    let old : c.in_ok-is_new.is_new ≡ false = c.if-not-is_new.true in
    saw-old (input_with c.args.terms.now (g.L.Lists.state c.args.lists.now) (g.T.RowTest.truth c.args.test.now)) (g.T.RowTest.rows c.args.test.now) c.args.list c.args.row c.args.score
    c.args.rows.now (g.L.Lists.state c.args.lists.now) c.requires c.note.new.self (c.in_ok-is_new.ensures.old (ap (λ (b : Bool). Ok b) old))
    (was_shown c.in_ok-is_new.is_new (has_row c.args.row c.args.rows.now.seen) c.in_ok-is_new.ensures.new old)

pub sum_of-sum-requires-clause-score : goal.sum_of-sum-requires-clause-score
sum_of-sum-requires-clause-score g c =
    see-score (input_with c.args.terms.now (g.L.Lists.state c.args.lists.now) (g.T.RowTest.truth c.args.test.now)) (g.T.RowTest.rows c.args.test.now) c.args.list c.args.row c.args.score
    c.args.rows.now (g.L.Lists.state c.args.lists.now) c.requires

pub returns-then-not-holds-clause-ok : goal.returns-then-not-holds-clause-ok
returns-then-not-holds-clause-ok g c =
    let new : c.in_ok-is_new.is_new ≡ true = c.if-not-is_new.false in
    saw-noted (input_with c.args.terms.now (g.L.Lists.state c.args.lists.now) (g.T.RowTest.truth c.args.test.now)) (g.T.RowTest.rows c.args.test.now) c.args.list c.args.row c.args.score
    c.args.rows.now (g.L.Lists.state c.args.lists.now) c.requires c.note.new.self (g.L.Lists.state c.sum_of-sum.new.lists)
    (was_not_shown c.in_ok-is_new.is_new (has_row c.args.row c.args.rows.now.seen) c.in_ok-is_new.ensures.new new)
    c.in_ok-is_new.ensures.ok (sym c.in_ok-holds.ensures ∙ c.if-not-holds.true) c.sum_of-sum.ensures.counts c.sum_of-sum.ensures.told

pub hold-requires : goal.hold-requires
hold-requires g c =
    let new : c.in_ok-is_new.is_new ≡ true = c.if-not-is_new.false in
    subst (λ (s : SeenState). AllByRecursion (λ (row : RankRow). AreOtherIds row.ids c.key.result.ids) s.held) (sym c.in_ok-is_new.ensures.ok)
    (see-apart (input_with c.args.terms.now (g.L.Lists.state c.args.lists.now) (g.T.RowTest.truth c.args.test.now)) (g.T.RowTest.rows c.args.test.now) c.args.list c.args.row c.args.score
    c.args.rows.now (g.L.Lists.state c.args.lists.now) c.requires
    (was_not_shown c.in_ok-is_new.is_new (has_row c.args.row c.args.rows.now.seen) c.in_ok-is_new.ensures.new new)
    c.key.result (ap (λ (k : Key). k.ids) c.key.ensures))

pub returns-clause-ok : goal.returns-clause-ok
returns-clause-ok g c =
    let new : c.in_ok-is_new.is_new ≡ true = c.if-not-is_new.false in
    on_ok_weaker c.hold.result
    (λ held.
    saw-held (input_with c.args.terms.now (g.L.Lists.state c.args.lists.now) (g.T.RowTest.truth c.args.test.now)) (g.T.RowTest.rows c.args.test.now) c.args.list c.args.row c.args.score
    c.args.rows.now (g.L.Lists.state c.args.lists.now) c.requires c.note.new.self c.hold.new.self (g.L.Lists.state c.sum_of-sum.new.lists) c.key.result
    (was_not_shown c.in_ok-is_new.is_new (has_row c.args.row c.args.rows.now.seen) c.in_ok-is_new.ensures.new new)
    c.in_ok-is_new.ensures.ok held
    (ap row_of_key c.key.ensures ∙ ap (λ (n : ℕ). row_of_key (record { bound = n; ids = ids_at c.args.terms.now.block c.args.terms.now.entry c.args.row })) c.sum_of-sum.ensures.sum)
    (sym c.in_ok-holds.ensures ∙ c.if-not-holds.false) c.sum_of-sum.ensures.counts c.sum_of-sum.ensures.told)
    c.hold.ensures

pub returns-in_err-is_new-clause-err : goal.returns-in_err-is_new-clause-err
returns-in_err-is_new-clause-err g c =
    on_err_from c.from_residual.result
    (refused-before (input_with c.args.terms.now (g.L.Lists.state c.args.lists.now) (g.T.RowTest.truth c.args.test.now)) (g.T.RowTest.rows c.args.test.now) c.args.list c.args.row c.args.score
    c.args.rows.now (g.L.Lists.state c.args.lists.now) c.requires)

pub returns-in_err-holds-clause-err : goal.returns-in_err-holds-clause-err
returns-in_err-holds-clause-err g c =
    let new : c.in_ok-is_new.is_new ≡ true = c.if-not-is_new.false in
    on_err_from c.from_residual-in_err-holds.result
    (refused-behind (input_with c.args.terms.now (g.L.Lists.state c.args.lists.now) (g.T.RowTest.truth c.args.test.now)) (g.T.RowTest.rows c.args.test.now) c.args.list c.args.row c.args.score
    c.args.rows.now (g.L.Lists.state c.args.lists.now) c.requires
    (was_not_shown c.in_ok-is_new.is_new (has_row c.args.row c.args.rows.now.seen) c.in_ok-is_new.ensures.new new)
    (g.L.Lists.state c.sum_of-sum.new.lists) c.sum_of-sum.ensures.counts c.sum_of-sum.ensures.told)

pub returns-clause-err : goal.returns-clause-err
returns-clause-err g c =
    let new : c.in_ok-is_new.is_new ≡ true = c.if-not-is_new.false in
    on_err_from c.hold.result
    (refused-behind (input_with c.args.terms.now (g.L.Lists.state c.args.lists.now) (g.T.RowTest.truth c.args.test.now)) (g.T.RowTest.rows c.args.test.now) c.args.list c.args.row c.args.score
    c.args.rows.now (g.L.Lists.state c.args.lists.now) c.requires
    (was_not_shown c.in_ok-is_new.is_new (has_row c.args.row c.args.rows.now.seen) c.in_ok-is_new.ensures.new new)
    (g.L.Lists.state c.sum_of-sum.new.lists) c.sum_of-sum.ensures.counts c.sum_of-sum.ensures.told)

use Rattle.std.proofs.Common.{◌≡◌, ◌∙◌, [], List, Some, ap, eqb, length, refl, sym, ℕ}
use Rattle.std.proofs.lemmas.Bool.{true≢false}
use Rattle.rs_ask.proofs.PassedFacts.{StopsAt-apart, StopsAt-less}
use Rattle.rs_ask.proofs.new_rows.NewRows.stop.Goals as goal

pub returns-else-is_empty-clause-some : goal.returns-else-is_empty-clause-some
returns-else-is_empty-clause-some g c = rw (c.differs.ensures, ← c.self.view_is)
    (StopsAt-less c.args.lacked_memory g.B.Began.out (g.O.Sink.state c.self.inside.out) c.self.inside.rows c.rest.result.now (sym c.in-None.ensures.value) (c.in-None.ensures.none refl) c.rest.ensures
    (λ (e : c.rest.result.now ≡ []). true≢false (sym (c.is_empty.ensures ∙ ap (λ (bytes : List ℕ). eqb (length bytes) 0) e) ∙ c.if-is_empty.false))
    c.self.invariant.passed)

pub returns-in-Some-Differs-clause-some : goal.returns-in-Some-Differs-clause-some
returns-in-Some-Differs-clause-some g c = rw (c.differs-in-Some-Differs.ensures, ← c.self.view_is)
    (StopsAt-apart c.args.lacked_memory g.B.Began.out (g.O.Sink.state c.self.inside.out) c.self.inside.rows (sym c.fault.ensures.value ∙ c.in-Some-Differs.is ∙ ap Some c.in-Some-Differs.field-0-is) c.self.invariant.passed)

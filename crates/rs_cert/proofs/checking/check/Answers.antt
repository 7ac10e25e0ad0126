use Rattle.std.proofs.Common.{◌∙◌, subst}
use Rattle.rs_cert.specs.Rows.{Falls, RisesFirstAt}
use Rattle.rs_cert.specs.Verdicts.RisesOn.{on_left, on_right}
use Rattle.rs_cert.proofs.checking.check.Goals as goal

pub returns-in-Some : goal.returns-in-Some
returns-in-Some c = on_left c.in-Some.row (subst (λ rows. RisesFirstAt rows c.in-Some.row) (c.deref.ensures.value ∙ c.items.ensures) c.in-Some.ensures)

pub returns-in-Some-first_rise : goal.returns-in-Some-first_rise
returns-in-Some-first_rise c =
    on_right c.in-Some-first_rise.row
    (subst Falls (c.deref.ensures.value ∙ c.items.ensures) c.in_default.ensures)
    (subst (λ rows. RisesFirstAt rows c.in-Some-first_rise.row) (c.deref-2.ensures.value ∙ c.items-2.ensures) c.in-Some-first_rise.ensures)

-- What is asked for tells the answers up to the next one.
use Rattle.std.proofs.Common.{suc, subst, arith}
use Rattle.rs_mu.proofs.StandFacts.{Tells, answers-settled, stands-tells}
use Rattle.rs_mu.proofs.laws.ready_answers_are_certain.Goals as goal

pub returns : goal.returns
returns c = λ e rows asks count mu s ready.
    let tells = subst (Tells e rows asks count) ready (stands-tells e rows asks count mu s) in
    let exact = tells.0 in
    answers-settled e rows s.input (suc count) asks (omega arith)

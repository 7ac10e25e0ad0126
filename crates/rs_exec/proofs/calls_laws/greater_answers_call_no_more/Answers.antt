use Rattle.rs_exec.proofs.GreaterFacts.{greater-begins}
use Rattle.rs_exec.proofs.calls_laws.greater_answers_call_no_more.Goals as goal

pub returns : goal.returns
returns c = λ catalogue query predicate term child lesser greater n no is fits other_fits.
    greater-begins catalogue query predicate lesser greater is term child no fits other_fits n

use Rattle.std.proofs.Common.{refl}
use Rattle.rs_lex.proofs.FaultFacts.{IsFault-refused}
use Rattle.rs_lex.proofs.laws.refusals_are_faults.Goals as goal

pub returns : goal.returns
returns c = λ script fault h. IsFault-refused script 0 0 script fault refl h

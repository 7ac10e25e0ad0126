use Rattle.std.proofs.Common.{refl}
use Rattle.rs_statement.proofs.laws.guesses_call_nobody.Goals as goal

pub returns : goal.returns
returns c = record {
  calls = λ catalogue seed query. refl;
  plans = λ answer other catalogue seed query. refl;
  same = λ answer catalogue seed query. refl;
}

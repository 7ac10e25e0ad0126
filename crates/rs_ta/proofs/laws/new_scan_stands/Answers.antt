-- No ask takes no place.
use Rattle.std.proofs.Common.{refl, arith}
use Rattle.std.proofs.lemmas.Bool.{false≢true}
use Rattle.rs_ta.proofs.laws.new_scan_stands.Goals as goal

pub returns : goal.returns
returns c = λ weights entry block state truth sorted random. record {
  scan_is = refl;
  accessed = record { sorted = sorted; random = random };
  within = omega arith;
  ended = λ e. absurd (false≢true e);
}

use Rattle.rs_ta.specs.Depths.{first_sights}
use Rattle.rs_ta.proofs.OnceFacts.{looked_up-counts, looked_up-once, looked_up-rows}
use Rattle.rs_ta.proofs.SightFacts.{apart-shown}
use Rattle.rs_ta.proofs.laws.rows_are_looked_up_once.Goals as goal

pub returns : goal.returns
returns c = record {
  once = λ lists shown sight list is some within. looked_up-once lists sight list some within (first_sights shown) (apart-shown shown) is;
  no_other = λ lists shown lookup is. looked_up-rows lists lookup (first_sights shown) is;
  counts = λ lists shown list some within. looked_up-counts lists list some within (first_sights shown);
}

-- Pairs of different rows have different keys, so the sorted ones rise.
use Rattle.rs_rank.specs.Rows.{merge_row}
use Rattle.rs_rank.specs.Keys.{key_cmp}
use Rattle.rs_ripple.specs.Stands.{answer_key}
use Rattle.rs_ripple.proofs.PairFacts.{ordered-climbs}
use Rattle.rs_ripple.proofs.SideFacts.{sides-grid}
use Rattle.rs_ripple.proofs.laws.answers_rise.Goals as goal

pub returns : goal.returns
returns c = λ j lefts rights input. ordered-climbs key_cmp j.matches merge_row (answer_key j) lefts rights (sides-grid j lefts rights input)

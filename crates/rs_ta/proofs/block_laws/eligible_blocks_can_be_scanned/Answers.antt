-- What eligible means has these.
use Rattle.rs_ta.proofs.EligibleFacts.{eligible-entry, eligible-one_table, eligible-weights}
use Rattle.rs_ta.proofs.block_laws.eligible_blocks_can_be_scanned.Goals as goal

pub returns : goal.returns
returns c = record {
  entry = λ catalogue block indexes eligible. eligible-entry catalogue block indexes eligible;
  indexes = λ catalogue block indexes formed eligible. eligible-one_table catalogue block indexes formed eligible;
  weights = λ catalogue block indexes formed eligible. eligible-weights catalogue block indexes formed eligible;
}

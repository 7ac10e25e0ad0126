use Rattle.rs_catalog.proofs.SnapshotFacts.{snapshot-holds}
use Rattle.rs_catalog.proofs.snapshot_laws.snapshots_hold_answers.Goals as goal

pub returns : goal.returns
returns c = λ sizes answer catalogue held. snapshot-holds sizes answer catalogue held

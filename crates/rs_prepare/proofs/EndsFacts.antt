-- A file that was opened is let through or refused.
use Rattle.std.proofs.Common.{Option, Result, Err, Ok}
use Rattle.rs_prepare.specs.DirEnds.{ChecksScores, ChecksSeen, Ends, Locks, RefusesScores}
use Rattle.rs_prepare.specs.Seeing.{AreOne, IsNew, Refuses, RefusesError, SystemTells, node_of}
use Rattle.rs_prepare.specs.declared.node.About.{About}
use Rattle.rs_prepare.specs.declared.open_fault.OpenFault.{OpenFault}
use Rattle.rs_prepare.specs.declared.open_fault.OpenFault.TheVariants.{Failed, InUse, Memory, Missing, OneFile}
use Rattle.rs_prepare.specs.declared.open_fault.Stream.TheVariants as streams

-- that of questions or of answers, where it is one of those that are open or not
pub checks_seen : {S : Type 0} (old : Ends S) (about : Option About) (result : Result (Unit {0}) OpenFault) → Refuses old.seen (node_of about) result → ChecksSeen old about result
checks_seen old about (Ok done) refuses = refuses
checks_seen old about (Err (OneFile stream)) refuses = refuses
checks_seen old about (Err InUse) refuses = absurd refuses
checks_seen old about (Err Missing) refuses = absurd refuses
checks_seen old about (Err Failed) refuses = absurd refuses
checks_seen old about (Err Memory) refuses = absurd refuses

module _ {S F : Type 0} (tells : SystemTells S F) (old : Ends S) (file : F) (about : Option About) where
  -- that of scores is one of those that are open
  pub refuses_scores : (fault : OpenFault) → Refuses old.seen (node_of about) (Err fault) → RefusesScores tells old file about fault
  refuses_scores (OneFile streams.Output) refuses = refuses
  refuses_scores (OneFile streams.Scores) refuses = refuses
  refuses_scores (OneFile streams.Questions) refuses = refuses
  refuses_scores (OneFile streams.Error) refuses = absurd refuses
  refuses_scores InUse refuses = absurd refuses
  refuses_scores Missing refuses = absurd refuses
  refuses_scores Failed refuses = absurd refuses
  refuses_scores Memory refuses = absurd refuses

  -- or standard error
  pub refuses_error : (fault : OpenFault) → IsNew old.seen (node_of about) → RefusesError old.seen (node_of about) (Err fault) → RefusesScores tells old file about fault
  refuses_error (OneFile streams.Error) unseen refuses = (unseen, refuses)
  refuses_error (OneFile streams.Output) unseen refuses = absurd refuses
  refuses_error (OneFile streams.Scores) unseen refuses = absurd refuses
  refuses_error (OneFile streams.Questions) unseen refuses = absurd refuses
  refuses_error InUse unseen refuses = absurd refuses
  refuses_error Missing unseen refuses = absurd refuses
  refuses_error Failed unseen refuses = absurd refuses
  refuses_error Memory unseen refuses = absurd refuses

  -- or another program has locked it, or none has
  pub checks_lock : (result : Result (Unit {0}) OpenFault) → IsNew old.seen (node_of about) → (¬ AreOne (node_of about) old.seen.error) → Locks tells old.system file about result
      → ChecksScores tells old file about result
  checks_lock (Ok done) unseen no_error locks = record { unseen = unseen; no_error = no_error; unlocked = locks }
  checks_lock (Err InUse) unseen no_error locks = (unseen, no_error, locks.0, locks.1)
  checks_lock (Err (OneFile stream)) unseen no_error locks = absurd locks
  checks_lock (Err Missing) unseen no_error locks = absurd locks
  checks_lock (Err Failed) unseen no_error locks = absurd locks
  checks_lock (Err Memory) unseen no_error locks = absurd locks

-- The numbers of the statuses.
use Rattle.std.specs.Prelude.{ℕ}
use Rattle.rs_events.specs.declared.status.Status.{Status}
use Rattle.rs_events.specs.declared.status.Status.TheVariants.{Done, Memory, Usage, Read, Write, Script, Table, BadScore, Probe, Session}

-- the exit status of a program that ends so
abbrev pub exit_status_of : Status → ℕ
exit_status_of Done = 0
exit_status_of Memory = 1
exit_status_of Usage = 2
exit_status_of Read = 3
exit_status_of Write = 4
exit_status_of Script = 5
exit_status_of Table = 6
exit_status_of BadScore = 7
exit_status_of Probe = 8
exit_status_of Session = 9

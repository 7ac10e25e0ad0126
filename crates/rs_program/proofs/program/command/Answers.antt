use Rattle.std.proofs.Common.{refl}
use Rattle.rs_program.proofs.program.command.Goals as goal

pub returns-in-Ok-clause-run : goal.returns-in-Ok-clause-run
returns-in-Ok-clause-run g c =
    rw c.in-Ok.is (c.run.result, record { shown = _; lent = _; left = _; met = c.run.ensures; shows = c.deref.ensures.value; found = refl; leaves = refl }, c.exit_code.ensures)

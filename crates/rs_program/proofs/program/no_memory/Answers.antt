use Rattle.rs_program.proofs.program.no_memory.Goals as goal

pub returns-clause-line : goal.returns-clause-line
returns-clause-line g c = (c.put.result, c.put.ensures.puts)

-- A table that was read of the same bytes is theirs.
use Rattle.std.proofs.Common.{◌∙◌, ap, inl, sym, subst}
use Rattle.std.specs.Prelude.{Ok, option_map}
use Rattle.rs_scores.specs.KnownTables.{IsTableRead, TableRead}
use Rattle.rs_scores.proofs.KnownTablesFacts.{read-is}
use Rattle.rs_scores.proofs.known_tables.KnownTablesTableReader.read_table.Goals as goal

pub returns-in-Some-clause-gives : goal.returns-in-Some-clause-gives
returns-in-Some-clause-gives c =
    let is = read-is c.args.schema c.args.bytes.now c.args.self.now c.in-Some.read.now (sym c.read_of.ensures ∙ ap (option_map (λ read. read.now)) c.in-Some.is)
    (subst IsTableRead c.read.view_is c.read.invariant) in
    inl (sym (is ∙ ap Ok (sym (c.in_ok-copy.ensures ∙ ap (λ (read : TableRead). read.table) c.read.view_is))))

use Rattle.std.proofs.Common.{◌∙◌, nat_eq}
use Rattle.std.specs.Cmp.Lexicographic.{pointwise}
use Rattle.indexmap.proofs.CallerLemmas.{insert_entry-new}
use Rattle.rs_statement.proofs.EntryFacts.{lookup-none}
use Rattle.rs_statement.proofs.named.Named.insert.Goals as goal

pub returns-in-Ok-clause-ok : goal.returns-in-Ok-clause-ok
returns-in-Ok-clause-ok g c =
    let held = c.args.self.now.held in
    c.in-Ok.ensures.entries ∙ insert_entry-new (pointwise nat_eq) held c.args.name c.args.value (lookup-none c.args.name held.entries c.requires)

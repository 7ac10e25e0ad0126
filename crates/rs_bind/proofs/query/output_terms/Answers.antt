use Rattle.rs_bind.proofs.OutputFacts.{output_columns-entry}
use Rattle.rs_bind.proofs.query.output_terms.Goals as goal

pub bind_terms-requires : goal.bind_terms-requires
bind_terms-requires c = record { few = output_columns-entry c.args.names.now c.args.items.now c.requires.few }

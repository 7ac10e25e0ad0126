use Rattle.rs_statement.proofs.planned_query.PlannedQuery.text.Goals as goal

pub explain-requires : goal.explain-requires
explain-requires c = record { query = c.requires.query; cards = c.requires.cards; plan = c.requires.plan; counts = tt }

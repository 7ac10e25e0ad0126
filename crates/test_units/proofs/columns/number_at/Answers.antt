-- The first column has the kind that was found.
use Rattle.test_units.proofs.KindFacts.{lent_first_of_texts}
use Rattle.test_units.proofs.columns.number_at.Goals as goal

pub text_number-requires-clause-texts : goal.text_number-requires-clause-texts
text_number-requires-clause-texts c = lent_first_of_texts c.columns.result.now c.schema.result.now _ _ c.columns.ensures.value c.schema.ensures.value c.columns.ensures.some c.in-Text.is

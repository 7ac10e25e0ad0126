use Rattle.std.proofs.Common.{◌∙◌, sym}
use Rattle.rs_bind.proofs.TopFacts.{predicate-for}
use Rattle.rs_bind.proofs.tops.top_of.Goals as goal

pub top_by-requires-clause-index : goal.top_by-requires-clause-index
top_by-requires-clause-index c = λ number is def there.
    predicate-for c.args.catalog.now _ c.args.term.now.predicate _ _ number def (sym c.index_for-index.ensures.value ∙ is) there

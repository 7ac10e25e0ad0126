use Rattle.std.proofs.Common.{ℕ, ◌≡◌, ◌∙◌, List, subst, sym}
use Rattle.std.specs.Prelude.{IfOk}
use Rattle.rs_bind.specs.Queries.{IsEntryArg, block_columns}
use Rattle.rs_bind.specs.Sources.{sources_of}
use Rattle.rs_bind.proofs.SourceFacts.{block_columns-within}
use Rattle.rs_bind.proofs.query.block_terms.Goals as goal

pub bind_terms-requires : goal.bind_terms-requires
bind_terms-requires c =
    let catalogue = c.args.catalog.now in
    let same : c.deref.result.now ≡ c.args.block.now.from = c.deref.ensures.value ∙ c.items.ensures in
    record {
      few = λ r.
          subst (λ (from : List (ℕ × List ℕ)). IfOk (block_columns (sources_of catalogue from) r) (λ found. IsEntryArg found.0)) (sym same)
          (block_columns-within catalogue c.args.block.now.from c.requires.few c.requires.columns r);
    }

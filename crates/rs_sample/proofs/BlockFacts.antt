-- The questions of a block, by the samples that were drawn.
use Rattle.std.proofs.Common.{ℕ, ◌≡◌, ◌∙◌, List, [], refl, sym, ap, append-nil}
use Rattle.std.specs.Prelude.{Result, Ok, Err}
use Rattle.rs_expr.specs.InOrder.{Inquires}
use Rattle.rs_expr.specs.Scoring.{ScorerState}
use Rattle.rs_catalog.specs.Catalog.{CatalogDef}
use Rattle.rs_query.specs.declared.block.Block.{Block}
use Rattle.rs_sample.specs.Sampling.{asking_all, block_questions, done}
use Rattle.rs_sample.specs.declared.fault.SampleFault.{SampleFault}
use Rattle.rs_sample.specs.declared.fault.SampleFault.TheVariants.{Memory}
use Rattle.rs_sample.proofs.AskingFacts.{Asked-none, Asked-ok, Inquires-all, Inquires-faulted, Inquires-within}

module _ (catalogue : CatalogDef) (number : ℕ) (block : Block) (drawn samples : List (List ℕ)) (are : drawn ≡ samples) {A : Type 0} (value : A) (old new : ScorerState) where
  questions-are : block_questions number block drawn ≡ block_questions number block samples
  questions-are = ap (block_questions number block) are

  -- a question ended all
  pub block-faulted : (fault : SampleFault) (result : Result (Unit {0}) SampleFault) → result ≡ Err fault
      → Inquires Memory (asking_all catalogue (block_questions number block samples) value) (Err fault) old new
      → Inquires Memory (asking_all catalogue (block_questions number block drawn) done) result old new
  block-faulted fault result is inquired =
      Inquires-faulted catalogue [] (block_questions number block samples) [] (block_questions number block drawn) value done fault result old old new
      (questions-are ∙ sym (append-nil (block_questions number block samples))) is (Asked-none catalogue old) inquired

  -- there was no memory behind all questions
  pub block-stopped : (given : A) (result : Result (Unit {0}) SampleFault) → result ≡ Err Memory
      → Inquires Memory (asking_all catalogue (block_questions number block samples) value) (Ok given) old new
      → Inquires Memory (asking_all catalogue (block_questions number block drawn) done) result old new
  block-stopped given result is inquired =
      Inquires-within catalogue (block_questions number block samples) [] (block_questions number block drawn) done result old new
      (questions-are ∙ sym (append-nil (block_questions number block samples))) is (Asked-ok catalogue (block_questions number block samples) value given old new inquired)

  -- all was done
  pub block-ended : (given : A) → Inquires Memory (asking_all catalogue (block_questions number block samples) value) (Ok given) old new
      → Inquires Memory (asking_all catalogue (block_questions number block drawn) done) (Ok done) old new
  block-ended given inquired =
      Inquires-all catalogue (block_questions number block samples) (block_questions number block drawn) done done old new questions-are refl
      (Asked-ok catalogue (block_questions number block samples) value given old new inquired)

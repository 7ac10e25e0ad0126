-- The questions of a query, block after block.
use Rattle.std.proofs.Common.{ℕ, ◌≡◌, ◌∙◌, ◌+◌, ◌≤◌, List, [], ◌++◌, sum, refl, sym, ap, append-nil, arith}
use Rattle.std.specs.Prelude.{Result, Ok, Err}
use Rattle.rand_core.specs.Steps.{first_words}
use Rattle.rand_pcg.specs.Lcg.{Lcg}
use Rattle.rand_pcg.specs.Pcg.{pcg32}
use Rattle.rs_expr.specs.InOrder.{Inquires}
use Rattle.rs_expr.specs.Scoring.{ScorerState}
use Rattle.rs_catalog.specs.Catalog.{CatalogDef}
use Rattle.rs_query.specs.Questions.{Question}
use Rattle.rs_query.specs.Tables.{sizes_of}
use Rattle.rs_query.specs.declared.block.Block.{Block}
use Rattle.rs_sample.specs.Drawing.{Draws}
use Rattle.rs_sample.specs.Sampling.{asking_all, block_samples, done}
use Rattle.rs_sample.specs.Words.{generator_of, words_of}
use Rattle.rs_sample.specs.declared.fault.SampleFault.{SampleFault}
use Rattle.rs_sample.specs.declared.fault.SampleFault.TheVariants.{Memory}
use Rattle.rs_sample.proofs.AskingFacts.{Asked-more, Asked-none, Asked-ok, Inquires-all, Inquires-faulted, Inquires-within}

module _ (catalogue : CatalogDef) (first second all : List Question) (split : all ≡ first ++ second) where
  -- a question of the first block ended all
  pub first-faulted : (fault : SampleFault) (result : Result (Unit {0}) SampleFault) (old middle : ScorerState) → result ≡ Err fault
      → Inquires Memory (asking_all catalogue first done) (Err fault) old middle → Inquires Memory (asking_all catalogue all done) result old middle
  first-faulted fault result old middle is inquired =
      Inquires-faulted catalogue [] first second all done done fault result old old middle split is (Asked-none catalogue old) inquired

  -- there was no memory behind the first block
  pub first-stopped : (result : Result (Unit {0}) SampleFault) (old middle : ScorerState) → result ≡ Err Memory
      → Inquires Memory (asking_all catalogue first done) (Ok done) old middle → Inquires Memory (asking_all catalogue all done) result old middle
  first-stopped result old middle is inquired =
      Inquires-within catalogue first second all done result old middle split is (Asked-ok catalogue first done done old middle inquired)

  -- a question of the second block ended all
  pub second-faulted : (fault : SampleFault) (result : Result (Unit {0}) SampleFault) (old middle new : ScorerState) → result ≡ Err fault
      → Inquires Memory (asking_all catalogue first done) (Ok done) old middle → Inquires Memory (asking_all catalogue second done) (Err fault) middle new
      → Inquires Memory (asking_all catalogue all done) result old new
  second-faulted fault result old middle new is before inquired =
      Inquires-faulted catalogue first second [] all done done fault result old middle new (split ∙ ap (λ more. first ++ more) (sym (append-nil second))) is
      (Asked-ok catalogue first done done old middle before) inquired

  -- there was no memory behind both
  pub second-stopped : (result : Result (Unit {0}) SampleFault) (old middle new : ScorerState) → result ≡ Err Memory
      → Inquires Memory (asking_all catalogue first done) (Ok done) old middle → Inquires Memory (asking_all catalogue second done) (Ok done) middle new
      → Inquires Memory (asking_all catalogue all done) result old new
  second-stopped result old middle new is before after =
      Inquires-within catalogue (first ++ second) [] all done result old new (split ∙ sym (append-nil (first ++ second))) is
      (Asked-more catalogue first second old middle new (Asked-ok catalogue first done done old middle before) (Asked-ok catalogue second done done middle new after))

  -- both were asked
  pub both-ended : (old middle new : ScorerState) → Inquires Memory (asking_all catalogue first done) (Ok done) old middle → Inquires Memory (asking_all catalogue second done) (Ok done) middle new
      → Inquires Memory (asking_all catalogue all done) (Ok done) old new
  both-ended old middle new before after =
      Inquires-all catalogue (first ++ second) all done done old new split refl
      (Asked-more catalogue first second old middle new (Asked-ok catalogue first done done old middle before) (Asked-ok catalogue second done done middle new after))

-- the rows of both
abbrev pub both_rows : CatalogDef → Block → Block → ℕ
both_rows catalogue left right = sum (sizes_of catalogue left) + sum (sizes_of catalogue right)

module _ (catalogue : CatalogDef) (left right : Block) (old new : Lcg)
    (drawn : Draws (sum (sizes_of catalogue left)) (block_samples left (sizes_of catalogue left)) (block_samples left (sizes_of catalogue left) (first_words pcg32 (both_rows catalogue left right) old)).0 old new
    (both_rows catalogue left right)) where
  -- the words that are left are enough for the second block
  pub left-enough : sum (sizes_of catalogue right) ≤ drawn.left
  left-enough = (let few = drawn.enough in omega arith)

  -- they are those of the definition
  pub words-left : (seed : ℕ) → old ≡ generator_of seed
      → first_words pcg32 drawn.left new ≡ (block_samples left (sizes_of catalogue left) (words_of seed (both_rows catalogue left right))).1
  words-left seed seeded =
      sym (ap (λ p. p.1) drawn.gives) ∙ ap (λ g. (block_samples left (sizes_of catalogue left) (first_words pcg32 (both_rows catalogue left right) g)).1) seeded

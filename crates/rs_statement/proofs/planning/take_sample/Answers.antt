use Rattle.std.proofs.Common.{◌≡◌, refl}
use Rattle.std.specs.Prelude.{Ok}
use Rattle.rs_value.proofs.ResultFacts.{given-err}
use Rattle.rs_events.proofs.SteppedFacts.{Stepped-no_memory, Stepped-still}
use Rattle.rs_statement.specs.Sampled.{sample_step}
use Rattle.rs_statement.specs.declared.fault.Fault.TheVariants.{Memory}
use Rattle.rs_statement.specs.declared.sampling.Sampling.TheVariants.{ByGuesses}
use Rattle.rs_statement.proofs.planning.take_sample.Goals as goal

pub returns-in-ByScores : goal.returns-in-ByScores
returns-in-ByScores g c = rw c.in-ByScores.is (record {
  calls = c.take_by_scores.ensures.calls;
  cards = c.take_by_scores.ensures.cards;
  own = c.take_by_scores.ensures.own;
})

-- by guesses nothing is done, whether there was memory or not
pub returns-in_ok-take_by_guesses-in-ByGuesses : goal.returns-in_ok-take_by_guesses-in-ByGuesses
returns-in_ok-take_by_guesses-in-ByGuesses g c = rw c.in-ByGuesses.is (record {
  calls = λ beside. Stepped-still (λ step. step ≡ sample_step c.args.catalog.now (ByGuesses c.in-ByGuesses.seed) c.args.query.now) (Ok c.args.catalog.now) c.args.catalog.now (Ok tt)
      (record beside { scorer = g.S.Scorer.state c.args.scorer.now }) refl refl;
  cards = c.in_ok-take_by_guesses-in-ByGuesses.ensures.cards (g.S.Scorer.state c.args.scorer.now).answer;
  own = c.in_ok-take_by_guesses-in-ByGuesses.ensures.own;
})

pub returns-in_err-take_by_guesses-in-ByGuesses : goal.returns-in_err-take_by_guesses-in-ByGuesses
returns-in_err-take_by_guesses-in-ByGuesses g c = rw (given-err c.from_residual.result Memory c.from_residual.ensures) (record {
  calls = λ beside. Stepped-no_memory (λ step. step ≡ sample_step c.args.catalog.now c.args.sampling c.args.query.now) (sample_step c.args.catalog.now c.args.sampling c.args.query.now) c.args.catalog.now
      (record beside { scorer = g.S.Scorer.state c.args.scorer.now }) refl;
  cards = tt;
  own = tt;
})

use Rattle.std.proofs.Common.{[], refl}
use Rattle.std.specs.Prelude.{Ok}
use Rattle.rs_sample.specs.Sampling.{done}
use Rattle.rs_sample.specs.declared.fault.SampleFault.TheVariants as sample
use Rattle.rs_events.specs.Run.{lines_run}
use Rattle.rs_statement.specs.declared.sampling.Sampling.TheVariants.{ByScores}
use Rattle.rs_statement.specs.Sampled.{sample_fault, sample_inquiry, sample_outcome}
use Rattle.rs_events.proofs.InquirySteps.{Stepped-asked, Stepped-unasked}
use Rattle.rs_events.proofs.RanFacts.{HasDone-none, Ran-all}
use Rattle.rs_statement.proofs.SampleSteps.{probes-sample}
use Rattle.rs_statement.proofs.planning.take_by_scores.Goals as goal

pub sample_fault-requires : goal.sample_fault-requires
sample_fault-requires g c = c.in-Err.ensures.names_predicate

pub returns-in-Err-clause-calls : goal.returns-in-Err-clause-calls
returns-in-Err-clause-calls g c = λ beside.
    Stepped-unasked (λ taken. []) (sample_outcome c.args.catalog.now) sample.Memory (sample_inquiry c.args.catalog.now (ByScores c.args.seed) c.args.query.now) c.args.catalog.now
    (record beside { scorer = g.S.Scorer.state c.args.scorer.now }) (g.S.Scorer.state c.take.new.scorer) (sample_fault c.args.catalog.now) c.in-Err.why c.sample_fault.result refl refl refl
    (probes-sample c.args.catalog.now (ByScores c.args.seed) c.args.query.now) c.in-Err.ensures.asks c.sample_fault.ensures

pub returns-in-Ok-clause-calls : goal.returns-in-Ok-clause-calls
returns-in-Ok-clause-calls g c = λ beside.
    Stepped-asked (λ taken. []) (sample_outcome c.args.catalog.now) sample.Memory (sample_inquiry c.args.catalog.now (ByScores c.args.seed) c.args.query.now) c.args.catalog.now
    (record beside { scorer = g.S.Scorer.state c.args.scorer.now }) (g.S.Scorer.state c.take.new.scorer) done (Ok tt) (record beside { scorer = g.S.Scorer.state c.take.new.scorer }) refl
    c.in-Ok.ensures.asks (Ran-all (lines_run []) (Ok tt) _ _ (HasDone-none (record beside { scorer = g.S.Scorer.state c.take.new.scorer })) refl)

-- The sample of a query, by which its plan is chosen.
use Rattle.std.specs.Prelude.{List, [], Result, Ok, Err}
use Rattle.rs_expr.specs.InOrder.{Inquiry}
use Rattle.rs_expr.specs.Meaning.{value_of}
use Rattle.rs_expr.specs.Scoring.{Answering}
use Rattle.rs_catalog.specs.Catalog.{CatalogDef}
use Rattle.rs_query.specs.Answers.{predicate_at}
use Rattle.rs_query.specs.Questions.{Question}
use Rattle.rs_query.specs.Views.{all_rows}
use Rattle.rs_query.specs.declared.query.Query.{Query}
use Rattle.rs_sample.specs.Sampling.{asking_all, done, questions_of}
use Rattle.rs_sample.specs.declared.fault.SampleFault.{SampleFault}
use Rattle.rs_sample.specs.declared.fault.SampleFault.TheVariants as sample
use Rattle.rs_statement.specs.declared.sampling.Sampling.{Sampling}
use Rattle.rs_statement.specs.declared.sampling.Sampling.TheVariants.{ByGuesses, ByScores}
use Rattle.rs_statement.specs.declared.fault.Fault.{Fault}
use Rattle.rs_statement.specs.declared.fault.Fault.TheVariants.{Memory, Probe}
use Rattle.rs_statement.specs.Steps.{Step}
use Rattle.rs_events.specs.Sequence.{inquiry_step}

-- the fault of a run whose query has no sample
abbrev pub sample_fault : CatalogDef → SampleFault → Fault
sample_fault catalogue (sample.Probe predicate) = Probe (predicate_at catalogue predicate).name
sample_fault catalogue sample.Memory = Memory

-- a sample leaves the catalogue as it is
abbrev pub sample_outcome : CatalogDef → Result (Unit {0}) SampleFault → Result CatalogDef Fault
sample_outcome catalogue (Ok taken) = Ok catalogue
sample_outcome catalogue (Err fault) = Err (sample_fault catalogue fault)

-- the values of formulas, which guess what a scorer would answer
abbrev pub formulas : Answering
formulas predicate args = value_of predicate.formula args

-- what the scorer of a run is asked for a sample, whose rows are taken by the seed from its first word on. By guesses it is asked nothing
abbrev pub sample_questions : CatalogDef → Sampling → Query → List Question
sample_questions catalogue (ByScores seed) query = questions_of query (all_rows catalogue query) seed
sample_questions catalogue (ByGuesses seed) query = []

-- the calls of the sample of a query
abbrev pub sample_inquiry : CatalogDef → Sampling → Query → Inquiry (Unit {0}) SampleFault
sample_inquiry catalogue sampling query = asking_all catalogue (sample_questions catalogue sampling query) done

-- a sample: its calls, and nothing is put. Whatever numbers the scorer answers, the run goes on
abbrev pub sample_step : CatalogDef → Sampling → Query → Step CatalogDef
sample_step catalogue sampling query = inquiry_step (λ taken. []) (sample_outcome catalogue) (sample_inquiry catalogue sampling query)

use Rattle.std.proofs.Common.{map, take}
use Rattle.rs_query.specs.Answers.{worth_of}
use Rattle.rs_query.specs.declared.term.Term.{Term}
use Rattle.rs_sample.specs.Choosing.{sampled_choices}
use Rattle.rs_sample.specs.Sampling.{term_questions}
use Rattle.rs_sample.proofs.EachFacts.{EachAsked}
use Rattle.rs_sample.proofs.ask.ask_terms.Given as goal

-- the first terms were asked for
abbrev pub invariant-loop-place : goal.invariant-loop-place
invariant-loop-place g l =
    EachAsked l.catalog (term_questions l.number l.block l.samples) (λ answer (t : Term). map (λ rows. worth_of answer l.catalog l.block rows t) (sampled_choices t.entries l.samples))
    (take l.place l.block.terms) l.worths.items (g.S.Scorer.state l.fn.scorer) (g.S.Scorer.state l.scorer)

use Rattle.std.proofs.Common.{◌≡◌, ◌-◌, [], ◌∷◌, Some, take}
use Rattle.std.specs.Prelude.{slice_get}
use Rattle.rs_query.specs.Answers.{worth_of}
use Rattle.rs_query.specs.Questions.{question_of}
use Rattle.rs_query.specs.declared.term.Term.{Term}
use Rattle.rs_sample.proofs.EachFacts.{EachAsked}
use Rattle.rs_sample.proofs.ask.ask_choices.Given as goal

-- the first choices were asked for
abbrev pub invariant-loop-rows : goal.invariant-loop-rows
invariant-loop-rows g l =
    (t : Term) → slice_get l.block.terms (l.term - 1) ≡ Some t
    → EachAsked l.catalog (λ rows. question_of l.number l.block rows t ∷ []) (λ answer rows. worth_of answer l.catalog l.block rows t)
    (take l.rows-index l.choices) l.worths.items (g.S.Scorer.state l.fn.scorer) (g.S.Scorer.state l.scorer)

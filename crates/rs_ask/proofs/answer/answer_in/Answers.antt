use Rattle.std.proofs.Common.{◌∙◌, ◌∷◌, [], None, Some, ap, sym}
use Rattle.std.proofs.lemmas.Bool.Decides.{Decides-eqb}
use Rattle.std.proofs.lemmas.Slice.Eq.{strip_suffix_is}
use Rattle.rs_value.specs.Number.{int_value}
use Rattle.rs_ask.specs.Answers.{without_blanks, without_return}
use Rattle.rs_ask.proofs.AnswerFacts.{without_return-other, without_return-push}
use Rattle.rs_ask.proofs.answer.answer_in.Goals as goal

pub returns-in-Some : goal.returns-in-Some
returns-in-Some c =
    c.int_of.ensures.value
    ∙ ap int_value (c.without_blanks.ensures
    ∙ ap without_blanks (sym (ap without_return (strip_suffix_is Decides-eqb c.args.line.now (13 ∷ []) (Some c.in-Some.number) c.in-Some.ensures.cases) ∙ without_return-push c.in-Some.number.now 13)))

pub returns-in-None : goal.returns-in-None
returns-in-None c =
    c.int_of-in-None.ensures.value
    ∙ ap int_value (c.without_blanks-in-None.ensures
    ∙ ap without_blanks (sym (without_return-other c.args.line.now (strip_suffix_is Decides-eqb c.args.line.now (13 ∷ []) None c.in-None.ensures.cases))))

use Rattle.std.proofs.Common.{◌∙◌, ap, sym}
use Rattle.rs_ask.specs.Answers.{without_blanks}
use Rattle.rs_ask.proofs.AnswerFacts.{without_blanks-blank, without_blanks-other}
use Rattle.rs_ask.proofs.answer.+without_blanks.Goals as goal

pub returns-then-is_blank : goal.returns-then-is_blank
returns-then-is_blank n c =
    c.without_blanks.ensures
    ∙ sym (ap without_blanks c.in-Some.ensures.cases.0 ∙ without_blanks-blank c.in-Some.rest.now c.in-Some.last.now (sym c.is_blank.ensures ∙ c.if-is_blank.true))

pub returns-else-is_blank : goal.returns-else-is_blank
returns-else-is_blank n c =
    c.in-Some.ensures.cases.0
    ∙ sym (ap without_blanks c.in-Some.ensures.cases.0 ∙ without_blanks-other c.in-Some.rest.now c.in-Some.last.now (sym c.is_blank.ensures ∙ c.if-is_blank.false))

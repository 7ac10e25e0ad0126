use Rattle.std.proofs.Common.{get_or, sym, ap, ◌∙◌}
use Rattle.std.proofs.lemmas.Bool.{ne_eqb}
use Rattle.rs_lex.proofs.FrontFacts.{front_of-end, front_of-blank, front_of-comment, front_of-word, front_of-number, front_of-marked, behind, marked-quoted, marked-literal, marked-symbol}
use Rattle.rs_lex.specs.declared.token.Sort.TheVariants.{Word}
use Rattle.rs_lex.specs.declared.front.Front.TheVariants.{Gap, Found}
use Rattle.rs_lex.proofs.front.front_at.Goals as goal

pub returns-in_default : goal.returns-in_default
returns-in_default c = sym (front_of-end c.args.rest.now c.in_default.len_below)

pub returns-then-is_blank : goal.returns-then-is_blank
returns-then-is_blank c = ap (λ n. Gap n) c.blanks.ensures ∙ sym (front_of-blank c.args.rest.now c.in-len1-up.len_at_least (sym c.is_blank.ensures ∙ c.if-is_blank.true))

pub returns-then-begins_comment : goal.returns-then-begins_comment
returns-then-begins_comment c =
    ap (λ n. Gap n) c.line_length.ensures ∙ sym (front_of-comment c.args.rest.now c.in-len1-up.len_at_least (sym c.is_blank.ensures ∙ c.if-is_blank.false) (sym c.begins_comment.ensures ∙ c.if-begins_comment.true))

pub returns-then-is_letter : goal.returns-then-is_letter
returns-then-is_letter c =
    ap (λ n. Found Word n) c.word_length.ensures
    ∙ sym (front_of-word c.args.rest.now c.in-len1-up.len_at_least (sym c.is_blank.ensures ∙ c.if-is_blank.false) (sym c.begins_comment.ensures ∙ c.if-begins_comment.false) (sym c.is_letter.ensures ∙ c.if-is_letter.true))

pub returns-then-is_digit : goal.returns-then-is_digit
returns-then-is_digit c =
    c.number_front.ensures
    ∙ sym (front_of-number c.args.rest.now c.in-len1-up.len_at_least (sym c.is_blank.ensures ∙ c.if-is_blank.false) (sym c.begins_comment.ensures ∙ c.if-begins_comment.false)
    (sym c.is_letter.ensures ∙ c.if-is_letter.false) (sym c.is_digit.ensures ∙ c.if-is_digit.true))

pub returns-then-byte-eq34 : goal.returns-then-byte-eq34
returns-then-byte-eq34 c =
    c.quoted_front.ensures
    ∙ sym (front_of-marked c.args.rest.now c.in-len1-up.len_at_least (sym c.is_blank.ensures ∙ c.if-is_blank.false) (sym c.begins_comment.ensures ∙ c.if-begins_comment.false)
    (sym c.is_letter.ensures ∙ c.if-is_letter.false) (sym c.is_digit.ensures ∙ c.if-is_digit.false) ∙ marked-quoted (get_or c.args.rest.now 0 0) (behind c.args.rest.now) c.if-byte-eq34.true)

pub returns-then-byte-eq39 : goal.returns-then-byte-eq39
returns-then-byte-eq39 c =
    c.literal_front.ensures
    ∙ sym (front_of-marked c.args.rest.now c.in-len1-up.len_at_least (sym c.is_blank.ensures ∙ c.if-is_blank.false) (sym c.begins_comment.ensures ∙ c.if-begins_comment.false)
    (sym c.is_letter.ensures ∙ c.if-is_letter.false) (sym c.is_digit.ensures ∙ c.if-is_digit.false) ∙ marked-literal (get_or c.args.rest.now 0 0) (behind c.args.rest.now) c.if-byte-eq39.true)

pub returns-else-byte-eq39 : goal.returns-else-byte-eq39
returns-else-byte-eq39 c =
    c.symbol_front.ensures
    ∙ sym (front_of-marked c.args.rest.now c.in-len1-up.len_at_least (sym c.is_blank.ensures ∙ c.if-is_blank.false) (sym c.begins_comment.ensures ∙ c.if-begins_comment.false)
    (sym c.is_letter.ensures ∙ c.if-is_letter.false) (sym c.is_digit.ensures ∙ c.if-is_digit.false) ∙ marked-symbol (get_or c.args.rest.now 0 0) (behind c.args.rest.now) (ne_eqb _ _ c.if-byte-eq34.false) (ne_eqb _ _ c.if-byte-eq39.false))

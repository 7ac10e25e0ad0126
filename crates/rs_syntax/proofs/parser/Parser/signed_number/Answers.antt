use Rattle.std.proofs.Common.{◌∙◌, rules, refl}
use Rattle.rs_syntax.proofs.Blocks.{signed_number-negative, signed_number-positive, span_of-read}
use Rattle.rs_syntax.proofs.Steps.{read-both, found, halts-first, halts-then, goes_on}
use Rattle.rs_syntax.proofs.parser.Parser.signed_number.Goals as goal

pub returns-in_err-is_negative : goal.returns-in_err-is_negative
returns-in_err-is_negative c = goes_on _ _ (search rules) (halts-first c.in_err-is_negative.ensures)

pub returns-in_err-number : goal.returns-in_err-number
returns-in_err-number c = goes_on _ _ (search rules) (halts-then c.in_ok-is_negative.ensures.read c.in_err-number.ensures.reads)

pub returns-then-is_negative : goal.returns-then-is_negative
returns-then-is_negative c =
    let r = read-both c.in_ok-is_negative.ensures.read c.in_ok-number.ensures.reads.read in
    let at = span_of-read r refl c.start-from.result c.since-at.result c.start-from.ensures c.since-at.ensures in
    found r (signed_number-negative _ _ _ _ _ (c.in_ok-is_negative.ensures.means ∙ c.if-is_negative.true) c.in_ok-number.ensures.reads.means c.in_ok-number.ensures.in_range at)

pub returns-else-is_negative : goal.returns-else-is_negative
returns-else-is_negative c =
    let r = read-both c.in_ok-is_negative.ensures.read c.in_ok-number.ensures.reads.read in
    let at = span_of-read r refl c.start-from.result c.since-at.result c.start-from.ensures c.since-at.ensures in
    found r (signed_number-positive _ _ _ _ _ (c.in_ok-is_negative.ensures.means ∙ c.if-is_negative.false) c.in_ok-number.ensures.reads.means c.in_ok-number.ensures.in_range at)

use Rattle.std.proofs.Common.{◌≡◌, ◌∙◌, ◌+◌, ◌++◌, ◌∷◌, [], take, get_or, sym, ap, subst}
use Rattle.std.specs.String.{string_bytes}
use Rattle.std.specs.Fmt.{decimal}
use Rattle.rs_statement.proofs.LineFacts.{IsSpaced, IsSpaced-some}
use Rattle.rs_statement.proofs.fault.spaced_rows.Goals as goal

pub loop-row-preserved : goal.loop-row-preserved
loop-row-preserved c =
    let i = c.loop-row.row-index in
    let rows = c.args.rows.now in
    let text : string_bytes c.push_str-in-loop-row.new.self ≡ (string_bytes c.loop-row.text ++ c.loop-row.space.now) ++ decimal (get_or rows i 0) =
    c.in_ok-push_str-2.ensures.bytes ∙ ap (λ more. string_bytes c.push_str.new.self ++ more) (c.as_str.ensures.value ∙ c.in_ok-to_string.ensures.ok)
    ∙ ap (λ text. text ++ decimal (get_or rows i 0)) c.in_ok-push_str.ensures.bytes in
    subst (λ text. IsSpaced (take (i + 1) rows) text (32 ∷ [])) (sym text)
    (IsSpaced-some i rows (string_bytes c.loop-row.text) c.loop-row.space.now c.loop-row-test.true c.if-row-eq0.false c.loop-row.invariant)

use Rattle.std.proofs.Common.{◌≡◌, length, drop, inl, arith, rules, zero-add}
use Rattle.std.specs.Prelude.{Err}
use Rattle.rs_lex.specs.Spelling.{Spells, RefusesBytes}
use Rattle.rs_lex.proofs.SpellingFacts.{Spells-unique, RefusesBytes-unique, Spells-not_refused, TokensInOrder-spelled}
use Rattle.rs_lex.proofs.lexer.tokens.Goals as goal

pub returns-in_err-token-clause-only : goal.returns-in_err-token-clause-only
returns-in_err-token-clause-only c =
    let behind : RefusesBytes (length c.loop-made.made.items) c.loop-made.at (drop c.loop-made.at c.bytes-bytes.result.now) c.in_err-token.field-0.0 = search rules in
    let refused : RefusesBytes 0 0 c.args.script.now c.in_err-token.field-0.0 = rw (← c.bytes-bytes.ensures.value) (c.loop-made.invariant.refused c.in_err-token.field-0.0 behind) in
    λ tokens h few. absurd (Spells-not_refused 0 0 c.args.script.now tokens c.in_err-token.field-0.0 (omega arith) h refused)

pub returns-in_err-token-clause-exact : goal.returns-in_err-token-clause-exact
returns-in_err-token-clause-exact c =
    let behind : RefusesBytes (length c.loop-made.made.items) c.loop-made.at (drop c.loop-made.at c.bytes-bytes.result.now) c.in_err-token.field-0.0 = search rules in
    let refused : RefusesBytes 0 0 c.args.script.now c.in_err-token.field-0.0 = rw (← c.bytes-bytes.ensures.value) (c.loop-made.invariant.refused c.in_err-token.field-0.0 behind) in
    λ fault h. let same : c.in_err-token.field-0.0 ≡ fault = RefusesBytes-unique 0 0 c.args.script.now c.in_err-token.field-0.0 fault refused h in
    let is : c.from_residual.result ≡ Err c.in_err-token.field-0.0 = search rules in
    rw (← same) (inl is)

pub returns-clause-ordered : goal.returns-clause-ordered
returns-clause-ordered c =
    let spelled : Spells 0 c.args.script.now c.loop-made.made.items = search rules in
    rw zero-add at (TokensInOrder-spelled 0 c.args.script.now c.loop-made.made.items spelled)

pub returns-clause-only : goal.returns-clause-only
returns-clause-only c =
    let spelled : Spells 0 c.args.script.now c.loop-made.made.items = search rules in
    λ tokens h few. Spells-unique 0 c.args.script.now c.loop-made.made.items tokens spelled h

pub returns-clause-exact : goal.returns-clause-exact
returns-clause-exact c =
    let spelled : Spells 0 c.args.script.now c.loop-made.made.items = search rules in
    λ fault h. absurd (Spells-not_refused 0 0 c.args.script.now c.loop-made.made.items fault (omega arith) spelled h)

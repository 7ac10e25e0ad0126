use Rattle.std.proofs.Common.{◌≡◌, ◌∙◌, ◌+◌, ◌≤◌, arith, rules, length, drop, ap, sym, Some, Ok, Err}
use Rattle.rs_lex.specs.Front.{front_of}
use Rattle.rs_lex.specs.Spelling.{token_or_fault}
use Rattle.rs_lex.specs.declared.front.Front.TheVariants.{Gap}
use Rattle.rs_lex.proofs.SpellingFacts.{rest_of, front_of-gap, reach-within, Reaches-gap, Spells-end, IsNext-token, IsMore-other, RefusesBytes-fault}
use Rattle.rs_lex.proofs.lexer.next_token.Goals as goal

pub returns-in-End-clause-next : goal.returns-in-End-clause-next
returns-in-End-clause-next c =
    Spells-end c.args.count c.args.at c.loop-n.at c.args.bytes.now (c.in-End.ensures ∙ ap front_of (rest_of c.loop-n.at c.args.bytes.now))
    (record { spelled = c.loop-n.invariant.spelled; refused = c.loop-n.invariant.refused })

pub overflow_add-at : goal.overflow_add-at
overflow_add-at c =
    let is : Gap c.in-Gap.n ≡ front_of (drop c.loop-n.at c.args.bytes.now) = c.in-Gap.ensures ∙ ap front_of (rest_of c.loop-n.at c.args.bytes.now) in
    let within : c.loop-n.at + c.in-Gap.n ≤ length c.args.bytes.now = reach-within c.loop-n.at c.args.bytes.now (Gap c.in-Gap.n) c.loop-n.invariant.within is in
    omega arith

pub loop-n-smaller : goal.loop-n-smaller
loop-n-smaller c =
    let is : Gap c.in-Gap.n ≡ front_of (drop c.loop-n.at c.args.bytes.now) = c.in-Gap.ensures ∙ ap front_of (rest_of c.loop-n.at c.args.bytes.now) in
    let within : c.loop-n.at + c.in-Gap.n ≤ length c.args.bytes.now = reach-within c.loop-n.at c.args.bytes.now (Gap c.in-Gap.n) c.loop-n.invariant.within is in
    omega (arith, (front_of-gap (drop c.loop-n.at c.args.bytes.now) c.in-Gap.n (sym is)).0)

pub loop-n-preserved : goal.loop-n-preserved
loop-n-preserved c =
    let is : Gap c.in-Gap.n ≡ front_of (drop c.loop-n.at c.args.bytes.now) = c.in-Gap.ensures ∙ ap front_of (rest_of c.loop-n.at c.args.bytes.now) in
    let further = Reaches-gap c.args.count c.args.at c.loop-n.at c.in-Gap.n c.args.bytes.now is
    (record { spelled = c.loop-n.invariant.spelled; refused = c.loop-n.invariant.refused }) in
    record {
      within = reach-within c.loop-n.at c.args.bytes.now (Gap c.in-Gap.n) c.loop-n.invariant.within is;
      from = omega arith;
      spelled = further.spelled;
      refused = further.refused;
    }

pub token_of-requires : goal.token_of-requires
token_of-requires c =
    let is : c.front_at.result ≡ front_of (drop c.loop-n.at c.args.bytes.now) = c.front_at.ensures ∙ ap front_of (rest_of c.loop-n.at c.args.bytes.now) in
    let within = reach-within c.loop-n.at c.args.bytes.now c.front_at.result c.loop-n.invariant.within is in
    record { more = IsMore-other c.front_at.result c.in_default.not-End c.in_default.not-Gap; within = omega (arith, within) }

pub returns-in_err-token_of-in_default-clause-refused : goal.returns-in_err-token_of-in_default-clause-refused
returns-in_err-token_of-in_default-clause-refused c =
    let is : c.front_at.result ≡ front_of (drop c.loop-n.at c.args.bytes.now) = c.front_at.ensures ∙ ap front_of (rest_of c.loop-n.at c.args.bytes.now) in
    let gives : Some (Err c.in_err-token_of-in_default.field-0.0) ≡ token_or_fault c.args.count c.loop-n.at c.front_at.result = c.in_err-token_of-in_default.ensures in
    let refused = RefusesBytes-fault c.args.count c.args.at c.loop-n.at c.args.bytes.now c.front_at.result c.in_err-token_of-in_default.field-0.0
    c.requires.few is gives (record { spelled = c.loop-n.invariant.spelled; refused = c.loop-n.invariant.refused }) in
    search (rules, refused)

pub returns-in_default : goal.returns-in_default
returns-in_default c =
    let is : c.front_at.result ≡ front_of (drop c.loop-n.at c.args.bytes.now) = c.front_at.ensures ∙ ap front_of (rest_of c.loop-n.at c.args.bytes.now) in
    let gives : Some (Ok c.in_ok-token_of-in_default.field-0) ≡ token_or_fault c.args.count c.loop-n.at c.front_at.result = c.in_ok-token_of-in_default.ensures in
    record {
      next = IsNext-token c.args.count c.args.at c.loop-n.at c.args.bytes.now c.front_at.result c.in_ok-token_of-in_default.field-0
          c.loop-n.invariant.from c.loop-n.invariant.within is gives (record { spelled = c.loop-n.invariant.spelled; refused = c.loop-n.invariant.refused });
      refused = tt;
    }

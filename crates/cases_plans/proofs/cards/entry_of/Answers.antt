use Rattle.std.proofs.Common.{◌≡◌, ◌∙◌, ◌-◌, ◌<◌, ◌≤◌, Some, get_or, length, ap, subst, arith}
use Rattle.rs_rank.specs.Masks.{mask_of}
use Rattle.rs_query.specs.declared.term.Term.{Term}
use Rattle.cases_plans.proofs.ReadFacts.{read-at}
use Rattle.cases_plans.proofs.cards.entry_of.Goals as goal

pub returns : goal.returns
returns c =
    let terms = c.args.block.now.terms in
    let term : Term = c.index.result.now in
    let long = c.len.ensures in
    let inside = c.if-entry-len.false in
    let least = c.requires.least in
    let most = c.requires.most in
    let within : c.args.term - 1 < length terms = omega arith in
    let is : term ≡ get_or terms (c.args.term - 1) term = subst (λ ts. term ≡ get_or ts (c.args.term - 1) term) c.items.ensures c.index.ensures in
    let some : 1 ≤ c.in_ok-entry.entry = c.in_ok-entry.ensures.0 in
    let alone : term.entries ≡ mask_of c.in_ok-entry.entry = c.in_ok-entry.ensures.1 in
    (some, omega arith, read-at terms (c.args.term - 1) term within is ∙ ap Some alone)

use Rattle.std.proofs.Common.{◌≡◌, ◌∙◌, ◌^◌, ◌<◌, ◌≤◌, [], get_or, length, sym, ap, subst, arith}
use Rattle.rs_order.proofs.EachFacts.{each-get_or}
use Rattle.rs_sample.specs.Quotients.{most_expected}
use Rattle.rs_sample.proofs.ListFacts.{get_or-any}
use Rattle.rs_sample.proofs.estimates.Estimates.est.Goals as goal

pub returns-clause-limit : goal.returns-clause-limit
returns-clause-limit c =
    let e = c.args.self.now in
    let rows = e.grid in
    let within : c.args.entries < length e.numbers.items = (let less = c.requires.entries in omega arith) in
    let row = c.items.ensures ∙ c.index.ensures ∙ get_or-any e.numbers.items c.args.entries c.index.result.now [] within in
    let long = each-get_or (λ r. length r ≡ 2 ^ length e.reads.items) e.numbers.items c.args.entries [] e.rows within in
    let same = ap length row in
    let in_row : c.args.terms < length c.items.result.now.items = (let less = c.requires.terms in omega arith) in
    subst (λ n. n ≤ most_expected c.args.entries)
    (sym (c.index-2.ensures ∙ get_or-any c.items.result.now.items c.args.terms c.index-2.result.now 0 in_row ∙ ap (λ r. get_or r c.args.terms 0) row))
    (e.limits c.args.entries c.args.terms)

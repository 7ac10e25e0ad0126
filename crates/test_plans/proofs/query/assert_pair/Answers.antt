use Rattle.std.proofs.Common.{◌≡◌, ◌∙◌, true, rules, sym}
use Rattle.test_plans.proofs.PairFacts.{IsBlock-pair}
use Rattle.test_plans.proofs.query.assert_pair.Goals as goal

pub returns : goal.returns
returns g c =
    let left : c.is_number.result ≡ true = search rules in
    let right : c.is_number-2.result ≡ true = search rules in
    IsBlock-pair c.args.catalog.now c.args.block.now c.requires.tables c.requires.predicate c.requires.pair
    (sym c.is_number.ensures ∙ left) (sym c.is_number-2.ensures ∙ right)

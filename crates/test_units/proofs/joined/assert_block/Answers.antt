use Rattle.std.proofs.Common.{◌≡◌, ◌∙◌, true, rules, sym}
use Rattle.test_units.proofs.JoinedFacts.{IsBlock-join}
use Rattle.test_units.proofs.joined.assert_block.Goals as goal

pub returns : goal.returns
returns g c =
    let left : c.is_number.result ≡ true = search rules in
    let right : c.is_number-2.result ≡ true = search rules in
    IsBlock-join c.args.catalog.now c.args.block.now c.requires.tables c.requires.predicate c.requires.join
    (sym c.is_number.ensures ∙ left) (sym c.is_number-2.ensures ∙ right)

-- The chain looks at each argument, of which constants are passed over.
use Rattle.std.proofs.Common.{◌≡◌, ◌∙◌, rules, tests}
use Rattle.std.specs.List.{list_all}
use Rattle.std.proofs.lemmas.Iterator.{YieldsList-from_slice}
use Rattle.std.proofs.lemmas.Iterator.Search.{all_from_yields_List}
use Rattle.rs_bind.specs.Terms.{is_output}
use Rattle.rs_bind.proofs.ArgFacts.{list_all-is_output}
use Rattle.rs_bind.proofs.terms.all_outputs.Goals as goal

pub returns : goal.returns
returns c =
    let each : c.all.result ≡ list_all (is_output c.args.items.now) c.args.args.now =
    all_from_yields_List (is_output c.args.items.now) c.all.new.self _ c.all.result c.all.ensures.ran (YieldsList-from_slice c.args.args.now cc) (λ x b q k. search (rules, tests)) in
    each ∙ list_all-is_output c.args.items.now c.args.args.now

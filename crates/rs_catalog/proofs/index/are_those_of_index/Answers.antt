-- The chain compares pair by pair where there are as many arguments.
use Rattle.std.proofs.Common.{◌≡◌, ◌∙◌, sym, rules, tests}
use Rattle.std.specs.List.{list_all, zip}
use Rattle.std.proofs.lemmas.Bool.{ne_eqb}
use Rattle.std.proofs.lemmas.Iterator.{YieldsList-from_slice, YieldsList-from_zip}
use Rattle.std.proofs.lemmas.Iterator.Search.{all_from_yields_List}
use Rattle.rs_catalog.specs.Indexes.{same_arg}
use Rattle.rs_catalog.proofs.SameArguments.{same_args-pairs, same_args-lengths}
use Rattle.rs_catalog.proofs.index.are_those_of_index.Goals as goal

pub returns-then-args-others : goal.returns-then-args-others
returns-then-args-others c =
    let pairs : c.all.result ≡ list_all (λ pair. same_arg c.args.entry pair.0 pair.1) (zip c.args.args.now c.args.others.now) =
    all_from_yields_List (λ pair. same_arg c.args.entry pair.0 pair.1) c.all.new.self _ c.all.result c.all.ensures.ran (YieldsList-from_zip (YieldsList-from_slice c.args.args.now cc) (YieldsList-from_slice c.args.others.now cc)) (λ x b q k. search (rules, tests)) in
    pairs ∙ same_args-pairs c.args.entry c.args.args.now c.args.others.now c.if-args-others.true

pub returns-else-args-others : goal.returns-else-args-others
returns-else-args-others c = ne_eqb _ _ c.if-args-others.false ∙ sym (same_args-lengths c.args.entry c.args.args.now c.args.others.now c.if-args-others.false)

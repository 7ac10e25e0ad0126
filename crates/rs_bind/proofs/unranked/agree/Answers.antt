-- The chain compares pair by pair where there are as many output columns.
use Rattle.std.proofs.Common.{◌≡◌, ◌∙◌, sym, rules, tests}
use Rattle.std.specs.Prelude.{Some}
use Rattle.std.specs.List.{list_all, zip}
use Rattle.std.proofs.lemmas.Bool.{ne_eqb}
use Rattle.std.proofs.lemmas.Iterator.{YieldsList-from_slice, YieldsList-from_zip}
use Rattle.std.proofs.lemmas.Iterator.Search.{all_from_yields_List}
use Rattle.rs_expr.specs.Uses.{is_kind}
use Rattle.rs_bind.proofs.UnrankedFacts.{agree-pairs, agree-lengths}
use Rattle.rs_bind.proofs.unranked.agree.Goals as goal

pub returns-then-left-right : goal.returns-then-left-right
returns-then-left-right c =
    let pairs : c.all.result ≡ list_all (λ pair. is_kind pair.0.1 (Some pair.1.1)) (zip c.args.left.now c.args.right.now) =
    all_from_yields_List (λ pair. is_kind pair.0.1 (Some pair.1.1)) c.all.new.self _ c.all.result c.all.ensures.ran (YieldsList-from_zip (YieldsList-from_slice c.args.left.now cc) (YieldsList-from_slice c.args.right.now cc)) (λ x b q k. search (rules, tests)) in
    pairs ∙ agree-pairs c.args.left.now c.args.right.now c.if-left-right.true

pub returns-else-left-right : goal.returns-else-left-right
returns-else-left-right c = ne_eqb _ _ c.if-left-right.false ∙ sym (agree-lengths c.args.left.now c.args.right.now c.if-left-right.false)

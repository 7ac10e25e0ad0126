use Rattle.std.proofs.Common.{◌≡◌, ◌≤◌, ◌∙◌, true, length, List, subst}
use Rattle.std.specs.List.{AllByRecursion}
use Rattle.rs_bind.specs.Queries.{agree, output_names}
use Rattle.rs_bind.specs.Sources.{Found}
use Rattle.rs_bind.specs.Terms.{IsEntryItem}
use Rattle.rs_bind.proofs.UnrankedFacts.{items-entries, output_names-few}
use Rattle.rs_bind.proofs.query.bind_set.Goals as goal

pub output_terms-requires-2-clause-named : goal.output_terms-requires-2-clause-named
output_terms-requires-2-clause-named c =
    let left : List Found = c.in_ok-left.left.items in
    let right : List Found = c.in-Ok.right.items in
    let agrees : agree left right ≡ true = cc in
    let names : c.deref-6.result.now ≡ output_names c.args.catalog.now c.in_ok-left.left = c.deref-6.ensures.value ∙ c.in-Ok-names_of.ensures in
    let items : right ≡ c.deref-7.result.now = cc in
    subst (λ (xs : List Found). length c.deref-6.result.now ≤ length xs) items
    (output_names-few c.args.catalog.now c.in_ok-left.left c.deref-6.result.now right names agrees)

pub output_terms-requires-2-clause-few : goal.output_terms-requires-2-clause-few
output_terms-requires-2-clause-few c =
    let right : List Found = c.in-Ok.right.items in
    let items : right ≡ c.deref-7.result.now = cc in
    subst (AllByRecursion IsEntryItem) items
    (items-entries c.args.catalog.now c.in-Ok.right.from right c.in-Ok.ensures.few c.in-Ok.ensures.items)

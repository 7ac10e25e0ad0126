use Rattle.std.proofs.Common.{ℕ, ◌≡◌, ◌∙◌, List, subst}
use Rattle.std.specs.List.{AllByRecursion}
use Rattle.rs_bind.specs.Sources.{sources_of}
use Rattle.rs_bind.specs.Terms.{IsItemOf}
use Rattle.rs_bind.proofs.UnrankedFacts.{items-given}
use Rattle.rs_bind.proofs.unranked.bind_unranked.Goals as goal

pub returns-clause-items : goal.returns-clause-items
returns-clause-items c =
    let catalogue = c.args.catalog.now in
    let same : c.deref-2.result.now ≡ c.in_ok-from.from = c.deref-2.ensures.value ∙ c.items-2.ensures in
    subst (λ (from : List (ℕ × List ℕ)). AllByRecursion (IsItemOf (sources_of catalogue from)) c.in_ok-items.items) same
    (items-given (sources_of catalogue c.deref-2.result.now) c.args.block.now.items c.in_ok-items.items c.in_ok-items.ensures)

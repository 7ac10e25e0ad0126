use Rattle.std.proofs.Common.{◌<◌, ◌∙◌, arith, get_or, length, subst, sym}
use Rattle.std.specs.List.{AllByRecursion}
use Rattle.std.proofs.lemmas.List.{get_or_default}
use Rattle.rs_value.specs.declared.kind.Kind.TheVariants as kind
use Rattle.rs_bind.specs.Sources.{Found, sources_of}
use Rattle.rs_bind.specs.Terms.{IsItemOf}
use Rattle.rs_bind.proofs.ArgFacts.{AllByRecursion-at}
use Rattle.rs_bind.proofs.unranked.names_of.Goals as goal

pub name_of-requires-clause-column : goal.name_of-requires-clause-column
name_of-requires-clause-column c =
    let sources = sources_of c.args.catalog.now c.args.block.now.from in
    let items = c.deref-item-items.result.now in
    let i = c.loop-item.item-index in
    let within : i < length items = omega arith in
    let item : Found = get_or items i ((0, 0), kind.Int) in
    AllByRecursion-at (IsItemOf sources) items i item
    (subst (AllByRecursion (IsItemOf sources)) (sym (c.deref-item-items.ensures.value ∙ c.items.ensures)) c.requires.items) within
    (get_or_default items i ((0, 0), kind.Int) item within)

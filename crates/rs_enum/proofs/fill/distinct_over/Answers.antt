-- What was found of all entries, with as many rows as are expected of them.
use Rattle.std.proofs.Common.{◌∙◌, ◌+◌, ◌^◌, ◌≤◌, sym, ap, subst, arith, length}
use Rattle.std.specs.Prelude.{Some}
use Rattle.rs_query.specs.Tables.{all_entries}
use Rattle.rs_query.specs.declared.block.Block.{Block}
use Rattle.rs_sample.specs.Kept.{cards_of}
use Rattle.rs_enum.specs.declared.candidate.Choice.TheVariants as choice
use Rattle.rs_enum.specs.declared.extent.Extent.TheVariants as whole
use Rattle.rs_enum.specs.Given.{block_at, kept_of}
use Rattle.rs_enum.specs.Places.{Placed}
use Rattle.rs_enum.specs.Tops.{base_top, distinct_base}
use Rattle.rs_enum.proofs.BoundFacts.{most-fits}
use Rattle.rs_enum.proofs.CostFacts.{all-small, block-formed}
use Rattle.std.proofs.lemmas.Option.{none-some}
use Rattle.rs_enum.proofs.FoundFacts.{cost-found}
use Rattle.rs_enum.proofs.LowerFacts.{dropped-base}
use Rattle.rs_enum.proofs.MadeFacts.{found_cost, mapped, unmapped}
use Rattle.rs_enum.proofs.WholeFacts.{whole-small}
use Rattle.rs_enum.proofs.fill.distinct_over.Goals as goal

pub returns-in_err-below-clause-value : goal.returns-in_err-below-clause-value
returns-in_err-below-clause-value c =
    let none = unmapped (λ (kept : Placed). kept.cost)
    (kept_of c.args.planning.now c.args.number c.args.places.now (all_entries (block_at c.args.planning.now c.args.number)) c.args.evaluated)
    (cost-found c.args.planning.now c.args.number c.args.places.now c.all_entries.result (all_entries (block_at c.args.planning.now c.args.number)) c.len.result c.args.evaluated
    c.candidate_at.result (c.all_entries.ensures ∙ ap all_entries c.block_in-block.ensures)
    (c.len.ensures ∙ ap (λ (b : Block). length b.terms) c.block_in-block.ensures) c.candidate_at.ensures ∙ ap found_cost c.in_err-below.was) in
    c.from_residual.ensures ∙ sym (ap (λ o. base_top (distinct_base c.args.planning.now.query.now (cards_of c.args.planning.now.cards.now) c.args.number c.args.evaluated o)) none)

pub overflow_add-cost : goal.overflow_add-cost
overflow_add-cost c =
    let block = block_at c.args.planning.now c.args.number in
    let formed = block-formed c.args.planning.now.catalog.now c.args.planning.now.query.now c.args.number c.requires.planning.query in
    let small = whole-small c.args.planning.now.catalog.now c.args.planning.now.query.now c.requires.planning.query (whole.Block c.args.number) c.args.evaluated c.requires.evaluated in
    let most = most-fits (all_entries block) c.args.evaluated (all-small block formed.most_entries) small in
    let k = mapped (λ (kept : Placed). kept.cost)
    (kept_of c.args.planning.now c.args.number c.args.places.now (all_entries (block_at c.args.planning.now c.args.number)) c.args.evaluated) c.in_ok-below.below.cost
    (cost-found c.args.planning.now c.args.number c.args.places.now c.all_entries.result (all_entries (block_at c.args.planning.now c.args.number)) c.len.result c.args.evaluated
    c.candidate_at.result (c.all_entries.ensures ∙ ap all_entries c.block_in-block.ensures)
    (c.len.ensures ∙ ap (λ (b : Block). length b.terms) c.block_in-block.ensures) c.candidate_at.ensures ∙ ap found_cost c.in_ok-below.was) in
    let fits = (c.requires.lower.kept c.args.evaluated k.0 c.requires.evaluated k.1).fits in
    let same = k.2 in
    let rows = c.rows_of_all-rows.ensures.most in
    omega arith

pub returns-clause-value : goal.returns-clause-value
returns-clause-value c =
    let k = mapped (λ (kept : Placed). kept.cost)
    (kept_of c.args.planning.now c.args.number c.args.places.now (all_entries (block_at c.args.planning.now c.args.number)) c.args.evaluated) c.in_ok-below.below.cost
    (cost-found c.args.planning.now c.args.number c.args.places.now c.all_entries.result (all_entries (block_at c.args.planning.now c.args.number)) c.len.result c.args.evaluated
    c.candidate_at.result (c.all_entries.ensures ∙ ap all_entries c.block_in-block.ensures)
    (c.len.ensures ∙ ap (λ (b : Block). length b.terms) c.block_in-block.ensures) c.candidate_at.ensures ∙ ap found_cost c.in_ok-below.was) in
    (λ i. Some (record { cost = sym k.2 i + c.rows_of_all-rows.ensures.value i; choice = choice.Base }))
    ∙ sym (ap (λ o. base_top (distinct_base c.args.planning.now.query.now (cards_of c.args.planning.now.cards.now) c.args.number c.args.evaluated o)) k.1)

pub returns-in_err-below-clause-base : goal.returns-in_err-below-clause-base
returns-in_err-below-clause-base c =
    let none = unmapped (λ (kept : Placed). kept.cost)
    (kept_of c.args.planning.now c.args.number c.args.places.now (all_entries (block_at c.args.planning.now c.args.number)) c.args.evaluated)
    (cost-found c.args.planning.now c.args.number c.args.places.now c.all_entries.result (all_entries (block_at c.args.planning.now c.args.number)) c.len.result c.args.evaluated
    c.candidate_at.result (c.all_entries.ensures ∙ ap all_entries c.block_in-block.ensures)
    (c.len.ensures ∙ ap (λ (b : Block). length b.terms) c.block_in-block.ensures) c.candidate_at.ensures ∙ ap found_cost c.in_err-below.was) in
    dropped-base c.args.planning.now.catalog.now c.args.planning.now.query.now c.requires.planning.query (cards_of c.args.planning.now.cards.now) c.args.number
    (2 ^ length (block_at c.args.planning.now c.args.number).terms)
    (kept_of c.args.planning.now c.args.number c.args.places.now (all_entries (block_at c.args.planning.now c.args.number))) c.requires.lower c.requires.wanted
    c.args.evaluated c.requires.evaluated (λ k at. absurd (none-some k (sym none ∙ at)))

pub returns-clause-base : goal.returns-clause-base
returns-clause-base c =
    dropped-base c.args.planning.now.catalog.now c.args.planning.now.query.now c.requires.planning.query (cards_of c.args.planning.now.cards.now) c.args.number
    (2 ^ length (block_at c.args.planning.now c.args.number).terms)
    (kept_of c.args.planning.now c.args.number c.args.places.now (all_entries (block_at c.args.planning.now c.args.number))) c.requires.lower c.requires.wanted
    c.args.evaluated c.requires.evaluated (λ k at. subst (λ n. n ≤ 2 ^ 102) c.rows_of_all-rows.ensures.value c.rows_of_all-rows.ensures.most)

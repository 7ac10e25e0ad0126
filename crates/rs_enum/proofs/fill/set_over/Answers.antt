-- The set operator of what was found of both blocks.
use Rattle.std.proofs.Common.{◌≡◌, ◌∙◌, ◌+◌, ◌^◌, ◌<◌, ◌≤◌, sym, ap, subst, arith, length}
use Rattle.std.specs.Prelude.{Some}
use Rattle.std.proofs.lemmas.Option.{none-some}
use Rattle.rs_query.specs.Tables.{all_entries}
use Rattle.rs_query.specs.declared.block.Block.{Block}
use Rattle.rs_sample.specs.Kept.{cards_of}
use Rattle.rs_enum.specs.declared.candidate.Choice.TheVariants as choice
use Rattle.rs_enum.specs.declared.extent.Extent.TheVariants as whole
use Rattle.rs_enum.specs.Given.{AreTopsOf, block_at, complete_of}
use Rattle.rs_enum.specs.Places.{Placed}
use Rattle.rs_enum.specs.Tops.{base_top, set_base, whole_rows}
use Rattle.rs_enum.proofs.BoundFacts.{most-fits}
use Rattle.rs_enum.proofs.CostFacts.{all-small, block-formed}
use Rattle.rs_enum.proofs.FoundFacts.{complete-cost}
use Rattle.rs_enum.proofs.MadeFacts.{found_cost, mapped, unmapped}
use Rattle.rs_enum.proofs.SidesFacts.{sides-base}
use Rattle.rs_enum.proofs.WholeFacts.{extent-numbered, right-terms-below, whole-small}
use Rattle.rs_enum.proofs.fill.set_over.Goals as goal

pub complete_at-requires-clause-some : goal.complete_at-requires-clause-some
complete_at-requires-clause-some c =
    subst (λ (b : Block). 1 ≤ length b.from) (sym c.block_in.ensures)
    (block-formed c.args.planning.now.catalog.now c.args.planning.now.query.now 1 c.requires.planning.query).some_entries

pub complete_at-requires-clause-few : goal.complete_at-requires-clause-few
complete_at-requires-clause-few c =
    subst (λ (b : Block). length b.from ≤ 6) (sym c.block_in.ensures)
    (block-formed c.args.planning.now.catalog.now c.args.planning.now.query.now 1 c.requires.planning.query).most_entries

pub complete_at-requires-clause-terms : goal.complete_at-requires-clause-terms
complete_at-requires-clause-terms c =
    subst (λ (b : Block). length b.terms ≤ 8) (sym c.block_in.ensures)
    (block-formed c.args.planning.now.catalog.now c.args.planning.now.query.now 1 c.requires.planning.query).most_terms

pub complete_at-requires-2-clause-some : goal.complete_at-requires-2-clause-some
complete_at-requires-2-clause-some c =
    subst (λ (b : Block). 1 ≤ length b.from) (sym c.block_in-2.ensures)
    (block-formed c.args.planning.now.catalog.now c.args.planning.now.query.now 2 c.requires.planning.query).some_entries

pub complete_at-requires-2-clause-few : goal.complete_at-requires-2-clause-few
complete_at-requires-2-clause-few c =
    subst (λ (b : Block). length b.from ≤ 6) (sym c.block_in-2.ensures)
    (block-formed c.args.planning.now.catalog.now c.args.planning.now.query.now 2 c.requires.planning.query).most_entries

pub complete_at-requires-2-clause-terms : goal.complete_at-requires-2-clause-terms
complete_at-requires-2-clause-terms c =
    subst (λ (b : Block). length b.terms ≤ 8) (sym c.block_in-2.ensures)
    (block-formed c.args.planning.now.catalog.now c.args.planning.now.query.now 2 c.requires.planning.query).most_terms

pub returns-in_err-first-clause-value : goal.returns-in_err-first-clause-value
returns-in_err-first-clause-value c =
    let none = unmapped (λ (k : Placed). k.cost) (complete_of c.args.planning.now 1 c.args.left.now c.args.evaluated)
    (complete-cost c.args.planning.now 1 c.args.left.now c.args.evaluated c.block_in.result.now c.complete_at.result c.block_in.ensures c.complete_at.ensures ∙ ap found_cost c.in_err-first.was) in
    c.from_residual.ensures
    ∙ sym (ap (λ o. base_top (set_base c.args.planning.now.query.now (cards_of c.args.planning.now.cards.now) c.args.evaluated o
    (complete_of c.args.planning.now 2 c.args.right.now c.args.evaluated))) none)

pub returns-in_err-first-clause-base : goal.returns-in_err-first-clause-base
returns-in_err-first-clause-base c =
    let none = unmapped (λ (k : Placed). k.cost) (complete_of c.args.planning.now 1 c.args.left.now c.args.evaluated)
    (complete-cost c.args.planning.now 1 c.args.left.now c.args.evaluated c.block_in.result.now c.complete_at.result c.block_in.ensures c.complete_at.ensures ∙ ap found_cost c.in_err-first.was) in
    sides-base c.args.planning.now.catalog.now c.args.planning.now.query.now c.requires.planning.query (cards_of c.args.planning.now.cards.now) c.requires.both
    (2 ^ length (block_at c.args.planning.now 1).terms)
    (complete_of c.args.planning.now 1 c.args.left.now) (complete_of c.args.planning.now 2 c.args.right.now) c.requires.left.tops
    (subst (λ n. AreTopsOf c.args.planning.now (whole.Block 2) (2 ^ n) (complete_of c.args.planning.now 2 c.args.right.now))
    (sym (right-terms-below c.args.planning.now.catalog.now c.args.planning.now.query.now (cards_of c.args.planning.now.cards.now) c.requires.planning.query c.requires.both))
    c.requires.right.tops)
    c.args.evaluated c.requires.evaluated (λ k m at other. absurd (none-some k (sym none ∙ at)))

pub returns-in_err-second-clause-value : goal.returns-in_err-second-clause-value
returns-in_err-second-clause-value c =
    let k = mapped (λ (k : Placed). k.cost) (complete_of c.args.planning.now 1 c.args.left.now c.args.evaluated) c.in_ok-first.first.cost
    (complete-cost c.args.planning.now 1 c.args.left.now c.args.evaluated c.block_in.result.now c.complete_at.result c.block_in.ensures c.complete_at.ensures ∙ ap found_cost c.in_ok-first.was) in
    let none = unmapped (λ (k : Placed). k.cost) (complete_of c.args.planning.now 2 c.args.right.now c.args.evaluated)
    (complete-cost c.args.planning.now 2 c.args.right.now c.args.evaluated c.block_in-2.result.now c.complete_at-2.result c.block_in-2.ensures c.complete_at-2.ensures ∙ ap found_cost c.in_err-second.was) in
    c.from_residual-in_err-second.ensures
    ∙ sym (λ i. base_top (set_base c.args.planning.now.query.now (cards_of c.args.planning.now.cards.now) c.args.evaluated (k.1 i) (none i)))

pub returns-in_err-second-clause-base : goal.returns-in_err-second-clause-base
returns-in_err-second-clause-base c =
    let none = unmapped (λ (k : Placed). k.cost) (complete_of c.args.planning.now 2 c.args.right.now c.args.evaluated)
    (complete-cost c.args.planning.now 2 c.args.right.now c.args.evaluated c.block_in-2.result.now c.complete_at-2.result c.block_in-2.ensures c.complete_at-2.ensures ∙ ap found_cost c.in_err-second.was) in
    sides-base c.args.planning.now.catalog.now c.args.planning.now.query.now c.requires.planning.query (cards_of c.args.planning.now.cards.now) c.requires.both
    (2 ^ length (block_at c.args.planning.now 1).terms)
    (complete_of c.args.planning.now 1 c.args.left.now) (complete_of c.args.planning.now 2 c.args.right.now) c.requires.left.tops
    (subst (λ n. AreTopsOf c.args.planning.now (whole.Block 2) (2 ^ n) (complete_of c.args.planning.now 2 c.args.right.now))
    (sym (right-terms-below c.args.planning.now.catalog.now c.args.planning.now.query.now (cards_of c.args.planning.now.cards.now) c.requires.planning.query c.requires.both))
    c.requires.right.tops)
    c.args.evaluated c.requires.evaluated (λ k m at other. absurd (none-some m (sym none ∙ other)))

pub rows_of_all-left_rows-requires-clause-number : goal.rows_of_all-left_rows-requires-clause-number
rows_of_all-left_rows-requires-clause-number c = (extent-numbered c.args.planning.now.query.now (cards_of c.args.planning.now.cards.now) c.requires.planning.cards c.requires.both).0

pub rows_of_all-right_rows-requires-clause-number : goal.rows_of_all-right_rows-requires-clause-number
rows_of_all-right_rows-requires-clause-number c = (extent-numbered c.args.planning.now.query.now (cards_of c.args.planning.now.cards.now) c.requires.planning.cards c.requires.both).1

pub rows_of_all-right_rows-requires-clause-evaluated : goal.rows_of_all-right_rows-requires-clause-evaluated
rows_of_all-right_rows-requires-clause-evaluated c =
    subst (λ n. c.args.evaluated < 2 ^ n)
    (right-terms-below c.args.planning.now.catalog.now c.args.planning.now.query.now (cards_of c.args.planning.now.cards.now) c.requires.planning.query c.requires.both) c.requires.evaluated

pub both_sides-cost-requires : goal.both_sides-cost-requires
both_sides-cost-requires c =
    let k = mapped (λ (k : Placed). k.cost) (complete_of c.args.planning.now 1 c.args.left.now c.args.evaluated) c.in_ok-first.first.cost
    (complete-cost c.args.planning.now 1 c.args.left.now c.args.evaluated c.block_in.result.now c.complete_at.result c.block_in.ensures c.complete_at.ensures ∙ ap found_cost c.in_ok-first.was) in
    let m = mapped (λ (k : Placed). k.cost) (complete_of c.args.planning.now 2 c.args.right.now c.args.evaluated) c.in_ok-second.second.cost
    (complete-cost c.args.planning.now 2 c.args.right.now c.args.evaluated c.block_in-2.result.now c.complete_at-2.result c.block_in-2.ensures c.complete_at-2.ensures ∙ ap found_cost c.in_ok-second.was) in
    let first = block_at c.args.planning.now 1 in
    let second = block_at c.args.planning.now 2 in
    let first_formed = block-formed c.args.planning.now.catalog.now c.args.planning.now.query.now 1 c.requires.planning.query in
    let second_formed = block-formed c.args.planning.now.catalog.now c.args.planning.now.query.now 2 c.requires.planning.query in
    let small = whole-small c.args.planning.now.catalog.now c.args.planning.now.query.now c.requires.planning.query (whole.Block 1) c.args.evaluated c.requires.evaluated in
    let first_most = most-fits (all_entries first) c.args.evaluated (all-small first first_formed.most_entries) small in
    let second_most = most-fits (all_entries second) c.args.evaluated (all-small second second_formed.most_entries) small in
    let below = subst (λ n. c.args.evaluated < 2 ^ n)
    (right-terms-below c.args.planning.now.catalog.now c.args.planning.now.query.now (cards_of c.args.planning.now.cards.now) c.requires.planning.query c.requires.both) c.requires.evaluated in
    let first_fits = (c.requires.left.tops.kept c.args.evaluated k.0 c.requires.evaluated k.1).fits in
    let second_fits = (c.requires.right.tops.kept c.args.evaluated m.0 below m.1).fits in
    let first_cost = k.2 in
    let second_cost = m.2 in
    let left_rows = c.rows_of_all-left_rows.ensures.most in
    let right_rows = c.rows_of_all-right_rows.ensures.most in
    omega arith

pub returns-clause-value : goal.returns-clause-value
returns-clause-value c =
    let k = mapped (λ (k : Placed). k.cost) (complete_of c.args.planning.now 1 c.args.left.now c.args.evaluated) c.in_ok-first.first.cost
    (complete-cost c.args.planning.now 1 c.args.left.now c.args.evaluated c.block_in.result.now c.complete_at.result c.block_in.ensures c.complete_at.ensures ∙ ap found_cost c.in_ok-first.was) in
    let m = mapped (λ (k : Placed). k.cost) (complete_of c.args.planning.now 2 c.args.right.now c.args.evaluated) c.in_ok-second.second.cost
    (complete-cost c.args.planning.now 2 c.args.right.now c.args.evaluated c.block_in-2.result.now c.complete_at-2.result c.block_in-2.ensures c.complete_at-2.ensures ∙ ap found_cost c.in_ok-second.was) in
    let cost : c.both_sides-cost.result ≡ k.0.cost + m.0.cost + whole_rows c.args.planning.now.query.now (cards_of c.args.planning.now.cards.now) (whole.Block 1) c.args.evaluated
    + whole_rows c.args.planning.now.query.now (cards_of c.args.planning.now.cards.now) (whole.Block 2) c.args.evaluated =
    c.both_sides-cost.ensures ∙ (λ i. sym k.2 i + sym m.2 i + c.rows_of_all-left_rows.ensures.value i + c.rows_of_all-right_rows.ensures.value i) in
    (λ i. Some (record { cost = cost i; choice = choice.Base }))
    ∙ sym (λ i. base_top (set_base c.args.planning.now.query.now (cards_of c.args.planning.now.cards.now) c.args.evaluated (k.1 i) (m.1 i)))

pub returns-clause-base : goal.returns-clause-base
returns-clause-base c =
    sides-base c.args.planning.now.catalog.now c.args.planning.now.query.now c.requires.planning.query (cards_of c.args.planning.now.cards.now) c.requires.both
    (2 ^ length (block_at c.args.planning.now 1).terms)
    (complete_of c.args.planning.now 1 c.args.left.now) (complete_of c.args.planning.now 2 c.args.right.now) c.requires.left.tops
    (subst (λ n. AreTopsOf c.args.planning.now (whole.Block 2) (2 ^ n) (complete_of c.args.planning.now 2 c.args.right.now))
    (sym (right-terms-below c.args.planning.now.catalog.now c.args.planning.now.query.now (cards_of c.args.planning.now.cards.now) c.requires.planning.query c.requires.both))
    c.requires.right.tops)
    c.args.evaluated c.requires.evaluated (λ k m at other. (
      subst (λ n. n ≤ 2 ^ 102) c.rows_of_all-left_rows.ensures.value c.rows_of_all-left_rows.ensures.most,
      subst (λ n. n ≤ 2 ^ 102) c.rows_of_all-right_rows.ensures.value c.rows_of_all-right_rows.ensures.most,
    ))

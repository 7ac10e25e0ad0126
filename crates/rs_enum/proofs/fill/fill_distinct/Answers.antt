-- Each mask of terms is tried in its turn.
use Rattle.std.proofs.Common.{◌≡◌, ◌∙◌, ◌+◌, ◌^◌, ◌<◌, ◌≤◌, [], ◌∷◌, ◌++◌, length, sym, ap, subst, arith, vec_len}
use Rattle.std.specs.Prelude.{vec_capacity}
use Rattle.rs_query.specs.declared.block.Block.{Block}
use Rattle.rs_query.specs.Tables.{all_entries}
use Rattle.rs_sample.specs.Kept.{cards_of}
use Rattle.rs_enum.specs.declared.extent.Extent.TheVariants as whole
use Rattle.rs_enum.specs.Given.{AreTopsOf, block_at, kept_of}
use Rattle.rs_enum.specs.Tops.{AreLower, IsTheFirstTop, distinct_base}
use Rattle.rs_enum.proofs.CostFacts.{block-formed}
use Rattle.rs_enum.proofs.FilledFacts.{masks-most, places-most}
use Rattle.rs_enum.proofs.FoundFacts.{IsRowFilled, row-all, row-next, row-none}
use Rattle.rs_enum.proofs.fill.fill_distinct.Goals as goal

pub loop-place-init : goal.loop-place-init
loop-place-init c = (
  row-none c.args.planning.now c.requires.planning c.args.number c.args.places.now.items c.requires.block c.requires.filled c.requires.built c.requires.all,
  c.requires.room,
)

pub overflow_cast-evaluated : goal.overflow_cast-evaluated
overflow_cast-evaluated c =
    let formed = block-formed c.args.planning.now.catalog.now c.args.planning.now.query.now c.args.number c.requires.planning.query in
    let few : length (block_at c.args.planning.now c.args.number).terms ≤ 8 = formed.most_terms in
    let most = masks-most (length (block_at c.args.planning.now c.args.number).terms) c.masks-columns.result (c.masks-columns.ensures ∙ ap (λ n. 2 ^ n) (c.len.ensures ∙ ap (λ (b : Block). length b.terms) c.block_in.ensures)) few in
    let less = c.loop-place-test.true in
    omega arith

pub distinct_top-found-requires-clause-evaluated : goal.distinct_top-found-requires-clause-evaluated
distinct_top-found-requires-clause-evaluated c = subst (λ n. c.loop-place.place < n) (c.masks-columns.ensures ∙ ap (λ n. 2 ^ n) (c.len.ensures ∙ ap (λ (b : Block). length b.terms) c.block_in.ensures)) c.loop-place-test.true

pub distinct_top-found-requires-clause-lower : goal.distinct_top-found-requires-clause-lower
distinct_top-found-requires-clause-lower c =
    subst (λ xs. AreLower c.args.planning.now.catalog.now c.args.planning.now.query.now (cards_of c.args.planning.now.cards.now) c.args.number
    (2 ^ length (block_at c.args.planning.now c.args.number).terms) (kept_of c.args.planning.now c.args.number xs (all_entries (block_at c.args.planning.now c.args.number))))
    (sym c.as_slice.ensures.value) c.loop-place.invariant.0.lower

pub distinct_top-found-requires-clause-tops : goal.distinct_top-found-requires-clause-tops
distinct_top-found-requires-clause-tops c =
    subst (λ xs. AreTopsOf c.args.planning.now (whole.Block c.args.number) c.loop-place.place
    (kept_of c.args.planning.now c.args.number xs (2 ^ length (block_at c.args.planning.now c.args.number).from)))
    (sym c.as_slice.ensures.value) c.loop-place.invariant.0.tops

pub push_reserved-requires : goal.push_reserved-requires
push_reserved-requires c =
    let formed = block-formed c.args.planning.now.catalog.now c.args.planning.now.query.now c.args.number c.requires.planning.query in
    let few_entries : length (block_at c.args.planning.now c.args.number).from ≤ 6 = formed.most_entries in
    let few_terms : length (block_at c.args.planning.now c.args.number).terms ≤ 8 = formed.most_terms in
    let most = places-most (length (block_at c.args.planning.now c.args.number).from) (length (block_at c.args.planning.now c.args.number).terms) few_entries few_terms in
    let row = masks-most (length (block_at c.args.planning.now c.args.number).terms) c.masks-columns.result (c.masks-columns.ensures ∙ ap (λ n. 2 ^ n) (c.len.ensures ∙ ap (λ (b : Block). length b.terms) c.block_in.ensures)) few_terms in
    let less = c.loop-place-test.true in
    let counted : vec_len c.loop-place.places ≡ length c.loop-place.places.items = omega (arith, c.loop-place.places.ok.0) in
    let place = c.loop-place.invariant.0.counted in
    let room = c.loop-place.invariant.1 in
    omega arith

pub loop-place-preserved : goal.loop-place-preserved
loop-place-preserved c =
    let items : c.push_reserved.new.self.items ≡ c.loop-place.places.items ++ c.distinct_top-found.result ∷ [] = c.push_reserved.ensures.items in
    let within = subst (λ n. c.loop-place.place < n) (c.masks-columns.ensures ∙ ap (λ n. 2 ^ n) (c.len.ensures ∙ ap (λ (b : Block). length b.terms) c.block_in.ensures)) c.loop-place-test.true in
    let found = subst (λ xs. IsTheFirstTop c.args.planning.now.catalog.now c.args.planning.now.query.now (cards_of c.args.planning.now.cards.now) (whole.Block c.args.number)
    (distinct_base c.args.planning.now.query.now (cards_of c.args.planning.now.cards.now) c.args.number c.loop-place.place
    (kept_of c.args.planning.now c.args.number xs (all_entries (block_at c.args.planning.now c.args.number)) c.loop-place.place))
    (kept_of c.args.planning.now c.args.number xs (2 ^ length (block_at c.args.planning.now c.args.number).from)) c.loop-place.place 10 c.distinct_top-found.result)
    c.as_slice.ensures.value c.distinct_top-found.ensures in (
      subst (λ xs. IsRowFilled c.args.planning.now c.args.number xs (c.loop-place.place + 1)) (sym items)
          (row-next c.args.planning.now c.requires.planning c.args.number c.loop-place.places.items c.loop-place.place c.loop-place.invariant.0 within c.requires.wanted
          c.distinct_top-found.result found),
      (let same : vec_capacity c.push_reserved.new.self ≡ vec_capacity c.loop-place.places = c.push_reserved.ensures.capacity in
          let room = c.loop-place.invariant.1 in
          omega arith),
    )

pub returns-clause-found : goal.returns-clause-found
returns-clause-found c =
    let within = c.loop-place.auto.place-end in
    let done = c.loop-place-test.false in
    let end : c.loop-place.place ≡ c.masks-columns.result = omega arith in
    row-all c.args.planning.now c.requires.planning c.args.number c.loop-place.places.items c.requires.wanted
    (subst (IsRowFilled c.args.planning.now c.args.number c.loop-place.places.items) (end ∙ c.masks-columns.ensures ∙ ap (λ n. 2 ^ n) (c.len.ensures ∙ ap (λ (b : Block). length b.terms) c.block_in.ensures)) c.loop-place.invariant.0)

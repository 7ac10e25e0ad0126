-- Each place is filled in its turn.
use Rattle.std.proofs.Common.{◌≡◌, ◌∙◌, ◌+◌, ◌*◌, ◌/◌, ◌^◌, ◌<◌, ◌≤◌, [], ◌∷◌, ◌++◌, length, refl, sym, ap, subst, arith, vec_len}
use Rattle.std.specs.Prelude.{vec_capacity}
use Rattle.std.proofs.lemmas.List.{length-append}
use Rattle.rs_query.specs.declared.block.Block.{Block}
use Rattle.rs_sample.specs.Kept.{cards_of}
use Rattle.rs_enum.specs.Given.{block_at}
use Rattle.rs_enum.specs.QueryCards.{alone, alone_cards}
use Rattle.rs_enum.specs.Made.{AreBuilt, kept_plans}
use Rattle.rs_enum.specs.Places.{AreKept, IsFilled, IsTheFirst}
use Rattle.rs_enum.specs.Within.{terms_within}
use Rattle.rs_enum.proofs.BuildFacts.{built-none}
use Rattle.rs_enum.proofs.CostFacts.{block-formed}
use Rattle.rs_enum.proofs.FilledFacts.{AreFilled, entries-within, filled-next, filled-none, masks-most, places-most}
use Rattle.rs_enum.proofs.MadeFacts.{kept-none}
use Rattle.rs_enum.proofs.fill.fill_signatures.Goals as goal

pub signature_at-of-requires-clause-row : goal.signature_at-of-requires-clause-row
signature_at-of-requires-clause-row c =
    let formed = block-formed c.args.planning.now.catalog.now c.args.planning.now.query.now c.args.number c.requires.planning.query in
    let few : length (block_at c.args.planning.now c.args.number).from ≤ 6 = formed.most_entries in
    let count : c.len.result ≡ length (block_at c.args.planning.now c.args.number).from = c.len.ensures ∙ ap (λ (b : Block). length b.from) c.block_in-block.ensures in
    let most = masks-most c.len.result c.masks-rows.result c.masks-rows.ensures (omega arith) in
    let less = subst (λ n. c.loop-place.place < n) c.product-all.ensures c.loop-place-test.true in
    let within = entries-within c.loop-place.place c.masks-rows.result c.masks-columns.result c.len-2.result (c.loop-place.place / c.masks-columns.result)
    c.masks-columns.ensures less refl in
    omega arith

pub first_candidate-found-requires-clause-search : goal.first_candidate-found-requires-clause-search
first_candidate-found-requires-clause-search c = record {
  planning = c.requires.planning;
  number = c.requires.number;
  inside = λ entries few. c.masks_inside-inside.ensures entries few ∙ ap (λ (b : Block). terms_within entries b.terms) c.block_in-block.ensures;
  kept = subst (λ xs. AreKept c.args.planning.now.catalog.now (alone c.args.planning.now.query.now c.args.number) (alone_cards (cards_of c.args.planning.now.cards.now) c.args.number)
      (kept_plans (block_at c.args.planning.now c.args.number).terms xs)) (sym c.as_slice.ensures.value) c.loop-place.invariant.0.filled.kept;
}

pub loop-place-init : goal.loop-place-init
loop-place-init c = (
  subst (λ xs. AreFilled c.args.planning.now.catalog.now (alone c.args.planning.now.query.now c.args.number) (alone_cards (cards_of c.args.planning.now.cards.now) c.args.number) xs 0)
      (sym c.requires.empty) (record {
        filled = subst (IsFilled c.args.planning.now.catalog.now (alone c.args.planning.now.query.now c.args.number) (alone_cards (cards_of c.args.planning.now.cards.now) c.args.number))
            (sym (kept-none (block_at c.args.planning.now c.args.number).terms))
            (filled-none c.args.planning.now.catalog.now (alone c.args.planning.now.query.now c.args.number) (alone_cards (cards_of c.args.planning.now.cards.now) c.args.number));
        built = built-none (block_at c.args.planning.now c.args.number).terms;
        counted = refl;
      }),
  c.requires.room,
)

pub push_reserved-requires : goal.push_reserved-requires
push_reserved-requires c =
    let formed = block-formed c.args.planning.now.catalog.now c.args.planning.now.query.now c.args.number c.requires.planning.query in
    let few_entries : length (block_at c.args.planning.now c.args.number).from ≤ 6 = formed.most_entries in
    let few_terms : length (block_at c.args.planning.now c.args.number).terms ≤ 8 = formed.most_terms in
    let rows : c.masks-rows.result ≡ 2 ^ length (block_at c.args.planning.now c.args.number).from =
    c.masks-rows.ensures ∙ ap (λ n. 2 ^ n) (c.len.ensures ∙ ap (λ (b : Block). length b.from) c.block_in-block.ensures) in
    let columns : c.masks-columns.result ≡ 2 ^ length (block_at c.args.planning.now c.args.number).terms =
    c.masks-columns.ensures ∙ ap (λ n. 2 ^ n) (c.len-2.ensures ∙ ap (λ (b : Block). length b.terms) c.block_in-block.ensures) in
    let most = places-most (length (block_at c.args.planning.now c.args.number).from) (length (block_at c.args.planning.now c.args.number).terms) few_entries few_terms in
    let all : c.product-all.result ≡ 2 ^ length (block_at c.args.planning.now c.args.number).from * 2 ^ length (block_at c.args.planning.now c.args.number).terms =
    c.product-all.ensures ∙ (λ i. rows i * columns i) in
    let less = c.loop-place-test.true in
    let counted : vec_len c.loop-place.places ≡ length c.loop-place.places.items = omega (arith, c.loop-place.places.ok.0) in
    let place = c.loop-place.invariant.0.counted in
    let room = c.loop-place.invariant.1 in
    omega arith

pub loop-place-preserved : goal.loop-place-preserved
loop-place-preserved c =
    let columns : c.masks-columns.result ≡ 2 ^ length (block_at c.args.planning.now c.args.number).terms =
    c.masks-columns.ensures ∙ ap (λ n. 2 ^ n) (c.len-2.ensures ∙ ap (λ (b : Block). length b.terms) c.block_in-block.ensures) in
    let found : IsTheFirst c.args.planning.now.catalog.now (alone c.args.planning.now.query.now c.args.number) (alone_cards (cards_of c.args.planning.now.cards.now) c.args.number)
    (kept_plans (block_at c.args.planning.now c.args.number).terms c.loop-place.places.items)
    c.signature_at-of.result.entries c.signature_at-of.result.terms (6 * 256) c.first_candidate-found.result =
    subst (λ places. IsTheFirst c.args.planning.now.catalog.now (alone c.args.planning.now.query.now c.args.number) (alone_cards (cards_of c.args.planning.now.cards.now) c.args.number)
    (kept_plans (block_at c.args.planning.now c.args.number).terms places)
    c.signature_at-of.result.entries c.signature_at-of.result.terms (6 * 256) c.first_candidate-found.result) c.as_slice.ensures.value c.first_candidate-found.ensures in
    let items : c.push_reserved.new.self.items ≡ c.loop-place.places.items ++ c.first_candidate-found.result ∷ [] = c.push_reserved.ensures.items in
    let next = filled-next c.args.planning.now.catalog.now (alone c.args.planning.now.query.now c.args.number) (alone_cards (cards_of c.args.planning.now.cards.now) c.args.number)
    (block-formed c.args.planning.now.catalog.now c.args.planning.now.query.now c.args.number c.requires.planning.query)
    c.loop-place.places.items c.loop-place.invariant.0.filled c.loop-place.invariant.0.built c.loop-place.place c.masks-columns.result c.signature_at-of.result.entries
    c.signature_at-of.result.terms c.loop-place.invariant.0.counted columns c.signature_at-of.ensures.entries c.signature_at-of.ensures.terms c.first_candidate-found.result found in (
      record {
        filled = subst (λ xs. IsFilled c.args.planning.now.catalog.now (alone c.args.planning.now.query.now c.args.number) (alone_cards (cards_of c.args.planning.now.cards.now) c.args.number)
            (kept_plans (block_at c.args.planning.now c.args.number).terms xs)) (sym items) next.0;
        built = subst (AreBuilt (block_at c.args.planning.now c.args.number).terms) (sym items) next.1;
        counted = ap length items ∙ length-append c.loop-place.places.items (c.first_candidate-found.result ∷ []) ∙ ap (λ n. n + 1) c.loop-place.invariant.0.counted;
      },
      (let same : vec_capacity c.push_reserved.new.self ≡ vec_capacity c.loop-place.places = c.push_reserved.ensures.capacity in
          let room = c.loop-place.invariant.1 in
          omega arith),
    )

pub returns-clause-all : goal.returns-clause-all
returns-clause-all c =
    let rows : c.masks-rows.result ≡ 2 ^ length (block_at c.args.planning.now c.args.number).from =
    c.masks-rows.ensures ∙ ap (λ n. 2 ^ n) (c.len.ensures ∙ ap (λ (b : Block). length b.from) c.block_in-block.ensures) in
    let columns : c.masks-columns.result ≡ 2 ^ length (block_at c.args.planning.now c.args.number).terms =
    c.masks-columns.ensures ∙ ap (λ n. 2 ^ n) (c.len-2.ensures ∙ ap (λ (b : Block). length b.terms) c.block_in-block.ensures) in
    let within = c.loop-place.auto.place-end in
    let done = c.loop-place-test.false in
    let end : c.loop-place.place ≡ c.product-all.result = omega arith in
    c.loop-place.invariant.0.counted ∙ end ∙ c.product-all.ensures ∙ (λ i. rows i * columns i)

-- Each mask of terms is tried in its turn.
use Rattle.std.proofs.Common.{◌≡◌, ◌∙◌, ◌+◌, ◌^◌, ◌<◌, ◌≤◌, [], ◌∷◌, ◌++◌, length, refl, sym, ap, subst, arith, vec_len}
use Rattle.std.specs.Prelude.{vec_capacity}
use Rattle.std.proofs.lemmas.List.{length-append}
use Rattle.rs_query.specs.declared.block.Block.{Block}
use Rattle.rs_sample.specs.Kept.{cards_of}
use Rattle.rs_enum.specs.Given.{AreSetFound, block_at, complete_of}
use Rattle.rs_enum.specs.Tops.{set_base}
use Rattle.rs_enum.proofs.CostFacts.{block-formed}
use Rattle.rs_enum.proofs.FilledFacts.{masks-most}
use Rattle.rs_enum.proofs.SetFacts.{set-next, set-none, tops-of-set}
use Rattle.rs_enum.proofs.fill.fill_set.Goals as goal

pub loop-place-init : goal.loop-place-init
loop-place-init c = (
  set-none c.args.planning.now c.requires.planning c.args.left.now c.args.right.now c.clear.new.self.items,
  ap length c.clear.ensures.items,
  (let same : vec_capacity c.clear.new.self ≡ vec_capacity c.args.both.now = c.clear.ensures.capacity in
      let room = c.requires.room in
      omega arith),
)

pub overflow_cast-evaluated : goal.overflow_cast-evaluated
overflow_cast-evaluated c =
    let formed = block-formed c.args.planning.now.catalog.now c.args.planning.now.query.now 1 c.requires.planning.query in
    let few : length (block_at c.args.planning.now 1).terms ≤ 8 = formed.most_terms in
    let most = masks-most (length (block_at c.args.planning.now 1).terms) c.masks-columns.result (c.masks-columns.ensures ∙ ap (λ n. 2 ^ n) (c.len.ensures ∙ ap (λ (b : Block). length b.terms) c.block_in.ensures)) few in
    let less = c.loop-place-test.true in
    omega arith

pub set_over-base-requires-clause-evaluated : goal.set_over-base-requires-clause-evaluated
set_over-base-requires-clause-evaluated c = subst (λ n. c.loop-place.place < n) (c.masks-columns.ensures ∙ ap (λ n. 2 ^ n) (c.len.ensures ∙ ap (λ (b : Block). length b.terms) c.block_in.ensures)) c.loop-place-test.true

pub first-found-requires-clause-row : goal.first-found-requires-clause-row
first-found-requires-clause-row c = record { planning = c.requires.planning; extent = c.requires.both; topped = tt }

pub first-found-requires-clause-tops : goal.first-found-requires-clause-tops
first-found-requires-clause-tops c = record { view = c.loop-place.invariant.0.view; are = tops-of-set _ c.args.left.now c.args.right.now c.loop-place.both.items c.loop-place.place refl refl c.as_slice.ensures.value c.loop-place.invariant.0 }

pub first-found-requires-clause-evaluated : goal.first-found-requires-clause-evaluated
first-found-requires-clause-evaluated c = subst (λ n. c.loop-place.place < n) (c.masks-columns.ensures ∙ ap (λ n. 2 ^ n) (c.len.ensures ∙ ap (λ (b : Block). length b.terms) c.block_in.ensures)) c.loop-place-test.true

pub push_reserved-requires : goal.push_reserved-requires
push_reserved-requires c =
    let formed = block-formed c.args.planning.now.catalog.now c.args.planning.now.query.now 1 c.requires.planning.query in
    let few : length (block_at c.args.planning.now 1).terms ≤ 8 = formed.most_terms in
    let most = masks-most (length (block_at c.args.planning.now 1).terms) c.masks-columns.result (c.masks-columns.ensures ∙ ap (λ n. 2 ^ n) (c.len.ensures ∙ ap (λ (b : Block). length b.terms) c.block_in.ensures)) few in
    let less = c.loop-place-test.true in
    let all : vec_len c.loop-place.both ≡ length c.loop-place.both.items = omega (arith, c.loop-place.both.ok.0) in
    let place = c.loop-place.invariant.1 in
    let room = c.loop-place.invariant.2 in
    omega arith

pub loop-place-preserved : goal.loop-place-preserved
loop-place-preserved c =
    let items : c.push_reserved.new.self.items ≡ c.loop-place.both.items ++ c.first-found.result ∷ [] = c.push_reserved.ensures.items in
    let found = c.first-found.ensures
    (set_base c.args.planning.now.query.now (cards_of c.args.planning.now.cards.now) c.loop-place.place
    (complete_of c.args.planning.now 1 c.args.left.now c.loop-place.place) (complete_of c.args.planning.now 2 c.args.right.now c.loop-place.place))
    c.loop-place.invariant.0.view c.set_over-base.ensures.base c.set_over-base.ensures.value (tops-of-set _ c.args.left.now c.args.right.now c.loop-place.both.items c.loop-place.place refl refl c.as_slice.ensures.value c.loop-place.invariant.0) in (
      subst (λ xs. AreSetFound c.args.planning.now c.args.left.now c.args.right.now xs (c.loop-place.place + 1)) (sym items)
          (set-next c.args.planning.now c.requires.planning c.args.left.now c.args.right.now c.loop-place.both.items c.loop-place.place c.loop-place.invariant.0
          c.loop-place.invariant.1 c.first-found.result found),
      ap length items ∙ length-append c.loop-place.both.items (c.first-found.result ∷ []) ∙ ap (λ n. n + 1) c.loop-place.invariant.1,
      (let same : vec_capacity c.push_reserved.new.self ≡ vec_capacity c.loop-place.both = c.push_reserved.ensures.capacity in
          let room = c.loop-place.invariant.2 in
          omega arith),
    )

pub returns-clause-found : goal.returns-clause-found
returns-clause-found c =
    let within = c.loop-place.auto.place-end in
    let done = c.loop-place-test.false in
    let end : c.loop-place.place ≡ c.masks-columns.result = omega arith in
    subst (AreSetFound c.args.planning.now c.args.left.now c.args.right.now c.loop-place.both.items) (end ∙ c.masks-columns.ensures ∙ ap (λ n. 2 ^ n) (c.len.ensures ∙ ap (λ (b : Block). length b.terms) c.block_in.ensures)) c.loop-place.invariant.0

pub returns-clause-room : goal.returns-clause-room
returns-clause-room c = c.loop-place.invariant.2

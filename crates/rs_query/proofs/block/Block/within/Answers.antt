-- A conjunct that is inside joins the mask, which keeps within 32 bits.
use Rattle.std.proofs.Common.{◌≡◌, ◌∙◌, ◌+◌, ◌*◌, ◌^◌, ◌<◌, ◌≤◌, true, false, length, drop, get_or, sym, ap, rules}
use Rattle.rs_query.specs.Conjuncts.{ConjunctDef}
use Rattle.rs_query.specs.Meaning.{is_inside, conjuncts_within}
use Rattle.rs_query.proofs.WithinFacts.{AreInside-all, conjuncts_within-fits, conjuncts_within-joined, conjuncts_within-left}
use Rattle.rs_query.proofs.block.Block.within.Goals as goal
use Rattle.rs_query.proofs.block.Block.within.Goals.{then-is_inside, else-is_inside}

pub overflow_add-mask : goal.overflow_add-mask
overflow_add-mask c =
    let place = c.loop-place.place in
    let conjuncts = c.args.self.now.conjuncts in
    let conjunct : ConjunctDef = c.conjunct-item.result in
    let is : conjunct ≡ get_or conjuncts place conjunct = rw (c.deref-conjunct-items.ensures.value, c.items.ensures) at c.conjunct-item.is in
    let here : place < length conjuncts = rw (c.deref-conjunct-items.ensures.value, c.items.ensures) at c.loop-place-test.true in
    let inside : is_inside conjunct.entries c.args.entries ≡ true = rw c.entries.ensures at (sym c.is_inside.ensures ∙ c.if-is_inside.true) in
    let fits = conjuncts_within-fits c.args.entries c.loop-place.mask place conjuncts conjunct c.requires here is c.loop-place.invariant inside in
    search rules

pub loop-place-preserved : goal.loop-place-preserved
loop-place-preserved c =
    let place = c.loop-place.place in
    let conjuncts = c.args.self.now.conjuncts in
    let conjunct : ConjunctDef = c.conjunct-item.result in
    let is : conjunct ≡ get_or conjuncts place conjunct = rw (c.deref-conjunct-items.ensures.value, c.items.ensures) at c.conjunct-item.is in
    let here : place < length conjuncts = rw (c.deref-conjunct-items.ensures.value, c.items.ensures) at c.loop-place-test.true in
    elim c.if-is_inside.branch [
      | then-is_inside w ↦
          let inside : is_inside conjunct.entries c.args.entries ≡ true = rw c.entries.ensures at (sym c.is_inside.ensures ∙ w.if-is_inside.true) in
          ap (λ m. m + conjuncts_within c.args.entries (drop (place + 1) conjuncts) * 2 ^ (place + 1)) w.mask-is
          ∙ conjuncts_within-joined c.args.entries c.loop-place.mask place conjuncts conjunct c.requires here is c.loop-place.invariant inside
      | else-is_inside w ↦
          let outside : is_inside conjunct.entries c.args.entries ≡ false = rw c.entries.ensures at (sym c.is_inside.ensures ∙ w.if-is_inside.false) in
          ap (λ m. m + conjuncts_within c.args.entries (drop (place + 1) conjuncts) * 2 ^ (place + 1)) w.mask-is
          ∙ conjuncts_within-left c.args.entries c.loop-place.mask place conjuncts conjunct c.requires here is c.loop-place.invariant outside
    ]

pub returns-clause-inside : goal.returns-clause-inside
returns-clause-inside c =
    let conjuncts = c.args.self.now.conjuncts in
    let all : length conjuncts ≤ c.loop-place.place = rw (c.deref-conjunct-items.ensures.value, c.items.ensures) at c.loop-place-test.false in
    AreInside-all c.args.entries c.loop-place.mask c.loop-place.place conjuncts all c.loop-place.invariant

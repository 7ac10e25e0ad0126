-- The combinations of one entry more join the others.
use Rattle.std.proofs.Common.{◌≡◌, ◌∙◌, ◌+◌, ◌-◌, length, get_or, sym, ap, subst, arith}
use Rattle.std.proofs.lemmas.Option.{unwrap_or-slice_get}
use Rattle.rs_query.specs.Searching.{Adds, IsNewBefore}
use Rattle.rs_query.specs.Tables.{row_number}
use Rattle.rs_query.proofs.FreshFacts.{before-all, before-fails, before-more, before-none}
use Rattle.rs_query.proofs.block.Block.find_all.Goals as goal

pub returns-then-not-holds_of_all : goal.returns-then-not-holds_of_all
returns-then-not-holds_of_all c =
    before-fails c.args.catalog.now c.args.self.now c.requires c.args.old.now (length c.args.self.now.from) c.args.found.now.items (sym c.holds_of_all.ensures ∙ c.if-not-holds_of_all.true)

pub loop-place-init : goal.loop-place-init
loop-place-init c = before-none c.args.catalog.now c.args.self.now c.args.old.now c.args.found.now.items

pub find-requires-clause-satisfied : goal.find-requires-clause-satisfied
find-requires-clause-satisfied c = sym c.holds_of_all.ensures ∙ c.if-not-holds_of_all.false

pub returns-then-old-place-eq0 : goal.returns-then-old-place-eq0
returns-then-old-place-eq0 c =
    let place : c.loop-place.place + 1 - 1 ≡ c.loop-place.place = omega arith in
    let old_at : row_number c.args.old.now (c.loop-place.place + 1) ≡ get_or c.args.old.now c.loop-place.place 0 =
    unwrap_or-slice_get c.args.old.now (c.loop-place.place + 1 - 1) 0 ∙ ap (λ i. get_or c.args.old.now i 0) place in
    before-all c.args.catalog.now c.args.self.now c.requires c.args.old.now (c.loop-place.place + 1) c.args.found.now.items c.find.new.found.items
    (omega arith) (omega arith) (omega arith)
    (before-more c.args.catalog.now c.args.self.now c.args.old.now c.loop-place.place c.args.found.now.items c.loop-place.found.items c.find.new.found.items
    (omega arith) c.loop-place.invariant c.in_ok-find.ensures)

pub loop-place-preserved : goal.loop-place-preserved
loop-place-preserved c =
    before-more c.args.catalog.now c.args.self.now c.args.old.now c.loop-place.place c.args.found.now.items c.loop-place.found.items c.find.new.found.items
    (omega arith) c.loop-place.invariant c.in_ok-find.ensures

pub returns : goal.returns
returns c =
    let all : c.loop-place.place ≡ length c.args.self.now.from = omega arith in
    subst (λ bound. Adds (IsNewBefore c.args.catalog.now c.args.self.now c.args.old.now bound) c.args.found.now.items c.loop-place.found.items) all c.loop-place.invariant

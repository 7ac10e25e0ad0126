-- Rows of all entries are one combination. Else each row that fits is tried.
use Rattle.std.proofs.Common.{ℕ, ◌≡◌, ◌∙◌, ◌-◌, ◌<◌, ◌≤◌, true, false, List, Vec, Global, length, set, sym, ap, subst, bit_or, arith, rules}
use Rattle.rs_rank.specs.Masks.{mask_of}
use Rattle.rs_query.specs.Meaning.{AreInside, all_hold}
use Rattle.rs_query.specs.Searching.{Adds, AreSteps, GoesOn, IsBegun}
use Rattle.rs_query.specs.Tables.{HasRows, all_entries}
use Rattle.rs_query.proofs.AddsFacts.{Adds-none}
use Rattle.rs_query.proofs.ExtendFacts.{HasRows-choice}
use Rattle.rs_query.proofs.GoFacts.{GoesOn-fails, GoesOn-whole, IsBegun-longer, passed-all, passed-more, passed-none}
use Rattle.rs_query.proofs.StepsFacts.{AreSteps-inside}
use Rattle.rs_query.proofs.WalkFacts.{HasRows-longer, conditions-inside, no-step}
use Rattle.rs_query.proofs.block.Block.+extend.Goals as goal
use Rattle.rs_query.proofs.block.Block.+extend.Goals.{then-holds+in_ok-extend, else-holds}

pub returns-in_default : goal.returns-in_default
returns-in_default t c =
    let none = no-step c.args.steps.now c.in_default.ensures.cases in
    let whole = subst (AreSteps c.args.catalog.now c.args.self.now c.args.mask (all_entries c.args.self.now)) none c.requires.steps in
    subst (λ steps. Adds (GoesOn c.args.catalog.now c.args.self.now steps c.args.mask c.args.rows) c.args.found.now.items c.push.new.self.items) (sym none)
    (GoesOn-whole c.args.catalog.now c.args.self.now c.requires.block c.args.mask c.args.rows c.args.found.now.items c.push.new.self.items whole c.requires.begun c.in_ok-push.ensures.items)

pub first-row-requires-clause-step : goal.first-row-requires-clause-step
first-row-requires-clause-step t c =
    let are = subst (AreSteps c.args.catalog.now c.args.self.now c.args.mask (all_entries c.args.self.now)) c.in-Some.ensures.cases.0 c.requires.steps in (
      c.args.mask,
      are.0,
      HasRows-choice c.args.catalog.now c.args.self.now c.args.mask c.args.rows c.requires.block.most_entries c.requires.begun.choice,
    )

pub loop-row-init : goal.loop-row-init
loop-row-init t c =
    let are = subst (AreSteps c.args.catalog.now c.args.self.now c.args.mask (all_entries c.args.self.now)) c.in-Some.ensures.cases.0 c.requires.steps in
    let next = c.first-row.ensures in
    record {
      found = passed-none c.args.catalog.now c.args.self.now c.requires.block c.args.mask c.in-Some.step.now c.args.rows are.0 c.in-Some.rest.now c.first-row.result c.args.found.now.items next;
      fits = λ some. next.there some;
    }

pub holds-requires-clause-inside : goal.holds-requires-clause-inside
holds-requires-clause-inside t c =
    let are = subst (AreSteps c.args.catalog.now c.args.self.now c.args.mask (all_entries c.args.self.now)) c.in-Some.ensures.cases.0 c.requires.steps in
    let more : c.union-more.result ≡ bit_or c.args.mask (mask_of c.in-Some.step.now.entry) = c.union-more.ensures ∙ ap (bit_or c.args.mask) c.mask_of.ensures in
    subst (λ m. AreInside c.in-Some.step.now.conditions m c.args.self.now.conjuncts) (sym more)
    (conditions-inside c.args.catalog.now c.args.self.now c.args.mask c.in-Some.step.now are.0)

pub holds-requires-clause-rows : goal.holds-requires-clause-rows
holds-requires-clause-rows t c =
    let are = subst (AreSteps c.args.catalog.now c.args.self.now c.args.mask (all_entries c.args.self.now)) c.in-Some.ensures.cases.0 c.requires.steps in
    let more : c.union-more.result ≡ bit_or c.args.mask (mask_of c.in-Some.step.now.entry) = c.union-more.ensures ∙ ap (bit_or c.args.mask) c.mask_of.ensures in
    let some : 1 ≤ c.loop-row.row = omega arith in
    let fits = c.loop-row.invariant.fits some in
    subst (λ m. HasRows c.args.catalog.now c.args.self.now m c.with_row-longer.result) (sym more)
    (subst (HasRows c.args.catalog.now c.args.self.now (bit_or c.args.mask (mask_of c.in-Some.step.now.entry))) (sym c.with_row-longer.ensures)
    (HasRows-longer c.args.catalog.now c.args.self.now c.requires.block c.args.mask c.in-Some.step.now are.0 c.args.rows c.loop-row.row c.requires.begun.choice some fits.1))

pub extend-requires : goal.extend-requires
extend-requires t c =
    let catalogue = c.args.catalog.now in
    let block = c.args.self.now in
    let step = c.in-Some.step.now in
    let are = subst (AreSteps catalogue block c.args.mask (all_entries block)) c.in-Some.ensures.cases.0 c.requires.steps in
    let more : c.union-more.result ≡ bit_or c.args.mask (mask_of step.entry) = c.union-more.ensures ∙ ap (bit_or c.args.mask) c.mask_of.ensures in
    let some : 1 ≤ c.loop-row.row = omega arith in
    let fits = c.loop-row.invariant.fits some in
    let shorter : length c.in-Some.rest.now < length c.args.steps.now = omega (arith, c.in-Some.ensures.cases.1) in
    let holds = subst (λ z. all_hold catalogue block step.conditions z block.conjuncts ≡ true) c.with_row-longer.ensures (sym c.holds.ensures ∙ c.if-holds.true) in (
      search (rules, shorter),
      (
        c.requires.block,
        (
          subst (λ m. AreSteps catalogue block m (all_entries block) c.in-Some.rest.now) (sym more) are.1,
          subst (λ m. IsBegun catalogue block m c.with_row-longer.result) (sym more)
              (subst (IsBegun catalogue block (bit_or c.args.mask (mask_of step.entry))) (sym c.with_row-longer.ensures)
              (IsBegun-longer catalogue block c.requires.block c.args.mask step c.args.rows are.0 c.loop-row.row c.requires.begun some fits.1 holds)),
        ),
      ),
    )

pub next-row-requires-clause-step : goal.next-row-requires-clause-step
next-row-requires-clause-step t c =
    let are = subst (AreSteps c.args.catalog.now c.args.self.now c.args.mask (all_entries c.args.self.now)) c.in-Some.ensures.cases.0 c.requires.steps in (
      c.args.mask,
      are.0,
      HasRows-choice c.args.catalog.now c.args.self.now c.args.mask c.args.rows c.requires.block.most_entries c.requires.begun.choice,
    )

pub loop-row-preserved : goal.loop-row-preserved
loop-row-preserved t c =
    let catalogue = c.args.catalog.now in
    let block = c.args.self.now in
    let step = c.in-Some.step.now in
    let rest = c.in-Some.rest.now in
    let mask = c.args.mask in
    let now = bit_or mask (mask_of step.entry) in
    let longer = set c.args.rows (step.entry - 1) c.loop-row.row in
    let are = subst (AreSteps catalogue block mask (all_entries block)) c.in-Some.ensures.cases.0 c.requires.steps in
    let more : c.union-more.result ≡ now = c.union-more.ensures ∙ ap (bit_or mask) c.mask_of.ensures in
    let some : 1 ≤ c.loop-row.row = omega arith in
    let fits = c.loop-row.invariant.fits some in
    let next = c.next-row.ensures in
    let part : Adds (GoesOn catalogue block rest now longer) c.loop-row.found.items c.if-holds.found.items = elim c.if-holds.branch [
      | then-holds+in_ok-extend w ↦
          subst (λ (v : Vec (List ℕ) Global). Adds (GoesOn catalogue block rest now longer) c.loop-row.found.items v.items) (sym w.found-is)
          (subst (λ m. Adds (GoesOn catalogue block rest m longer) c.loop-row.found.items w.extend.new.found.items) more
          (subst (λ z. Adds (GoesOn catalogue block rest c.union-more.result z) c.loop-row.found.items w.extend.new.found.items) c.with_row-longer.ensures w.in_ok-extend.ensures))
      | else-holds w ↦
          subst (λ (v : Vec (List ℕ) Global). Adds (GoesOn catalogue block rest now longer) c.loop-row.found.items v.items) (sym w.found-is)
          (Adds-none (GoesOn catalogue block rest now longer) c.loop-row.found.items
          (GoesOn-fails catalogue block c.requires.block mask step c.args.rows are.0 rest c.loop-row.row (AreSteps-inside catalogue block now (all_entries block) rest are.1)
          (subst (λ z. all_hold catalogue block step.conditions z block.conjuncts ≡ false) c.with_row-longer.ensures (sym c.holds.ensures ∙ w.if-holds.false))))
    ] in
    record {
      found = passed-more catalogue block c.requires.block mask step c.args.rows are.0 rest c.loop-row.row c.next-row.result c.args.found.now.items c.loop-row.found.items c.if-holds.found.items
          c.requires.begun fits.0 fits.1 next c.loop-row.invariant.found part;
      fits = λ there. let found = next.there there in ((let above = fits.0 in let behind = found.0 in omega arith), found.1, found.2);
    }

pub returns : goal.returns
returns t c =
    subst (λ steps. Adds (GoesOn c.args.catalog.now c.args.self.now steps c.args.mask c.args.rows) c.args.found.now.items c.loop-row.found.items) (sym c.in-Some.ensures.cases.0)
    (passed-all c.args.catalog.now c.args.self.now c.args.mask c.in-Some.step.now c.args.rows c.in-Some.rest.now c.loop-row.row c.args.found.now.items c.loop-row.found.items
    (omega arith) c.loop-row.invariant.found)

-- One entry more is in the mask, and the steps lead to all entries where there is no next one.
use Rattle.std.proofs.Common.{ℕ, ◌≡◌, ◌∙◌, ◌-◌, ◌<◌, ◌≤◌, ◌^◌, ◌++◌, [], ◌∷◌, true, false, None, Some, length, bit_or, sym, ap, subst, inl, inr, arith}
use Rattle.std.specs.List.{AllByRecursion}
use Rattle.std.specs.Prelude.{IfNone, IfSome, Option}
use Rattle.rs_order.proofs.EachFacts.{each-push}
use Rattle.rs_rank.specs.Masks.{has_number, mask_of}
use Rattle.rs_query.specs.Pieces.{BeginsAt}
use Rattle.rs_query.specs.Searching.{AreSteps, IsRanged}
use Rattle.rs_query.proofs.MaskStepFacts.{all-numbers, grows, has-more, has-own, stays-below}
use Rattle.rs_query.proofs.PieceFacts.{BeginsAt-more, BeginsAt-one}
use Rattle.rs_query.proofs.StepsFacts.{AreSteps-push}
use Rattle.rs_query.proofs.block.Block.steps.Goals as goal

pub loop-next-smaller : goal.loop-next-smaller
loop-next-smaller c =
    let count = length c.args.self.now.from in
    let old = c.loop-next.invariant in
    let some = subst (λ (o : Option ℕ). IfSome o (λ entry. (1 ≤ entry) × (entry ≤ count) × (has_number c.loop-next.mask entry ≡ false))) c.in-Some.is old.some in
    let is : c.union-mask.result ≡ bit_or c.loop-next.mask (mask_of c.in-Some.entry) = c.union-mask.ensures ∙ ap (bit_or c.loop-next.mask) c.mask_of.ensures in
    let more : c.loop-next.mask < c.union-mask.result = subst (λ m. c.loop-next.mask < m) (sym is) (grows c.loop-next.mask c.in-Some.entry some.2) in
    let below : c.union-mask.result < 2 ^ count = subst (λ m. m < 2 ^ count) (sym is) (stays-below c.loop-next.mask c.in-Some.entry count old.below some.0 some.1) in
    let smaller : 2 ^ count - c.union-mask.result < 2 ^ count - c.loop-next.mask = omega arith in
    smaller

pub loop-next-preserved : goal.loop-next-preserved
loop-next-preserved c =
    let catalogue = c.args.catalog.now in
    let block = c.args.self.now in
    let count = length block.from in
    let mask = c.loop-next.mask in
    let entry = c.in-Some.entry in
    let step = c.in_ok-step.field-0 in
    let steps = c.loop-next.steps.items in
    let old = c.loop-next.invariant in
    let some = subst (λ (o : Option ℕ). IfSome o (λ e. (1 ≤ e) × (e ≤ count) × (has_number mask e ≡ false))) c.in-Some.is old.some in
    let is : c.union-mask.result ≡ bit_or mask (mask_of entry) = c.union-mask.ensures ∙ ap (bit_or mask) c.mask_of.ensures in
    let leads : bit_or mask (mask_of step.entry) ≡ c.union-mask.result = ap (λ e. bit_or mask (mask_of e)) c.in_ok-step.ensures.entry ∙ sym is in
    let more : mask < c.union-mask.result = subst (λ m. mask < m) (sym is) (grows mask entry some.2) in
    record {
      steps = subst (AreSteps catalogue block 0 c.union-mask.result) (sym c.in_ok-push.ensures.items)
          (subst (λ m. AreSteps catalogue block 0 m (steps ++ step ∷ [])) leads (AreSteps-push catalogue block 0 mask steps step old.steps c.in_ok-step.ensures.step));
      ranges = subst (AllByRecursion (IsRanged catalogue block c.args.old.now c.args.pivot)) (sym c.in_ok-push.ensures.items)
          (each-push (IsRanged catalogue block c.args.old.now c.args.pivot) steps step old.ranges c.in_ok-step.ensures.range);
      below = subst (λ m. m < 2 ^ count) (sym is) (stays-below mask entry count old.below some.0 some.1);
      begun = inr (elim old.begun [
        | inl none ↦
            let both : Some c.args.pivot ≡ Some entry = sym (old.first none) ∙ c.in-Some.is in
            let same : entry ≡ c.args.pivot = cc in
            subst (λ m. has_number m c.args.pivot ≡ true) (sym is) (subst (λ e. has_number (bit_or mask (mask_of entry)) e ≡ true) same (has-own mask entry))
        | inr has ↦ subst (λ m. has_number m c.args.pivot ≡ true) (sym is) (has-more mask entry c.args.pivot has)
      ]);
      leads = inr (subst (BeginsAt c.args.pivot) (sym c.in_ok-push.ensures.items)
          (elim old.leads [
            | inl none ↦
                let both : Some c.args.pivot ≡ Some entry = sym (old.first none.0) ∙ c.in-Some.is in
                let same : entry ≡ c.args.pivot = cc in
                BeginsAt-one c.args.pivot steps step none.1 (c.in_ok-step.ensures.entry ∙ same)
            | inr begins ↦ BeginsAt-more c.args.pivot steps step begins
          ]));
      first = λ none. absurd (omega arith);
      some = c.next_entry-next.ensures.some;
      none = c.next_entry-next.ensures.none;
    }

pub returns-clause-steps : goal.returns-clause-steps
returns-clause-steps c =
    let count = length c.args.self.now.from in
    let old = c.loop-next.invariant in
    let all = subst (λ (o : Option ℕ). IfNone o ((entry : ℕ) → 1 ≤ entry → entry ≤ count → has_number c.loop-next.mask entry ≡ true)) c.in_default.is old.none in
    subst (λ m. AreSteps c.args.catalog.now c.args.self.now 0 m c.loop-next.steps.items) (all-numbers c.loop-next.mask count old.below all) old.steps

pub returns-clause-first : goal.returns-clause-first
returns-clause-first c =
    let old = c.loop-next.invariant in
    elim old.leads [
      | inl none ↦ absurd (let none_left : None ≡ Some c.args.pivot = sym c.in_default.is ∙ old.first none.0 in cc)
      | inr begins ↦ begins
    ]

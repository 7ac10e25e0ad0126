-- Where no entry is taken there is one choice.
use Rattle.std.proofs.Common.{ℕ, ◌≡◌, ◌∙◌, true, false, List, [], ◌∷◌, cond, length, sym, ap, subst, inl, refl, arith}
use Rattle.std.specs.List.{filter}
use Rattle.rs_order.specs.Climbing.{In}
use Rattle.rs_query.specs.Combinations.{satisfies}
use Rattle.rs_sample.proofs.EarlyFacts.{choices-none}
use Rattle.rs_sample.proofs.combinations.without_entries.Goals as goal

-- the choice of no row
abbrev none : List ℕ
none = 0 ∷ 0 ∷ 0 ∷ 0 ∷ 0 ∷ 0 ∷ []

pub returns-then-not-satisfies : goal.returns-then-not-satisfies
returns-then-not-satisfies c =
    let one = choices-none c.args.samples.now c.requires.six in
    record {
      few = (let nothing = ap length c.new.ensures.items in omega arith);
      value = λ catalogue formed truths.
          let fails : satisfies catalogue c.args.block.now 0 none ≡ false =
          sym (c.satisfies.ensures catalogue formed truths (subst (In none) (sym one) (inl refl))) ∙ c.if-not-satisfies.true in
          c.new.ensures.items ∙ ap (λ b. cond b (none ∷ []) []) (sym fails) ∙ ap (filter (satisfies catalogue c.args.block.now 0)) (sym one);
    }

pub returns : goal.returns
returns c =
    let one = choices-none c.args.samples.now c.requires.six in
    record {
      few = (let items : c.in_ok-vec.field-0.items ≡ none ∷ [] = c.in_ok-vec.ensures.items in let count = ap length items in let all = ap length one in omega arith);
      value = λ catalogue formed truths.
          let holds : satisfies catalogue c.args.block.now 0 none ≡ true =
          sym (c.satisfies.ensures catalogue formed truths (subst (In none) (sym one) (inl refl))) ∙ c.if-not-satisfies.false in
          c.in_ok-vec.ensures.items ∙ ap (λ b. cond b (none ∷ []) []) (sym holds) ∙ ap (filter (satisfies catalogue c.args.block.now 0)) (sym one);
    }

-- A mask of eight bits has no number beyond them.
use Rattle.std.proofs.Common.{◌≡◌, ◌<◌, ◌≤◌, ◌-◌, ◌/◌, ◌%◌, ◌^◌, ◌==◌, false, sym, ◌∙◌, rules, arith, ltb}
use Rattle.std.proofs.lemmas.Bool.Decides.{nat_tests}
use Rattle.rs_plan.proofs.DecidingFacts.{past-mask}
use Rattle.rs_plan.proofs.valid.has_entry.Goals as goal

pub returns-else-place-lt8 : goal.returns-else-place-lt8
returns-else-place-lt8 c =
    let far : 8 ≤ c.args.entry - 1 = rw c.saturating_sub-place.ensures at c.if-place-lt8.false in
    let small : c.args.mask < 2 ^ 8 = search rules in
    let none : (c.args.mask / 2 ^ (c.args.entry - 1) % 2 == 1) ≡ false = past-mask c.args.mask (c.args.entry - 1) small far in
    let no : ltb c.saturating_sub-place.result 8 ≡ false = grind (arith, nat_tests) in
    no ∙ sym none

-- All masks but one.
use Rattle.std.proofs.Common.{◌∙◌, ◌-◌, ◌^◌, ap, arith}
use Rattle.std.proofs.lemmas.Nat.{pow_pos}
use Rattle.rs_enum.proofs.FilledFacts.{masks-most}
use Rattle.rs_enum.proofs.grid.all_terms.Goals as goal

pub overflow_sub-all : goal.overflow_sub-all
overflow_sub-all c = let some = pow_pos c.len.result in let masks = c.masks-count.ensures in omega arith

pub overflow_cast-result : goal.overflow_cast-result
overflow_cast-result c =
    let few = c.requires in
    let count = c.len.ensures in
    let most = masks-most c.len.result c.masks-count.result c.masks-count.ensures (omega arith) in
    omega arith

pub returns : goal.returns
returns c = ap (λ n. n - 1) (c.masks-count.ensures ∙ ap (λ n. 2 ^ n) c.len.ensures)

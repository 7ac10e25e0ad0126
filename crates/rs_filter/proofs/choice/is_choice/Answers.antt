-- An entry that has such a number leaves the others to decide.
use Rattle.std.proofs.Common.{◌≡◌, ◌<◌, ◌/◌, ◌%◌, ◌^◌, ◌&&◌, suc, true, eqb, length, drop, get_or, sym, ◌∙◌, ap, subst, add-one, arith}
use Rattle.rs_filter.specs.Matching.{is_choice, is_row_number}
use Rattle.rs_filter.proofs.SideFacts.{choice-step}
use Rattle.rs_filter.proofs.choice.is_choice.Goals as goal

pub loop-place-preserved : goal.loop-place-preserved
loop-place-preserved c =
    let mask = c.args.mask in
    let sizes = c.args.sizes.now in
    let rows = c.args.rows.now in
    let place = c.loop-place.place in
    let in_sizes : place < length sizes = omega arith in
    let in_rows : place < length rows = omega arith in
    let one : is_row_number (eqb (mask / 2 ^ place % 2) 0) (get_or sizes place 0) (get_or rows place 0) ≡ true = sym c.is_row_number.ensures ∙ c.if-not-is_row_number.false in
    let step = choice-step mask place sizes rows in_sizes in_rows ∙ ap (λ b. b && is_choice (mask / 2 ^ suc place) (drop (suc place) sizes) (drop (suc place) rows)) one in
    subst (λ n. is_choice (mask / 2 ^ n) (drop n sizes) (drop n rows) ≡ is_choice mask sizes rows) (sym (add-one place)) (sym step ∙ c.loop-place.invariant)

use Rattle.std.proofs.Common.{◌≡◌, Some, None, get_or, ap, sym, ◌∙◌}
use Rattle.rs_table.specs.Column.{place_of}
use Rattle.rs_bind.proofs.PlaceFacts.{placed-None, placed-Some}
use Rattle.rs_bind.proofs.columns.place_in.Goals as goal

pub returns-in_err-place : goal.returns-in_err-place
returns-in_err-place c =
    let nowhere : place_of c.args.name.now c.args.schema.now ≡ None = sym c.place.ensures ∙ c.in_err-place.was in
    c.from_residual.ensures ∙ sym (placed-None c.args.name.now c.args.schema.now nowhere)

pub returns : goal.returns
returns c =
    let found : place_of c.args.name.now c.args.schema.now ≡ Some c.in_ok-place.place = sym c.place.ensures ∙ c.in_ok-place.was in
    ap (λ columns. Some (c.in_ok-place.place, (get_or columns c.in_ok-place.place c.index-columns-place.result).1)) c.columns.ensures.value
    ∙ sym (placed-Some c.args.name.now c.args.schema.now c.in_ok-place.place c.index-columns-place.result found)

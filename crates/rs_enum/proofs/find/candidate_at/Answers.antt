-- What stands at the place.
use Rattle.std.proofs.Common.{◌≡◌, ◌∙◌, refl, sym, ap, arith, length}
use Rattle.std.specs.Prelude.{Option, Some, option_and_then, slice_get}
use Rattle.std.proofs.lemmas.Option.{slice_get_past, slice_get_read}
use Rattle.rs_enum.specs.declared.candidate.Candidate.{Candidate}
use Rattle.rs_enum.proofs.find.candidate_at.Goals as goal

pub returns-in-Some : goal.returns-in-Some
returns-in-Some c =
    let own = c.in-Some.ensures.lookup in
    let there : slice_get c.args.places.now c.place_of-place.result ≡ Some c.in-Some.found.now =
    slice_get_read c.args.places.now (length c.args.places.now) c.place_of-place.result c.in-Some.found.now refl own.3.0 (own.4 (omega arith) c.in-Some.found.now) in
    ap (option_and_then (λ (found : Option Candidate). found)) (sym there ∙ ap (λ i. slice_get c.args.places.now i) c.place_of-place.ensures)

pub returns-in-None : goal.returns-in-None
returns-in-None c =
    let past = slice_get_past c.args.places.now c.place_of-place.result c.in-None.ensures.lookup.3 in
    ap (option_and_then (λ (found : Option Candidate). found)) (sym past ∙ ap (λ i. slice_get c.args.places.now i) c.place_of-place.ensures)

-- One more row has its end.
use Rattle.std.proofs.Common.{◌≡◌, ◌∙◌, ◌+◌, ◌-◌, ◌<◌, ◌≤◌, length, refl, sym, ap, arith, unwrap_or}
use Rattle.std.specs.Prelude.{slice_get}
use Rattle.std.proofs.lemmas.Option.{slice_get_read}
use Rattle.rs_query.specs.EqualRows.{end_of}
use Rattle.rs_query.proofs.EndFacts.{IsEnded-step}
use Rattle.rs_query.proofs.equal_rows.next_ends.Goals as goal

pub loop-place-preserved : goal.loop-place-preserved
loop-place-preserved c =
    let now = c.loop-place.next.items in
    let place = c.loop-place.place in
    let next = c.index.result.now in
    let most = c.loop-place.invariant.most in
    let sized = c.loop-place.invariant.ended.sized in
    let some : 1 ≤ place = omega arith in
    let within : place - 1 < length now = omega (arith, some, most, sized) in
    let back : place - 1 + 1 ≡ place = omega (arith, some) in
    let at : next ≡ unwrap_or (slice_get now (place - 1)) 0 = sym (ap (λ o. unwrap_or o 0) (slice_get_read now (length now) (place - 1) next refl within c.index.ensures)) in
    let is_end : c.end_of-end.result ≡ end_of now (unwrap_or (slice_get now (place - 1)) 0) place =
    c.end_of-end.ensures
    ∙ ap (λ list. end_of list next (place - 1 + 1)) c.deref.ensures.value
    ∙ ap (λ n. end_of now n (place - 1 + 1)) at
    ∙ ap (end_of now (unwrap_or (slice_get now (place - 1)) 0)) back in
    record {
      most = omega (arith, some, most);
      ended = IsEnded-step c.args.next.items now place c.end_of-end.result some most c.requires.lead c.loop-place.invariant.ended is_end;
    }

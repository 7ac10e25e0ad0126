-- The place is put behind those that the map has, or is the first of its values.
use Rattle.std.proofs.Common.{◌∙◌, ap, rules}
use Rattle.std.specs.BTreeMap.{insert_entry}
use Rattle.rs_hrjn.proofs.MapFacts.{key_cmp, place-inserted, place-pushed, places-kept}
use Rattle.rs_hrjn.proofs.drawn.add_place.Goals as goal

pub returns-in_err-push-in-Some-clause-err : goal.returns-in_err-push-in-Some-clause-err
returns-in_err-push-in-Some-clause-err c =
    let kept = places-kept c.args.places.now c.args.values (c.get_mut.follows.lender c.push.new.self) c.in-Some.list.now c.push.new.self c.in-Some.ensures.value c.in_err-push-in-Some.ensures.items (c.get_mut.follows.holds c.push.new.self).0 in
    search (rules, kept)

pub returns-in_ok-push-in-Some-clause-ok : goal.returns-in_ok-push-in-Some-clause-ok
returns-in_ok-push-in-Some-clause-ok c =
    place-pushed c.args.places.now c.args.values (c.get_mut.follows.lender c.push.new.self) c.in-Some.list.now c.push.new.self c.args.place c.in-Some.ensures.value c.in_ok-push-in-Some.ensures.items (c.get_mut.follows.holds c.push.new.self).0

pub returns-in_ok-insert-in-None-clause-ok : goal.returns-in_ok-insert-in-None-clause-ok
returns-in_ok-insert-in-None-clause-ok c =
    place-inserted c.args.places.now c.args.values c.insert.new.self c.in_ok-list-in-None.list c.args.place c.in-None.ensures.value c.in_ok-list-in-None.ensures.items
    (c.in_ok-insert-in-None.ensures.entries ∙ ap (λ m. insert_entry key_cmp m.entries c.args.values c.in_ok-list-in-None.list) c.get_mut.follows.holds-at-none)

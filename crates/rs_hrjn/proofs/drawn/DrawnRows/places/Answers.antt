-- The map has exactly the places of the rows with these join values.
use Rattle.std.proofs.Common.{◌<◌, length, sym, ◌∙◌, ap, subst, arith}
use Rattle.std.proofs.lemmas.List.{length-map}
use Rattle.std.specs.List.{AllByRecursion}
use Rattle.rs_hrjn.specs.Drawn.{DrawnRow, places_alike, rows_of}
use Rattle.rs_hrjn.specs.Index.{places_or_none}
use Rattle.rs_hrjn.proofs.AlikeFacts.{length-places_alike}
use Rattle.rs_hrjn.proofs.IndexFacts.{places_alike-within}
use Rattle.rs_hrjn.proofs.MapFacts.{found-lists, found-none}
use Rattle.rs_hrjn.proofs.drawn.DrawnRows.places.Goals as goal

pub returns-in-Some-clause-places : goal.returns-in-Some-clause-places
returns-in-Some-clause-places c =
    c.deref.ensures.value
    ∙ sym (ap places_or_none (found-lists c.self.inside.places c.args.values.now c.in-Some.places.now c.in-Some.ensures.value))
    ∙ c.self.invariant.finds c.args.values.now.items
    ∙ ap (places_alike c.args.values.now.items 0) c.self.view_is

pub returns-in-Some-clause-within : goal.returns-in-Some-clause-within
returns-in-Some-clause-within c =
    subst (AllByRecursion (λ place. place < length (rows_of c.args.self.now))) (sym (returns-in-Some-clause-places c))
    (places_alike-within c.args.values.now.items 0 (length (rows_of c.args.self.now)) c.args.self.now (omega (arith, length-map c.args.self.now (λ (drawn : DrawnRow). drawn.row))))

pub returns-in-Some-clause-count : goal.returns-in-Some-clause-count
returns-in-Some-clause-count c = ap length (returns-in-Some-clause-places c) ∙ length-places_alike c.args.values.now.items 0 c.args.self.now

pub returns-in-None-clause-places : goal.returns-in-None-clause-places
returns-in-None-clause-places c =
    sym (ap places_or_none (found-none c.self.inside.places c.args.values.now c.in-None.ensures.value))
    ∙ c.self.invariant.finds c.args.values.now.items
    ∙ ap (places_alike c.args.values.now.items 0) c.self.view_is

pub returns-in-None-clause-count : goal.returns-in-None-clause-count
returns-in-None-clause-count c = ap length (returns-in-None-clause-places c) ∙ length-places_alike c.args.values.now.items 0 c.args.self.now

-- A list that comes in has the next place.
use Rattle.std.proofs.Common.{◌≡◌, ◌++◌, ◌∷◌, [], ℕ, List, false, length, sym, ◌∙◌, ap}
use Rattle.std.proofs.lemmas.List.{length-map}
use Rattle.rs_value.specs.declared.value.Value.{Value}
use Rattle.rs_outputs.specs.Places.{by_place, entries_of}
use Rattle.rs_outputs.specs.Seen.{has_list}
use Rattle.rs_outputs.proofs.PlaceFacts.{Key, by_place-inserted, places-inserted}
use Rattle.rs_outputs.proofs.placed.Placed.add.Goals as goal

next : (c : goal.In_default) → c.len-place.result ≡ length (entries_of c.self.inside.places)
next c = c.len-place.ensures.len ∙ sym (length-map c.self.inside.places.entries (λ (e : Key × ℕ). (e.0.items, e.1)))

unseen : (c : goal.In_default) → has_list c.args.values.items (by_place (entries_of c.self.inside.places)) ≡ false
unseen c = ap (has_list c.args.values.items) c.self.view_is ∙ c.requires

pub invariant_of-self-2 : goal.invariant_of-self-2
invariant_of-self-2 c = places-inserted c.self.inside.places c.insert.new.self c.args.values c.len-place.result c.self.invariant (next c) (unseen c) c.in_default.ensures.entries

pub returns-clause-ok : goal.returns-clause-ok
returns-clause-ok c =
    by_place-inserted c.self.inside.places c.insert.new.self c.args.values c.len-place.result c.self.invariant (next c) (unseen c) c.in_default.ensures.entries
    ∙ ap (λ (lists : List (List Value)). lists ++ c.args.values.items ∷ []) c.self.view_is

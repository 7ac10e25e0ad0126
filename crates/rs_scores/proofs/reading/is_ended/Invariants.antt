use Rattle.std.proofs.Common.{◌≡◌, drop}
use Rattle.rs_scores.specs.Places.{place_behind}
use Rattle.rs_scores.specs.declared.place.Place.TheVariants.{Record}
use Rattle.rs_scores.proofs.reading.is_ended.Given as goal

abbrev pub invariant-loop-byte : goal.invariant-loop-byte
invariant-loop-byte l = place_behind l.place (drop l.byte-index l.byte-items) ≡ place_behind Record l.byte-items

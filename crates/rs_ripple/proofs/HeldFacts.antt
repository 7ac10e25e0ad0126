-- What the join does next is told by the two kept thresholds and the first key held.
use Rattle.std.proofs.Common.{◌≡◌, ℕ, List, [], ◌∷◌, Option, Some, refl, sym, ◌∙◌, ap}
use Rattle.std.specs.List.{slice_get}
use Rattle.std.specs.Option.{option_map}
use Rattle.rs_order.specs.Climbing.{Climbs}
use Rattle.rs_order.proofs.ClimbingFacts.{Climbs-map}
use Rattle.rs_rank.specs.declared.key.Key.{Key}
use Rattle.rs_rank.specs.declared.row.RankRow.{RankRow}
use Rattle.rs_rank.specs.Keys.{key_cmp}
use Rattle.rs_rank.specs.Rows.{first_key, rows_of_sums}
use Rattle.rs_ripple.specs.declared.side.Drawn.{Drawn}
use Rattle.rs_ripple.specs.Ripple.{AreThresholds, Ripple, ask_drawn, ask_first, ask_of, right_threshold, sides_of}

-- the first of the rows of keys and sums has the first key
pub first_key-sums : (pairs : List (Key × ℕ)) → first_key (rows_of_sums pairs) ≡ option_map (λ pair. pair.0) (slice_get pairs 0)
first_key-sums [] = refl
first_key-sums (pair ∷ rest) = refl

-- their keys rise where those do
pub rising-sums : (pairs : List (Key × ℕ)) → Climbs key_cmp (λ pair. pair.0) pairs → Climbs key_cmp (λ pair. pair.0) (rows_of_sums pairs)
rising-sums pairs climbs = Climbs-map key_cmp (λ (pair : Key × RankRow). pair.0) (λ (pair : Key × ℕ). (pair.0, record { ids = pair.0.ids; sum = pair.1 })) pairs climbs

-- where both sides have a row, the thresholds are those that are kept
pub ask_of-kept : (ripple : Ripple) (lefts rights : Drawn) (to_left to_right : Option Key) → ripple.left.drawn ≡ Some lefts → ripple.right.drawn ≡ Some rights → AreThresholds to_left to_right (sides_of ripple.weights ripple.left ripple.right) →
    ask_first to_left to_right (first_key ripple.held) ≡ ask_of ripple
ask_of-kept ripple lefts rights to_left to_right in_left in_right are =
    let kept = are lefts rights in_left in_right in
    sym (ap (λ drawn. ask_drawn drawn ripple.right.drawn ripple) in_left
    ∙ ap (λ drawn. ask_drawn (Some lefts) drawn ripple) in_right
    ∙ ap (λ threshold. ask_first threshold (right_threshold ripple lefts rights) (first_key ripple.held)) (sym kept.0)
    ∙ ap (λ threshold. ask_first to_left threshold (first_key ripple.held)) (sym kept.1))

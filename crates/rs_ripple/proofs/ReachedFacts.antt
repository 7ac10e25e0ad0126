-- The pair taken last came at or before both thresholds, and still does where a side goes on or ends.
use Rattle.std.proofs.Common.{◌≡◌, Option, Some, None, bit_and, refl, sym, ◌∙◌, ap, inl, inr}
use Rattle.std.specs.Cmp.{tied_itself}
use Rattle.std.specs.Ordering.{is_gt}
use Rattle.rs_rank.specs.declared.key.Key.{Key}
use Rattle.rs_rank.specs.Merging.{CanMerge}
use Rattle.rs_rank.proofs.OrderFacts.{IsBefore-merge_key, key_cmp-total}
use Rattle.rs_ripple.specs.declared.side.Drawn.{Drawn}
use Rattle.rs_ripple.specs.Ripple.{AreKeysOf, AreOfOneBlock, CanJoin, IsBehindDrawn, IsKeyOf, IsOfBlock, IsTakenReached, Ripple, drawn_with, left_drawn, left_ended, pair_key, right_drawn, right_ended, sides_of}
use Rattle.rs_ripple.proofs.JoinedFacts.{reached-later}

-- the sides alone tell the thresholds
pub reached-sides : (ripple : Ripple) (taken : Option Key) (left right : Option Drawn) → IsTakenReached taken left right ripple → IsTakenReached taken left right (sides_of ripple.weights ripple.left ripple.right)
reached-sides ripple None left right reached = tt
reached-sides ripple (Some t) None right reached = reached
reached-sides ripple (Some t) (Some l) None reached = reached
reached-sides ripple (Some t) (Some l) (Some r) reached = reached

pub sides-reached : (ripple : Ripple) (taken : Option Key) (left right : Option Drawn) → IsTakenReached taken left right (sides_of ripple.weights ripple.left ripple.right) → IsTakenReached taken left right ripple
sides-reached ripple None left right reached = tt
sides-reached ripple (Some t) None right reached = reached
sides-reached ripple (Some t) (Some l) None reached = reached
sides-reached ripple (Some t) (Some l) (Some r) reached = reached

-- the end of a side puts its threshold beyond all keys
pub left_end-reached : (ripple : Ripple) (taken : Option Key) (left right : Option Drawn) → IsTakenReached taken left right ripple → IsTakenReached taken left right (left_ended ripple)
left_end-reached ripple None left right reached = tt
left_end-reached ripple (Some t) None right reached = reached
left_end-reached ripple (Some t) (Some l) None reached = reached
left_end-reached ripple (Some t) (Some l) (Some r) reached = (refl, reached.1)

pub right_end-reached : (ripple : Ripple) (taken : Option Key) (left right : Option Drawn) → IsTakenReached taken left right ripple → IsTakenReached taken left right (right_ended ripple)
right_end-reached ripple None left right reached = tt
right_end-reached ripple (Some t) None right reached = reached
right_end-reached ripple (Some t) (Some l) None reached = reached
right_end-reached ripple (Some t) (Some l) (Some r) reached = (reached.0, refl)

module _ (ripple : Ripple) (sides : CanJoin ripple.weights ripple.left.side ripple.right.side) where
  -- keys of both sides and of one block can be merged
  can-merge : (a b : Key) → IsKeyOf ripple.weights ripple.left.side a → IsKeyOf ripple.weights ripple.right.side b → a.ids.block ≡ b.ids.block → CanMerge ripple.weights ripple.left.side.terms ripple.right.side.terms a b
  can-merge a b left right block = record {
    limits = sides.limits;
    sides = record {
      left_ids = left.ids;
      right_ids = right.ids;
      block = block;
      entries = ap (λ m. bit_and m b.ids.mask) left.entries ∙ ap (bit_and ripple.left.side.mask) right.entries ∙ sides.entries;
    };
    terms = sides.terms;
    left_bound = left.bound;
    right_bound = right.bound;
  }

  -- one key more of a side puts its threshold further on, and leaves the other one
  pub left_drawn-reached : (key : Key) → IsKeyOf ripple.weights ripple.left.side key → (taken : Option Key) (left right : Option Drawn)
      → AreKeysOf ripple.weights ripple.left.side left → AreKeysOf ripple.weights ripple.right.side right → AreOfOneBlock left right → IsOfBlock right key.ids.block → IsBehindDrawn left key
      → IsTakenReached taken left right ripple → IsTakenReached taken (Some (drawn_with left key)) right (left_drawn key ripple)
  left_drawn-reached key own None left right left_keys right_keys block same behind reached = tt
  left_drawn-reached key own (Some t) None right left_keys right_keys block same behind reached = absurd reached
  left_drawn-reached key own (Some t) (Some l) None left_keys right_keys block same behind reached = absurd reached
  left_drawn-reached key own (Some t) (Some l) (Some r) left_keys right_keys block same behind reached = (
    reached-later ripple.left.ended t (pair_key ripple l.last r.first) (pair_key ripple key r.first) reached.0
        (IsBefore-merge_key ripple.weights ripple.left.side.terms ripple.right.side.terms l.last r.first key r.first
        (can-merge l.last r.first left_keys.1 right_keys.0 (left_keys.2 ∙ sym block)) (can-merge key r.first own right_keys.0 (sym same))
        (ap is_gt behind) (ap is_gt (tied_itself key_cmp-total r.first)) (inl behind)),
    reached.1,
  )

  pub right_drawn-reached : (key : Key) → IsKeyOf ripple.weights ripple.right.side key → (taken : Option Key) (left right : Option Drawn)
      → AreKeysOf ripple.weights ripple.left.side left → AreKeysOf ripple.weights ripple.right.side right → AreOfOneBlock left right → IsOfBlock left key.ids.block → IsBehindDrawn right key
      → IsTakenReached taken left right ripple → IsTakenReached taken left (Some (drawn_with right key)) (right_drawn key ripple)
  right_drawn-reached key own None left right left_keys right_keys block same behind reached = tt
  right_drawn-reached key own (Some t) None right left_keys right_keys block same behind reached = absurd reached
  right_drawn-reached key own (Some t) (Some l) None left_keys right_keys block same behind reached = absurd reached
  right_drawn-reached key own (Some t) (Some l) (Some r) left_keys right_keys block same behind reached = (
    reached.0,
    reached-later ripple.right.ended t (pair_key ripple l.first r.last) (pair_key ripple l.first key) reached.1
        (IsBefore-merge_key ripple.weights ripple.left.side.terms ripple.right.side.terms l.first r.last l.first key
        (can-merge l.first r.last left_keys.0 right_keys.1 (sym block ∙ sym right_keys.2)) (can-merge l.first key left_keys.0 own same)
        (ap is_gt (tied_itself key_cmp-total l.first)) (ap is_gt behind) (inr behind)),
  )

-- A side of a join that is asked has not ended.
use Rattle.std.proofs.Common.{◌≡◌, ◌∙◌, Bool, true, false, cond, Option, Some, None, refl, sym, ap, subst}
use Rattle.rs_rank.specs.declared.ask.JoinAsk.TheVariants.{End, NeedLeft, NeedRight}
use Rattle.rs_ripple.specs.declared.side.Drawn.{Drawn}
use Rattle.rs_ripple.specs.Ripple.{Ripple, ask_between, ask_drawn, ask_of, left_threshold, pair_key, right_threshold}
use Rattle.rs_ripple.proofs.JoinedFacts.{not_left, not_right}

-- a side that has ended isn't needed
left-over : (ripple : Ripple) → ripple.left.ended ≡ true → ask_of ripple ≡ NeedLeft → ⊥
left-over ripple over need = go ripple.left.drawn ripple.right.drawn need where
  go : (left right : Option Drawn) → ask_drawn left right ripple ≡ NeedLeft → ⊥
  go None right e = let ends : End ≡ NeedLeft = sym (ap (λ b. cond b End NeedLeft) over) ∙ e in absurd (cc)
  go (Some left) None e = both ripple.right.ended e where
    both : (b : Bool) → cond b End NeedRight ≡ NeedLeft → ⊥
    both true f = cc
    both false f = cc
  go (Some left) (Some right) e =
      not_left (right_threshold ripple left right) ripple.held
      (subst (λ b. ask_between (cond b None (Some (pair_key ripple left.last right.first))) (right_threshold ripple left right) ripple.held ≡ NeedLeft) over e)

right-over : (ripple : Ripple) → ripple.right.ended ≡ true → ask_of ripple ≡ NeedRight → ⊥
right-over ripple over need = go ripple.left.drawn ripple.right.drawn need where
  go : (left right : Option Drawn) → ask_drawn left right ripple ≡ NeedRight → ⊥
  go None right e = both ripple.left.ended e where
    both : (b : Bool) → cond b End NeedLeft ≡ NeedRight → ⊥
    both true f = cc
    both false f = cc
  go (Some left) None e = let ends : End ≡ NeedRight = sym (ap (λ b. cond b End NeedRight) over) ∙ e in absurd (cc)
  go (Some left) (Some right) e =
      not_right (left_threshold ripple left right) ripple.held
      (subst (λ b. ask_between (left_threshold ripple left right) (cond b None (Some (pair_key ripple left.first right.last))) ripple.held ≡ NeedRight) over e)

is_false : (b : Bool) → (b ≡ true → ⊥) → b ≡ false
is_false true never = absurd (never refl)
is_false false never = refl

pub left-going : (ripple : Ripple) → ask_of ripple ≡ NeedLeft → ripple.left.ended ≡ false
left-going ripple need = is_false ripple.left.ended (λ over. left-over ripple over need)

pub right-going : (ripple : Ripple) → ask_of ripple ≡ NeedRight → ripple.right.ended ≡ false
right-going ripple need = is_false ripple.right.ended (λ over. right-over ripple over need)

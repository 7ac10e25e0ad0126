-- The asks of a join, side by side; and what the next ask of an operator of two sides tells.
use Rattle.std.proofs.Common.{◌≡◌, ℕ, suc, ◌<◌, ◌≤◌, List, [], ◌∷◌, length, Option, Some, None, refl, sym, ◌∙◌, ap, subst, arith}
use Rattle.std.proofs.lemmas.List.{length-map}
use Rattle.std.proofs.lemmas.Option.{slice_get_past}
use Rattle.std.specs.List.{slice_get}
use Rattle.std.specs.Cmp.{IsTotalOrder}
use Rattle.std.specs.declared.cmp.Ordering.{Ordering}
use Rattle.rs_order.specs.Climbing.{Climbs}
use Rattle.rs_order.specs.Schedule.{Left, Right, SideAsk, asked, numbers_from, ask_numbers}
use Rattle.rs_order.proofs.ScheduleFacts.{asked_left-most, asked_right-most, left_scheduled, right_scheduled}
use Rattle.rs_rank.specs.declared.ask.JoinAsk.{JoinAsk}
use Rattle.rs_rank.specs.declared.ask.JoinAsk.TheVariants.{NeedLeft, NeedRight, Ready, End}
use Rattle.rs_rank.specs.Turns.{IsNextAsk, join_schedule, left_asks, left_keys, right_asks, right_keys}

-- the left side's asks
pub left_numbers : {K : Type 0} (cmp : K → K → Ordering) → IsTotalOrder cmp → (merge : K → K → K) (lefts rights : List K) (bar : Option K) → Climbs cmp (λ key. key) (left_keys merge lefts rights) → ask_numbers Left (join_schedule cmp merge lefts rights bar) ≡ numbers_from 1 (left_asks cmp merge lefts rights bar)
left_numbers cmp o merge [] [] bar climbs = refl
left_numbers cmp o merge [] (right ∷ rights) bar climbs = refl
left_numbers cmp o merge (left ∷ lefts) rights bar climbs =
    left_scheduled cmp o (left_keys merge (left ∷ lefts) rights) (right_keys merge (left ∷ lefts) rights) bar climbs

-- the right side's asks
pub right_numbers : {K : Type 0} (cmp : K → K → Ordering) → IsTotalOrder cmp → (merge : K → K → K) (lefts rights : List K) (bar : Option K) → Climbs cmp (λ key. key) (right_keys merge lefts rights) → ask_numbers Right (join_schedule cmp merge lefts rights bar) ≡ numbers_from 1 (right_asks cmp merge lefts rights bar)
right_numbers cmp o merge [] rights bar climbs = refl
right_numbers cmp o merge (left ∷ lefts) rights bar climbs =
    right_scheduled cmp o (left_keys merge (left ∷ lefts) rights) (right_keys merge (left ∷ lefts) rights) bar climbs

-- no more merged keys than rows
left_keys-less : {K : Type 0} (merge : K → K → K) (lefts rights : List K) → length (left_keys merge lefts rights) ≤ length lefts
left_keys-less merge lefts [] = omega arith
left_keys-less merge lefts (right ∷ rights) = let same = length-map lefts (λ left. merge left right) in omega arith

right_keys-less : {K : Type 0} (merge : K → K → K) (lefts rights : List K) → length (right_keys merge lefts rights) ≤ length rights
right_keys-less merge [] rights = omega arith
right_keys-less merge (left ∷ lefts) rights = let same = length-map rights (merge left) in omega arith

-- a side is asked at most once more than it has rows
pub join_left-most : {K : Type 0} (cmp : K → K → Ordering) (merge : K → K → K) (lefts rights : List K) (bar : Option K) → asked Left (join_schedule cmp merge lefts rights bar) ≤ suc (length lefts)
join_left-most cmp merge [] rights bar = omega arith
join_left-most cmp merge (left ∷ lefts) rights bar =
    let most = asked_left-most cmp bar (left_keys merge (left ∷ lefts) rights) (right_keys merge (left ∷ lefts) rights) in
    let less = left_keys-less merge (left ∷ lefts) rights in
    omega arith

pub join_right-most : {K : Type 0} (cmp : K → K → Ordering) (merge : K → K → K) (lefts rights : List K) (bar : Option K) → asked Right (join_schedule cmp merge lefts rights bar) ≤ suc (length rights)
join_right-most cmp merge [] rights bar = omega arith
join_right-most cmp merge (left ∷ lefts) rights bar =
    let most = asked_right-most cmp bar (left_keys merge (left ∷ lefts) rights) (right_keys merge (left ∷ lefts) rights) in
    let less = right_keys-less merge (left ∷ lefts) rights in
    omega arith

-- what an ask tells of the schedule for the next answer
abbrev pub Tells : List SideAsk → List SideAsk → ℕ → ℕ → JoinAsk → Type 0
Tells asks made count all NeedLeft = slice_get asks (length made) ≡ Some (record { side = Left; number = suc (asked Left made) })
Tells asks made count all NeedRight = slice_get asks (length made) ≡ Some (record { side = Right; number = suc (asked Right made) })
Tells asks made count all Ready = (made ≡ asks) × (count < all)
Tells asks made count all End = (made ≡ asks) × (count ≡ all)

-- the asks of the two sides differ
other_side : (ask other : SideAsk) → ask.side ≡ Left → other.side ≡ Right → Some ask ≡ Some other → ⊥
other_side ask other left right e =
    let same : ask ≡ other = cc in
    differ (sym left ∙ ap (λ (a : SideAsk). a.side) same ∙ right)
  where
    differ : Left ≡ Right → ⊥
    differ f = cc

-- no ask is behind those of a schedule that are all made
none_behind : (asks made : List SideAsk) (ask : SideAsk) → made ≡ asks → slice_get asks (length made) ≡ Some ask → ⊥
none_behind asks made ask e f =
    let none : slice_get asks (length made) ≡ None = subst (λ m. slice_get asks (length m) ≡ None) (sym e) (slice_get_past asks (length asks) (omega arith)) in
    none_some (sym none ∙ f)
  where
    none_some : None ≡ Some ask → ⊥
    none_some g = cc

not_less : (m n : ℕ) → m < n → m ≡ n → ⊥
not_less m n less e = absurd (omega arith)

-- what an ask tells decides which one it is
pub next-ask : (asks made : List SideAsk) (count all : ℕ) (ask : JoinAsk) → Tells asks made count all ask → IsNextAsk asks made count all ask
next-ask asks made count all NeedLeft tells = record {
  left = (λ e. tells, λ f. refl);
  right = (λ e. absurd (cc), λ f. absurd (other_side (record { side = Left; number = suc (asked Left made) }) (record { side = Right; number = suc (asked Right made) }) refl refl (sym tells ∙ f)));
  ready = (λ e. absurd (cc), λ both. absurd (none_behind asks made (record { side = Left; number = suc (asked Left made) }) both.0 tells));
  end = (λ e. absurd (cc), λ both. absurd (none_behind asks made (record { side = Left; number = suc (asked Left made) }) both.0 tells));
}
next-ask asks made count all NeedRight tells = record {
  left = (λ e. absurd (cc), λ f. absurd (other_side (record { side = Left; number = suc (asked Left made) }) (record { side = Right; number = suc (asked Right made) }) refl refl (sym f ∙ tells)));
  right = (λ e. tells, λ f. refl);
  ready = (λ e. absurd (cc), λ both. absurd (none_behind asks made (record { side = Right; number = suc (asked Right made) }) both.0 tells));
  end = (λ e. absurd (cc), λ both. absurd (none_behind asks made (record { side = Right; number = suc (asked Right made) }) both.0 tells));
}
next-ask asks made count all Ready tells = record {
  left = (λ e. absurd (cc), λ f. absurd (none_behind asks made (record { side = Left; number = suc (asked Left made) }) tells.0 f));
  right = (λ e. absurd (cc), λ f. absurd (none_behind asks made (record { side = Right; number = suc (asked Right made) }) tells.0 f));
  ready = (λ e. tells, λ f. refl);
  end = (λ e. absurd (cc), λ both. absurd (not_less count all tells.1 both.1));
}
next-ask asks made count all End tells = record {
  left = (λ e. absurd (cc), λ f. absurd (none_behind asks made (record { side = Left; number = suc (asked Left made) }) tells.0 f));
  right = (λ e. absurd (cc), λ f. absurd (none_behind asks made (record { side = Right; number = suc (asked Right made) }) tells.0 f));
  ready = (λ e. absurd (cc), λ both. absurd (not_less count all both.1 tells.1));
  end = (λ e. tells, λ f. refl);
}

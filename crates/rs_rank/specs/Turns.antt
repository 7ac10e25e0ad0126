-- The order in which a join asks its two sides, over the finished lists of their keys; and what the next ask of an operator of two
-- sides is.
use Rattle.std.specs.Prelude.{ℕ, suc, ◌≡◌, ◌<◌, ◌↔◌, List, [], ◌∷◌, length, map, Option, Some}
use Rattle.std.specs.List.{slice_get}
use Rattle.std.specs.declared.cmp.Ordering.{Ordering}
use Rattle.rs_order.specs.Asks.{asks_for}
use Rattle.rs_order.specs.Schedule.{Left, Right, SideAsk, asked, schedule}
use Rattle.rs_rank.specs.declared.ask.JoinAsk.{JoinAsk}
use Rattle.rs_rank.specs.declared.ask.JoinAsk.TheVariants.{NeedLeft, NeedRight, Ready, End}

-- the keys of the left rows, each merged with the first right row's
abbrev pub left_keys : {K : Type 0} → (K → K → K) → List K → List K → List K
left_keys merge lefts [] = []
left_keys merge lefts (right ∷ rights) = map (λ left. merge left right) lefts

-- the keys of the right rows, the first left row's merged with each
abbrev pub right_keys : {K : Type 0} → (K → K → K) → List K → List K → List K
right_keys merge [] rights = []
right_keys merge (left ∷ lefts) rights = map (merge left) rights

-- the asks up to a bar, at least one of the left side; the right side is asked once the left one has a row. An ask behind
-- a row has that row's key, merged with the first one of the other side
abbrev pub join_schedule : {K : Type 0} → (K → K → Ordering) → (K → K → K) → List K → List K → Option K → List SideAsk
join_schedule cmp merge [] rights bar = record { side = Left; number = 1 } ∷ []
join_schedule cmp merge (left ∷ lefts) rights bar =
    schedule cmp (left_keys merge (left ∷ lefts) rights) (right_keys merge (left ∷ lefts) rights) bar

-- how often the left side is asked for a bar
abbrev pub left_asks : {K : Type 0} → (K → K → Ordering) → (K → K → K) → List K → List K → Option K → ℕ
left_asks cmp merge lefts rights bar = asks_for cmp (λ key. key) (left_keys merge lefts rights) bar

-- how often the right side is asked for a bar
abbrev pub right_asks : {K : Type 0} → (K → K → Ordering) → (K → K → K) → List K → List K → Option K → ℕ
right_asks cmp merge [] rights bar = 0
right_asks cmp merge (left ∷ lefts) rights bar = asks_for cmp (λ key. key) (right_keys merge (left ∷ lefts) rights) bar

-- what an operator of two sides does next is the next ask of the schedule for the next answer. It is ready exactly where all these
-- asks are made and there is a next answer, and ends exactly where all are made and there is none
pub record IsNextAsk (asks made : List SideAsk) (count all : ℕ) (ask : JoinAsk) : Type 0 where
  pub left : (ask ≡ NeedLeft) ↔ (slice_get asks (length made) ≡ Some (record { side = Left; number = suc (asked Left made) }))
  pub right : (ask ≡ NeedRight) ↔ (slice_get asks (length made) ≡ Some (record { side = Right; number = suc (asked Right made) }))
  pub ready : (ask ≡ Ready) ↔ ((made ≡ asks) × (count < all))
  pub end : (ask ≡ End) ↔ ((made ≡ asks) × (count ≡ all))

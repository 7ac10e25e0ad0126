-- The order in which an operator asks its two sides, over the finished lists of the keys of their asks.
use Rattle.std.specs.Prelude.{ℕ, zero, suc, Bool, true, false, List, [], ◌∷◌, length, map, Option}
use Rattle.std.specs.List.{filter}
use Rattle.std.specs.declared.cmp.Ordering.{Ordering}
use Rattle.rs_order.specs.Asks.{comes_before_bar}
use Rattle.rs_order.specs.Merging.{merged}

pub data JoinSide : Type 0 where
  Left : JoinSide
  Right : JoinSide

-- an ask of a side, by its number from 1
pub record SideAsk : Type 0 where
  pub side : JoinSide
  pub number : ℕ

-- an ask that is made only once all that comes before its key is asked
pub record Turn (K : Type 0) : Type 0 where
  pub ask : SideAsk
  pub key : K

-- the asks of a side from number n on, one for each key
abbrev pub turns_from : {K : Type 0} → JoinSide → ℕ → List K → List (Turn K)
turns_from side n [] = []
turns_from side n (key ∷ keys) = record { ask = record { side = side; number = n }; key = key } ∷ turns_from side (suc n) keys

-- the asks of both sides behind their first ones, by their keys, the left one first where keys are equal
abbrev pub turns_of : {K : Type 0} → (K → K → Ordering) → List K → List K → List (Turn K)
turns_of cmp lefts rights = merged cmp (λ turn. turn.key) (turns_from Left 2 lefts) (turns_from Right 2 rights)

-- those of them that come before a bar
abbrev pub asked_before : {K : Type 0} → (K → K → Ordering) → Option K → List (Turn K) → List SideAsk
asked_before cmp bar turns = map (λ turn. turn.ask) (filter (λ turn. comes_before_bar cmp bar turn.key) turns)

-- the first ask of each side, and then all that come before a bar
abbrev pub schedule : {K : Type 0} → (K → K → Ordering) → List K → List K → Option K → List SideAsk
schedule cmp lefts rights bar =
    record { side = Left; number = 1 } ∷ record { side = Right; number = 1 } ∷ asked_before cmp bar (turns_of cmp lefts rights)

-- whether an ask is one of this side
abbrev pub is_of_side : JoinSide → SideAsk → Bool
is_of_side Left ask = elim ask.side as (λ _. Bool) [ Left ↦ true | Right ↦ false ]
is_of_side Right ask = elim ask.side as (λ _. Bool) [ Left ↦ false | Right ↦ true ]

-- the numbers of the asks of one side
abbrev pub ask_numbers : JoinSide → List SideAsk → List ℕ
ask_numbers side asks = map (λ ask. ask.number) (filter (is_of_side side) asks)

-- this many numbers from n on
abbrev pub numbers_from : ℕ → ℕ → List ℕ
numbers_from n zero = []
numbers_from n (suc count) = n ∷ numbers_from (suc n) count

-- this many asks of a side, from this number on
abbrev pub asks_from : JoinSide → ℕ → ℕ → List SideAsk
asks_from side n count = map (λ number. record { side = side; number = number }) (numbers_from n count)

-- how often a side was asked
abbrev pub asked : JoinSide → List SideAsk → ℕ
asked side made = length (filter (is_of_side side) made)

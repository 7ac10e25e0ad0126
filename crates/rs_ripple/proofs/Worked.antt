-- The core of a rank join on rows worked by hand: two terms of weight 1 and at most 10. The first is evaluated on the
-- left side, of entry 1, and the second on the right side, of entry 2.
use Rattle.std.proofs.Common.{◌≡◌, ℕ, List, ◌+◌, [], ◌∷◌, Some, None, refl}
use Rattle.std.specs.Prelude.{◌==◌, ◌&&◌, not}
use Rattle.rs_order.specs.Schedule.{Left, Right, SideAsk}
use Rattle.rs_rank.specs.declared.ask.JoinAsk.TheVariants.{NeedLeft, NeedRight, Ready, End}
use Rattle.rs_rank.specs.declared.key.Key.{Key}
use Rattle.rs_rank.specs.declared.row.RankRow.{RankRow}
use Rattle.rs_rank.specs.declared.weights.Weights.{Weights}
use Rattle.rs_ripple.specs.Stands.{Join, answers, schedule_of, state_after}
use Rattle.rs_ripple.specs.Ripple.{Ripple, ask_of, found, left_drawn, left_ended, left_for, new_ripple, right_drawn, right_ended, taken_for}

abbrev pub two : Weights
two = record { weight = 1 ∷ 1 ∷ 0 ∷ 0 ∷ 0 ∷ 0 ∷ 0 ∷ 0 ∷ []; max = 10 ∷ 10 ∷ 0 ∷ 0 ∷ 0 ∷ 0 ∷ 0 ∷ 0 ∷ [] }

-- row number n of each side with its worth, to which the other term adds 10 at most
abbrev pub left : ℕ → ℕ → Key
left number worth = record { bound = worth + 10; ids = record { block = 1; mask = 1; rows = number ∷ 0 ∷ 0 ∷ 0 ∷ 0 ∷ 0 ∷ [] } }

abbrev pub right : ℕ → ℕ → Key
right number worth = record { bound = worth + 10; ids = record { block = 1; mask = 2; rows = 0 ∷ number ∷ 0 ∷ 0 ∷ 0 ∷ 0 ∷ [] } }

abbrev pub pair : ℕ → ℕ → ℕ → RankRow
pair l r sum = record { ids = record { block = 1; mask = 3; rows = l ∷ r ∷ 0 ∷ 0 ∷ 0 ∷ 0 ∷ [] }; sum = sum }

abbrev pub pair_key : ℕ → ℕ → ℕ → Key
pair_key l r bound = record { bound = bound; ids = record { block = 1; mask = 3; rows = l ∷ r ∷ 0 ∷ 0 ∷ 0 ∷ 0 ∷ [] } }

abbrev start : Ripple
start = new_ripple two (record { mask = 1; terms = 1 }) (record { mask = 2; terms = 2 })

-- the left side is asked first, and then the right one
nothing_yet : ask_of start ≡ NeedLeft
nothing_yet = refl

abbrev one_left : Ripple
one_left = left_drawn (left 1 10) start

after_one_left : ask_of one_left ≡ NeedRight
after_one_left = refl

-- a side without a row ends the join; where the left one has none the right one isn't asked
no_left_row : ask_of (left_ended start) ≡ End
no_left_row = refl

no_right_row : ask_of (right_ended one_left) ≡ End
no_right_row = refl

-- both thresholds are the key of the first rows: a tie asks the left side
abbrev first_rows : Ripple
first_rows = right_drawn (right 1 9) one_left

tie_asks_left : ask_of first_rows ≡ NeedLeft
tie_asks_left = refl

-- a pair of the first rows comes at both thresholds, so it is given at once
abbrev first_pair : Ripple
first_pair = found (pair 1 1 19) first_rows

first_pair_is_ready : ask_of first_pair ≡ Ready
first_pair_is_ready = refl

first_pair_is_given : taken_for (ask_of first_pair) first_pair ≡ Some (pair 1 1 19)
first_pair_is_given = refl

first_pair_is_kept : (left_for (ask_of first_pair) first_pair).taken ≡ Some (pair_key 1 1 19)
first_pair_is_kept = refl

-- left worths 10, 8, 8 and right worths 9, 7, where row 1 matches none: a right row still to come can give 19
abbrev two_left : Ripple
two_left = found (pair 2 1 17) (left_drawn (left 2 8) first_rows)

held_can_be_preceded : ask_of two_left ≡ NeedRight
held_can_be_preceded = refl

-- the thresholds are 17 of the rows 2 and 1, and 17 of the rows 1 and 2: of equal bounds the row numbers decide, and a
-- pair of the rows 1 and 3 comes before the one held
abbrev two_right : Ripple
two_right = right_drawn (right 2 7) two_left

ids_decide : ask_of two_right ≡ NeedRight
ids_decide = refl

-- such a row, of the same worth: the threshold is now 17 of the rows 1 and 3
equal_worths : ask_of (right_drawn (right 3 7) two_right) ≡ NeedRight
equal_worths = refl

-- a row of less worth brings the right threshold to 16, behind the pair held
abbrev three_right : Ripple
three_right = right_drawn (right 3 6) two_right

reached : ask_of three_right ≡ Ready
reached = refl

-- then a left row can still give 17, of the rows 3 and 1
abbrev second_taken : Ripple
second_taken = left_for (ask_of three_right) three_right

left_is_next : ask_of second_taken ≡ NeedLeft
left_is_next = refl

-- equal worths on the left side: the pair of row 3 is at the threshold of row 3 itself
abbrev three_left : Ripple
three_left = found (pair 3 1 17) (left_drawn (left 3 8) second_taken)

equal_worths_are_ready : taken_for (ask_of three_left) three_left ≡ Some (pair 3 1 17)
equal_worths_are_ready = refl

-- once the right side has ended, the left threshold alone counts; without a threshold all is given
abbrev right_over : Ripple
right_over = right_ended two_right

right_over_is_ready : ask_of right_over ≡ Ready
right_over_is_ready = refl

right_over_goes_on : ask_of (left_for Ready right_over) ≡ NeedLeft
right_over_goes_on = refl

both_over_end : ask_of (left_ended (left_for Ready right_over)) ≡ End
both_over_end = refl

left_over_asks_right : ask_of (left_ended two_left) ≡ NeedRight
left_over_asks_right = refl

-- pairs are held in the order of their keys, in whatever order they are found
held_in_order : (found (pair 1 1 19) two_left).held ≡ (pair_key 1 1 19, pair 1 1 19) ∷ (pair_key 2 1 17, pair 2 1 17) ∷ []
held_in_order = refl

-- nothing is given before it is ready
nothing_is_given : taken_for (ask_of two_left) two_left ≡ None
nothing_is_given = refl

-- the same rows as lists: where the core stands after each of the asks and answers above
abbrev pub sides : Join
sides = record {
  weights = two;
  block = 1;
  left = record { mask = 1; terms = 1 };
  right = record { mask = 2; terms = 2 };
  matches = λ l r. not (l.sum == 10) && r.sum == 9;
}

abbrev pub lefts : List RankRow
lefts = record { ids = (left 1 10).ids; sum = 10 } ∷ record { ids = (left 2 8).ids; sum = 8 } ∷ record { ids = (left 3 8).ids; sum = 8 } ∷ []

abbrev pub rights : List RankRow
rights = record { ids = (right 1 9).ids; sum = 9 } ∷ record { ids = (right 2 7).ids; sum = 7 } ∷ record { ids = (right 3 6).ids; sum = 6 } ∷ []

abbrev l : ℕ → SideAsk
l number = record { side = Left; number = number }

abbrev r : ℕ → SideAsk
r number = record { side = Right; number = number }

answers_are : answers sides lefts rights ≡ pair 2 1 17 ∷ pair 3 1 17 ∷ []
answers_are = refl

first_answer : schedule_of sides lefts rights 1 ≡ l 1 ∷ r 1 ∷ l 2 ∷ r 2 ∷ r 3 ∷ []
first_answer = refl

second_answer : schedule_of sides lefts rights 2 ≡ l 1 ∷ r 1 ∷ l 2 ∷ r 2 ∷ r 3 ∷ l 3 ∷ []
second_answer = refl

-- there is no third one, which takes all rows and the ends of both sides
no_third_answer : schedule_of sides lefts rights 3 ≡ l 1 ∷ r 1 ∷ l 2 ∷ r 2 ∷ r 3 ∷ l 3 ∷ l 4 ∷ r 4 ∷ []
no_third_answer = refl

stands_at_the_first : state_after sides lefts rights 2 3 0 ≡ three_right
stands_at_the_first = refl

stands_behind_the_first : state_after sides lefts rights 2 3 1 ≡ second_taken
stands_behind_the_first = refl

stands_at_the_second : state_after sides lefts rights 3 3 1 ≡ three_left
stands_at_the_second = refl

stands_at_the_end : ask_of (state_after sides lefts rights 4 4 2) ≡ End
stands_at_the_end = refl

-- an empty side
nothing_on_the_left : schedule_of sides [] rights 1 ≡ l 1 ∷ []
nothing_on_the_left = refl

nothing_on_the_right : schedule_of sides lefts [] 1 ≡ l 1 ∷ r 1 ∷ []
nothing_on_the_right = refl

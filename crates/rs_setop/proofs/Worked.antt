-- The set operators on rows worked by hand. Table u has 3, 1, 3, 4 and table w has 4, 2, 5, 5; the one term is half of a value.
use Rattle.std.proofs.Common.{◌≡◌, ℕ, true, false, List, [], ◌∷◌, Some, refl}
use Rattle.std.specs.Prelude.{pos}
use Rattle.rs_order.specs.Schedule.{Left, Right, asked}
use Rattle.rs_rank.specs.declared.ask.JoinAsk.TheVariants.{NeedLeft, NeedRight, Ready, End}
use Rattle.rs_rank.specs.declared.row.RankRow.{RankRow}
use Rattle.rs_rank.specs.declared.weights.Weights.{Weights}
use Rattle.rs_value.specs.declared.set_op.SetOp.TheVariants as op
use Rattle.rs_value.specs.declared.value.Value.{Value}
use Rattle.rs_value.specs.declared.value.Value.TheVariants.{Int}
use Rattle.rs_setop.specs.Compared as compared
use Rattle.rs_setop.specs.Heads.{ask_of}
use Rattle.rs_outputs.specs.Rows.{OutputRow, values_of}
use Rattle.rs_setop.specs.Sides.{Sides, answers, schedule_of}
use Rattle.rs_setop.specs.Union as union

abbrev one_term : Weights
one_term = record { weight = 1 ∷ 0 ∷ 0 ∷ 0 ∷ 0 ∷ 0 ∷ 0 ∷ 0 ∷ []; max = 10 ∷ 0 ∷ 0 ∷ 0 ∷ 0 ∷ 0 ∷ 0 ∷ 0 ∷ [] }

abbrev sides : Sides
sides = record { weights = one_term; terms = 1; left_block = 1; right_block = 2 }

abbrev number : ℕ → List Value
number n = Int (pos n) ∷ []

abbrev row : ℕ → ℕ → ℕ → ℕ → OutputRow
row block place half n =
    record { row = record { ids = record { block = block; mask = 1; rows = place ∷ 0 ∷ 0 ∷ 0 ∷ 0 ∷ 0 ∷ [] }; sum = half }; values = number n }

-- the rows of both tables in the order of their keys
abbrev us : List OutputRow
us = row 1 4 2 4 ∷ row 1 1 1 3 ∷ row 1 3 1 3 ∷ row 1 2 0 1 ∷ []

abbrev ws : List OutputRow
ws = row 2 1 2 4 ∷ row 2 3 2 5 ∷ row 2 4 2 5 ∷ row 2 2 1 2 ∷ []

union_all_gives : values_of (answers sides op.UnionAll us ws) ≡ number 4 ∷ number 4 ∷ number 5 ∷ number 5 ∷ number 3 ∷ number 3 ∷ number 2 ∷ number 1 ∷ []
union_all_gives = refl

union_gives : values_of (answers sides op.Union us ws) ≡ number 4 ∷ number 5 ∷ number 3 ∷ number 2 ∷ number 1 ∷ []
union_gives = refl

intersect_gives : values_of (answers sides op.Intersect us ws) ≡ number 4 ∷ []
intersect_gives = refl

except_gives : values_of (answers sides op.Except us ws) ≡ number 3 ∷ number 1 ∷ []
except_gives = refl

-- EXCEPT: the row of 4 is drawn first, and takes four right rows of half 2 or more and one below; then the row of 3 is certain
-- once the right side is at its end
except_left : asked Left (schedule_of sides op.Except us ws 1) ≡ 2
except_left = refl

except_right : asked Right (schedule_of sides op.Except us ws 1) ≡ 5
except_right = refl

intersect_left : asked Left (schedule_of sides op.Intersect us ws 1) ≡ 1
intersect_left = refl

intersect_right : asked Right (schedule_of sides op.Intersect us ws 1) ≡ 4
intersect_right = refl

intersect_over_left : asked Left (schedule_of sides op.Intersect us ws 2) ≡ 5
intersect_over_left = refl

intersect_over_right : asked Right (schedule_of sides op.Intersect us ws 2) ≡ 5
intersect_over_right = refl

-- a left table of 2 and 3 and a right one of 2: two answers take two left asks and one right one
abbrev lefts : List OutputRow
lefts = row 1 1 1 2 ∷ row 1 2 1 3 ∷ []

abbrev rights : List OutputRow
rights = row 2 1 1 2 ∷ []

union_left : asked Left (schedule_of sides op.Union lefts rights 2) ≡ 2
union_left = refl

union_right : asked Right (schedule_of sides op.Union lefts rights 2) ≡ 1
union_right = refl

-- the same, call by call: the right row of 2 is dropped once its key comes first, and the left side has ended
abbrev rank : ℕ → ℕ → ℕ → RankRow
rank block place half = record { ids = record { block = block; mask = 1; rows = place ∷ 0 ∷ 0 ∷ 0 ∷ 0 ∷ 0 ∷ [] }; sum = half }

abbrev both_two : union.Union
both_two = union.right_fed (rank 2 1 1) (number 2) (union.left_fed (rank 1 1 1) (number 2) (union.new_union one_term 1 true))

both_two_ready : ask_of both_two.heads ≡ Ready
both_two_ready = refl

takes_two : union.taken_for Ready both_two ≡ Some (rank 1 1 1)
takes_two = refl

abbrev two_taken : union.Union
two_taken = union.left_for Ready both_two

two_taken_needs : ask_of two_taken.heads ≡ NeedLeft
two_taken_needs = refl

abbrev three_held : union.Union
three_held = union.left_fed (rank 1 2 1) (number 3) two_taken

three_held_ready : ask_of three_held.heads ≡ Ready
three_held_ready = refl

takes_three : union.taken_for Ready three_held ≡ Some (rank 1 2 1)
takes_three = refl

abbrev left_over : union.Union
left_over = union.left_ended (union.left_for Ready three_held)

left_over_drops : ask_of left_over.heads ≡ NeedRight
left_over_drops = refl

union_over : ask_of (union.right_ended left_over).heads ≡ End
union_over = refl

-- UNION ALL gives it
all_gives_both : union.taken_for Ready (union.left_ended (union.left_for Ready (union.right_fed (rank 2 1 1) (number 2) (union.left_fed (rank 1 1 1) (number 2) (union.new_union one_term 1 false))))) ≡ Some (rank 2 1 1)
all_gives_both = refl

-- EXCEPT and INTERSECT: a left row of 2 isn't certain while the last right row has its bound
abbrev two_left : compared.Comparison
two_left = compared.left_fed (rank 1 1 1) (number 2) (compared.new_compared one_term 1 false)

two_left_needs : compared.ask_of two_left ≡ NeedRight
two_left_needs = refl

equal_bound_needs : compared.ask_of (compared.right_fed (rank 2 1 1) (number 3) two_left) ≡ NeedRight
equal_bound_needs = refl

-- a right row of a lesser bound makes it certain, and so does the end of that side
lesser_bound_ready : compared.ask_of (compared.right_fed (rank 2 2 0) (number 1) two_left) ≡ Ready
lesser_bound_ready = refl

end_ready : compared.ask_of (compared.right_ended two_left) ≡ Ready
end_ready = refl

-- it is dropped where the right side has 2
same_values_drop : compared.ask_of (compared.right_ended (compared.right_fed (rank 2 1 1) (number 2) two_left)) ≡ NeedLeft
same_values_drop = refl

-- and INTERSECT drops it where the right side hasn't
intersect_drops : compared.ask_of (compared.right_ended (compared.left_fed (rank 1 1 1) (number 2) (compared.new_compared one_term 1 true))) ≡ NeedLeft
intersect_drops = refl

-- a second left row of 2 is dropped at once
second_drops : compared.ask_of (compared.left_fed (rank 1 2 1) (number 2) (compared.left_for Ready (compared.right_ended two_left))) ≡ NeedLeft
second_drops = refl

-- The rank operator on rows worked by hand: two terms of weight 1 and at most 10, of which the first is evaluated below.
use Rattle.std.proofs.Common.{◌≡◌, ℕ, true, List, [], ◌∷◌, Some, refl}
use Rattle.std.specs.Prelude.{◌==◌, if◌then◌else◌}
use Rattle.rs_rank.specs.declared.ask.Ask.TheVariants.{Need, Ready, End}
use Rattle.rs_rank.specs.declared.ids.Ids.{Ids}
use Rattle.rs_rank.specs.declared.key.Key.{Key}
use Rattle.rs_rank.specs.declared.row.RankRow.{RankRow}
use Rattle.rs_rank.specs.declared.weights.Weights.{Weights}
use Rattle.rs_mu.specs.Stands.{Evaluation, answers, asks_of, state_after}
use Rattle.rs_mu.specs.Mu.{Mu, ask_of, fed, left_for, new_mu, taken_for}

abbrev two : Weights
two = record { weight = 1 ∷ 1 ∷ 0 ∷ 0 ∷ 0 ∷ 0 ∷ 0 ∷ 0 ∷ []; max = 10 ∷ 10 ∷ 0 ∷ 0 ∷ 0 ∷ 0 ∷ 0 ∷ 0 ∷ [] }

abbrev ids : ℕ → Ids
ids number = record { block = 1; mask = 1; rows = number ∷ 0 ∷ 0 ∷ 0 ∷ 0 ∷ 0 ∷ [] }

abbrev row : ℕ → ℕ → RankRow
row number sum = record { ids = ids number; sum = sum }

abbrev key : ℕ → ℕ → Key
key bound number = record { bound = bound; ids = ids number }

-- sums 10, 8, 5 of the first term, and worths 3, 9, 1 of the second
abbrev start : Mu
start = new_mu two 1 2

abbrev one : Mu
one = fed (row 1 10) 3 start

abbrev both : Mu
both = fed (row 2 8) 9 one

abbrev three : Mu
three = fed (row 3 5) 1 both

nothing_yet : ask_of start ≡ Need
nothing_yet = refl

-- 13 is held, and a row still to come can have 20
after_one : ask_of one ≡ Need
after_one = refl

-- 17 and 13 are held, and a row still to come can have 18
after_both : ask_of both ≡ Need
after_both = refl

-- no row still to come has more than 15
after_three : ask_of three ≡ Ready
after_three = refl

held_three : three.held ≡ (key 17 2, row 2 17) ∷ (key 13 1, row 1 13) ∷ (key 6 3, row 3 6) ∷ []
held_three = refl

last_three : three.last ≡ Some (key 15 3)
last_three = refl

taken_three : taken_for (ask_of three) three ≡ Some (row 2 17)
taken_three = refl

-- 13 could still be preceded
left_three : ask_of (left_for (ask_of three) three) ≡ Need
left_three = refl

-- once no more comes it is ready, and in the end nothing is left
abbrev over : Mu
over = record (left_for (ask_of three) three) { ended = true }

over_gives : taken_for (ask_of over) over ≡ Some (row 1 13)
over_gives = refl

over_twice : ask_of (left_for Ready (left_for Ready over)) ≡ End
over_twice = refl

nothing_comes : ask_of (record start { ended = true }) ≡ End
nothing_comes = refl

-- worth 10 of at most 10: the row's key stays as it was, so it is ready at once
abbrev best : Mu
best = fed (row 1 10) 10 start

best_is_ready : ask_of best ≡ Ready
best_is_ready = refl

-- a weight of 3: 10 and 3 times 4
weighed : (fed (row 1 10) 4 (new_mu (record two { weight = 1 ∷ 3 ∷ 0 ∷ 0 ∷ 0 ∷ 0 ∷ 0 ∷ 0 ∷ [] }) 1 2)).held ≡ (key 22 1, row 1 22) ∷ []
weighed = refl

-- the same rows as an input: where the operator stands after each ask and the first answer
abbrev rows : List RankRow
rows = row 1 10 ∷ row 2 8 ∷ row 3 5 ∷ []

abbrev worth_of : RankRow → ℕ
worth_of row = if row.sum == 10 then 3 else if row.sum == 8 then 9 else 1

abbrev second : Evaluation
second = record { weights = two; terms = 1; term = 2; worth = worth_of }

answers_are : answers second rows ≡ row 2 17 ∷ row 1 13 ∷ row 3 6 ∷ []
answers_are = refl

stands_at_three : state_after second rows 3 0 ≡ three
stands_at_three = refl

stands_at_one_answer : state_after second rows 3 1 ≡ left_for Ready three
stands_at_one_answer = refl

stands_at_the_end : state_after second rows 4 1 ≡ over
stands_at_the_end = refl

-- 3 asks for the first answer: 20 and 18 come before 17, and 15 doesn't
asks_for_one : asks_of second rows 1 ≡ 3
asks_for_one = refl

-- the second one, 13, takes all rows and the end, and so do the others
asks_for_two : asks_of second rows 2 ≡ 4
asks_for_two = refl

asks_for_three : asks_of second rows 3 ≡ 4
asks_for_three = refl

asks_for_more : asks_of second rows 4 ≡ 4
asks_for_more = refl

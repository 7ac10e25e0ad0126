-- The asks of joins of two terms of weight 1 and at most 10, worked by hand.
use Rattle.std.proofs.Common.{◌≡◌, ℕ, List, [], ◌∷◌, Option, Some, None, refl}
use Rattle.rs_rank.specs.declared.key.Key.{Key}
use Rattle.rs_rank.specs.declared.weights.Weights.{Weights}
use Rattle.rs_rank.specs.Keys.{key_cmp}
use Rattle.rs_rank.specs.Merging.{merge_key}
use Rattle.rs_order.specs.Schedule.{Left, Right, SideAsk}
use Rattle.rs_rank.specs.Turns.{join_schedule, left_asks, right_asks}

abbrev two : Weights
two = record { weight = 1 ∷ 1 ∷ 0 ∷ 0 ∷ 0 ∷ 0 ∷ 0 ∷ 0 ∷ []; max = 10 ∷ 10 ∷ 0 ∷ 0 ∷ 0 ∷ 0 ∷ 0 ∷ 0 ∷ [] }

-- keys of rows of the first entry, of the second one, and of both
abbrev of_first : ℕ → ℕ → Key
of_first bound row = record { bound = bound; ids = record { block = 1; mask = 1; rows = row ∷ 0 ∷ 0 ∷ 0 ∷ 0 ∷ 0 ∷ [] } }

abbrev of_second : ℕ → ℕ → Key
of_second bound row = record { bound = bound; ids = record { block = 1; mask = 2; rows = 0 ∷ row ∷ 0 ∷ 0 ∷ 0 ∷ 0 ∷ [] } }

abbrev of_both : ℕ → ℕ → ℕ → Key
of_both bound first second = record { bound = bound; ids = record { block = 1; mask = 3; rows = first ∷ second ∷ 0 ∷ 0 ∷ 0 ∷ 0 ∷ [] } }

abbrev left : ℕ → SideAsk
left n = record { side = Left; number = n }

abbrev right : ℕ → SideAsk
right n = record { side = Right; number = n }

-- worths 9, 8, 7, 5, 1 on the left, under term 1, and 9, 6, 6, 2, 1 on the right, under term 2
abbrev lefts : List Key
lefts = of_first 19 1 ∷ of_first 18 2 ∷ of_first 17 3 ∷ of_first 15 4 ∷ of_first 11 5 ∷ []

abbrev rights : List Key
rights = of_second 19 1 ∷ of_second 16 2 ∷ of_second 16 3 ∷ of_second 12 4 ∷ of_second 11 5 ∷ []

abbrev schedule : List Key → List Key → Option Key → List SideAsk
schedule xs ys bar = join_schedule key_cmp (merge_key two 1 2) xs ys bar

-- the first answer is of 8 and 9: merged keys of bounds 18 come before it, one of each side, and the left one first
first_answer : schedule lefts rights (Some (of_both 17 2 1)) ≡ left 1 ∷ right 1 ∷ left 2 ∷ right 2 ∷ []
first_answer = refl

left_for_first : left_asks key_cmp (merge_key two 1 2) lefts rights (Some (of_both 17 2 1)) ≡ 2
left_for_first = refl

right_for_first : right_asks key_cmp (merge_key two 1 2) lefts rights (Some (of_both 17 2 1)) ≡ 2
right_for_first = refl

-- an answer of 9 and 6: left keys 18, 17, 16 come before it, and right keys 18
second_answer : schedule lefts rights (Some (of_both 15 1 2)) ≡ left 1 ∷ right 1 ∷ left 2 ∷ right 2 ∷ left 3 ∷ left 4 ∷ []
second_answer = refl

-- to the end of both; the last two have the bound 10, and rows 1 and 5 come before rows 5 and 1
all_asks : schedule lefts rights None ≡ left 1 ∷ right 1 ∷ left 2 ∷ right 2 ∷ left 3 ∷ left 4 ∷ right 3 ∷ right 4 ∷ left 5 ∷ right 5 ∷ right 6 ∷ left 6 ∷ []
all_asks = refl

-- an empty left side, and a right side alone empty
no_left_row : schedule [] rights None ≡ left 1 ∷ []
no_left_row = refl

no_right_row : schedule lefts [] None ≡ left 1 ∷ right 1 ∷ []
no_right_row = refl

no_row : schedule [] [] None ≡ left 1 ∷ []
no_row = refl

-- equal worths 1: the left side is the second entry under term 2, and answers go by the rows of the first entry
abbrev turned : Option Key → List SideAsk
turned bar = join_schedule key_cmp (merge_key two 2 1) (of_second 11 1 ∷ of_second 11 2 ∷ []) (of_first 11 1 ∷ of_first 11 2 ∷ []) bar

one_one : turned (Some (of_both 2 1 1)) ≡ left 1 ∷ right 1 ∷ []
one_one = refl

one_two : turned (Some (of_both 2 1 2)) ≡ left 1 ∷ right 1 ∷ left 2 ∷ right 2 ∷ []
one_two = refl

two_one : turned (Some (of_both 2 2 1)) ≡ left 1 ∷ right 1 ∷ left 2 ∷ right 2 ∷ left 3 ∷ []
two_one = refl

two_two : turned (Some (of_both 2 2 2)) ≡ left 1 ∷ right 1 ∷ left 2 ∷ right 2 ∷ left 3 ∷ right 3 ∷ []
two_two = refl

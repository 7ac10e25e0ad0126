-- The definitions on lists worked by hand: three lists of five rows, and two lists of four rows with and without a condition.
use Rattle.std.proofs.Common.{◌≡◌, ℕ, true, List, [], ◌∷◌, refl}
use Rattle.std.specs.Prelude.{◌==◌, map}
use Rattle.rs_rank.specs.declared.key.Key.{Key}
use Rattle.rs_rank.specs.declared.row.RankRow.{RankRow}
use Rattle.rs_rank.specs.declared.scored_row.ScoredRow.{ScoredRow}
use Rattle.rs_rank.specs.declared.weights.Weights.{Weights}
use Rattle.rs_ta.specs.Depths.{ScanInput, Sight, answers, depth, first_sights, ids_at, looked_up, lookups, sights, thresholds}
use Rattle.rs_ta.specs.declared.lists.Lookup.{Lookup}

abbrev entry : ℕ → ℕ → ScoredRow
entry score row = record { score = score; row = row }

abbrev key : ℕ → ℕ → Key
key bound row = record { bound = bound; ids = ids_at 1 1 row }

abbrev answer : ℕ → ℕ → RankRow
answer sum row = record { sum = sum; ids = ids_at 1 1 row }

abbrev sight : ℕ → ℕ → Sight
sight row list = record { row = row; list = list }

abbrev lookup : ℕ → ℕ → Lookup
lookup row list = record { row = row; list = list }

-- three terms of weight 1
abbrev three : Weights
three = record { weight = 1 ∷ 1 ∷ 1 ∷ 0 ∷ 0 ∷ 0 ∷ 0 ∷ 0 ∷ []; max = 9 ∷ 9 ∷ 9 ∷ 0 ∷ 0 ∷ 0 ∷ 0 ∷ 0 ∷ [] }

-- the rows (0, 4, 1), (2, 1, 1), (2, 1, 1), (4, 5, 0), (0, 4, 3), by each of their numbers
abbrev x : List ScoredRow
x = entry 4 4 ∷ entry 2 2 ∷ entry 2 3 ∷ entry 0 1 ∷ entry 0 5 ∷ []

abbrev y : List ScoredRow
y = entry 5 4 ∷ entry 4 1 ∷ entry 4 5 ∷ entry 1 2 ∷ entry 1 3 ∷ []

abbrev z : List ScoredRow
z = entry 3 5 ∷ entry 1 1 ∷ entry 1 2 ∷ entry 1 3 ∷ entry 0 4 ∷ []

abbrev five : ScanInput
five = record { weights = three; entry = 1; block = 1; lists = x ∷ y ∷ z ∷ []; holds = λ row. true }

five_answers : answers five ≡ answer 9 4 ∷ answer 7 5 ∷ answer 5 1 ∷ answer 4 2 ∷ answer 4 3 ∷ []
five_answers = refl

-- at equal bounds the greatest row number decides: 2 at the second place, and 5 at the third one
five_thresholds : thresholds five ≡ key 12 5 ∷ key 7 2 ∷ key 7 5 ∷ key 2 3 ∷ key 1 5 ∷ []
five_thresholds = refl

five_depths : map (depth five) (0 ∷ 1 ∷ 2 ∷ 3 ∷ 4 ∷ 5 ∷ 6 ∷ 7 ∷ []) ≡ 0 ∷ 2 ∷ 3 ∷ 4 ∷ 4 ∷ 4 ∷ 5 ∷ 5 ∷ []
five_depths = refl

five_sights : first_sights (sights five.lists 3) ≡ sight 4 1 ∷ sight 5 3 ∷ sight 2 1 ∷ sight 1 2 ∷ sight 3 1 ∷ []
five_sights = refl

-- two answers take 10 random accesses
five_lookups : map (lookups (sights five.lists 3)) (1 ∷ 2 ∷ 3 ∷ []) ≡ 2 ∷ 4 ∷ 4 ∷ []
five_lookups = refl

-- row by row in the order of their first sights, and list by list
five_looked_up : looked_up 3 (sights five.lists 3)
    ≡ lookup 4 2 ∷ lookup 4 3 ∷ lookup 5 1 ∷ lookup 5 2 ∷ lookup 2 2 ∷ lookup 2 3 ∷ lookup 1 1 ∷ lookup 1 3 ∷ lookup 3 2 ∷ lookup 3 3 ∷ []
five_looked_up = refl

-- two terms of weight 1
abbrev two : Weights
two = record { weight = 1 ∷ 1 ∷ 0 ∷ 0 ∷ 0 ∷ 0 ∷ 0 ∷ 0 ∷ []; max = 10 ∷ 10 ∷ 0 ∷ 0 ∷ 0 ∷ 0 ∷ 0 ∷ 0 ∷ [] }

-- the rows (10, 3), (8, 9), (5, 1), (2, 10), by each of their numbers
abbrev four : ScanInput
four = record {
  weights = two;
  entry = 1;
  block = 1;
  lists = (entry 10 1 ∷ entry 8 2 ∷ entry 5 3 ∷ entry 2 4 ∷ []) ∷ (entry 10 4 ∷ entry 9 2 ∷ entry 3 1 ∷ entry 1 3 ∷ []) ∷ [];
  holds = λ row. true;
}

four_answers : answers four ≡ answer 17 2 ∷ answer 13 1 ∷ answer 12 4 ∷ answer 6 3 ∷ []
four_answers = refl

four_depths : map (depth four) (1 ∷ 2 ∷ 3 ∷ 4 ∷ 5 ∷ []) ≡ 2 ∷ 3 ∷ 3 ∷ 4 ∷ 4 ∷ []
four_depths = refl

four_lookups : map (λ places. map (lookups (sights four.lists places)) (1 ∷ 2 ∷ [])) (2 ∷ 3 ∷ 4 ∷ []) ≡ (1 ∷ 2 ∷ []) ∷ (1 ∷ 3 ∷ []) ∷ (1 ∷ 3 ∷ []) ∷ []
four_lookups = refl

-- where the test holds for the second row alone, the second ask takes all places, and the rows that fail are looked up too
abbrev four_tested : ScanInput
four_tested = record four { holds = λ row. row == 2 }

tested_answers : answers four_tested ≡ answer 17 2 ∷ []
tested_answers = refl

tested_depths : map (depth four_tested) (1 ∷ 2 ∷ []) ≡ 2 ∷ 4 ∷ []
tested_depths = refl

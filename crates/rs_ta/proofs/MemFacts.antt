-- The score of a row behind some entries.
use Rattle.std.proofs.Common.{◌≡◌, ℕ, ◌+◌, ◌<◌, ◌≤◌, cond, eqb, List, length, get_or, drop, map, ap}
use Rattle.std.proofs.lemmas.List.{drop_all, drop_more}
use Rattle.rs_ta.specs.Lists.{score_of}
use Rattle.rs_ta.specs.MemLists.{entry_of}

-- it is that of the next entry, or stands behind it
pub score_of-drop : (row : ℕ) (list : List (ℕ × ℕ)) (place : ℕ) (other : ℕ × ℕ) → place < length list →
    score_of row (map entry_of (drop place list)) ≡ cond (eqb (get_or list place other).1 row) (get_or list place other).0 (score_of row (map entry_of (drop (place + 1) list)))
score_of-drop row list place other within = ap (λ rest. score_of row (map entry_of rest)) (drop_more list place other within)

pub score_of-end : (row : ℕ) (list : List (ℕ × ℕ)) (place : ℕ) → length list ≤ place → score_of row (map entry_of (drop place list)) ≡ 0
score_of-end row list place past = ap (λ rest. score_of row (map entry_of rest)) (drop_all place list past)

pub ruleset score_steps = (score_of-drop, score_of-end)

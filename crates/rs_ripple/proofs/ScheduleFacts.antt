-- The asks that were made begin the schedule: what that tells of the answers given, and one ask more.
use Rattle.std.proofs.Common.{◌≡◌, ℕ, zero, suc, ◌≤◌, List, [], ◌∷◌, ◌++◌, length, take, drop, Some, refl, sym, ◌∙◌, ap, ap₂, subst, arith}
use Rattle.std.proofs.lemmas.List.{length-map, take-map, take_all}
use Rattle.std.specs.List.{slice_get}
use Rattle.rs_order.specs.Asks.{bar_after, those_before}
use Rattle.rs_order.specs.Schedule.{Left, Right, SideAsk, Turn, asked, turns_of}
use Rattle.rs_order.specs.Sorting.{sorted}
use Rattle.rs_order.proofs.AscendingFacts.{Ascends-Climbs, schedule-begin}
use Rattle.rs_order.proofs.AsksFacts.{bar_after-later}
use Rattle.rs_order.proofs.PartFacts.{take-snoc}
use Rattle.rs_rank.specs.declared.key.Key.{Key}
use Rattle.rs_rank.specs.declared.row.RankRow.{RankRow}
use Rattle.rs_rank.specs.Keys.{key_cmp}
use Rattle.rs_rank.specs.Rows.{merge_row}
use Rattle.rs_rank.specs.Turns.{left_keys, right_keys}
use Rattle.rs_rank.proofs.OrderFacts.{key_cmp-total}
use Rattle.rs_ripple.specs.Stands.{AreSidesOf, BeginsWith, Join, answer_key, answers, merged_key, schedule_of, side_keys}
use Rattle.rs_ripple.proofs.PairFacts.{ordered-climbs}
use Rattle.rs_ripple.proofs.SideFacts.{sides-grid}
use Rattle.rs_ripple.proofs.StandFacts.{ascends, first_asks, left-climbs, pairs-none, right-climbs, settled-turns}
use Rattle.rs_ripple.proofs.TurnFacts.{asks_in, before-front}

length-snoc : {X : Type 0} (xs : List X) (x : X) → length (xs ++ x ∷ []) ≡ suc (length xs)
length-snoc [] x = refl
length-snoc (y ∷ ys) x = ap suc (length-snoc ys x)

-- a list begins with one item more
pub BeginsWith-more : {X : Type 0} (xs made : List X) (x : X) → BeginsWith xs made → slice_get xs (length made) ≡ Some x → BeginsWith xs (made ++ x ∷ [])
BeginsWith-more xs made x begins e =
    ap (λ front. front ++ x ∷ []) begins ∙ sym (take-snoc (length made) xs x e) ∙ ap (λ n. take n xs) (sym (length-snoc made x))

-- and still begins so where it grows
pub BeginsWith-append : {X : Type 0} (front made more : List X) → BeginsWith made front → BeginsWith (made ++ more) front
BeginsWith-append [] made more begins = refl
BeginsWith-append (f ∷ front) [] more begins = cc
BeginsWith-append (f ∷ front) (m ∷ made) more begins =
    let first : f ≡ m = cc in
    let rest : front ≡ take (length front) made = cc in
    ap₂ (λ z zs. z ∷ zs) first (BeginsWith-append front made more rest)

pub BeginsWith-itself : {X : Type 0} (xs : List X) → BeginsWith xs xs
BeginsWith-itself xs = sym (take_all (length xs) xs (omega arith))

length-BeginsWith : {X : Type 0} (made front : List X) → BeginsWith made front → length front ≤ length made
length-BeginsWith made [] begins = omega arith
length-BeginsWith [] (f ∷ front) begins = cc
length-BeginsWith (m ∷ made) (f ∷ front) begins =
    let rest : front ≡ take (length front) made = cc in
    let le = length-BeginsWith made front rest in
    omega arith

-- more answers go on with the asks
pub schedule_of-more : (j : Join) (lefts rights : List RankRow) → AreSidesOf j lefts rights → (n : ℕ) → BeginsWith (schedule_of j lefts rights (suc n)) (schedule_of j lefts rights n)
schedule_of-more j lefts rights input zero = refl
schedule_of-more j [] rights input (suc n) = refl
schedule_of-more j (x ∷ xs) rights input (suc n) =
    schedule-begin key_cmp key_cmp-total
    (left_keys (merged_key j) (side_keys j j.left (x ∷ xs)) (side_keys j j.right rights)) (right_keys (merged_key j) (side_keys j j.left (x ∷ xs)) (side_keys j j.right rights))
    (bar_after (answer_key j) (answers j (x ∷ xs) rights) n) (bar_after (answer_key j) (answers j (x ∷ xs) rights) (suc n))
    (Ascends-Climbs key_cmp (λ key. key) (left_keys (merged_key j) (side_keys j j.left (x ∷ xs)) (side_keys j j.right rights)) (left-climbs j (x ∷ xs) rights input))
    (Ascends-Climbs key_cmp (λ key. key) (right_keys (merged_key j) (side_keys j j.left (x ∷ xs)) (side_keys j j.right rights)) (right-climbs j (x ∷ xs) rights input))
    (bar_after-later key_cmp key_cmp-total (answer_key j) (answers j (x ∷ xs) rights) n (suc n)
    (ordered-climbs key_cmp j.matches merge_row (answer_key j) (x ∷ xs) rights (sides-grid j (x ∷ xs) rights input)) (omega arith))

take-none : (n : ℕ) (rows : List RankRow) → rows ≡ [] → take n rows ≡ []
take-none zero rows e = refl
take-none (suc n) [] e = refl
take-none (suc n) (row ∷ rows) e = cc

answers-none : (j : Join) (lefts : List RankRow) → answers j lefts [] ≡ []
answers-none j lefts = ap (sorted key_cmp (answer_key j)) (pairs-none j.matches lefts)

-- the answers that were given are those of the whole
pub settled-made : (j : Join) (lefts rights : List RankRow) → AreSidesOf j lefts rights → (made : List SideAsk) (count : ℕ) → BeginsWith made (schedule_of j lefts rights count) → BeginsWith (schedule_of j lefts rights (suc count)) made →
    take count (answers j (take (asked Left made) lefts) (take (asked Right made) rights)) ≡ take count (answers j lefts rights)
settled-made j lefts rights input made zero least most = refl
settled-made j [] rights input made (suc n) least most =
    ap (λ rows. take (suc n) (answers j rows (take (asked Right made) rights))) (take-none (asked Left made) [] refl)
settled-made j (x ∷ xs) [] input made (suc n) least most =
    ap (λ rows. take (suc n) (answers j (take (asked Left made) (x ∷ xs)) rows)) (take-none (asked Right made) [] refl)
    ∙ ap (take (suc n)) (answers-none j (take (asked Left made) (x ∷ xs)) ∙ sym (answers-none j (x ∷ xs)))
settled-made j (x ∷ xs) (y ∷ ys) input [] (suc n) least most = cc
settled-made j (x ∷ xs) (y ∷ ys) input (a ∷ []) (suc n) least most = cc
settled-made j (x ∷ xs) (y ∷ ys) input (a ∷ b ∷ others) (suc n) least most =
    let turns_all : List (Turn Key) = turns_of key_cmp (left_keys (merged_key j) (side_keys j j.left (x ∷ xs)) (side_keys j j.right (y ∷ ys))) (right_keys (merged_key j) (side_keys j j.left (x ∷ xs)) (side_keys j j.right (y ∷ ys))) in
    let those : List (Turn Key) = those_before key_cmp (λ turn. turn.key) (bar_after (answer_key j) (answers j (x ∷ xs) (y ∷ ys)) (suc n)) turns_all in
    let given : List (Turn Key) = those_before key_cmp (λ turn. turn.key) (bar_after (answer_key j) (answers j (x ∷ xs) (y ∷ ys)) n) turns_all in
    let first : a ≡ record { side = Left; number = 1 } = cc in
    let second : b ≡ record { side = Right; number = 1 } = cc in
    let behind : others ≡ take (length others) (asks_in those) = cc in
    let front : others ≡ asks_in (take (length others) those) = behind ∙ take-map (λ (turn : Turn Key). turn.ask) (length others) those in
    let begun : BeginsWith others (asks_in given) = cc in
    let few = length-BeginsWith others (asks_in given) begun in
    let count = length-map given (λ (turn : Turn Key). turn.ask) in
    let others_count : length others ≡ length (take (length others) those) = ap length front ∙ length-map (take (length others) those) (λ (turn : Turn Key). turn.ask) in
    subst (λ made. take (suc n) (answers j (take (asked Left made) (x ∷ xs)) (take (asked Right made) (y ∷ ys))) ≡ take (suc n) (answers j (x ∷ xs) (y ∷ ys)))
    (sym (ap₂ (λ u v. u ∷ v ∷ others) first second ∙ ap first_asks front))
    (settled-turns j x xs y ys input n (take (length others) those) (drop (length others) those ++ drop (length those) turns_all)
    (before-front key_cmp key_cmp-total (bar_after (answer_key j) (answers j (x ∷ xs) (y ∷ ys)) (suc n)) turns_all (length others) (ascends j x xs y ys input))
    (omega arith))

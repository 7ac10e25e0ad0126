-- The asks of two sides, side by side.
use Rattle.std.proofs.Common.{◌≡◌, ℕ, zero, suc, ◌+◌, ◌≤◌, Bool, true, false, cond, List, [], ◌∷◌, ◌++◌, length, map, Option, refl, sym, ◌∙◌, ap, inl, inr, arith}
use Rattle.std.proofs.lemmas.Bool.{cases_lt, true≢false}
use Rattle.std.proofs.lemmas.List.{length-append, length-map}
use Rattle.std.proofs.lemmas.List.Elements.{filter-append}
use Rattle.std.specs.Cmp.{IsTotalOrder}
use Rattle.std.specs.List.{AllByRecursion, filter}
use Rattle.std.specs.Ordering.{is_gt}
use Rattle.std.specs.declared.cmp.Ordering.{Ordering}
use Rattle.rs_order.proofs.AsksFacts.{get_or-asked}
use Rattle.rs_order.proofs.ItemFacts.{filter-less}
use Rattle.rs_order.specs.Asks.{asks_for, comes_before_bar, those_before}
use Rattle.rs_order.specs.Climbing.{Climbs}
use Rattle.rs_order.specs.Merging.{merged, woven}
use Rattle.rs_order.specs.Schedule.{JoinSide, Left, Right, SideAsk, Turn, asked, asked_before, asks_from, is_of_side, numbers_from, ask_numbers, schedule, turns_from, turns_of}

-- what is made of a list item by item, where the items of the second list add nothing
module _ {X K A : Type 0} (cmp : K → K → Ordering) (key : X → K) (make : List X → A) (add : X → A → A) (step : (x : X) (xs : List X) → make (x ∷ xs) ≡ add x (make xs)) where
  woven_left : (x : X) (rest : List X → List X) (made : A) (ys : List X) → ((ws : List X) → AllByRecursion (λ y. (a : A) → add y a ≡ a) ws → make (rest ws) ≡ made) → AllByRecursion (λ y. (a : A) → add y a ≡ a) ys → make (woven cmp key x rest ys) ≡ add x made
  woven_left x rest made [] others nothing = step x (rest []) ∙ ap (add x) (others [] tt)
  woven_left x rest made (y ∷ ys) others nothing =
      elim (is_gt (cmp (key x) (key y))) as (λ b. make (cond b (y ∷ woven cmp key x rest ys) (x ∷ rest (y ∷ ys))) ≡ add x made) [
        | true ↦ step y (woven cmp key x rest ys) ∙ nothing.0 (make (woven cmp key x rest ys)) ∙ woven_left x rest made ys others nothing.1
        | false ↦ step x (rest (y ∷ ys)) ∙ ap (add x) (others (y ∷ ys) nothing)
      ]

  -- the merge makes what the first list does
  pub merged_left : (xs ys : List X) → AllByRecursion (λ y. (a : A) → add y a ≡ a) ys → make (merged cmp key xs ys) ≡ make xs
  merged_left [] [] nothing = refl
  merged_left [] (y ∷ ys) nothing = step y ys ∙ nothing.0 (make ys) ∙ merged_left [] ys nothing.1
  merged_left (x ∷ xs) ys nothing =
      woven_left x (merged cmp key xs) (make xs) ys (λ ws none. merged_left xs ws none) nothing ∙ sym (step x xs)

  woven_right : (x : X) (rest : List X → List X) (ys : List X) → ((a : A) → add x a ≡ a) → ((ws : List X) → make (rest ws) ≡ make ws) → make (woven cmp key x rest ys) ≡ make ys
  woven_right x rest [] nothing others = step x (rest []) ∙ nothing (make (rest [])) ∙ others []
  woven_right x rest (y ∷ ys) nothing others =
      elim (is_gt (cmp (key x) (key y))) as (λ b. make (cond b (y ∷ woven cmp key x rest ys) (x ∷ rest (y ∷ ys))) ≡ make (y ∷ ys)) [
        | true ↦ step y (woven cmp key x rest ys) ∙ ap (add y) (woven_right x rest ys nothing others) ∙ sym (step y ys)
        | false ↦ step x (rest (y ∷ ys)) ∙ nothing (make (rest (y ∷ ys))) ∙ others (y ∷ ys)
      ]

  -- the merge makes what the second list does, where the items of the first add nothing
  pub merged_right : (xs ys : List X) → AllByRecursion (λ x. (a : A) → add x a ≡ a) xs → make (merged cmp key xs ys) ≡ make ys
  merged_right [] ys nothing = refl
  merged_right (x ∷ xs) ys nothing = woven_right x (merged cmp key xs) ys nothing.0 (λ ws. merged_right xs ws nothing.1)

-- the numbers of a side's asks among turns up to a bar
module _ {K : Type 0} (cmp : K → K → Ordering) (bar : Option K) where
  abbrev numbers_before : JoinSide → List (Turn K) → List ℕ
  numbers_before side turns = ask_numbers side (asked_before cmp bar turns)

  abbrev add_number : JoinSide → Turn K → List ℕ → List ℕ
  add_number side turn numbers = cond (comes_before_bar cmp bar turn.key) (cond (is_of_side side turn.ask) (turn.ask.number ∷ numbers) numbers) numbers

  numbers_before-step : (side : JoinSide) (turn : Turn K) (turns : List (Turn K)) → numbers_before side (turn ∷ turns) ≡ add_number side turn (numbers_before side turns)
  numbers_before-step side turn turns =
      elim (comes_before_bar cmp bar turn.key) as (λ b.
      ask_numbers side (map (λ turn. turn.ask) (cond b (turn ∷ filter (λ turn. comes_before_bar cmp bar turn.key) turns) (filter (λ turn. comes_before_bar cmp bar turn.key) turns)))
      ≡ cond b (cond (is_of_side side turn.ask) (turn.ask.number ∷ numbers_before side turns) (numbers_before side turns)) (numbers_before side turns)) [
        | true ↦ elim (is_of_side side turn.ask) as (λ b.
            map (λ ask. ask.number) (cond b (turn.ask ∷ filter (is_of_side side) (map (λ turn. turn.ask) (filter (λ turn. comes_before_bar cmp bar turn.key) turns))) (filter (is_of_side side) (map (λ turn. turn.ask) (filter (λ turn. comes_before_bar cmp bar turn.key) turns))))
            ≡ cond b (turn.ask.number ∷ numbers_before side turns) (numbers_before side turns)) [ true ↦ refl | false ↦ refl ]
        | false ↦ refl
      ]

  -- the other side's turns add nothing
  other_adds_nothing : (side other : JoinSide) (n : ℕ) (keys : List K) → ((number : ℕ) → is_of_side side (record { side = other; number = number }) ≡ false) → AllByRecursion (λ turn. (numbers : List ℕ) → add_number side turn numbers ≡ numbers) (turns_from other n keys)
  other_adds_nothing side other n [] differs = tt
  other_adds_nothing side other n (key ∷ keys) differs = (
    λ numbers.
        elim (comes_before_bar cmp bar key) as (λ b. cond b (cond (is_of_side side (record { side = other; number = n })) (n ∷ numbers) numbers) numbers ≡ numbers) [
          | true ↦ ap (λ b. cond b (n ∷ numbers) numbers) (differs n)
          | false ↦ refl
        ],
    other_adds_nothing side other (suc n) keys differs,
  )

  -- a side's own turns come up to the bar, one after another
  own_numbers : IsTotalOrder cmp → (side : JoinSide) (n : ℕ) (keys : List K) → ((number : ℕ) → is_of_side side (record { side = side; number = number }) ≡ true) → Climbs cmp (λ key. key) keys → numbers_before side (turns_from side n keys) ≡ numbers_from n (length (those_before cmp (λ key. key) bar keys))
  own_numbers o side n [] same climbs = refl
  own_numbers o side n (key ∷ keys) same climbs =
      let others = own_numbers o side (suc n) keys same climbs.1 in
      numbers_before-step side (record { ask = record { side = side; number = n }; key = key }) (turns_from side (suc n) keys)
      ∙ ap (λ numbers. add_number side (record { ask = record { side = side; number = n }; key = key }) numbers) others
      ∙ (elim (comes_before_bar cmp bar key) as (λ b. comes_before_bar cmp bar key ≡ b →
      cond b (cond (is_of_side side (record { side = side; number = n })) (n ∷ numbers_from (suc n) (length (those_before cmp (λ key. key) bar keys))) (numbers_from (suc n) (length (those_before cmp (λ key. key) bar keys)))) (numbers_from (suc n) (length (those_before cmp (λ key. key) bar keys)))
      ≡ numbers_from n (length (cond b (key ∷ those_before cmp (λ key. key) bar keys) (those_before cmp (λ key. key) bar keys)))) [
        | true ↦ λ e. ap (λ b. cond b (n ∷ numbers_from (suc n) (length (those_before cmp (λ key. key) bar keys))) (numbers_from (suc n) (length (those_before cmp (λ key. key) bar keys)))) (same n)
        | false ↦ λ e. let none = none_behind o key keys climbs e in rw none refl
      ]) refl
    where
      none_behind : IsTotalOrder cmp → (key : K) (keys : List K) → Climbs cmp (λ key. key) (key ∷ keys) → comes_before_bar cmp bar key ≡ false → length (those_before cmp (λ key. key) bar keys) ≡ 0
      none_behind o key keys climbs e =
          elim (cases_lt 0 (length (those_before cmp (λ key. key) bar keys))) [
            | inl some ↦ absurd (true≢false (sym (get_or-asked cmp o (λ key. key) bar (key ∷ keys) 0 key climbs (rw e some)) ∙ e))
            | inr none ↦ omega arith
          ]

-- of the turns of both sides those of one side are its own
module _ {K : Type 0} (cmp : K → K → Ordering) (bar : Option K) where
  left_turns : (lefts rights : List K) → numbers_before cmp bar Left (turns_of cmp lefts rights) ≡ numbers_before cmp bar Left (turns_from Left 2 lefts)
  left_turns lefts rights =
      merged_left cmp (λ turn. turn.key) (numbers_before cmp bar Left) (add_number cmp bar Left) (numbers_before-step cmp bar Left)
      (turns_from Left 2 lefts) (turns_from Right 2 rights)
      (other_adds_nothing cmp bar Left Right 2 rights (λ number. refl))

  right_turns : (lefts rights : List K) → numbers_before cmp bar Right (turns_of cmp lefts rights) ≡ numbers_before cmp bar Right (turns_from Right 2 rights)
  right_turns lefts rights =
      merged_right cmp (λ turn. turn.key) (numbers_before cmp bar Right) (add_number cmp bar Right) (numbers_before-step cmp bar Right)
      (turns_from Left 2 lefts) (turns_from Right 2 rights)
      (other_adds_nothing cmp bar Right Left 2 lefts (λ number. refl))

-- the left side's asks
pub left_scheduled : {K : Type 0} (cmp : K → K → Ordering) → IsTotalOrder cmp → (lefts rights : List K) (bar : Option K) → Climbs cmp (λ key. key) lefts → ask_numbers Left (schedule cmp lefts rights bar) ≡ numbers_from 1 (asks_for cmp (λ key. key) lefts bar)
left_scheduled cmp o lefts rights bar climbs =
    ap (λ numbers. 1 ∷ numbers) (left_turns cmp bar lefts rights ∙ own_numbers cmp bar o Left 2 lefts (λ number. refl) climbs)

-- the right side's asks
pub right_scheduled : {K : Type 0} (cmp : K → K → Ordering) → IsTotalOrder cmp → (lefts rights : List K) (bar : Option K) → Climbs cmp (λ key. key) rights → ask_numbers Right (schedule cmp lefts rights bar) ≡ numbers_from 1 (asks_for cmp (λ key. key) rights bar)
right_scheduled cmp o lefts rights bar climbs =
    ap (λ numbers. 1 ∷ numbers) (right_turns cmp bar lefts rights ∙ own_numbers cmp bar o Right 2 rights (λ number. refl) climbs)

-- a side is asked at most once more than it has keys, whether they rise or not
module _ {K : Type 0} (cmp : K → K → Ordering) (bar : Option K) where
  length-turns : (side : JoinSide) (n : ℕ) (keys : List K) → length (turns_from side n keys) ≡ length keys
  length-turns side n [] = refl
  length-turns side n (key ∷ keys) = ap suc (length-turns side (suc n) keys)

  -- no more numbers than turns
  numbers_before-less : (side : JoinSide) (turns : List (Turn K)) → length (numbers_before cmp bar side turns) ≤ length turns
  numbers_before-less side turns =
      let before = filter (λ (turn : Turn K). comes_before_bar cmp bar turn.key) turns in
      let kept = filter-less (λ (turn : Turn K). comes_before_bar cmp bar turn.key) turns in
      let asks = length-map before (λ (turn : Turn K). turn.ask) in
      let own = filter-less (is_of_side side) (asked_before cmp bar turns) in
      let numbers = length-map (filter (is_of_side side) (asked_before cmp bar turns)) (λ (ask : SideAsk). ask.number) in
      omega arith

  asked-most : (side : JoinSide) (lefts rights keys : List K) (n : ℕ)
      → ask_numbers side (schedule cmp lefts rights bar) ≡ 1 ∷ numbers_before cmp bar side (turns_from side n keys)
      → asked side (schedule cmp lefts rights bar) ≤ suc (length keys)
  asked-most side lefts rights keys n all =
      let numbers = length-map (filter (is_of_side side) (schedule cmp lefts rights bar)) (λ (ask : SideAsk). ask.number) in
      let same : length (ask_numbers side (schedule cmp lefts rights bar)) ≡ suc (length (numbers_before cmp bar side (turns_from side n keys))) =
      ap (λ (ns : List ℕ). length ns) all in
      let less = numbers_before-less side (turns_from side n keys) in
      let turns = length-turns side n keys in
      omega arith

  pub asked_left-most : (lefts rights : List K) → asked Left (schedule cmp lefts rights bar) ≤ suc (length lefts)
  asked_left-most lefts rights =
      asked-most Left lefts rights lefts 2 (ap (λ (ns : List ℕ). 1 ∷ ns) (left_turns cmp bar lefts rights))

  pub asked_right-most : (lefts rights : List K) → asked Right (schedule cmp lefts rights bar) ≤ suc (length rights)
  asked_right-most lefts rights =
      asked-most Right lefts rights rights 2 (ap (λ (ns : List ℕ). 1 ∷ ns) (right_turns cmp bar lefts rights))

-- as many asks of a side as numbers
length-numbers : (n count : ℕ) → length (numbers_from n count) ≡ count
length-numbers n zero = refl
length-numbers n (suc count) = ap suc (length-numbers (suc n) count)

pub asked-numbers : (side : JoinSide) (asks : List SideAsk) (n count : ℕ) → ask_numbers side asks ≡ numbers_from n count → asked side asks ≡ count
asked-numbers side asks n count e =
    sym (length-map (filter (is_of_side side) asks) (λ (ask : SideAsk). ask.number)) ∙ ap (λ (numbers : List ℕ). length numbers) e ∙ length-numbers n count

-- this many asks of one side are so many of it
pub asked-from : (side : JoinSide) (n count : ℕ) → asked side (asks_from side n count) ≡ count
asked-from Left n zero = refl
asked-from Left n (suc count) = ap suc (asked-from Left (suc n) count)
asked-from Right n zero = refl
asked-from Right n (suc count) = ap suc (asked-from Right (suc n) count)

-- one ask more, of which this tells whether it is of the side
asked-one : (side : JoinSide) (made : List SideAsk) (ask : SideAsk) → asked side (made ++ ask ∷ []) ≡ asked side made + cond (is_of_side side ask) 1 0
asked-one side made ask =
    ap (λ (asks : List SideAsk). length asks) (filter-append (is_of_side side) made (ask ∷ []))
    ∙ length-append (filter (is_of_side side) made) (filter (is_of_side side) (ask ∷ []))
    ∙ ap (λ n. asked side made + n) (one (is_of_side side ask))
  where
    one : (own : Bool) → length (cond own (ask ∷ []) []) ≡ cond own 1 0
    one true = refl
    one false = refl

-- one ask more of a side is none of the other one
pub asked-left : (made : List SideAsk) (n : ℕ) → (asked Left (made ++ record { side = Left; number = n } ∷ []) ≡ suc (asked Left made)) × (asked Right (made ++ record { side = Left; number = n } ∷ []) ≡ asked Right made)
asked-left made n =
    let own = asked-one Left made (record { side = Left; number = n }) in
    let other = asked-one Right made (record { side = Left; number = n }) in
    (omega arith, omega arith)

pub asked-right : (made : List SideAsk) (n : ℕ) → (asked Left (made ++ record { side = Right; number = n } ∷ []) ≡ asked Left made) × (asked Right (made ++ record { side = Right; number = n } ∷ []) ≡ suc (asked Right made))
asked-right made n =
    let other = asked-one Left made (record { side = Right; number = n }) in
    let own = asked-one Right made (record { side = Right; number = n }) in
    (omega arith, omega arith)

-- Two sides of a union in the order of their keys: which row comes first, and which asks that takes.
use Rattle.std.proofs.Common.{◌≡◌, ℕ, suc, ◌<◌, ◌≤◌, true, false, cond, List, [], ◌∷◌, ◌++◌, append-nil, length, drop, map, Option, Some, refl, sym, ◌∙◌, ap, ap₂, subst, ◌⊎◌, inl, inr, arith}
use Rattle.std.proofs.lemmas.Bool.{cases_lt}
use Rattle.std.proofs.lemmas.List.{append_assoc, map-append}
use Rattle.std.proofs.lemmas.List.Elements.{filter-append}
use Rattle.std.specs.List.{filter, slice_get}
use Rattle.std.specs.Ordering.{is_lt, is_gt}
use Rattle.rs_order.specs.Asks.{bar_after, comes_before_bar}
use Rattle.rs_order.specs.Climbing.{Climbs, Differs, In, Precedes}
use Rattle.rs_order.specs.Merging.{merged}
use Rattle.rs_order.specs.Schedule.{JoinSide, Left, Right, SideAsk, Turn, asked, asked_before, schedule, turns_from}
use Rattle.rs_order.proofs.AsksFacts.{bar_after-later, comes_before_bar-further}
use Rattle.rs_order.proofs.ClimbingFacts.{AllByRecursion-In}
use Rattle.rs_order.proofs.EachFacts.{each-push, each-weaker}
use Rattle.rs_order.proofs.ItemFacts.{In-map-back}
use Rattle.rs_order.proofs.MergingFacts.{Climbs-merged, In-merged, In-merged-back, merged-left, merged-right}
use Rattle.rs_order.proofs.PartFacts.{In-drop}
use Rattle.rs_order.proofs.ScheduleFacts.{asked-left, asked-right}
use Rattle.rs_rank.specs.declared.key.Key.{Key}
use Rattle.rs_rank.specs.Keys.{key_cmp}
use Rattle.rs_rank.proofs.OrderFacts.{IsTied-parts, key_cmp-total}
use Rattle.rs_setop.specs.declared.held.Head.TheVariants.{Unknown}
use Rattle.rs_outputs.specs.Rows.{OutputRow}
use Rattle.rs_setop.specs.Sides.{AreSides, IsRowOf, Sides, head_after, head_of, keys_of, row_key}
use Rattle.rs_setop.specs.Stands.{IsMerging, due, rows_left, turns_left}
use Rattle.rs_outputs.proofs.ListFacts.{Climbs-rest, below, filter-all, item-behind, none-before, not_before, not_before-itself, not_below, rest-some}

-- rows of different sides have different keys
pub sides-apart : (s : Sides) (lefts rights : List OutputRow) → AreSides s lefts rights → (x y : OutputRow) → In x lefts → In y rights → Differs key_cmp (row_key s) x y
sides-apart s lefts rights input x y h k tied =
    let parts = IsTied-parts (row_key s x) (row_key s y) tied in
    let left : x.row.ids.block ≡ s.left_block = (AllByRecursion-In (IsRowOf s s.left_block) lefts input.left_rows x h).block in
    let right : y.row.ids.block ≡ s.right_block = (AllByRecursion-In (IsRowOf s s.right_block) rights input.right_rows y k).block in
    let same : x.row.ids.block ≡ y.row.ids.block = parts.1 in
    let less : s.left_block < s.right_block = input.blocks in
    absurd (omega arith)

-- so the keys of the rows that are left of both rise
pub rows_left-climbs : (s : Sides) (lefts rights : List OutputRow) → AreSides s lefts rights → (left right : ℕ) → Climbs key_cmp (row_key s) (rows_left s lefts rights left right)
rows_left-climbs s lefts rights input left right =
    Climbs-merged key_cmp key_cmp-total (row_key s) (drop left lefts) (drop right rights)
    (Climbs-rest key_cmp (row_key s) left lefts input.left_rising) (Climbs-rest key_cmp (row_key s) right rights input.right_rising)
    (λ x y h k. sides-apart s lefts rights input x y (In-drop left lefts x h) (In-drop right rights y k))

-- the keys of the answers rise, and so do the bars
pub bars-keep : (s : Sides) (rows : List OutputRow) → Climbs key_cmp (row_key s) rows → (n : ℕ) (k : Key) → comes_before_bar key_cmp (bar_after (row_key s) rows n) k ≡ true → comes_before_bar key_cmp (bar_after (row_key s) rows (suc n)) k ≡ true
bars-keep s rows climbs n k h =
    comes_before_bar-further key_cmp key_cmp-total (bar_after (row_key s) rows n) (bar_after (row_key s) rows (suc n)) k
    (bar_after-later key_cmp key_cmp-total (row_key s) rows n (suc n) climbs (omega arith)) h

-- the first left row comes before all right ones, or the other way round
abbrev pub IsLeftFirst : Sides → OutputRow → List OutputRow → Type 0
IsLeftFirst s x [] = Unit {0}
IsLeftFirst s x (y ∷ ys) = is_gt (key_cmp (row_key s x) (row_key s y)) ≡ false

abbrev pub IsRightFirst : Sides → List OutputRow → OutputRow → Type 0
IsRightFirst s [] y = Unit {0}
IsRightFirst s (x ∷ xs) y = is_gt (key_cmp (row_key s x) (row_key s y)) ≡ true

abbrev turn_of : JoinSide → ℕ → Key → Turn Key
turn_of side n key = record { ask = record { side = side; number = n }; key = key }

left-rows : (s : Sides) (x : OutputRow) (xs ys : List OutputRow) → IsLeftFirst s x ys → merged key_cmp (row_key s) (x ∷ xs) ys ≡ x ∷ merged key_cmp (row_key s) xs ys
left-rows s x xs [] first = refl
left-rows s x xs (y ∷ ys) first = merged-left key_cmp (row_key s) x y xs ys first

right-rows : (s : Sides) (y : OutputRow) (xs ys : List OutputRow) → IsRightFirst s xs y → merged key_cmp (row_key s) xs (y ∷ ys) ≡ y ∷ merged key_cmp (row_key s) xs ys
right-rows s y [] ys first = refl
right-rows s y (x ∷ xs) ys first = merged-right key_cmp (row_key s) x y xs ys first

abbrev key_of_turn : Turn Key → Key
key_of_turn turn = turn.key

left-turns : (s : Sides) (n m : ℕ) (x : OutputRow) (xs ys : List OutputRow) → IsLeftFirst s x ys
    → merged key_cmp key_of_turn (turns_from Left n (keys_of s (x ∷ xs))) (turns_from Right m (keys_of s ys)) ≡ turn_of Left n (row_key s x) ∷ merged key_cmp key_of_turn (turns_from Left (suc n) (keys_of s xs)) (turns_from Right m (keys_of s ys))
left-turns s n m x xs [] first = refl
left-turns s n m x xs (y ∷ ys) first = merged-left key_cmp key_of_turn (turn_of Left n (row_key s x)) (turn_of Right m (row_key s y)) (turns_from Left (suc n) (keys_of s xs)) (turns_from Right (suc m) (keys_of s ys)) first

right-turns : (s : Sides) (n m : ℕ) (y : OutputRow) (xs ys : List OutputRow) → IsRightFirst s xs y
    → merged key_cmp key_of_turn (turns_from Left n (keys_of s xs)) (turns_from Right m (keys_of s (y ∷ ys))) ≡ turn_of Right m (row_key s y) ∷ merged key_cmp key_of_turn (turns_from Left n (keys_of s xs)) (turns_from Right (suc m) (keys_of s ys))
right-turns s n m y [] ys first = refl
right-turns s n m y (x ∷ xs) ys first = merged-right key_cmp key_of_turn (turn_of Left n (row_key s x)) (turn_of Right m (row_key s y)) (turns_from Left (suc n) (keys_of s xs)) (turns_from Right (suc m) (keys_of s ys)) first

-- the next row of both sides, where it is a left one, and where it is a right one
pub left-first : (s : Sides) (lefts rights : List OutputRow) (left right : ℕ) (x : OutputRow) → slice_get lefts left ≡ Some x → IsLeftFirst s x (drop right rights)
    → rows_left s lefts rights left right ≡ x ∷ rows_left s lefts rights (suc left) right
left-first s lefts rights left right x e first =
    ap (λ xs. merged key_cmp (row_key s) xs (drop right rights)) (rest-some left lefts x e) ∙ left-rows s x (drop (suc left) lefts) (drop right rights) first

pub right-first : (s : Sides) (lefts rights : List OutputRow) (left right : ℕ) (y : OutputRow) → slice_get rights right ≡ Some y → IsRightFirst s (drop left lefts) y
    → rows_left s lefts rights left right ≡ y ∷ rows_left s lefts rights left (suc right)
right-first s lefts rights left right y e first =
    ap (λ ys. merged key_cmp (row_key s) (drop left lefts) ys) (rest-some right rights y e) ∙ right-rows s y (drop left lefts) (drop (suc right) rights) first

-- a side whose next row is known isn't due, and one whose next row isn't known is
pub due-none : (side : JoinSide) (gone asks : ℕ) → asks ≡ suc gone → due side gone asks ≡ []
due-none side gone asks e = ap (λ b. cond b [] (record { side = side; number = suc gone } ∷ [])) (below gone asks (omega arith))

pub due-some : (side : JoinSide) (gone asks : ℕ) → asks ≡ gone → due side gone asks ≡ record { side = side; number = suc gone } ∷ []
due-some side gone asks e = ap (λ b. cond b [] (record { side = side; number = suc gone } ∷ [])) (not_below gone asks (omega arith))

pub head-known : (s : Sides) (rows : List OutputRow) (gone asks : ℕ) → asks ≡ suc gone → head_after s rows gone asks ≡ head_of s (slice_get rows gone)
head-known s rows gone asks e = ap (λ b. cond b (head_of s (slice_get rows gone)) Unknown) (below gone asks (omega arith))

pub head-unknown : (s : Sides) (rows : List OutputRow) (gone asks : ℕ) → asks ≡ gone → head_after s rows gone asks ≡ Unknown
head-unknown s rows gone asks e = ap (λ b. cond b (head_of s (slice_get rows gone)) Unknown) (not_below gone asks (omega arith))

-- one or the other
pub known-or_not : (gone asks : ℕ) → gone ≤ asks → asks ≤ suc gone → (asks ≡ gone) ⊎ (asks ≡ suc gone)
known-or_not gone asks least most =
    elim (cases_lt gone asks) [
      | inl less ↦ let e : asks ≡ suc gone = omega arith in inr e
      | inr le ↦ let e : asks ≡ gone = omega arith in inl e
    ]

-- nothing was asked
pub nothing-asked : (s : Sides) (lefts rights : List OutputRow) (bar : Option Key) → IsMerging s lefts rights [] bar 0 0 []
nothing-asked s lefts rights bar = record {
  left_least = omega arith;
  left_most = omega arith;
  right_least = omega arith;
  right_most = omega arith;
  turns = refl;
  before = tt;
  asks = refl;
}

module _ (s : Sides) (lefts rights : List OutputRow) (made : List SideAsk) (bar : Option Key) (left right : ℕ) (gone : List (Turn Key)) (m : IsMerging s lefts rights made bar left right gone) where
  abbrev left_ask : SideAsk
  left_ask = record { side = Left; number = suc (asked Left made) }

  abbrev right_ask : SideAsk
  right_ask = record { side = Right; number = suc (asked Right made) }

  -- the left side is asked
  pub left-asked : asked Left made ≡ left → IsMerging s lefts rights (made ++ left_ask ∷ []) bar left right gone
  left-asked e =
      let counts = asked-left made (suc (asked Left made)) in
      let more : asked Left (made ++ left_ask ∷ []) ≡ suc (asked Left made) = counts.0 in
      let same : asked Right (made ++ left_ask ∷ []) ≡ asked Right made = counts.1 in
      let right_least = m.right_least in
      let right_most = m.right_most in
      record {
        left_least = omega arith;
        left_most = omega arith;
        right_least = omega arith;
        right_most = omega arith;
        turns = m.turns;
        before = m.before;
        asks =
            ap₂ (λ front back. (made ++ left_ask ∷ []) ++ (front ++ back)) (due-none Left left (asked Left (made ++ left_ask ∷ [])) (more ∙ ap suc e)) (ap (due Right right) same)
            ∙ append_assoc made (left_ask ∷ []) (due Right right (asked Right made))
            ∙ ap (λ front. made ++ (front ++ due Right right (asked Right made))) (ap (λ n. record { side = Left; number = suc n } ∷ []) e ∙ sym (due-some Left left (asked Left made) e))
            ∙ m.asks;
      }

  -- the right side is asked, once the next left row is known
  pub right-asked : asked Left made ≡ suc left → asked Right made ≡ right → IsMerging s lefts rights (made ++ right_ask ∷ []) bar left right gone
  right-asked known e =
      let counts = asked-right made (suc (asked Right made)) in
      let same : asked Left (made ++ right_ask ∷ []) ≡ asked Left made = counts.0 in
      let more : asked Right (made ++ right_ask ∷ []) ≡ suc (asked Right made) = counts.1 in
      record {
        left_least = omega arith;
        left_most = omega arith;
        right_least = omega arith;
        right_most = omega arith;
        turns = m.turns;
        before = m.before;
        asks =
            ap₂ (λ front back. (made ++ right_ask ∷ []) ++ (front ++ back)) (due-none Left left (asked Left (made ++ right_ask ∷ [])) (same ∙ known)) (due-none Right right (asked Right (made ++ right_ask ∷ [])) (more ∙ ap suc e))
            ∙ append-nil (made ++ right_ask ∷ [])
            ∙ sym (ap₂ (λ front back. made ++ (front ++ back)) (due-none Left left (asked Left made) known) (due-some Right right (asked Right made) e ∙ ap (λ n. record { side = Right; number = suc n } ∷ []) (sym e)))
            ∙ m.asks;
      }

  -- the next rows of both sides are known: then all asks were made that those which are gone take
  pub all-made : asked Left made ≡ suc left → asked Right made ≡ suc right → made ≡ record { side = Left; number = 1 } ∷ record { side = Right; number = 1 } ∷ map (λ turn. turn.ask) gone
  all-made known_left known_right =
      sym (append-nil made)
      ∙ sym (ap₂ (λ front back. made ++ (front ++ back)) (due-none Left left (asked Left made) known_left) (due-none Right right (asked Right made) known_right))
      ∙ m.asks

  -- the first row is gone: its side is due
  module _ (known_left : asked Left made ≡ suc left) (known_right : asked Right made ≡ suc right) (next : Option Key) (keep : (k : Key) → comes_before_bar key_cmp bar k ≡ true → comes_before_bar key_cmp next k ≡ true) where
    pub left-gone : (x : OutputRow) → slice_get lefts left ≡ Some x → IsLeftFirst s x (drop right rights) → comes_before_bar key_cmp next (row_key s x) ≡ true
        → IsMerging s lefts rights made next (suc left) right (gone ++ turn_of Left (suc (suc left)) (row_key s x) ∷ [])
    left-gone x e first before = record {
      left_least = omega arith;
      left_most = omega arith;
      right_least = omega arith;
      right_most = omega arith;
      turns =
          m.turns
          ∙ ap (λ rest. gone ++ rest)
          (ap (λ xs. merged key_cmp key_of_turn (turns_from Left (suc (suc left)) (keys_of s xs)) (turns_from Right (suc (suc right)) (keys_of s (drop right rights)))) (rest-some left lefts x e)
          ∙ left-turns s (suc (suc left)) (suc (suc right)) x (drop (suc left) lefts) (drop right rights) first)
          ∙ sym (append_assoc gone (turn_of Left (suc (suc left)) (row_key s x) ∷ []) (turns_left s lefts rights (suc left) right));
      before =
          each-push (λ (turn : Turn Key). comes_before_bar key_cmp next turn.key ≡ true) gone (turn_of Left (suc (suc left)) (row_key s x))
          (each-weaker (λ (turn : Turn Key). comes_before_bar key_cmp bar turn.key ≡ true) (λ (turn : Turn Key). comes_before_bar key_cmp next turn.key ≡ true) (λ turn h. keep turn.key h) gone m.before) before;
      asks =
          ap₂ (λ front back. made ++ (front ++ back)) (due-some Left (suc left) (asked Left made) known_left) (due-none Right right (asked Right made) known_right)
          ∙ ap (λ front. front ++ record { side = Left; number = suc (suc left) } ∷ []) (all-made known_left known_right)
          ∙ ap (λ asks. record { side = Left; number = 1 } ∷ record { side = Right; number = 1 } ∷ asks) (sym (map-append (λ (turn : Turn Key). turn.ask) gone (turn_of Left (suc (suc left)) (row_key s x) ∷ [])));
    }

    pub right-gone : (y : OutputRow) → slice_get rights right ≡ Some y → IsRightFirst s (drop left lefts) y → comes_before_bar key_cmp next (row_key s y) ≡ true
        → IsMerging s lefts rights made next left (suc right) (gone ++ turn_of Right (suc (suc right)) (row_key s y) ∷ [])
    right-gone y e first before = record {
      left_least = omega arith;
      left_most = omega arith;
      right_least = omega arith;
      right_most = omega arith;
      turns =
          m.turns
          ∙ ap (λ rest. gone ++ rest)
          (ap (λ ys. merged key_cmp key_of_turn (turns_from Left (suc (suc left)) (keys_of s (drop left lefts))) (turns_from Right (suc (suc right)) (keys_of s ys))) (rest-some right rights y e)
          ∙ right-turns s (suc (suc left)) (suc (suc right)) y (drop left lefts) (drop (suc right) rights) first)
          ∙ sym (append_assoc gone (turn_of Right (suc (suc right)) (row_key s y) ∷ []) (turns_left s lefts rights left (suc right)));
      before =
          each-push (λ (turn : Turn Key). comes_before_bar key_cmp next turn.key ≡ true) gone (turn_of Right (suc (suc right)) (row_key s y))
          (each-weaker (λ (turn : Turn Key). comes_before_bar key_cmp bar turn.key ≡ true) (λ (turn : Turn Key). comes_before_bar key_cmp next turn.key ≡ true) (λ turn h. keep turn.key h) gone m.before) before;
      asks =
          ap₂ (λ front back. made ++ (front ++ back)) (due-none Left left (asked Left made) known_left) (due-some Right (suc right) (asked Right made) known_right)
          ∙ ap (λ front. front ++ record { side = Right; number = suc (suc right) } ∷ []) (all-made known_left known_right)
          ∙ ap (λ asks. record { side = Left; number = 1 } ∷ record { side = Right; number = 1 } ∷ asks) (sym (map-append (λ (turn : Turn Key). turn.ask) gone (turn_of Right (suc (suc right)) (row_key s y) ∷ [])));
    }

  -- the schedule: the asks made, those due, and those of the rows that are left
  pub scheduled : schedule key_cmp (keys_of s lefts) (keys_of s rights) bar ≡ (made ++ (due Left left (asked Left made) ++ due Right right (asked Right made))) ++ asked_before key_cmp bar (turns_left s lefts rights left right)
  scheduled =
      ap (λ asks. record { side = Left; number = 1 } ∷ record { side = Right; number = 1 } ∷ asks)
      (ap (asked_before key_cmp bar) m.turns
      ∙ ap (map (λ (turn : Turn Key). turn.ask)) (filter-append (λ (turn : Turn Key). comes_before_bar key_cmp bar turn.key) gone (turns_left s lefts rights left right))
      ∙ ap (λ front. map (λ (turn : Turn Key). turn.ask) (front ++ filter (λ (turn : Turn Key). comes_before_bar key_cmp bar turn.key) (turns_left s lefts rights left right))) (filter-all (λ (turn : Turn Key). comes_before_bar key_cmp bar turn.key) gone m.before)
      ∙ map-append (λ (turn : Turn Key). turn.ask) gone (filter (λ (turn : Turn Key). comes_before_bar key_cmp bar turn.key) (turns_left s lefts rights left right)))
      ∙ ap (λ asks. asks ++ asked_before key_cmp bar (turns_left s lefts rights left right)) (sym m.asks)

  -- what is due is the next ask of the schedule
  pub next-left : asked Left made ≡ left → slice_get (schedule key_cmp (keys_of s lefts) (keys_of s rights) bar) (length made) ≡ Some left_ask
  next-left e =
      ap (λ asks. slice_get asks (length made))
      (scheduled
      ∙ append_assoc made (due Left left (asked Left made) ++ due Right right (asked Right made)) (asked_before key_cmp bar (turns_left s lefts rights left right))
      ∙ ap (λ front. made ++ ((front ++ due Right right (asked Right made)) ++ asked_before key_cmp bar (turns_left s lefts rights left right))) (due-some Left left (asked Left made) e ∙ ap (λ n. record { side = Left; number = suc n } ∷ []) (sym e)))
      ∙ item-behind made (due Right right (asked Right made) ++ asked_before key_cmp bar (turns_left s lefts rights left right)) left_ask

  pub next-right : asked Left made ≡ suc left → asked Right made ≡ right → slice_get (schedule key_cmp (keys_of s lefts) (keys_of s rights) bar) (length made) ≡ Some right_ask
  next-right known e =
      ap (λ asks. slice_get asks (length made))
      (scheduled
      ∙ append_assoc made (due Left left (asked Left made) ++ due Right right (asked Right made)) (asked_before key_cmp bar (turns_left s lefts rights left right))
      ∙ ap₂ (λ front back. made ++ ((front ++ back) ++ asked_before key_cmp bar (turns_left s lefts rights left right))) (due-none Left left (asked Left made) known) (due-some Right right (asked Right made) e ∙ ap (λ n. record { side = Right; number = suc n } ∷ []) (sym e)))
      ∙ item-behind made (asked_before key_cmp bar (turns_left s lefts rights left right)) right_ask

  -- where none of the rows that are left comes before the bar, all is made
  pub all-asked : asked Left made ≡ suc left → asked Right made ≡ suc right → asked_before key_cmp bar (turns_left s lefts rights left right) ≡ [] → made ≡ schedule key_cmp (keys_of s lefts) (keys_of s rights) bar
  all-asked known_left known_right none =
      sym (scheduled
      ∙ ap (λ more. (made ++ (due Left left (asked Left made) ++ due Right right (asked Right made))) ++ more) none
      ∙ append-nil (made ++ (due Left left (asked Left made) ++ due Right right (asked Right made)))
      ∙ ap₂ (λ front back. made ++ (front ++ back)) (due-none Left left (asked Left made) known_left) (due-none Right right (asked Right made) known_right)
      ∙ append-nil made)

In-turns : (side : JoinSide) (n : ℕ) (keys : List Key) (turn : Turn Key) → In turn (turns_from side n keys) → In turn.key keys
In-turns side n [] turn h = absurd h
In-turns side n (key ∷ keys) turn h = elim h [ inl e ↦ inl (ap key_of_turn e) | inr k ↦ inr (In-turns side (suc n) keys turn k) ]

-- the turns of the rows that are left have their keys
In-turns_left : (s : Sides) (lefts rights : List OutputRow) (left right : ℕ) (turn : Turn Key) → In turn (turns_left s lefts rights left right) → (row : OutputRow) × (In row (rows_left s lefts rights left right) × (turn.key ≡ row_key s row))
In-turns_left s lefts rights left right turn h =
    elim (In-merged-back key_cmp key_of_turn turn (turns_from Left (suc (suc left)) (keys_of s (drop left lefts))) (turns_from Right (suc (suc right)) (keys_of s (drop right rights))) h) [
      | inl k ↦
          let image = In-map-back (row_key s) turn.key (drop left lefts) (In-turns Left (suc (suc left)) (keys_of s (drop left lefts)) turn k) in
          (image.source, (In-merged key_cmp (row_key s) image.source (drop left lefts) (drop right rights) (inl image.is_in), image.image))
      | inr k ↦
          let image = In-map-back (row_key s) turn.key (drop right rights) (In-turns Right (suc (suc right)) (keys_of s (drop right rights)) turn k) in
          (image.source, (In-merged key_cmp (row_key s) image.source (drop left lefts) (drop right rights) (inr image.is_in), image.image))
    ]

-- none of them comes before the first of these rows
pub none-left : (s : Sides) (lefts rights : List OutputRow) → AreSides s lefts rights → (left right : ℕ) (z : OutputRow) (rest : List OutputRow) → rows_left s lefts rights left right ≡ z ∷ rest
    → asked_before key_cmp (Some (row_key s z)) (turns_left s lefts rights left right) ≡ []
none-left s lefts rights input left right z rest e =
    ap (map (λ (turn : Turn Key). turn.ask)) (none-before key_cmp key_of_turn (row_key s z) (turns_left s lefts rights left right) late)
  where
    climbs : Climbs key_cmp (row_key s) (z ∷ rest)
    climbs = subst (Climbs key_cmp (row_key s)) e (rows_left-climbs s lefts rights input left right)

    late : (turn : Turn Key) → In turn (turns_left s lefts rights left right) → is_lt (key_cmp turn.key (row_key s z)) ≡ false
    late turn h =
        let row = In-turns_left s lefts rights left right turn h in
        ap (λ k. is_lt (key_cmp k (row_key s z))) row.1.1
        ∙ elim (subst (In row.0) e row.1.0) [
          | inl same ↦ ap (λ (w : OutputRow). is_lt (key_cmp (row_key s w) (row_key s z))) same ∙ not_before-itself key_cmp key_cmp-total (row_key s z)
          | inr behind ↦ not_before key_cmp key_cmp-total (row_key s z) (row_key s row.0) (AllByRecursion-In (Precedes key_cmp (row_key s) z) rest climbs.0 row.0 behind)
        ]

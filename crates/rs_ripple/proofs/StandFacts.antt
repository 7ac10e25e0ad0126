-- Where the core of a rank join stands: what it does next is the next ask of the schedule.
use Rattle.std.proofs.Common.{◌≡◌, ℕ, suc, ◌+◌, ◌<◌, ◌≤◌, Bool, true, false, not, cond, List, [], ◌∷◌, ◌++◌, append-nil, length, take, drop, map, Option, Some, None, refl, sym, ◌∙◌, ap, ap₂, subst, inl, inr, arith}
use Rattle.std.proofs.lemmas.Bool.{true≢false}
use Rattle.std.proofs.lemmas.List.{map-append, take-map}
use Rattle.std.proofs.lemmas.Option.{slice_get-map, slice_get_cases, slice_get_within}
use Rattle.std.specs.List.{slice_get}
use Rattle.std.specs.Option.{option_map}
use Rattle.std.specs.declared.cmp.Ordering.{Ordering}
use Rattle.rs_order.specs.Asks.{comes_before_bar, bar_after, those_before}
use Rattle.rs_order.specs.Climbing.{Ascends, Climbs, In, Precedes}
use Rattle.rs_order.specs.Sorting.{sorted}
use Rattle.rs_order.specs.Schedule.{Left, Right, SideAsk, Turn, asked, turns_of}
use Rattle.rs_order.proofs.EachFacts.{each-weaker}
use Rattle.rs_order.proofs.ItemFacts.{In-filter, In-right}
use Rattle.rs_order.proofs.PartFacts.{In-take, slice_get-drop, slice_get-shared}
use Rattle.rs_order.proofs.ClimbingFacts.{Climbs-map}
use Rattle.rs_rank.specs.declared.ask.JoinAsk.{JoinAsk}
use Rattle.rs_rank.specs.declared.ask.JoinAsk.TheVariants.{NeedLeft, NeedRight, Ready, End}
use Rattle.rs_rank.specs.declared.key.Key.{Key}
use Rattle.rs_rank.specs.declared.row.RankRow.{RankRow}
use Rattle.rs_rank.specs.Keys.{key_cmp}
use Rattle.rs_rank.specs.Rows.{merge_row}
use Rattle.rs_rank.specs.Turns.{left_keys, right_keys}
use Rattle.rs_rank.proofs.OrderFacts.{key_cmp-total}
use Rattle.rs_rank.proofs.TurnFacts as asks
use Rattle.rs_ripple.specs.Pairs.{pairs}
use Rattle.rs_ripple.specs.Ripple.{Ripple, ask_between, ask_of, first_side}
use Rattle.rs_ripple.specs.Stands.{AreSidesOf, BeginsWith, Join, Stands, answer_key, answers, merged_key, schedule_of, side_key, side_keys, state_after}
use Rattle.rs_ripple.proofs.BarFacts.{IsPast, IsSettledBy, reached_at, settled-None, settled-Some, settled-reached, bar_after-reached}
use Rattle.rs_ripple.proofs.NextFacts.{IsNext, ask_between-is, first_bar, ltb-false, next_turn, past-first, threshold-is}
use Rattle.rs_ripple.proofs.PairFacts.{Grid-take, IsPair-parts, IsPair-within, In-ordered, In-ordered-back, left-past, ordered-climbs, right-past}
use Rattle.rs_ripple.proofs.SideFacts.{merged_key-rows, sides-grid}
use Rattle.rs_ripple.proofs.TurnFacts.{Ascends-back, asks_in, before-all, before-each, before-front, before-none, before-split, before-whole, cut, turns-ascend, turns_between}

-- what an ask tells of the schedule for the next answer
abbrev pub Tells : Join → List RankRow → List RankRow → List SideAsk → ℕ → JoinAsk → Type 0
Tells j lefts rights made count ask = asks.Tells (schedule_of j lefts rights (suc count)) made count (length (answers j lefts rights)) ask

slice_get-append : {X : Type 0} (xs ys : List X) (y : X) → slice_get (xs ++ y ∷ ys) (length xs) ≡ Some y
slice_get-append [] ys y = refl
slice_get-append (x ∷ xs) ys y = slice_get-append xs ys y

pub pairs-none : (matches : RankRow → RankRow → Bool) (xs : List RankRow) → pairs matches merge_row xs [] ≡ []
pairs-none matches [] = refl
pairs-none matches (x ∷ xs) = pairs-none matches xs

-- the first two asks
abbrev pub first_asks : List SideAsk → List SideAsk
first_asks others = record { side = Left; number = 1 } ∷ record { side = Right; number = 1 } ∷ others

-- nothing is added to a list that stays the same
append-same : {X : Type 0} (xs ys : List X) → xs ≡ xs ++ ys → ys ≡ []
append-same [] ys e = sym e
append-same (x ∷ xs) ys e = let rest : xs ≡ xs ++ ys = cc in append-same xs ys rest

-- an item of the back of a list is in each longer back
In-behind : {X : Type 0} (few many front back : List X) (z : X) → few ++ many ≡ front ++ back → length few ≤ length front → In z back → In z many
In-behind [] many front back z e le h = subst (In z) (sym e) (In-right z front back h)
In-behind (f ∷ few) many [] back z e le h = absurd (omega arith)
In-behind (f ∷ few) many (g ∷ front) back z e le h =
    let rest : few ++ many ≡ front ++ back = cc in
    let less : length few ≤ length front = omega arith in
    In-behind few many front back z rest less h

-- keys that are equal one by one rise alike
Climbs-same_keys : {X K : Type 0} (cmp : K → K → Ordering) (f g : X → K) → ((x : X) → f x ≡ g x) → (xs : List X) → Climbs cmp f xs → Climbs cmp g xs
Climbs-same_keys cmp f g same [] climbs = tt
Climbs-same_keys cmp f g same (x ∷ xs) climbs = (
  each-weaker (Precedes cmp f x) (Precedes cmp g x) (λ y h. sym (ap₂ cmp (same x) (same y)) ∙ h) xs climbs.0,
  Climbs-same_keys cmp f g same xs climbs.1,
)

-- the keys of the turns of each side rise
pub left-climbs : (j : Join) (lefts rights : List RankRow) → AreSidesOf j lefts rights → Climbs key_cmp (λ key. key) (left_keys (merged_key j) (side_keys j j.left lefts) (side_keys j j.right rights))
left-climbs j lefts [] input = tt
left-climbs j lefts (y ∷ ys) input =
    Climbs-map key_cmp (λ k. k) (λ k. merged_key j k (side_key j j.right y)) (side_keys j j.left lefts)
    (Climbs-map key_cmp (λ k. merged_key j k (side_key j j.right y)) (side_key j j.left) lefts
    (Climbs-same_keys key_cmp (λ w. answer_key j (merge_row w y)) (λ w. merged_key j (side_key j j.left w) (side_key j j.right y)) (λ w. sym (merged_key-rows j w y)) lefts ((sides-grid j lefts (y ∷ ys) input).left_climbs y (inl refl))))

pub right-climbs : (j : Join) (lefts rights : List RankRow) → AreSidesOf j lefts rights → Climbs key_cmp (λ key. key) (right_keys (merged_key j) (side_keys j j.left lefts) (side_keys j j.right rights))
right-climbs j [] rights input = tt
right-climbs j (x ∷ xs) rights input =
    Climbs-map key_cmp (λ k. k) (merged_key j (side_key j j.left x)) (side_keys j j.right rights)
    (Climbs-map key_cmp (merged_key j (side_key j j.left x)) (side_key j j.right) rights
    (Climbs-same_keys key_cmp (λ w. answer_key j (merge_row x w)) (λ w. merged_key j (side_key j j.left x) (side_key j j.right w)) (λ w. sym (merged_key-rows j x w)) rights ((sides-grid j (x ∷ xs) rights input).right_climbs x (inl refl))))

-- two sides that have a row
module _ (j : Join) (x : RankRow) (xs : List RankRow) (y : RankRow) (ys : List RankRow) (input : AreSidesOf j (x ∷ xs) (y ∷ ys)) where
  -- the keys of the asks of each side behind the first one
  abbrev left_side : List Key
  left_side = left_keys (merged_key j) (side_keys j j.left (x ∷ xs)) (side_keys j j.right (y ∷ ys))

  abbrev right_side : List Key
  right_side = right_keys (merged_key j) (side_keys j j.left (x ∷ xs)) (side_keys j j.right (y ∷ ys))

  abbrev turns : List (Turn Key)
  turns = turns_of key_cmp left_side right_side

  abbrev whole : List RankRow
  whole = answers j (x ∷ xs) (y ∷ ys)

  abbrev part : ℕ → ℕ → List RankRow
  part i k = answers j (take i (x ∷ xs)) (take k (y ∷ ys))

  -- the threshold that comes first after this many rows of each side
  abbrev bar_at : ℕ → ℕ → Option Key
  bar_at m n = first_bar (slice_get left_side m) (slice_get right_side n)

  left_bar-is : (m : ℕ) → option_map (λ w. answer_key j (merge_row w y)) (slice_get (x ∷ xs) m) ≡ slice_get left_side m
  left_bar-is m =
      go (slice_get (x ∷ xs) m)
      ∙ sym (slice_get-map (λ k. merged_key j k (side_key j j.right y)) (side_keys j j.left (x ∷ xs)) m ∙ ap (option_map (λ k. merged_key j k (side_key j j.right y))) (slice_get-map (side_key j j.left) (x ∷ xs) m))
    where
      go : (o : Option RankRow) → option_map (λ w. answer_key j (merge_row w y)) o ≡ option_map (λ k. merged_key j k (side_key j j.right y)) (option_map (side_key j j.left) o)
      go None = refl
      go (Some w) = ap Some (sym (merged_key-rows j w y))

  right_bar-is : (n : ℕ) → option_map (λ w. answer_key j (merge_row x w)) (slice_get (y ∷ ys) n) ≡ slice_get right_side n
  right_bar-is n =
      go (slice_get (y ∷ ys) n)
      ∙ sym (slice_get-map (merged_key j (side_key j j.left x)) (side_keys j j.right (y ∷ ys)) n ∙ ap (option_map (merged_key j (side_key j j.left x))) (slice_get-map (side_key j j.right) (y ∷ ys) n))
    where
      go : (o : Option RankRow) → option_map (λ w. answer_key j (merge_row x w)) o ≡ option_map (merged_key j (side_key j j.left x)) (option_map (side_key j j.right) o)
      go None = refl
      go (Some w) = ap Some (sym (merged_key-rows j x w))

  -- what isn't drawn lies behind it
  pub settled-at : (m n : ℕ) → IsSettledBy key_cmp (answer_key j) (bar_at m n) (part (suc m) (suc n)) whole
  settled-at m n =
      let g = sides-grid j (x ∷ xs) (y ∷ ys) input in
      record {
        total = key_cmp-total;
        part_climbs = ordered-climbs key_cmp j.matches merge_row (answer_key j) (take (suc m) (x ∷ xs)) (take (suc n) (y ∷ ys)) (Grid-take key_cmp merge_row (answer_key j) (suc m) (suc n) (x ∷ xs) (y ∷ ys) g);
        whole_climbs = ordered-climbs key_cmp j.matches merge_row (answer_key j) (x ∷ xs) (y ∷ ys) g;
        within = λ z h.
            In-ordered key_cmp j.matches merge_row (answer_key j) (x ∷ xs) (y ∷ ys) z
            (IsPair-within j.matches merge_row (take (suc m) (x ∷ xs)) (x ∷ xs) (take (suc n) (y ∷ ys)) (y ∷ ys) z
            (λ w k. In-take (suc m) (x ∷ xs) w k) (λ w k. In-take (suc n) (y ∷ ys) w k)
            (In-ordered-back key_cmp j.matches merge_row (answer_key j) (take (suc m) (x ∷ xs)) (take (suc n) (y ∷ ys)) z h));
        missing = λ z h.
            elim (IsPair-parts j.matches merge_row (suc m) (suc n) (x ∷ xs) (y ∷ ys) z (In-ordered-back key_cmp j.matches merge_row (answer_key j) (x ∷ xs) (y ∷ ys) z h)) [
              | inl p ↦ inl (In-ordered key_cmp j.matches merge_row (answer_key j) (take (suc m) (x ∷ xs)) (take (suc n) (y ∷ ys)) z p)
              | inr q ↦ inr (past-first (slice_get left_side m) (slice_get right_side n) (answer_key j z) (elim q [
                | inl p ↦ inl (subst (λ bar. IsPast key_cmp bar (answer_key j z)) (left_bar-is m) (left-past key_cmp j.matches merge_row (answer_key j) m (x ∷ xs) y ys z g p))
                | inr p ↦ inr (subst (λ bar. IsPast key_cmp bar (answer_key j z)) (right_bar-is n) (right-past key_cmp j.matches merge_row (answer_key j) n x xs (y ∷ ys) z g p))
              ]))
            ];
      }

  -- what the core does next after this many rows of each side
  ask-is : (m n count : ℕ) → ask_of (state_after j (x ∷ xs) (y ∷ ys) (suc m) (suc n) count) ≡ cond (reached_at key_cmp (answer_key j) (bar_at m n) (slice_get (part (suc m) (suc n)) count)) Ready (first_side (slice_get left_side m) (slice_get right_side n))
  ask-is m n count =
      ap₂ (λ l r. ask_between l r (map (λ row. (answer_key j row, row)) (drop count (part (suc m) (suc n)))))
      (threshold-is (λ k. merged_key j k (side_key j j.right y)) (side_key j j.left x) (side_keys j j.left xs) m)
      (threshold-is (merged_key j (side_key j j.left x)) (side_key j j.right y) (side_keys j j.right ys) n)
      ∙ ask_between-is (slice_get left_side m) (slice_get right_side n) (answer_key j) (part (suc m) (suc n)) count

  -- the turns rise
  pub ascends : Ascends key_cmp (λ turn. turn.key) turns
  ascends = turns-ascend key_cmp key_cmp-total left_side right_side (left-climbs j (x ∷ xs) (y ∷ ys) input) (right-climbs j (x ∷ xs) (y ∷ ys) input)

  -- the key of an answer, and the turns that come before it
  abbrev last_key : ℕ → Option Key
  last_key count = bar_after (answer_key j) whole count

  abbrev those : ℕ → List (Turn Key) → List (Turn Key)
  those count ts = those_before key_cmp (λ turn. turn.key) (last_key count) ts

  -- the schedule goes on behind the turns that were had with those of the others that come before the answer
  schedule-is : (count : ℕ) (front back : List (Turn Key)) → turns ≡ front ++ back → ((z : Turn Key) → In z front → comes_before_bar key_cmp (last_key count) z.key ≡ true) →
      schedule_of j (x ∷ xs) (y ∷ ys) (suc count) ≡ first_asks (asks_in front) ++ asks_in (those count back)
  schedule-is count front back e all =
      ap (λ ts. first_asks (asks_in (those count ts))) e
      ∙ ap (λ ts. first_asks (asks_in ts)) (before-split key_cmp key_cmp-total (last_key count) front back all)
      ∙ ap first_asks (map-append (λ (turn : Turn Key). turn.ask) front (those count back))

  -- where the first held pair is reached, it is an answer
  ready-count : (m n count : ℕ) → reached_at key_cmp (answer_key j) (bar_at m n) (slice_get (part (suc m) (suc n)) count) ≡ true → count < length whole
  ready-count m n count e = go (slice_get (part (suc m) (suc n)) count) refl e
    where
      go : (o : Option RankRow) → slice_get (part (suc m) (suc n)) count ≡ o → reached_at key_cmp (answer_key j) (bar_at m n) o ≡ true → count < length whole
      go None f reached = absurd (true≢false (sym reached))
      go (Some p) f reached =
          let shared = settled-reached key_cmp (answer_key j) (part (suc m) (suc n)) whole (bar_at m n) (settled-at m n) count p f reached in
          slice_get_within whole count p (sym (slice_get-shared count (part (suc m) (suc n)) whole shared) ∙ f)

  -- the turns behind those that were had rise
  back-ascends : (front back : List (Turn Key)) → turns ≡ front ++ back → Ascends key_cmp (λ (turn : Turn Key). turn.key) back
  back-ascends front back e = Ascends-back key_cmp key_cmp-total None front back (subst (Ascends key_cmp (λ (turn : Turn Key). turn.key)) e ascends)

  -- where it is reached the schedule is made
  turn-reached : (m n count : ℕ) (front back : List (Turn Key)) (made : List SideAsk) → turns ≡ front ++ back → schedule_of j (x ∷ xs) (y ∷ ys) (suc count) ≡ made ++ asks_in (those count back) →
      (ask : SideAsk) (bar : Option Key) → IsSettledBy key_cmp (answer_key j) bar (part (suc m) (suc n)) whole → (k : Key) (rest : List (Turn Key)) → bar ≡ Some k → back ≡ record { ask = ask; key = k } ∷ rest →
      reached_at key_cmp (answer_key j) bar (slice_get (part (suc m) (suc n)) count) ≡ true → made ≡ schedule_of j (x ∷ xs) (y ∷ ys) (suc count)
  turn-reached m n count front back made e sched ask bar s k rest is_bar is_back r =
      let settled = subst (λ b. IsSettledBy key_cmp (answer_key j) b (part (suc m) (suc n)) whole) is_bar s in
      let reached = ap (λ b. reached_at key_cmp (answer_key j) b (slice_get (part (suc m) (suc n)) count)) (sym is_bar) ∙ r in
      let behind : comes_before_bar key_cmp (last_key count) k ≡ false = bar_after-reached key_cmp (answer_key j) (part (suc m) (suc n)) whole k settled count ∙ ap not reached in
      let none : those count back ≡ [] =
      ap (those count) is_back
      ∙ before-none key_cmp key_cmp-total (last_key count) (record { ask = ask; key = k }) rest (subst (Ascends key_cmp (λ (turn : Turn Key). turn.key)) is_back (back-ascends front back e)) behind in
      sym (sched ∙ ap (λ ts. made ++ asks_in ts) none ∙ append-nil made)

  -- else the next turn is in the schedule
  turn-asked : (m n count : ℕ) (front back : List (Turn Key)) (made : List SideAsk) → turns ≡ front ++ back → schedule_of j (x ∷ xs) (y ∷ ys) (suc count) ≡ made ++ asks_in (those count back) →
      (ask : SideAsk) (bar : Option Key) → IsSettledBy key_cmp (answer_key j) bar (part (suc m) (suc n)) whole → (k : Key) (rest : List (Turn Key)) → bar ≡ Some k → back ≡ record { ask = ask; key = k } ∷ rest →
      reached_at key_cmp (answer_key j) bar (slice_get (part (suc m) (suc n)) count) ≡ false → slice_get (schedule_of j (x ∷ xs) (y ∷ ys) (suc count)) (length made) ≡ Some ask
  turn-asked m n count front back made e sched ask bar s k rest is_bar is_back r =
      let settled = subst (λ b. IsSettledBy key_cmp (answer_key j) b (part (suc m) (suc n)) whole) is_bar s in
      let reached = ap (λ b. reached_at key_cmp (answer_key j) b (slice_get (part (suc m) (suc n)) count)) (sym is_bar) ∙ r in
      let before : comes_before_bar key_cmp (last_key count) k ≡ true = bar_after-reached key_cmp (answer_key j) (part (suc m) (suc n)) whole k settled count ∙ ap not reached in
      let some : those count back ≡ record { ask = ask; key = k } ∷ those count rest =
      ap (those count) is_back ∙ ap (λ b. cond b (record { ask = ask; key = k } ∷ those count rest) (those count rest)) before in
      ap (λ asks. slice_get asks (length made)) (sched ∙ ap (λ ts. made ++ asks_in ts) some) ∙ slice_get-append made (asks_in (those count rest)) ask

  -- what the core does next tells the asks, by the turn that is next
  tells-next : (m n count : ℕ) (front back : List (Turn Key)) (made : List SideAsk) → made ≡ first_asks (asks_in front) → asked Left made ≡ suc m → asked Right made ≡ suc n → turns ≡ front ++ back →
      schedule_of j (x ∷ xs) (y ∷ ys) (suc count) ≡ made ++ asks_in (those count back) → count ≤ length whole →
      (ask : JoinAsk) (bar : Option Key) → IsSettledBy key_cmp (answer_key j) bar (part (suc m) (suc n)) whole → IsNext back (m + 2) (n + 2) ask bar →
      (reached : Bool) → reached_at key_cmp (answer_key j) bar (slice_get (part (suc m) (suc n)) count) ≡ reached → (reached ≡ true → count < length whole) →
      Tells j (x ∷ xs) (y ∷ ys) made count (cond reached Ready ask)
  tells-next m n count front back made is left right e sched within Ready bar s next reached r ready = absurd next
  tells-next m n count front back made is left right e sched within End bar s next true r ready =
      (sym (sched ∙ ap (λ ts. made ++ asks_in (those count ts)) next.1 ∙ append-nil made), ready refl)
  tells-next m n count front back made is left right e sched within End bar s next false r ready =
      (sym (sched ∙ ap (λ ts. made ++ asks_in (those count ts)) next.1 ∙ append-nil made), all)
    where
      same : part (suc m) (suc n) ≡ whole
      same = settled-None key_cmp (answer_key j) (part (suc m) (suc n)) whole (subst (λ b. IsSettledBy key_cmp (answer_key j) b (part (suc m) (suc n)) whole) next.0 s)

      nothing : (o : Option RankRow) → reached_at key_cmp (answer_key j) None o ≡ false → o ≡ None
      nothing None f = refl
      nothing (Some p) f = absurd (true≢false f)

      all : count ≡ length whole
      all =
          let none = sym (ap (λ rows. slice_get rows count) same) ∙ nothing (slice_get (part (suc m) (suc n)) count) (ap (λ b. reached_at key_cmp (answer_key j) b (slice_get (part (suc m) (suc n)) count)) (sym next.0) ∙ r) in
          elim (slice_get_cases whole count).1 [
            | inl some ↦ absurd (none_some (sym none ∙ some.2))
            | inr past ↦ let le = past.0 in omega arith
          ]
        where
          none_some : {X : Type 0} {p : X} → None ≡ Some p → ⊥
          none_some f = cc
  tells-next m n count front back made is left right e sched within NeedLeft bar s next true r ready =
      (turn-reached m n count front back made e sched (record { side = Left; number = m + 2 }) bar s next.0 next.1 next.2 next.3 r, ready refl)
  tells-next m n count front back made is left right e sched within NeedLeft bar s next false r ready =
      let number : m + 2 ≡ suc (asked Left made) = omega arith in
      turn-asked m n count front back made e sched (record { side = Left; number = m + 2 }) bar s next.0 next.1 next.2 next.3 r
      ∙ ap (λ k. Some (record { side = Left; number = k })) number
  tells-next m n count front back made is left right e sched within NeedRight bar s next true r ready =
      (turn-reached m n count front back made e sched (record { side = Right; number = n + 2 }) bar s next.0 next.1 next.2 next.3 r, ready refl)
  tells-next m n count front back made is left right e sched within NeedRight bar s next false r ready =
      let number : n + 2 ≡ suc (asked Right made) = omega arith in
      turn-asked m n count front back made e sched (record { side = Right; number = n + 2 }) bar s next.0 next.1 next.2 next.3 r
      ∙ ap (λ k. Some (record { side = Right; number = k })) number

  -- the turn that is next
  next-at : (m n : ℕ) (back : List (Turn Key)) → back ≡ turns_between key_cmp (m + 2) (n + 2) (drop m left_side) (drop n right_side) → IsNext back (m + 2) (n + 2) (first_side (slice_get left_side m) (slice_get right_side n)) (bar_at m n)
  next-at m n back rest =
      subst (λ ts. IsNext ts (m + 2) (n + 2) (first_side (slice_get left_side m) (slice_get right_side n)) (bar_at m n)) (sym rest)
      (subst (λ o. IsNext (turns_between key_cmp (m + 2) (n + 2) (drop m left_side) (drop n right_side)) (m + 2) (n + 2) (first_side o (slice_get right_side n)) (first_bar o (slice_get right_side n))) (sym (slice_get-drop m left_side))
      (subst (λ o. IsNext (turns_between key_cmp (m + 2) (n + 2) (drop m left_side) (drop n right_side)) (m + 2) (n + 2) (first_side (slice_get (drop m left_side) 0) o) (first_bar (slice_get (drop m left_side) 0) o)) (sym (slice_get-drop n right_side))
      (next_turn (m + 2) (n + 2) (drop m left_side) (drop n right_side))))

  -- where both sides have had a turn, or more
  pub tells-turns : (count : ℕ) (front back : List (Turn Key)) → turns ≡ front ++ back → ((z : Turn Key) → In z front → comes_before_bar key_cmp (last_key count) z.key ≡ true) → count ≤ length whole →
      Tells j (x ∷ xs) (y ∷ ys) (first_asks (asks_in front)) count (ask_of (state_after j (x ∷ xs) (y ∷ ys) (suc (asked Left (asks_in front))) (suc (asked Right (asks_in front))) count))
  tells-turns count front back e all within =
      let c = cut key_cmp 2 2 left_side right_side front back e in
      let ask : JoinAsk = first_side (slice_get left_side c.m) (slice_get right_side c.n) in
      let next : IsNext back (c.m + 2) (c.n + 2) ask (bar_at c.m c.n) = next-at c.m c.n back c.rest in
      subst (λ i. Tells j (x ∷ xs) (y ∷ ys) (first_asks (asks_in front)) count (ask_of (state_after j (x ∷ xs) (y ∷ ys) (suc i) (suc (asked Right (asks_in front))) count))) (sym c.left_asked)
      (subst (λ k. Tells j (x ∷ xs) (y ∷ ys) (first_asks (asks_in front)) count (ask_of (state_after j (x ∷ xs) (y ∷ ys) (suc c.m) (suc k) count))) (sym c.right_asked)
      (subst (Tells j (x ∷ xs) (y ∷ ys) (first_asks (asks_in front)) count) (sym (ask-is c.m c.n count))
      (tells-next c.m c.n count front back (first_asks (asks_in front)) refl (ap suc c.left_asked) (ap suc c.right_asked) e (schedule-is count front back e all) within ask (bar_at c.m c.n) (settled-at c.m c.n) next
      (reached_at key_cmp (answer_key j) (bar_at c.m c.n) (slice_get (part (suc c.m) (suc c.n)) count)) refl (ready-count c.m c.n count))))

  -- turns up to an answer, and as many and more that were had: the next one doesn't come before the answer
  not-before : (count : ℕ) (front back : List (Turn Key)) (h : Turn Key) → turns ≡ front ++ back → length (those count turns) ≤ length front → In h back → comes_before_bar key_cmp (last_key count) h.key ≡ false
  not-before count front back h e few k =
      (elim (comes_before_bar key_cmp (last_key count) h.key) as (λ b. comes_before_bar key_cmp (last_key count) h.key ≡ b → b ≡ false) [
        | true ↦ λ f.
            let split : turns ≡ those count turns ++ drop (length (those count turns)) turns = before-whole key_cmp key_cmp-total (last_key count) turns ascends in
            let same : those count turns ≡ those count turns ++ those count (drop (length (those count turns)) turns) =
            ap (those count) split ∙ before-split key_cmp key_cmp-total (last_key count) (those count turns) (drop (length (those count turns)) turns) (before-each key_cmp key_cmp-total (last_key count) turns) in
            absurd (subst (In h) (append-same (those count turns) (those count (drop (length (those count turns)) turns)) same)
            (In-filter (λ (turn : Turn Key). comes_before_bar key_cmp (last_key count) turn.key) h (drop (length (those count turns)) turns)
            (In-behind (those count turns) (drop (length (those count turns)) turns) front back h (sym split ∙ e) few k) f))
        | false ↦ λ f. refl
      ]) refl

  -- so the answers up to that one are settled
  settled-next : (m n count : ℕ) (back : List (Turn Key)) (ask : JoinAsk) (bar : Option Key) → IsSettledBy key_cmp (answer_key j) bar (part (suc m) (suc n)) whole → IsNext back (m + 2) (n + 2) ask bar →
      ((h : Turn Key) → In h back → comes_before_bar key_cmp (last_key count) h.key ≡ false) → take (suc count) (part (suc m) (suc n)) ≡ take (suc count) whole
  settled-next m n count back Ready bar s next behind = absurd next
  settled-next m n count back End bar s next behind =
      ap (take (suc count)) (settled-None key_cmp (answer_key j) (part (suc m) (suc n)) whole (subst (λ b. IsSettledBy key_cmp (answer_key j) b (part (suc m) (suc n)) whole) next.0 s))
  settled-next m n count back NeedLeft bar s next behind =
      settled-Some key_cmp (answer_key j) (part (suc m) (suc n)) whole next.0 (subst (λ b. IsSettledBy key_cmp (answer_key j) b (part (suc m) (suc n)) whole) next.2 s) count
      (behind (record { ask = record { side = Left; number = m + 2 }; key = next.0 }) (subst (In (record { ask = record { side = Left; number = m + 2 }; key = next.0 })) (sym next.3) (inl refl)))
  settled-next m n count back NeedRight bar s next behind =
      settled-Some key_cmp (answer_key j) (part (suc m) (suc n)) whole next.0 (subst (λ b. IsSettledBy key_cmp (answer_key j) b (part (suc m) (suc n)) whole) next.2 s) count
      (behind (record { ask = record { side = Right; number = n + 2 }; key = next.0 }) (subst (In (record { ask = record { side = Right; number = n + 2 }; key = next.0 })) (sym next.3) (inl refl)))

  pub settled-turns : (count : ℕ) (front back : List (Turn Key)) → turns ≡ front ++ back → length (those count turns) ≤ length front →
      take (suc count) (part (suc (asked Left (asks_in front))) (suc (asked Right (asks_in front)))) ≡ take (suc count) whole
  settled-turns count front back e few =
      let c = cut key_cmp 2 2 left_side right_side front back e in
      subst (λ i. take (suc count) (part (suc i) (suc (asked Right (asks_in front)))) ≡ take (suc count) whole) (sym c.left_asked)
      (subst (λ k. take (suc count) (part (suc c.m) (suc k)) ≡ take (suc count) whole) (sym c.right_asked)
      (settled-next c.m c.n count back (first_side (slice_get left_side c.m) (slice_get right_side c.n)) (bar_at c.m c.n) (settled-at c.m c.n) (next-at c.m c.n back c.rest)
      (λ h k. not-before count front back h e few k)))

-- what the core does next where this many asks of the schedule were made
pub tells-state : (j : Join) (lefts rights : List RankRow) → AreSidesOf j lefts rights → (made : List SideAsk) (count : ℕ) → BeginsWith (schedule_of j lefts rights (suc count)) made → count ≤ length (answers j lefts rights) →
    Tells j lefts rights made count (ask_of (state_after j lefts rights (asked Left made) (asked Right made) count))
tells-state j [] rights input [] count begins within = refl
tells-state j [] rights input (a ∷ []) count begins within =
    let first : a ≡ record { side = Left; number = 1 } = cc in
    subst (λ ask. Tells j [] rights (ask ∷ []) count (ask_of (state_after j [] rights (asked Left (ask ∷ [])) (asked Right (ask ∷ [])) count))) (sym first)
    (refl, omega arith)
tells-state j [] rights input (a ∷ b ∷ others) count begins within = cc
tells-state j (x ∷ xs) rights input [] count begins within =
    subst (λ t. Tells j (x ∷ xs) rights [] count (cond t End NeedLeft)) (sym (ltb-false (suc (length (side_keys j j.left xs))) 0 (omega arith))) refl
tells-state j (x ∷ xs) rights input (a ∷ []) count begins within =
    let first : a ≡ record { side = Left; number = 1 } = cc in
    subst (λ ask. Tells j (x ∷ xs) rights (ask ∷ []) count (ask_of (state_after j (x ∷ xs) rights (asked Left (ask ∷ [])) (asked Right (ask ∷ [])) count))) (sym first)
    (subst (λ t. Tells j (x ∷ xs) rights (record { side = Left; number = 1 } ∷ []) count (cond t End NeedRight)) (sym (ltb-false (length (side_keys j j.right rights)) 0 (omega arith))) refl)
tells-state j (x ∷ xs) [] input (a ∷ b ∷ c ∷ others) count begins within = cc
tells-state j (x ∷ xs) [] input (a ∷ b ∷ []) count begins within =
    let first : a ≡ record { side = Left; number = 1 } = cc in
    let second : b ≡ record { side = Right; number = 1 } = cc in
    let none : length (answers j (x ∷ xs) []) ≡ 0 = ap (λ ps. length (sorted key_cmp (answer_key j) ps)) (pairs-none j.matches (x ∷ xs)) in
    subst (λ made. Tells j (x ∷ xs) [] made count (ask_of (state_after j (x ∷ xs) [] (asked Left made) (asked Right made) count))) (sym (ap₂ (λ u v. u ∷ v ∷ []) first second))
    (refl, omega arith)
tells-state j (x ∷ xs) (y ∷ ys) input (a ∷ b ∷ others) count begins within =
    let turns_all : List (Turn Key) = turns_of key_cmp (left_keys (merged_key j) (side_keys j j.left (x ∷ xs)) (side_keys j j.right (y ∷ ys))) (right_keys (merged_key j) (side_keys j j.left (x ∷ xs)) (side_keys j j.right (y ∷ ys))) in
    let bar : Option Key = bar_after (answer_key j) (answers j (x ∷ xs) (y ∷ ys)) count in
    let those : List (Turn Key) = those_before key_cmp (λ turn. turn.key) bar turns_all in
    let first : a ≡ record { side = Left; number = 1 } = cc in
    let second : b ≡ record { side = Right; number = 1 } = cc in
    let behind : others ≡ take (length others) (asks_in those) = cc in
    let front : others ≡ asks_in (take (length others) those) = behind ∙ take-map (λ (turn : Turn Key). turn.ask) (length others) those in
    subst (λ made. Tells j (x ∷ xs) (y ∷ ys) made count (ask_of (state_after j (x ∷ xs) (y ∷ ys) (asked Left made) (asked Right made) count)))
    (sym (ap₂ (λ u v. u ∷ v ∷ others) first second ∙ ap first_asks front))
    (tells-turns j x xs y ys input count (take (length others) those) (drop (length others) those ++ drop (length those) turns_all)
    (before-front key_cmp key_cmp-total bar turns_all (length others) (ascends j x xs y ys input))
    (before-all key_cmp key_cmp-total bar turns_all (length others)) within)

-- and so where it stands
pub stands-tells : (j : Join) (lefts rights : List RankRow) (made : List SideAsk) (count : ℕ) (ripple : Ripple) → Stands j lefts rights made count ripple → Tells j lefts rights made count (ask_of ripple)
stands-tells j lefts rights made count ripple s =
    subst (λ r. Tells j lefts rights made count (ask_of r)) (sym s.state) (tells-state j lefts rights s.input made count s.most s.within)

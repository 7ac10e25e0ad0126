-- The questions of a join certify its rows, where those of its sides certify theirs.
use Rattle.std.proofs.Common.{◌≡◌, ◌∙◌, ℕ, zero, suc, ◌+◌, ◌<◌, ◌≤◌, Bool, true, false, cond, List, [], ◌∷◌, ◌++◌, length, map, take, drop, Option, Some, None, refl, sym, ap, ap₂, subst, inl, inr, arith, ltb}
use Rattle.std.proofs.lemmas.Bool.{cases_lt}
use Rattle.std.proofs.lemmas.List.{length-map, take-map}
use Rattle.std.proofs.lemmas.Option.{slice_get_past, slice_get_within}
use Rattle.std.specs.List.{AllByRecursion, filter, flat_map, slice_get}
use Rattle.std.specs.Option.{option_map}
use Rattle.rs_order.specs.Asks.{bar_after}
use Rattle.rs_order.specs.Climbing.{In}
use Rattle.rs_order.specs.Schedule.{JoinSide, Left, Right, SideAsk, ask_numbers, asked, is_of_side, numbers_from}
use Rattle.rs_order.proofs.EachFacts.{each-behind, each-front}
use Rattle.rs_order.proofs.ItemFacts.{In-filter, In-filter-back, In-map, In-map-back}
use Rattle.rs_order.proofs.PartFacts.{bar_after-slice_get, slice_get-shared}
use Rattle.rs_order.proofs.ScheduleFacts.{asked-numbers}
use Rattle.rs_rank.specs.Keys.{key_cmp}
use Rattle.rs_rank.specs.declared.ask.JoinAsk.{JoinAsk}
use Rattle.rs_rank.specs.declared.ask.JoinAsk.TheVariants.{NeedLeft, NeedRight, Ready, End}
use Rattle.rs_rank.specs.declared.key.Key.{Key}
use Rattle.rs_rank.specs.declared.row.RankRow.{RankRow}
use Rattle.rs_rank.specs.Turns.{join_schedule, left_asks, right_asks}
use Rattle.rs_rank.proofs.OrderFacts.{key_cmp-total}
use Rattle.rs_rank.proofs.TurnFacts.{Tells, left_numbers, right_numbers}
use Rattle.rs_ripple.specs.Ripple.{Ripple, ask_of}
use Rattle.rs_ripple.specs.Stands.{AreSidesOf, BeginsWith, Join, answer_key, answers, drawn_of, merged_key, schedule_of, side_key, side_keys, state_after, taken_after}
use Rattle.rs_ripple.specs.declared.side.Drawn.{Drawn}
use Rattle.rs_ripple.specs.declared.side.Side.{Side}
use Rattle.rs_ripple.proofs.ScheduleFacts.{BeginsWith-append, BeginsWith-itself, BeginsWith-more, schedule_of-more, settled-made}
use Rattle.rs_ripple.proofs.StandFacts.{left-climbs, right-climbs, tells-state}

-- what holds of all that is made of some items holds of what is made of each
pub each-of : {A B : Type 0} (P : B → Type 0) (f : A → List B) (xs : List A) → AllByRecursion P (flat_map f xs) → (x : A) → In x xs → AllByRecursion P (f x)
each-of P f [] all x h = absurd h
each-of P f (y ∷ xs) all x (inl same) = subst (λ z. AllByRecursion P (f z)) (sym same) (each-front P (f y) (flat_map f xs) all)
each-of P f (y ∷ xs) all x (inr h) = each-of P f xs (each-behind P (f y) (flat_map f xs) all) x h

pub flat-alike : {A B : Type 0} (f g : A → List B) (xs : List A) → ((x : A) → In x xs → f x ≡ g x) → flat_map f xs ≡ flat_map g xs
flat-alike f g [] each = refl
flat-alike f g (x ∷ xs) each = ap₂ (λ ys zs. ys ++ zs) (each x (inl refl)) (flat-alike f g xs (λ y h. each y (inr h)))

-- numbers that follow one another
pub record IsPlace (first count number : ℕ) : Type 0 where
  pub place : ℕ
  pub within : place < count
  pub number_is : number ≡ first + place

In-numbers : (first count i : ℕ) → i < count → In (first + i) (numbers_from first count)
In-numbers first zero i less = absurd (omega arith)
In-numbers first (suc count) zero less = let same : first + 0 ≡ first = omega arith in inl same
In-numbers first (suc count) (suc i) less =
    let same : suc first + i ≡ first + suc i = omega arith in
    inr (subst (λ n. In n (numbers_from (suc first) count)) same (In-numbers (suc first) count i (omega arith)))

In-numbers-back : (first count number : ℕ) → In number (numbers_from first count) → IsPlace first count number
In-numbers-back first zero number h = absurd h
In-numbers-back first (suc count) number (inl same) = record { place = 0; within = omega arith; number_is = omega arith }
In-numbers-back first (suc count) number (inr h) =
    let found = In-numbers-back (suc first) count number h in
    let within = found.within in
    let is = found.number_is in
    record { place = suc found.place; within = omega arith; number_is = omega arith }

-- the asks of a side are numbered from 1 on
abbrev pub IsNumbered : List SideAsk → JoinSide → Type 0
IsNumbered asks side = ask_numbers side asks ≡ numbers_from 1 (asked side asks)

abbrev pub ask_at : JoinSide → ℕ → SideAsk
ask_at side n = record { side = side; number = n }

side-is : (side : JoinSide) (ask : SideAsk) → is_of_side side ask ≡ true → ask ≡ ask_at side ask.number
side-is Left ask is = go ask.side ask.number is where
  go : (s : JoinSide) (n : ℕ) → is_of_side Left (record { side = s; number = n }) ≡ true → record { side = s; number = n } ≡ ask_at Left n
  go Left n is = refl
  go Right n is = absurd (cc)
side-is Right ask is = go ask.side ask.number is where
  go : (s : JoinSide) (n : ℕ) → is_of_side Right (record { side = s; number = n }) ≡ true → record { side = s; number = n } ≡ ask_at Right n
  go Left n is = absurd (cc)
  go Right n is = refl

pub asks-there : (asks : List SideAsk) (side : JoinSide) → IsNumbered asks side → (i : ℕ) → i < asked side asks → In (ask_at side (suc i)) asks
asks-there asks side numbered i less =
    let there : In (suc i) (ask_numbers side asks) =
    subst (λ (numbers : List ℕ). In (suc i) numbers) (sym numbered)
    (let place : 1 + i ≡ suc i = omega arith in subst (λ n. In n (numbers_from 1 (asked side asks))) place (In-numbers 1 (asked side asks) i less)) in
    let image = In-map-back (λ (ask : SideAsk). ask.number) (suc i) (filter (is_of_side side) asks) there in
    let passed = In-filter-back (is_of_side side) image.source asks image.is_in in
    subst (λ (ask : SideAsk). In ask asks) (side-is side image.source passed.1 ∙ ap (ask_at side) (sym image.image)) passed.0

-- an ask of a schedule, by its side and its number
pub record IsAsk (asks : List SideAsk) (ask : SideAsk) : Type 0 where
  pub side : JoinSide
  pub place : ℕ
  pub within : place < asked side asks
  pub ask_is : ask ≡ ask_at side (suc place)

pub ask-of : (asks : List SideAsk) → ((side : JoinSide) → IsNumbered asks side) → (ask : SideAsk) → In ask asks → IsAsk asks ask
ask-of asks numbered ask h = go ask.side refl where
  go : (side : JoinSide) → ask.side ≡ side → IsAsk asks ask
  go side is =
      let own : is_of_side side ask ≡ true = own-side side ask is in
      let found = In-numbers-back 1 (asked side asks) ask.number
      (subst (λ (numbers : List ℕ). In ask.number numbers) (numbered side) (In-map (λ (a : SideAsk). a.number) ask (filter (is_of_side side) asks) (In-filter (is_of_side side) ask asks h own))) in
      let number = found.number_is in
      let place : ask.number ≡ suc found.place = omega arith in
      record { side = side; place = found.place; within = found.within; ask_is = side-is side ask own ∙ ap (ask_at side) place } where
        own-side : (side : JoinSide) (ask : SideAsk) → ask.side ≡ side → is_of_side side ask ≡ true
        own-side Left ask is = ap (λ s. is_of_side Left (record { side = s; number = ask.number })) is
        own-side Right ask is = ap (λ s. is_of_side Right (record { side = s; number = ask.number })) is

-- a first part of a schedule asks a side no oftener
pub asked-begun : (asks made : List SideAsk) (side : JoinSide) → BeginsWith asks made → asked side made ≤ asked side asks
asked-begun asks [] side begins = omega arith
asked-begun [] (m ∷ made) side begins = absurd (cc)
asked-begun (a ∷ asks) (m ∷ made) side begins =
    let first : m ≡ a = cc in
    let rest : made ≡ take (length made) asks = cc in
    let less = asked-begun asks made side rest in
    subst (λ x. asked side (x ∷ made) ≤ asked side (a ∷ asks)) (sym first)
    (elim (is_of_side side a) as (λ b. length (cond b (a ∷ filter (is_of_side side) made) (filter (is_of_side side) made)) ≤ length (cond b (a ∷ filter (is_of_side side) asks) (filter (is_of_side side) asks))) [
      | true ↦ omega arith
      | false ↦ omega arith
    ])

-- what an operator of two sides does next where these asks were made, by two schedules for one answer more
pub record IsNextOfBoth (asks others made : List SideAsk) (count all total : ℕ) : Type 0 where
  pub ask : JoinAsk
  pub tells : Tells asks made count all ask
  pub tells_other : Tells others made count total ask

pub length-one : {X : Type 0} (xs : List X) (x : X) → length (xs ++ x ∷ []) ≡ suc (length xs)
length-one [] x = refl
length-one (y ∷ ys) x = ap suc (length-one ys x)

-- two schedules by which the same is done next, wherever both are begun, are the same
pub same-schedules : (fuel : ℕ) (front asks others made : List SideAsk) (count all total : ℕ) → BeginsWith asks made → BeginsWith others made → BeginsWith made front → length asks ≤ length made + fuel
    → ((begun : List SideAsk) → BeginsWith asks begun → BeginsWith others begun → BeginsWith begun front → IsNextOfBoth asks others begun count all total) → asks ≡ others
same-schedules zero front asks others made count all total begins other_begins least most step =
    let next = step made begins other_begins least in
    last next.ask next.tells next.tells_other most where
      last : (ask : JoinAsk) → Tells asks made count all ask → Tells others made count total ask → length asks ≤ length made + 0 → asks ≡ others
      last Ready one two most = sym one.0 ∙ two.0
      last End one two most = sym one.0 ∙ two.0
      last NeedLeft one two most = let within = slice_get_within asks (length made) (ask_at Left (suc (asked Left made))) one in absurd (omega arith)
      last NeedRight one two most = let within = slice_get_within asks (length made) (ask_at Right (suc (asked Right made))) one in absurd (omega arith)
same-schedules (suc fuel) front asks others made count all total begins other_begins least most step =
    let next = step made begins other_begins least in
    on next.ask next.tells next.tells_other
    (λ more one two.
    let grown = length-one made more in
    same-schedules fuel front asks others (made ++ more ∷ []) count all total (BeginsWith-more asks made more begins one) (BeginsWith-more others made more other_begins two)
    (BeginsWith-append front made (more ∷ []) least) (omega arith) step) where
      on : (ask : JoinAsk) → Tells asks made count all ask → Tells others made count total ask
          → ((more : SideAsk) → slice_get asks (length made) ≡ Some more → slice_get others (length made) ≡ Some more → asks ≡ others) → asks ≡ others
      on Ready one two again = sym one.0 ∙ two.0
      on End one two again = sym one.0 ∙ two.0
      on NeedLeft one two again = again (ask_at Left (suc (asked Left made))) one two
      on NeedRight one two again = again (ask_at Right (suc (asked Right made))) one two

-- two joins of sides that have the same first rows
module _ (j : Join) (lefts rights lefts' rights' : List RankRow) (sides : AreSidesOf j lefts rights) (sides' : AreSidesOf j lefts' rights')
    (left_count : length lefts ≡ length lefts') (right_count : length rights ≡ length rights') (total : length (answers j lefts rights) ≡ length (answers j lefts' rights')) where
  pub numbered : (n : ℕ) (side : JoinSide) → IsNumbered (schedule_of j lefts rights (suc n)) side
  numbered n Left =
      let asks = schedule_of j lefts rights (suc n) in
      let bar = bar_after (answer_key j) (answers j lefts rights) n in
      let own = left_numbers key_cmp key_cmp-total (merged_key j) (side_keys j j.left lefts) (side_keys j j.right rights) bar (left-climbs j lefts rights sides) in
      own ∙ ap (numbers_from 1) (sym (asked-numbers Left asks 1 (left_asks key_cmp (merged_key j) (side_keys j j.left lefts) (side_keys j j.right rights) bar) own))
  numbered n Right =
      let asks = schedule_of j lefts rights (suc n) in
      let bar = bar_after (answer_key j) (answers j lefts rights) n in
      let own = right_numbers key_cmp key_cmp-total (merged_key j) (side_keys j j.left lefts) (side_keys j j.right rights) bar (right-climbs j lefts rights sides) in
      own ∙ ap (numbers_from 1) (sym (asked-numbers Right asks 1 (right_asks key_cmp (merged_key j) (side_keys j j.left lefts) (side_keys j j.right rights) bar) own))

  drawn-shared : (side : Side) (a : ℕ) (rows rows' : List RankRow) → take a rows ≡ take a rows' → drawn_of (take a (side_keys j side rows)) ≡ drawn_of (take a (side_keys j side rows'))
  drawn-shared side a rows rows' same =
      ap drawn_of (take-map (side_key j side) a rows ∙ ap (map (side_key j side)) same ∙ sym (take-map (side_key j side) a rows'))

  ended-shared : (side : Side) (a : ℕ) (rows rows' : List RankRow) → length rows ≡ length rows' → ltb (length (side_keys j side rows)) a ≡ ltb (length (side_keys j side rows')) a
  ended-shared side a rows rows' same = ap (λ n. ltb n a) (length-map rows (side_key j side) ∙ same ∙ sym (length-map rows' (side_key j side)))

  taken-shared : (count : ℕ) → take count (answers j lefts rights) ≡ take count (answers j lefts' rights') → taken_after j lefts rights count ≡ taken_after j lefts' rights' count
  taken-shared zero same = refl
  taken-shared (suc n) same =
      bar_after-slice_get (answer_key j) (answers j lefts rights) n
      ∙ ap (option_map (answer_key j)) (slice_get-shared n (answers j lefts rights) (answers j lefts' rights') same)
      ∙ sym (bar_after-slice_get (answer_key j) (answers j lefts' rights') n)

  -- they keep the same
  state-shared : (a b count : ℕ) → take a lefts ≡ take a lefts' → take b rights ≡ take b rights' → take count (answers j lefts rights) ≡ take count (answers j lefts' rights')
      → state_after j lefts rights a b count ≡ state_after j lefts' rights' a b count
  state-shared a b count left right same =
      ap₂ (λ (l r : Option Drawn). record (state_after j lefts rights a b count) { left = record { side = j.left; drawn = l; ended = ltb (length (side_keys j j.left lefts)) a }; right = record { side = j.right; drawn = r; ended = ltb (length (side_keys j j.right rights)) b } })
      (drawn-shared j.left a lefts lefts' left) (drawn-shared j.right b rights rights' right)
      ∙ ap₂ (λ (l r : Bool). record (state_after j lefts rights a b count) { left = record { side = j.left; drawn = drawn_of (take a (side_keys j j.left lefts')); ended = l }; right = record { side = j.right; drawn = drawn_of (take b (side_keys j j.right rights')); ended = r } })
      (ended-shared j.left a lefts lefts' left_count) (ended-shared j.right b rights rights' right_count)
      ∙ ap₂ (λ (key : Option Key) (rows : List RankRow). record (state_after j lefts' rights' a b count) { taken = key; held = map (λ (row : RankRow). (answer_key j row, row)) (drop count rows) })
      (taken-shared count same) (ap₂ (λ (ls rs : List RankRow). answers j ls rs) left right)

  -- what both have where their sides have the same first rows as far as one of them asks
  pub record JoinShare (n : ℕ) : Type 0 where
    pub rows : take n (answers j lefts rights) ≡ take n (answers j lefts' rights')
    pub asks : schedule_of j lefts rights n ≡ schedule_of j lefts' rights' n

  abbrev pub AreShared : ℕ → Type 0
  AreShared n =
      ((a : ℕ) → a ≤ asked Left (schedule_of j lefts rights n) → take a lefts ≡ take a lefts') × ((b : ℕ) → b ≤ asked Right (schedule_of j lefts rights n) → take b rights ≡ take b rights')

  pub fewer-shared : (n : ℕ) → AreShared (suc n) → AreShared n
  fewer-shared n shared =
      let left = asked-begun (schedule_of j lefts rights (suc n)) (schedule_of j lefts rights n) Left (schedule_of-more j lefts rights sides n) in
      let right = asked-begun (schedule_of j lefts rights (suc n)) (schedule_of j lefts rights n) Right (schedule_of-more j lefts rights sides n) in
      (λ a le. shared.0 a (omega arith), λ b le. shared.1 b (omega arith))

  bar-past : (rows : List RankRow) (n : ℕ) → length rows ≤ n → bar_after (answer_key j) rows n ≡ None
  bar-past rows n past = bar_after-slice_get (answer_key j) rows n ∙ ap (option_map (answer_key j)) (slice_get_past rows n past)

  -- beyond the last answer no more is asked
  past-same : (ls rs : List RankRow) (m : ℕ) → length (answers j ls rs) ≤ m → schedule_of j ls rs (suc (suc m)) ≡ schedule_of j ls rs (suc m)
  past-same ls rs m past =
      ap (λ (bar : Option Key). join_schedule key_cmp (merged_key j) (side_keys j j.left ls) (side_keys j j.right rs) bar)
      (bar-past (answers j ls rs) (suc m) (omega arith) ∙ sym (bar-past (answers j ls rs) m past))

  asks-shared : (n : ℕ) → AreShared (suc n) → JoinShare n → schedule_of j lefts rights (suc n) ≡ schedule_of j lefts' rights' (suc n)
  asks-shared n shared before =
      elim (cases_lt (length (answers j lefts rights)) n) [
        | inl past ↦ beyond n past before
        | inr within ↦
            let asks = schedule_of j lefts rights (suc n) in
            let others = schedule_of j lefts' rights' (suc n) in
            let front = schedule_of j lefts rights n in
            same-schedules (length asks) front asks others front n (length (answers j lefts rights)) (length (answers j lefts' rights'))
            (schedule_of-more j lefts rights sides n)
            (subst (λ (made : List SideAsk). BeginsWith (schedule_of j lefts' rights' (suc n)) made) (sym before.asks) (schedule_of-more j lefts' rights' sides' n))
            (BeginsWith-itself front) (omega arith)
            (λ made begins other_begins least.
            let a = asked Left made in
            let b = asked Right made in
            let left = asked-begun asks made Left begins in
            let right = asked-begun asks made Right begins in
            let same = state-shared a b n (shared.0 a left) (shared.1 b right) before.rows in
            record {
              ask = ask_of (state_after j lefts rights a b n);
              tells = tells-state j lefts rights sides made n begins within;
              tells_other = subst (λ (state : Ripple). Tells (schedule_of j lefts' rights' (suc n)) made n (length (answers j lefts' rights')) (ask_of state)) (sym same)
                  (tells-state j lefts' rights' sides' made n other_begins (omega arith));
            })
      ] where
        beyond : (n : ℕ) → length (answers j lefts rights) < n → JoinShare n → schedule_of j lefts rights (suc n) ≡ schedule_of j lefts' rights' (suc n)
        beyond zero past before = absurd (omega arith)
        beyond (suc m) past before =
            past-same lefts rights m (omega arith) ∙ before.asks ∙ sym (past-same lefts' rights' m (omega arith))

  pub join-shared : (n : ℕ) → AreShared n → JoinShare n
  join-shared zero shared = record { rows = refl; asks = refl }
  join-shared (suc n) shared =
      let asks = asks-shared n shared (join-shared n (fewer-shared n shared)) in
      let made = schedule_of j lefts rights (suc n) in
      record {
        rows =
            sym (settled-made j lefts rights sides made (suc n) (BeginsWith-itself made) (schedule_of-more j lefts rights sides (suc n)))
            ∙ ap₂ (λ (ls rs : List RankRow). take (suc n) (answers j ls rs)) (shared.0 (asked Left made) (omega arith)) (shared.1 (asked Right made) (omega arith))
            ∙ settled-made j lefts' rights' sides' made (suc n)
            (subst (λ (front : List SideAsk). BeginsWith made front) asks (BeginsWith-itself made))
            (subst (λ (front : List SideAsk). BeginsWith (schedule_of j lefts' rights' (suc (suc n))) front) (sym asks) (schedule_of-more j lefts' rights' sides' (suc n)));
        asks = asks;
      }

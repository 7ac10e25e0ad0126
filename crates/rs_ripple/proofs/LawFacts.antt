-- Each call leaves the core of a rank join where it stands.
use Rattle.std.proofs.Common.{◌≡◌, ℕ, zero, suc, ◌+◌, ◌<◌, ◌≤◌, Bool, true, false, ltb, List, [], ◌∷◌, ◌++◌, length, take, drop, map, Option, Some, None, refl, sym, ◌∙◌, ap, ap₂, subst, arith}
use Rattle.std.proofs.lemmas.Bool.{lt-ltb}
use Rattle.std.proofs.lemmas.List.{drop-drop, drop-map, length-map, take_all}
use Rattle.std.proofs.lemmas.Option.{slice_get-map, slice_get_within}
use Rattle.std.specs.List.{slice_get}
use Rattle.std.specs.Option.{option_map}
use Rattle.std.specs.declared.cmp.Ordering.TheVariants.{Equal}
use Rattle.rs_order.specs.Schedule.{Left, Right, SideAsk, asked}
use Rattle.rs_order.proofs.ClimbingFacts.{AllByRecursion-In, AllByRecursion-from_In}
use Rattle.rs_order.proofs.EachFacts.{each-map}
use Rattle.rs_order.proofs.PartFacts.{In-drop, In-slice_get, slice_get-drop, slice_get-shared, bar_after-slice_get}
use Rattle.rs_rank.specs.declared.ask.JoinAsk.{JoinAsk}
use Rattle.rs_rank.specs.declared.ask.JoinAsk.TheVariants.{NeedLeft, NeedRight, Ready}
use Rattle.rs_rank.specs.declared.key.Key.{Key}
use Rattle.rs_rank.specs.declared.row.RankRow.{RankRow}
use Rattle.rs_rank.specs.Keys.{key_cmp}
use Rattle.rs_rank.specs.Rows.{merge_row, first_row, first_key}
use Rattle.rs_rank.specs.Turns.{left_asks, right_asks}
use Rattle.rs_rank.proofs.OrderFacts.{key_cmp-total}
use Rattle.rs_rank.proofs.TurnFacts.{left_numbers, right_numbers}
use Rattle.rs_order.specs.Asks.{bar_after}
use Rattle.rs_order.proofs.ScheduleFacts.{asked-left, asked-numbers, asked-right}
use Rattle.rs_ripple.specs.declared.side.Drawn.{Drawn}
use Rattle.rs_ripple.specs.declared.side.Input.{Input}
use Rattle.rs_ripple.specs.declared.side.Side.{Side}
use Rattle.rs_ripple.specs.Pairs.{pairs_against, pairs_with}
use Rattle.rs_ripple.specs.Ripple.{CanDraw, CanDrawLeft, CanDrawRight, IsBehindDrawn, IsKeyOf, IsOfBlock, Ripple, ask_of, drawn_with, left_drawn, left_ended, left_for, new_ripple, right_drawn, right_ended, taken_for}
use Rattle.rs_ripple.specs.Stands.{AreFoundOf, AreRowsOf, AreSidesOf, BeginsWith, CanFindEach, IsRowOf, Join, Stands, answer_key, answers, drawn_of, found_each, input_after, merged_key, schedule_of, side_key, side_keys, state_after, taken_after}
use Rattle.rs_ripple.proofs.GrowFacts.{Grows, drop-grown, put_each-map}
use Rattle.rs_ripple.proofs.NextFacts.{ltb-false}
use Rattle.rs_ripple.proofs.ScheduleFacts.{BeginsWith-append, BeginsWith-itself, BeginsWith-more, schedule_of-more, settled-made}
use Rattle.rs_ripple.proofs.StandFacts.{Tells, left-climbs, right-climbs, stands-tells}
use Rattle.rs_ripple.proofs.StepFacts.{IsFindable, behind-drawn, block-drawn, can_find_each, drawn-more, fits, found_each-held, grows-left, grows-right, kept, kept-same, key_of_pair, pair_of, part-back, row-key}

-- nothing is asked for yet
pub new-stands : (j : Join) (lefts rights : List RankRow) → AreSidesOf j lefts rights → Stands j lefts rights [] 0 (new_ripple j.weights j.left j.right)
new-stands j lefts rights input = record {
  input = input;
  state = kept-same j None None false (ltb (length (side_keys j j.left lefts)) 0) None None false (ltb (length (side_keys j j.right rights)) 0) None None [] []
      refl (sym (ltb-false (length (side_keys j j.left lefts)) 0 (omega arith))) refl (sym (ltb-false (length (side_keys j j.right rights)) 0 (omega arith))) refl refl;
  least = refl;
  most = refl;
  within = omega arith;
}

-- no row is at a place behind the last one
pub slice_get_none : {X : Type 0} (xs : List X) (n : ℕ) → slice_get xs n ≡ None → length xs ≤ n
slice_get_none [] n e = omega arith
slice_get_none (x ∷ xs) zero e = cc
slice_get_none (x ∷ xs) (suc n) e = let le = slice_get_none xs n e in omega arith

-- what a side keeps of its keys where it has one more row, before and after that row is drawn
pub record Goes (j : Join) (side : Side) (rows : List RankRow) (n : ℕ) (row : RankRow) : Type 0 where
  pub drawn : Some (drawn_with (drawn_of (take n (side_keys j side rows))) (side_key j side row)) ≡ drawn_of (take (suc n) (side_keys j side rows))
  pub over : ltb (length (side_keys j side rows)) n ≡ ltb (length (side_keys j side rows)) (suc n)

pub goes : (j : Join) (side : Side) (rows : List RankRow) (n : ℕ) (row : RankRow) → slice_get rows n ≡ Some row → Goes j side rows n row
goes j side rows n row e =
    let within = slice_get_within rows n row e in
    let count = length-map rows (side_key j side) in
    let a : n ≤ length (side_keys j side rows) = omega arith in
    let b : suc n ≤ length (side_keys j side rows) = omega arith in
    record {
      drawn = drawn-more (side_keys j side rows) n (side_key j side row) (slice_get-map (side_key j side) rows n ∙ ap (option_map (side_key j side)) e);
      over = ltb-false (length (side_keys j side rows)) n a ∙ sym (ltb-false (length (side_keys j side rows)) (suc n) b);
    }

-- and where it has none
pub record Ends (j : Join) (side : Side) (rows : List RankRow) (n : ℕ) : Type 0 where
  pub same : take n rows ≡ take (suc n) rows
  pub drawn : drawn_of (take n (side_keys j side rows)) ≡ drawn_of (take (suc n) (side_keys j side rows))
  pub over : true ≡ ltb (length (side_keys j side rows)) (suc n)

pub ends : (j : Join) (side : Side) (rows : List RankRow) (n : ℕ) → slice_get rows n ≡ None → Ends j side rows n
ends j side rows n e =
    let past = slice_get_none rows n e in
    let size = length-map rows (side_key j side) in
    let far : length (side_keys j side rows) ≤ n = omega arith in
    let further : length (side_keys j side rows) ≤ suc n = omega arith in
    let less : length (side_keys j side rows) < suc n = omega arith in
    let rows_further : length rows ≤ suc n = omega arith in
    record {
      same = take_all n rows past ∙ sym (take_all (suc n) rows rows_further);
      drawn = ap drawn_of (take_all n (side_keys j side rows) far ∙ sym (take_all (suc n) (side_keys j side rows) further));
      over = sym (lt-ltb (length (side_keys j side rows)) (suc n) less);
    }

-- the next ask, and how many of each side are made with it
pub record IsNext (j : Join) (lefts rights : List RankRow) (made : List SideAsk) (count : ℕ) (ask : SideAsk) (m n : ℕ) : Type 0 where
  pub left : asked Left (made ++ ask ∷ []) ≡ m
  pub right : asked Right (made ++ ask ∷ []) ≡ n
  pub tells : slice_get (schedule_of j lefts rights (suc count)) (length made) ≡ Some ask

module _ (j : Join) (lefts rights : List RankRow) (made : List SideAsk) (count : ℕ) (ripple : Ripple) (s : Stands j lefts rights made count ripple) where
  abbrev part : ℕ → ℕ → List RankRow
  part i k = answers j (take i lefts) (take k rights)

  abbrev whole : List RankRow
  whole = answers j lefts rights

  abbrev i : ℕ
  i = asked Left made

  abbrev k : ℕ
  k = asked Right made

  abbrev left_keys : List Key
  left_keys = side_keys j j.left lefts

  abbrev right_keys : List Key
  right_keys = side_keys j j.right rights

  abbrev taken : Option Key
  taken = taken_after j lefts rights count

  abbrev next_left : SideAsk
  next_left = record { side = Left; number = suc i }

  abbrev next_right : SideAsk
  next_right = record { side = Right; number = suc k }

  pub next-left : ask_of ripple ≡ NeedLeft → IsNext j lefts rights made count next_left (suc i) k
  next-left need =
      let counts = asked-left made (suc i) in
      record { left = counts.0; right = counts.1; tells = subst (Tells j lefts rights made count) need (stands-tells j lefts rights made count ripple s) }

  pub next-right : ask_of ripple ≡ NeedRight → IsNext j lefts rights made count next_right i (suc k)
  next-right need =
      let counts = asked-right made (suc k) in
      record { left = counts.0; right = counts.1; tells = subst (Tells j lefts rights made count) need (stands-tells j lefts rights made count ripple s) }

  pub settled-now : take count (part i k) ≡ take count whole
  settled-now = settled-made j lefts rights s.input made count s.least s.most

  -- one ask more of either side
  module _ (ask : SideAsk) (m n : ℕ) (next : IsNext j lefts rights made count ask m n) where
    -- the answers given stay those of the whole
    pub settled : take count (part m n) ≡ take count whole
    settled =
        subst (λ x. take count (part x n) ≡ take count whole) next.left
        (subst (λ y. take count (part (asked Left (made ++ ask ∷ [])) y) ≡ take count whole) next.right
        (settled-made j lefts rights s.input (made ++ ask ∷ []) count
        (BeginsWith-append (schedule_of j lefts rights count) made (ask ∷ []) s.least)
        (BeginsWith-more (schedule_of j lefts rights (suc count)) made ask s.most next.tells)))

    pub asked-stands : {left right : Option Drawn} {left_over right_over : Bool} {held : List (Key × RankRow)} (r : Ripple) → left ≡ drawn_of (take m left_keys) → left_over ≡ ltb (length left_keys) m → right ≡ drawn_of (take n right_keys) → right_over ≡ ltb (length right_keys) n →
        held ≡ map (pair_of j) (drop count (part m n)) → r ≡ kept j left left_over right right_over taken held → Stands j lefts rights (made ++ ask ∷ []) count r
    asked-stands {left} {right} {left_over} {right_over} {held} r l lo rt ro h e = record {
      input = s.input;
      state = e
          ∙ kept-same j left (drawn_of (take m left_keys)) left_over (ltb (length left_keys) m) right (drawn_of (take n right_keys)) right_over (ltb (length right_keys) n) taken taken held (map (pair_of j) (drop count (part m n))) l lo rt ro refl h
          ∙ sym (ap₂ (λ x y. state_after j lefts rights x y count) next.left next.right);
      least = BeginsWith-append (schedule_of j lefts rights count) made (ask ∷ []) s.least;
      most = BeginsWith-more (schedule_of j lefts rights (suc count)) made ask s.most next.tells;
      within = s.within;
    }

    -- the pairs of the row that it brings are found
    module _ (more : List RankRow) (g : Grows key_cmp (answer_key j) (part i k) (part m n) more) (left right : Option Drawn) (l : left ≡ drawn_of (take m left_keys)) (r : right ≡ drawn_of (take n right_keys)) where
      abbrev drawn_now : Ripple
      drawn_now = kept j left (ltb (length left_keys) i) right (ltb (length right_keys) k) taken (map (pair_of j) (drop count (part i k)))

      drawn-found : CanFindEach more drawn_now
      drawn-found =
          can_find_each j left (ltb (length left_keys) i) right (ltb (length right_keys) k) taken more (map (pair_of j) (drop count (part i k)))
          (λ z h. subst (λ d. IsFindable j d right taken z) (sym l) (subst (λ d. IsFindable j (drawn_of (take m left_keys)) d taken z) (sym r)
          (fits j lefts rights s.input m n count more (part i k) (part m n) g (settled-now ∙ sym settled) settled z h (part-back j lefts rights s.input m n z (g.comes z h)))))
          g.distinct
          (λ z h. each-map (λ pair. key_cmp pair.0 (answer_key j z) ≡ Equal → ⊥) (pair_of j) (drop count (part i k))
          (AllByRecursion-from_In (λ w. key_cmp (answer_key j w) (answer_key j z) ≡ Equal → ⊥) (drop count (part i k)) (λ w h'. g.apart w z (In-drop count (part i k) w h') h)))

      drawn-stands : ltb (length left_keys) i ≡ ltb (length left_keys) m → ltb (length right_keys) k ≡ ltb (length right_keys) n → Stands j lefts rights (made ++ ask ∷ []) count (found_each more drawn_now)
      drawn-stands lo ro =
          asked-stands (found_each more drawn_now) l lo r ro
          (put_each-map key_cmp key_of_pair (pair_of j) (drop count (part i k)) more
          ∙ ap (map (pair_of j)) (drop-grown key_cmp (answer_key j) (part i k) (part m n) more g count (settled-now ∙ sym settled)))
          (found_each-held more drawn_now)

  -- a row of either side can be drawn
  can-draw : (ask : JoinAsk) (side : Side) (rows : List RankRow) (n : ℕ) (input : Input) (row : RankRow) → ask_of ripple ≡ ask → AreRowsOf j side rows → input ≡ input_after side (side_keys j side rows) n → slice_get rows n ≡ Some row → CanDraw ask input (side_key j side row) ripple
  can-draw ask side rows n input row need are e next =
      let here = AllByRecursion-In (IsRowOf j side) rows are.each row (In-slice_get n rows row next) in
      record {
        alive = ap (λ (r : Ripple). r.spent) s.state;
        need = need;
        own = subst (λ (r : Ripple). IsKeyOf r.weights input.side (side_key j side row)) (sym s.state) (subst (λ (kept : Input). IsKeyOf j.weights kept.side (side_key j side row)) (sym e) (row-key j side row here));
        left_block = subst (λ (r : Ripple). IsOfBlock r.left.drawn row.ids.block) (sym s.state) (block-drawn j j.left lefts i row.ids.block s.input.left_rows.each here.block);
        right_block = subst (λ (r : Ripple). IsOfBlock r.right.drawn row.ids.block) (sym s.state) (block-drawn j j.right rights k row.ids.block s.input.right_rows.each here.block);
        behind = subst (λ (kept : Input). IsBehindDrawn kept.drawn (side_key j side row)) (sym e) (behind-drawn (side_key j side) rows n row are.rising next);
      }

  pub left-can : ask_of ripple ≡ NeedLeft → (row : RankRow) → slice_get lefts i ≡ Some row → CanDrawLeft (side_key j j.left row) ripple
  left-can need row next = can-draw NeedLeft j.left lefts i ripple.left row need s.input.left_rows (ap (λ (r : Ripple). r.left) s.state) next

  pub right-can : ask_of ripple ≡ NeedRight → (row : RankRow) → slice_get rights k ≡ Some row → CanDrawRight (side_key j j.right row) ripple
  right-can need row next = can-draw NeedRight j.right rights k ripple.right row need s.input.right_rows (ap (λ (r : Ripple). r.right) s.state) next

  -- a left row is drawn, and its pairs are found
  module _ (need : ask_of ripple ≡ NeedLeft) (row : RankRow) (more : List RankRow) (next : slice_get lefts i ≡ Some row) (found : AreFoundOf more (pairs_with j.matches merge_row (take k rights) row)) where
    abbrev left_now : Option Drawn
    left_now = Some (drawn_with (drawn_of (take i left_keys)) (side_key j j.left row))

    pub left-found : CanFindEach more (left_drawn (side_key j j.left row) ripple)
    left-found =
        subst (λ r. CanFindEach more (left_drawn (side_key j j.left row) r)) (sym s.state)
        (drawn-found next_left (suc i) k (next-left need) more (grows-left j lefts rights s.input i k row more next found) left_now (drawn_of (take k right_keys)) (goes j j.left lefts i row next).drawn refl)

    pub left-stands : Stands j lefts rights (made ++ next_left ∷ []) count (found_each more (left_drawn (side_key j j.left row) ripple))
    left-stands =
        subst (λ r. Stands j lefts rights (made ++ next_left ∷ []) count (found_each more (left_drawn (side_key j j.left row) r))) (sym s.state)
        (drawn-stands next_left (suc i) k (next-left need) more (grows-left j lefts rights s.input i k row more next found) left_now (drawn_of (take k right_keys)) (goes j j.left lefts i row next).drawn refl
        (goes j j.left lefts i row next).over refl)

  -- a right row is drawn, and its pairs are found
  module _ (need : ask_of ripple ≡ NeedRight) (row : RankRow) (more : List RankRow) (next : slice_get rights k ≡ Some row) (found : AreFoundOf more (pairs_against j.matches merge_row (take i lefts) row)) where
    abbrev right_now : Option Drawn
    right_now = Some (drawn_with (drawn_of (take k right_keys)) (side_key j j.right row))

    pub right-found : CanFindEach more (right_drawn (side_key j j.right row) ripple)
    right-found =
        subst (λ r. CanFindEach more (right_drawn (side_key j j.right row) r)) (sym s.state)
        (drawn-found next_right i (suc k) (next-right need) more (grows-right j lefts rights s.input i k row more next found) (drawn_of (take i left_keys)) right_now refl (goes j j.right rights k row next).drawn)

    pub right-stands : Stands j lefts rights (made ++ next_right ∷ []) count (found_each more (right_drawn (side_key j j.right row) ripple))
    right-stands =
        subst (λ r. Stands j lefts rights (made ++ next_right ∷ []) count (found_each more (right_drawn (side_key j j.right row) r))) (sym s.state)
        (drawn-stands next_right i (suc k) (next-right need) more (grows-right j lefts rights s.input i k row more next found) (drawn_of (take i left_keys)) right_now refl (goes j j.right rights k row next).drawn
        refl (goes j j.right rights k row next).over)

  -- a side ends
  pub left-ended-stands : ask_of ripple ≡ NeedLeft → slice_get lefts i ≡ None → Stands j lefts rights (made ++ next_left ∷ []) count (left_ended ripple)
  left-ended-stands need over =
      let e = ends j j.left lefts i over in
      asked-stands next_left (suc i) k (next-left need) (left_ended ripple) e.drawn e.over refl refl (ap (λ rows. map (pair_of j) (drop count (answers j rows (take k rights)))) e.same) (ap left_ended s.state)

  pub right-ended-stands : ask_of ripple ≡ NeedRight → slice_get rights k ≡ None → Stands j lefts rights (made ++ next_right ∷ []) count (right_ended ripple)
  right-ended-stands need over =
      let e = ends j j.right rights k over in
      asked-stands next_right i (suc k) (next-right need) (right_ended ripple) refl refl e.drawn e.over (ap (λ rows. map (pair_of j) (drop count (answers j (take i lefts) rows))) e.same) (ap right_ended s.state)

  -- the answers up to the next one are those of the whole
  pub ready-settled : ask_of ripple ≡ Ready → take (suc count) (part i k) ≡ take (suc count) whole
  ready-settled ready =
      let tells = subst (Tells j lefts rights made count) ready (stands-tells j lefts rights made count ripple s) in
      settled-made j lefts rights s.input made (suc count)
      (subst (λ m. BeginsWith m (schedule_of j lefts rights (suc count))) (sym tells.0) (BeginsWith-itself (schedule_of j lefts rights (suc count))))
      (subst (λ m. BeginsWith (schedule_of j lefts rights (suc (suc count))) m) (sym tells.0) (schedule_of-more j lefts rights s.input (suc count)))

  -- a pair is taken
  pub taken-is : ask_of ripple ≡ Ready → taken_for (ask_of ripple) ripple ≡ slice_get (answers j lefts rights) count
  taken-is ready =
      ap (λ ask. taken_for ask ripple) ready
      ∙ ap first_row (ap (λ (r : Ripple). r.held) s.state)
      ∙ row-of (drop count (part i k)) ∙ sym (slice_get-drop count (part i k)) ∙ slice_get-shared count (part i k) whole (ready-settled ready)
    where
      row-of : (rows : List RankRow) → first_row (map (pair_of j) rows) ≡ slice_get rows 0
      row-of [] = refl
      row-of (row ∷ rows) = refl

  pub taken-stands : ask_of ripple ≡ Ready → Stands j lefts rights made (suc count) (left_for (ask_of ripple) ripple)
  taken-stands ready =
      let tells = subst (Tells j lefts rights made count) ready (stands-tells j lefts rights made count ripple s) in
      let inside = tells.1 in
      let one_more : count + 1 ≡ suc count = omega arith in
      record {
        input = s.input;
        state =
            ap (λ ask. left_for ask ripple) ready
            ∙ ap (left_for Ready) s.state
            ∙ kept-same j
            (drawn_of (take i (side_keys j j.left lefts))) (drawn_of (take i (side_keys j j.left lefts))) (ltb (length (side_keys j j.left lefts)) i) (ltb (length (side_keys j j.left lefts)) i)
            (drawn_of (take k (side_keys j j.right rights))) (drawn_of (take k (side_keys j j.right rights))) (ltb (length (side_keys j j.right rights)) k) (ltb (length (side_keys j j.right rights)) k)
            (first_key (map (pair_of j) (drop count (part i k)))) (bar_after (answer_key j) whole count)
            (drop 1 (map (pair_of j) (drop count (part i k)))) (map (pair_of j) (drop (suc count) (part i k)))
            refl refl refl refl
            (key-of (drop count (part i k)) ∙ ap (option_map (answer_key j)) (sym (slice_get-drop count (part i k)) ∙ slice_get-shared count (part i k) whole (ready-settled ready)) ∙ sym (bar_after-slice_get (answer_key j) whole count))
            (drop-map (pair_of j) 1 (drop count (part i k)) ∙ ap (map (pair_of j)) (drop-drop 1 count (part i k) ∙ ap (λ n. drop n (part i k)) one_more));
        least = subst (λ m. BeginsWith m (schedule_of j lefts rights (suc count))) (sym tells.0) (BeginsWith-itself (schedule_of j lefts rights (suc count)));
        most = subst (λ m. BeginsWith (schedule_of j lefts rights (suc (suc count))) m) (sym tells.0) (schedule_of-more j lefts rights s.input (suc count));
        within = inside;
      }
    where
      key-of : (rows : List RankRow) → first_key (map (pair_of j) rows) ≡ option_map (answer_key j) (slice_get rows 0)
      key-of [] = refl
      key-of (row ∷ rows) = refl

-- how often a schedule asks each side
pub left-exact : (j : Join) (lefts rights : List RankRow) (n : ℕ) → AreSidesOf j lefts rights → asked Left (schedule_of j lefts rights (suc n)) ≡ left_asks key_cmp (merged_key j) (side_keys j j.left lefts) (side_keys j j.right rights) (bar_after (answer_key j) (answers j lefts rights) n)
left-exact j lefts rights n input =
    asked-numbers Left (schedule_of j lefts rights (suc n)) 1 (left_asks key_cmp (merged_key j) (side_keys j j.left lefts) (side_keys j j.right rights) (bar_after (answer_key j) (answers j lefts rights) n))
    (left_numbers key_cmp key_cmp-total (merged_key j) (side_keys j j.left lefts) (side_keys j j.right rights) (bar_after (answer_key j) (answers j lefts rights) n) (left-climbs j lefts rights input))

pub right-exact : (j : Join) (lefts rights : List RankRow) (n : ℕ) → AreSidesOf j lefts rights → asked Right (schedule_of j lefts rights (suc n)) ≡ right_asks key_cmp (merged_key j) (side_keys j j.left lefts) (side_keys j j.right rights) (bar_after (answer_key j) (answers j lefts rights) n)
right-exact j lefts rights n input =
    asked-numbers Right (schedule_of j lefts rights (suc n)) 1 (right_asks key_cmp (merged_key j) (side_keys j j.left lefts) (side_keys j j.right rights) (bar_after (answer_key j) (answers j lefts rights) n))
    (right_numbers key_cmp key_cmp-total (merged_key j) (side_keys j j.left lefts) (side_keys j j.right rights) (bar_after (answer_key j) (answers j lefts rights) n) (right-climbs j lefts rights input))

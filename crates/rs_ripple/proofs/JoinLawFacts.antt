-- A join that keeps its rows stands where its core does: what it holds are the pairs behind the one taken last.
use Rattle.std.proofs.Common.{◌≡◌, ℕ, zero, suc, ◌≤◌, Bool, true, false, cond, ltb, List, [], ◌∷◌, ◌++◌, length, map, take, drop, Option, Some, None, refl, sym, ◌∙◌, ap, ap₂, subst, inl, inr, arith}
use Rattle.std.specs.List.{AllByRecursion, filter, slice_get}
use Rattle.std.specs.Option.{option_map}
use Rattle.std.specs.Ordering.{is_lt}
use Rattle.std.specs.declared.cmp.Ordering.{Ordering}
use Rattle.std.specs.declared.cmp.Ordering.TheVariants.{Less}
use Rattle.rs_order.specs.Climbing.{Climbs, In, Precedes}
use Rattle.rs_order.specs.Schedule.{Left, Right, SideAsk, asked}
use Rattle.rs_order.proofs.ClimbingFacts.{AllByRecursion-In, cmp-not_itself, cmp-not_both}
use Rattle.rs_order.proofs.PartFacts.{In-slice_get, bar_after-slice_get, is_lt-Less, slice_get-shared, take-snoc}
use Rattle.rs_rank.specs.declared.ask.JoinAsk.TheVariants.{NeedLeft, NeedRight, Ready}
use Rattle.rs_rank.specs.declared.key.Key.{Key}
use Rattle.rs_rank.specs.declared.row.RankRow.{RankRow}
use Rattle.rs_rank.specs.Ids.{AreOtherIds}
use Rattle.rs_rank.specs.Keys.{key_cmp}
use Rattle.rs_rank.specs.Rows.{HasSum, HaveOtherIds, merge_row}
use Rattle.rs_rank.proofs.OrderFacts.{key_cmp-total}
use Rattle.rs_ripple.specs.declared.side.Drawn.{Drawn}
use Rattle.rs_ripple.specs.After.{joined_after}
use Rattle.rs_ripple.specs.Joined.{CanFeedLeft, CanFeedRight, Fits, JoinStands, Joined, end_left, end_right, fed_left, fed_right, is_behind, left_key, rest_for, right_key}
use Rattle.rs_ripple.specs.Ripple.{CanDrawLeft, CanDrawRight, CanEnd, Ripple, ask_of, taken_for}
use Rattle.rs_ripple.specs.Stands.{AreSidesOf, IsRowOf, Join, answer_key, answers, drawn_of, side_keys, state_after, taken_after}
use Rattle.rs_ripple.proofs.LawFacts.{IsNext, asked-stands, ends, goes, left-can, left-ended-stands, next-left, next-right, right-can, right-ended-stands, settled, settled-now, slice_get_none, taken-is, taken-stands}
use Rattle.rs_ripple.proofs.PairFacts.{Grid-take, ordered-climbs}
use Rattle.rs_ripple.proofs.SideFacts.{sides-grid}
use Rattle.rs_ripple.proofs.StepFacts.{kept, pair_of}

-- all pass a test that each passes
filter-all : {X : Type 0} (test : X → Bool) (xs : List X) → ((x : X) → In x xs → test x ≡ true) → filter test xs ≡ xs
filter-all test [] all = refl
filter-all test (x ∷ xs) all = ap (λ b. cond b (x ∷ filter test xs) (filter test xs)) (all x (inl refl)) ∙ ap (λ rest. x ∷ rest) (filter-all test xs (λ y h. all y (inr h)))

not_less : (r : Ordering) → (r ≡ Less → ⊥) → is_lt r ≡ false
not_less r not = (elim (is_lt r) as (λ b. is_lt r ≡ b → b ≡ false) [ true ↦ λ e. absurd (not (is_lt-Less r e)) | false ↦ λ e. refl ]) refl

-- behind the row at a place are those at later ones
filter-behind : (key : RankRow → Key) (n : ℕ) (rows : List RankRow) (z : RankRow) → Climbs key_cmp key rows → slice_get rows n ≡ Some z → filter (λ w. is_lt (key_cmp (key z) (key w))) rows ≡ drop (suc n) rows
filter-behind key n [] z climbs e = cc
filter-behind key zero (x ∷ xs) z climbs e =
    let same : x ≡ z = cc in
    subst (λ y. filter (λ w. is_lt (key_cmp (key y) (key w))) (x ∷ xs) ≡ xs) same
    (ap (λ b. cond b (x ∷ filter (λ w. is_lt (key_cmp (key x) (key w))) xs) (filter (λ w. is_lt (key_cmp (key x) (key w))) xs))
    (not_less (key_cmp (key x) (key x)) (cmp-not_itself key_cmp key_cmp-total (key x)))
    ∙ filter-all (λ w. is_lt (key_cmp (key x) (key w))) xs (λ w h. ap is_lt (AllByRecursion-In (Precedes key_cmp key x) xs climbs.0 w h)))
filter-behind key (suc n) (x ∷ xs) z climbs e =
    let before = AllByRecursion-In (Precedes key_cmp key x) xs climbs.0 z (In-slice_get n xs z e) in
    ap (λ b. cond b (x ∷ filter (λ w. is_lt (key_cmp (key z) (key w))) xs) (filter (λ w. is_lt (key_cmp (key z) (key w))) xs))
    (not_less (key_cmp (key z) (key x)) (λ f. cmp-not_both key_cmp key_cmp-total (key x) (key z) before f))
    ∙ filter-behind key n xs z climbs.1 e

-- behind the last of the first answers are the others
behind-drop : (j : Join) (lefts rights : List RankRow) (count : ℕ) (part : List RankRow) → Climbs key_cmp (answer_key j) part → take count part ≡ take count (answers j lefts rights) → count ≤ length (answers j lefts rights) →
    filter (λ z. is_behind (taken_after j lefts rights count) (answer_key j z)) part ≡ drop count part
behind-drop j lefts rights zero part climbs shared within = filter-all (λ z. true) part (λ x h. refl)
behind-drop j lefts rights (suc n) part climbs shared within = go (slice_get part n) refl
  where
    go : (o : Option RankRow) → slice_get part n ≡ o → filter (λ z. is_behind (taken_after j lefts rights (suc n)) (answer_key j z)) part ≡ drop (suc n) part
    go None e =
        let past : length (answers j lefts rights) ≤ n = slice_get_none (answers j lefts rights) n (sym (slice_get-shared n part (answers j lefts rights) shared) ∙ e) in
        absurd (omega arith)
    go (Some z) e =
        let last : taken_after j lefts rights (suc n) ≡ Some (answer_key j z) =
        bar_after-slice_get (answer_key j) (answers j lefts rights) n ∙ ap (option_map (answer_key j)) (sym (slice_get-shared n part (answers j lefts rights) shared) ∙ e) in
        ap (λ taken. filter (λ w. is_behind taken (answer_key j w)) part) last ∙ filter-behind (answer_key j) n part z climbs e

-- a row has other ids than those in front of it
HaveOtherIds-front : (n : ℕ) (rows : List RankRow) (row : RankRow) → HaveOtherIds rows → slice_get rows n ≡ Some row → AllByRecursion (λ other. AreOtherIds other.ids row.ids) (take n rows)
HaveOtherIds-front zero rows row others e = tt
HaveOtherIds-front (suc n) [] row others e = cc
HaveOtherIds-front (suc n) (first ∷ rows) row others e =
    (AllByRecursion-In (λ other. AreOtherIds first.ids other.ids) rows others.0 row (In-slice_get n rows row e), HaveOtherIds-front n rows row others.1 e)

part-climbs : (j : Join) (lefts rights : List RankRow) → AreSidesOf j lefts rights → (i k : ℕ) → Climbs key_cmp (answer_key j) (answers j (take i lefts) (take k rights))
part-climbs j lefts rights input i k =
    ordered-climbs key_cmp j.matches merge_row (answer_key j) (take i lefts) (take k rights) (Grid-take key_cmp merge_row (answer_key j) i k lefts rights (sides-grid j lefts rights input))

module _ (j : Join) (lefts rights : List RankRow) (made : List SideAsk) (count : ℕ) (joined : Joined) (s : JoinStands j lefts rights made count joined) where
  abbrev i : ℕ
  i = asked Left made

  abbrev k : ℕ
  k = asked Right made

  -- what the join keeps is a function of the lists
  pub is-now : joined ≡ joined_after j lefts rights (asked Left made) (asked Right made) count
  is-now =
      ap (λ (r : Ripple). record { ripple = r; lefts = joined.lefts; rights = joined.rights }) s.core.state
      ∙ ap₂ (λ (ls : List RankRow) (rs : List RankRow). record { ripple = state_after j lefts rights i k count; lefts = ls; rights = rs }) s.left_rows s.right_rows

  pub stands-fits : Fits j.matches joined
  stands-fits =
      subst (Fits j.matches) (sym is-now)
      (ap (map (pair_of j)) (sym (behind-drop j lefts rights count (answers j (take i lefts) (take k rights)) (part-climbs j lefts rights s.core.input i k) (settled-now j lefts rights made count joined.ripple s.core) s.core.within)))

  -- one ask more of either side: the core stands, and the rows are those that were drawn
  told-stands : {left right : Option Drawn} {left_over right_over : Bool} (ask : SideAsk) (m n : ℕ) → IsNext j lefts rights made count ask m n → (fed : Joined) (ls rs : List RankRow) → ls ≡ take m lefts → rs ≡ take n rights →
      left ≡ drawn_of (take m (side_keys j j.left lefts)) → left_over ≡ ltb (length (side_keys j j.left lefts)) m → right ≡ drawn_of (take n (side_keys j j.right rights)) → right_over ≡ ltb (length (side_keys j j.right rights)) n →
      fed ≡ record {
        ripple = kept j left left_over right right_over (taken_after j lefts rights count) (map (pair_of j) (filter (λ z. is_behind (taken_after j lefts rights count) (answer_key j z)) (answers j ls rs)));
        lefts = ls;
        rights = rs;
      } → JoinStands j lefts rights (made ++ ask ∷ []) count fed
  told-stands ask m n next fed ls rs e f l lo r ro is = record {
    core = asked-stands j lefts rights made count joined.ripple s.core ask m n next fed.ripple l lo r ro
        (ap (map (pair_of j))
        (ap₂ (λ xs ys. filter (λ z. is_behind (taken_after j lefts rights count) (answer_key j z)) (answers j xs ys)) e f
        ∙ behind-drop j lefts rights count (answers j (take m lefts) (take n rights)) (part-climbs j lefts rights s.core.input m n) (settled j lefts rights made count joined.ripple s.core ask m n next) s.core.within))
        (ap (λ (x : Joined). x.ripple) is);
    left_rows = ap (λ (x : Joined). x.lefts) is ∙ e ∙ ap (λ x. take x lefts) (sym next.left);
    right_rows = ap (λ (x : Joined). x.rights) is ∙ f ∙ ap (λ x. take x rights) (sym next.right);
  }

  -- a left row
  pub left-can-feed : ask_of joined.ripple ≡ NeedLeft → (row : RankRow) → slice_get lefts i ≡ Some row → CanFeedLeft row joined
  left-can-feed need row next =
      let here = AllByRecursion-In (IsRowOf j j.left) lefts s.core.input.left_rows.each row (In-slice_get i lefts row next) in
      record {
        draw = subst (λ (key : Key). CanDrawLeft key joined.ripple) (sym (ap (λ (r : Ripple). left_key r row) s.core.state)) (left-can j lefts rights made count joined.ripple s.core need row next);
        sum = subst (λ (r : Ripple). HasSum r.weights r.left.side.terms row) (sym s.core.state) here.sum;
        others = subst (AllByRecursion (λ other. AreOtherIds other.ids row.ids)) (sym s.left_rows) (HaveOtherIds-front i lefts row s.core.input.left_rows.others next);
      }

  pub left-fed-stands : ask_of joined.ripple ≡ NeedLeft → (row : RankRow) → slice_get lefts i ≡ Some row → JoinStands j lefts rights (made ++ record { side = Left; number = suc i } ∷ []) count (fed_left j.matches row joined)
  left-fed-stands need row next =
      let more = goes j j.left lefts i row next in
      told-stands (record { side = Left; number = suc i }) (suc i) k (next-left j lefts rights made count joined.ripple s.core need) (fed_left j.matches row joined)
      (take i lefts ++ row ∷ []) (take k rights) (sym (take-snoc i lefts row next)) refl more.drawn more.over refl refl (ap (fed_left j.matches row) is-now)

  -- a right row
  pub right-can-feed : ask_of joined.ripple ≡ NeedRight → (row : RankRow) → slice_get rights k ≡ Some row → CanFeedRight row joined
  right-can-feed need row next =
      let here = AllByRecursion-In (IsRowOf j j.right) rights s.core.input.right_rows.each row (In-slice_get k rights row next) in
      record {
        draw = subst (λ (key : Key). CanDrawRight key joined.ripple) (sym (ap (λ (r : Ripple). right_key r row) s.core.state)) (right-can j lefts rights made count joined.ripple s.core need row next);
        sum = subst (λ (r : Ripple). HasSum r.weights r.right.side.terms row) (sym s.core.state) here.sum;
        others = subst (AllByRecursion (λ other. AreOtherIds other.ids row.ids)) (sym s.right_rows) (HaveOtherIds-front k rights row s.core.input.right_rows.others next);
      }

  pub right-fed-stands : ask_of joined.ripple ≡ NeedRight → (row : RankRow) → slice_get rights k ≡ Some row → JoinStands j lefts rights (made ++ record { side = Right; number = suc k } ∷ []) count (fed_right j.matches row joined)
  right-fed-stands need row next =
      let more = goes j j.right rights k row next in
      told-stands (record { side = Right; number = suc k }) i (suc k) (next-right j lefts rights made count joined.ripple s.core need) (fed_right j.matches row joined)
      (take i lefts) (take k rights ++ row ∷ []) refl (sym (take-snoc k rights row next)) refl refl more.drawn more.over (ap (fed_right j.matches row) is-now)

  -- the end of a side
  pub left-end-stands : ask_of joined.ripple ≡ NeedLeft → slice_get lefts i ≡ None → CanEnd NeedLeft joined.ripple × JoinStands j lefts rights (made ++ record { side = Left; number = suc i } ∷ []) count (end_left joined)
  left-end-stands need over =
      let next = next-left j lefts rights made count joined.ripple s.core need in (
        record { alive = ap (λ (r : Ripple). r.spent) s.core.state; need = need },
        record {
          core = left-ended-stands j lefts rights made count joined.ripple s.core need over;
          left_rows = s.left_rows ∙ (ends j j.left lefts i over).same ∙ ap (λ n. take n lefts) (sym next.left);
          right_rows = s.right_rows ∙ ap (λ n. take n rights) (sym next.right);
        },
      )

  pub right-end-stands : ask_of joined.ripple ≡ NeedRight → slice_get rights k ≡ None → CanEnd NeedRight joined.ripple × JoinStands j lefts rights (made ++ record { side = Right; number = suc k } ∷ []) count (end_right joined)
  right-end-stands need over =
      let next = next-right j lefts rights made count joined.ripple s.core need in (
        record { alive = ap (λ (r : Ripple). r.spent) s.core.state; need = need },
        record {
          core = right-ended-stands j lefts rights made count joined.ripple s.core need over;
          left_rows = s.left_rows ∙ ap (λ n. take n lefts) (sym next.left);
          right_rows = s.right_rows ∙ (ends j j.right rights k over).same ∙ ap (λ n. take n rights) (sym next.right);
        },
      )

  -- a pair is taken
  pub taken-join-stands : ask_of joined.ripple ≡ Ready → (taken_for (ask_of joined.ripple) joined.ripple ≡ slice_get (answers j lefts rights) count) × JoinStands j lefts rights made (suc count) (rest_for (ask_of joined.ripple) joined)
  taken-join-stands ready = (
    taken-is j lefts rights made count joined.ripple s.core ready,
    record { core = taken-stands j lefts rights made count joined.ripple s.core ready; left_rows = s.left_rows; right_rows = s.right_rows },
  )
